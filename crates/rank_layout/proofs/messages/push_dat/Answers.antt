use Rattle.std.proofs.Common.{◌≤◌, ◌+◌, ◌*◌, All, sym, ap, subst}
use Rattle.std.specs.Prelude.{slice_index}
use Rattle.rank_layout.proofs.messages.push_dat.Goals as goal

pub push_elements-requires-clause-within : goal.push_elements-requires-clause-within
push_elements-requires-clause-within c =
    subst (λ n. All (λ k. slice_index c.args.part.now.bases.items c.args.dat + k * n + n ≤ c.args.part.now.cells) c.args.locals.now)
    (sym (ap (λ p. p.1) c.dat_shape-dim.ensures)) c.requires.within
