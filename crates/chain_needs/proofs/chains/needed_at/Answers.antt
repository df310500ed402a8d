use Rattle.std.proofs.Common.{ℕ, List, map, ap, ◌∙◌}
use Rattle.bound_program.specs.Values.{bound_of}
use Rattle.bound_program.specs.Fits.{site_at}
use Rattle.chain_model.specs.Slices.{needs_before, needs}
use Rattle.chain_needs.proofs.chains.needed_at.Goals as goal

pub returns-clause-has : goal.returns-clause-has
unfolding needs
returns-clause-has c = λ d y r l m.
    let b = bound_of c.args.bound.now in
    let o = c.args.owners.now in
    c.in_ok-needs.ensures.has d y r l m
    ∙ (ap (λ (z : List ℕ). needs_before b o r (map (site_at b) z) d y) c.deref.ensures.value
    ∙ ap (λ z. needs_before b o r z d y) c.in_ok-sites.ensures.loops)
