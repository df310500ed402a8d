use Rattle.std.proofs.Common.{Some, Option, ℕ, sym, ap, subst, ◌∙◌}
use Rattle.chain_needs.specs.Slices.{IsPairOf}
use Rattle.deep_halo.specs.Programs.{HasBegun, held_since, program_of_run, owners_of_run}
use Rattle.deep_halo.proofs.dumps.is_held.Goals as goal

pub needs-requires : goal.needs-requires
needs-requires c =
    let b = program_of_run c.args.program.now in
    let o = owners_of_run c.args.program.now in
    let begun : HasBegun b o (Some c.in-Some.item) = subst (HasBegun b o) c.in-Some.is c.requires.begun in
    (b, o, c.requires.is.slices, record { item = begun.0; rank = c.requires.rank; dat = c.requires.dat; element = c.requires.element })

pub returns-in-Some : goal.returns-in-Some
returns-in-Some c =
    let b = program_of_run c.args.program.now in
    let o = owners_of_run c.args.program.now in
    let begun : HasBegun b o (Some c.in-Some.item) = subst (HasBegun b o) c.in-Some.is c.requires.begun in
    let pair : IsPairOf b o c.in-Some.item c.args.rank c.args.dat c.args.element = record { item = begun.0; rank = c.requires.rank; dat = c.requires.dat; element = c.requires.element } in
    c.needs.ensures b o c.requires.is.slices pair ∙ ap (λ (x : Option ℕ). held_since b o x c.args.rank c.args.dat c.args.element) (sym c.in-Some.is)
