use Rattle.std.proofs.Common.{rules, ◌≡◌, ℤ, List, take, length, refl, subst, ◌∙◌}
use Rattle.rank_state.specs.Stops.{stop_in}
use Rattle.rank_program.specs.AloneRuns.{Reaches}
use Rattle.rank_program.specs.Sound.{setup_in, layout_in, tables_in}
use Rattle.rank_program.proofs.BatchRuns.{still_lent}
use Rattle.rank_program.proofs.here.run_here.Goals as goal

given_back : (P : List ℤ → List ℤ → Type 0) (a b x y : List ℤ) → a ≡ x → b ≡ y → P a b → P x y
given_back P a b x y e f h = subst (λ z. P z y) e (subst (P a) f h)

pub run_alone-requires-clause-lent : goal.run_alone-requires-clause-lent
run_alone-requires-clause-lent g c =
    still_lent c.args.local.now _ c.run_batches-done.new.share c.run_batches-done.ensures.lent (record { memory = c.requires.memory; partials = c.requires.partials })

pub returns-clause-reaches : goal.returns-clause-reaches
returns-clause-reaches g c =
    let l = c.args.local.now in
    let p = l.program.now in
    let w = l.part.now.cells in
    let first = c.run_batches-done.ensures.lent in
    let second = c.run_alone.ensures.lent in
    let memory = second.memory ∙ first.memory in
    let partials = second.partials ∙ first.partials in
    let share = c.run_alone.new.share in
    given_back
    (λ ms ps. Reaches (setup_in p) (layout_in p) (tables_in p) l.item l.rank l.constants.now l.variables.now l.places.now
    (record { cells = take w c.args.memory.now; partials = c.args.partials.now; fault = stop_in c.args.fault }) (length l.places.now)
    (record { cells = take w ms; partials = ps; fault = stop_in share.fault }))
    share.memory.now share.partials.now _ _ (search rules) (search rules)
    (c.run_alone.ensures.runs _ (c.run_batches-done.ensures.runs _ refl))
