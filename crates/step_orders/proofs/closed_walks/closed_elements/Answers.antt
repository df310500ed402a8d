use Rattle.std.proofs.Common.{◌≡◌, ◌<◌, ◌++◌, ℕ, List, refl, subst, arith}
use Rattle.schedule_steps.specs.Outline.{Outline}
use Rattle.schedule_steps.specs.declared.step.Step.{Step}
use Rattle.step_orders.specs.ElementRuns.{runs_of}
use Rattle.step_orders.specs.Left.{begins, ends, runs_left, run_steps}
use Rattle.step_orders.proofs.AloneRuns.{on_more}
use Rattle.step_orders.proofs.closed_walks.closed_elements.Goals as goal

pub returns-clause-some : goal.returns-clause-some
returns-clause-some g c =
    let o : Outline = g.S.Shape.outline c.args.shape.now in
    let n : ℕ = g.S.Shape.group c.args.shape.now in
    let k : ℕ = c.args.item in
    let i : ℕ = c.args.here.now.rank in
    let some : List Step = begins k i c.closed_in_runs.new.places.items ++ ends k i c.closed_in_runs.new.places.items in
    let lt : i < o.ranks = omega (arith, c.if-rank-ranks.false, c.ranks.ensures) in
    on_more (runs_left k i (runs_of o n k i) c.args.here.now.runs) (runs_left k i (runs_of o n k i) c.closed_in_runs.new.here) some (run_steps o n k) i o.ranks lt
    (subst (λ z. runs_left k i z c.args.here.now.runs ≡ some ++ runs_left k i z c.closed_in_runs.new.here) c.runs.ensures (c.if-not-closed_in_runs.ensures.some refl k i))
