use Rattle.std.proofs.Common.{◌≡◌, ◌∙◌, ◌+◌, sym, ap, arith, ℕ, []}
use Rattle.schedule_steps.specs.Outline.{Outline}
use Rattle.step_orders.specs.ElementRuns.{runs_of}
use Rattle.step_orders.specs.Left.{onward, run_steps, runs_left}
use Rattle.step_orders.proofs.Places.{on_next, all_runs}
use Rattle.step_orders.proofs.walks.next_element.Goals as goal

pub loop-here-preserved : goal.loop-here-preserved
loop-here-preserved g c =
    let o : Outline = g.S.Shape.outline c.args.shape.now in
    let n : ℕ = g.S.Shape.group c.args.shape.now in
    let k : ℕ = c.args.item in
    let i : ℕ = c.loop-here.here.rank in
    let none : runs_left k i (runs_of o n k i) c.loop-here.here.runs ≡ [] =
    ap (λ z. runs_left k i z c.loop-here.here.runs) (sym c.runs.ensures) ∙ c.in_default.ensures.0 in
    record {
      left = c.loop-here.invariant.left
          ∙ (on_next (runs_left k i (runs_of o n k i) c.loop-here.here.runs) (run_steps o n k) i o.ranks (omega (arith, c.ranks.ensures, c.loop-here-test.true)) none
          ∙ ap (λ z. onward z (run_steps o n k) (i + 1) o.ranks)
          (sym (ap (runs_left k (i + 1) (runs_of o n k (i + 1))) c.first_run-here.ensures ∙ all_runs k (i + 1) (runs_of o n k (i + 1)))));
    }
