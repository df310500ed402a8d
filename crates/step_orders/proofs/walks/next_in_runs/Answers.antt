use Rattle.std.proofs.Common.{◌≡◌, ◌≤◌, ◌∙◌, ap, sym, arith, length, get_or, [], ◌∷◌, ◌+◌, ◌<◌, cond, List, ℕ, subst}
use Rattle.schedule_steps.specs.declared.step.Step.TheVariants.{Begin, End}
use Rattle.step_orders.specs.Left.{runs_left}
use Rattle.step_orders.proofs.Places.{no_runs, run_head, turns_to_begins, turns_to_ends}
use Rattle.step_orders.proofs.walks.next_in_runs.Goals as goal
use Rattle.step_orders.proofs.walks.next_in_runs.Goals.{then-here, else-here}

pub loop-here-preserved : goal.loop-here-preserved
loop-here-preserved c =
    let over : length (get_or c.args.runs.now c.loop-here.here.run []) ≤ c.loop-here.here.at = omega (arith, ap (λ (z : List ℕ). length z) c.run-elements.ensures, c.if-here-elements.false) in
    record {
      left = c.loop-here.invariant.left ∙ elim c.if-here.branch [
        | then-here w ↦ turns_to_begins c.args.item c.args.rank c.args.runs.now c.loop-here.here c.if-here.here over w.if-here.true w.here-is
        | else-here w ↦ turns_to_ends c.args.item c.args.rank c.args.runs.now c.loop-here.here c.if-here.here over w.if-here.false w.here-is
      ];
    }

pub returns : goal.returns
returns c =
    let e : runs_left c.args.item c.args.rank c.args.runs.now c.loop-here.here ≡ [] =
    no_runs c.args.item c.args.rank c.args.runs.now c.loop-here.here (omega (arith, c.len.ensures, c.loop-here-test.false)) in
    (c.loop-here.invariant.left ∙ e, e)

pub returns-then-here-elements : goal.returns-then-here-elements
returns-then-here-elements c =
    let k : ℕ = c.args.item in
    let r : ℕ = c.args.rank in
    let i : ℕ = c.loop-here.here.run in
    let at : ℕ = c.loop-here.here.at in
    let same : c.run-elements.result.now ≡ get_or c.args.runs.now i [] = c.run-elements.ensures in
    let within : at < length (get_or c.args.runs.now i []) = subst (λ (z : List ℕ). at < length z) same c.if-here-elements.true in
    let step : c.begin_or_end.result ≡ cond c.loop-here.here.ending (End k r (get_or (get_or c.args.runs.now i []) at 0)) (Begin k r (get_or (get_or c.args.runs.now i []) at 0)) =
    subst (λ (z : List ℕ). c.begin_or_end.result ≡ cond c.loop-here.here.ending (End k r (get_or z at 0)) (Begin k r (get_or z at 0))) same c.begin_or_end.ensures in
    c.loop-here.invariant.left
    ∙ (run_head k r c.args.runs.now i at c.loop-here.here.ending within
    ∙ ap (λ z. z ∷ runs_left k r c.args.runs.now (record { run = i; at = at + 1; ending = c.loop-here.here.ending })) (sym step))
