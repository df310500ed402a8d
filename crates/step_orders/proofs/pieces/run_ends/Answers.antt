use Rattle.std.proofs.Common.{◌≡◌, length, ℕ, List, Bool, sym, arith}
use Rattle.step_orders.specs.Pieces.{is_alike}
use Rattle.step_orders.proofs.Cutting.{cut_on, cut_next, cut_last, last_ends, cut_all}
use Rattle.step_orders.proofs.pieces.run_ends.Goals as goal
use Rattle.step_orders.proofs.pieces.run_ends.Goals.{then-not-goes_on+in_ok-push, else-not-goes_on, then-start-places+in_ok-push-2, else-start-places}

pub loop-at-preserved : goal.loop-at-preserved
loop-at-preserved c =
    let t : ℕ → ℕ → Bool = is_alike c.args.size c.args.colours.now in
    let xs : List ℕ = c.args.places.now in
    elim c.if-not-goes_on.branch [
      | then-not-goes_on+in_ok-push w ↦
          rw (w.ends-is, w.start-is, w.in_ok-push.ensures.items)
          (cut_next t c.args.group xs c.loop-at.ends.items c.loop-at.start c.loop-at.at c.loop-at.invariant c.loop-at-test.true (sym w.if-not-goes_on.ensures))
      | else-not-goes_on w ↦
          rw (w.ends-is, w.start-is)
          (cut_on t c.args.group xs c.loop-at.ends.items c.loop-at.start c.loop-at.at c.loop-at.invariant c.loop-at-test.true (sym w.if-not-goes_on.ensures))
    ]

pub returns-clause-ends : goal.returns-clause-ends
returns-clause-ends c =
    let t : ℕ → ℕ → Bool = is_alike c.args.size c.args.colours.now in
    let xs : List ℕ = c.args.places.now in
    let end : c.loop-at.at ≡ length xs = omega (arith, c.loop-at.auto.at-end, c.loop-at-test.false) in
    elim c.if-start-places.branch [
      | then-start-places+in_ok-push-2 w ↦
          rw (w.ends-is, w.in_ok-push-2.ensures.items)
          (last_ends t c.args.group xs c.loop-at.ends.items c.loop-at.start c.loop-at.at c.loop-at.invariant end)
      | else-start-places w ↦ rw w.ends-is c.loop-at.invariant.ends
    ]

pub returns-clause-pieces : goal.returns-clause-pieces
returns-clause-pieces c =
    let t : ℕ → ℕ → Bool = is_alike c.args.size c.args.colours.now in
    let xs : List ℕ = c.args.places.now in
    let end : c.loop-at.at ≡ length xs = omega (arith, c.loop-at.auto.at-end, c.loop-at-test.false) in
    elim c.if-start-places.branch [
      | then-start-places+in_ok-push-2 w ↦
          rw (w.ends-is, w.in_ok-push-2.ensures.items)
          (cut_last t c.args.group xs c.loop-at.ends.items c.loop-at.start c.loop-at.at c.loop-at.invariant end w.if-start-places.true)
      | else-start-places w ↦
          rw w.ends-is
          (cut_all t c.args.group xs c.loop-at.ends.items c.loop-at.start c.loop-at.at c.loop-at.invariant end w.if-start-places.false)
    ]
