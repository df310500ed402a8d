use Rattle.std.proofs.Common.{◌≡◌, ◌+◌, ◌++◌, ◌∷◌, ◌∙◌, ℕ, List, [], length, drop, get_or, sym, ap, subst, arith}
use Rattle.step_orders.specs.Alone.{alone}
use Rattle.step_orders.specs.Left.{in_runs}
use Rattle.step_orders.proofs.AloneRuns.{alone_push, one_more}
use Rattle.step_orders.proofs.alone_walks.put_alone.Goals as goal

pub loop-run-preserved : goal.loop-run-preserved
loop-run-preserved c =
    let runs : List (List ℕ) = c.args.runs.now in
    let i : ℕ = c.loop-run.run in
    let xs : List ℕ = c.loop-run.places.items in
    let one : length (get_or runs i []) ≡ 1 = omega (arith, ap (λ (z : List ℕ). length z) c.run-elements.ensures, c.if-elements-ne1.false) in
    let items : c.push_reserved.new.self.items ≡ xs ++ (get_or (get_or runs i []) 0 0 ∷ []) =
    subst (λ (z : List ℕ). c.push_reserved.new.self.items ≡ xs ++ (get_or z 0 0 ∷ [])) c.run-elements.ensures c.push_reserved.ensures.items in
    record {
      alone = λ k r.
          c.loop-run.invariant.alone k r
          ∙ (ap (λ z. alone k r xs ++ z) (one_more k r runs i one)
          ∙ (sym (alone_push k r xs (get_or (get_or runs i []) 0 0) (in_runs k r (drop (i + 1) runs)))
          ∙ ap (λ z. alone k r z ++ in_runs k r (drop (i + 1) runs)) (sym items)));
      room = c.push_reserved.ensures.capacity ∙ c.loop-run.invariant.room;
    }
