use Rattle.std.proofs.Common.{◌≡◌, ◌+◌, ◌++◌, ◌∙◌, ℕ, suc, List, [], get_or, drop, add-one, sym, ap}
use Rattle.step_orders.specs.Left.{begins, ends, in_runs}
use Rattle.step_orders.proofs.Places.{in_runs_from}
use Rattle.step_orders.proofs.AloneRuns.{at_run}
use Rattle.step_orders.proofs.closed_walks.closed_in_runs.Goals as goal

pub returns-clause-some : goal.returns-clause-some
returns-clause-some c is k r =
    let runs : List (List ℕ) = c.args.runs.now in
    let i : ℕ = c.in-Some.next in
    let xs : List ℕ = c.put_all.new.places.items in
    let these : get_or runs i [] ≡ xs = sym (c.put_all.ensures.all ∙ c.run-elements.ensures) in
    c.in-Some.ensures k r
    ∙ (in_runs_from k r runs i
    ∙ (ap (λ z. (begins k r z ++ ends k r z) ++ in_runs k r (drop (suc i) runs)) these
    ∙ ap (λ z. (begins k r xs ++ ends k r xs) ++ z) (ap (λ j. in_runs k r (drop j runs)) (sym (add-one i)) ∙ sym (at_run k r runs (i + 1)))))
