-- One task more that has its targets.
use Rattle.std.proofs.Common.{◌≡◌, ℕ, ◌+◌, ◌<◌, ◌≤◌, List, [], ◌∷◌, ◌++◌, length, take, refl, sym, subst, arith, Bool, true, false, nat_lt}
use Rattle.std.proofs.lemmas.Bool.Decides.{nat_tests}
use Rattle.std.proofs.lemmas.List.{get_or_append_left, get_or_push}
use Rattle.bound_program.specs.declared.sites.Arg.{Arg}
use Rattle.bound_program.specs.Values.{BoundValue}
use Rattle.rank_program.specs.declared.tasks.Task.{Task}
use Rattle.rank_program.specs.declared.tasks.Targets.{Targets}
use Rattle.rank_program.specs.Jobs.{task_at, no_targets, places_in}
use Rattle.rank_program.specs.Targets.{AreTargets}

-- one task more has its targets
pub one_more : (b : BoundValue) (args : List Arg) (tasks : List Task) (targets : List Targets) (t : Targets) (n : ℕ) → length targets ≡ n
    → ((j : ℕ) → j < n → AreTargets b args (task_at tasks j) (places_in targets j))
    → AreTargets b args (task_at tasks n) t.places.items
    → (j : ℕ) → j < n + 1 → AreTargets b args (task_at tasks j) (places_in (targets ++ (t ∷ [])) j)
one_more b args tasks targets t n len each one j lt = go (nat_lt j n) refl
  where
    go : (test : Bool) → nat_lt j n ≡ test → AreTargets b args (task_at tasks j) (places_in (targets ++ (t ∷ [])) j)
    go true h =
        let below : j < n = grind (arith, nat_tests) in
        subst (λ (x : Targets). AreTargets b args (task_at tasks j) x.places.items) (sym (get_or_append_left targets (t ∷ []) no_targets j (omega (arith, len)))) (each j below)
    go false h =
        let above : n ≤ j = grind (arith, nat_tests) in
        let same : n ≡ j = omega arith in
        subst (λ i. AreTargets b args (task_at tasks i) (places_in (targets ++ (t ∷ [])) i)) same
        (subst (λ (x : Targets). AreTargets b args (task_at tasks n) x.places.items) (sym (get_or_push targets t no_targets n len)) one)
