-- Sets of ranks that are pushed one behind another.
use Rattle.std.proofs.Common.{◌≡◌, ◌<◌, ◌+◌, ◌++◌, ◌∷◌, [], ◌∙◌, ℕ, Bool, List, length, arith, ⊎_elim}
use Rattle.std.proofs.lemmas.Bool.{cases_eq}
use Rattle.local_mesh.specs.RankSet.{has, has_at}
use Rattle.local_mesh.specs.declared.rank_sets.rank_set.RankSet.{RankSet}
use Rattle.local_mesh.proofs.Public.{has_at_push_left, has_at_push}

-- one more set pushed, for ranks below 64
pub has_more_below : (xs : List RankSet) (s : RankSet) (n : ℕ) (p : ℕ → ℕ → Bool) → length xs ≡ n
    → ((x r : ℕ) → x < n → r < 64 → has_at xs x r ≡ p x r) → ((r : ℕ) → r < 64 → has s r ≡ p n r) → (x r : ℕ) → x < n + 1 → r < 64
    → has_at (xs ++ s ∷ []) x r ≡ p x r
has_more_below xs s n p e h k x r l lr = ⊎_elim
    (λ (q : x ≡ n). rw q (has_at_push xs s n e r ∙ k r lr))
    (λ (m : x ≡ n → ⊥). let lx : x < n = omega arith in has_at_push_left xs s x (rw e lx) r ∙ h x r lx lr)
    (cases_eq x n)
