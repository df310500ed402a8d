-- The lists of what ranks need of others, and the sets of receivers.
use Rattle.std.proofs.Common.{◌≡◌, ℕ, ◌<◌, ◌≤◌, ◌+◌, Bool, List, [], ◌∷◌, ◌++◌, length, Vec, sym, ap, ◌∙◌, arith, ⊎_elim}
use Rattle.std.specs.Prelude.{◌&&◌, ◌||◌}
use Rattle.std.specs.declared.alloc.Global.{Global}
use Rattle.std.proofs.lemmas.Bool.{cases_eq}
use Rattle.lemmas.specs.Below.{any_below, listed, row, rows}
use Rattle.local_mesh.specs.RankSet.{has_at}
use Rattle.local_mesh.specs.declared.rank_sets.rank_set.RankSet.{RankSet}
use Rattle.lemmas.proofs.Below.{any_agree, listed_agree}
use Rattle.lemmas.proofs.Rows.{rows_push, rows_push_left}
use Rattle.local_mesh.proofs.Public.{any_step}

pub listed_others : (others : List RankSet) (size ranks r : ℕ) (p : ℕ → ℕ → Bool) → length others ≡ size → ((y r : ℕ) → y < size → r < 64 → has_at others y r ≡ p y r) → ranks ≤ 64 → r < ranks
    → listed (length others) (λ x. has_at others x r) ≡ listed size (λ y. p y r)
listed_others others size ranks r p long has few l =
    ap (λ n. listed n (λ x. has_at others x r)) long ∙ listed_agree size (λ x. has_at others x r) (λ y. p y r) (λ y ly. has y r ly (omega arith))

pub lists_more : (xs : List (Vec (Vec ℕ Global) Global)) (v : Vec (Vec ℕ Global) Global) (n ranks : ℕ) (f : ℕ → ℕ → List ℕ) → length xs ≡ n
    → ((r : ℕ) → r < ranks → row v.items r ≡ f n r) → ((a r : ℕ) → a < n → r < ranks → row (rows xs a) r ≡ f a r) → (a r : ℕ) → a < n + 1 → r < ranks → row (rows (xs ++ v ∷ []) a) r ≡ f a r
lists_more xs v n ranks f e q h a r l lr = ⊎_elim
    (λ (s : a ≡ n). rw s (ap (λ z. row z r) (rows_push xs v n e) ∙ q r lr))
    (λ (t : a ≡ n → ⊥). let la : a < n = omega arith in ap (λ z. row z r) (rows_push_left xs v a (rw e la)) ∙ h a r la lr)
    (cases_eq a n)

pub received_more : (now new : Bool) (n size : ℕ) (others : List RankSet) (r : ℕ) (p : ℕ → ℕ → Bool) (own : ℕ → ℕ → Bool) → length others ≡ size → ((y : ℕ) → y < size → has_at others y r ≡ p n y)
    → (sizes : ℕ → ℕ) → sizes n ≡ size → now ≡ any_below n (λ d. any_below (sizes d) (λ y. p d y && own d y))
    → new ≡ (now || any_below (length others) (λ y. has_at others y r && own n y)) → new ≡ any_below (n + 1) (λ d. any_below (sizes d) (λ y. p d y && own d y))
received_more now new n size others r p own long has sizes same h e =
    any_step Rattle.std.proofs.Common.false now new n (λ d. any_below (sizes d) (λ y. p d y && own d y)) h
    (e ∙ ap (λ z. now || z) (ap (λ m. any_below m (λ y. has_at others y r && own n y)) (long ∙ sym same)
    ∙ any_agree (sizes n) (λ y. has_at others y r && own n y) (λ y. p n y && own n y) (λ y l. ap (λ z. z && own n y) (has y (Rattle.std.proofs.Common.subst (λ m. y < m) same l)))))

pub none_more : (xs : List RankSet) (v : RankSet) → ((r : ℕ) → Rattle.local_mesh.specs.RankSet.has v r ≡ Rattle.std.proofs.Common.false) → ((s r : ℕ) → has_at xs s r ≡ Rattle.std.proofs.Common.false)
    → (s r : ℕ) → has_at (xs ++ v ∷ []) s r ≡ Rattle.std.proofs.Common.false
none_more xs v empty h s r = ⊎_elim
    (λ (l : s < length xs). Rattle.local_mesh.proofs.Public.has_at_push_left xs v s l r ∙ h s r)
    (λ (l : length xs ≤ s). ⊎_elim
    (λ (q : length xs ≡ s). Rattle.local_mesh.proofs.Public.has_at_push xs v s q r ∙ empty r)
    (λ (q : length xs ≡ s → ⊥). Rattle.local_mesh.proofs.Public.has_at_past (xs ++ v ∷ []) s r (omega (arith, Rattle.std.proofs.lemmas.List.length_push xs v)))
    (cases_eq (length xs) s))
    (Rattle.std.proofs.lemmas.Bool.cases_lt s (length xs))
