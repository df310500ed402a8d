-- Lists of sets of ranks, read after a write or a push.
use Rattle.std.proofs.Common.{◌≡◌, ◌≢◌, ℕ, ◌<◌, ◌≤◌, false, replicate, ⊎_elim, List, [], ◌∷◌, ◌++◌, length, get_or, set, ap, ◌∙◌}
use Rattle.std.proofs.lemmas.List.{get_or-set_same, get_or-set_other, get_or_append_left, get_or_push, get_or_read, get_or_past, get_or-replicate, length-replicate}
use Rattle.std.proofs.lemmas.Bool.{cases_lt}
use Rattle.local_mesh.specs.RankSet.{has, has_at, no_ranks}
use Rattle.local_mesh.specs.declared.rank_sets.rank_set.RankSet.{RankSet}
use Rattle.lemmas.proofs.Numbers.{zero_bit}

pub has_at_read : (xs : List RankSet) (i : ℕ) (s : RankSet) → i < length xs → s ≡ get_or xs i s → (r : ℕ) → has s r ≡ has_at xs i r
unfolding has_at
has_at_read xs i s l e r = ap (λ z. has z r) (get_or_read xs i s l e no_ranks)

pub has_at_set_same : (xs : List RankSet) (i : ℕ) (s : RankSet) → i < length xs → (r : ℕ) → has_at (set xs i s) i r ≡ has s r
unfolding has_at
has_at_set_same xs i s l r = ap (λ z. has z r) (get_or-set_same xs i s no_ranks l)

pub has_at_set_other : (xs : List RankSet) (i j : ℕ) (s : RankSet) → j ≢ i → (r : ℕ) → has_at (set xs i s) j r ≡ has_at xs j r
unfolding has_at
has_at_set_other xs i j s n r = ap (λ z. has z r) (get_or-set_other xs i j s no_ranks n)

pub has_at_push_left : (xs : List RankSet) (s : RankSet) (j : ℕ) → j < length xs → (r : ℕ) → has_at (xs ++ s ∷ []) j r ≡ has_at xs j r
unfolding has_at
has_at_push_left xs s j l r = ap (λ z. has z r) (get_or_append_left xs (s ∷ []) no_ranks j l)

pub has_at_push : (xs : List RankSet) (s : RankSet) (j : ℕ) → length xs ≡ j → (r : ℕ) → has_at (xs ++ s ∷ []) j r ≡ has s r
unfolding has_at
has_at_push xs s j e r = ap (λ z. has z r) (get_or_push xs s no_ranks j e)

pub has-no_ranks : (r : ℕ) → has no_ranks r ≡ false
unfolding has
has-no_ranks r = zero_bit r

pub has_at_past : (xs : List RankSet) (i r : ℕ) → length xs ≤ i → has_at xs i r ≡ false
unfolding has_at
has_at_past xs i r l = ap (λ z. has z r) (get_or_past xs i no_ranks l) ∙ has-no_ranks r

-- of n equal sets without ranks, none has a rank
pub has_at_replicate : (n : ℕ) (s : RankSet) → ((r : ℕ) → has s r ≡ false) → (i r : ℕ) → has_at (replicate n s) i r ≡ false
unfolding has_at
has_at_replicate n s h i r = ⊎_elim
    (λ (l : i < n). ap (λ z. has z r) (get_or-replicate n i s no_ranks l) ∙ h r)
    (λ (l : n ≤ i). ap (λ z. has z r) (get_or_past (replicate n s) i no_ranks (rw (length-replicate n s) l)) ∙ has-no_ranks r)
    (cases_lt i n)
