-- Sets of ranks that are collected one by one, and what they list.
use Rattle.std.proofs.Common.{◌≡◌, ℕ, zero, suc, ◌+◌, ◌<◌, ◌≤◌, Bool, true, false, not, ◌&&◌, cond, nat_eq, List, [], ◌∷◌, ◌++◌, append_assoc, length, map, Vec, refl, sym, ap, subst, ◌∙◌, arith, ⊎_elim, add-one}
use Rattle.std.specs.Prelude.{nat_lt}
use Rattle.std.specs.declared.alloc.Global.{Global}
use Rattle.std.proofs.lemmas.Bool.{cases_eq, cases_lt, eq-eqb, ne_eqb}
use Rattle.std.proofs.lemmas.List.{get_or_past, length-map, append-nil}
use Rattle.lemmas.specs.Below.{listed, row}
use Rattle.local_mesh.specs.RankSet.{has, has_at}
use Rattle.local_mesh.specs.declared.rank_sets.rank_set.RankSet.{RankSet}
use Rattle.lemmas.proofs.Below.{listed_agree}
use Rattle.local_mesh.proofs.Public.{has_at_push, has_at_push_left}
use Rattle.loop_plan.specs.Pairs.{pair, pairs_below}
use Rattle.loop_plan.specs.declared.types.Pair.{Pair}
use Rattle.std.proofs.Math.Bool.{and-false, and-true}

-- of the numbers below n the set has those that pass, and no others
pub record Collected (s : RankSet) (f : ℕ → Bool) (n : ℕ) : Type 0 where
  pub below : (r : ℕ) → r < n → has s r ≡ f r
  pub above : (r : ℕ) → n ≤ r → has s r ≡ false

-- past the end of a list of lists is nothing
pub row_past : (xs : List (Vec ℕ Global)) (i : ℕ) → length xs ≤ i → row xs i ≡ []
unfolding row
row_past xs i l =
    let e : length (map (λ (v : Vec ℕ Global). v.items) xs) ≡ length xs = length-map xs (λ (v : Vec ℕ Global). v.items) in
    get_or_past (map (λ (v : Vec ℕ Global). v.items) xs) i [] (omega arith)

-- all lists are gone through
pub all_collected : (xs : List (Vec ℕ Global)) (s : RankSet) (n : ℕ)
    → length xs ≡ n
    → Collected s (λ r. nat_lt 0 (length (row xs r))) n
    → (r : ℕ) → has s r ≡ nat_lt 0 (length (row xs r))
all_collected xs s n e c r = ⊎_elim
    (λ (l : r < n). c.below r l)
    (λ (l : n ≤ r). c.above r l ∙ sym (ap (λ (z : List ℕ). nat_lt 0 (length z)) (row_past xs r (omega arith))))
    (cases_lt r n)

-- one more set of ranks
pub sets_at_more : (xs : List RankSet) (s : RankSet) (n : ℕ) (f : ℕ → ℕ → Bool)
    → length xs ≡ n
    → ((r : ℕ) → has s r ≡ f n r)
    → ((i r : ℕ) → i < n → has_at xs i r ≡ f i r)
    → (i r : ℕ) → i < n + 1 → has_at (xs ++ s ∷ []) i r ≡ f i r
sets_at_more xs s n f e h before i r l = ⊎_elim
    (λ (q : i ≡ n). subst (λ z. has_at (xs ++ s ∷ []) z r ≡ f z r) (sym q) (has_at_push xs s n e r ∙ h r))
    (λ (ne : i ≡ n → ⊥). has_at_push_left xs s i (omega arith) r ∙ before i r (omega arith))
    (cases_eq i n)

-- ---- lists of numbers

none_listed : (n : ℕ) (p : ℕ → Bool) → ((k : ℕ) → k < n → p k ≡ false) → listed n p ≡ []
none_listed zero p h = refl
none_listed (suc n) p h =
    ap (λ (z : List ℕ). z ++ cond (p n) (n ∷ []) []) (none_listed n p (λ k l. h k (omega arith))) ∙ ap (λ z. cond z (n ∷ []) []) (h n (omega arith))

-- no number from n on passes
pub listed_short : (n m : ℕ) (p : ℕ → Bool) → n ≤ m → ((k : ℕ) → n ≤ k → k < m → p k ≡ false) → listed m p ≡ listed n p
listed_short n zero p l h = let e : n ≡ 0 = omega arith in ap (λ z. listed z p) (sym e)
listed_short n (suc m) p l h = ⊎_elim
    (λ (e : n ≡ suc m). ap (λ z. listed z p) (sym e))
    (λ (ne : n ≡ suc m → ⊥).
    ap (λ z. listed m p ++ cond z (m ∷ []) []) (h m (omega arith) (omega arith))
    ∙ (append-nil (listed m p) ∙ listed_short n m p (omega arith) (λ k a b. h k a (omega arith))))
    (cases_eq n (suc m))

-- the least number that passes stands first
pub first_listed : (n r : ℕ) (p q : ℕ → Bool)
    → r < n
    → p r ≡ true
    → ((k : ℕ) → k < r → p k ≡ false)
    → ((k : ℕ) → k < n → q k ≡ (p k && not (nat_eq k r)))
    → listed n p ≡ r ∷ listed n q
first_listed zero r p q l t f g = absurd (omega arith)
first_listed (suc n) r p q l t f g = ⊎_elim
    (λ (e : r ≡ n).
    let before : listed n p ≡ [] = none_listed n p (λ k m. f k (omega arith)) in
    let after : listed (suc n) q ≡ [] = none_listed (suc n) q (λ k m. gone k m e) in
    let here : p n ≡ true = subst (λ z. p z ≡ true) e t in
    ap (λ (z : List ℕ). z ++ cond (p n) (n ∷ []) []) before
    ∙ (ap (λ z. cond z (n ∷ []) []) here
    ∙ (ap (λ z. z ∷ []) (sym e) ∙ sym (ap (λ (z : List ℕ). r ∷ z) after))))
    (λ (ne : r ≡ n → ⊥).
    let kept : q n ≡ p n = g n (omega arith) ∙ (ap (λ z. p n && not z) (ne_eqb n r (λ z. omega arith)) ∙ and-true (p n)) in
    ap (λ (z : List ℕ). z ++ cond (p n) (n ∷ []) []) (first_listed n r p q (omega arith) t f (λ k m. g k (omega arith)))
    ∙ ap (λ z. r ∷ (listed n q ++ cond z (n ∷ []) [])) (sym kept))
    (cases_eq r n)
  where
    gone : (k : ℕ) → k < suc n → r ≡ n → q k ≡ false
    gone k m e = ⊎_elim
        (λ (s : k ≡ r). g k m ∙ (ap (λ z. p k && not z) (eq-eqb k r s) ∙ and-false (p k)))
        (λ (s : k ≡ r → ⊥). g k m ∙ ap (λ z. z && not (nat_eq k r)) (f k (omega arith)))
        (cases_eq k r)

-- ---- messages

-- the least receiver's message is next
pub message_next : (owner rank : ℕ) (rest rest' : RankSet) (pairs all : List Pair)
    → rank < 64
    → has rest rank ≡ true
    → ((k : ℕ) → k < rank → has rest k ≡ false)
    → ((k : ℕ) → k < 64 → has rest' k ≡ (has rest k && not (nat_eq k rank)))
    → pairs ++ map (pair owner) (listed 64 (has rest)) ≡ all
    → (pairs ++ pair owner rank ∷ []) ++ map (pair owner) (listed 64 (has rest')) ≡ all
message_next owner rank rest rest' pairs all l t f g e =
    append_assoc pairs (pair owner rank ∷ []) (map (pair owner) (listed 64 (has rest')))
    ∙ (sym (ap (λ (z : List ℕ). pairs ++ map (pair owner) z) (first_listed 64 rank (has rest) (has rest') l t f g)) ∙ e)

-- one more sender
pub senders_more : (t : ℕ → ℕ → Bool) (n m : ℕ) (pairs now : List Pair) (s : RankSet)
    → n ≤ 64
    → ((r : ℕ) → has s r ≡ t m r)
    → ((r : ℕ) → n ≤ r → t m r ≡ false)
    → pairs ≡ pairs_below t n m
    → now ≡ pairs ++ map (pair m) (listed 64 (has s))
    → now ≡ pairs_below t n (m + 1)
senders_more t n m pairs now s l h past e q =
    let same : listed 64 (has s) ≡ listed n (t m) =
    listed_agree 64 (has s) (t m) (λ k b. h k) ∙ listed_short n 64 (t m) l (λ k a b. past k a) in
    rw add-one (q ∙ (ap (λ (z : List Pair). z ++ map (pair m) (listed 64 (has s))) e ∙ ap (λ (z : List ℕ). pairs_below t n m ++ map (pair m) z) same))
