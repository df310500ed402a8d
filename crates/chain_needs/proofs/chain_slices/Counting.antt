-- Ranks and messages, counted.
use Rattle.std.proofs.Common.{◌≡◌, ℕ, zero, suc, ◌<◌, ◌≤◌, ◌+◌, ◌*◌, ◌↔◌, Bool, true, false, cond, List, Vec, refl, sym, ap, ◌∙◌, arith, ⊎_elim}
use Rattle.std.specs.Prelude.{◌&&◌, ◌||◌, not, nat_eq, IsTrue}
use Rattle.std.specs.declared.alloc.Global.{Global}
use Rattle.std.proofs.lemmas.Bool.{false≢true, cases_Bool, cases_eq, eq-eqb, ne_eqb}
use Rattle.lemmas.specs.Below.{any_below, count_below}
use Rattle.local_mesh.specs.RankSet.{has, has_at}
use Rattle.local_mesh.specs.declared.rank_sets.rank_set.RankSet.{RankSet}
use Rattle.lemmas.proofs.Below.{any_agree, count_agree}
use Rattle.mesh_decl.specs.declared.owners.Owners.{Owners}
use Rattle.mesh_decl.specs.Mesh.{dat_count, dat_set, set_size}
use Rattle.bound_program.specs.Values.{BoundValue, SiteValue}
use Rattle.chain_model.specs.Slices.{owns_pair, needs_before, needs, loops_from}
use Rattle.chain_model.specs.Counts.{some_pair, sum_below, sends, begins_at}
use Rattle.chain_needs.specs.PairSets.{pairs_of}
use Rattle.chain_needs.specs.Needed.{AreNeeded}
use Rattle.chain_needs.specs.Shapes.{sends_before, chain_messages}
use Rattle.lemmas.proofs.Truth.{iff_eq}

-- ---- a rank of a set

pub contains_is : (s e w m : RankSet) (rank : ℕ) (r : Bool) → rank < 64 → ((k : ℕ) → has e k ≡ false) → ((k : ℕ) → has w k ≡ (has e k || nat_eq k rank))
    → ((k : ℕ) → k < 64 → has m k ≡ (has w k && not (has s k))) → (IsTrue r) ↔ ((k : ℕ) → k < 64 → has m k ≡ false) → r ≡ has s rank
contains_is s e w m rank r lt empty with_it minus is = iff_eq r (has s rank)
    (λ t. ⊎_elim
    (λ (q : has s rank ≡ true). q)
    (λ (q : has s rank ≡ false).
    absurd (false≢true (sym (is.0 t rank lt)
    ∙ (minus rank lt ∙ (ap (λ z. has w rank && not z) q ∙ (ap (λ z. z && true) (with_it rank ∙ (ap (λ z. z || nat_eq rank rank) (empty rank) ∙ eq-eqb rank rank refl)))))))
    )
    (cases_Bool (has s rank)))
    (λ t. is.1 (λ k lk. minus k lk ∙ ⊎_elim
    (λ (q : k ≡ rank). ap (λ z. has w k && not z) (ap (has s) q ∙ t) ∙ and_no (has w k))
    (λ (q : k ≡ rank → ⊥). ap (λ z. z && not (has s k)) (with_it k ∙ (ap (λ z. z || nat_eq k rank) (empty k) ∙ ne_eqb k rank q)))
    (cases_eq k rank)))
  where
    and_no : (a : Bool) → (a && false) ≡ false
    and_no true = refl
    and_no false = refl

-- ---- sums

pub sum_more : (n : ℕ) (f : ℕ → ℕ) → sum_below (n + 1) f ≡ sum_below n f + f n
sum_more n f = let e : n + 1 ≡ suc n = omega arith in ap (λ z. sum_below z f) e

pub sum_agree : (n : ℕ) (f g : ℕ → ℕ) → ((k : ℕ) → k < n → f k ≡ g k) → sum_below n f ≡ sum_below n g
sum_agree zero f g h = refl
sum_agree (suc n) f g h =
    let a : sum_below n f ≡ sum_below n g = sum_agree n f g (λ k l. h k (omega arith)) in
    let e : f n ≡ g n = h n (omega arith) in
    omega arith

-- ---- messages

turned : (a b c : Bool) → ((a && c) && b) ≡ (a && (b && c))
turned true true true = refl
turned true true false = refl
turned true false true = refl
turned true false false = refl
turned false b c = refl

module _ (b : BoundValue) (o : Owners) where
  pub pairs_agree : (p q : ℕ → ℕ → Bool) → ((d y : ℕ) → d < dat_count b.mesh → y < set_size b.mesh (dat_set b.mesh d) → p d y ≡ q d y) → some_pair b p ≡ some_pair b q
  pairs_agree p q h =
      any_agree (dat_count b.mesh) (λ d. any_below (set_size b.mesh (dat_set b.mesh d)) (p d)) (λ d. any_below (set_size b.mesh (dat_set b.mesh d)) (q d))
      (λ d l. any_agree (set_size b.mesh (dat_set b.mesh d)) (p d) (q d) (λ y ly. h d y l ly))

  pub sends_agree : (sites : List SiteValue) (needed : List (Vec RankSet Global)) (s r : ℕ) → AreNeeded b o sites needed
      → some_pair b (λ d y. (pairs_of needed r d y && not (owns_pair b o r d y)) && owns_pair b o s d y) ≡ sends_before b o sites s r
  sends_agree sites needed s r h = pairs_agree (λ d y. (pairs_of needed r d y && not (owns_pair b o r d y)) && owns_pair b o s d y)
      (λ d y. needs_before b o r sites d y && (owns_pair b o s d y && not (owns_pair b o r d y)))
      (λ d y l ly. turned (pairs_of needed r d y) (owns_pair b o s d y) (not (owns_pair b o r d y))
      ∙ ap (λ z. z && (owns_pair b o s d y && not (owns_pair b o r d y))) (h.has d y r l ly))

  pub messages_are : (sites : List SiteValue) (needed : List (Vec RankSet Global)) (to : List RankSet) → AreNeeded b o sites needed → o.ranks ≤ 64
      → ((s r : ℕ) → r < 64 → has_at to s r ≡ some_pair b (λ d y. (pairs_of needed r d y && not (owns_pair b o r d y)) && owns_pair b o s d y))
      → sum_below o.ranks (λ s. count_below o.ranks (has_at to s)) ≡ chain_messages b o sites
  messages_are sites needed to h few has =
      sum_agree o.ranks (λ s. count_below o.ranks (has_at to s)) (λ s. count_below o.ranks (sends_before b o sites s))
      (λ s l. count_agree o.ranks (has_at to s) (sends_before b o sites s) (λ r lr. has s r (omega arith) ∙ sends_agree sites needed s r h))

  -- the messages of one item
  abbrev pub item_messages : ℕ → ℕ
  item_messages k = sum_below o.ranks (λ s. count_below o.ranks (sends b o k s))

  pub begun_messages : (k : ℕ) → begins_at b k ≡ true → item_messages k ≡ chain_messages b o (loops_from b k)
  unfolding needs
  begun_messages k h = sum_agree o.ranks (λ s. count_below o.ranks (sends b o k s)) (λ s. count_below o.ranks (sends_before b o (loops_from b k) s))
      (λ s l. count_agree o.ranks (sends b o k s) (sends_before b o (loops_from b k) s)
      (λ r lr. ap (λ z. z && sends_before b o (loops_from b k) s r) h))

  none_count : (n : ℕ) (p : ℕ → Bool) → ((r : ℕ) → p r ≡ false) → count_below n p ≡ 0
  none_count zero p h = refl
  none_count (suc n) p h = ap (λ z. count_below n p + cond z 1 0) (h n) ∙ (ap (λ z. z + 0) (none_count n p h))

  none_sum : (n : ℕ) (f : ℕ → ℕ) → ((k : ℕ) → f k ≡ 0) → sum_below n f ≡ 0
  none_sum zero f h = refl
  none_sum (suc n) f h = omega (arith, none_sum n f h, h n)

  pub other_messages : (k : ℕ) → begins_at b k ≡ false → item_messages k ≡ 0
  other_messages k h = none_sum o.ranks (λ s. count_below o.ranks (sends b o k s))
      (λ s. none_count o.ranks (sends b o k s) (λ r. ap (λ z. z && some_pair b (λ d y. needs b o k r d y && (owns_pair b o s d y && not (owns_pair b o r d y)))) h))

-- ---- few messages

count_few : (n : ℕ) (p : ℕ → Bool) → count_below n p ≤ n
count_few zero p = omega arith
count_few (suc n) p = omega (arith, count_few n p, one_few (p n))
  where
    one_few : (x : Bool) → cond x 1 0 ≤ 1
    one_few true = omega arith
    one_few false = omega arith

sum_few : (n m : ℕ) (f : ℕ → ℕ) → m ≤ 64 → ((k : ℕ) → f k ≤ m) → sum_below n f ≤ n * 64
sum_few zero m f few h = omega arith
sum_few (suc n) m f few h = omega (arith, sum_few n m f few h, h n)

pub few_messages : (b : BoundValue) (o : Owners) (sites : List SiteValue) → o.ranks ≤ 64 → chain_messages b o sites ≤ 4096
few_messages b o sites few = omega (arith, sum_few o.ranks o.ranks (λ s. count_below o.ranks (sends_before b o sites s)) few (λ s. count_few o.ranks (sends_before b o sites s)))

pub grown : (n : ℕ) (f : ℕ → ℕ) (old new r : ℕ) → old ≡ sum_below n f → old ≤ n * 4096 → r ≡ f n → r ≤ 4096 → new ≡ old + r → (new ≡ sum_below (n + 1) f) × (new ≤ (n + 1) * 4096)
grown n f old new r is few h le e = ((let q : sum_below (n + 1) f ≡ sum_below n f + f n = sum_more n f in omega arith), (let q : new ≤ (n + 1) * 4096 = omega arith in q))
