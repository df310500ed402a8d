-- Growth: at each place of a rank's block stands the next free element.
use Rattle.std.proofs.Common.{◌≡◌, ◌≢◌, ℕ, zero, suc, ◌+◌, ◌-◌, ◌*◌, ◌/◌, ◌<◌, ◌≤◌, Bool, true, false, List, [], ◌∷◌, ◌++◌, length, take, drop, get_or, set, refl, sym, ap, ◌∙◌, arith, inl, inr, ⊎_elim, subst, add-one}
use Rattle.std.specs.List.{Contains}
use Rattle.std.proofs.Math.Nat.{div-le_self, div-mul-le_self, mul-le-mul_right, zero-mul}
use Rattle.std.proofs.lemmas.Nat.{le-div}
use Rattle.std.proofs.lemmas.Bool.{cases_eq, cases_lt, false_from_ne_true}
use Rattle.std.proofs.lemmas.List.{length_push, length-drop, get_or-drop, get_or_push, get_or_append_left, take-append-le, take_all, get_or-take, length-take-le, get_or_default}
use Rattle.renumber.specs.Keys.{keyed}
use Rattle.renumber.specs.Taken.{earliest, IsWalk, Rises}
use Rattle.renumber.proofs.Public.{walk_push, earliest_is, earliest_none, earliest_at, earliest_ge, unmarked, untaken, marked_set}
use Rattle.partition.specs.Block.{block_start, InBlock}
use Rattle.partition.specs.Grow.{IsNextFree, AreNextFree, IsGrowing}
use Rattle.lemmas.proofs.Truth.{not_both}

chained : (a b c : ℕ) → a ≤ b → b ≤ c → a ≤ c
chained a b c p q = omega arith

between : (k a b : ℕ) → k < a → a ≤ b → b ≤ k → ⊥
between k a b p q r = absurd (omega arith)

-- a later block begins later
pub start_le : (n ranks i j : ℕ) → 0 < ranks → i ≤ j → block_start n ranks i ≤ block_start n ranks j
start_le n ranks i j r l = le-div (i * n / ranks) (j * n) ranks r (chained (i * n / ranks * ranks) (i * n) (j * n) (div-mul-le_self (i * n) ranks) (mul-le-mul_right {m = i} {n = j} n l))

-- a place lies in one block
pub block_unique : (n ranks i j k : ℕ) → 0 < ranks → InBlock n ranks i k → InBlock n ranks j k → i ≡ j
block_unique n ranks i j k r a b = ⊎_elim
    (λ (l : i < j). absurd (between k (block_start n ranks (i + 1)) (block_start n ranks j) a.1 (start_le n ranks (i + 1) j r (omega arith)) b.0))
    (λ (l : j ≤ i). ⊎_elim
    (λ (m : j < i). absurd (between k (block_start n ranks (j + 1)) (block_start n ranks i) b.1 (start_le n ranks (j + 1) i r (omega arith)) a.0))
    (λ (m : i ≤ j). omega arith)
    (cases_lt j i))
    (cases_lt i j)

-- a place before the start of a block lies in a block
pub in_some_block : (n ranks m k : ℕ) → k < block_start n ranks m → (i : ℕ) × InBlock n ranks i k
in_some_block n ranks zero k l = absurd (between k (0 * n / ranks) 0 l (subst (λ z. 0 * n / ranks ≤ z) (zero-mul n) (div-le_self (0 * n) ranks)) (omega arith))
in_some_block n ranks (suc m) k l = ⊎_elim
    (λ (a : k < block_start n ranks m). in_some_block n ranks m k a)
    (λ (a : block_start n ranks m ≤ k). (m, (a, subst (λ z. k < block_start n ranks z) (sym (add-one m)) l)))
    (cases_lt k (block_start n ranks m))

next_push : (n ranks : ℕ) (near : ℕ → ℕ → Bool) (i : ℕ) (order : List ℕ) (z : ℕ) → 0 < ranks → AreNextFree n ranks near order
    → InBlock n ranks i (length order) → IsNextFree n near order (drop (block_start n ranks i) order) z
    → AreNextFree n ranks near (order ++ z ∷ [])
next_push n ranks near i order z r h here next k q lk b = ⊎_elim
    (λ (e : k ≡ length order).
    let a : take k (order ++ z ∷ []) ≡ order = take-append-le k order (z ∷ []) (omega arith) ∙ take_all k order (omega arith) in
    let v : get_or (order ++ z ∷ []) k 0 ≡ z = get_or_push order z 0 k (sym e) in
    let u : i ≡ q = block_unique n ranks i q k r (subst (λ m. InBlock n ranks i m) (sym e) here) b in
    subst (λ (o : List ℕ). IsNextFree n near o (drop (block_start n ranks q) o) (get_or (order ++ z ∷ []) k 0)) (sym a)
    (subst (λ m. IsNextFree n near order (drop (block_start n ranks q) order) m) (sym v)
    (subst (λ m. IsNextFree n near order (drop (block_start n ranks m) order) z) u next)))
    (λ (e : k ≡ length order → ⊥).
    let p = length_push order z in
    let l : k < length order = omega arith in
    let a : take k (order ++ z ∷ []) ≡ take k order = take-append-le k order (z ∷ []) (omega arith) in
    let v : get_or (order ++ z ∷ []) k 0 ≡ get_or order k 0 = get_or_append_left order (z ∷ []) 0 k l in
    subst (λ (o : List ℕ). IsNextFree n near o (drop (block_start n ranks q) o) (get_or (order ++ z ∷ []) k 0)) (sym a)
    (subst (λ m. IsNextFree n near (take k order) (drop (block_start n ranks q) (take k order)) m) (sym v) (h k q l b)))
    (cases_eq k (length order))

le_push : (order : List ℕ) (z a : ℕ) → a ≤ length order → a ≤ length (order ++ z ∷ [])
le_push order z a l = let p = length_push order z in omega (arith, p, l)

-- one more element taken
pub growing_push : (n ranks : ℕ) (near : ℕ → ℕ → Bool) (i h : ℕ) (order : List ℕ) (seen : List Bool) (z : ℕ) → z < length seen
    → h ≤ length order → IsGrowing n ranks near i h order seen → length order < block_start n ranks (i + 1)
    → IsNextFree n near order (drop (block_start n ranks i) order) z → IsGrowing n ranks near i h (order ++ z ∷ []) (set seen z true)
growing_push n ranks near i h order seen z lz lh g short next = record {
  some = g.some;
  begun = le_push order z (block_start n ranks i) g.begun;
  closed = λ s j y lo lj l ly t. (
      let lk : j < length order = omega (arith, lj, lh) in
      marked_set seen z y lz (g.closed short j y lo lj lk ly (subst (λ q. near q y ≡ true) (get_or_append_left order (z ∷ []) 0 j lk) t)));
  next = next_push n ranks near i order z g.some g.next (g.begun, short) next;
}

-- what isn't marked is no neighbour of the rank's elements before place h
far_mine : (n ranks : ℕ) (near : ℕ → ℕ → Bool) (i h : ℕ) (order : List ℕ) (seen : List Bool) (s y : ℕ) → s ≡ block_start n ranks i
    → IsGrowing n ranks near i h order seen → length order < block_start n ranks (i + 1) → h ≤ length order → y < n
    → get_or seen y false ≡ false → (j : ℕ) → j < h - s → near (get_or (drop s order) j 0) y ≡ false
far_mine n ranks near i h order seen s y es g short lh ly f j lj = false_from_ne_true (near (get_or (drop s order) j 0) y) (λ t.
    not_both (get_or seen y false) (g.closed short (s + j) y (subst (λ q. q ≤ s + j) es (omega arith)) (omega (arith, lj))
    (omega (arith, lj, lh)) ly (subst (λ q. near q y ≡ true) (get_or-drop s order j 0) t)) f)

-- the least element that isn't marked comes next where the rank's elements have no neighbour left
pub next_start_free : (n ranks : ℕ) (near : ℕ → ℕ → Bool) (i : ℕ) (order : List ℕ) (seen : List Bool) (s z : ℕ) → s ≡ block_start n ranks i
    → IsWalk n near order seen 0 → IsGrowing n ranks near i (length order) order seen → length order < block_start n ranks (i + 1) → z < n
    → get_or seen z false ≡ false → ((y : ℕ) → y < z → get_or seen y false ≡ true) → IsNextFree n near order (drop s order) z
next_start_free n ranks near i order seen s z es w g short lz f before =
    let len : length (drop s order) ≡ length order - s = length-drop s order in
    let none : (y : ℕ) → y < n → get_or seen y false ≡ false → earliest near (drop s order) y ≡ length (drop s order) = λ y ly fy.
    earliest_none n near (drop s order) y (λ j lj. far_mine n ranks near i (length order) order seen s y es g short (omega arith) ly fy j (omega (arith, len, lj))) in
    record {
      within = lz;
      new = untaken n near order seen 0 z w f;
      least = λ y ly absent. (
          let fy : get_or seen y false ≡ false = unmarked n near order seen 0 y w ly absent in
          inr (
            none z lz f ∙ sym (none y ly fy),
            ⊎_elim (λ (m : y < z). absurd (not_both (get_or seen y false) (before y m) fy)) (λ (m : z ≤ y). m) (cases_lt y z),
          ));
    }

-- the first neighbour of the element at place h that isn't marked comes next
pub next_near_free : (n ranks : ℕ) (near : ℕ → ℕ → Bool) (i h : ℕ) (order : List ℕ) (seen : List Bool) (s k : ℕ) (items : List ℕ)
    → s ≡ block_start n ranks i → IsWalk n near order seen 0 → IsGrowing n ranks near i h order seen
    → length order < block_start n ranks (i + 1) → s ≤ h → h < length order → k < length items → get_or items k 0 < n
    → near (get_or order h 0) (get_or items k 0) ≡ true → get_or seen (get_or items k 0) false ≡ false
    → ((y : ℕ) → near (get_or order h 0) y ≡ true → get_or seen y false ≡ false → Contains items y)
    → ((j : ℕ) → j < k → get_or seen (get_or items j 0) false ≡ true) → Rises (λ v. v) items
    → IsNextFree n near order (drop s order) (get_or items k 0)
next_near_free n ranks near i h order seen s k items es w g short sh lh lk lz nz f all done rises =
    let z : ℕ = get_or items k 0 in
    let mine : List ℕ = drop s order in
    let len : length mine ≡ length order - s = length-drop s order in
    let place : s + (h - s) ≡ h = omega (arith, sh) in
    let at : get_or mine (h - s) 0 ≡ get_or order h 0 = get_or-drop s order (h - s) 0 ∙ ap (λ q. get_or order q 0) place in
    let lm : h - s < length mine = omega (arith, len, sh, lh) in
    let ez : earliest near mine z ≡ h - s = earliest_is n near mine z (h - s) lm
    (far_mine n ranks near i h order seen s z es g short (omega (arith, lh)) lz f) (subst (λ q. near q z ≡ true) (sym at) nz) in
    record {
      within = lz;
      new = untaken n near order seen 0 z w f;
      least = λ y ly absent. (
          let fy : get_or seen y false ≡ false = unmarked n near order seen 0 y w ly absent in
          let ge : h - s ≤ earliest near mine y = earliest_ge n near mine y (h - s) (omega (arith, lm)) (far_mine n ranks near i h order seen s y es g short (omega (arith, lh)) ly fy) in
          ⊎_elim
          (λ (m : h - s < earliest near mine y). inl (subst (λ q. q < earliest near mine y) (sym ez) m))
          (λ (m : earliest near mine y ≤ h - s).
          let e : earliest near mine y ≡ h - s = omega (arith, m, ge) in
          let t : near (get_or mine (h - s) 0) y ≡ true = subst (λ q. near (get_or mine q 0) y ≡ true) e (earliest_at n near mine y (omega (arith, e, lm))) in
          let c = all y (subst (λ q. near q y ≡ true) at t) fy in
          let here : get_or items c.0 0 ≡ y = get_or_default items c.0 0 y c.1 ∙ c.2 in
          let le : k ≤ c.0 = ⊎_elim (λ (q : c.0 < k). absurd (not_both (get_or seen y false) (subst (λ v. get_or seen v false ≡ true) here (done c.0 q)) fy)) (λ (q : k ≤ c.0). q) (cases_lt c.0 k) in
          inr (ez ∙ sym e, subst (λ v. z ≤ v) here (rises k c.0 le c.1)))
          (cases_lt (h - s) (earliest near mine y)));
    }

-- all neighbours of one more of the rank's elements are marked
pub growing_closed : (n ranks : ℕ) (near : ℕ → ℕ → Bool) (i h : ℕ) (order : List ℕ) (seen : List Bool)
    → IsGrowing n ranks near i h order seen →
    (length order < block_start n ranks (i + 1) → (y : ℕ) → near (get_or order h 0) y ≡ true → get_or seen y false ≡ true)
    → IsGrowing n ranks near i (h + 1) order seen
growing_closed n ranks near i h order seen g done = record {
  some = g.some;
  begun = g.begun;
  closed = λ s j y lo lj l ly t. ⊎_elim
      (λ (e : j ≡ h). done s y (subst (λ q. near (get_or order q 0) y ≡ true) e t))
      (λ (e : j ≡ h → ⊥). g.closed s j y lo (omega (arith, lj, e)) l ly t)
      (cases_eq j h);
  next = g.next;
}

-- what is so while one rank takes elements up to `end`, from those of `first` on
pub record IsShare (n : ℕ) (near : ℕ → ℕ → Bool) (end head least : ℕ) (first order : List ℕ) (seen : List Bool) : Type 0 where
  pub walk : IsWalk n near order seen 0
  pub reached : head ≤ length order
  pub few : length order ≤ end
  pub before : (y : ℕ) → y < least → get_or seen y false ≡ true
  pub grown : (ranks i : ℕ) → 0 < ranks → end ≡ block_start n ranks (i + 1) → length first ≡ block_start n ranks i
      → AreNextFree n ranks near first → (block_start n ranks i ≤ head) × IsGrowing n ranks near i head order seen

pub share_start : (n : ℕ) (near : ℕ → ℕ → Bool) (end head least : ℕ) (first order : List ℕ) (seen : List Bool) (z : ℕ)
    → IsShare n near end head least first order seen → length order < end → head ≡ length order → z < length seen
    → get_or seen z false ≡ false → ((y : ℕ) → y < z → get_or seen y false ≡ true)
    → IsShare n near end head z first (order ++ z ∷ []) (set seen z true)
share_start n near end head least first order seen z h short eh ls f before =
    let lz : z < n = subst (λ q. z < q) h.walk.size ls in
    record {
      walk = walk_push n near order seen 0 z h.walk (omega arith) lz f;
      reached = le_push order z head h.reached;
      few = (let p = length_push order z in omega (arith, p, short));
      before = λ y l. marked_set seen z y ls (before y l);
      grown = λ ranks i r ee ef nx. (
          let g = h.grown ranks i r ee ef nx in
          let s : length order < block_start n ranks (i + 1) = subst (λ q. length order < q) ee short in
          let at : IsGrowing n ranks near i (length order) order seen = subst (λ q. IsGrowing n ranks near i q order seen) eh g.1 in
          (g.0, growing_push n ranks near i head order seen z ls h.reached g.1 s (next_start_free n ranks near i order seen (block_start n ranks i) z refl h.walk at s lz f before)));
    }

-- elements that stand at different places differ
pub apart : (n ranks m : ℕ) (near : ℕ → ℕ → Bool) (order : List ℕ) → AreNextFree n ranks near order → length order ≡ block_start n ranks m
    → (j k : ℕ) → j < k → k < length order → get_or order j 0 ≢ get_or order k 0
apart n ranks m near order h e j k l lk = λ q.
    let b = in_some_block n ranks m k (subst (λ v. k < v) e lk) in
    let lt : length (take k order) ≡ k = length-take-le k order (omega (arith, lk)) in
    let lj : j < length (take k order) = omega (arith, lt, l) in
    (h k b.0 lk b.1).new (j, lj, get_or_default (take k order) j (get_or order k 0) 0 lj ∙ (get_or-take k order j 0 l ∙ q))

-- without keys the order is by number
pub by_number : (items : List ℕ) → Rises (keyed []) items → Rises (λ v. v) items
unfolding keyed
by_number items h i j le l = let a = h i j le l in omega (arith, a)
