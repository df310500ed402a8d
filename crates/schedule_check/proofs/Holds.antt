-- Which messages a list of pairs holds, and where.
use Rattle.std.proofs.Common.{◌≡◌, ℕ, zero, suc, ◌+◌, ◌-◌, ◌*◌, ◌<◌, ◌≤◌, Bool, true, false, cond, refl, sym, ap, subst, ◌∙◌, arith, ⊎_elim, List, [], ◌∷◌, ◌++◌, length, get_or, map}
use Rattle.std.specs.Prelude.{◌&&◌, ◌||◌, ◌==◌, nat_lt, nat_eq}
use Rattle.std.specs.List.{list_any}
use Rattle.std.proofs.lemmas.Bool.{cases_Bool, cases_eq, cases_lt, false≢true, eq-eqb, ne_eqb, lt-ltb, le-ltb, and_from, or_left, or_right}
use Rattle.std.proofs.lemmas.List.{length-map, length-append, map-append, get_or_append_left, get_or-append_right}
use Rattle.lemmas.specs.Below.{listed}
use Rattle.step_judge.specs.Item.{pair_at}
use Rattle.loop_plan.specs.Pairs.{pair, pairs_below}
use Rattle.loop_plan.specs.declared.types.Pair.{Pair}
use Rattle.loop_plan.proofs.Public.{is_listed, not_listed}
use Rattle.schedule_check.specs.Froms.{froms, tos}
use Rattle.std.proofs.Math.Bool.{or-false}

pub holds : List Pair → ℕ → ℕ → Bool
holds [] s r = false
holds (p ∷ l) s r = ((p.from == s) && (p.to == r)) || holds l s r

abbrev at : List Pair → ℕ → ℕ → ℕ
at l s r = pair_at (froms l) (tos l) s r

next_lt : (a b : ℕ) → nat_lt (suc a) (suc b) ≡ nat_lt a b
next_lt a b = ⊎_elim
    (λ (l : a < b). lt-ltb (suc a) (suc b) (omega arith) ∙ sym (lt-ltb a b l))
    (λ (g : b ≤ a). le-ltb (suc a) (suc b) (omega arith) ∙ sym (le-ltb a b g))
    (cases_lt a b)

pub found : (l : List Pair) (s r : ℕ) → nat_lt (at l s r) (length (froms l)) ≡ holds l s r
unfolding holds
found [] s r = refl
found (p ∷ l) s r = ⊎_elim
    (λ (e : ((p.from == s) && (p.to == r)) ≡ true). rw e (lt-ltb 0 (suc (length (froms l))) (omega arith)))
    (λ (e : ((p.from == s) && (p.to == r)) ≡ false). rw e (next_lt (at l s r) (length (froms l)) ∙ found l s r))
    (cases_Bool ((p.from == s) && (p.to == r)))

holds_append : (a b : List Pair) (s r : ℕ) → holds (a ++ b) s r ≡ (holds a s r || holds b s r)
unfolding holds
holds_append [] b s r = refl
holds_append (p ∷ a) b s r = ap (λ z. ((p.from == s) && (p.to == r)) || z) (holds_append a b s r) ∙ assoc ((p.from == s) && (p.to == r)) (holds a s r) (holds b s r)
  where
    assoc : (x y z : Bool) → (x || (y || z)) ≡ ((x || y) || z)
    assoc true y z = refl
    assoc false y z = refl

flip : (x r : ℕ) → (x == r) ≡ nat_eq r x
flip x r = ⊎_elim (λ (e : x ≡ r). eq-eqb x r e ∙ sym (eq-eqb r x (sym e))) (λ (ne : x ≡ r → ⊥). ne_eqb x r ne ∙ sym (ne_eqb r x (λ e. ne (sym e)))) (cases_eq x r)

holds_row : (m : ℕ) (xs : List ℕ) (s r : ℕ) → holds (map (pair m) xs) s r ≡ ((m == s) && list_any (nat_eq r) xs)
unfolding holds
holds_row m [] s r = sym (and_no (m == s))
  where
    and_no : (x : Bool) → (x && false) ≡ false
    and_no true = refl
    and_no false = refl
holds_row m (x ∷ xs) s r =
    ap (λ z. ((m == s) && (x == r)) || z) (holds_row m xs s r)
    ∙ (spread (m == s) (x == r) (list_any (nat_eq r) xs)
    ∙ ap (λ z. (m == s) && (z || list_any (nat_eq r) xs)) (flip x r))
  where
    spread : (a b d : Bool) → ((a && b) || (a && d)) ≡ (a && (b || d))
    spread true b d = refl
    spread false b d = refl

past_holds : (t : ℕ → ℕ → Bool) (n m s r : ℕ) → m ≤ s → holds (pairs_below t n m) s r ≡ false
unfolding holds
past_holds t n zero s r l = refl
past_holds t n (suc m) s r l =
    holds_append (pairs_below t n m) (map (pair m) (listed n (t m))) s r
    ∙ (ap (λ z. z || holds (map (pair m) (listed n (t m))) s r) (past_holds t n m s r (omega arith))
    ∙ (holds_row m (listed n (t m)) s r ∙ ap (λ z. z && list_any (nat_eq r) (listed n (t m))) (ne_eqb m s (λ e. omega arith))))

wide_holds : (t : ℕ → ℕ → Bool) (n m s r : ℕ) → n ≤ r → holds (pairs_below t n m) s r ≡ false
unfolding holds
wide_holds t n zero s r l = refl
wide_holds t n (suc m) s r l =
    holds_append (pairs_below t n m) (map (pair m) (listed n (t m))) s r
    ∙ (ap (λ z. z || holds (map (pair m) (listed n (t m))) s r) (wide_holds t n m s r l)
    ∙ (holds_row m (listed n (t m)) s r ∙ (ap (λ z. (m == s) && z) (not_listed r n (t m) l) ∙ and_no (m == s))))
  where
    and_no : (x : Bool) → (x && false) ≡ false
    and_no true = refl
    and_no false = refl

-- a pair of a sender below m and a receiver below n that pass
pub below_holds : (t : ℕ → ℕ → Bool) (n m s r : ℕ) → r < n → s < m → holds (pairs_below t n m) s r ≡ t s r
below_holds t n zero s r lr ls = absurd (omega arith)
below_holds t n (suc m) s r lr ls =
    holds_append (pairs_below t n m) (map (pair m) (listed n (t m))) s r
    ∙ (ap (λ z. holds (pairs_below t n m) s r || z) (holds_row m (listed n (t m)) s r) ∙ ⊎_elim
    (λ (e : m ≡ s). ap (λ z. z || ((m == s) && list_any (nat_eq r) (listed n (t m)))) (past_holds t n m s r (omega arith))
    ∙ (ap (λ z. z && list_any (nat_eq r) (listed n (t m))) (eq-eqb m s e) ∙ (is_listed r n (t m) lr ∙ ap (λ z. t z r) e)))
    (λ (ne : m ≡ s → ⊥). ap (λ z. holds (pairs_below t n m) s r || (z && list_any (nat_eq r) (listed n (t m)))) (ne_eqb m s ne)
    ∙ (or-false (holds (pairs_below t n m) s r) ∙ below_holds t n m s r lr (omega arith)))
    (cases_eq m s))

pub in_range : (t : ℕ → ℕ → Bool) (n m s r : ℕ) → holds (pairs_below t n m) s r ≡ true → (s < m) × (r < n)
in_range t n m s r h = (
  ⊎_elim (λ (l : s < m). l) (λ (g : m ≤ s). absurd (false≢true (sym (past_holds t n m s r g) ∙ h))) (cases_lt s m),
  ⊎_elim (λ (l : r < n). l) (λ (g : n ≤ r). absurd (false≢true (sym (wide_holds t n m s r g) ∙ h))) (cases_lt r n),
)

-- ---- each pair stands at its own place

abbrev pub no_pair : Pair
no_pair = record { from = 0; to = 0 }

abbrev nth : List Pair → ℕ → Pair
nth l i = get_or l i no_pair

pub nth_holds : (l : List Pair) (i : ℕ) → i < length l → holds l (nth l i).from (nth l i).to ≡ true
unfolding holds
nth_holds [] i lt = absurd (omega arith)
nth_holds (p ∷ l) zero lt = or_left ((p.from == p.from) && (p.to == p.to)) (holds l p.from p.to) (and_from (p.from == p.from) (p.to == p.to) (eq-eqb p.from p.from refl) (eq-eqb p.to p.to refl))
nth_holds (p ∷ l) (suc i) lt = or_right ((p.from == (nth l i).from) && (p.to == (nth l i).to)) (holds l (nth l i).from (nth l i).to) (nth_holds l i (omega arith))

pub pair_holds : (l : List Pair) (i : ℕ) (d : Pair) → i < length l → holds l (get_or l i d).from (get_or l i d).to ≡ true
unfolding holds
pair_holds [] i d lt = absurd (omega arith)
pair_holds (p ∷ l) zero d lt = or_left ((p.from == p.from) && (p.to == p.to)) (holds l p.from p.to) (and_from (p.from == p.from) (p.to == p.to) (eq-eqb p.from p.from refl) (eq-eqb p.to p.to refl))
pair_holds (p ∷ l) (suc i) d lt = or_right ((p.from == (get_or l i d).from) && (p.to == (get_or l i d).to)) (holds l (get_or l i d).from (get_or l i d).to) (pair_holds l i d (omega arith))

at_left : (a b : List Pair) (s r : ℕ) → holds a s r ≡ true → at (a ++ b) s r ≡ at a s r
unfolding holds
at_left [] b s r h = absurd (false≢true h)
at_left (p ∷ a) b s r h = ⊎_elim
    (λ (e : ((p.from == s) && (p.to == r)) ≡ true). ap (λ z. cond z 0 (suc (at (a ++ b) s r))) e ∙ sym (ap (λ z. cond z 0 (suc (at a s r))) e))
    (λ (e : ((p.from == s) && (p.to == r)) ≡ false). ap (λ z. cond z 0 (suc (at (a ++ b) s r))) e
    ∙ (ap suc (at_left a b s r (sym (ap (λ z. z || holds a s r) e) ∙ h)) ∙ sym (ap (λ z. cond z 0 (suc (at a s r))) e)))
    (cases_Bool ((p.from == s) && (p.to == r)))

at_right : (a b : List Pair) (s r : ℕ) → holds a s r ≡ false → at (a ++ b) s r ≡ length a + at b s r
unfolding holds
at_right [] b s r h = omega arith
at_right (p ∷ a) b s r h = ⊎_elim
    (λ (e : ((p.from == s) && (p.to == r)) ≡ true). absurd (false≢true (sym h ∙ ap (λ z. z || holds a s r) e)))
    (λ (e : ((p.from == s) && (p.to == r)) ≡ false). ap (λ z. cond z 0 (suc (at (a ++ b) s r))) e
    ∙ (let q : at (a ++ b) s r ≡ length a + at b s r = at_right a b s r (sym (ap (λ z. z || holds a s r) e) ∙ h) in omega arith))
    (cases_Bool ((p.from == s) && (p.to == r)))

abbrev pub Apart : List Pair → Type 0
Apart l = (i : ℕ) → i < length l → at l (nth l i).from (nth l i).to ≡ i

apart_append : (a b : List Pair) → Apart a → Apart b → ((i : ℕ) → i < length b → holds a (nth b i).from (nth b i).to ≡ false) → Apart (a ++ b)
apart_append a b ha hb apart i lt = ⊎_elim
    (λ (l : i < length a). subst (λ (z : Pair). at (a ++ b) z.from z.to ≡ i) (sym (get_or_append_left a b no_pair i l)) (at_left a b (nth a i).from (nth a i).to (nth_holds a i l) ∙ ha i l))
    (λ (g : length a ≤ i).
    let lb : i - length a < length b = (let n : length (a ++ b) ≡ length a + length b = length-append a b in omega arith) in
    subst (λ (z : Pair). at (a ++ b) z.from z.to ≡ i) (sym (get_or-append_right a b (length a) i no_pair refl g))
    (at_right a b (nth b (i - length a)).from (nth b (i - length a)).to (apart (i - length a) lb)
    ∙ (let q : at b (nth b (i - length a)).from (nth b (i - length a)).to ≡ i - length a = hb (i - length a) lb in omega arith)))
    (cases_lt i (length a))

apart_nil : Apart []
apart_nil i lt = absurd (omega arith)

apart_one : (p : Pair) → Apart (p ∷ [])
apart_one p i lt =
    let z : i ≡ 0 = omega arith in
    subst (λ j. at (p ∷ []) (nth (p ∷ []) j).from (nth (p ∷ []) j).to ≡ j) (sym z)
    (ap (λ y. cond y 0 1) (and_from (p.from == p.from) (p.to == p.to) (eq-eqb p.from p.from refl) (eq-eqb p.to p.to refl)))

-- the pairs of one sender
row_apart : (m n : ℕ) (f : ℕ → Bool) → Apart (map (pair m) (listed n f))
row_apart m zero f = apart_nil
row_apart m (suc n) f = subst Apart (sym (map-append (pair m) (listed n f) (cond (f n) (n ∷ []) [])))
    (apart_append (map (pair m) (listed n f)) (map (pair m) (cond (f n) (n ∷ []) [])) (row_apart m n f) (last (f n)) (fresh (f n)))
  where
    last : (b : Bool) → Apart (map (pair m) (cond b (n ∷ []) []))
    last true = apart_one (pair m n)
    last false = apart_nil

    fresh : (b : Bool) (i : ℕ) → i < length (map (pair m) (cond b (n ∷ []) []))
        → holds (map (pair m) (listed n f)) (nth (map (pair m) (cond b (n ∷ []) [])) i).from (nth (map (pair m) (cond b (n ∷ []) [])) i).to ≡ false
    fresh true i lt =
        let z : i ≡ 0 = omega arith in
        subst (λ j. holds (map (pair m) (listed n f)) (nth (pair m n ∷ []) j).from (nth (pair m n ∷ []) j).to ≡ false) (sym z)
        (holds_row m (listed n f) m n ∙ (ap (λ y. (m == m) && y) (not_listed n n f (omega arith)) ∙ ap (λ y. y && false) (eq-eqb m m refl)))
    fresh false i lt = absurd (omega arith)

row_from : (m : ℕ) (xs : List ℕ) (i : ℕ) → i < length (map (pair m) xs) → (nth (map (pair m) xs) i).from ≡ m
row_from m [] i lt = absurd (omega arith)
row_from m (x ∷ xs) zero lt = refl
row_from m (x ∷ xs) (suc i) lt = row_from m xs i (omega arith)

pub below_apart : (t : ℕ → ℕ → Bool) (n m : ℕ) → Apart (pairs_below t n m)
below_apart t n zero = apart_nil
below_apart t n (suc m) = apart_append (pairs_below t n m) (map (pair m) (listed n (t m))) (below_apart t n m) (row_apart m n (t m))
    (λ i lt. past_holds t n m (nth (map (pair m) (listed n (t m))) i).from (nth (map (pair m) (listed n (t m))) i).to
    (let e : (nth (map (pair m) (listed n (t m))) i).from ≡ m = row_from m (listed n (t m)) i lt in omega arith))

-- there are few of them
listed_few : (n : ℕ) (f : ℕ → Bool) → length (listed n f) ≤ n
listed_few zero f = omega arith
listed_few (suc n) f =
    let h : length (listed n f) ≤ n = listed_few n f in
    let a : length (listed n f ++ cond (f n) (n ∷ []) []) ≡ length (listed n f) + length (cond (f n) (n ∷ []) []) = length-append (listed n f) (cond (f n) (n ∷ []) []) in
    let b : length (cond (f n) (n ∷ []) []) ≤ 1 = one (f n) in
    omega arith
  where
    one : (b : Bool) → length (cond b (n ∷ []) []) ≤ 1
    one true = omega arith
    one false = omega arith

pub pairs_few : (t : ℕ → ℕ → Bool) (n m : ℕ) → length (pairs_below t n m) ≤ m * n
pairs_few t n zero = omega arith
pairs_few t n (suc m) =
    let h : length (pairs_below t n m) ≤ m * n = pairs_few t n m in
    let a : length (pairs_below t n m ++ map (pair m) (listed n (t m))) ≡ length (pairs_below t n m) + length
    (map (pair m) (listed n (t m))) = length-append (pairs_below t n m) (map (pair m) (listed n (t m))) in
    let b : length (map (pair m) (listed n (t m))) ≡ length (listed n (t m)) = length-map (listed n (t m)) (pair m) in
    let c : length (listed n (t m)) ≤ n = listed_few n (t m) in
    let d : suc m * n ≡ m * n + n = grind arith in
    omega arith
