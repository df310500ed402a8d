-- Lists.
use Rattle.std.proofs.Common.{Bool, Global, List, None, Option, Some, Vec, [], add-one, ap, append_assoc, arith, cond, drop, drop-cons, false, find, flat_map, get_or, is_some, length, length-set, map, nat_eq, refl, set, subst, suc, sym, take, true, zero, ℕ, ℤ, ⊎_elim, ◌++◌, ◌+◌, ◌<◌, ◌∙◌, ◌∷◌, ◌≡◌, ◌≤◌}
use Rattle.std.proofs.lemmas.Bool.{and_parts, eqb-true, false≢true, or_cases}
use Rattle.std.proofs.lemmas.Grind.{common_steps}
use Rattle.std.proofs.lemmas.List.{append-nil, get_or_default, length-append, take_more}
use Rattle.std.proofs.lemmas.List.Concat.{flat_map-append}
use Rattle.std.proofs.lemmas.List.Sorted.{Contains-permutation}
use Rattle.std.proofs.lemmas.Slice.Eq.{bytes_eq-Decides}
use Rattle.std.specs.List.{Contains, list_all, list_any, range_with_len}
use Rattle.std.specs.List.Sorted.{IsPermutation}
use Rattle.std.specs.Str.{bytes_eq}
use Rattle.std.specs.Vec.{with_items}

-- where an element passes, if one does
pub any_at : (f : ℕ → Bool) (xs : List ℕ) → list_any f xs ≡ true → (k : ℕ) × (k < length xs) × (f (get_or xs k 0) ≡ true)
any_at f [] h = absurd (false≢true h)
any_at f (x ∷ xs) h = ⊎_elim
    (λ (e : f x ≡ true). (zero, omega arith, e))
    (λ (e : list_any f xs ≡ true). let w : (k : ℕ) × (k < length xs) × (f (get_or xs k 0) ≡ true) = any_at f xs e in (suc w.0, (let l : w.0 < length xs = w.1 in omega arith), w.2))
    (or_cases (f x) (list_any f xs) h)

-- what is found passes the test
pub find_passes : {X : Type 0} (p : X → Bool) (xs : List X) (x : X) → find p xs ≡ Some x → p x ≡ true
find_passes p [] x h = cc
find_passes p (y ∷ ys) x h = by_test (p y) refl h (find_passes p ys x)
  where
    by_test : (t : Bool) → p y ≡ t → cond t (Some y) (find p ys) ≡ Some x → (find p ys ≡ Some x → p x ≡ true) → p x ≡ true
    by_test true e h f = let same : y ≡ x = cc in rw (sym same) e
    by_test false e h f = f h

-- where an element stands
pub contains_at : (xs : List ℕ) (x : ℕ) (c : Contains xs x) → get_or xs c.0 0 ≡ x
contains_at xs x c = get_or_default xs c.0 0 x c.1 ∙ c.2

-- where an element stands in a permutation
pub permuted_at : (keys sorted : List ℕ) → length sorted ≡ length keys → IsPermutation keys sorted → (i : ℕ) → i < length keys → (k : ℕ) × (k < length sorted) × (get_or sorted k 0 ≡ get_or keys i 0)
permuted_at keys sorted n p i il =
    let g : Contains sorted (get_or keys i 0) = Contains-permutation keys sorted (get_or keys i 0) p (i, il, get_or_default keys i (get_or keys i 0) 0 il) in
    (g.0, g.1, get_or_default sorted g.0 0 (get_or keys i 0) g.1 ∙ g.2)

-- a list set at a place or left has its length
pub length-set_if : (b : Bool) (m : List ℤ) (at : ℕ) (w : ℤ) → length (cond b (set m at w) m) ≡ length m
length-set_if true m at w = length-set m at w
length-set_if false m at w = refl

-- what is not there is `None`
pub none_from : {X : Type 0} (o : Option X) → is_some o ≡ false → o ≡ None
none_from None h = refl
none_from (Some x) h = cc

-- the element at a place below the length
pub element_at : {A : Type 0} (xs : List A) (r : ℕ) → r < length xs → (x : A) × ((d : A) → get_or xs r d ≡ x)
element_at [] r l = absurd (omega arith)
element_at (x ∷ xs) zero l = (x, λ d. refl)
element_at (x ∷ xs) (suc r) l = element_at xs r (omega arith)

-- what is left from a place begins with the element there
pub drop_here : {X : Type 0} (xs : List X) (i : ℕ) (x : X) → i < length xs → x ≡ get_or xs i x → drop i xs ≡ x ∷ drop (i + 1) xs
drop_here xs i x h e = rw (add-one, drop-cons xs i x) (ap (λ y. y ∷ drop (suc i) xs) (sym e))

pub drop_end : {X : Type 0} (xs : List X) (i : ℕ) → length xs ≤ i → drop i xs ≡ []
drop_end [] zero h = refl
drop_end [] (suc i) h = refl
drop_end (x ∷ xs) zero h = absurd (omega arith)
drop_end (x ∷ xs) (suc i) h = drop_end xs i (omega arith)

-- the tokens with one more
pub with_one : (ts front back : List (List ℕ)) (t u : List ℕ) → ts ≡ front ++ back → t ≡ u → ts ++ t ∷ [] ≡ front ++ (back ++ u ∷ [])
with_one ts front back t u s e = ap (λ xs. xs ++ t ∷ []) s ∙ append_assoc front back (t ∷ []) ∙ ap (λ x. front ++ (back ++ x ∷ [])) e

-- below the length no default is read
pub get_or_any : (xs : List ℕ) (k d e : ℕ) → k < length xs → get_or xs k d ≡ get_or xs k e
get_or_any xs k d e lt = grind (arith, common_steps, lt)

-- a list of length 0 is empty
pub empty_from_length : (a : List ℤ) → length a ≡ 0 → a ≡ []
empty_from_length [] h = refl
empty_from_length (x ∷ xs) h = cc

-- a list that is empty by the test of its length
pub empty_from_test : (xs : List ℕ) (r : Bool) → r ≡ nat_eq (length xs) 0 → r ≡ true → xs ≡ []
empty_from_test [] r e t = refl
empty_from_test (x ∷ xs) r e t = absurd (let n : length (x ∷ xs) ≡ 0 = eqb-true (length (x ∷ xs)) 0 (sym e ∙ t) in omega arith)

-- a list that is not empty by the test of its length
pub not_empty_from_test : (xs : List ℕ) (r : Bool) → r ≡ nat_eq (length xs) 0 → r ≡ false → xs ≡ [] → ⊥
not_empty_from_test xs r e f n = false≢true (sym f ∙ (e ∙ ap (λ (z : List ℕ). nat_eq (length z) 0) n))

-- equal lists have equal heads
pub head_same : {X : Type 0} → (x y : X) (xs ys : List X) → x ∷ xs ≡ y ∷ ys → x ≡ y
head_same x y xs ys e = ap (λ zs. get_or zs 0 x) e

-- equal lists have equal tails
pub tail_same : {X : Type 0} → (x y : X) (xs ys : List X) → x ∷ xs ≡ y ∷ ys → xs ≡ ys
tail_same x y xs ys e = ap (drop 1) e

-- equal lists cut at one place have equal parts
pub fronts_same : {X : Type 0} → (xs ys more rest : List X) → length xs ≡ length ys → xs ++ more ≡ ys ++ rest → (xs ≡ ys) × (more ≡ rest)
fronts_same [] [] more rest l e = (refl, e)
fronts_same [] (y ∷ ys) more rest l e = absurd (omega arith)
fronts_same (x ∷ xs) [] more rest l e = absurd (omega arith)
fronts_same (x ∷ xs) (y ∷ ys) more rest l e =
    let h : x ≡ y = head_same x y (xs ++ more) (ys ++ rest) e in
    let t = fronts_same xs ys more rest (omega arith) (tail_same x y (xs ++ more) (ys ++ rest) e) in
    (rw h (ap (λ zs. y ∷ zs) t.0), t.1)

-- one piece more
pub one_piece : {X : Type 0} (f : X → List ℤ) (xs : List X) (i : ℕ) (d : X) → i < length xs
    → length (flat_map f (take (suc i) xs)) ≡ length (flat_map f (take i xs)) + length (f (get_or xs i d))
one_piece f xs i d lt =
    let next : suc i ≡ i + 1 = omega arith in
    ap (λ k. length (flat_map f (take k xs))) next ∙ ap (λ l. length (flat_map f l)) (take_more xs i d lt)
    ∙ ap length (flat_map-append f (take i xs) (get_or xs i d ∷ []))
    ∙ length-append (flat_map f (take i xs)) (f (get_or xs i d) ++ [])
    ∙ ap (λ l. length (flat_map f (take i xs)) + length l) (append-nil (f (get_or xs i d)))

-- equal bytes pass the test
pub bytes_eq_from : (xs ys : List ℕ) → xs ≡ ys → bytes_eq xs ys ≡ true
bytes_eq_from xs ys = (bytes_eq-Decides xs ys).1

-- one more element that passes
pub list_all_cons : (p : ℕ → Bool) (x : ℕ) (xs : List ℕ) → p x ≡ true → list_all p xs ≡ true → list_all p (x ∷ xs) ≡ true
list_all_cons p x xs a b = rw a b

-- two lists whose elements pass
pub list_all_append : (p : ℕ → Bool) (xs ys : List ℕ) → list_all p xs ≡ true → list_all p ys ≡ true → list_all p (xs ++ ys) ≡ true
list_all_append p [] ys a b = b
list_all_append p (x ∷ xs) ys a b = let k = and_parts (p x) (list_all p xs) a in list_all_cons p x (xs ++ ys) k.0 (list_all_append p xs ys k.1 b)

-- bytes that pass the test are equal
pub bytes_eq_same : (xs ys : List ℕ) → bytes_eq xs ys ≡ true → xs ≡ ys
bytes_eq_same xs ys = (bytes_eq-Decides xs ys).0

pub refilled : {A : Type 0} (v : Vec A Global) (ws : List A) → length ws ≡ length v.items → (with_items v ws).items ≡ ws
refilled v ws e = let k = v.ok.0 in grind (arith, common_steps)

-- two maps as one
pub map_map : {A B C : Type 0} (g : B → C) (f : A → B) (xs : List A) → map g (map f xs) ≡ map (λ x. g (f x)) xs
map_map g f [] = refl
map_map g f (x ∷ xs) = ap (λ l. g (f x) ∷ l) (map_map g f xs)

pub map_range : {A : Type 0} (f g : ℕ → A) (a n : ℕ) → ((i : ℕ) → i < n → f (a + i) ≡ g (a + i)) → map f (range_with_len a n) ≡ map g (range_with_len a n)
map_range f g a zero h = refl
map_range f g a (suc n) h =
    let here : f a ≡ g a = (let e : a + 0 ≡ a = omega arith in subst (λ j. f j ≡ g j) e (h 0 (omega arith))) in
    let more : map f (range_with_len (a + 1) n) ≡ map g (range_with_len (a + 1) n) =
    map_range f g (a + 1) n (λ i lt. let e : a + suc i ≡ (a + 1) + i = omega arith in subst (λ j. f j ≡ g j) e (h (suc i) (let l : suc i < suc n = omega (arith, lt) in l))) in
    ap (λ x. x ∷ map f (range_with_len (a + 1) n)) here ∙ ap (λ l. g a ∷ l) more
