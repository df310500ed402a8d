-- Cells of a store after a write.
use Rattle.std.proofs.Common.{◌≡◌, ◌≢◌, ℕ, ℤ, pos, ◌+◌, ◌<◌, List, [], Bool, true, false, cond, ◌&&◌, length, get_or, set, refl, sym, ap, ◌∙◌, subst, get_or-set_same, get_or-set_other}
use Rattle.std.specs.Prelude.{nat_eq}
use Rattle.std.proofs.lemmas.Bool.{eqb-true, eqb-false, eq-eqb}
use Rattle.std.proofs.lemmas.List.{length-set}
use Rattle.kernel_model.specs.Meaning.{Store, cell, with_cell, Target, target_at, read_arg, store_arg}
use Rattle.kernel_model.specs.Independence.{same_cell}

array-with_cell_same : (s : Store) (x k : ℕ) (v : ℤ) → x < length s → get_or (with_cell s x k v) x [] ≡ set (get_or s x []) k v
array-with_cell_same s x k v h = get_or-set_same s x (set (get_or s x []) k v) [] h

array-with_cell_other : (s : Store) (x k y : ℕ) (v : ℤ) → y ≢ x → get_or (with_cell s x k v) y [] ≡ get_or s y []
array-with_cell_other s x k y v ne = get_or-set_other s x y (set (get_or s x []) k v) [] ne

pub cell-with_cell : (s : Store) (x k y j : ℕ) (v : ℤ) → x < length s → k < length (get_or s x []) → cell (with_cell s x k v) y j ≡ cond (nat_eq x y && nat_eq k j) v (cell s y j)
cell-with_cell s x k y j v hx hk = go (nat_eq x y) (nat_eq k j) refl refl
  where
    go : (b c : Bool) → nat_eq x y ≡ b → nat_eq k j ≡ c → cell (with_cell s x k v) y j ≡ cond (b && c) v (cell s y j)
    go true true e f =
        let p : x ≡ y = eqb-true x y e in
        let q : k ≡ j = eqb-true k j f in
        subst (λ n. cell (with_cell s x k v) n j ≡ v) p
        (subst (λ n. cell (with_cell s x k v) x n ≡ v) q
        (ap (λ l. get_or l k (pos 0)) (array-with_cell_same s x k v hx) ∙ get_or-set_same (get_or s x []) k v (pos 0) hk))
    go true false e f =
        let p : x ≡ y = eqb-true x y e in
        let ne : j ≢ k = λ q. eqb-false k j f (sym q) in
        subst (λ n. cell (with_cell s x k v) n j ≡ cell s n j) p
        (ap (λ l. get_or l j (pos 0)) (array-with_cell_same s x k v hx) ∙ get_or-set_other (get_or s x []) k j v (pos 0) ne)
    go false c e f =
        let ne : y ≢ x = λ q. eqb-false x y e (sym q) in
        ap (λ l. get_or l j (pos 0)) (array-with_cell_other s x k y v ne)

pub read_arg-store_arg : (ts : List Target) (s : Store) (a i b j : ℕ) (v : ℤ) → (target_at ts a).array < length s
    → (target_at ts a).from + i < length (get_or s (target_at ts a).array [])
    → read_arg ts (store_arg ts s a i v) b j ≡ cond (same_cell ts a i b j) v (read_arg ts s b j)
read_arg-store_arg ts s a i b j v hx hk =
    cell-with_cell s (target_at ts a).array ((target_at ts a).from + i) (target_at ts b).array ((target_at ts b).from + j) v hx hk

-- a write keeps the shape
pub length-with_cell : (s : Store) (x k : ℕ) (v : ℤ) → length (with_cell s x k v) ≡ length s
length-with_cell s x k v = length-set s x (set (get_or s x []) k v)

pub length-array_with_cell : (s : Store) (x k y : ℕ) (v : ℤ) → x < length s → length (get_or (with_cell s x k v) y []) ≡ length (get_or s y [])
length-array_with_cell s x k y v hx = go (nat_eq x y) refl
  where
    go : (b : Bool) → nat_eq x y ≡ b → length (get_or (with_cell s x k v) y []) ≡ length (get_or s y [])
    go true e =
        let p : x ≡ y = eqb-true x y e in
        subst (λ n. length (get_or (with_cell s x k v) n []) ≡ length (get_or s n [])) p
        (ap length (array-with_cell_same s x k v hx) ∙ length-set (get_or s x []) k v)
    go false e = ap length (array-with_cell_other s x k y v (λ q. eqb-false x y e (sym q)))

-- one cell is read as one number
pub read-same_cell : (ts : List Target) (s : Store) (a i b j : ℕ) → same_cell ts a i b j ≡ true → read_arg ts s a i ≡ read_arg ts s b j
read-same_cell ts s a i b j e = go (nat_eq (target_at ts a).array (target_at ts b).array) (nat_eq ((target_at ts a).from + i) ((target_at ts b).from + j)) refl refl e
  where
    go : (p q : Bool) → nat_eq (target_at ts a).array (target_at ts b).array ≡ p
        → nat_eq ((target_at ts a).from + i) ((target_at ts b).from + j) ≡ q → (p && q) ≡ true → read_arg ts s a i ≡ read_arg ts s b j
    go true true f g h =
        let p : (target_at ts a).array ≡ (target_at ts b).array = eqb-true _ _ f in
        let q : (target_at ts a).from + i ≡ (target_at ts b).from + j = eqb-true _ _ g in
        ap (λ x. cell s x ((target_at ts a).from + i)) p ∙ ap (λ k. cell s (target_at ts b).array k) q
    go true false f g h = absurd (let k : ⊥ = cc in k)
    go false q f g h = absurd (let k : ⊥ = cc in k)

pub same_cell_refl : (ts : List Target) (a i : ℕ) → same_cell ts a i a i ≡ true
same_cell_refl ts a i =
    ap (λ b. b && nat_eq ((target_at ts a).from + i) ((target_at ts a).from + i)) (eq-eqb (target_at ts a).array (target_at ts a).array refl)
    ∙ eq-eqb ((target_at ts a).from + i) ((target_at ts a).from + i) refl
