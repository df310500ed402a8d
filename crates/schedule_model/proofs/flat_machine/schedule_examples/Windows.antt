-- The ring's kernels on windows do what they do on stores.
use Rattle.std.proofs.Common.{◌≡◌, ℕ, ℤ, zero, suc, ◌<◌, pos, ◌+ℤ◌, Bool, true, false, cond, refl, sym, ap, subst, ◌∙◌, arith, ⊎_elim, List, [], ◌∷◌, map, length, w32}
use Rattle.std.specs.Prelude.{◌&&◌, ◌==◌, nat_lt}
use Rattle.std.specs.Int.{int_wrap}
use Rattle.std.proofs.lemmas.Bool.{cases_Bool, false≢true, and_parts, and_from, cond-true, cond-false, eqb-true, eq-eqb, lt-ltb}
use Rattle.schedule_model.specs.Cells.{Cell, Data, Variable, DatCell, VarCell, Store, same_cell}
use Rattle.schedule_model.specs.Tests.{same_cell_refl, same_cell_true}
use Rattle.schedule_model.specs.Program.{is_loop}
use Rattle.schedule_model.specs.Effects.{Finished}
use Rattle.schedule_model.specs.Layout.{Leaves, lookup, of_core}
use Rattle.schedule_model.specs.Ring.{other, x_cell, r_cell, sum_cell, one_cell, x, r, sum, one, base, is_x, is_r, is_sum, kind, written, added, moved, unless, run}
use Rattle.schedule_model.specs.RingLayout.{cells, unless_core, constant_of, core_run}
use Rattle.schedule_model.proofs.flat_machine.schedule_examples.Lawful.{of_node}
use Rattle.lemmas.proofs.Truth.{iff_eq}

-- ---- cells
-- a cell of a dat of the ring
pub x_is : (c : DatCell) → is_x c ≡ true → c ≡ x_cell c.element
x_is c h =
    let a : ((c.dat == 0) ≡ true) × ((nat_lt c.element 2 && (c.component == 0)) ≡ true) = and_parts (c.dat == 0) (nat_lt c.element 2 && (c.component == 0)) h in
    let d : c.dat ≡ 0 = eqb-true c.dat 0 a.0 in
    let i : c.component ≡ 0 = eqb-true c.component 0 (and_parts (nat_lt c.element 2) (c.component == 0) a.1).1 in
    λ j. record { dat = d j; element = c.element; component = i j }

pub r_is : (c : DatCell) → is_r c ≡ true → c ≡ r_cell c.element
r_is c h =
    let a : ((c.dat == 1) ≡ true) × ((nat_lt c.element 2 && (c.component == 0)) ≡ true) = and_parts (c.dat == 1) (nat_lt c.element 2 && (c.component == 0)) h in
    let d : c.dat ≡ 1 = eqb-true c.dat 1 a.0 in
    let i : c.component ≡ 0 = eqb-true c.component 0 (and_parts (nat_lt c.element 2) (c.component == 0) a.1).1 in
    λ j. record { dat = d j; element = c.element; component = i j }

pub sum_is : (v : VarCell) → is_sum v ≡ true → v ≡ sum_cell
sum_is v h =
    let a : ((v.variable == 0) ≡ true) × ((v.component == 0) ≡ true) = and_parts (v.variable == 0) (v.component == 0) h in
    let d : v.variable ≡ 0 = eqb-true v.variable 0 a.0 in
    let i : v.component ≡ 0 = eqb-true v.component 0 a.1 in
    λ j. record { variable = d j; component = i j }

-- below 2 there are two numbers
pub two : (P : ℕ → Type 0) → P 0 → P 1 → (n : ℕ) → n < 2 → P n
two P a b zero lt = a
two P a b (suc zero) lt = b
two P a b (suc (suc n)) lt = absurd (omega arith)

-- ---- runs on windows
-- a value that stands for one cell
one_of : (y c : Cell) (v d : ℤ) → (y ≡ c → v ≡ d) → cond (same_cell y c) v d ≡ d
one_of y c v d h = ⊎_elim (λ t. cond-true (same_cell y c) v d t ∙ h (same_cell_true y c t)) (λ t. cond-false (same_cell y c) v d t) (cases_Bool (same_cell y c))

-- the cell is x of the element
pub is_x_of : (e : ℕ) (c : DatCell) → e < 2 → (is_x c && (c.element == e)) ≡ same_cell (x e) (Data c)
is_x_of e c lt = iff_eq (is_x c && (c.element == e)) (same_cell (x e) (Data c))
    (λ h. let a : (is_x c ≡ true) × ((c.element == e) ≡ true) = and_parts (is_x c) (c.element == e) h in
    subst (λ z. same_cell (x e) (Data z) ≡ true) (sym (x_is c a.0 ∙ ap x_cell (eqb-true c.element e a.1))) (same_cell_refl (x e)))
    (λ h. let i : x_cell e ≡ c = (let j : x e ≡ Data c = same_cell_true (x e) (Data c) h in cc) in
    subst (λ z. (is_x z && (z.element == e)) ≡ true) i (and_from (is_x (x_cell e)) (e == e) (and_from (nat_lt e 2) true (lt-ltb e 2 lt) refl) (eq-eqb e e refl)))

written_is : (e : ℕ) (s : Store) → e < 2 → (c : Cell) → written e s c ≡ lookup (x e ∷ base ∷ []) (int_wrap w32 (pos (suc e) +ℤ (s base +ℤ s base)) ∷ s base ∷ []) c (s c)
written_is e s lt (Data c) = ap (λ b. cond b (int_wrap w32 (pos (suc e) +ℤ (s base +ℤ s base))) (s (Data c))) (is_x_of e c lt)
written_is e s lt (Variable v) = sym (one_of base (Variable v) (s base) (s (Variable v)) (λ i. ap s i))

moved_is : (e : ℕ) (s : Store) → e < 2 → (c : Cell) → moved e s c ≡ lookup (x e ∷ r e ∷ []) (int_wrap w32 (s (x e) +ℤ s (r e)) ∷ s (r e) ∷ []) c (s c)
moved_is e s lt (Data c) =
    ap (λ b. cond b (int_wrap w32 (s (Data c) +ℤ s (r e))) (s (Data c))) (is_x_of e c lt)
    ∙ ⊎_elim
    (λ (t : same_cell (x e) (Data c) ≡ true).
    cond-true (same_cell (x e) (Data c)) (int_wrap w32 (s (Data c) +ℤ s (r e))) (s (Data c)) t
    ∙ (ap (λ z. int_wrap w32 (s z +ℤ s (r e))) (sym (same_cell_true (x e) (Data c) t))
    ∙ sym (cond-true (same_cell (x e) (Data c)) (int_wrap w32 (s (x e) +ℤ s (r e))) (cond (same_cell (r e) (Data c)) (s (r e)) (s (Data c))) t)))
    (λ (t : same_cell (x e) (Data c) ≡ false).
    cond-false (same_cell (x e) (Data c)) (int_wrap w32 (s (Data c) +ℤ s (r e))) (s (Data c)) t
    ∙ (sym (one_of (r e) (Data c) (s (r e)) (s (Data c)) (λ i. ap s i))
    ∙ sym (cond-false (same_cell (x e) (Data c)) (int_wrap w32 (s (x e) +ℤ s (r e))) (cond (same_cell (r e) (Data c)) (s (r e)) (s (Data c))) t)))
    (cases_Bool (same_cell (x e) (Data c)))
moved_is e s lt (Variable v) = refl

-- the values of item 1's windows
abbrev new : Store → List ℤ
new s = s (x 0) ∷ s (x 1) ∷ int_wrap w32 (s (r 0) +ℤ s (x 1)) ∷ int_wrap w32 (s (r 1) +ℤ s (x 0)) ∷ int_wrap w32 (s sum +ℤ s one) ∷ []

abbrev pub all : List Cell
all = x 0 ∷ x 1 ∷ r 0 ∷ r 1 ∷ sum ∷ []

-- a cell that is neither r's nor the sum keeps its value
not_r : (s : Store) (c : DatCell) → is_r c ≡ false → s (Data c) ≡ lookup all (new s) (Data c) (s (Data c))
not_r s c h = sym (
    one_of (x 0) (Data c) (s (x 0))
    (lookup (x 1 ∷ r 0 ∷ r 1 ∷ sum ∷ []) (s (x 1) ∷ int_wrap w32 (s (r 0) +ℤ s (x 1)) ∷ int_wrap w32 (s (r 1) +ℤ s (x 0))
    ∷ int_wrap w32 (s sum +ℤ s one) ∷ []) (Data c) (s (Data c))) (λ i. ap s i ∙ sym rest)
    ∙ rest)
  where
    no : (n : ℕ) → n < 2 → r n ≡ Data c → ⊥
    no n lt i = let j : r_cell n ≡ c = cc in false≢true (sym h ∙ subst (λ z. is_r z ≡ true) j (and_from (nat_lt n 2) true (lt-ltb n 2 lt) refl))

    last : cond (same_cell (r 1) (Data c)) (int_wrap w32 (s (r 1) +ℤ s (x 0))) (s (Data c)) ≡ s (Data c)
    last = one_of (r 1) (Data c) (int_wrap w32 (s (r 1) +ℤ s (x 0))) (s (Data c)) (λ i. absurd (no 1 (omega arith) i))

    rest : lookup (x 1 ∷ r 0 ∷ r 1 ∷ sum ∷ []) (s (x 1) ∷ int_wrap w32 (s (r 0) +ℤ s (x 1)) ∷ int_wrap w32 (s (r 1) +ℤ s (x 0)) ∷ int_wrap w32 (s sum +ℤ s one) ∷ []) (Data c) (s (Data c)) ≡ s (Data c)
    rest =
        ap (λ z. cond (same_cell (x 1) (Data c)) (s (x 1)) (cond (same_cell (r 0) (Data c)) (int_wrap w32 (s (r 0) +ℤ s (x 1))) z)) last
        ∙ (ap (cond (same_cell (x 1) (Data c)) (s (x 1))) (one_of (r 0) (Data c) (int_wrap w32 (s (r 0) +ℤ s (x 1))) (s (Data c)) (λ i. absurd (no 0 (omega arith) i)))
        ∙ one_of (x 1) (Data c) (s (x 1)) (s (Data c)) (λ i. ap s i))

at_r : (s : Store) (n : ℕ) → n < 2 → added s (r n) ≡ lookup all (new s) (r n) (s (r n))
at_r s n lt = two (λ n. added s (r n) ≡ lookup all (new s) (r n) (s (r n))) refl refl n lt

added_is : (s : Store) (c : Cell) → added s c ≡ lookup all (new s) c (s c)
added_is s (Data c) = ⊎_elim
    (λ (h : is_r c ≡ true). subst (λ z. added s (Data z) ≡ lookup all (new s) (Data z) (s (Data z))) (sym (r_is c h)) (at_r s c.element (of_node c 1 h).below))
    (λ (h : is_r c ≡ false). cond-false (is_r c) (int_wrap w32 (s (Data c) +ℤ s (x (other c.element)))) (s (Data c)) h ∙ not_r s c h)
    (cases_Bool (is_r c))
added_is s (Variable v) = ⊎_elim
    (λ (h : is_sum v ≡ true). subst (λ z. added s (Variable z) ≡ lookup all (new s) (Variable z) (s (Variable z))) (sym (sum_is v h)) refl)
    (λ (h : is_sum v ≡ false).
    cond-false (is_sum v) (int_wrap w32 (s (Variable v) +ℤ s one)) (s (Variable v)) h
    ∙ sym (one_of sum (Variable v) (int_wrap w32 (s sum +ℤ s one)) (s (Variable v)) (λ i. absurd (let j : sum_cell ≡ v = cc in false≢true (sym h ∙ ap is_sum (sym j))))))
    (cases_Bool (is_sum v))

unless_is : (faulty : Bool) (e : ℕ) (s t : Store) (xs : List Cell) (ws : List ℤ) → ((c : Cell) → t c ≡ lookup xs ws c (s c)) → unless faulty e t ≡ of_core xs s (unless_core faulty e ws)
unless_is true e s t xs ws h = refl
unless_is false e s t xs ws h = ap Finished (λ i c. h c i)

module _ (faulty : Bool) where
  pub run_is : (k e : ℕ) (s : Store) → is_loop (kind k) ≡ true → e < 2 → run faulty k e s ≡ of_core (cells k e) s (core_run faulty k e (map (λ v. s (Variable v)) (one_cell ∷ [])) (map s (cells k e)))
  run_is zero e s lp lt = ap Finished (λ i c. written_is e s lt c i)
  run_is (suc zero) e s lp lt = unless_is faulty e s (added s) all (new s) (added_is s)
  run_is (suc (suc zero)) e s lp lt = ap Finished (λ i c. moved_is e s lt c i)
  run_is (suc (suc (suc n))) e s lp lt = ap Finished (λ i c. moved_is e s lt c i)

  unless_length : (f : Bool) (e : ℕ) (ws us : List ℤ) (n : ℕ) → length ws ≡ n → unless_core f e ws ≡ Leaves us → length us ≡ n
  unless_length true e ws us n h i = cc
  unless_length false e ws us n h i = (let j : ws ≡ us = cc in ap length (sym j) ∙ h)

  pub same_length : (k e : ℕ) (cs ws us : List ℤ) → is_loop (kind k) ≡ true → e < 2 → length ws ≡ length (cells k e) → core_run faulty k e cs ws ≡ Leaves us → length us ≡ length (cells k e)
  same_length zero e cs [] us lp lt h i = absurd (omega arith)
  same_length zero e cs (a ∷ []) us lp lt h i = absurd (omega arith)
  same_length zero e cs (a ∷ b ∷ []) us lp lt h i = (let j : int_wrap w32 (pos (suc e) +ℤ (b +ℤ b)) ∷ b ∷ [] ≡ us = cc in ap length (sym j))
  same_length zero e cs (a ∷ b ∷ c ∷ ws) us lp lt h i = absurd (omega arith)
  same_length (suc zero) e cs [] us lp lt h i = absurd (omega arith)
  same_length (suc zero) e cs (a ∷ []) us lp lt h i = absurd (omega arith)
  same_length (suc zero) e cs (a ∷ b ∷ []) us lp lt h i = absurd (omega arith)
  same_length (suc zero) e cs (a ∷ b ∷ c ∷ []) us lp lt h i = absurd (omega arith)
  same_length (suc zero) e cs (a ∷ b ∷ c ∷ d ∷ []) us lp lt h i = absurd (omega arith)
  same_length (suc zero) e cs (a ∷ b ∷ c ∷ d ∷ s ∷ []) us lp lt h i =
      unless_length faulty e (a ∷ b ∷ int_wrap w32 (c +ℤ b) ∷ int_wrap w32 (d +ℤ a) ∷ int_wrap w32 (s +ℤ constant_of cs) ∷ []) us 5 refl i
  same_length (suc zero) e cs (a ∷ b ∷ c ∷ d ∷ s ∷ t ∷ ws) us lp lt h i = absurd (omega arith)
  same_length (suc (suc n)) e cs [] us lp lt h i = absurd (omega arith)
  same_length (suc (suc n)) e cs (a ∷ []) us lp lt h i = absurd (omega arith)
  same_length (suc (suc n)) e cs (a ∷ b ∷ []) us lp lt h i = (let j : int_wrap w32 (a +ℤ b) ∷ b ∷ [] ≡ us = cc in ap length (sym j))
  same_length (suc (suc n)) e cs (a ∷ b ∷ c ∷ ws) us lp lt h i = absurd (omega arith)
