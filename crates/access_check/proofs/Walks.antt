-- Steps of the walk: statements of a block, and turns of a for.
use Rattle.std.proofs.Common.{◌≡◌, ℕ, zero, suc, ℤ, pos, ◌+◌, ◌-◌, ◌<◌, ◌≤◌, List, [], ◌∷◌, length, get_or, set, drop, drop-cons, Option, Some, None, Bool, true, false, cond, ◌||◌, refl, sym, ap, ◌∙◌, subst, arith, Vec, Global, add-one, get_or-set_other, get_or-set_same}
use Rattle.std.specs.Prelude.{nat_eq}
use Rattle.std.proofs.lemmas.Bool.{eqb-true, eqb-false}
use Rattle.std.proofs.Math.Path.{fun_ext}
use mathlib.Core.Former.{Count}
use Rattle.kernel_model.specs.declared.types.statements.RStmt.{RStmt, Block, Block', Row_of-RStmt, end_of-RStmt, more_of-RStmt, items-the_row-RStmt, items_hidden-the_row-RStmt-0}
use Rattle.kernel_model.specs.Obeys.{Mode, Counters, with_counter}
use Rattle.kernel_model.specs.Walk.{Breach, Covered, stmt_found, row_found, covered_after, row_covered_after, turns_found, turns_covered}
use Rattle.access_check.specs.Agree.{Agree, CountersFit, RowCountersFit}
use Rattle.access_check.specs.Indices.{stmt_names, row_names, list_names}
use Rattle.access_check.specs.Rows.{list_found, list_covered, ListFits}
use Rattle.access_check.specs.States.{counters_of}
use Rattle.access_check.proofs.Agreeing.{stmt_same, covered_agree, turns_same, turns_agree}

abbrev row_of : RStmt → (n : Count) × Row_of-RStmt n
row_of (Block' _ row) = (_, row)
row_of _ = (_, end_of-RStmt)

-- ---- blocks as lists

found_of_row : (modes : List Mode) (n : _) (row : Row_of-RStmt n) (cs : Counters) (c : Covered) (found : Option Breach)
    → row_found modes row cs c found ≡ list_found modes (items-the_row-RStmt n row) cs c found
found_of_row modes n end_of-RStmt cs c found = refl
found_of_row modes n (more_of-RStmt first rest) cs c found = found_of_row modes _ rest cs (covered_after first cs c) (stmt_found modes first cs c found)

pub found_of_block : (modes : List Mode) (all : Vec RStmt Global) (cs : Counters) (c : Covered) (found : Option Breach)
    → stmt_found modes (Block all) cs c found ≡ list_found modes all.items cs c found
found_of_block modes all cs c found =
    let row = row_of (Block all) in
    found_of_row modes row.0 row.1 cs c found ∙ ap (λ l. list_found modes l cs c found) (items_hidden-the_row-RStmt-0 all)

covered_of_row : (n : _) (row : Row_of-RStmt n) (cs : Counters) (c : Covered) → row_covered_after row cs c ≡ list_covered (items-the_row-RStmt n row) cs c
covered_of_row n end_of-RStmt cs c = refl
covered_of_row n (more_of-RStmt first rest) cs c = covered_of_row _ rest cs (covered_after first cs c)

pub covered_of_block : (all : Vec RStmt Global) (cs : Counters) (c : Covered) → covered_after (Block all) cs c ≡ list_covered all.items cs c
covered_of_block all cs c =
    let row = row_of (Block all) in
    covered_of_row row.0 row.1 cs c ∙ ap (λ l. list_covered l cs c) (items_hidden-the_row-RStmt-0 all)

fits_row : (cells : ℕ) (named : ℕ → Bool) (m : _) (row : Row_of-RStmt m) → RowCountersFit cells named row → ListFits cells named (items-the_row-RStmt m row)
fits_row cells named m end_of-RStmt h = tt
fits_row cells named m (more_of-RStmt first rest) h = (h.0, fits_row cells named _ rest h.1)

pub fits_block : (cells : ℕ) (named : ℕ → Bool) (all : Vec RStmt Global) → CountersFit cells named (Block all) → ListFits cells named all.items
fits_block cells named all h =
    let row = row_of (Block all) in
    subst (ListFits cells named) (items_hidden-the_row-RStmt-0 all) (fits_row cells named row.0 row.1 h)

names_of_row : (n : _) (row : Row_of-RStmt n) (k : ℕ) → row_names row k ≡ list_names (items-the_row-RStmt n row) k
names_of_row n end_of-RStmt k = refl
names_of_row n (more_of-RStmt first rest) k = ap (λ b. stmt_names first k || b) (names_of_row _ rest k)

pub names_of_block : (all : Vec RStmt Global) (k : ℕ) → stmt_names (Block all) k ≡ list_names all.items k
names_of_block all k =
    let row = row_of (Block all) in
    names_of_row row.0 row.1 k ∙ ap (λ l. list_names l k) (items_hidden-the_row-RStmt-0 all)

-- ---- lists

pub list_same : (modes : List Mode) (items : List RStmt) (cs : Counters) (c d : Covered) → Agree modes c d → (found : Option Breach)
    → list_found modes items cs c found ≡ list_found modes items cs d found
list_same modes [] cs c d h found = refl
list_same modes (st ∷ rest) cs c d h found =
    list_same modes rest cs (covered_after st cs c) (covered_after st cs d) (covered_agree modes st cs c d h)
    (stmt_found modes st cs c found) ∙ ap (list_found modes rest cs (covered_after st cs d)) (stmt_same modes st cs c d h found)

pub list_agree : (modes : List Mode) (items : List RStmt) (cs : Counters) (c d : Covered) → Agree modes c d → Agree modes (list_covered items cs c) (list_covered items cs d)
list_agree modes [] cs c d h = h
list_agree modes (st ∷ rest) cs c d h = list_agree modes rest cs (covered_after st cs c) (covered_after st cs d) (covered_agree modes st cs c d h)

pub agree_then : (modes : List Mode) (c d e : Covered) → Agree modes c d → Agree modes d e → Agree modes c e
agree_then modes c d e h k = λ a i l. h a i l ∙ k a i l

-- one statement of a list
pub found_step : (modes : List Mode) (st : RStmt) (rest : List RStmt) (cs : Counters) (c d : Covered) (found next : Option Breach)
    → Agree modes (covered_after st cs c) d → next ≡ stmt_found modes st cs c found
    → list_found modes rest cs d next ≡ list_found modes (st ∷ rest) cs c found
found_step modes st rest cs c d found next h e = ap (list_found modes rest cs d) e ∙ sym (list_same modes rest cs (covered_after st cs c) d h (stmt_found modes st cs c found))

pub covered_step : (modes : List Mode) (st : RStmt) (rest : List RStmt) (cs : Counters) (c d : Covered)
    → Agree modes (covered_after st cs c) d → Agree modes (list_covered (st ∷ rest) cs c) (list_covered rest cs d)
covered_step modes st rest cs c d h = list_agree modes rest cs (covered_after st cs c) d h

-- ---- counters

pub counters_with : (cells : List (Option ℤ)) (k : ℕ) (v : ℤ) → k < length cells → counters_of (set cells k (Some v)) ≡ with_counter (counters_of cells) k v
counters_with cells k v lt = fun_ext at
  where
    at : (j : ℕ) → counters_of (set cells k (Some v)) j ≡ with_counter (counters_of cells) k v j
    at j = pick (nat_eq j k) refl
      where
        pick : (b : Bool) → nat_eq j k ≡ b → get_or (set cells k (Some v)) j None ≡ cond b (Some v) (get_or cells j None)
        pick true e = ap (λ m. get_or (set cells k (Some v)) m None) (eqb-true j k e) ∙ get_or-set_same cells k (Some v) None lt
        pick false e = get_or-set_other cells k j (Some v) None (eqb-false j k e)

-- ---- turns

module _ (modes : List Mode) (t : ℕ → Covered → Option Breach → Option Breach) (u : ℕ → Covered → Covered) where
  pub turn_found : ((i : ℕ) (c d : Covered) → Agree modes c d → Agree modes (u i c) (u i d))
      → ((i : ℕ) (c d : Covered) → Agree modes c d → (found : Option Breach) → t i c found ≡ t i d found)
      → (i past : ℕ) (c d : Covered) (found next : Option Breach) → i < past → Agree modes (u i c) d → next ≡ t i c found
      → turns_found modes t u (i + 1) (past - (i + 1)) d next ≡ turns_found modes t u i (past - i) c found
  turn_found ih it i past c d found next lt h e =
      let n : past - i ≡ suc (past - (i + 1)) = omega arith in
      ap (turns_found modes t u (i + 1) (past - (i + 1)) d) e
      ∙ ap (λ j. turns_found modes t u j (past - (i + 1)) d (t i c found)) (add-one i)
      ∙ sym (turns_same modes t u ih it (suc i) (past - (i + 1)) (u i c) d h (t i c found))
      ∙ sym (ap (λ m. turns_found modes t u i m c found) n)

  pub turn_covered : ((i : ℕ) (c d : Covered) → Agree modes c d → Agree modes (u i c) (u i d)) → (i past : ℕ) (c d : Covered) → i < past
      → Agree modes (u i c) d → Agree modes (turns_covered u i (past - i) c) (turns_covered u (i + 1) (past - (i + 1)) d)
  turn_covered ih i past c d lt h =
      let n : suc (past - (i + 1)) ≡ past - i = omega arith in
      subst (λ m. Agree modes (turns_covered u i m c) (turns_covered u (i + 1) (past - (i + 1)) d)) n
      (subst (λ j. Agree modes (turns_covered u (suc i) (past - (i + 1)) (u i c)) (turns_covered u j (past - (i + 1)) d)) (sym (add-one i))
      (turns_agree modes u ih (suc i) (past - (i + 1)) (u i c) d h))

  pub covered_end : (i past : ℕ) (c : Covered) → past ≤ i → turns_covered u i (past - i) c ≡ c
  covered_end i past c le = let e : past - i ≡ 0 = omega arith in ap (λ m. turns_covered u i m c) e

-- the turns of a for
pub turn_ih : (modes : List Mode) (body : RStmt) (cs : Counters) (k : ℕ) → (i : ℕ) (c d : Covered) → Agree modes c d
    → Agree modes (covered_after body (with_counter cs k (pos i)) c) (covered_after body (with_counter cs k (pos i)) d)
turn_ih modes body cs k i c d h = covered_agree modes body (with_counter cs k (pos i)) c d h

pub turn_it : (modes : List Mode) (body : RStmt) (cs : Counters) (k : ℕ) → (i : ℕ) (c d : Covered) → Agree modes c d
    → (found : Option Breach) → stmt_found modes body (with_counter cs k (pos i)) c found ≡ stmt_found modes body
    (with_counter cs k (pos i)) d found
turn_it modes body cs k i c d h found = stmt_same modes body (with_counter cs k (pos i)) c d h found

-- ---- cells of lists

pub set_again : {A : Type 0} (xs : List A) (k : ℕ) (v w : A) → set (set xs k v) k w ≡ set xs k w
set_again [] k v w = refl
set_again (x ∷ xs) zero v w = refl
set_again (x ∷ xs) (suc k) v w = ap (λ l. x ∷ l) (set_again xs k v w)

pub drop_here : (xs : List RStmt) (i : ℕ) (x : RStmt) → i < length xs → x ≡ get_or xs i x → drop i xs ≡ x ∷ drop (i + 1) xs
drop_here xs i x lt e = drop-cons xs i x lt ∙ ap (λ y. y ∷ drop (suc i) xs) (sym e) ∙ ap (λ n. x ∷ drop n xs) (sym (add-one i))
