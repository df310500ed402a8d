-- The end of the walk: components that some path leaves unwritten.
use Rattle.std.proofs.Common.{◌≡◌, ℕ, zero, suc, ◌+◌, ◌-◌, ◌<◌, ◌≤◌, List, Option, None, Bool, true, false, ◌&&◌, ◌||◌, refl, sym, ap, ◌∙◌, ⊎_elim, arith, add-one}
use Rattle.std.proofs.lemmas.Bool.{cases_lt}
use Rattle.std.proofs.Math.Path.{fun_ext}
use Rattle.c_tree.specs.declared.lexer.tokens.Pos.{Pos}
use Rattle.kernel_model.specs.Resolved.{StmtWithin, RowWithin}
use Rattle.kernel_model.specs.declared.types.statements.RStmt.{RStmt, Block', Declare, SetScalar, SetLocal, SetArg, If', For', Row_of-RStmt, end_of-RStmt, more_of-RStmt}
use Rattle.kernel_model.specs.Obeys.{Mode, mode_at, Counters, no_counters}
use Rattle.kernel_model.specs.Refusals.{NotAllWritten, opposite}
use Rattle.kernel_model.specs.Walk.{Breach, Covered, none_covered, all_below, is_op_write, noted_if, leaves_unwritten, ends_found}
use Rattle.access_check.specs.Indices.{expr_names, stmt_names, row_names}
use Rattle.access_check.proofs.Unnamed.{or_left}
use Rattle.access_check.specs.Agree.{Agree, CountersFit, RowCountersFit}
use Rattle.lemmas.proofs.Truth.{or_right}
use Rattle.std.proofs.Math.Bool.{and-false}

-- ---- all numbers below one

pub below_step : (p : ℕ → Bool) (n : ℕ) → all_below p n ≡ true → p n ≡ true → all_below p (n + 1) ≡ true
below_step p n h e = ap (all_below p) (add-one n) ∙ ap (λ b. b && all_below p n) e ∙ h

pub below_lacks : (p : ℕ → Bool) (n i : ℕ) → i < n → p i ≡ false → all_below p n ≡ false
below_lacks p zero i l e = absurd (omega (arith, l))
below_lacks p (suc n) i l e = ⊎_elim
    (λ (m : i < n). ap (λ b. p n && b) (below_lacks p n i m e) ∙ and-false (p n))
    (λ (m : n ≤ i). let q : i ≡ n = omega arith in ap (λ b. b && all_below p n) (ap p (sym q) ∙ e))
    (cases_lt i n)

below_same : (p q : ℕ → Bool) (n : ℕ) → ((i : ℕ) → i < n → p i ≡ q i) → all_below p n ≡ all_below q n
below_same p q zero h = refl
below_same p q (suc n) h = ap (λ b. b && all_below p n) (h n (omega arith)) ∙ ap (λ b. q n && b) (below_same p q n (λ i l. h i (let m : i < suc n = omega arith in m)))

-- ---- the arguments in order

pub end_step : (place : ℕ → Pos) (modes : List Mode) (c d : Covered) → Agree modes c d
    → (a n : ℕ) (b : Bool) (at : Pos) (found next : Option Breach) → a < n
    → b ≡ (is_op_write (mode_at modes a).access && opposite (all_below (d a) (mode_at modes a).dim)) → at ≡ place a
    → next ≡ noted_if b NotAllWritten at found → ends_found place modes c (a + 1) (n - (a + 1)) next ≡ ends_found place modes c a (n - a)
    found
end_step place modes c d h a n b at found next lt e f g =
    let m : n - a ≡ suc (n - (a + 1)) = omega arith in
    let whole : all_below (c a) (mode_at modes a).dim ≡ all_below (d a) (mode_at modes a).dim = below_same (c a) (d a) (mode_at modes a).dim (λ i l. h a i l) in
    let same : b ≡ leaves_unwritten modes c a = e ∙ ap (λ x. is_op_write (mode_at modes a).access && opposite x) (sym whole) in
    ap (λ j. ends_found place modes c j (n - (a + 1)) next) (add-one a)
    ∙ ap (ends_found place modes c (suc a) (n - (a + 1))) (g ∙ ap (λ x. noted_if x NotAllWritten at found) same ∙ ap (λ x. noted_if (leaves_unwritten modes c a) NotAllWritten x found) f)
    ∙ sym (ap (λ j. ends_found place modes c a j found) m)

-- ---- the start

pub no_counter : (cs : Counters) → ((k : ℕ) → cs k ≡ None) → cs ≡ no_counters
no_counter cs h = fun_ext h

pub no_component : (c : Covered) → ((a i : ℕ) → c a i ≡ false) → c ≡ none_covered
no_component c h = fun_ext (λ a. fun_ext (h a))

-- ---- resolved kernels

module _ (params scratch consts : ℕ) (named : ℕ → Bool) where
  mutual
    pub counters_fit : (st : RStmt) → StmtWithin params scratch consts st → ((k : ℕ) → named k ≡ false → stmt_names st k ≡ false) → CountersFit scratch named st
    counters_fit (Block' shape all) h n = row_fits all h n
    counters_fit (Declare from count) h n = tt
    counters_fit (SetScalar k op opat e) h n = tt
    counters_fit (SetLocal from count form ix at op opat e) h n = tt
    counters_fit (SetArg a form ix at op opat e) h n = tt
    counters_fit (If' e p a q b) h n =
        let more : (k : ℕ) → named k ≡ false → (stmt_names a k || stmt_names b k) ≡ false = λ k m. or_right (expr_names false e k) (stmt_names a k || stmt_names b k) (n k m) in
        (counters_fit a h.1 (λ k m. or_left (stmt_names a k) (stmt_names b k) (more k m)), counters_fit b h.2 (λ k m. or_right (stmt_names a k) (stmt_names b k) (more k m)))
    counters_fit (For' k first past p body) h n = (h.0, h.1, n k, counters_fit body h.2 n)

    row_fits : {m : _} → (all : Row_of-RStmt m) → RowWithin params scratch consts all → ((k : ℕ) → named k ≡ false → row_names all k ≡ false) → RowCountersFit scratch named all
    row_fits end_of-RStmt h n = tt
    row_fits (more_of-RStmt first rest) h n =
        (counters_fit first h.0 (λ k m. or_left (stmt_names first k) (row_names rest k) (n k m)), row_fits rest h.1 (λ k m. or_right (stmt_names first k) (row_names rest k) (n k m)))
