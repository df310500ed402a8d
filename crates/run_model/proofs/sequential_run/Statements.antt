-- A statement of `main` that is no loop does alike in both runs.
use Rattle.std.proofs.Common.{◌≡◌, ◌<◌, ℕ, ℤ, pos, negsuc, Bool, true, false, List, [], ◌∷◌, ◌++◌, length, Option, Some, None, Result, Ok, Err, cond, refl, sym, ap, ap₂, ◌∙◌, subst}
use Rattle.std.specs.Prelude.{nat_lt}
use Rattle.std.proofs.lemmas.Bool.{ltb-true}
use Rattle.std.proofs.lemmas.List.{append-nil}
use Rattle.c_tree.specs.declared.lexer.tokens.Pos.{Pos}
use Rattle.kernel_model.specs.declared.types.faults.KernelFault.{KernelFault}
use Rattle.kernel_model.specs.View.{RExprTree}
use Rattle.kernel_model.specs.Meaning.{cell, on_value, index_in, stored}
use Rattle.mesh_decl.specs.Printed.{printed_dat, printed_line}
use Rattle.schedule_model.specs.Cells.{Cell, Data, Variable, Store}
use Rattle.schedule_model.specs.Program.{Hosted, Halts}
use Rattle.schedule_model.specs.Sequential.{with_variables, after_host}
use Rattle.bound_program.specs.HostExpr.{value}
use Rattle.bound_program.specs.Values.{BoundValue, VarValue, ActValue, Clear, Assign, Line, Print, Exit}
use Rattle.bound_program.specs.Fits.{ActFits, var_at}
use Rattle.run_model.specs.Hosts.{variables_of, act_run}
use Rattle.run_model.specs.Hosts as hosts
use Rattle.run_model.specs.Arrays.{Arrays, array_of}
use Rattle.run_model.specs.Runs.{Run, stops}
use Rattle.run_model.specs.Statements.{value_of, values_of, component_of, after_statement}
use Rattle.run_model.specs.Holds.{IsCell, array_with, index_of, Holds}
use Rattle.run_model.specs.SequentialLaws.{Agree}
use Rattle.run_model.proofs.sequential_run.Values.{dat_same, variables_same}
use Rattle.run_model.proofs.sequential_run.Stored.{zeros, one_value}

-- what is so of the value, if there is one
abbrev On : {A : Type 0} → (A → Type 0) → Result A KernelFault → Type 0
On P (Ok x) = P x
On P (Err f) = Unit {0}

anything : {A : Type 0} (r : Result A KernelFault) → On (λ x. Unit {0}) r
anything (Ok x) = tt
anything (Err f) = tt

-- an index that passed its test
tested : (t : Bool) (n m : ℕ) (f : KernelFault) → (t ≡ true → m < n) → On (λ i. i < n) (cond t (Ok m) (Err f))
tested true n m f lt = lt refl
tested false n m f lt = tt

below : (n : ℕ) (at : Pos) (z : ℤ) → On (λ i. i < n) (index_in n at z)
below n at (pos m) = tested (nat_lt m n) n m _ (ltb-true m n)
below n at (negsuc m) = tt

then_below : (n : ℕ) (r : Result ℤ KernelFault) (go : ℤ → Result ℕ KernelFault) → ((z : ℤ) → On (λ i. i < n) (go z)) → On (λ i. i < n) (on_value Err r go)
then_below n (Ok z) go h = h z
then_below n (Err f) go h = tt

module _ (b : BoundValue) (l : Arrays) (s : Store) (h : Holds b l s) where
  -- ---- values

  value_same : (e : RExprTree) → value_of b l e ≡ hosts.value_of b s e
  value_same e = ap (λ cells. value [] cells e) (variables_same b l s h)

  values_same : (es : List RExprTree) → values_of b l es ≡ hosts.values_of b s es
  values_same [] = refl
  values_same (e ∷ es) = ap₂ (λ r q. on_value Err r (λ z. on_value Err q (λ zs. Ok (z ∷ zs)))) (value_same e) (values_same es)

  component_same : (v : VarValue) (at : Pos) (index : Option RExprTree) → component_of b l v at index ≡ hosts.component_of b s v at index
  component_same v at None = refl
  component_same v at (Some e) = ap (λ r. on_value Err r (λ z. index_in (length v.start) at z)) (value_same e)

  component_below : (v : VarValue) (at : Pos) (index : Option RExprTree) → 0 < length v.start → On (λ i. i < length v.start) (hosts.component_of b s v at index)
  component_below v at None some = some
  component_below v at (Some e) some = then_below (length v.start) (hosts.value_of b s e) (index_in (length v.start) at) (below (length v.start) at)

  -- the arrays hold the store with its own values of the variables
  still : Holds b l (with_variables (variables_of s) s)
  still = record { count = h.count; dats = h.dats; vars = h.vars; values = own }
    where
      own : (c : Cell) → IsCell b c → cell l (array_with b c) (index_of b c) ≡ with_variables (variables_of s) s c
      own (Data c) here = h.values (Data c) here
      own (Variable v) here = h.values (Variable v) here

  module _ (k : ℕ) (o p : List ℕ) (same : o ≡ p) where
    one_value_each : {A : Type 0} (P : A → Type 0) (r : Result A KernelFault) (f : A → Run) (g : A → Hosted KernelFault)
        → On P r → ((x : A) → P x → Agree b (f x) (after_host k s p (g x)))
        → Agree b (on_value (stops k None o) r f) (after_host k s p (on_value Halts r g))
    one_value_each P (Ok x) f g on each = each x on
    one_value_each P (Err x) f g on each = (refl, same)

    -- both go on by one value, or stop with its fault
    by_value : {A : Type 0} (P : A → Type 0) (r q : Result A KernelFault) (f : A → Run) (g : A → Hosted KernelFault) → r ≡ q
        → On P q → ((x : A) → P x → Agree b (f x) (after_host k s p (g x)))
        → Agree b (on_value (stops k None o) r f) (after_host k s p (on_value Halts q g))
    by_value P r q f g e on each =
        subst (λ x. Agree b (on_value (stops k None o) x f) (after_host k s p (on_value Halts q g))) (sym e) (one_value_each P q f g on each)

    silent : o ≡ p ++ []
    silent = same ∙ sym (append-nil p)

    pub statement_agrees : (a : ActValue) → ActFits b a → Agree b (after_statement b k a l o) (after_host k s p (act_run b s a))
    statement_agrees (Clear v) fit = (zeros b l s h v fit, silent)
    statement_agrees (Assign v index op op_at e at) fit =
        by_value (λ i. i < length (var_at b v).start) (component_of b l (var_at b v) at index) (hosts.component_of b s (var_at b v) at index) _ _
        (component_same (var_at b v) at index) (component_below (var_at b v) at index fit.1) (λ i li.
        by_value (λ x. Unit {0}) (value_of b l e) (hosts.value_of b s e) _ _ (value_same e) (anything (hosts.value_of b s e)) (λ x u.
        let new : Result ℤ KernelFault = stored op op_at (s (Variable (record { variable = v; component = i }))) x in
        by_value (λ z. Unit {0}) (stored op op_at (cell l (array_of b v) i) x) new _ _
        (ap (λ y. stored op op_at y x) (h.values (Variable (record { variable = v; component = i })) (fit.0, li))) (anything new)
        (λ z w. (one_value b l s h v i z fit.0 li, silent))))
    statement_agrees (Line text es) fit =
        by_value (λ zs. Unit {0}) (values_of b l es) (hosts.values_of b s es) _ _ (values_same es) (anything (hosts.values_of b s es))
        (λ zs u. (still, ap (λ x. x ++ printed_line text zs) same))
    statement_agrees (Print d file) fit = (still, ap₂ (λ x zs. x ++ printed_dat file b.mesh d zs) same (dat_same b l s h d fit))
    statement_agrees Exit fit = (still, silent)
