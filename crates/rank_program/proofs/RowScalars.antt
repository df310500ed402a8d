-- The scalars of a loop let the arguments on its variables do what they may.
use Rattle.std.proofs.Common.{◌≡◌, ◌<◌, ℕ, zero, suc, Bool, true, false, List, [], ◌∷◌, length, get_or, Option, Some, None, refl, sym, ap, ◌∙◌, subst, arith}
use Rattle.std.specs.Prelude.{nat_lt}
use Rattle.std.proofs.lemmas.Bool.{lt-ltb, ltb-true, cond-true, cond-false}
use Rattle.op_num.specs.Reduction.{Reduction}
use Rattle.op_num.specs.declared.reductions.access.Access.{Access}
use Rattle.op_num.specs.Access.{OpRead, OpReduce, access_of}
use Rattle.schedule_model.specs.Cells.{Variable, VarCell}
use Rattle.run_model.specs.OnWindows.{no_cell}
use Rattle.bound_program.specs.declared.sites.Arg.TheVariants.{Global}
use Rattle.bound_program.specs.Values.{BoundValue}
use Rattle.bound_program.specs.Fits.{GlobalAccess, AllApart, site_at}
use Rattle.run_model.specs.Arguments.{no_arg, var_width}
use Rattle.bound_plan.specs.Variables.{variable_at, reduced_by, reduces_at}
use Rattle.bound_plan.proofs.Public.{Reducing, reduced_some}
use Rattle.rank_state.specs.declared.scalars.Operation.{Operation}
use Rattle.rank_state.specs.declared.scalars.Operation.TheVariants.{Sum, Least, Greatest}
use Rattle.rank_state.specs.declared.scalars.Scalar.{Scalar}
use Rattle.rank_state.specs.declared.scalars.Scalar.TheVariants.{Value, Amount}
use Rattle.rank_state.specs.Windows.{operation, index, scalar_cells}
use Rattle.rank_layout.specs.Tables.{slots, no_slot}
use Rattle.rank_layout.specs.Made.{IsSiteScalar, EachIsScalar}
use Rattle.kernel_runs.specs.RowLoops.{AllowsScalar, scalar_in, MergeAlike}
use Rattle.rank_program.proofs.RowArgs.{scalar_allows}

operation_one : (a b : Operation) → operation a ≡ operation b → a ≡ b
operation_one Sum Sum h = refl
operation_one Sum Least h = cc
operation_one Sum Greatest h = cc
operation_one Least Sum h = cc
operation_one Least Least h = refl
operation_one Least Greatest h = cc
operation_one Greatest Sum h = cc
operation_one Greatest Least h = cc
operation_one Greatest Greatest h = refl

one_variable : (v w : VarCell) → Variable v ≡ Variable w → v ≡ w
one_variable v w h = cc

module _ (b : BoundValue) (s : ℕ) where
  pub scalar_is : (xs : List Scalar) → EachIsScalar b s xs → (j : ℕ) → j < length xs → IsSiteScalar b s (scalar_in xs j)
  scalar_is [] h j lt = absurd (omega arith)
  scalar_is (x ∷ xs) h zero lt = h.0
  scalar_is (x ∷ xs) h (suc j) lt = scalar_is xs h.1 j (omega (arith, lt))

  pub cell_is : (xs : List Scalar) (j : ℕ) → j < length xs → get_or (scalar_cells (variable_at b) xs) j no_cell ≡ Variable (variable_at b (index (scalar_in xs j)))
  cell_is [] j lt = absurd (omega arith)
  cell_is (x ∷ xs) zero lt = refl
  cell_is (x ∷ xs) (suc j) lt = cell_is xs j (omega (arith, lt))

  -- how the loop reduces into a component that is there
  reduces_by : (v i : ℕ) → i < var_width b v → reduces_at b s (record { variable = v; component = i }) ≡ reduced_by (site_at b s).args v
  reduces_by v i lt = cond-true (nat_lt i (var_width b v)) (reduced_by (site_at b s).args v) None (lt-ltb i (var_width b v) lt)

  module _ (xs : List Scalar) (each : EachIsScalar b s xs) where
    -- of the argument's variable
    pub allows : AllApart (site_at b s).args → (a v i j : ℕ) (acc : Access) (c : Option ℕ) → a < length (site_at b s).args → get_or (site_at b s).args a no_arg ≡ Global v acc
        → GlobalAccess acc c → i < var_width b v → j < length xs
        → get_or (scalar_cells (variable_at b) xs) j no_cell ≡ Variable (record { variable = v; component = i })
        → AllowsScalar (scalar_in xs j) (access_of acc)
    allows apart a v i j acc c la is g li lj cell =
        let own : variable_at b (index (scalar_in xs j)) ≡ record { variable = v; component = i } =
        one_variable (variable_at b (index (scalar_in xs j))) (record { variable = v; component = i }) (sym (cell_is xs j lj) ∙ cell) in
        scalar_allows (site_at b s).args apart a v acc c la is g (scalar_in xs j)
        (λ at e.
        let one = subst (IsSiteScalar b s) e (scalar_is xs each j lj) in
        let here : variable_at b at ≡ record { variable = v; component = i } = subst (λ x. variable_at b (index x) ≡ record { variable = v; component = i }) e own in
        sym (reduces_by v i li) ∙ ap (reduces_at b s) (sym here) ∙ one.1)
        (λ at slot how e.
        let one = subst (IsSiteScalar b s) e (scalar_is xs each j lj) in
        let here : variable_at b at ≡ record { variable = v; component = i } = subst (λ x. variable_at b (index x) ≡ record { variable = v; component = i }) e own in
        sym (reduces_by v i li) ∙ ap (reduces_at b s) (sym here) ∙ one.1)

    -- amounts with one slot are merged alike
    pub alike : (i j : ℕ) → i < length xs → j < length xs → MergeAlike (scalar_in xs i) (scalar_in xs j)
    alike i j li lj = both (scalar_in xs i) (scalar_in xs j) (scalar_is xs each i li) (scalar_is xs each j lj)
      where
        both : (x y : Scalar) → IsSiteScalar b s x → IsSiteScalar b s y → MergeAlike x y
        both (Value at) y h k = tt
        both (Amount at slot how) (Value at') h k = tt
        both (Amount at slot how) (Amount at' slot' how') h k = λ e.
            let cell : variable_at b at ≡ variable_at b at' = sym h.4 ∙ ap (λ n. (get_or (slots b) n no_slot).cell) e ∙ k.4 in
            let same : Some (operation how) ≡ Some (operation how') = sym h.1 ∙ ap (reduces_at b s) cell ∙ k.1 in
            operation_one how how' (cc)

    -- an argument that reduces into a scalar
    pub record Reduces (j : ℕ) : Type 0 where
      pub arg : ℕ
      pub variable : ℕ
      pub component : ℕ
      pub access : Access
      pub there : arg < length (site_at b s).args
      pub is : get_or (site_at b s).args arg no_arg ≡ Global variable access
      pub below : component < var_width b variable
      pub reduction : Reduction
      pub how : access_of access ≡ OpReduce reduction
      pub cell : get_or (scalar_cells (variable_at b) xs) j no_cell ≡ Variable (record { variable = variable; component = component })

    pub reducer : (j : ℕ) → j < length xs → (AllowsScalar (scalar_in xs j) OpRead → ⊥) → Reduces j
    reducer j lt amount = of_scalar (scalar_in xs j) refl (scalar_is xs each j lt)
      where
        of_cell : (w : VarCell) (o : Reduction) → variable_at b (index (scalar_in xs j)) ≡ w → (t : Bool) → nat_lt w.component (var_width b w.variable) ≡ t
            → reduces_at b s w ≡ Some o → Reduces j
        of_cell w o is true t h =
            let found : Reducing (site_at b s).args w.variable o =
            reduced_some (site_at b s).args w.variable o (sym (cond-true (nat_lt w.component (var_width b w.variable)) (reduced_by (site_at b s).args w.variable) None t) ∙ h) in
            record {
              arg = found.number;
              variable = w.variable;
              component = w.component;
              access = found.access;
              there = found.there;
              is = found.is;
              below = ltb-true w.component (var_width b w.variable) t;
              reduction = o;
              how = Rattle.bound_plan.proofs.Public.reduction_is found.access o found.how;
              cell = cell_is xs j lt ∙ ap Variable is;
            }
        of_cell w o is false t h =
            let none : None ≡ Some o = sym (cond-false (nat_lt w.component (var_width b w.variable)) (reduced_by (site_at b s).args w.variable) None t) ∙ h in
            absurd (let gone : ⊥ = cc in gone)

        of_scalar : (x : Scalar) → scalar_in xs j ≡ x → IsSiteScalar b s x → Reduces j
        of_scalar (Value at) e h = absurd (amount (subst (λ x. AllowsScalar x OpRead) (sym e) refl))
        of_scalar (Amount at slot how) e h =
            of_cell (variable_at b at) (operation how) (ap (λ x. variable_at b (index x)) e) (nat_lt (variable_at b at).component (var_width b (variable_at b at).variable)) refl h.1
