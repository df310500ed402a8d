-- The scalars and the slots of loops, one argument after another.
use Rattle.std.specs.Prelude.{◌≡◌, ℕ, ◌+◌, Bool, false, ◌||◌, nat_eq, if◌then◌else◌, List, [], ◌∷◌, map, Option, Some, None}
use Rattle.std.specs.List.{flat_map}
use Rattle.op_num.specs.declared.reductions.access.Access.{Access}
use Rattle.op_num.specs.declared.reductions.access.Access.TheVariants as access
use Rattle.bound_program.specs.declared.sites.Arg.{Arg}
use Rattle.bound_program.specs.declared.sites.Arg.TheVariants.{Dat, Global}
use Rattle.bound_program.specs.Values.{BoundValue}
use Rattle.bound_program.specs.Fits.{site_at}
use Rattle.run_model.specs.Windows.{numbers}
use Rattle.run_model.specs.Arguments.{var_width}
use Rattle.rank_state.specs.declared.scalars.Scalar.{Scalar}
use Rattle.rank_state.specs.declared.scalars.Scalar.TheVariants.{Value, Amount}
use Rattle.rank_state.specs.declared.scalars.Operation.{Operation}
use Rattle.rank_state.specs.declared.scalars.Operation.TheVariants.{Sum, Least, Greatest}
use Rattle.rank_state.specs.Windows.{operation}
use Rattle.bound_plan.specs.Variables.{cells_before}
use Rattle.rank_layout.specs.Tables.{Slot, arg_slots}

-- how a loop merges amounts by an access, if it does
abbrev pub operation_by : Access → Option Operation
operation_by access.Inc = Some Sum
operation_by access.Min = Some Least
operation_by access.Max = Some Greatest
operation_by a = None

-- the operations are those of the slots
abbrev pub AreOperations : List Slot → List Operation → Type 0
AreOperations slots how = map operation how ≡ map (λ (x : Slot). x.how) slots

-- the argument is on the variable
abbrev pub is_on : ℕ → Arg → Bool
is_on v (Dat d w a) = false
is_on v (Global u a) = nat_eq u v

-- one of the arguments is on the variable
abbrev pub names : ℕ → List Arg → Bool
names v [] = false
names v (x ∷ xs) = is_on v x || names v xs

-- how, a variable's first cell, the first slot, count: the variable's cells, those into which amounts are merged with their slots
abbrev pub cell_scalars : Option Operation → (from base count : ℕ) → List Scalar
cell_scalars None from base count = map (λ i. Value (from + i)) (numbers count)
cell_scalars (Some how) from base count = map (λ i. Amount (from + i) (base + i) how) (numbers count)

-- the operations of these slots
abbrev pub cell_operations : Option Operation → ℕ → List Operation
cell_operations None count = []
cell_operations (Some how) count = map (λ i. how) (numbers count)

module _ (b : BoundValue) where
  -- the slots of a loop
  abbrev pub site_slots : ℕ → List Slot
  site_slots s = flat_map (arg_slots b s) (site_at b s).args

  -- those of all loops before this one
  abbrev pub slots_before : ℕ → List Slot
  slots_before s = flat_map site_slots (numbers s)

  -- first slot, arguments before this one, argument: the scalars of a variable that none of those is on
  abbrev pub new_scalars : ℕ → List Arg → Arg → List Scalar
  new_scalars base earlier (Dat d v a) = []
  new_scalars base earlier (Global v a) =
      if names v earlier then [] else cell_scalars (operation_by a) (cells_before b v) base (var_width b v)

  -- the operations of their slots
  abbrev pub new_operations : List Arg → Arg → List Operation
  new_operations earlier (Dat d v a) = []
  new_operations earlier (Global v a) = if names v earlier then [] else cell_operations (operation_by a) (var_width b v)
