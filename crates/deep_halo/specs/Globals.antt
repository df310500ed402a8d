-- The cells of a loop's variables in a rank's block.
use Rattle.std.specs.Prelude.{ℕ, Bool, false, cond, ◌&&◌, nat_eq, List, Option, Some, None}
use Rattle.std.specs.List.{list_any}
use Rattle.op_num.specs.Reduction.{Reduction}
use Rattle.schedule_model.specs.Cells.{Data, Variable}
use Rattle.schedule_model.specs.Machine.{window_of}
use Rattle.rank_state.specs.declared.scalars.Operation.{Operation}
use Rattle.rank_state.specs.Windows.{operation}
use Rattle.bound_program.specs.declared.sites.Arg.{Arg}
use Rattle.bound_program.specs.declared.sites.Arg.TheVariants.{Dat, Global}
use Rattle.run_model.specs.Windows.{Whole, cell_in}
use Rattle.bound_plan.specs.Variables.{reduction_of, reduced_by}
use Rattle.deep_halo.specs.Cells.{Values, with_target}

-- how amounts are merged, as the theorem names it
abbrev pub reduction_in : Option Operation → Option Reduction
reduction_in None = None
reduction_in (Some how) = Some (operation how)

-- the argument is on the variable
abbrev pub is_on : ℕ → Arg → Bool
is_on n (Dat d v a) = false
is_on n (Global v a) = nat_eq n v

-- with what the kernel's window of an argument on a variable begins with, in block r
abbrev pub with_global : (ranks r : ℕ) → Arg → Values → Values
with_global ranks r (Dat d v a) f = f
with_global ranks r (Global v a) f = with_target r (Whole v) (λ i. window_of (reduction_of a) (f ranks (cell_in (Whole v) i))) f

-- with those of these arguments, in a loop with all of them
abbrev pub with_globals : (ranks r : ℕ) → (all these : List Arg) → Values → Values
with_globals ranks r all these f m (Data c) = f m (Data c)
with_globals ranks r all these f m (Variable v) =
    cond
    (nat_eq m r && list_any (is_on v.variable) these)
    (window_of (reduced_by all v.variable) (f ranks (Variable v)))
    (f m (Variable v))
