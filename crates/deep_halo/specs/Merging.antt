-- The variables of a loop's arguments are changed, by how the loop merges amounts into them.
use Rattle.std.specs.Prelude.{ℕ, ℤ, cond, ◌&&◌, nat_eq, List, Option}
use Rattle.std.specs.List.{list_any}
use Rattle.op_num.specs.Reduction.{Reduction}
use Rattle.schedule_model.specs.Cells.{Cell, Data, Variable}
use Rattle.schedule_model.specs.Machine.{merge_at}
use Rattle.bound_program.specs.declared.sites.Arg.{Arg}
use Rattle.bound_program.specs.declared.sites.Arg.TheVariants.{Dat, Global}
use Rattle.run_model.specs.Windows.{Whole, cell_in}
use Rattle.bound_plan.specs.Variables.{reduction_of, reduced_by}
use Rattle.deep_halo.specs.Cells.{Values, with_target}
use Rattle.deep_halo.specs.Globals.{is_on}

-- how the loop merges amounts, the old value, the block, the cell: the new value
abbrev pub Change : Type 0
Change = Option Reduction → ℤ → ℕ → Cell → ℤ

module _ (h : Change) (r : ℕ) where
  -- in block r, where the argument is on a variable
  abbrev pub changed_by : Arg → Values → Values
  changed_by (Dat d v a) p = p
  changed_by (Global v a) p = with_target r (Whole v) (λ i. h (reduction_of a) (p r (cell_in (Whole v) i)) r (cell_in (Whole v) i)) p

  -- and where one of these arguments is, in a loop with all of them
  abbrev pub changed_all : (all these : List Arg) → Values → Values
  changed_all all these p m (Data c) = p m (Data c)
  changed_all all these p m (Variable v) =
      cond
      (nat_eq m r && list_any (is_on v.variable) these)
      (h (reduced_by all v.variable) (p m (Variable v)) m (Variable v))
      (p m (Variable v))

-- the amounts in f are merged in
abbrev pub amounts_of : Values → Change
amounts_of f how x m c = merge_at how x (f m c)

-- Partials stand in blocks, too, which have the variables alone. The amounts in block r of f are merged into those of rank r, where
-- the argument is on a variable
abbrev pub merged_by : ℕ → Values → Arg → Values → Values
merged_by r f x p = changed_by (amounts_of f) r x p

-- and where one of these arguments is, in a loop with all of them
abbrev pub merged_all : ℕ → (all these : List Arg) → Values → Values → Values
merged_all r all these f p = changed_all (amounts_of f) r all these p
