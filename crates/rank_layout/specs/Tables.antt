-- The tables of a bound program with its plan: constants, partials, places, and the most cells of a frame.
use Rattle.std.specs.Prelude.{ℕ, max, List, [], ◌∷◌, map, length, sum_by, slice_index, get_or, Option, Some, None}
use Rattle.std.specs.List.{flat_map}
use Rattle.op_num.specs.Reduction.{Reduction, Add}
use Rattle.schedule_model.specs.Cells.{VarCell}
use Rattle.bound_program.specs.declared.sites.Arg.{Arg}
use Rattle.bound_program.specs.declared.sites.Arg.TheVariants.{Dat, Global}
use Rattle.bound_program.specs.Values.{BoundValue, SiteValue}
use Rattle.bound_program.specs.Fits.{site_at}
use Rattle.run_model.specs.Windows.{numbers}
use Rattle.run_model.specs.Kernels.{constants}
use Rattle.run_model.specs.Constants.{no_constant}
use Rattle.run_model.specs.Arguments.{arg_width, var_width}
use Rattle.loop_plan.specs.Values.{PlanValue, SitePlanValue}
use Rattle.bound_plan.specs.Variables.{variable_index, reduction_of}
use Rattle.rank_state.specs.Shows.{Tables}

-- the greatest number of a list
abbrev pub most : List ℕ → ℕ
most [] = 0
most (x ∷ xs) = max x (most xs)

-- a cell into which a loop merges amounts, which has a partial on each rank
pub record Slot : Type 0 where
  pub site : ℕ
  pub cell : VarCell
  pub how : Reduction

-- what stands for a slot that is not there
abbrev pub no_slot : Slot
no_slot = record { site = 0; cell = no_constant; how = Add }

-- a slot for each of the cells, where the loop merges amounts into them
abbrev pub slots_by : Option Reduction → ℕ → List VarCell → List Slot
slots_by None s cells = []
slots_by (Some o) s cells = map (λ v. record { site = s; cell = v; how = o }) cells

-- plan, rank: the most places of a loop
abbrev pub places_on : PlanValue → ℕ → ℕ
places_on p r = most (map (λ (e : ℕ × SitePlanValue). slice_index e.1.places r) p.sites)

module _ (b : BoundValue) where
  -- loop, argument
  abbrev pub arg_slots : ℕ → Arg → List Slot
  arg_slots s (Dat d v a) = []
  arg_slots s (Global v a) = slots_by (reduction_of a) s (map (λ i. record { variable = v; component = i }) (numbers (var_width b v)))

  -- by loop, argument and component
  abbrev pub slots : List Slot
  slots = flat_map (λ s. flat_map (arg_slots s) (site_at b s).args) (numbers (length b.sites))

  -- how many cells the loop's arguments have, each counted
  abbrev pub site_width : SiteValue → ℕ
  site_width site = sum_by (arg_width b) site.args

  abbrev pub tables_of : PlanValue → Tables
  tables_of p = record {
    constants = map (variable_index b) (constants b);
    slots = length slots;
    site_at = λ i. (get_or slots i no_slot).site;
    reduced_at = λ i. (get_or slots i no_slot).cell;
    places = places_on p;
    stride = most (map site_width b.sites);
  }
