-- A memory holds each store that has its values.
use Rattle.std.proofs.Common.{◌≡◌, ℤ, true, List, refl, ◌∙◌}
use Rattle.schedule_model.specs.Cells.{Cell, Data, Variable, Store}
use Rattle.schedule_model.specs.Sequential.{with_variables}
use Rattle.bound_program.specs.Values.{BoundValue}
use Rattle.run_model.specs.Hosts.{variables_of}
use Rattle.run_model.specs.Memory.{Holds, has_cell}

pub other_store : (b : BoundValue) (m : List ℤ) (s t : Store) → Holds b m s → ((c : Cell) → has_cell b c ≡ true → s c ≡ t c) → Holds b m t
other_store b m s t holds same = record { length = holds.length; values = λ c h. holds.values c h ∙ same c h }

-- a statement that changes no variable
pub same_variables : (b : BoundValue) (m : List ℤ) (s : Store) → Holds b m s → Holds b m (with_variables (variables_of s) s)
same_variables b m s holds = other_store b m s (with_variables (variables_of s) s) holds own
  where
    own : (c : Cell) → has_cell b c ≡ true → s c ≡ with_variables (variables_of s) s c
    own (Data c) h = refl
    own (Variable v) h = refl
