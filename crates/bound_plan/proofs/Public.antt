-- What proofs of other crates use of this one: laws of its definitions, and nothing of its code.

-- The loops of items, as the program, the plan and the setup name them.
pub use Rattle.bound_plan.proofs.Loops.{free_item, item_there}
-- The order of a program's items.
pub use Rattle.bound_plan.proofs.Trace.{reduce_after, first_item, reduce_next, class_is}
-- How the arguments of a loop reach variables.
pub use Rattle.bound_plan.proofs.Globals.{reduces_is, named_once, reduced_some, first_reduces, reduction_is, Reducing}
-- How the arguments of a loop reach dats.
pub use Rattle.bound_plan.proofs.DatArgs.{free_is}
-- How the elements of a Free loop touch the cells of variables.
pub use Rattle.bound_plan.proofs.Touched.{merges, Merges}
-- Cells in lists of cells.
pub use Rattle.bound_plan.proofs.Among.{at_among, among_at}
-- Where the cells of variables stand in the list of all.
pub use Rattle.bound_plan.proofs.Indexed.{indexed, is_variable}
