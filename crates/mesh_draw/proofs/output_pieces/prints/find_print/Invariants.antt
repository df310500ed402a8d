use Rattle.std.proofs.Common.{◌≡◌, ◌+◌, take, ℕ, List}
use Rattle.std.specs.List.{count_by}
use Rattle.bound_program.specs.Values.{BoundValue, bound_of}
use Rattle.mesh_draw.specs.Pieces.{is_print, lines_before}
use Rattle.mesh_draw.proofs.output_pieces.prints.find_print.Given as goal

-- the items so far have so many prints and LFs
pub record Searched (b : BoundValue) (file : List ℕ) (earlier item left before : ℕ) : Type 0 where
  pub passed : count_by (is_print file) (take item b.trace) + left ≡ earlier
  pub lines : before ≡ lines_before b item

abbrev pub invariant-loop-item : goal.invariant-loop-item
invariant-loop-item l = Searched (bound_of l.fn.bound) l.fn.file l.fn.earlier l.item-index l.left l.before
