-- Statements of a block as a list.
use Rattle.std.proofs.Common.{◌≡◌, ℕ, List, refl, ap, ◌∙◌, Vec, Global}
use mathlib.Core.Former.{Count}
use Rattle.kernel_model.specs.declared.types.statements.RStmt.{RStmt, Block, Block', Row_of-RStmt, end_of-RStmt, more_of-RStmt, items-the_row-RStmt, items_hidden-the_row-RStmt-0}
use Rattle.kernel_model.specs.Effects.{in_order, effects_of, row_effects, list_effects}

abbrev row_of : RStmt → (n : Count) × Row_of-RStmt n
row_of (Block' _ row) = (_, row)
row_of _ = (_, end_of-RStmt)

of_row : (counts : List ℕ) (n : _) (row : Row_of-RStmt n) → row_effects counts row ≡ list_effects counts (items-the_row-RStmt n row)
of_row counts n end_of-RStmt = refl
of_row counts n (more_of-RStmt first rest) = ap (λ x. in_order (effects_of counts first) x) (of_row counts _ rest)

pub of_block : (counts : List ℕ) (all : Vec RStmt Global) → effects_of counts (Block all) ≡ list_effects counts all.items
of_block counts all = let row = row_of (Block all) in of_row counts row.0 row.1 ∙ ap (list_effects counts) (items_hidden-the_row-RStmt-0 all)
