-- How many operators, calls and brackets an expression has, by which going through it ends.
use Rattle.std.proofs.Common.{ℕ, ◌+◌}
use Rattle.c_tree.specs.Tree as tree
use Rattle.c_tree.specs.Tree.{ExprTree}

abbrev pub size : ExprTree → ℕ
size (tree.Number n) = 0
size (tree.Name x) = 0
size (tree.Index x e) = 1 + size e
size (tree.Deref at x) = 0
size (tree.Unary op at e) = 1 + size e
size (tree.Binary op at l r) = 1 + (size l + size r)
size (tree.Choice at c y n) = 1 + (size c + (size y + size n))
size (tree.Paren at e) = 1 + size e
size (tree.Extremum w at a b) = 1 + (size a + size b)
size (tree.Absolute at e) = 1 + size e
