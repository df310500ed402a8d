-- The maps that `main` declares.
use Rattle.std.specs.Prelude.{ℕ, List, Option, Some, None}
use Rattle.c_tree.specs.Tree as tree
use Rattle.c_tree.specs.Tree.{HostTree, OpCallTree}

-- the name of the map that a call declares
abbrev pub map_by_call : OpCallTree → Option (List ℕ)
map_by_call (tree.DeclMap at x from to n v l) = Some x.name
map_by_call c = None

-- the name of the map that a statement declares
abbrev pub map_by : HostTree → Option (List ℕ)
map_by (tree.HostCall c) = map_by_call c
map_by h = None
