-- The cells that expressions of `main` name are those of variables that are declared.
use Rattle.std.proofs.Common.{ℕ, ◌+◌, ◌≤◌, List, arith}
use Rattle.std.specs.Prelude.{Option, Some, None, IfSome}
use Rattle.c_tree.specs.declared.lexer.tokens.Pos.{Pos}
use Rattle.c_tree.specs.Tree as tree
use Rattle.c_tree.specs.Tree.{ExprTree}
use Rattle.kernel_model.specs.declared.types.kernels.RKernel.{RKernel}
use Rattle.mesh_decl.specs.Mesh.{MeshValue}
use Rattle.mesh_decl.specs.Spelling.{Named}
use Rattle.main_declarations.specs.declared.names.scopes.Meaning.{Meaning}
use Rattle.main_declarations.specs.declared.names.scopes.Meaning.TheVariants.{Extern, ExternArray, Kernel, Set, Map, Dat, Variable, Fixed, FixedLater, Turning}
use Rattle.bound_program.specs.Values.{VarValue}
use Rattle.main_declarations.specs.Names.{means}
use Rattle.main_declarations.specs.Expressions.{read, cells_of, resolved}
use Rattle.main_declarations.specs.SoFar.{Declared}
use Rattle.loop_bind.specs.Sources.{HasNumbers}
use Rattle.loop_bind.proofs.FitsValues.{Within, zero_is_num}
use Rattle.loop_bind.proofs.FitsState.{MeaningFits, Lawful, means_fits}

module _ (ks : List RKernel) (g : MeshValue) (vs : List VarValue) (n : ℕ) where
  read_within : (m : Option Meaning) → IfSome m (MeaningFits ks g vs n) → Within n (read m)
  read_within None h = zero_is_num
  read_within (Some (Extern z)) h = h
  read_within (Some ExternArray) h = zero_is_num
  read_within (Some (Kernel number params)) h = zero_is_num
  read_within (Some (Set s)) h = zero_is_num
  read_within (Some (Map m)) h = zero_is_num
  read_within (Some (Dat d)) h = zero_is_num
  read_within (Some (Variable c)) h = omega (arith, h.within, h.some)
  read_within (Some (Fixed z c)) h = h.0
  read_within (Some (FixedLater k c)) h = tt
  read_within (Some (Turning k)) h = tt

  cells_within : (m : Option Meaning) → IfSome m (MeaningFits ks g vs n) → (cells_of m).from + (cells_of m).count ≤ n
  cells_within None h = omega arith
  cells_within (Some (Extern z)) h = omega arith
  cells_within (Some ExternArray) h = omega arith
  cells_within (Some (Kernel number params)) h = omega arith
  cells_within (Some (Set s)) h = omega arith
  cells_within (Some (Map m)) h = omega arith
  cells_within (Some (Dat d)) h = omega arith
  cells_within (Some (Variable c)) h = h.within
  cells_within (Some (Fixed z c)) h = omega arith
  cells_within (Some (FixedLater k c)) h = omega arith
  cells_within (Some (Turning k)) h = omega arith

module _ (ks : List RKernel) (es : List Named) (places : List Pos) (k : Declared) (h : Lawful ks es k) where
  pub resolved_within : (e : ExprTree) → HasNumbers e → Within k.cells (resolved places k.names e)
  resolved_within (tree.Number n) f = f
  resolved_within (tree.Name x) f = read_within ks k.mesh k.vars k.cells (means k.names x.name) (means_fits ks es k h x.name)
  resolved_within (tree.Index x i) f = (cells_within ks k.mesh k.vars k.cells (means k.names x.name) (means_fits ks es k h x.name), resolved_within i f)
  resolved_within (tree.Deref at x) f = (cells_within ks k.mesh k.vars k.cells (means k.names x.name) (means_fits ks es k h x.name), zero_is_num)
  resolved_within (tree.Unary op at x) f = resolved_within x f
  resolved_within (tree.Binary op at l r) f = (resolved_within l f.0, resolved_within r f.1)
  resolved_within (tree.Choice at c x y) f = (resolved_within c f.0, resolved_within x f.1, resolved_within y f.2)
  resolved_within (tree.Paren at x) f = resolved_within x f
  resolved_within (tree.Extremum which at x y) f = (resolved_within x f.0, resolved_within y f.1)
  resolved_within (tree.Absolute at x) f = resolved_within x f
