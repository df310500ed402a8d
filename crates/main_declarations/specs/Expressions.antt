-- The expressions of `main` with the meanings of their names.
use Rattle.std.specs.Prelude.{ℕ, ℤ, pos, false, not, [], Ok, Err, List, Option, Some}
use Rattle.c_tree.specs.declared.lexer.tokens.Pos.{Pos}
use Rattle.c_tree.specs.declared.expressions.Ident.{Ident}
use Rattle.c_tree.specs.Tree as tree
use Rattle.c_tree.specs.Tree.{ExprTree}
use Rattle.kernel_model.specs.declared.types.expressions.ElementForm.{ElementForm}
use Rattle.kernel_model.specs.declared.types.expressions.ElementForm.TheVariants.{Index, Deref}
use Rattle.kernel_model.specs.View.{RExprTree, Number, Scalar, Constant, Local, Unary, Binary, Choice, Paren, Extremum, Absolute}
use Rattle.bound_program.specs.HostExpr.{value, is_static}
use Rattle.main_declarations.specs.declared.names.scopes.Cells.{Cells}
use Rattle.main_declarations.specs.declared.names.scopes.Meaning.{Meaning}
use Rattle.main_declarations.specs.declared.names.scopes.Meaning.TheVariants.{Extern, Variable, Fixed, FixedLater, Turning}
use Rattle.main_declarations.specs.Names.{Scope, means}
use Rattle.bound_program.specs.Steps.{Asked}
use Rattle.bound_program.specs.declared.refusals.refusals.BindRefusal.TheVariants as refusal
use Rattle.bound_program.specs.Refusals.{Judged, ◌>>=◌, unless_found, found_if, place}
use Rattle.kernel_model.specs.Numbers.{Value}

-- the number of the first token of an expression
abbrev pub first_token : ExprTree → ℕ
first_token (tree.Number n) = n.at
first_token (tree.Name x) = x.at
first_token (tree.Index x i) = x.at
first_token (tree.Deref at x) = at
first_token (tree.Unary op at x) = at
first_token (tree.Binary op at l r) = first_token l
first_token (tree.Choice at c x y) = first_token c
first_token (tree.Paren at x) = at
first_token (tree.Extremum which at x y) = at
first_token (tree.Absolute at x) = at

-- a name as a value; what is no value stands for 0
abbrev pub read : Option Meaning → RExprTree
read (Some (Extern z)) = Number z
read (Some (Fixed z c)) = Number z
read (Some (FixedLater k c)) = Constant k
read (Some (Turning k)) = Constant k
read (Some (Variable c)) = Scalar c.from
read _ = Number (pos 0)

-- the cells of a variable; none of another name
abbrev pub cells_of : Option Meaning → Cells
cells_of (Some (Variable c)) = c
cells_of _ = record { var = 0; from = 0; count = 0; is_array = false; of_file = false }

module _ (places : List Pos) where
  -- an element of a variable
  abbrev pub element : Ident → ElementForm → RExprTree → Cells → RExprTree
  element x form i c = Local c.from c.count form i (place places x.at)

  -- an expression with the meanings of its names
  abbrev pub resolved : Scope → ExprTree → RExprTree
  resolved s (tree.Number n) = Number n.value
  resolved s (tree.Name x) = read (means s x.name)
  resolved s (tree.Index x i) = element x Index (resolved s i) (cells_of (means s x.name))
  resolved s (tree.Deref at x) = element x Deref (Number (pos 0)) (cells_of (means s x.name))
  resolved s (tree.Unary op at x) = Unary op (resolved s x)
  resolved s (tree.Binary op at l r) = Binary op (resolved s l) (resolved s r) (place places at)
  resolved s (tree.Choice at c x y) = Choice (resolved s c) (resolved s x) (resolved s y)
  resolved s (tree.Paren at x) = Paren (resolved s x)
  resolved s (tree.Extremum which at x y) = Extremum which (resolved s x) (resolved s y)
  resolved s (tree.Absolute at x) = Absolute (resolved s x)

  -- an expression that must be known before the run
  abbrev pub asked : Scope → ExprTree → Asked
  asked s e = record { value = resolved s e; at = place places (first_token e) }

  -- ---- judgements

  -- the value, or the refusal where there is none
  abbrev pub known : ℕ → Value → Judged ℤ
  known first (Ok z) = Ok z
  known first (Err f) = Err (refusal.ControlNotStatic (place places first))

  -- an expression that must be static
  abbrev pub judged_static : Scope → ExprTree → Judged Asked
  judged_static s e =
      unless_found (found_if places (not (is_static (resolved s e))) (first_token e) refusal.ControlNotStatic) (asked s e)

  -- an expression that must be static, and is evaluated in the order of the text
  abbrev pub judged_value : Scope → ExprTree → Judged ℤ
  judged_value s e = judged_static s e >>= λ a. known (first_token e) (value [] [] a.value)
