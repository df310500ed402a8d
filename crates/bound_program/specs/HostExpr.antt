-- Expressions of `main` and their values (ISO C 6.5, with operands from left to right). They have the trees of kernels' expressions: a
-- `Scalar` and the elements of a `Local` are cells of variables, among those of all variables one after another, and `Constant k` is a name
-- whose value is told when `main` is unrolled, the k-th of these: a counter, or a `const` name of a block. `main` has no parameters and
-- reads no arrays of constants.
use Rattle.std.specs.Prelude.{◌≡◌, ℕ, ℤ, pos, ◌+◌, Bool, true, false, ◌&&◌, cond, List, Ok, slice_index_or}
use Rattle.c_tree.specs.declared.lexer.tokens.Pos.{Pos}
use Rattle.kernel_model.specs.declared.types.expressions.RExpr.{RExpr}
use Rattle.kernel_model.specs.View.{RExprTree, Number, Scalar, Constant, Arg, Local, Const, Unary, Binary, Choice, Paren, Extremum, Absolute, rexpr_of}
use Rattle.kernel_model.specs.Numbers.{Value, truth, is_zero, apply, apply_unary, is_settled, extremum, magnitude, not}
use Rattle.kernel_model.specs.Meaning.{Store, Target, value_of, and_then, index_in}

-- the value of an element among so many cells from a first one on, by the value of its index
abbrev pub element_value : List ℤ → (from count : ℕ) → Pos → Value → Value
element_value cells from count at index =
    and_then index (λ z. and_then (index_in count at z) (λ i. Ok (slice_index_or cells (from + i) (pos 0))))

-- the value of an expression, or its first fault, where these values were told and the variables have these cells
abbrev pub value : (told cells : List ℤ) → RExprTree → Value
value told cells (Number n) = Ok n
value told cells (Scalar k) = Ok (slice_index_or cells k (pos 0))
value told cells (Constant k) = Ok (slice_index_or told k (pos 0))
value told cells (Arg x form e at) = element_value cells 0 0 at (value told cells e)
value told cells (Local from count form e at) = element_value cells from count at (value told cells e)
value told cells (Const from count form e at) = element_value cells 0 0 at (value told cells e)
value told cells (Unary op e) = and_then (value told cells e) (λ x. Ok (apply_unary op x))
value told cells (Binary op l r at) =
    and_then (value told cells l)
    (λ x. cond (is_settled op x) (Ok (truth (not (is_zero x)))) (and_then (value told cells r) (λ y. apply op at x y)))
value told cells (Choice c x y) =
    and_then (value told cells c) (λ z. cond (is_zero z) (value told cells y) (value told cells x))
value told cells (Paren e) = value told cells e
value told cells (Extremum which x y) =
    and_then (value told cells x) (λ a. and_then (value told cells y) (λ b. Ok (extremum which a b)))
value told cells (Absolute e) = and_then (value told cells e) (λ z. Ok (magnitude z))

-- no parameter and no array of constants stands in the expression
abbrev pub IsHost : RExprTree → Type 0
IsHost (Number n) = Unit {0}
IsHost (Scalar k) = Unit {0}
IsHost (Constant k) = Unit {0}
IsHost (Arg x form e at) = ⊥
IsHost (Local from count form e at) = IsHost e
IsHost (Const from count form e at) = ⊥
IsHost (Unary op e) = IsHost e
IsHost (Binary op x y at) = IsHost x × IsHost y
IsHost (Choice c x y) = IsHost c × IsHost x × IsHost y
IsHost (Paren e) = IsHost e
IsHost (Extremum which x y) = IsHost x × IsHost y
IsHost (Absolute e) = IsHost e

-- an expression of `main` has the value of that expression in a kernel whose local cells are those of all variables
abbrev pub MeansAsInKernels : Type 0
MeansAsInKernels =
    (ts : List Target) (s : Store) (told cells : List ℤ) (e : RExpr)
    → IsHost (rexpr_of e) → value_of ts told e s cells ≡ value told cells (rexpr_of e)

-- whether the expression names no cell of a variable, so that it is known before the run
abbrev pub is_static : RExprTree → Bool
is_static (Number n) = true
is_static (Scalar k) = false
is_static (Constant k) = true
is_static (Arg x form e at) = false
is_static (Local from count form e at) = false
is_static (Const from count form e at) = false
is_static (Unary op e) = is_static e
is_static (Binary op l r at) = is_static l && is_static r
is_static (Choice c x y) = is_static c && is_static x && is_static y
is_static (Paren e) = is_static e
is_static (Extremum which x y) = is_static x && is_static y
is_static (Absolute e) = is_static e

-- the expression with these values in place of the names that are told later
abbrev pub closed : List ℤ → RExprTree → RExprTree
closed told (Number n) = Number n
closed told (Scalar k) = Scalar k
closed told (Constant k) = Number (slice_index_or told k (pos 0))
closed told (Arg x form e at) = Arg x form (closed told e) at
closed told (Local from count form e at) = Local from count form (closed told e) at
closed told (Const from count form e at) = Const from count form (closed told e) at
closed told (Unary op e) = Unary op (closed told e)
closed told (Binary op l r at) = Binary op (closed told l) (closed told r) at
closed told (Choice c x y) = Choice (closed told c) (closed told x) (closed told y)
closed told (Paren e) = Paren (closed told e)
closed told (Extremum which x y) = Extremum which (closed told x) (closed told y)
closed told (Absolute e) = Absolute (closed told e)
