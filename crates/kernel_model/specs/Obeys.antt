-- The access rules, on all paths of the unrolled kernel (the meaning of OP_READ, OP_WRITE, OP_RW, OP_INC, OP_MIN and OP_MAX in the OP2
-- manual).
use Rattle.std.specs.Prelude.{◌≡◌, ℕ, zero, suc, ℤ, pos, negsuc, ◌-◌, ◌<◌, List, [], ◌∷◌, ◌++◌, Bool, true, false, cond, ◌&&◌, Option, Some, None, ◌⊎◌, nat_eq, slice_index_or}
use Rattle.c_tree.specs.declared.lexer.tokens.Pos.{Pos}
use Rattle.c_tree.specs.declared.expressions.BinaryOp.{BinaryOp}
use Rattle.c_tree.specs.declared.expressions.BinaryOp.TheVariants as binary
use Rattle.c_tree.specs.declared.expressions.UnaryOp.{UnaryOp}
use Rattle.c_tree.specs.declared.expressions.UnaryOp.TheVariants as unary
use Rattle.c_tree.specs.declared.expressions.MinMax.{MinMax}
use Rattle.c_tree.specs.declared.expressions.MinMax.TheVariants as min_max
use Rattle.c_tree.specs.declared.declarations.AssignOp.{AssignOp}
use Rattle.c_tree.specs.declared.declarations.AssignOp.TheVariants as assign
use Rattle.op_num.specs.Reduction.{Add, Min, Max}
use Rattle.op_num.specs.Access.{Access, OpRead, OpWrite, OpRw, OpReduce}
use Rattle.kernel_model.specs.declared.types.expressions.ElementForm.{ElementForm}
use Rattle.kernel_model.specs.declared.types.expressions.RExpr.{RExpr}
use Rattle.kernel_model.specs.declared.types.expressions.RExpr.TheVariants.{Number, Scalar, Constant, Arg', Local', Const', Unary', Binary', Choice', Paren', Extremum', Absolute'}
use Rattle.kernel_model.specs.declared.types.statements.RStmt.{RStmt, Block', Declare, SetScalar, SetLocal, SetArg, If', For', Row_of-RStmt, end_of-RStmt, more_of-RStmt}
use Rattle.kernel_model.specs.declared.types.kernels.RKernel.{RKernel}
use Rattle.kernel_model.specs.Numbers.{sum, difference, product, negated, is_lazy}
use Rattle.kernel_model.specs.SameTokens.{same_form, same_tokens}
use mathlib.Core.Logic.{inl, inr}

-- an argument's access, and how many components its target has
pub record Mode : Type 0 where
  pub access : Access
  pub dim : ℕ

-- what stands for an argument that is not there
abbrev pub no_mode : Mode
no_mode = record { access = OpRead; dim = 0 }

-- the mode of an argument
abbrev pub mode_at : List Mode → ℕ → Mode
mode_at modes a = slice_index_or modes a no_mode

-- ---- static indices

-- the values of the counters that are known
abbrev pub Counters : Type 0
Counters = ℕ → Option ℤ

-- none is known
abbrev pub no_counters : Counters
no_counters = λ k. None

-- one more is known
abbrev pub with_counter : Counters → ℕ → ℤ → Counters
with_counter cs k v = λ j. cond (nat_eq j k) (Some v) (cs j)

-- + - * of known numbers
abbrev pub static_op : BinaryOp → Option ℤ → Option ℤ → Option ℤ
static_op binary.Add (Some x) (Some y) = Some (sum x y)
static_op binary.Sub (Some x) (Some y) = Some (difference x y)
static_op binary.Mul (Some x) (Some y) = Some (product x y)
static_op op x y = None

-- unary - and + of a known number
abbrev pub static_unary : UnaryOp → Option ℤ → Option ℤ
static_unary unary.Minus (Some x) = Some (negated x)
static_unary unary.Plus (Some x) = Some x
static_unary op x = None

-- the value of an expression of numbers, counters, + - *, unary - and + and parentheses
abbrev pub static : RExpr → Counters → Option ℤ
static (Number n) cs = Some n
static (Scalar k) cs = cs k
static (Constant k) cs = None
static (Arg' a form p e at) cs = None
static (Local' from count form p e at) cs = None
static (Const' from count form p e at) cs = None
static (Unary' op p a) cs = static_unary op (static a cs)
static (Binary' op p a q b at) cs = static_op op (static a cs) (static b cs)
static (Choice' p c q a r b) cs = None
static (Paren' p a) cs = static a cs
static (Extremum' which p a q b) cs = None
static (Absolute' p a) cs = None

-- ---- paths

-- what happens to a component of an argument, with its index where that is static
pub data Event : Type 0 where
  -- it is read
  Reads : (arg : ℕ) (index : Option ℤ) (at : Pos) → Event
  -- it is the target of =
  Assigns : (arg : ℕ) (index : Option ℤ) (at : Pos) → Event
  -- it is the target of += or -=
  Adds : (arg : ℕ) (index : Option ℤ) (at : Pos) → Event
  -- it is the target of another compound assignment
  Changes : (arg : ℕ) (index : Option ℤ) (at : Pos) → Event
  -- it is the P on the right of P = MIN(P, e) or P = MIN(e, P), or of the same with MAX
  Owns : (which : MinMax) (arg : ℕ) (index : Option ℤ) (at : Pos) → Event
  -- it is the target P of P = MIN(P, e) or P = MIN(e, P), or of the same with MAX
  Merges : (which : MinMax) (arg : ℕ) (index : Option ℤ) (at : Pos) → Event

-- a path of a part that may be skipped, or that may not
abbrev pub PathIf : Bool → Type 0 → Type 0
PathIf true P = Option P
PathIf false P = P

-- a path through an expression evaluates or skips each part that may be skipped
abbrev pub ExprPath : RExpr → Type 0
ExprPath (Number n) = Unit {0}
ExprPath (Scalar k) = Unit {0}
ExprPath (Constant k) = Unit {0}
ExprPath (Arg' a form p e at) = ExprPath e
ExprPath (Local' from count form p e at) = ExprPath e
ExprPath (Const' from count form p e at) = ExprPath e
ExprPath (Unary' op p a) = ExprPath a
ExprPath (Binary' op p a q b at) = ExprPath a × PathIf (is_lazy op) (ExprPath b)
ExprPath (Choice' p c q a r b) = ExprPath c × Option (ExprPath a) × Option (ExprPath b)
ExprPath (Paren' p a) = ExprPath a
ExprPath (Extremum' which p a q b) = ExprPath a × ExprPath b
ExprPath (Absolute' p a) = ExprPath a

-- the events of a part that may be skipped
abbrev pub if_taken : {P : Type 0} → (P → List Event) → Option P → List Event
if_taken f None = []
if_taken f (Some w) = f w

-- the events of a part, where it may or may not be skipped
abbrev pub taken_if : {P : Type 0} → (may_skip : Bool) → (P → List Event) → PathIf may_skip P → List Event
taken_if true f w = if_taken f w
taken_if false f w = f w

-- the events of a path through an expression, in the order in which it is evaluated
abbrev pub expr_events : (e : RExpr) → ExprPath e → Counters → List Event
expr_events (Number n) w cs = []
expr_events (Scalar k) w cs = []
expr_events (Constant k) w cs = []
expr_events (Arg' a form p e at) w cs = expr_events e w cs ++ Reads a (static e cs) at ∷ []
expr_events (Local' from count form p e at) w cs = expr_events e w cs
expr_events (Const' from count form p e at) w cs = expr_events e w cs
expr_events (Unary' op p a) w cs = expr_events a w cs
expr_events (Binary' op p a q b at) w cs = expr_events a w.0 cs ++ taken_if (is_lazy op) (λ v. expr_events b v cs) w.1
expr_events (Choice' p c q a r b) w cs =
    expr_events c w.0 cs ++ (if_taken (λ v. expr_events a v cs) w.1 ++ if_taken (λ v. expr_events b v cs) w.2)
expr_events (Paren' p a) w cs = expr_events a w cs
expr_events (Extremum' which p a q b) w cs = expr_events a w.0 cs ++ expr_events b w.1 cs
expr_events (Absolute' p a) w cs = expr_events a w cs

-- ---- P = MIN(P, e) and P = MAX(P, e), with P on either side

-- the expression is the element of the argument with that index, in the same tokens
abbrev pub is_place : ℕ → ElementForm → RExpr → RExpr → Bool
is_place a form ix (Arg' b other_form p jx at) = nat_eq a b && (same_form form other_form && same_tokens ix jx)
is_place a form ix e = false

-- which operand of MIN or MAX is the target itself
pub data Own : Type 0 where
  Neither : Own
  First : (which : MinMax) → Own
  Second : (which : MinMax) → Own

-- which operand is the target, on the right side of that assignment to it
abbrev pub own_side : ℕ → ElementForm → RExpr → AssignOp → RExpr → Own
own_side a form ix assign.Set (Extremum' which p x q y) =
    cond (is_place a form ix x) (First which) (cond (is_place a form ix y) (Second which) Neither)
own_side a form ix op e = Neither

-- the target itself on the right side
abbrev pub own_events : MinMax → (e : RExpr) → ExprPath e → Counters → List Event
own_events which (Arg' b form p jx at) w cs = expr_events jx w cs ++ Owns which b (static jx cs) at ∷ []
own_events which e w cs = expr_events e w cs

-- the right side of an assignment
abbrev pub right_events : Own → (e : RExpr) → ExprPath e → Counters → List Event
right_events (First which) (Extremum' other p x q y) w cs = own_events which x w.0 cs ++ expr_events y w.1 cs
right_events (Second which) (Extremum' other p x q y) w cs = expr_events x w.0 cs ++ own_events which y w.1 cs
right_events own e w cs = expr_events e w cs

-- the event of an assignment by its sign
abbrev pub store_event : AssignOp → ℕ → Option ℤ → Pos → Event
store_event assign.Set a ix at = Assigns a ix at
store_event assign.Add a ix at = Adds a ix at
store_event assign.Sub a ix at = Adds a ix at
store_event op a ix at = Changes a ix at

-- the event of an assignment by its sign and its right side
abbrev pub target_event : Own → AssignOp → ℕ → Option ℤ → Pos → Event
target_event Neither op a ix at = store_event op a ix at
target_event (First which) op a ix at = Merges which a ix at
target_event (Second which) op a ix at = Merges which a ix at

-- ---- paths of statements

-- one of a kind for each turn
abbrev pub EachTurn : Type 0 → ℕ → Type 0
EachTurn P zero = Unit {0}
EachTurn P (suc n) = P × EachTurn P n

-- a path takes either branch of an if, and a path of the body at each value of a counter
abbrev mutual
  -- of a statement
  pub Path : RStmt → Type 0
  Path (Block' shape all) = RowPath all
  Path (Declare from count) = Unit {0}
  Path (SetScalar k op opat e) = ExprPath e
  Path (SetLocal from count form ix at op opat e) = ExprPath ix × ExprPath e
  Path (SetArg a form ix at op opat e) = ExprPath ix × ExprPath e
  Path (If' e p a q b) = ExprPath e × (Path a ⊎ Path b)
  Path (For' k first past p body) = EachTurn (Path body) (past - first)

  -- of a block
  pub RowPath : {m : _} → Row_of-RStmt m → Type 0
  RowPath end_of-RStmt = Unit {0}
  RowPath (more_of-RStmt first rest) = Path first × RowPath rest

-- the events of the branch that is taken
abbrev pub on_branch : {P Q : Type 0} → (P → List Event) → (Q → List Event) → P ⊎ Q → List Event
on_branch f g (inl w) = f w
on_branch f g (inr w) = g w

-- the events of each turn, in order
abbrev pub turn_events : {P : Type 0} → (ℕ → P → List Event) → ℕ → (n : ℕ) → EachTurn P n → List Event
turn_events f i zero w = []
turn_events f i (suc n) w = f i w.0 ++ turn_events f (suc i) n w.1

abbrev mutual
  -- the events of a path through a statement
  pub events : (s : RStmt) → Path s → Counters → List Event
  events (Block' shape all) w cs = row_events all w cs
  events (Declare from count) w cs = []
  events (SetScalar k op opat e) w cs = expr_events e w cs
  events (SetLocal from count form ix at op opat e) w cs = expr_events ix w.0 cs ++ expr_events e w.1 cs
  events (SetArg a form ix at op opat e) w cs =
      expr_events ix w.0 cs
      ++ (right_events (own_side a form ix op e) e w.1 cs ++ target_event (own_side a form ix op e) op a (static ix cs) at ∷ [])
  events (If' e p a q b) w cs = expr_events e w.0 cs ++ on_branch (λ v. events a v cs) (λ v. events b v cs) w.1
  events (For' k first past p body) w cs =
      turn_events (λ i v. events body v (with_counter cs k (pos i))) first (past - first) w

  -- the events of a path through a block
  pub row_events : {m : _} → (all : Row_of-RStmt m) → RowPath all → Counters → List Event
  row_events end_of-RStmt w cs = []
  row_events (more_of-RStmt first rest) w cs = events first w.0 cs ++ row_events rest w.1 cs

-- ---- rules

-- the components that were assigned before, each with its argument
abbrev pub Assigned : Type 0
Assigned = List (ℕ × ℕ)

-- the component is one of them
abbrev pub HasAssigned : Assigned → ℕ → ℕ → Type 0
HasAssigned [] a i = ⊥
HasAssigned (c ∷ cs) a i = ((c.0 ≡ a) × (c.1 ≡ i)) ⊎ HasAssigned cs a i

-- a static index is below the dim
abbrev pub InDim : ℕ → Option ℤ → Type 0
InDim dim None = Unit {0}
InDim dim (Some (pos i)) = i < dim
InDim dim (Some (negsuc i)) = ⊥

-- an index is static, below the dim, and its component has a property
abbrev pub IsComponent : ℕ → Option ℤ → (ℕ → Type 0) → Type 0
IsComponent dim None P = ⊥
IsComponent dim (Some (pos i)) P = (i < dim) × P i
IsComponent dim (Some (negsuc i)) P = ⊥

-- OP_INC, OP_MIN and OP_MAX arguments aren't read; a component of an OP_WRITE argument only after it was assigned
abbrev pub MayRead : Access → ℕ → ℕ → Option ℤ → Assigned → Type 0
MayRead OpRead dim a ix before = InDim dim ix
MayRead OpRw dim a ix before = InDim dim ix
MayRead OpWrite dim a ix before = IsComponent dim ix (λ i. HasAssigned before a i)
MayRead (OpReduce r) dim a ix before = ⊥

-- OP_READ arguments aren't stored to, reducing ones not by =
abbrev pub MayAssign : Access → ℕ → ℕ → Option ℤ → Assigned → Type 0
MayAssign OpRead dim a ix before = ⊥
MayAssign OpRw dim a ix before = InDim dim ix
MayAssign OpWrite dim a ix before = IsComponent dim ix (λ i. Unit {0})
MayAssign (OpReduce r) dim a ix before = ⊥

-- a compound assignment reads its target and stores to it
abbrev pub MayChange : Access → ℕ → ℕ → Option ℤ → Assigned → Type 0
MayChange OpRead dim a ix before = ⊥
MayChange OpRw dim a ix before = InDim dim ix
MayChange OpWrite dim a ix before = IsComponent dim ix (λ i. HasAssigned before a i)
MayChange (OpReduce r) dim a ix before = ⊥

-- += and -= are how OP_INC arguments are stored to
abbrev pub MayAdd : Access → ℕ → ℕ → Option ℤ → Assigned → Type 0
MayAdd (OpReduce Add) dim a ix before = InDim dim ix
MayAdd acc dim a ix before = MayChange acc dim a ix before

-- the P on the right of P = MIN(P, e) or P = MIN(e, P) isn't read through an OP_MIN argument; likewise MAX and OP_MAX
abbrev pub MayOwn : MinMax → Access → ℕ → ℕ → Option ℤ → Assigned → Type 0
MayOwn min_max.Min (OpReduce Min) dim a ix before = InDim dim ix
MayOwn min_max.Max (OpReduce Max) dim a ix before = InDim dim ix
MayOwn which acc dim a ix before = MayRead acc dim a ix before

-- P = MIN(P, e) and P = MIN(e, P) are how OP_MIN arguments are stored to; likewise MAX and OP_MAX
abbrev pub MayMerge : MinMax → Access → ℕ → ℕ → Option ℤ → Assigned → Type 0
MayMerge min_max.Min (OpReduce Min) dim a ix before = InDim dim ix
MayMerge min_max.Max (OpReduce Max) dim a ix before = InDim dim ix
MayMerge which acc dim a ix before = MayAssign acc dim a ix before

-- the event is allowed where those components were assigned before
abbrev pub Allowed : List Mode → Assigned → Event → Type 0
Allowed modes before (Reads a ix at) = MayRead (mode_at modes a).access (mode_at modes a).dim a ix before
Allowed modes before (Assigns a ix at) = MayAssign (mode_at modes a).access (mode_at modes a).dim a ix before
Allowed modes before (Adds a ix at) = MayAdd (mode_at modes a).access (mode_at modes a).dim a ix before
Allowed modes before (Changes a ix at) = MayChange (mode_at modes a).access (mode_at modes a).dim a ix before
Allowed modes before (Owns which a ix at) = MayOwn which (mode_at modes a).access (mode_at modes a).dim a ix before
Allowed modes before (Merges which a ix at) = MayMerge which (mode_at modes a).access (mode_at modes a).dim a ix before

-- one more, where its index is static
abbrev pub with_assigned : ℕ → Option ℤ → Assigned → Assigned
with_assigned a None before = before
with_assigned a (Some (pos i)) before = (a, i) ∷ before
with_assigned a (Some (negsuc i)) before = before

-- the components that were assigned before the next event
abbrev pub after_event : Event → Assigned → Assigned
after_event (Reads a ix at) before = before
after_event (Assigns a ix at) before = with_assigned a ix before
after_event (Adds a ix at) before = with_assigned a ix before
after_event (Changes a ix at) before = with_assigned a ix before
after_event (Owns which a ix at) before = before
after_event (Merges which a ix at) before = with_assigned a ix before

-- each event is allowed where it stands
abbrev pub AllAllowed : List Mode → Assigned → List Event → Type 0
AllAllowed modes before [] = Unit {0}
AllAllowed modes before (e ∷ es) = Allowed modes before e × AllAllowed modes (after_event e before) es

-- the components that were assigned before or by the events
abbrev pub assigned_after : Assigned → List Event → Assigned
assigned_after before [] = before
assigned_after before (e ∷ es) = assigned_after (after_event e before) es

-- each component of each OP_WRITE argument was assigned
abbrev pub AllWritten : List Mode → Assigned → Type 0
AllWritten modes before =
    (a i : ℕ) → (mode_at modes a).access ≡ OpWrite → i < (mode_at modes a).dim → HasAssigned before a i

-- no rule is broken on any path
abbrev pub Obeys : RStmt → List Mode → Type 0
Obeys body modes =
    (w : Path body) → AllAllowed modes [] (events body w no_counters) × AllWritten modes (assigned_after [] (events body w no_counters))

-- a kernel obeys its modes, one for each parameter
abbrev pub KernelObeys : RKernel → List Mode → Type 0
KernelObeys k modes = Obeys k.body.statement modes
