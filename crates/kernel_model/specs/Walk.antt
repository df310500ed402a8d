-- The refusal of a kernel by one walk over it, with the components that every path has assigned.
use Rattle.std.specs.Prelude.{ℕ, zero, suc, ℤ, pos, negsuc, ◌-◌, List, length, Bool, true, false, cond, ◌&&◌, ◌||◌, Option, Some, None, nat_eq, nat_lt}
use Rattle.c_tree.specs.declared.lexer.tokens.Pos.{Pos}
use Rattle.c_tree.specs.declared.expressions.MinMax.{MinMax}
use Rattle.op_num.specs.Reduction.{Add, Min, Max}
use Rattle.op_num.specs.Access.{Access, OpRead, OpWrite, OpReduce}
use Rattle.kernel_model.specs.declared.types.expressions.RExpr.{RExpr}
use Rattle.kernel_model.specs.declared.types.expressions.RExpr.TheVariants.{Number, Scalar, Constant, Arg', Local', Const', Unary', Binary', Choice', Paren', Extremum', Absolute'}
use Rattle.kernel_model.specs.declared.types.statements.RStmt.{RStmt, Block', Declare, SetScalar, SetLocal, SetArg, If', For', Row_of-RStmt, end_of-RStmt, more_of-RStmt}
use Rattle.kernel_model.specs.declared.types.kernels.RKernel.{RKernel}
use Rattle.kernel_model.specs.Obeys.{Mode, mode_at, Counters, no_counters, with_counter, static, Event, Reads, Owns, Own, First, Second, own_side, target_event, KernelObeys}
use Rattle.kernel_model.specs.Refusals.{Rule, WritesRead, ReadsInc, IncNotSum, ReadsUnwritten, NotAllWritten, WriteIndexNotStatic, LiteralIndexOut, MinMaxForm, number_of, argument_of, index_of, place_of, is_target, is_sum, is_extremum, is_read, opposite, parameter_place, IsRefusal}

-- ---- what was found so far

-- a rule that is broken, and where
pub record Breach : Type 0 where
  pub rule : Rule
  pub at : Pos

-- an earlier place in the source
abbrev pub is_earlier : Pos → Pos → Bool
is_earlier p q = nat_lt p.line q.line || (nat_eq p.line q.line && nat_lt p.column q.column)

-- the same place
abbrev pub is_place_of : Pos → Pos → Bool
is_place_of p q = nat_eq p.line q.line && nat_eq p.column q.column

-- the rule at that place counts before the other
abbrev pub precedes : Rule → Pos → Breach → Bool
precedes rule at b = is_earlier at b.at || (is_place_of at b.at && nat_lt (number_of rule) (number_of b.rule))

-- the one that counts
abbrev pub noted : Option Breach → Rule → Pos → Option Breach
noted None rule at = Some (record { rule = rule; at = at })
noted (Some b) rule at = cond (precedes rule at b) (Some (record { rule = rule; at = at })) (Some b)

-- where the rule is broken
abbrev pub noted_if : Bool → Rule → Pos → Option Breach → Option Breach
noted_if broken rule at found = cond broken (noted found rule at) found

-- ---- which components every path has assigned

-- by argument and component
abbrev pub Covered : Type 0
Covered = ℕ → ℕ → Bool

-- none
abbrev pub none_covered : Covered
none_covered = λ a i. false

-- one more, where its index is static
abbrev pub with_covered : ℕ → Option ℤ → Covered → Covered
with_covered a None c = c
with_covered a (Some (pos i)) c = λ b j. (nat_eq a b && nat_eq i j) || c b j
with_covered a (Some (negsuc i)) c = c

-- after either branch of an if
abbrev pub both_covered : Covered → Covered → Covered
both_covered c d = λ b j. c b j && d b j

-- over the turns of a for
abbrev pub turns_covered : (ℕ → Covered → Covered) → ℕ → ℕ → Covered → Covered
turns_covered f i zero c = c
turns_covered f i (suc n) c = turns_covered f (suc i) n (f i c)

abbrev mutual
  -- after a statement
  pub covered_after : RStmt → Counters → Covered → Covered
  covered_after (Block' shape all) cs c = row_covered_after all cs c
  covered_after (Declare from count) cs c = c
  covered_after (SetScalar k op opat e) cs c = c
  covered_after (SetLocal from count form ix at op opat e) cs c = c
  covered_after (SetArg a form ix at op opat e) cs c = with_covered a (static ix cs) c
  covered_after (If' e p a q b) cs c = both_covered (covered_after a cs c) (covered_after b cs c)
  covered_after (For' k first past p body) cs c =
      turns_covered (λ i d. covered_after body (with_counter cs k (pos i)) d) first (past - first) c

  -- after the statements of a block
  pub row_covered_after : {m : _} → Row_of-RStmt m → Counters → Covered → Covered
  row_covered_after end_of-RStmt cs c = c
  row_covered_after (more_of-RStmt first rest) cs c = row_covered_after rest cs (covered_after first cs c)

-- ---- one event

-- OP_READ
abbrev pub is_op_read : Access → Bool
is_op_read OpRead = true
is_op_read acc = false

-- OP_WRITE
abbrev pub is_op_write : Access → Bool
is_op_write OpWrite = true
is_op_write acc = false

-- OP_INC, OP_MIN and OP_MAX
abbrev pub is_op_reduce : Access → Bool
is_op_reduce (OpReduce r) = true
is_op_reduce acc = false

-- OP_INC
abbrev pub is_op_inc : Access → Bool
is_op_inc (OpReduce Add) = true
is_op_inc acc = false

-- OP_MIN and OP_MAX
abbrev pub is_op_extremum : Access → Bool
is_op_extremum (OpReduce Min) = true
is_op_extremum (OpReduce Max) = true
is_op_extremum acc = false

-- the index isn't static
abbrev pub is_unknown : Option ℤ → Bool
is_unknown None = true
is_unknown (Some z) = false

-- a static index isn't below the dim
abbrev pub is_out : ℕ → Option ℤ → Bool
is_out dim None = false
is_out dim (Some (pos i)) = opposite (nat_lt i dim)
is_out dim (Some (negsuc i)) = true

-- a component below the dim isn't assigned on every path before
abbrev pub is_unwritten : ℕ → (ℕ → Bool) → Option ℤ → Bool
is_unwritten dim c None = false
is_unwritten dim c (Some (pos i)) = nat_lt i dim && opposite (c i)
is_unwritten dim c (Some (negsuc i)) = false

-- the event breaks the rule on some path
abbrev pub breaks : Covered → Access → ℕ → Event → Rule → Bool
breaks c acc dim e WritesRead = is_op_read acc && is_target e
breaks c acc dim e ReadsInc = is_op_reduce acc && is_read acc e
breaks c acc dim e IncNotSum = is_op_inc acc && (is_target e && opposite (is_sum e))
breaks c acc dim e ReadsUnwritten = is_op_write acc && (is_read acc e && is_unwritten dim (c (argument_of e)) (index_of e))
breaks c acc dim e NotAllWritten = false
breaks c acc dim e WriteIndexNotStatic = is_op_write acc && is_unknown (index_of e)
breaks c acc dim e LiteralIndexOut = is_out dim (index_of e)
breaks c acc dim e MinMaxForm = is_op_extremum acc && (is_target e && opposite (is_extremum acc e))

-- with that rule at the event
abbrev pub with_rule : Covered → Access → ℕ → Event → Rule → Option Breach → Option Breach
with_rule c acc dim e rule found = noted_if (breaks c acc dim e rule) rule (place_of e) found

-- with all rules but that on the end
abbrev pub with_rules : Covered → Access → ℕ → Event → Option Breach → Option Breach
with_rules c acc dim e found =
    with_rule c acc dim e MinMaxForm (with_rule c acc dim e LiteralIndexOut (with_rule c acc dim e WriteIndexNotStatic
    (with_rule c acc dim e ReadsUnwritten (with_rule c acc dim e IncNotSum (with_rule c acc dim e ReadsInc
    (with_rule c acc dim e WritesRead found))))))

-- ---- the walk

module _ (modes : List Mode) where
  -- after an event
  abbrev pub event_found : Covered → Event → Option Breach → Option Breach
  event_found c e found = with_rules c (mode_at modes (argument_of e)).access (mode_at modes (argument_of e)).dim e found

  -- after an expression
  abbrev pub expr_found : RExpr → Counters → Covered → Option Breach → Option Breach
  expr_found (Number n) cs c found = found
  expr_found (Scalar k) cs c found = found
  expr_found (Constant k) cs c found = found
  expr_found (Arg' a form p e at) cs c found = event_found c (Reads a (static e cs) at) (expr_found e cs c found)
  expr_found (Local' from count form p e at) cs c found = expr_found e cs c found
  expr_found (Const' from count form p e at) cs c found = expr_found e cs c found
  expr_found (Unary' op p a) cs c found = expr_found a cs c found
  expr_found (Binary' op p a q b at) cs c found = expr_found b cs c (expr_found a cs c found)
  expr_found (Choice' p x q a r b) cs c found = expr_found b cs c (expr_found a cs c (expr_found x cs c found))
  expr_found (Paren' p a) cs c found = expr_found a cs c found
  expr_found (Extremum' which p a q b) cs c found = expr_found b cs c (expr_found a cs c found)
  expr_found (Absolute' p a) cs c found = expr_found a cs c found

  -- after the target itself on the right side
  abbrev pub own_found : MinMax → RExpr → Counters → Covered → Option Breach → Option Breach
  own_found which (Arg' b form p jx at) cs c found = event_found c (Owns which b (static jx cs) at) (expr_found jx cs c found)
  own_found which e cs c found = expr_found e cs c found

  -- after the right side of an assignment
  abbrev pub right_found : Own → RExpr → Counters → Covered → Option Breach → Option Breach
  right_found (First which) (Extremum' other p x q y) cs c found = expr_found y cs c (own_found which x cs c found)
  right_found (Second which) (Extremum' other p x q y) cs c found = own_found which y cs c (expr_found x cs c found)
  right_found own e cs c found = expr_found e cs c found

  -- after the turns of a for
  abbrev pub turns_found : (ℕ → Covered → Option Breach → Option Breach) → (ℕ → Covered → Covered) → ℕ → ℕ → Covered → Option Breach
      → Option Breach
  turns_found t f i zero c found = found
  turns_found t f i (suc n) c found = turns_found t f (suc i) n (f i c) (t i c found)

  abbrev mutual
    -- after a statement
    pub stmt_found : RStmt → Counters → Covered → Option Breach → Option Breach
    stmt_found (Block' shape all) cs c found = row_found all cs c found
    stmt_found (Declare from count) cs c found = found
    stmt_found (SetScalar k op opat e) cs c found = expr_found e cs c found
    stmt_found (SetLocal from count form ix at op opat e) cs c found = expr_found e cs c (expr_found ix cs c found)
    stmt_found (SetArg a form ix at op opat e) cs c found =
        event_found c (target_event (own_side a form ix op e) op a (static ix cs) at)
        (right_found (own_side a form ix op e) e cs c (expr_found ix cs c found))
    stmt_found (If' e p a q b) cs c found = stmt_found b cs c (stmt_found a cs c (expr_found e cs c found))
    stmt_found (For' k first past p body) cs c found =
        turns_found (λ i d g. stmt_found body (with_counter cs k (pos i)) d g)
        (λ i d. covered_after body (with_counter cs k (pos i)) d) first (past - first) c found

    -- after the statements of a block
    pub row_found : {m : _} → Row_of-RStmt m → Counters → Covered → Option Breach → Option Breach
    row_found end_of-RStmt cs c found = found
    row_found (more_of-RStmt first rest) cs c found = row_found rest cs (covered_after first cs c) (stmt_found first cs c found)

-- all numbers below n have it
abbrev pub all_below : (ℕ → Bool) → ℕ → Bool
all_below p zero = true
all_below p (suc n) = p n && all_below p n

-- a component of the argument isn't assigned on every path
abbrev pub leaves_unwritten : List Mode → Covered → ℕ → Bool
leaves_unwritten modes c a = is_op_write (mode_at modes a).access && opposite (all_below (c a) (mode_at modes a).dim)

-- after the end, for n arguments from a on
abbrev pub ends_found : (ℕ → Pos) → List Mode → Covered → (a n : ℕ) → Option Breach → Option Breach
ends_found place modes c a zero found = found
ends_found place modes c a (suc n) found =
    ends_found place modes c (suc a) n (noted_if (leaves_unwritten modes c a) NotAllWritten (place a) found)

-- what the walk finds in a kernel
abbrev pub walk : RKernel → List Mode → Option Breach
walk k modes =
    ends_found (parameter_place k) modes (covered_after k.body.statement no_counters none_covered) 0 (length modes)
    (stmt_found modes k.body.statement no_counters none_covered None)

-- what is found is the refusal, and where nothing is found the kernel obeys its modes
abbrev pub IsFound : Option Breach → RKernel → List Mode → Type 0
IsFound None k modes = KernelObeys k modes
IsFound (Some b) k modes = IsRefusal k modes b.rule b.at

-- the walk finds the refusal
abbrev pub WalkFinds : Type 0
WalkFinds = (k : RKernel) (modes : List Mode) → IsFound (walk k modes) k modes
