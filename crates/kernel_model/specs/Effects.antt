-- What statements may do, and in which order: store through arguments, and fault (ISO C 6.5 and 6.8, by the meaning of kernels).
use Rattle.std.specs.Prelude.{ℕ, ℤ, pos, negsuc, List, [], ◌∷◌, Bool, true, false, ◌&&◌, ◌||◌, nat_lt, slice_index_or}
use Rattle.c_tree.specs.declared.expressions.BinaryOp.{BinaryOp}
use Rattle.c_tree.specs.declared.expressions.BinaryOp.TheVariants as binary
use Rattle.c_tree.specs.declared.declarations.AssignOp.{AssignOp}
use Rattle.c_tree.specs.declared.declarations.AssignOp.TheVariants as assign
use Rattle.kernel_model.specs.declared.types.expressions.RExpr.{RExpr}
use Rattle.kernel_model.specs.declared.types.expressions.RExpr.TheVariants.{Number, Scalar, Constant, Arg', Local', Const', Unary', Binary', Choice', Paren', Extremum', Absolute'}
use Rattle.kernel_model.specs.declared.types.statements.RStmt.{RStmt, Block', Declare, SetScalar, SetLocal, SetArg, If', For', Row_of-RStmt, end_of-RStmt, more_of-RStmt}
use Rattle.kernel_model.specs.declared.types.kernels.RKernel.{RKernel}
use Rattle.kernel_model.specs.Numbers.{not, is_zero, is_shift}
use Rattle.kernel_model.specs.declared.fault_order.effects.Effects.{Effects}

-- ---- expressions

-- the number is an index below the count
abbrev pub is_below : ℕ → ℤ → Bool
is_below count (pos i) = nat_lt i count
is_below count (negsuc i) = false

-- an index may be out, but for a number below the count
abbrev pub may_be_out : ℕ → RExpr → Bool
may_be_out count (Number n) = not (is_below count n)
may_be_out count e = true

-- a divisor may be 0, but for another number
abbrev pub may_be_zero : RExpr → Bool
may_be_zero (Number n) = is_zero n
may_be_zero e = true

-- nothing may be shifted by it, but for a number from 0 to 31
abbrev pub may_be_no_shift : RExpr → Bool
may_be_no_shift (Number n) = not (is_shift n)
may_be_no_shift e = true

-- an operator may fault with that on its right
abbrev pub operator_may_fault : BinaryOp → RExpr → Bool
operator_may_fault binary.ShiftLeft b = may_be_no_shift b
operator_may_fault binary.ShiftRight b = may_be_no_shift b
operator_may_fault binary.Div b = may_be_zero b
operator_may_fault binary.Rem b = may_be_zero b
operator_may_fault op b = false

-- the sign of an assignment may, with that on its right
abbrev pub sign_may_fault : AssignOp → RExpr → Bool
sign_may_fault assign.ShiftLeft e = may_be_no_shift e
sign_may_fault assign.ShiftRight e = may_be_no_shift e
sign_may_fault assign.Div e = may_be_zero e
sign_may_fault assign.Rem e = may_be_zero e
sign_may_fault op e = false

-- how many components an argument has; 0 for one that is not there
abbrev pub count_at : List ℕ → ℕ → ℕ
count_at counts a = slice_index_or counts a 0

module _ (counts : List ℕ) where
  -- an expression may fault, over arguments with so many components
  abbrev pub may_fault : RExpr → Bool
  may_fault (Number n) = false
  may_fault (Scalar k) = false
  may_fault (Constant k) = false
  may_fault (Arg' a form p e at) = may_be_out (count_at counts a) e
  may_fault (Local' from count form p e at) = may_be_out count e
  may_fault (Const' from count form p e at) = may_be_out count e
  may_fault (Unary' op p a) = may_fault a
  may_fault (Binary' op p a q b at) = operator_may_fault op b || (may_fault b || may_fault a)
  may_fault (Choice' p c q a r b) = may_fault a || (may_fault b || may_fault c)
  may_fault (Paren' p a) = may_fault a
  may_fault (Extremum' which p a q b) = may_fault b || may_fault a
  may_fault (Absolute' p a) = may_fault a

-- ---- statements

-- nothing is stored through an argument, and nothing faults
abbrev pub none : Effects
none = record { stores = false; faults = false; ordered = true }

-- something is stored through an argument
abbrev pub a_store : Effects
a_store = record { stores = true; faults = false; ordered = true }

-- something may fault, if so
abbrev pub fault_if : Bool → Effects
fault_if b = record { stores = false; faults = b; ordered = true }

-- one after another: nothing of the second faults where the first stores
abbrev pub in_order : Effects → Effects → Effects
in_order x y = record {
  stores = x.stores || y.stores;
  faults = x.faults || y.faults;
  ordered = not (x.stores && y.faults) && (x.ordered && y.ordered);
}

-- one or the other
abbrev pub either : Effects → Effects → Effects
either x y = record {
  stores = x.stores || y.stores;
  faults = x.faults || y.faults;
  ordered = x.ordered && y.ordered;
}

module _ (counts : List ℕ) where
  abbrev mutual
    -- of a statement; a `for` is its body after its body
    pub effects_of : RStmt → Effects
    effects_of (Block' shape all) = row_effects all
    effects_of (Declare from count) = none
    effects_of (SetScalar k op opat e) = fault_if (sign_may_fault op e || may_fault counts e)
    effects_of (SetLocal from count form ix at op opat e) =
        fault_if (may_be_out count ix || (sign_may_fault op e || may_fault counts e))
    effects_of (SetArg a form ix at op opat e) =
        in_order (fault_if (may_be_out (count_at counts a) ix || (sign_may_fault op e || may_fault counts e))) a_store
    effects_of (If' e p a q b) = in_order (fault_if (may_fault counts e)) (either (effects_of a) (effects_of b))
    effects_of (For' k first past p body) = in_order (effects_of body) (effects_of body)

    -- of the statements of a block
    pub row_effects : {m : _} → Row_of-RStmt m → Effects
    row_effects end_of-RStmt = none
    row_effects (more_of-RStmt first rest) = in_order (effects_of first) (row_effects rest)

  -- of statements in a list
  abbrev pub list_effects : List RStmt → Effects
  list_effects [] = none
  list_effects (st ∷ rest) = in_order (effects_of st) (list_effects rest)

  -- no part of the kernel that may fault can run after a store through an argument
  abbrev pub faults_first : RKernel → Bool
  faults_first k = (effects_of k.body.statement).ordered
