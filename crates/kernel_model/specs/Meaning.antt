-- What a kernel does to a store of named cells (ISO C 6.5 and 6.8, with operands from left to right).
use Rattle.std.specs.Prelude.{ℕ, zero, suc, ℤ, pos, negsuc, ◌+◌, ◌-◌, List, cond, Result, Ok, Err, nat_lt, slice_index_or, slice_set, replicate}
use Rattle.op_num.specs.declared.refusals.Fault.TheVariants.{Index}
use Rattle.c_tree.specs.declared.lexer.tokens.Pos.{Pos}
use Rattle.c_tree.specs.declared.expressions.BinaryOp.TheVariants as binary
use Rattle.c_tree.specs.declared.declarations.AssignOp.{AssignOp}
use Rattle.c_tree.specs.declared.declarations.AssignOp.TheVariants as assign
use Rattle.kernel_model.specs.declared.types.faults.KernelFault.{KernelFault}
use Rattle.kernel_model.specs.declared.types.expressions.RExpr.{RExpr}
use Rattle.kernel_model.specs.declared.types.expressions.RExpr.TheVariants.{Number, Scalar, Constant, Arg', Local', Const', Unary', Binary', Choice', Paren', Extremum', Absolute'}
use Rattle.kernel_model.specs.declared.types.statements.RStmt.{RStmt, Block', Declare, SetScalar, SetLocal, SetArg, If', For', Row_of-RStmt, end_of-RStmt, more_of-RStmt}
use Rattle.kernel_model.specs.declared.types.kernels.RKernel.{RKernel}
pub use Rattle.kernel_model.specs.Stores.{Store, cell, with_cell, Target, no_target, target_at, read_arg, store_arg}
use Rattle.kernel_model.specs.Numbers.{Value, fault, truth, is_zero, apply, apply_unary, is_settled, extremum, magnitude, not}

-- ---- values

-- goes on with a value, or stops with its fault
abbrev pub on_value : {A R : Type 0} → (KernelFault → R) → Result A KernelFault → (A → R) → R
on_value stop (Err f) go = stop f
on_value stop (Ok v) go = go v

-- the same, where what follows is a value
abbrev pub and_then : {A : Type 0} → Result A KernelFault → (A → Value) → Value
and_then r go = on_value Err r go

-- an index below the count
abbrev pub index_in : ℕ → Pos → ℤ → Result ℕ KernelFault
index_in count at (pos i) = cond (nat_lt i count) (Ok i) (Err (fault Index at))
index_in count at (negsuc i) = Err (fault Index at)

module _ (ts : List Target) (consts : List ℤ) where
  -- operands from left to right; the right side of && and || and the sides of ?: only where they are asked for
  abbrev pub value_of : RExpr → Store → List ℤ → Value
  value_of (Number n) s ls = Ok n
  value_of (Scalar k) s ls = Ok (slice_index_or ls k (pos 0))
  value_of (Constant k) s ls = Ok (slice_index_or consts k (pos 0))
  value_of (Arg' a form p e at) s ls =
      and_then (value_of e s ls) (λ z. and_then (index_in (target_at ts a).count at z) (λ i. Ok (read_arg ts s a i)))
  value_of (Local' from count form p e at) s ls =
      and_then (value_of e s ls) (λ z. and_then (index_in count at z) (λ i. Ok (slice_index_or ls (from + i) (pos 0))))
  value_of (Const' from count form p e at) s ls =
      and_then (value_of e s ls) (λ z. and_then (index_in count at z) (λ i. Ok (slice_index_or consts (from + i) (pos 0))))
  value_of (Unary' op p a) s ls = and_then (value_of a s ls) (λ x. Ok (apply_unary op x))
  value_of (Binary' op p a q b at) s ls =
      and_then
      (value_of a s ls)
      (λ x. cond (is_settled op x) (Ok (truth (not (is_zero x)))) (and_then (value_of b s ls) (λ y. apply op at x y)))
  value_of (Choice' p c q a r b) s ls =
      and_then (value_of c s ls) (λ x. cond (is_zero x) (value_of b s ls) (value_of a s ls))
  value_of (Paren' p a) s ls = value_of a s ls
  value_of (Extremum' which p a q b) s ls =
      and_then (value_of a s ls) (λ x. and_then (value_of b s ls) (λ y. Ok (extremum which x y)))
  value_of (Absolute' p a) s ls = and_then (value_of a s ls) (λ x. Ok (magnitude x))

-- ---- statements

-- how a run ends: with the store and the locals, or at the first fault with what was stored before it
pub data Outcome : Type 0 where
  Done : (s : Store) (ls : List ℤ) → Outcome
  Faulted : (s : Store) (ls : List ℤ) (f : KernelFault) → Outcome

-- goes on after a run that is done
abbrev pub then_do : Outcome → (Store → List ℤ → Outcome) → Outcome
then_do (Done s ls) go = go s ls
then_do (Faulted s ls f) go = Faulted s ls f

-- goes on with a value, or stops with its fault, with the store and the locals as they are
abbrev pub with_value : {A : Type 0} → Store → List ℤ → Result A KernelFault → (A → Outcome) → Outcome
with_value s ls r go = on_value (Faulted s ls) r go

-- what an assignment stores over an old value; its operator is that of the sign
abbrev pub stored : AssignOp → Pos → ℤ → ℤ → Value
stored assign.Set at old v = Ok v
stored assign.Add at old v = apply binary.Add at old v
stored assign.Sub at old v = apply binary.Sub at old v
stored assign.Mul at old v = apply binary.Mul at old v
stored assign.Div at old v = apply binary.Div at old v
stored assign.Rem at old v = apply binary.Rem at old v
stored assign.ShiftLeft at old v = apply binary.ShiftLeft at old v
stored assign.ShiftRight at old v = apply binary.ShiftRight at old v
stored assign.BitAnd at old v = apply binary.BitAnd at old v
stored assign.BitOr at old v = apply binary.BitOr at old v
stored assign.BitXor at old v = apply binary.BitXor at old v

-- count cells set to 0, from a place on
abbrev pub cleared : ℕ → ℕ → List ℤ → List ℤ
cleared from zero ls = ls
cleared from (suc n) ls = cleared (suc from) n (slice_set ls from (pos 0))

-- the turns of a for: the counter's cell is set, then the body runs
abbrev pub turns : (Store → List ℤ → Outcome) → ℕ → ℕ → ℕ → Store → List ℤ → Outcome
turns body k i zero s ls = Done s ls
turns body k i (suc n) s ls = then_do (body s (slice_set ls k (pos i))) (turns body k (suc i) n)

module _ (ts : List Target) (consts : List ℤ) where
  -- in an assignment the index of the target comes first, then the old value, then the right side, then the sign
  abbrev mutual
    -- of a statement
    pub meaning : RStmt → Store → List ℤ → Outcome
    meaning (Block' shape all) s ls = meaning_of_all all s ls
    meaning (Declare from count) s ls = Done s (cleared from count ls)
    meaning (SetScalar k op opat e) s ls =
        with_value s ls (value_of ts consts e s ls) (λ v.
        with_value s ls (stored op opat (slice_index_or ls k (pos 0)) v) (λ r.
        Done s (slice_set ls k r)))
    meaning (SetLocal from count form ix at op opat e) s ls =
        with_value s ls (value_of ts consts ix s ls) (λ z.
        with_value s ls (index_in count at z) (λ i.
        with_value s ls (value_of ts consts e s ls) (λ v.
        with_value s ls (stored op opat (slice_index_or ls (from + i) (pos 0)) v) (λ r.
        Done s (slice_set ls (from + i) r)))))
    meaning (SetArg a form ix at op opat e) s ls =
        with_value s ls (value_of ts consts ix s ls) (λ z.
        with_value s ls (index_in (target_at ts a).count at z) (λ i.
        with_value s ls (value_of ts consts e s ls) (λ v.
        with_value s ls (stored op opat (read_arg ts s a i) v) (λ r.
        Done (store_arg ts s a i r) ls))))
    meaning (If' e p a q b) s ls =
        with_value s ls (value_of ts consts e s ls) (λ x. cond (is_zero x) (meaning b s ls) (meaning a s ls))
    meaning (For' k first past p body) s ls = turns (meaning body) k first (past - first) s ls

    -- of the statements of a block, in order
    pub meaning_of_all : {m : _} → Row_of-RStmt m → Store → List ℤ → Outcome
    meaning_of_all end_of-RStmt s ls = Done s ls
    meaning_of_all (more_of-RStmt first rest) s ls = then_do (meaning first s ls) (meaning_of_all rest)

-- ---- kernels

-- how a kernel's run ends: with the store, or at the first fault with what was stored before it
pub data Ran : Type 0 where
  Finished : (s : Store) → Ran
  Stopped : (s : Store) (f : KernelFault) → Ran

-- the locals are let go
abbrev pub without_locals : Outcome → Ran
without_locals (Done s ls) = Finished s
without_locals (Faulted s ls f) = Stopped s f

-- what a kernel does to a store: its locals start at 0
abbrev pub kernel_meaning : List Target → List ℤ → RKernel → Store → Ran
kernel_meaning ts consts k s = without_locals (meaning ts consts k.body.statement s (replicate k.scratch (pos 0)))

-- the end of a run that left that store
abbrev pub ran_of : {A : Type 0} → Store → Result A KernelFault → Ran
ran_of s (Ok x) = Finished s
ran_of s (Err f) = Stopped s f
