-- The turns of the loop over a chain of operators.
use Rattle.std.proofs.Common.{◌≡◌, ℕ, suc, ◌+◌, ◌-◌, ◌<◌, ◌≤◌, List, Some, Ok, Err, refl, arith}
use Rattle.std.proofs.Math.Numerals.{add-one}
use Rattle.c_tree.specs.declared.lexer.tokens.Kind.{Kind}
use Rattle.c_tree.specs.declared.expressions.BinaryOp.{BinaryOp}
use Rattle.c_tree.specs.Signs.{level_of}
use Rattle.c_tree.specs.Tree.{ExprTree, Binary}
use Rattle.c_reader.specs.declared.faults.Fault.TheVariants.{TooDeep}
use Rattle.c_reader.specs.declared.faults.ReadError.{ReadError}
use Rattle.c_reader.specs.declared.faults.ReadError.TheVariants as errors
use Rattle.c_reader.specs.Descent.{Rec, Fails, operator_at, chain}
use Rattle.c_reader.proofs.Complete.{chain_goes, chain_full}

left_over : (c : ℕ) → c < 128 → 128 - c ≡ suc (128 - (c + 1))
left_over c h = omega arith

-- one operator more
pub turn : (ks : List Kind) (rec : Rec) (c m : ℕ) (l : ExprTree) (n : ℕ) (op : BinaryOp) (x : ExprTree × ℕ) → c < 128
    → operator_at ks m n ≡ Some op → rec (level_of op + 1) (n + 1) ≡ Ok x
    → chain ks rec (128 - c) m l n ≡ chain ks rec (128 - (c + 1)) m (Binary op n l x.0) x.1
turn ks rec c m l n op x h o r =
    let r' : rec (suc (level_of op)) (suc n) ≡ Ok x = rw (← add-one (level_of op), ← add-one n) r in
    rw (left_over c h, chain_goes ks rec (128 - (c + 1)) m l n op o, r') refl

-- a right operand that isn't read
pub turn_fails : (ks : List Kind) (rec : Rec) (c m : ℕ) (l : ExprTree) (n : ℕ) (op : BinaryOp) (e : ReadError) → c < 128
    → operator_at ks m n ≡ Some op → Fails e (rec (level_of op + 1) (n + 1)) → Fails e (chain ks rec (128 - c) m l n)
turn_fails ks rec c m l n op errors.Memory h o r = tt
turn_fails ks rec c m l n op (errors.Fault f) h o r =
    let r' : rec (suc (level_of op)) (suc n) ≡ Err f = rw (← add-one (level_of op), ← add-one n) r in
    rw (left_over c h, chain_goes ks rec (128 - (c + 1)) m l n op o, r') refl

-- one operator more than a chain may have
pub last_turn : (ks : List Kind) (rec : Rec) (c m : ℕ) (l : ExprTree) (n : ℕ) (op : BinaryOp) → 128 ≤ c → operator_at ks m n ≡ Some op → chain ks rec (128 - c) m l n ≡ Err (TooDeep n)
last_turn ks rec c m l n op h o =
    let none : 128 - c ≡ 0 = omega arith in
    rw none (chain_full ks rec m l n op o)
