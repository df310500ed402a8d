-- A run stores numbers of 32 bits alone.
use Rattle.std.proofs.Common.{◌≡◌, ℕ, zero, suc, ℤ, pos, negsuc, ◌+◌, ◌-◌, ◌<◌, ◌≤◌, ◌^◌, List, [], length, get_or, set, Result, Ok, Err, Bool, true, false, cond, ◌&&◌, refl, sym, subst, arith, FitsSigned, w32, to_z, replicate, get_or-set_same, get_or-set_other}
use Rattle.std.specs.Prelude.{nat_lt, nat_eq, slice_index_or, int_rem, unsigned_abs}
use Rattle.std.proofs.Math.ListN.{get_or-eq_default}
use Rattle.std.proofs.lemmas.List.{length-set}
use Rattle.std.proofs.lemmas.Bool.{ltb-true, ltb-false, eqb-true, eqb-false}
use Rattle.std.proofs.lemmas.Int.{SFits-int_wrap, quot-rem, ints}
use borrow.Author.Differences.{fits_in, read_fits}
use lib.Signed.{mag_rem, mag_shr}
use Rattle.c_tree.specs.declared.lexer.tokens.Pos.{Pos}
use Rattle.op_num.specs.declared.refusals.Fault.TheVariants.{Index, DivZero, ShiftCount}
use Rattle.c_tree.specs.declared.declarations.AssignOp.{AssignOp}
use Rattle.c_tree.specs.declared.declarations.AssignOp.TheVariants as assign
use Rattle.kernel_model.specs.declared.types.faults.KernelFault.{KernelFault}
use Rattle.kernel_model.specs.declared.types.expressions.RExpr.{RExpr}
use Rattle.kernel_model.specs.declared.types.expressions.RExpr.TheVariants.{Number, Scalar, Constant, Arg', Local', Const', Unary', Binary', Choice', Paren', Extremum', Absolute'}
use Rattle.kernel_model.specs.declared.types.statements.RStmt.{RStmt, Block', Declare, SetScalar, SetLocal, SetArg, If', For', Row_of-RStmt, end_of-RStmt, more_of-RStmt}
use Rattle.c_tree.specs.declared.expressions.BinaryOp.{BinaryOp}
use Rattle.c_tree.specs.declared.expressions.BinaryOp.TheVariants as binary
use Rattle.c_tree.specs.declared.expressions.UnaryOp.{UnaryOp}
use Rattle.c_tree.specs.declared.expressions.UnaryOp.TheVariants as unary
use Rattle.op_num.proofs.Public.{commuting}
use Rattle.op_num.specs.Wrapping.{remainder}
use Rattle.kernel_model.specs.Resolved.{ExprWithin, StmtWithin, RowWithin}
use Rattle.kernel_model.specs.Numbers.{Value, fault, truth, is_zero, is_shift, is_settled, apply, apply_unary, magnitude, reduction_of, unless_zero, if_shift, sum, difference, product, quotient, rest, shifted_left, shifted_right, and_bits, or_bits, xor_bits, complement, negated}
use Rattle.kernel_model.specs.Meaning.{Store, cell, Target, target_at, read_arg, store_arg, and_then, index_in, value_of, Outcome, Done, Faulted, then_do, with_value, stored, cleared, turns, meaning, meaning_of_all, without_locals}
use Rattle.kernel_model.specs.Operators.{IsNumber, OperatorsStayInRange}
use Rattle.kernel_model.specs.Independence.{Fits, InRange, RangeStays, store_after}
use Rattle.kernel_model.proofs.Stores.{cell-with_cell}
use Rattle.kernel_model.proofs.Reached.{SameShape, shape_kept}

abbrev Num : ℤ → Type 0
Num z = FitsSigned w32 z

-- ---- operators

read_is_num : (n : ℕ) → Num (to_z w32 n)
read_is_num n = omega (arith, fits_in, read_fits w32 n)

truth_is_num : (b : Bool) → Num (truth b)
truth_is_num true = record { sfits = omega arith }
truth_is_num false = record { sfits = omega arith }

sum_is_num : (x y : ℤ) → Num (sum x y)
unfolding sum
sum_is_num x y = SFits-int_wrap w32 _

difference_is_num : (x y : ℤ) → Num (difference x y)
unfolding difference
difference_is_num x y = SFits-int_wrap w32 _

product_is_num : (x y : ℤ) → Num (product x y)
unfolding product
product_is_num x y = SFits-int_wrap w32 _

quotient_is_num : (x y : ℤ) → Num (quotient x y)
unfolding quotient
quotient_is_num x y = SFits-int_wrap w32 _

shifted_left_is_num : (x y : ℤ) → Num (shifted_left x y)
unfolding shifted_left
shifted_left_is_num x y = SFits-int_wrap w32 _

negated_is_num : (x : ℤ) → Num (negated x)
unfolding negated
negated_is_num x = SFits-int_wrap w32 _

magnitude_is_num : (x : ℤ) → Num (magnitude x)
unfolding magnitude
magnitude_is_num x = SFits-int_wrap w32 _

remainder_is : (x y : ℤ) → remainder x y ≡ int_rem x y
remainder_is x y = omega (arith, ints, quot-rem x y)

int_rem_is_num : (x y : ℤ) → Num x → Num (int_rem x y)
int_rem_is_num x y f = record { sfits = omega (arith, mag_rem x y, f.sfits) }

rest_is_num : (x y : ℤ) → Num x → Num (rest x y)
unfolding rest
rest_is_num x y f = subst (FitsSigned w32) (sym (remainder_is x y)) (int_rem_is_num x y f)

shifted_right_is_num : (x y : ℤ) → Num x → Num (shifted_right x y)
unfolding shifted_right
shifted_right_is_num x y f = record { sfits = omega (arith, mag_shr x (2 ^ unsigned_abs y), f.sfits) }

and_is_num : (x y : ℤ) → Num (and_bits x y)
unfolding and_bits
and_is_num x y = read_is_num _

or_is_num : (x y : ℤ) → Num (or_bits x y)
unfolding or_bits
or_is_num x y = read_is_num _

xor_is_num : (x y : ℤ) → Num (xor_bits x y)
unfolding xor_bits
xor_is_num x y = read_is_num _

complement_is_num : (x : ℤ) → Num (complement x)
unfolding complement
complement_is_num x = read_is_num _

unless_zero_num : (d v : ℤ) (at : Pos) → Num v → IsNumber (unless_zero d at v)
unless_zero_num d v at f = pick (is_zero d)
  where
    pick : (b : Bool) → IsNumber (cond b (Err (fault DivZero at)) (Ok v))
    pick true = tt
    pick false = f

if_shift_num : (n v : ℤ) (at : Pos) → Num v → IsNumber (if_shift n at v)
if_shift_num n v at f = pick (is_shift n)
  where
    pick : (b : Bool) → IsNumber (cond b (Ok v) (Err (fault ShiftCount at)))
    pick true = f
    pick false = tt

apply_num : (op : BinaryOp) (at : Pos) (x y : ℤ) → Num x → Num y → IsNumber (apply op at x y)
apply_num binary.LogicalOr at x y f g = truth_is_num _
apply_num binary.LogicalAnd at x y f g = truth_is_num _
apply_num binary.BitOr at x y f g = or_is_num x y
apply_num binary.BitXor at x y f g = xor_is_num x y
apply_num binary.BitAnd at x y f g = and_is_num x y
apply_num binary.Equal at x y f g = truth_is_num _
apply_num binary.NotEqual at x y f g = truth_is_num _
apply_num binary.Less at x y f g = truth_is_num _
apply_num binary.Greater at x y f g = truth_is_num _
apply_num binary.LessEqual at x y f g = truth_is_num _
apply_num binary.GreaterEqual at x y f g = truth_is_num _
apply_num binary.ShiftLeft at x y f g = if_shift_num y (shifted_left x y) at (shifted_left_is_num x y)
apply_num binary.ShiftRight at x y f g = if_shift_num y (shifted_right x y) at (shifted_right_is_num x y f)
apply_num binary.Add at x y f g = sum_is_num x y
apply_num binary.Sub at x y f g = difference_is_num x y
apply_num binary.Mul at x y f g = product_is_num x y
apply_num binary.Div at x y f g = unless_zero_num y (quotient x y) at (quotient_is_num x y)
apply_num binary.Rem at x y f g = unless_zero_num y (rest x y) at (rest_is_num x y f)

unary_num : (op : UnaryOp) (x : ℤ) → Num x → Num (apply_unary op x)
unary_num unary.Minus x f = negated_is_num x
unary_num unary.Plus x f = f
unary_num unary.Not x f = truth_is_num _
unary_num unary.Complement x f = complement_is_num x

stored_num : (op : AssignOp) (at : Pos) (old v : ℤ) → Num old → Num v → IsNumber (stored op at old v)
stored_num assign.Set at old v f g = g
stored_num assign.Add at old v f g = apply_num binary.Add at old v f g
stored_num assign.Sub at old v f g = apply_num binary.Sub at old v f g
stored_num assign.Mul at old v f g = apply_num binary.Mul at old v f g
stored_num assign.Div at old v f g = apply_num binary.Div at old v f g
stored_num assign.Rem at old v f g = apply_num binary.Rem at old v f g
stored_num assign.ShiftLeft at old v f g = apply_num binary.ShiftLeft at old v f g
stored_num assign.ShiftRight at old v f g = apply_num binary.ShiftRight at old v f g
stored_num assign.BitAnd at old v f g = apply_num binary.BitAnd at old v f g
stored_num assign.BitOr at old v f g = apply_num binary.BitOr at old v f g
stored_num assign.BitXor at old v f g = apply_num binary.BitXor at old v f g

pub operators_stay_in_range : OperatorsStayInRange
operators_stay_in_range = record {
  tests = truth_is_num;
  unary = unary_num;
  binary = apply_num;
  extrema = λ which. (commuting (reduction_of which)).fits;
  magnitudes = magnitude_is_num;
  assigned = stored_num;
}

-- ---- cells

abbrev Nums : List ℤ → Type 0
Nums ls = (j : ℕ) → Num (get_or ls j (pos 0))

zero_is_num : Num (pos 0)
zero_is_num = record { sfits = omega arith }

set_nums : (ls : List ℤ) (k : ℕ) (v : ℤ) → Num v → Nums ls → Nums (set ls k v)
set_nums ls k v f h j = pick (nat_eq j k) (nat_lt k (length ls)) refl refl
  where
    pick : (b c : Bool) → nat_eq j k ≡ b → nat_lt k (length ls) ≡ c → Num (get_or (set ls k v) j (pos 0))
    pick true true e l =
        subst (λ m. Num (get_or (set ls k v) m (pos 0))) (sym (eqb-true j k e)) (subst (FitsSigned w32) (sym (get_or-set_same ls k v (pos 0) (ltb-true k (length ls) l))) f)
    pick true false e l = subst (FitsSigned w32) (sym (get_or-eq_default (set ls k v) (pos 0) (past (eqb-true j k e) l))) zero_is_num
      where
        past : j ≡ k → nat_lt k (length ls) ≡ false → length (set ls k v) ≤ j
        past p q = omega (arith, length-set ls k v, ltb-false k (length ls) q)
    pick false c e l = subst (FitsSigned w32) (sym (get_or-set_other ls k j v (pos 0) (eqb-false j k e))) (h j)

clear_nums : (from n : ℕ) (ls : List ℤ) → Nums ls → Nums (cleared from n ls)
clear_nums from zero ls h = h
clear_nums from (suc n) ls h = clear_nums (suc from) n (set ls from (pos 0)) (set_nums ls from (pos 0) zero_is_num h)

no_locals : (n : ℕ) → Nums (replicate n (pos 0))
no_locals zero j = zero_is_num
no_locals (suc n) zero = zero_is_num
no_locals (suc n) (suc j) = no_locals n j

below : (first past j : ℕ) → past < 2 ^ 31 → first ≤ j → j < first + (past - first) → j < 2 ^ 31
below first past j h l m = omega arith

module _ (ts : List Target) (consts : List ℤ) (s0 : Store) (fits : Fits ts s0) (nums : Nums consts) (params scratch : ℕ) where
  record Good (s : Store) : Type 0 where
    shape : SameShape s0 s
    range : InRange s

  good_stored : (s : Store) (a i : ℕ) (v : ℤ) → i < (target_at ts a).count → Num v → Good s → Good (store_arg ts s a i v)
  good_stored s a i v lt f h = record {
    shape = shape_kept ts s0 s a i v fits lt h.shape;
    range = λ x j. subst (FitsSigned w32) (sym (cell-with_cell s y n x j v la lc)) (pick (nat_eq y x && nat_eq n j) x j);
  }
    where
      y : ℕ
      y = (target_at ts a).array

      n : ℕ
      n = (target_at ts a).from + i

      la : y < length s
      la = subst (λ m. y < m) (sym h.shape.long) (fits.arrays a i lt)

      lc : n < length (slice_index_or s y [])
      lc = subst (λ m. n < m) (sym (h.shape.wide y)) (fits.cells a i lt)

      pick : (b : Bool) (x j : ℕ) → Num (cond b v (cell s x j))
      pick true x j = f
      pick false x j = h.range x j

  -- ---- expressions

  num_then : (r : Value) (go : ℤ → Value) → IsNumber r → ((x : ℤ) → Num x → IsNumber (go x)) → IsNumber (and_then r go)
  num_then (Ok x) go f h = h x f
  num_then (Err e) go f h = tt

  index_then : (r : Result ℕ KernelFault) (go : ℕ → Value) → ((i : ℕ) → IsNumber (go i)) → IsNumber (and_then r go)
  index_then (Ok i) go h = h i
  index_then (Err e) go h = tt

  num_cond : (b : Bool) (x y : Value) → IsNumber x → IsNumber y → IsNumber (cond b x y)
  num_cond true x y f g = f
  num_cond false x y f g = g

  expr_num : (e : RExpr) (s : Store) (ls : List ℤ) → ExprWithin params scratch (length consts) e → Good s → Nums ls → IsNumber (value_of ts consts e s ls)
  expr_num (Number n) s ls w g h = w
  expr_num (Scalar k) s ls w g h = h k
  expr_num (Constant k) s ls w g h = nums k
  expr_num (Arg' a form p e at) s ls w g h =
      num_then (value_of ts consts e s ls) _ (expr_num e s ls w.2 g h) (λ z f. index_then (index_in (target_at ts a).count at z) _ (λ i. g.range (target_at ts a).array ((target_at ts a).from + i)))
  expr_num (Local' from count form p e at) s ls w g h =
      num_then (value_of ts consts e s ls) _ (expr_num e s ls w.2 g h) (λ z f. index_then (index_in count at z) _ (λ i. h (from + i)))
  expr_num (Const' from count form p e at) s ls w g h =
      num_then (value_of ts consts e s ls) _ (expr_num e s ls w.2 g h) (λ z f. index_then (index_in count at z) _ (λ i. nums (from + i)))
  expr_num (Unary' op p a) s ls w g h = num_then (value_of ts consts a s ls) _ (expr_num a s ls w g h) (λ x f. unary_num op x f)
  expr_num (Binary' op p a q b at) s ls w g h =
      num_then (value_of ts consts a s ls) _ (expr_num a s ls w.0 g h)
      (λ x f. num_cond (is_settled op x) _ _ (truth_is_num _) (num_then (value_of ts consts b s ls) _ (expr_num b s ls w.1 g h) (λ y k. apply_num op at x y f k)))
  expr_num (Choice' p c q a r b) s ls w g h =
      num_then (value_of ts consts c s ls) _ (expr_num c s ls w.0 g h) (λ x f. num_cond (is_zero x) _ _ (expr_num b s ls w.2 g h) (expr_num a s ls w.1 g h))
  expr_num (Paren' p a) s ls w g h = expr_num a s ls w g h
  expr_num (Extremum' which p a q b) s ls w g h =
      num_then (value_of ts consts a s ls) _ (expr_num a s ls w.0 g h)
      (λ x f. num_then (value_of ts consts b s ls) _ (expr_num b s ls w.1 g h) (λ y k. (commuting (reduction_of which)).fits x y f k))
  expr_num (Absolute' p a) s ls w g h = num_then (value_of ts consts a s ls) _ (expr_num a s ls w g h) (λ x f. magnitude_is_num x)

  -- ---- statements

  abbrev Ends : Outcome → Type 0
  Ends (Done s ls) = Good s × Nums ls
  Ends (Faulted s ls f) = Good s

  num_ends : (s : Store) (ls : List ℤ) (r : Value) (go : ℤ → Outcome) → Good s → IsNumber r → ((x : ℤ) → Num x → Ends (go x)) → Ends (with_value s ls r go)
  num_ends s ls (Ok x) go g f h = h x f
  num_ends s ls (Err e) go g f h = g

  index_ends : (s : Store) (ls : List ℤ) (count : ℕ) (at : Pos) (z : ℤ) (go : ℕ → Outcome) → Good s → ((i : ℕ) → i < count → Ends (go i)) → Ends (with_value s ls (index_in count at z) go)
  index_ends s ls count at (negsuc i) go g h = g
  index_ends s ls count at (pos i) go g h = pick (nat_lt i count) refl
    where
      pick : (b : Bool) → nat_lt i count ≡ b → Ends (with_value s ls (cond b (Ok i) (Err (fault Index at))) go)
      pick true e = h i (ltb-true i count e)
      pick false e = g

  then_ends : (o : Outcome) (go : Store → List ℤ → Outcome) → Ends o → ((s : Store) (ls : List ℤ) → Good s → Nums ls → Ends (go s ls)) → Ends (then_do o go)
  then_ends (Done s ls) go e h = h s ls e.0 e.1
  then_ends (Faulted s ls f) go e h = e

  cond_ends : (b : Bool) (o p : Outcome) → Ends o → Ends p → Ends (cond b o p)
  cond_ends true o p e f = e
  cond_ends false o p e f = f

  turns_ends : (body : Store → List ℤ → Outcome) (k : ℕ) → ((s : Store) (ls : List ℤ) → Good s → Nums ls → Ends (body s ls))
      → (i n : ℕ) (s : Store) (ls : List ℤ) → ((j : ℕ) → i ≤ j → j < i + n → j < 2 ^ 31) → Good s → Nums ls → Ends (turns body k i n s ls)
  turns_ends body k hb i zero s ls b g h = (g, h)
  turns_ends body k hb i (suc n) s ls b g h =
      let small : i < 2 ^ 31 = b i (omega arith) (omega arith) in
      then_ends (body s (set ls k (pos i))) (turns body k (suc i) n) (hb s (set ls k (pos i)) g (set_nums ls k (pos i) (record { sfits = omega arith }) h))
      (λ s' ls' g' h'. turns_ends body k hb (suc i) n s' ls' (λ j l m. b j (omega arith) (omega arith)) g' h')

  mutual
    stmt_ends : (st : RStmt) (s : Store) (ls : List ℤ) → StmtWithin params scratch (length consts) st → Good s → Nums ls → Ends (meaning ts consts st s ls)
    stmt_ends (Block' shape all) s ls w g h = row_ends all s ls w g h
    stmt_ends (Declare from count) s ls w g h = (g, clear_nums from count ls h)
    stmt_ends (SetScalar k op opat e) s ls w g h =
        num_ends s ls (value_of ts consts e s ls) _ g (expr_num e s ls w.1 g h)
        (λ v f. num_ends s ls (stored op opat (slice_index_or ls k (pos 0)) v) _ g (stored_num op opat _ v (h k) f) (λ r m. (g, set_nums ls k r m h)))
    stmt_ends (SetLocal from count form ix at op opat e) s ls w g h =
        num_ends s ls (value_of ts consts ix s ls) _ g (expr_num ix s ls w.2 g h)
        (λ z d. index_ends s ls count at z _ g
        (λ i lt. num_ends s ls (value_of ts consts e s ls) _ g (expr_num e s ls w.3 g h)
        (λ v f. num_ends s ls (stored op opat (slice_index_or ls (from + i) (pos 0)) v) _ g (stored_num op opat _ v (h (from + i)) f) (λ r m. (g, set_nums ls (from + i) r m h)))))
    stmt_ends (SetArg a form ix at op opat e) s ls w g h =
        num_ends s ls (value_of ts consts ix s ls) _ g (expr_num ix s ls w.2 g h)
        (λ z d. index_ends s ls (target_at ts a).count at z _ g
        (λ i lt. num_ends s ls (value_of ts consts e s ls) _ g (expr_num e s ls w.3 g h)
        (λ v f. num_ends s ls (stored op opat (read_arg ts s a i) v) _ g
        (stored_num op opat _ v (g.range (target_at ts a).array ((target_at ts a).from + i)) f)
        (λ r m. (good_stored s a i r lt m g, h)))))
    stmt_ends (If' e p a q b) s ls w g h =
        num_ends s ls (value_of ts consts e s ls) _ g (expr_num e s ls w.0 g h)
        (λ x f. cond_ends (is_zero x) _ _ (stmt_ends b s ls w.2 g h) (stmt_ends a s ls w.1 g h))
    stmt_ends (For' k first past p body) s ls w g h =
        turns_ends (meaning ts consts body) k (λ s' ls' g' h'. stmt_ends body s' ls' w.2 g' h') first (past - first) s ls (λ j l m. below first past j w.1 l m) g h

    row_ends : {m : _} → (all : Row_of-RStmt m) (s : Store) (ls : List ℤ) → RowWithin params scratch (length consts) all → Good s → Nums ls → Ends (meaning_of_all ts consts all s ls)
    row_ends end_of-RStmt s ls w g h = (g, h)
    row_ends (more_of-RStmt first rest) s ls w g h =
        then_ends (meaning ts consts first s ls) (meaning_of_all ts consts rest) (stmt_ends first s ls w.0 g h) (λ s' ls' g' h'. row_ends rest s' ls' w.1 g' h')

pub range_stays : RangeStays
range_stays k ts consts s resolved nums fits range =
    done (meaning ts consts k.body.statement s (replicate k.scratch (pos 0)))
    (stmt_ends ts consts s fits nums k.params k.scratch k.body.statement s (replicate k.scratch (pos 0)) resolved.within
    (record { shape = record { long = refl; wide = λ y. refl }; range = range }) (no_locals k.scratch))
  where
    done : (o : Outcome) → Ends ts consts s fits nums k.params k.scratch o → InRange (store_after (without_locals o))
    done (Done t ls) h = h.0.range
    done (Faulted t ls f) h = h.range
