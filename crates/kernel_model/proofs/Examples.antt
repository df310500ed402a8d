-- Small kernels: what they do, and which rules they obey.
use Rattle.std.proofs.Common.{◌≡◌, ℕ, zero, suc, ℤ, pos, List, [], ◌∷◌, Some, refl, ap, ◌∙◌, inl, inr, arith, ◌+ℤ◌, FitsSigned, w32}
use Rattle.std.proofs.lemmas.Int.{int_wrap_fits}
use Rattle.c_tree.specs.declared.lexer.tokens.Pos.{Pos}
use Rattle.op_num.specs.declared.refusals.Fault.TheVariants.{DivZero, Index}
use Rattle.c_tree.specs.declared.expressions.BinaryOp.TheVariants as binary
use Rattle.c_tree.specs.declared.expressions.MinMax.TheVariants as min_max
use Rattle.c_tree.specs.declared.declarations.AssignOp.TheVariants as assign
use Rattle.op_num.specs.Reduction.{Add, Min}
use Rattle.kernel_model.specs.declared.types.expressions.ElementForm.TheVariants as form
use Rattle.kernel_model.specs.declared.types.expressions.RExpr.{RExpr}
use Rattle.kernel_model.specs.declared.types.expressions.RExpr.TheVariants.{Number, Scalar, Arg', Binary', Choice', Paren', Extremum'}
use Rattle.kernel_model.specs.declared.types.statements.RStmt.{Declare, SetArg, If', For', end_of-RStmt, more_of-RStmt}
use Rattle.kernel_model.specs.Numbers.{fault, sum, difference}
use Rattle.kernel_model.specs.Meaning.{Target, Done, Faulted, meaning, meaning_of_all}
use Rattle.op_num.specs.Access.{OpRead, OpWrite, OpReduce}
use Rattle.kernel_model.specs.Obeys.{Mode, mode_at, Obeys, Reads, Adds, Owns, Merges}
use Rattle.kernel_model.specs.Refusals.{ReadsInc, NotAllWritten, MinMaxForm, EventBreaks, EndBreaks}

abbrev here : Pos
here = record { line = 1; column = 1 }

abbrev there : Pos
there = record { line = 2; column = 2 }

abbrev n0 : RExpr
n0 = Number (pos 0)

abbrev one_of : ℕ → Target
one_of x = record { array = x; from = 0; count = 1 }

-- ---- what they do

sum_of : (x y : ℤ) → FitsSigned w32 (x +ℤ y) → sum x y ≡ x +ℤ y
unfolding sum
sum_of x y f = int_wrap_fits w32 (x +ℤ y) f

nothing_left : difference (pos 9) (pos 9) ≡ pos 0
unfolding difference
nothing_left = int_wrap_fits w32 (pos 0) (record { sfits = omega arith })

-- a[0] += 5; b[0] += 5; where both arguments have one target
adds_twice : meaning_of_all (one_of 0 ∷ one_of 0 ∷ []) []
    (more_of-RStmt (SetArg 0 form.Index n0 here assign.Add here (Number (pos 5)))
    (more_of-RStmt (SetArg 1 form.Index n0 here assign.Add here (Number (pos 5))) end_of-RStmt)) ((pos 0 ∷ []) ∷ []) [] ≡ Done
    ((pos 10 ∷ []) ∷ []) []
adds_twice =
    let first : sum (pos 0) (pos 5) ≡ pos 5 = sum_of (pos 0) (pos 5) (record { sfits = omega arith }) in
    let second : sum (pos 5) (pos 5) ≡ pos 10 = sum_of (pos 5) (pos 5) (record { sfits = omega arith }) in
    ap (λ v. Done ((v ∷ []) ∷ []) []) (ap (λ v. sum v (pos 5)) first ∙ second)

-- a[0] = 9; a[0] = 1 / (a[0] - 9);
keeps_what_was_stored : (p q r s : _) → meaning_of_all (one_of 0 ∷ []) []
    (more_of-RStmt (SetArg 0 form.Index n0 here assign.Set here (Number (pos 9)))
    (more_of-RStmt (SetArg 0 form.Index n0 here assign.Set here
    (Binary' binary.Div p (Number (pos 1)) q (Binary' binary.Sub r (Arg' 0 form.Index s n0 here) q (Number (pos 9)) here) there))
    end_of-RStmt)) ((pos 4 ∷ []) ∷ []) [] ≡ Faulted ((pos 9 ∷ []) ∷ []) [] (fault DivZero there)
keeps_what_was_stored p q r s = rw nothing_left refl

-- q[0] = b[0] != 0 ? a[0] / b[0] : 7; with arguments q, a and b
no_fault_on_the_side_left_out : (p q r s t u v w : _)
    → meaning (one_of 0 ∷ one_of 1 ∷ one_of 2 ∷ []) []
    (SetArg 0 form.Index n0 here assign.Set here
    (Choice' p (Binary' binary.NotEqual q (Arg' 2 form.Index r n0 here) s n0 here) t
    (Binary' binary.Div u (Arg' 1 form.Index r n0 here) v (Arg' 2 form.Index r n0 here) here) w (Number (pos 7))))
    ((pos 0 ∷ []) ∷ (pos 1 ∷ []) ∷ (pos 0 ∷ []) ∷ []) [] ≡ Done ((pos 7 ∷ []) ∷ (pos 1 ∷ []) ∷ (pos 0 ∷ []) ∷ []) []
no_fault_on_the_side_left_out p q r s t u v w = refl

-- for (int i = 1; i < 3; i++) a[i] = 5; on two cells
stops_past_the_end : (p : _) → meaning (record { array = 0; from = 0; count = 2 } ∷ []) []
    (For' 0 1 3 p (SetArg 0 form.Index (Scalar 0) here assign.Set here (Number (pos 5)))) ((pos 7 ∷ pos 8 ∷ []) ∷ []) (pos 0 ∷ []) ≡ Faulted
    ((pos 7 ∷ pos 5 ∷ []) ∷ []) (pos 2 ∷ []) (fault Index here)
stops_past_the_end p = refl

-- ---- which rules they obey

abbrev NoneWrites : List Mode → Type 0
NoneWrites [] = Unit {0}
NoneWrites (m ∷ ms) = (m.access ≡ OpWrite → ⊥) × NoneWrites ms

abbrev least_mode : Mode
least_mode = record { access = OpReduce Min; dim = 1 }

-- a[0] += a[0]; under OP_INC
inc_is_read : (p : _) → Obeys (SetArg 0 form.Index n0 here assign.Add here (Arg' 0 form.Index p n0 here)) (record { access = OpReduce Add; dim = 1 } ∷ []) → ⊥
inc_is_read p h = (h (tt, tt)).0.0

-- if (1) a[0] = 2; under OP_WRITE
on_one_branch : (p q : _) → Obeys (If' (Number (pos 1)) p (SetArg 0 form.Index n0 here assign.Set here (Number (pos 2))) q (Declare 0 0)) (record { access = OpWrite; dim = 1 } ∷ []) → ⊥
on_one_branch p q h = (h (tt, inr tt)).1 0 0 refl (omega arith)

-- no argument is OP_WRITE
none_written : (ms : List Mode) → NoneWrites ms → (a : ℕ) → (mode_at ms a).access ≡ OpWrite → ⊥
none_written [] h a e = let f : ⊥ = cc in f
none_written (m ∷ ms) h zero e = h.0 e
none_written (m ∷ ms) h (suc a) e = none_written ms h.1 a e

-- a[0] = MIN(a[0], 3); under OP_MIN
lowers : (p q r : _) → Obeys (SetArg 0 form.Index n0 here assign.Set here (Extremum' min_max.Min p (Arg' 0 form.Index q n0 here) r (Number (pos 3)))) (least_mode ∷ [])
lowers p q r w = ((omega arith, (omega arith, tt)), λ a i e lt. absurd (none_written (least_mode ∷ []) ((λ f. cc), tt) a e))

-- b[0] = MIN(w[0], b[0]); under OP_MIN, w under OP_READ
lowers_from_the_second_side : (p q r : _) → Obeys
    (SetArg 0 form.Index n0 here assign.Set here (Extremum' min_max.Min p (Arg' 1 form.Index q n0 here) r (Arg' 0 form.Index q n0 here)))
    (least_mode ∷ record { access = OpRead; dim = 1 } ∷ [])
lowers_from_the_second_side p q r w = (
  (omega arith, (omega arith, (omega arith, tt))),
  λ a i e lt. absurd
      (none_written (least_mode ∷ record { access = OpRead; dim = 1 } ∷ []) ((λ f. cc), ((λ f. cc), tt)) a e),
)

-- a[0] = MAX(a[0], 3); under OP_MIN
raises : (p q r : _) → Obeys (SetArg 0 form.Index n0 here assign.Set here (Extremum' min_max.Max p (Arg' 0 form.Index q n0 here) r (Number (pos 3)))) (least_mode ∷ []) → ⊥
raises p q r h = (h (tt, (tt, tt))).0.0

-- a[0] = (MIN(a[0], 3)); under OP_MIN
in_parentheses : (o p q r : _) → Obeys (SetArg 0 form.Index n0 here assign.Set here (Paren' o (Extremum' min_max.Min p (Arg' 0 form.Index q n0 here) r (Number (pos 3))))) (least_mode ∷ []) → ⊥
in_parentheses o p q r h = (h (tt, (tt, tt))).0.0

-- a[0] = MIN(*a, 3); under OP_MIN: the same place in other tokens
in_other_tokens : (p q r : _) → Obeys (SetArg 0 form.Index n0 here assign.Set here (Extremum' min_max.Min p (Arg' 0 form.Deref q n0 here) r (Number (pos 3)))) (least_mode ∷ []) → ⊥
in_other_tokens p q r h = (h (tt, (tt, tt))).0.0

-- ---- which rules they break, and where

-- a[0] += a[0]; under OP_INC: the second a is read
breaks_where_it_is_read : (p : _) → EventBreaks (SetArg 0 form.Index n0 here assign.Add here (Arg' 0 form.Index p n0 there)) (record { access = OpReduce Add; dim = 1 } ∷ []) ReadsInc there
breaks_where_it_is_read p = ((tt, tt), [], Reads 0 (Some (pos 0)) there, Adds 0 (Some (pos 0)) here ∷ [], refl, refl, ((Add, refl), refl))

-- if (1) a[0] = 2; under OP_WRITE: the path through the other branch assigns nothing
breaks_at_the_parameter : (p q : _) → EndBreaks
    (If' (Number (pos 1)) p (SetArg 0 form.Index n0 here assign.Set here (Number (pos 2))) q (Declare 0 0)) (λ a. there)
    (record { access = OpWrite; dim = 1 } ∷ []) NotAllWritten there
breaks_at_the_parameter p q = ((tt, inr tt), 0, 0, refl, refl, refl, omega arith, λ h. h)

-- a[0] = MAX(a[0], 3); under OP_MIN: another form at the target, and a read inside it
breaks_the_form : (p q r : _) → EventBreaks (SetArg 0 form.Index n0 here assign.Set here (Extremum' min_max.Max p (Arg' 0 form.Index q n0 there) r (Number (pos 3)))) (least_mode ∷ []) MinMaxForm here
breaks_the_form p q r =
    ((tt, (tt, tt)), Owns min_max.Max 0 (Some (pos 0)) there ∷ [], Merges min_max.Max 0 (Some (pos 0)) here, [], refl, refl, (inl refl, refl, refl))
