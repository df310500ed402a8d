-- What an operator with faults gives, as one choice.
use Rattle.std.proofs.Common.{◌≡◌, ℤ, pos, Bool, true, false, cond, ◌&&◌, Result, Ok, Err, refl, sym, ap, ◌∙◌, subst, ◌⊎◌, inl, inr, ◌<ℤ◌}
use Rattle.std.specs.Prelude.{T, int_lt, ◌↔◌, IfOk, IfErr, IsErrOf}
use Rattle.std.proofs.lemmas.Bool.Decides.{Decides-int_eq}
use lib.Signed.{lt_z_yes}
use Rattle.op_num.specs.declared.refusals.Fault.{Fault}
use Rattle.op_num.specs.declared.refusals.Fault.TheVariants.{DivZero, ShiftCount}
use Rattle.c_tree.specs.declared.lexer.tokens.Pos.{Pos}
use Rattle.kernel_model.specs.Numbers.{Value, fault, is_zero, not, unless_zero, if_shift}
use Rattle.kernel_model.specs.Placed.{placed}

pub unless_zero_of : (r : Result ℤ Fault) (b v : ℤ) (at : Pos) → IfOk r (λ q. q ≡ v) → (IsErrOf r DivZero ↔ (b ≡ pos 0)) → IfErr r (λ e. e ≡ DivZero) → placed r at ≡ unless_zero b at v
unless_zero_of (Ok q) b v at value zero only = pick (is_zero b) refl
  where
    pick : (t : Bool) → is_zero b ≡ t → ◌≡◌ {A = Value} (Ok q) (cond t (Err (fault DivZero at)) (Ok v))
    pick true e = let k : ◌≡◌ {A = Result ℤ Fault} (Ok q) (Err DivZero) = zero.1 ((Decides-int_eq b (pos 0)).0 e) in absurd (let f : ⊥ = cc in f)
    pick false e = ap Ok value
unless_zero_of (Err k) b v at value zero only =
    let e : is_zero b ≡ true = (Decides-int_eq b (pos 0)).1 (zero.0 (ap Err only)) in
    ap (λ c. placed (Err c) at) only ∙ sym (ap (λ t. cond t (Err (fault DivZero at)) (Ok v)) e)

pub if_shift_of : (r : Result ℤ Fault) (b v : ℤ) (at : Pos) → IfOk r (λ q. q ≡ v) → (IsErrOf r ShiftCount ↔ ((b <ℤ pos 0) ⊎ (pos 31 <ℤ b)))
    → IfErr r (λ e. e ≡ ShiftCount) → placed r at ≡ if_shift b at v
if_shift_of (Ok q) b v at value outside only = pick (int_lt b (pos 0)) (int_lt (pos 31) b) refl refl
  where
    never : (b <ℤ pos 0) ⊎ (pos 31 <ℤ b) → ⊥
    never h = let k : ◌≡◌ {A = Result ℤ Fault} (Ok q) (Err ShiftCount) = outside.1 h in let f : ⊥ = cc in f

    pick : (s t : Bool) → int_lt b (pos 0) ≡ s → int_lt (pos 31) b ≡ t → ◌≡◌ {A = Value} (Ok q) (cond (not s && not t) (Ok v) (Err (fault ShiftCount at)))
    pick true t e f = absurd (never (inl (lt_z_yes (subst T (sym e) tt))))
    pick false true e f = absurd (never (inr (lt_z_yes (subst T (sym f) tt))))
    pick false false e f = ap Ok value
if_shift_of (Err k) b v at value outside only =
    placed_is k only ∙ pick (int_lt b (pos 0)) (int_lt (pos 31) b) refl refl (outside.0 (ap Err only))
  where
    placed_is : (k : Fault) → k ≡ ShiftCount → ◌≡◌ {A = Value} (Err (fault k at)) (Err (fault ShiftCount at))
    placed_is k e = ap (λ c. placed (Err c) at) e

    pick : (s t : Bool) → int_lt b (pos 0) ≡ s → int_lt (pos 31) b ≡ t → (b <ℤ pos 0) ⊎ (pos 31 <ℤ b)
        → ◌≡◌ {A = Value} (Err (fault ShiftCount at)) (cond (not s && not t) (Ok v) (Err (fault ShiftCount at)))
    pick true t e f h = refl
    pick false true e f h = refl
    pick false false e f (inl h) = absurd (subst T e h.lt)
    pick false false e f (inr h) = absurd (subst T f h.lt)
