-- Expressions that can't fault have values.
use Rattle.std.proofs.Common.{◌≡◌, ℕ, ℤ, pos, ◌≤◌, ◌<◌, List, Result, Ok, Err, Bool, true, false, cond, ◌||◌, refl, sym, subst, arith}
use Rattle.std.specs.Prelude.{nat_lt}
use Rattle.std.proofs.lemmas.Bool.{ltb-true, lt-ltb, or_parts}
use Rattle.op_num.specs.declared.refusals.Fault.TheVariants.{Index, DivZero, ShiftCount}
use Rattle.c_tree.specs.declared.lexer.tokens.Pos.{Pos}
use Rattle.c_tree.specs.declared.expressions.BinaryOp.{BinaryOp}
use Rattle.c_tree.specs.declared.expressions.BinaryOp.TheVariants as binary
use Rattle.c_tree.specs.declared.declarations.AssignOp.{AssignOp}
use Rattle.c_tree.specs.declared.declarations.AssignOp.TheVariants as assign
use Rattle.kernel_model.specs.declared.types.faults.KernelFault.{KernelFault}
use Rattle.kernel_model.specs.declared.types.expressions.RExpr.{RExpr}
use Rattle.kernel_model.specs.declared.types.expressions.RExpr.TheVariants.{Number, Scalar, Constant, Arg', Local', Const', Unary', Binary', Choice', Paren', Extremum', Absolute'}
use Rattle.kernel_model.specs.Numbers.{Value, fault, not, is_zero, is_shift, is_settled, apply, truth, quotient, rest, shifted_left, shifted_right, unless_zero, if_shift}
use Rattle.kernel_model.specs.Meaning.{Store, Target, target_at, index_in, value_of, on_value, stored, read_arg}
use Rattle.kernel_model.specs.Effects.{may_be_out, may_be_zero, may_be_no_shift, operator_may_fault, sign_may_fault, count_at, may_fault}
use Rattle.kernel_model.specs.Law.{HaveCounts}

-- it is a value, and no fault
abbrev pub HasValue : {A : Type 0} → Result A KernelFault → Type 0
HasValue (Ok v) = Unit {0}
HasValue (Err f) = ⊥

is_not : (b : Bool) → not b ≡ false → b ≡ true
is_not true e = refl
is_not false e = absurd (let f : ⊥ = cc in f)

value_then : {A B : Type 0} → (r : Result A KernelFault) (go : A → Result B KernelFault) → HasValue r → ((v : A) → r ≡ Ok v → HasValue (go v)) → HasValue (on_value Err r go)
value_then (Ok v) go h k = k v refl
value_then (Err f) go h k = h

value_cond : (b : Bool) (x y : Value) → HasValue x → HasValue y → HasValue (cond b x y)
value_cond true x y h k = h
value_cond false x y h k = k

unless_zero_has : (y : ℤ) (at : Pos) (v : ℤ) → is_zero y ≡ false → HasValue (unless_zero y at v)
unless_zero_has y at v e = let P : Bool → Type 0 = λ b. HasValue (cond b (Err (fault DivZero at)) (Ok v)) in subst P (sym e) tt

if_shift_has : (y : ℤ) (at : Pos) (v : ℤ) → is_shift y ≡ true → HasValue (if_shift y at v)
if_shift_has y at v e = let P : Bool → Type 0 = λ b. HasValue (cond b (Ok v) (Err (fault ShiftCount at))) in subst P (sym e) tt

index_below : (i count real : ℕ) (at : Pos) → nat_lt i count ≡ true → count ≤ real → HasValue (index_in real at (pos i))
index_below i count real at e le =
    let P : Bool → Type 0 = λ b. HasValue (cond b (Ok i) (Err (fault Index at))) in
    let lt : i < real = omega (arith, ltb-true i count e, le) in
    subst P (sym (lt-ltb i real lt)) tt

-- what holds of the value
abbrev OfValue : (ℤ → Type 0) → Value → Type 0
OfValue P (Ok v) = P v
OfValue P (Err f) = Unit {0}

module _ (ts : List Target) (consts : List ℤ) (s : Store) (ls : List ℤ) where
  -- ---- what stands on the right

  divisor_has : (b : RExpr) (go : ℤ → Value) → ((y : ℤ) → is_zero y ≡ false → HasValue (go y)) → may_be_zero b ≡ false → (y : ℤ) → value_of ts consts b s ls ≡ Ok y → HasValue (go y)
  divisor_has (Number n) go h e y f = subst (OfValue (λ z. HasValue (go z))) f (h n e)
  divisor_has b go h e y f = absurd (let g : ⊥ = cc in g)

  shift_has : (b : RExpr) (go : ℤ → Value) → ((y : ℤ) → is_shift y ≡ true → HasValue (go y)) → may_be_no_shift b ≡ false → (y : ℤ) → value_of ts consts b s ls ≡ Ok y → HasValue (go y)
  shift_has (Number n) go h e y f = subst (OfValue (λ z. HasValue (go z))) f (h n (is_not (is_shift n) e))
  shift_has b go h e y f = absurd (let g : ⊥ = cc in g)

  operator_has : (op : BinaryOp) (b : RExpr) (at : Pos) (x : ℤ) → operator_may_fault op b ≡ false → (y : ℤ) → value_of ts consts b s ls ≡ Ok y → HasValue (apply op at x y)
  operator_has binary.ShiftLeft b at x e = shift_has b (λ y. apply binary.ShiftLeft at x y) (λ y h. if_shift_has y at (shifted_left x y) h) e
  operator_has binary.ShiftRight b at x e = shift_has b (λ y. apply binary.ShiftRight at x y) (λ y h. if_shift_has y at (shifted_right x y) h) e
  operator_has binary.Div b at x e = divisor_has b (λ y. apply binary.Div at x y) (λ y h. unless_zero_has y at (quotient x y) h) e
  operator_has binary.Rem b at x e = divisor_has b (λ y. apply binary.Rem at x y) (λ y h. unless_zero_has y at (rest x y) h) e
  operator_has op b at x e = λ y f. tt

  pub sign_has : (op : AssignOp) (b : RExpr) (at : Pos) (x : ℤ) → sign_may_fault op b ≡ false → (y : ℤ) → value_of ts consts b s ls ≡ Ok y → HasValue (stored op at x y)
  sign_has assign.ShiftLeft b at x e = operator_has binary.ShiftLeft b at x e
  sign_has assign.ShiftRight b at x e = operator_has binary.ShiftRight b at x e
  sign_has assign.Div b at x e = operator_has binary.Div b at x e
  sign_has assign.Rem b at x e = operator_has binary.Rem b at x e
  sign_has op b at x e = λ y f. tt

  -- ---- indices

  pub index_has : (count real : ℕ) (ix : RExpr) (at : Pos) → count ≤ real → may_be_out count ix ≡ false → (z : ℤ) → value_of ts consts ix s ls ≡ Ok z → HasValue (index_in real at z)
  index_has count real (Number (pos i)) at le e z f = subst (OfValue (λ y. HasValue (index_in real at y))) f (index_below i count real at (is_not (nat_lt i count) e) le)
  index_has count real ix at le e z f = absurd (let g : ⊥ = cc in g)

  pub index_value : (count : ℕ) (ix : RExpr) → may_be_out count ix ≡ false → HasValue (value_of ts consts ix s ls)
  index_value count (Number n) e = tt
  index_value count ix e = absurd (let g : ⊥ = cc in g)

  element_has : (count real : ℕ) (ix : RExpr) (at : Pos) (go : ℕ → ℤ) → count ≤ real → may_be_out count ix ≡ false
      → HasValue (on_value Err (value_of ts consts ix s ls) (λ z. on_value Err (index_in real at z) (λ i. Ok (go i))))
  element_has count real ix at go le e =
      value_then (value_of ts consts ix s ls) (λ z. on_value Err (index_in real at z) (λ i. Ok (go i))) (index_value count ix e)
      (λ z f. value_then (index_in real at z) (λ i. Ok (go i)) (index_has count real ix at le e z f) (λ i g. tt))

  -- ---- expressions

  module _ (counts : List ℕ) (counted : HaveCounts counts ts) where
    pub has_value : (e : RExpr) → may_fault counts e ≡ false → HasValue (value_of ts consts e s ls)
    has_value (Number n) h = tt
    has_value (Scalar k) h = tt
    has_value (Constant k) h = tt
    has_value (Arg' a form p e at) h = element_has (count_at counts a) (target_at ts a).count e at (λ i. read_arg ts s a i) (counted a) h
    has_value (Local' from count form p e at) h = element_has count count e at _ (omega arith) h
    has_value (Const' from count form p e at) h = element_has count count e at _ (omega arith) h
    has_value (Unary' op p a) h = value_then (value_of ts consts a s ls) _ (has_value a h) (λ v f. tt)
    has_value (Binary' op p a q b at) h =
        let parts = or_parts (operator_may_fault op b) (may_fault counts b || may_fault counts a) h in
        let sides = or_parts (may_fault counts b) (may_fault counts a) parts.1 in
        value_then (value_of ts consts a s ls) _ (has_value a sides.1)
        (λ x f. value_cond (is_settled op x) (Ok (truth (not (is_zero x)))) (on_value Err (value_of ts consts b s ls) (λ y. apply op at x y)) tt
        (value_then (value_of ts consts b s ls) (λ y. apply op at x y) (has_value b sides.0) (operator_has op b at x parts.0)))
    has_value (Choice' p c q a r b) h =
        let parts = or_parts (may_fault counts a) (may_fault counts b || may_fault counts c) h in
        let sides = or_parts (may_fault counts b) (may_fault counts c) parts.1 in
        value_then (value_of ts consts c s ls) (λ x. cond (is_zero x) (value_of ts consts b s ls) (value_of ts consts a s ls)) (has_value c sides.1)
        (λ x f. value_cond (is_zero x) (value_of ts consts b s ls) (value_of ts consts a s ls) (has_value b sides.0) (has_value a parts.0))
    has_value (Paren' p a) h = has_value a h
    has_value (Extremum' which p a q b) h =
        let sides = or_parts (may_fault counts b) (may_fault counts a) h in
        value_then (value_of ts consts a s ls) _ (has_value a sides.1)
        (λ x f. value_then (value_of ts consts b s ls) _ (has_value b sides.0) (λ y g. tt))
    has_value (Absolute' p a) h = value_then (value_of ts consts a s ls) _ (has_value a h) (λ v f. tt)
