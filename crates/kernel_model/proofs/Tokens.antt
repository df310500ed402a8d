-- Expressions with the same tokens have the same value.
use Rattle.std.proofs.Common.{◌≡◌, ℕ, ℤ, pos, negsuc, ◌+◌, List, Bool, true, false, cond, ◌&&◌, Result, Ok, Err, refl, ap, ◌∙◌, subst}
use Rattle.std.specs.Prelude.{nat_eq, nat_lt, slice_index_or}
use Rattle.std.proofs.lemmas.Bool.{eqb-true}
use Rattle.std.proofs.lemmas.Bool.Decides.{Decides-int_eq}
use Rattle.c_tree.specs.declared.lexer.tokens.Pos.{Pos}
use Rattle.op_num.specs.declared.refusals.Fault.TheVariants.{Index, DivZero, ShiftCount}
use Rattle.c_tree.specs.declared.expressions.BinaryOp.{BinaryOp}
use Rattle.c_tree.specs.declared.expressions.BinaryOp.TheVariants as binary
use Rattle.c_tree.specs.declared.expressions.UnaryOp.{UnaryOp}
use Rattle.c_tree.specs.declared.expressions.UnaryOp.TheVariants as unary
use Rattle.c_tree.specs.declared.expressions.MinMax.{MinMax}
use Rattle.c_tree.specs.declared.expressions.MinMax.TheVariants as min_max
use Rattle.kernel_model.specs.declared.types.faults.KernelFault.{KernelFault}
use Rattle.kernel_model.specs.declared.types.expressions.RExpr.{RExpr}
use Rattle.kernel_model.specs.declared.types.expressions.RExpr.TheVariants.{Number, Scalar, Constant, Arg', Local', Const', Unary', Binary', Choice', Paren', Extremum', Absolute'}
use Rattle.kernel_model.specs.Numbers.{Value, fault, truth, is_zero, is_shift, apply, apply_unary, is_settled, extremum, not}
use Rattle.kernel_model.specs.Meaning.{Store, Target, target_at, read_arg, on_value, and_then, index_in, value_of}
use Rattle.kernel_model.specs.SameTokens.{same_form, same_op, same_unary, same_which, same_tokens}
use Rattle.lemmas.proofs.Truth.{and_first, and_second}

and_fourth : (a b c d : Bool) → (a && (b && (c && d))) ≡ true → d ≡ true
and_fourth a b c d e = and_second c d (and_second b (c && d) (and_second a (b && (c && d)) e))

-- a fault gives no value
chained : {A : Type 0} → (r r' : Result A KernelFault) (go go' : A → Value) (z : ℤ) → ((x : A) → r ≡ Ok x → r' ≡ Ok x)
    → ((x : A) → go x ≡ Ok z → go' x ≡ Ok z) → on_value Err r go ≡ Ok z → on_value Err r' go' ≡ Ok z
chained {A} (Ok x) r' go go' z f g e = ap (λ r. on_value Err r go') (f x refl) ∙ g x e
chained {A} (Err f) r' go go' z h g e = absurd (let k : ⊥ = cc in k)

chose : (b : Bool) (x y x' y' : Value) (z : ℤ) → (x ≡ Ok z → x' ≡ Ok z) → (y ≡ Ok z → y' ≡ Ok z) → cond b x y ≡ Ok z → cond b x' y' ≡ Ok z
chose true x y x' y' z f g e = f e
chose false x y x' y' z f g e = g e

pub index_other_place : (count : ℕ) (at bt : Pos) (z : ℤ) (i : ℕ) → index_in count at z ≡ Ok i → index_in count bt z ≡ Ok i
index_other_place count at bt (negsuc n) i e = absurd (let k : ⊥ = cc in k)
index_other_place count at bt (pos n) i e = pick (nat_lt n count) e
  where
    pick : (b : Bool) → ◌≡◌ {A = Result ℕ KernelFault} (cond b (Ok n) (Err (fault Index at))) (Ok i) → ◌≡◌ {A = Result ℕ KernelFault} (cond b (Ok n) (Err (fault Index bt))) (Ok i)
    pick true f = f
    pick false f = absurd (let k : ⊥ = cc in k)

unless_other : (b : Bool) (at bt : Pos) (v z : ℤ) → ◌≡◌ {A = Value} (cond b (Err (fault DivZero at)) (Ok v)) (Ok z) → ◌≡◌ {A = Value} (cond b (Err (fault DivZero bt)) (Ok v)) (Ok z)
unless_other true at bt v z e = absurd (let k : ⊥ = cc in k)
unless_other false at bt v z e = e

shift_other : (b : Bool) (at bt : Pos) (v z : ℤ) → ◌≡◌ {A = Value} (cond b (Ok v) (Err (fault ShiftCount at))) (Ok z) → ◌≡◌ {A = Value} (cond b (Ok v) (Err (fault ShiftCount bt))) (Ok z)
shift_other false at bt v z e = absurd (let k : ⊥ = cc in k)
shift_other true at bt v z e = e

-- another place changes no value
apply_other : (o : BinaryOp) (at bt : Pos) (x y z : ℤ) → apply o at x y ≡ Ok z → apply o bt x y ≡ Ok z
apply_other binary.LogicalOr at bt x y z e = e
apply_other binary.LogicalAnd at bt x y z e = e
apply_other binary.BitOr at bt x y z e = e
apply_other binary.BitXor at bt x y z e = e
apply_other binary.BitAnd at bt x y z e = e
apply_other binary.Equal at bt x y z e = e
apply_other binary.NotEqual at bt x y z e = e
apply_other binary.Less at bt x y z e = e
apply_other binary.Greater at bt x y z e = e
apply_other binary.LessEqual at bt x y z e = e
apply_other binary.GreaterEqual at bt x y z e = e
apply_other binary.ShiftLeft at bt x y z e = shift_other (is_shift y) at bt _ z e
apply_other binary.ShiftRight at bt x y z e = shift_other (is_shift y) at bt _ z e
apply_other binary.Add at bt x y z e = e
apply_other binary.Sub at bt x y z e = e
apply_other binary.Mul at bt x y z e = e
apply_other binary.Div at bt x y z e = unless_other (is_zero y) at bt _ z e
apply_other binary.Rem at bt x y z e = unless_other (is_zero y) at bt _ z e

same_op_is : (o p : BinaryOp) → same_op o p ≡ true → o ≡ p
same_op_is binary.LogicalOr binary.LogicalOr e = refl
same_op_is binary.LogicalAnd binary.LogicalAnd e = refl
same_op_is binary.BitOr binary.BitOr e = refl
same_op_is binary.BitXor binary.BitXor e = refl
same_op_is binary.BitAnd binary.BitAnd e = refl
same_op_is binary.Equal binary.Equal e = refl
same_op_is binary.NotEqual binary.NotEqual e = refl
same_op_is binary.Less binary.Less e = refl
same_op_is binary.Greater binary.Greater e = refl
same_op_is binary.LessEqual binary.LessEqual e = refl
same_op_is binary.GreaterEqual binary.GreaterEqual e = refl
same_op_is binary.ShiftLeft binary.ShiftLeft e = refl
same_op_is binary.ShiftRight binary.ShiftRight e = refl
same_op_is binary.Add binary.Add e = refl
same_op_is binary.Sub binary.Sub e = refl
same_op_is binary.Mul binary.Mul e = refl
same_op_is binary.Div binary.Div e = refl
same_op_is binary.Rem binary.Rem e = refl
same_op_is o p e = absurd (let k : ⊥ = cc in k)

same_unary_is : (o p : UnaryOp) → same_unary o p ≡ true → o ≡ p
same_unary_is unary.Minus unary.Minus e = refl
same_unary_is unary.Plus unary.Plus e = refl
same_unary_is unary.Not unary.Not e = refl
same_unary_is unary.Complement unary.Complement e = refl
same_unary_is o p e = absurd (let k : ⊥ = cc in k)

same_which_is : (o p : MinMax) → same_which o p ≡ true → o ≡ p
same_which_is min_max.Min min_max.Min e = refl
same_which_is min_max.Max min_max.Max e = refl
same_which_is o p e = absurd (let k : ⊥ = cc in k)

module _ (ts : List Target) (consts : List ℤ) (s : Store) (ls : List ℤ) where
  abbrev val : RExpr → Value
  val e = value_of ts consts e s ls

  -- an element of one array, at two places
  element_other : (count : ℕ) (at bt : Pos) (r r' : Value) (read : ℕ → ℤ) (z : ℤ) → ((x : ℤ) → r ≡ Ok x → r' ≡ Ok x)
      → and_then r (λ z. and_then (index_in count at z) (λ i. Ok (read i))) ≡ Ok z
      → and_then r' (λ z. and_then (index_in count bt z) (λ i. Ok (read i))) ≡ Ok z
  element_other count at bt r r' read z f v =
      chained r r' _ _ z f (λ x w. chained (index_in count at x) (index_in count bt x) _ _ z (λ i u. index_other_place count at bt x i u) (λ i u. u) w) v

  pub same_value : (e f : RExpr) → same_tokens e f ≡ true → (z : ℤ) → value_of ts consts e s ls ≡ Ok z → value_of ts consts f s ls ≡ Ok z
  same_value (Number n) (Number m) h z v = let k : n ≡ m = (Decides-int_eq n m).0 h in subst (λ x. ◌≡◌ {A = Value} (Ok x) (Ok z)) k v
  same_value (Scalar k) (Scalar j) h z v = let e : k ≡ j = eqb-true k j h in subst (λ x. ◌≡◌ {A = Value} (Ok (slice_index_or ls x (pos 0))) (Ok z)) e v
  same_value (Constant k) (Constant j) h z v = let e : k ≡ j = eqb-true k j h in subst (λ x. ◌≡◌ {A = Value} (Ok (slice_index_or consts x (pos 0))) (Ok z)) e v
  same_value (Arg' a form p e at) (Arg' b other_form q f bt) h z v =
      let k : a ≡ b = eqb-true a b (and_first _ _ h) in
      subst (λ c. and_then (val f) (λ z. and_then (index_in (target_at ts c).count bt z) (λ i. Ok (read_arg ts s c i))) ≡ Ok z) k
      (element_other (target_at ts a).count at bt (val e) (val f) (read_arg ts s a) z (λ x w. same_value e f (and_second _ _ (and_second _ _ h)) x w) v)
  same_value (Local' from count form p e at) (Local' other_from other_count other_form q f bt) h z v =
      let k : from ≡ other_from = eqb-true from other_from (and_first _ _ h) in
      let l : count ≡ other_count = eqb-true count other_count (and_first _ _ (and_second _ _ h)) in
      subst (λ c. and_then (val f) (λ z. and_then (index_in c bt z) (λ i. Ok (slice_index_or ls (other_from + i) (pos 0)))) ≡ Ok z) l
      (subst (λ g. and_then (val f) (λ z. and_then (index_in count bt z) (λ i. Ok (slice_index_or ls (g + i) (pos 0)))) ≡ Ok z) k
      (element_other count at bt (val e) (val f) (λ i. slice_index_or ls (from + i) (pos 0)) z
      (λ x w. same_value e f (and_fourth (nat_eq from other_from) (nat_eq count other_count) (same_form form other_form)
      (same_tokens e f) h) x w) v))
  same_value (Const' from count form p e at) (Const' other_from other_count other_form q f bt) h z v =
      let k : from ≡ other_from = eqb-true from other_from (and_first _ _ h) in
      let l : count ≡ other_count = eqb-true count other_count (and_first _ _ (and_second _ _ h)) in
      subst (λ c. and_then (val f) (λ z. and_then (index_in c bt z) (λ i. Ok (slice_index_or consts (other_from + i) (pos 0)))) ≡ Ok z) l
      (subst (λ g. and_then (val f) (λ z. and_then (index_in count bt z) (λ i. Ok (slice_index_or consts (g + i) (pos 0)))) ≡ Ok z) k
      (element_other count at bt (val e) (val f) (λ i. slice_index_or consts (from + i) (pos 0)) z
      (λ x w. same_value e f (and_fourth (nat_eq from other_from) (nat_eq count other_count) (same_form form other_form)
      (same_tokens e f) h) x w) v))
  same_value (Unary' op p a) (Unary' oq q b) h z v =
      let k : op ≡ oq = same_unary_is op oq (and_first _ _ h) in
      subst (λ o. and_then (val b) (λ x. Ok (apply_unary o x)) ≡ Ok z) k
      (chained (val a) (val b) _ _ z (λ x w. same_value a b (and_second _ _ h) x w) (λ x w. w) v)
  same_value (Binary' op p a q b at) (Binary' oq r c t d bt) h z v =
      let k : op ≡ oq = same_op_is op oq (and_first _ _ h) in
      subst (λ o. and_then (val c) (λ x. cond (is_settled o x) (Ok (truth (not (is_zero x)))) (and_then (val d) (λ y. apply o bt x y))) ≡ Ok z) k
      (chained (val a) (val c) _ _ z (λ x w. same_value a c (and_first _ _ (and_second _ _ h)) x w)
      (λ x w. chose (is_settled op x) _ _ _ _ z (λ u. u)
      (λ u. chained (val b) (val d) _ _ z (λ y u. same_value b d (and_second _ _ (and_second _ _ h)) y u) (λ y u. apply_other op at bt x y z u) u) w) v)
  same_value (Choice' p x q a r b) (Choice' o y t c u d) h z v =
      chained (val x) (val y) _ _ z (λ k w. same_value x y (and_first _ _ h) k w)
      (λ k w. chose (is_zero k) _ _ _ _ z (λ l. same_value b d (and_second _ _ (and_second _ _ h)) z l) (λ l. same_value a c (and_first _ _ (and_second _ _ h)) z l) w) v
  same_value (Paren' p a) (Paren' q b) h z v = same_value a b h z v
  same_value (Extremum' which p a q b) (Extremum' other_which r c t d) h z v =
      let k : which ≡ other_which = same_which_is which other_which (and_first _ _ h) in
      subst (λ o. and_then (val c) (λ x. and_then (val d) (λ y. Ok (extremum o x y))) ≡ Ok z) k
      (chained (val a) (val c) _ _ z (λ x w. same_value a c (and_first _ _ (and_second _ _ h)) x w)
      (λ x w. chained (val b) (val d) _ _ z (λ y u. same_value b d (and_second _ _ (and_second _ _ h)) y u) (λ y u. u) w) v)
  same_value (Absolute' p a) (Absolute' q b) h z v =
      chained (val a) (val b) _ _ z (λ x w. same_value a b h x w) (λ x w. w) v
  same_value e f h z v = absurd (let k : ⊥ = cc in k)
