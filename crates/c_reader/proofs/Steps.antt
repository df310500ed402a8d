-- Operators and closing signs at a place.
use Rattle.std.proofs.Common.{◌≡◌, ℕ, suc, ◌≤◌, ◌<◌, Bool, true, false, cond, List, Option, Some, None, Ok, Err, refl, ap, subst, arith, slice_get, nat_le}
use Rattle.std.proofs.lemmas.Bool.{leb-true, le-leb}
use Rattle.std.proofs.Math.Dec.{leb}
use Rattle.c_tree.specs.declared.lexer.tokens.Kind.{Kind}
use Rattle.c_tree.specs.declared.lexer.tokens.Kind.TheVariants as kind
use Rattle.c_tree.specs.declared.lexer.tokens.Sign.{Sign}
use Rattle.c_tree.specs.declared.lexer.tokens.Sign.TheVariants as sign
use Rattle.c_tree.specs.contracts.lexer.tokens.Sign as the_sign
use Rattle.c_tree.specs.declared.expressions.BinaryOp.{BinaryOp}
use Rattle.c_tree.specs.declared.expressions.BinaryOp.TheVariants as binary
use Rattle.c_tree.specs.declared.expressions.UnaryOp.{UnaryOp}
use Rattle.c_tree.specs.declared.expressions.UnaryOp.TheVariants as unary
use Rattle.c_tree.specs.Signs.{level_of, sign_of, unary_sign_of, min_max_word_of}
use Rattle.c_reader.specs.declared.leads.Lead.TheVariants as lead
use Rattle.c_tree.specs.declared.lexer.tokens.Word.{Word}
use Rattle.c_tree.specs.declared.lexer.tokens.Word.TheVariants as word
use Rattle.c_tree.specs.declared.expressions.MinMax.{MinMax}
use Rattle.c_tree.specs.declared.expressions.MinMax.TheVariants as min_max
use Rattle.c_reader.specs.declared.leads.WordLead.TheVariants as word_lead
use Rattle.c_reader.specs.Leads.{binary_of, lead_of, word_lead_of}
use Rattle.c_reader.specs.declared.faults.Fault.TheVariants.{Syntax}
use Rattle.c_reader.specs.Descent.{sign_is, sign_at, operator_at, operator_in, at_least}
use denote.Enum.Bare.{same_true, true_same}

pub binary_of-sign_of : (op : BinaryOp) → binary_of (sign_of op) ≡ Some op
binary_of-sign_of binary.LogicalOr = refl
binary_of-sign_of _ = refl

pub lead_of-unary_sign_of : (op : UnaryOp) → lead_of (unary_sign_of op) ≡ lead.Unary op
lead_of-unary_sign_of unary.Minus = refl
lead_of-unary_sign_of _ = refl

pub sign_of_binary : (s : Sign) (op : BinaryOp) → binary_of s ≡ Some op → s ≡ sign_of op
sign_of_binary sign.OrOr op h = cc
sign_of_binary _ op h = cc

pub sign_of_lead : (s : Sign) (op : UnaryOp) → lead_of s ≡ lead.Unary op → s ≡ unary_sign_of op
sign_of_lead sign.Minus op h = cc
sign_of_lead _ op h = cc

pub sign_of_paren : (s : Sign) → lead_of s ≡ lead.Paren → s ≡ sign.LeftParen
sign_of_paren sign.LeftParen h = refl
sign_of_paren _ h = cc

pub sign_of_deref : (s : Sign) → lead_of s ≡ lead.Deref → s ≡ sign.Star
sign_of_deref sign.Star h = refl
sign_of_deref _ h = cc

pub level_bounds : (op : BinaryOp) → (1 ≤ level_of op) × (level_of op ≤ 10)
level_bounds binary.LogicalOr = (omega arith, omega arith)
level_bounds _ = (omega arith, omega arith)

-- the sign that a test finds
pub sign_found : (s : Sign) (k : Option Kind) → sign_is s k ≡ true → k ≡ Some (kind.Sign s)
sign_found s None h = cc
sign_found s (Some (kind.Sign t)) h = ap (λ x. Some (kind.Sign x)) (same_true the_sign.the_type tt t s h)
sign_found s (Some (kind.Word t)) h = cc
sign_found s (Some (kind.Name t)) h = cc
sign_found s (Some (kind.Number t)) h = cc
sign_found s (Some (kind.Text t)) h = cc

pub sign_here : (s : Sign) (k : Option Kind) → k ≡ Some (kind.Sign s) → sign_is s k ≡ true
sign_here s k h = rw h (true_same the_sign.the_type s s refl)

pub sign_at_is : (ks : List Kind) (s : Sign) (n : ℕ) → slice_get ks n ≡ Some (kind.Sign s) → sign_at ks s n ≡ Ok (suc n)
unfolding sign_at
sign_at_is ks s n h = rw (sign_here s (slice_get ks n) h) refl

pub sign_at_ok : (ks : List Kind) (s : Sign) (n e : ℕ) → sign_at ks s n ≡ Ok e → (slice_get ks n ≡ Some (kind.Sign s)) × (e ≡ suc n)
unfolding sign_at
sign_at_ok ks s n e h = by_test (sign_is s (slice_get ks n)) refl h
  where
    by_test : (t : Bool) → sign_is s (slice_get ks n) ≡ t → cond t (Ok (suc n)) (Err (Syntax n)) ≡ Ok e → (slice_get ks n ≡ Some (kind.Sign s)) × (e ≡ suc n)
    by_test true f g = (sign_found s (slice_get ks n) f, cc)
    by_test false f g = cc

-- the operator at a place, by what stands there
pub operator_is : (ks : List Kind) (m n : ℕ) (op : BinaryOp) → slice_get ks n ≡ Some (kind.Sign (sign_of op)) → m ≤ level_of op → operator_at ks m n ≡ Some op
unfolding operator_at
operator_is ks m n op h l = rw (h, binary_of-sign_of op, le-leb m (level_of op) l) refl

pub operator_below : (ks : List Kind) (m n : ℕ) (op : BinaryOp) → slice_get ks n ≡ Some (kind.Sign (sign_of op)) → level_of op < m → operator_at ks m n ≡ None
unfolding operator_at
operator_below ks m n op h l = rw (h, binary_of-sign_of op) (by_test (nat_le m (level_of op)) refl)
  where
    by_test : (t : Bool) → nat_le m (level_of op) ≡ t → cond t (Some op) None ≡ None
    by_test true f = absurd (omega (arith, leb-true m (level_of op) f))
    by_test false f = refl

-- no operator where this sign stands
pub operator_none : (ks : List Kind) (m n : ℕ) (s : Sign) → binary_of s ≡ None → slice_get ks n ≡ Some (kind.Sign s) → operator_at ks m n ≡ None
unfolding operator_at
operator_none ks m n s b h = rw (h, b) refl

at_least_some : (m : ℕ) (o : Option BinaryOp) (op : BinaryOp) → at_least m o ≡ Some op → (o ≡ Some op) × (m ≤ level_of op)
at_least_some m None op h = cc
at_least_some m (Some p) op h = by_test (nat_le m (level_of p)) refl h
  where
    by_test : (t : Bool) → nat_le m (level_of p) ≡ t → cond t (Some p) None ≡ Some op → (◌≡◌ {A = Option BinaryOp} (Some p) (Some op)) × (m ≤ level_of op)
    by_test true f g = (g, subst (λ x. m ≤ level_of x) (let e : p ≡ op = cc in e) (leb-true m (level_of p) f))
    by_test false f g = cc

operator_in_some : (k : Option Kind) (m : ℕ) (op : BinaryOp) → operator_in m k ≡ Some op → (k ≡ Some (kind.Sign (sign_of op))) × (m ≤ level_of op)
operator_in_some None m op h = cc
operator_in_some (Some (kind.Sign s)) m op h =
    let r = at_least_some m (binary_of s) op h in (ap (λ x. Some (kind.Sign x)) (sign_of_binary s op r.0), r.1)
operator_in_some (Some (kind.Word t)) m op h = cc
operator_in_some (Some (kind.Name t)) m op h = cc
operator_in_some (Some (kind.Number t)) m op h = cc
operator_in_some (Some (kind.Text t)) m op h = cc

pub operator_some : (ks : List Kind) (m n : ℕ) (op : BinaryOp) → operator_at ks m n ≡ Some op → (slice_get ks n ≡ Some (kind.Sign (sign_of op))) × (m ≤ level_of op)
unfolding operator_at
operator_some ks m n op h = operator_in_some (slice_get ks n) m op h

-- where no operator of level m stands, none of a higher level does
pub operator_higher : (ks : List Kind) (m m' n : ℕ) → operator_at ks m n ≡ None → m ≤ m' → operator_at ks m' n ≡ None
operator_higher ks m m' n h l = by_operator (operator_at ks m' n) refl
  where
    by_operator : (o : Option BinaryOp) → operator_at ks m' n ≡ o → o ≡ None
    by_operator None f = refl
    by_operator (Some op) f =
        let r = operator_some ks m' n op f in
        let here : operator_at ks m n ≡ Some op = operator_is ks m n op r.0 (omega (arith, r.1)) in
        cc

-- no operator binds as tightly as a unary one
pub operator_beyond : (ks : List Kind) (m n : ℕ) → 11 ≤ m → operator_at ks m n ≡ None
operator_beyond ks m n l = by_operator (operator_at ks m n) refl
  where
    by_operator : (o : Option BinaryOp) → operator_at ks m n ≡ o → o ≡ None
    by_operator None f = refl
    by_operator (Some op) f =
        let r = operator_some ks m n op f in absurd (omega (arith, r.1, (level_bounds op).1))

-- every operator has a level
pub operator_lowest : (ks : List Kind) (n : ℕ) → operator_at ks 1 n ≡ None → operator_at ks 0 n ≡ None
operator_lowest ks n h = by_operator (operator_at ks 0 n) refl
  where
    by_operator : (o : Option BinaryOp) → operator_at ks 0 n ≡ o → o ≡ None
    by_operator None f = refl
    by_operator (Some op) f =
        let r = operator_some ks 0 n op f in
        let here : operator_at ks 1 n ≡ Some op = operator_is ks 1 n op r.0 (level_bounds op).0 in
        cc

pub word_lead_of-extreme : (w : MinMax) → word_lead_of (min_max_word_of w) ≡ word_lead.Extremum w
word_lead_of-extreme min_max.Min = refl
word_lead_of-extreme _ = refl

pub word_of_extremum : (s : Word) (w : MinMax) → word_lead_of s ≡ word_lead.Extremum w → s ≡ min_max_word_of w
word_of_extremum word.Min w h = cc
word_of_extremum _ w h = cc

pub word_of_absolute : (s : Word) → word_lead_of s ≡ word_lead.Absolute → s ≡ word.Abs
word_of_absolute word.Abs h = refl
word_of_absolute _ h = cc

-- an operator is no other sign
pub operator_sign : (op : BinaryOp) → (sign_is sign.Question (Some (kind.Sign (sign_of op))) ≡ false) × (sign_is sign.LeftBracket (Some (kind.Sign (sign_of op))) ≡ false)
operator_sign binary.LogicalOr = (refl, refl)
operator_sign _ = (refl, refl)
