-- Each tree is read from the tokens that it prints.
use Rattle.std.proofs.Common.{◌≡◌, ℕ, zero, suc, ◌+◌, ◌-◌, ◌≤◌, ◌<◌, true, false, List, [], ◌∷◌, ◌++◌, Option, Some, None, Ok, Err, refl, sym, ap, ◌∙◌, arith, slice_get, nat_lt, nat_le, ◌⊎◌, inl, inr, zero-le}
use Rattle.std.proofs.lemmas.Bool.{le-ltb, lt-ltb}
use Rattle.std.proofs.lemmas.Bool.Decides.{leb_tells}
use Rattle.c_tree.specs.declared.lexer.tokens.Kind.{Kind}
use Rattle.c_tree.specs.declared.lexer.tokens.Kind.TheVariants as kind
use Rattle.c_tree.specs.declared.lexer.tokens.Sign.{Sign}
use Rattle.c_tree.specs.declared.lexer.tokens.Sign.TheVariants as sign
use Rattle.c_tree.specs.declared.expressions.Ident.{Ident}
use Rattle.c_tree.specs.declared.expressions.NumberLiteral.{NumberLiteral}
use Rattle.c_tree.specs.declared.expressions.BinaryOp.{BinaryOp}
use Rattle.c_tree.specs.declared.expressions.UnaryOp.{UnaryOp}
use Rattle.c_tree.specs.Signs.{level_of, sign_of, unary_sign_of, min_max_word_of}
use Rattle.c_tree.specs.Tree.{ExprTree, Number, Name, Index, Deref, Unary, Binary, Choice, Paren, Extremum, Absolute}
use Rattle.c_tree.specs.Print.{expr, chain_of, operator_level, sign_at as sign_mark, named_sign}
use Rattle.c_tree.specs.Grouped.{strength, IsGrouped}
use Rattle.c_tree.specs.Reads.{first_deep}
use Rattle.c_reader.specs.declared.faults.Fault.TheVariants.{TooDeep}
use Rattle.c_tree.specs.declared.lexer.tokens.Word.TheVariants as word
use Rattle.c_tree.specs.declared.expressions.MinMax.{MinMax}
use Rattle.c_reader.specs.Leads.{binary_of}
use Rattle.c_reader.specs.Descent.{Step, Rec, ◌>>=◌, sign_is, sign_at, operator_at, name_at, front, chain, choice, read}
use Rattle.c_reader.proofs.Spans.{Spans, spans_split, or_else, deep_split, deep_here, deep_front, deep_between, deep_closed, after, after_or_else}
use Rattle.c_reader.proofs.Steps.{lead_of-unary_sign_of, level_bounds, sign_at_is, operator_is, operator_below, operator_none, operator_higher, operator_beyond, operator_lowest, operator_sign, word_lead_of-extreme}

-- At the last level but one there is room for a token, and not one level further.
pub level_fits : (k d : ℕ) → k + suc d ≡ 65 → nat_lt 64 k ≡ false
level_fits k d h = le-ltb 64 k (omega arith)

-- the rest of reading behind a tree that has been read
pub rest : List Kind → ℕ → ℕ → ExprTree → ℕ → Step
rest ks zero m e n = Ok (e, n)
rest ks (suc d) m e n =
    chain ks (read ks d) (128 - chain_of e) m e n >>= λ y. choice ks (read ks d) m y.0 y.1

pub chain_stops : (ks : List Kind) (rec : Rec) (c m : ℕ) (e : ExprTree) (n : ℕ) → operator_at ks m n ≡ None → chain ks rec c m e n ≡ Ok (e, n)
unfolding chain
chain_stops ks rec zero m e n h = rw h refl
chain_stops ks rec (suc c) m e n h = rw h refl

pub chain_goes : (ks : List Kind) (rec : Rec) (c m : ℕ) (e : ExprTree) (n : ℕ) (op : BinaryOp) → operator_at ks m n ≡ Some op
    → chain ks rec (suc c) m e n ≡ (rec (suc (level_of op)) (suc n) >>= λ x. chain ks rec c m (Binary op n e x.0) x.1)
unfolding chain
chain_goes ks rec c m e n op h = rw h refl

pub chain_full : (ks : List Kind) (rec : Rec) (m : ℕ) (e : ExprTree) (n : ℕ) (op : BinaryOp) → operator_at ks m n ≡ Some op → chain ks rec 0 m e n ≡ Err (TooDeep n)
unfolding chain
chain_full ks rec m e n op h = rw h refl

choice_stops : (ks : List Kind) (rec : Rec) (m : ℕ) (e : ExprTree) (n : ℕ) → (m ≡ 0 → sign_is sign.Question (slice_get ks n) ≡ false) → choice ks rec m e n ≡ Ok (e, n)
unfolding choice
choice_stops ks rec zero e n h = rw (h refl) refl
choice_stops ks rec (suc m) e n h = refl

choice_goes : (ks : List Kind) (rec : Rec) (e : ExprTree) (n : ℕ) → slice_get ks n ≡ Some (kind.Sign sign.Question)
    → choice ks rec 0 e n ≡ (rec 0 (suc n) >>= λ y. sign_at ks sign.Colon y.1 >>= λ c. rec 0 c >>= λ z. Ok (Choice n e y.0 z.0, z.1))
unfolding choice
choice_goes ks rec e n h = rw h refl

-- what doesn't go on with an expression
pub record Closes (s : Sign) : Type 0 where
  pub operator : binary_of s ≡ None
  pub question : sign_is sign.Question (Some (kind.Sign s)) ≡ false
  pub bracket : sign_is sign.LeftBracket (Some (kind.Sign s)) ≡ false

pub rest_stops : (ks : List Kind) (d m : ℕ) (e : ExprTree) (n : ℕ) → operator_at ks m n ≡ None → (m ≡ 0 → sign_is sign.Question (slice_get ks n) ≡ false) → rest ks d m e n ≡ Ok (e, n)
unfolding rest
rest_stops ks zero m e n h q = refl
rest_stops ks (suc d) m e n h q =
    rw (chain_stops ks (read ks d) (128 - chain_of e) m e n h) (choice_stops ks (read ks d) m e n q)

-- what stands behind an expression that a closing sign ends
pub rest_closed : (ks : List Kind) (d m : ℕ) (e : ExprTree) (n : ℕ) (s : Sign) → Closes s → slice_get ks n ≡ Some (kind.Sign s) → rest ks d m e n ≡ Ok (e, n)
rest_closed ks d m e n s c h =
    rest_stops ks d m e n (operator_none ks m n s c.operator h) (λ _. rw h c.question)

-- a tree that begins with none of its operands
read_front : (ks : List Kind) (d m n e' : ℕ) (p : Option ℕ) (e : ExprTree) → chain_of e ≡ 0 → front ks (read ks d) n ≡ after p (Ok (e, e')) → read ks (suc d) m n ≡ after p (rest ks (suc d) m e e')
unfolding read rest
read_front ks d m n e' None e c h = rw (h, c) refl
read_front ks d m n e' (Some p) e c h = rw h refl

-- the front of the tokens of a tree stands at the tree's own level
deep_at_last : (n : ℕ) (e : ExprTree) → first_deep n (expr 65 e) ≡ Some n
deep_at_last n (Number v) = refl
deep_at_last n (Name x) = refl
deep_at_last n (Index x e) = refl
deep_at_last n (Deref at x) = refl
deep_at_last n (Unary op at e) = refl
deep_at_last n (Binary op at l r) = deep_front n n (expr 65 l) _ (deep_at_last n l)
deep_at_last n (Choice at c y z) = deep_front n n (expr 65 c) _ (deep_at_last n c)
deep_at_last n (Paren at e) = refl
deep_at_last n (Extremum w at a b) = refl
deep_at_last n (Absolute at e) = refl

-- No operator that binds more tightly than the tree stands behind it, no `[`, and where the tree is a choice, no `?`.
pub record Ends (ks : List Kind) (e : ExprTree) (n : ℕ) : Type 0 where
  pub operator : operator_at ks (suc (strength e)) n ≡ None
  pub question : strength e ≡ 0 → sign_is sign.Question (slice_get ks n) ≡ false
  pub bracket : sign_is sign.LeftBracket (slice_get ks n) ≡ false

-- a closing sign ends every expression
pub ends_closed : (ks : List Kind) (e : ExprTree) (n : ℕ) (s : Sign) → Closes s → slice_get ks n ≡ Some (kind.Sign s) → Ends ks e n
ends_closed ks e n s c h = record {
  operator = operator_none ks (suc (strength e)) n s c.operator h;
  question = λ _. rw h c.question;
  bracket = rw h c.bracket;
}

-- what is read of the whole tree, with d levels left
abbrev pub IsRead : List Kind → ℕ → ℕ → ℕ → ℕ → ExprTree → ℕ → Type 0
IsRead ks d m n k e e' = read ks d m n ≡ after (first_deep n (expr k e)) (rest ks d m e e')

-- the same where nothing goes on behind it
pub ended : (ks : List Kind) (d m n k : ℕ) (e : ExprTree) (e' : ℕ) → IsRead ks d m n k e e' → rest ks d m e e' ≡ Ok (e, e') → read ks d m n ≡ after (first_deep n (expr k e)) (Ok (e, e'))
ended ks d m n k e e' h r = h ∙ ap (after (first_deep n (expr k e))) r

number_front : (ks : List Kind) (rec : Rec) (n : ℕ) (v : NumberLiteral) (e' : ℕ) → slice_get ks n ≡ Some (kind.Number v.value) → v.at ≡ n → suc n ≡ e' → front ks rec n ≡ Ok (Number v, e')
unfolding front
number_front ks rec n v e' h a e = rw (h, ← a, ← e) (rw a refl)

name_front : (ks : List Kind) (rec : Rec) (n : ℕ) (x : Ident) (e' : ℕ) → slice_get ks n ≡ Some (kind.Name x.name) → x.at ≡ n → suc n ≡ e'
    → sign_is sign.LeftBracket (slice_get ks e') ≡ false → front ks rec n ≡ Ok (Name x, e')
unfolding front name_at
name_front ks rec n x e' h a e b =
    let b' : sign_is sign.LeftBracket (slice_get ks (suc n)) ≡ false = rw e b in
    rw (h, b') (let f : ℕ → ℕ → Step = λ i j. Ok (Name (record { name = x.name; at = i }), j) in ap (λ i. f i (suc n)) (sym a) ∙ ap (f x.at) e)

index_front : (ks : List Kind) (rec : Rec) (n : ℕ) (x : Ident) (i : ExprTree) (p : Option ℕ) (j e' : ℕ)
    → slice_get ks n ≡ Some (kind.Name x.name) → x.at ≡ n → slice_get ks (suc n) ≡ Some (kind.Sign sign.LeftBracket)
    → rec 0 (suc (suc n)) ≡ after p (Ok (i, j)) → slice_get ks j ≡ Some (kind.Sign sign.RightBracket) → suc j ≡ e'
    → front ks rec n ≡ after p (Ok (Index x i, e'))
unfolding front name_at
index_front ks rec n x i None j e' h a b r c e =
    rw (h, b, r, sign_at_is ks sign.RightBracket j c) (let f : ℕ → ℕ → Step = λ at to. Ok (Index (record { name = x.name; at = at }) i, to) in ap (λ at. f at (suc j)) (sym a) ∙ ap (f x.at) e)
index_front ks rec n x i (Some p) j e' h a b r c e = rw (h, b, r) refl

deref_front : (ks : List Kind) (rec : Rec) (n at : ℕ) (x : Ident) (e' : ℕ) → slice_get ks n ≡ Some (kind.Sign sign.Star) → at ≡ n
    → slice_get ks (suc n) ≡ Some (kind.Name x.name) → x.at ≡ suc n → suc (suc n) ≡ e' → front ks rec n ≡ Ok (Deref at x, e')
unfolding front
deref_front ks rec n at x e' h a b y e =
    rw (h, b) (let f : ℕ → ℕ → ℕ → Step = λ i j to. Ok (Deref i (record { name = x.name; at = j }), to) in
    ap (λ i. f i (suc n) (suc (suc n))) (sym a) ∙ ap (λ j. f at j (suc (suc n))) (sym y) ∙ ap (f at x.at) e)

unary_front : (ks : List Kind) (rec : Rec) (n : ℕ) (op : UnaryOp) (at : ℕ) (i : ExprTree) (p : Option ℕ) (e' : ℕ)
    → slice_get ks n ≡ Some (kind.Sign (unary_sign_of op)) → at ≡ n → rec 11 (suc n) ≡ after p (Ok (i, e'))
    → front ks rec n ≡ after p (Ok (Unary op at i, e'))
unfolding front
unary_front ks rec n op at i None e' h a r = rw (h, lead_of-unary_sign_of op, r) (ap (λ x. Ok (Unary op x i, e')) (sym a))
unary_front ks rec n op at i (Some p) e' h a r = rw (h, lead_of-unary_sign_of op, r) refl

paren_front : (ks : List Kind) (rec : Rec) (n at : ℕ) (i : ExprTree) (p : Option ℕ) (j e' : ℕ)
    → slice_get ks n ≡ Some (kind.Sign sign.LeftParen) → at ≡ n → rec 0 (suc n) ≡ after p (Ok (i, j))
    → slice_get ks j ≡ Some (kind.Sign sign.RightParen) → suc j ≡ e' → front ks rec n ≡ after p (Ok (Paren at i, e'))
unfolding front
paren_front ks rec n at i None j e' h a r c e =
    rw (h, r, sign_at_is ks sign.RightParen j c) (ap (λ x. Ok (Paren x i, suc j)) (sym a) ∙ ap (λ x. Ok (Paren at i, x)) e)
paren_front ks rec n at i (Some p) j e' h a r c e = rw (h, r) refl

absolute_front : (ks : List Kind) (rec : Rec) (n at : ℕ) (i : ExprTree) (p : Option ℕ) (j e' : ℕ)
    → slice_get ks n ≡ Some (kind.Word word.Abs) → at ≡ n → slice_get ks (suc n) ≡ Some (kind.Sign sign.LeftParen)
    → rec 0 (suc (suc n)) ≡ after p (Ok (i, j)) → slice_get ks j ≡ Some (kind.Sign sign.RightParen) → suc j ≡ e'
    → front ks rec n ≡ after p (Ok (Absolute at i, e'))
unfolding front
absolute_front ks rec n at i None j e' h a o r c e =
    rw (h, sign_at_is ks sign.LeftParen (suc n) o, r, sign_at_is ks sign.RightParen j c) (ap (λ x. Ok (Absolute x i, suc j)) (sym a) ∙ ap (λ x. Ok (Absolute at i, x)) e)
absolute_front ks rec n at i (Some p) j e' h a o r c e = rw (h, sign_at_is ks sign.LeftParen (suc n) o, r) refl

extremum_front : (ks : List Kind) (rec : Rec) (n : ℕ) (w : MinMax) (at : ℕ) (x y : ExprTree) (p q : Option ℕ) (i j e' : ℕ)
    → slice_get ks n ≡ Some (kind.Word (min_max_word_of w)) → at ≡ n → slice_get ks (suc n) ≡ Some (kind.Sign sign.LeftParen)
    → rec 0 (suc (suc n)) ≡ after p (Ok (x, i)) → slice_get ks i ≡ Some (kind.Sign sign.Comma) → rec 0 (suc i) ≡ after q (Ok (y, j))
    → slice_get ks j ≡ Some (kind.Sign sign.RightParen) → suc j ≡ e' → front ks rec n ≡ after (or_else p q) (Ok (Extremum w at x y, e'))
unfolding front
extremum_front ks rec n w at x y None None i j e' h a o r c s d e =
    rw (
      h,
      word_lead_of-extreme w,
      sign_at_is ks sign.LeftParen (suc n) o,
      r,
      sign_at_is ks sign.Comma i c,
      s,
      sign_at_is ks sign.RightParen j d,
    ) (ap (λ z. Ok (Extremum w z x y, suc j)) (sym a) ∙ ap (λ z. Ok (Extremum w at x y, z)) e)
extremum_front ks rec n w at x y None (Some q) i j e' h a o r c s d e =
    rw (h, word_lead_of-extreme w, sign_at_is ks sign.LeftParen (suc n) o, r, sign_at_is ks sign.Comma i c, s) refl
extremum_front ks rec n w at x y (Some p) q i j e' h a o r c s d e =
    rw (h, word_lead_of-extreme w, sign_at_is ks sign.LeftParen (suc n) o, r) refl

pub right_bracket : Closes sign.RightBracket
right_bracket = record { operator = refl; question = refl; bracket = refl }

pub right_paren : Closes sign.RightParen
right_paren = record { operator = refl; question = refl; bracket = refl }

pub comma : Closes sign.Comma
comma = record { operator = refl; question = refl; bracket = refl }

pub colon : Closes sign.Colon
colon = record { operator = refl; question = refl; bracket = refl }

pub le_or_lt : (a b : ℕ) → (a ≤ b) ⊎ (b < a)
le_or_lt a b = either (leb_tells a b)
  where
    either : ((nat_le a b ≡ true) × (a ≤ b)) ⊎ ((nat_le a b ≡ false) × (b < a)) → (a ≤ b) ⊎ (b < a)
    either (inl x) = inl x.1
    either (inr x) = inr x.1

-- at level 65 the first token is too deep
read_last : (ks : List Kind) (m n k : ℕ) (e : ExprTree) (e' : ℕ) → k ≡ 65 → IsRead ks 0 m n k e e'
unfolding read
read_last ks m n k e e' h = rw h (sym (ap (λ p. after p (rest ks 0 m e e')) (deep_at_last n e)))

-- the level at which a binary operator stands
pub short_chain : (k d c : ℕ) → k + suc d ≡ 65 → c < 128 → nat_lt 64 (operator_level k (suc c)) ≡ false
short_chain k d c l h = rw (le-ltb 128 (suc c) (omega arith)) (level_fits k d l)

long_chain : (k c : ℕ) → 128 ≤ c → nat_lt 64 (operator_level k (suc c)) ≡ true
long_chain k c h = rw (lt-ltb 128 (suc c) (omega arith)) refl

-- what stands behind the left operand of an operator
ends_left : (ks : List Kind) (a : ExprTree) (n : ℕ) (op : BinaryOp) → slice_get ks n ≡ Some (kind.Sign (sign_of op)) → level_of op ≤ strength a → Ends ks a n
ends_left ks a n op h l = record {
  operator = operator_below ks (suc (strength a)) n op h (omega arith);
  question = λ z. absurd (omega (arith, (level_bounds op).0));
  bracket = rw h (operator_sign op).1;
}

-- One more operator of a chain: the right operand has been read, or a token too deep stands in it.
chain_step : (ks : List Kind) (d m k n1 : ℕ) (op : BinaryOp) (a b : ExprTree) (p : Option ℕ) (e' : ℕ) → chain_of a < 128
    → operator_at ks m n1 ≡ Some op → read ks d (suc (level_of op)) (suc n1) ≡ after p (Ok (b, e'))
    → rest ks (suc d) m a n1 ≡ after p (rest ks (suc d) m (Binary op n1 a b) e')
unfolding rest
chain_step ks d m k n1 op a b None e' c o r =
    let left : 128 - chain_of a ≡ suc (128 - suc (chain_of a)) = omega arith in
    rw (left, chain_goes ks (read ks d) (128 - suc (chain_of a)) m a n1 op o, r) refl
chain_step ks d m k n1 op a b (Some p) e' c o r =
    let left : 128 - chain_of a ≡ suc (128 - suc (chain_of a)) = omega arith in
    rw (left, chain_goes ks (read ks d) (128 - suc (chain_of a)) m a n1 op o, r) refl

-- one operator more than a chain may have
chain_over : (ks : List Kind) (d m n1 : ℕ) (op : BinaryOp) (a : ExprTree) → 128 ≤ chain_of a → operator_at ks m n1 ≡ Some op → rest ks (suc d) m a n1 ≡ Err (TooDeep n1)
unfolding rest
chain_over ks d m n1 op a c o =
    let none : 128 - chain_of a ≡ 0 = omega arith in
    rw (none, chain_full ks (read ks d) m a n1 op o) refl

-- a choice behind its condition
choice_step : (ks : List Kind) (d n1 : ℕ) (c y z : ExprTree) (p q : Option ℕ) (j e' : ℕ) → slice_get ks n1 ≡ Some (kind.Sign sign.Question)
    → read ks d 0 (suc n1) ≡ after p (Ok (y, j)) → slice_get ks j ≡ Some (kind.Sign sign.Colon) → read ks d 0 (suc j) ≡ after q (Ok (z, e'))
    → rest ks (suc d) 0 c n1 ≡ after (or_else p q) (Ok (Choice n1 c y z, e'))
unfolding rest
choice_step ks d n1 c y z None None j e' h r o s =
    rw (chain_stops ks (read ks d) (128 - chain_of c) 0 c n1 (operator_none ks 0 n1 sign.Question refl h), choice_goes ks (read ks d) c n1 h, r, sign_at_is ks sign.Colon j o, s) refl
choice_step ks d n1 c y z None (Some q) j e' h r o s =
    rw (chain_stops ks (read ks d) (128 - chain_of c) 0 c n1 (operator_none ks 0 n1 sign.Question refl h), choice_goes ks (read ks d) c n1 h, r, sign_at_is ks sign.Colon j o, s) refl
choice_step ks d n1 c y z (Some p) q j e' h r o s =
    rw (chain_stops ks (read ks d) (128 - chain_of c) 0 c n1 (operator_none ks 0 n1 sign.Question refl h), choice_goes ks (read ks d) c n1 h, r) refl

binary_case : (ks : List Kind) (d m n k j e' : ℕ) (op : BinaryOp) (at : ℕ) (a b : ExprTree) → k + suc d ≡ 65 → Spans ks n (expr k a) j
    → at ≡ j → operator_at ks m j ≡ Some op → IsRead ks (suc d) m n k a j
    → read ks d (suc (level_of op)) (suc j) ≡ after (first_deep (suc j) (expr (suc k) b)) (Ok (b, e'))
    → IsRead ks (suc d) m n k (Binary op at a b) e'
binary_case ks d m n k j e' op at a b l s i here left right = by_length (le_or_lt 128 (chain_of a))
  where
    by_length : (128 ≤ chain_of a) ⊎ (chain_of a < 128) → IsRead ks (suc d) m n k (Binary op at a b) e'
    by_length (inl long) =
        let mark = named_sign (operator_level k (suc (chain_of a))) (sign_of op) at in
        let deep : first_deep n (expr k (Binary op at a b)) ≡ or_else (first_deep n (expr k a)) (Some j) =
        deep_split ks n (expr k a) (mark ∷ expr (suc k) b) j s ∙ ap (or_else (first_deep n (expr k a))) (deep_here j mark (expr (suc k) b) (long_chain k (chain_of a) long)) in
        rw (deep, left, chain_over ks d m j op a long here) (sym (after_or_else (first_deep n (expr k a)) (Some j) _))
    by_length (inr short) =
        let mark = named_sign (operator_level k (suc (chain_of a))) (sign_of op) at in
        let deep = deep_between ks n (expr k a) mark (expr (suc k) b) j s (short_chain k d (chain_of a) l short) in
        let step = chain_step ks d m k j op a b (first_deep (suc j) (expr (suc k) b)) e' short here right in
        let is : Binary op j a b ≡ Binary op at a b = ap (λ x. Binary op x a b) (sym i) in
        rw (deep, left, step, is) (sym (after_or_else (first_deep n (expr k a)) (first_deep (suc j) (expr (suc k) b)) _))

-- Each tree is read from its tokens, or the first token beyond the last level is found.
pub complete : (ks : List Kind) (e : ExprTree) (d m n k e' : ℕ) → k + d ≡ 65 → m ≤ strength e → IsGrouped e → Spans ks n (expr k e) e' → Ends ks e e' → IsRead ks d m n k e e'
complete ks e zero m n k e' l ml g s q = read_last ks m n k e e' (omega arith)
complete ks (Number v) (suc d) m n k e' l ml g s q =
    rw (level_fits k d l) (read_front ks d m n e' None (Number v) refl (number_front ks (read ks d) n v e' s.0 s.1 s.2))
complete ks (Name x) (suc d) m n k e' l ml g s q =
    rw (level_fits k d l) (read_front ks d m n e' None (Name x) refl (name_front ks (read ks d) n x e' s.0 s.1 s.2 q.bracket))
complete ks (Index x e) (suc d) m n k e' l ml g s q =
    let fits = level_fits k d l in
    let r = spans_split ks (suc (suc n)) (expr (suc k) e) (sign_mark k sign.RightBracket ∷ []) e' s.2.2 in
    let c = r.2.0 in
    let inner = complete ks e d 0 (suc (suc n)) (suc k) r.0 (omega (arith, l)) zero-le g r.1 (ends_closed ks e r.0 sign.RightBracket right_bracket c) in
    let whole = ended ks d 0 (suc (suc n)) (suc k) e r.0 inner (rest_closed ks d 0 e r.0 sign.RightBracket right_bracket c) in
    rw (fits, deep_closed ks (suc (suc n)) (expr (suc k) e) (sign_mark k sign.RightBracket) r.0 r.1 fits)
    (read_front ks d m n e' (first_deep (suc (suc n)) (expr (suc k) e)) (Index x e) refl
    (index_front ks (read ks d) n x e (first_deep (suc (suc n)) (expr (suc k) e)) r.0 e' s.0 s.1 s.2.0 whole c r.2.2))
complete ks (Deref at x) (suc d) m n k e' l ml g s q =
    rw (level_fits k d l) (read_front ks d m n e' None (Deref at x) refl (deref_front ks (read ks d) n at x e' s.0 s.1 s.2.0 s.2.1 s.2.2))
complete ks (Unary op at e) (suc d) m n k e' l ml g s q =
    let beyond = operator_beyond ks 11 e' (omega arith) in
    let strong : 11 ≤ strength e = g.0 in
    let behind : Ends ks e e' = record {
      operator = operator_beyond ks (suc (strength e)) e' (omega arith);
      question = λ z. absurd (omega arith);
      bracket = q.bracket;
    } in
    let inner = complete ks e d 11 (suc n) (suc k) e' (omega (arith, l)) strong g.1 s.2 behind in
    let whole = ended ks d 11 (suc n) (suc k) e e' inner (rest_stops ks d 11 e e' beyond (λ z. absurd (omega arith))) in
    rw (level_fits k d l) (read_front ks d m n e' (first_deep (suc n) (expr (suc k) e)) (Unary op at e) refl
    (unary_front ks (read ks d) n op at e (first_deep (suc n) (expr (suc k) e)) e' s.0 s.1 whole))
complete ks (Binary op at a b) (suc d) m n k e' l ml g s q =
    let mark = named_sign (operator_level k (suc (chain_of a))) (sign_of op) at in
    let r = spans_split ks n (expr k a) (mark ∷ expr (suc k) b) e' s in
    let left = complete ks a (suc d) m n k r.0 l (omega (arith, g.0)) g.2 r.1 (ends_left ks a r.0 op r.2.0 g.0) in
    let here = operator_is ks m r.0 op r.2.0 ml in
    let none = q.operator in
    let behind : Ends ks b e' = record {
      operator = operator_higher ks (suc (level_of op)) (suc (strength b)) e' none (omega (arith, g.1));
      question = λ z. absurd (omega (arith, g.1));
      bracket = q.bracket;
    } in
    let right = complete ks b d (suc (level_of op)) (suc r.0) (suc k) e' (omega (arith, l)) g.1 g.3 r.2.2 behind in
    let right_whole = ended ks d (suc (level_of op)) (suc r.0) (suc k) b e' right (rest_stops ks d (suc (level_of op)) b e' none (λ z. absurd (omega arith))) in
    binary_case ks d m n k r.0 e' op at a b l r.1 r.2.1 here left right_whole
complete ks (Choice at c y z) (suc d) m n k e' l ml g s q =
    let fits = level_fits k d l in
    let lowest : m ≡ 0 = omega arith in
    let tail = expr (suc k) y ++ (sign_mark k sign.Colon ∷ expr (suc k) z) in
    let r = spans_split ks n (expr k c) (named_sign k sign.Question at ∷ tail) e' s in
    let t = spans_split ks (suc r.0) (expr (suc k) y) (sign_mark k sign.Colon ∷ expr (suc k) z) e' r.2.2 in
    let behind_test : Ends ks c r.0 = record {
      operator = operator_none ks (suc (strength c)) r.0 sign.Question refl r.2.0;
      question = λ w. absurd (omega (arith, g.0));
      bracket = rw r.2.0 refl;
    } in
    let behind : Ends ks z e' = record {
      operator = operator_higher ks 1 (suc (strength z)) e' q.operator (omega arith);
      question = λ _. q.question refl;
      bracket = q.bracket;
    } in
    let none = operator_lowest ks e' q.operator in
    let test = complete ks c (suc d) 0 n k r.0 l zero-le g.1 r.1 behind_test in
    let first = complete ks y d 0 (suc r.0) (suc k) t.0 (omega (arith, l)) zero-le g.2 t.1 (ends_closed ks y t.0 sign.Colon colon t.2.0) in
    let first_whole = ended ks d 0 (suc r.0) (suc k) y t.0 first (rest_closed ks d 0 y t.0 sign.Colon colon t.2.0) in
    let second = complete ks z d 0 (suc t.0) (suc k) e' (omega (arith, l)) zero-le g.3 t.2.2 behind in
    let second_whole = ended ks d 0 (suc t.0) (suc k) z e' second (rest_stops ks d 0 z e' none (λ _. q.question refl)) in
    let step = choice_step ks d r.0 c y z (first_deep (suc r.0) (expr (suc k) y)) (first_deep (suc t.0) (expr (suc k) z)) t.0 e' r.2.0 first_whole t.2.0 second_whole in
    let deep : first_deep n (expr k (Choice at c y z)) ≡ or_else (first_deep n (expr k c)) (or_else (first_deep (suc r.0) (expr (suc k) y)) (first_deep (suc t.0) (expr (suc k) z))) =
    deep_between ks n (expr k c) (named_sign k sign.Question at) tail r.0 r.1 fits
    ∙ ap (or_else (first_deep n (expr k c)))
    (deep_between ks (suc r.0) (expr (suc k) y) (sign_mark k sign.Colon) (expr (suc k) z) t.0 t.1 fits) in
    let is : Choice r.0 c y z ≡ Choice at c y z = ap (λ i. Choice i c y z) (sym r.2.1) in
    let end = rest_stops ks (suc d) 0 (Choice at c y z) e' none (λ _. q.question refl) in
    rw (lowest, deep, end, test, step, is) (sym (after_or_else (first_deep n (expr k c)) _ _))
complete ks (Paren at e) (suc d) m n k e' l ml g s q =
    let fits = level_fits k d l in
    let r = spans_split ks (suc n) (expr (suc k) e) (sign_mark k sign.RightParen ∷ []) e' s.2 in
    let c = r.2.0 in
    let inner = complete ks e d 0 (suc n) (suc k) r.0 (omega (arith, l)) zero-le g r.1 (ends_closed ks e r.0 sign.RightParen right_paren c) in
    let whole = ended ks d 0 (suc n) (suc k) e r.0 inner (rest_closed ks d 0 e r.0 sign.RightParen right_paren c) in
    rw (fits, deep_closed ks (suc n) (expr (suc k) e) (sign_mark k sign.RightParen) r.0 r.1 fits)
    (read_front ks d m n e' (first_deep (suc n) (expr (suc k) e)) (Paren at e) refl
    (paren_front ks (read ks d) n at e (first_deep (suc n) (expr (suc k) e)) r.0 e' s.0 s.1 whole c r.2.2))
complete ks (Extremum w at a b) (suc d) m n k e' l ml g s q =
    let fits = level_fits k d l in
    let from = suc (suc n) in
    let tail = expr (suc k) b ++ sign_mark k sign.RightParen ∷ [] in
    let r = spans_split ks from (expr (suc k) a) (sign_mark k sign.Comma ∷ tail) e' s.2.2 in
    let t = spans_split ks (suc r.0) (expr (suc k) b) (sign_mark k sign.RightParen ∷ []) e' r.2.2 in
    let first = complete ks a d 0 from (suc k) r.0 (omega (arith, l)) zero-le g.0 r.1 (ends_closed ks a r.0 sign.Comma comma r.2.0) in
    let first_whole = ended ks d 0 from (suc k) a r.0 first (rest_closed ks d 0 a r.0 sign.Comma comma r.2.0) in
    let second = complete ks b d 0 (suc r.0) (suc k) t.0 (omega (arith, l)) zero-le g.1 t.1 (ends_closed ks b t.0 sign.RightParen right_paren t.2.0) in
    let second_whole = ended ks d 0 (suc r.0) (suc k) b t.0 second (rest_closed ks d 0 b t.0 sign.RightParen right_paren t.2.0) in
    rw (
      fits,
      deep_between ks from (expr (suc k) a) (sign_mark k sign.Comma) tail r.0 r.1 fits,
      deep_closed ks (suc r.0) (expr (suc k) b) (sign_mark k sign.RightParen) t.0 t.1 fits,
    )
    (read_front ks d m n e' (or_else (first_deep from (expr (suc k) a)) (first_deep (suc r.0) (expr (suc k) b))) (Extremum w at a b)
    refl (extremum_front ks (read ks d) n w at a b (first_deep from (expr (suc k) a)) (first_deep (suc r.0) (expr (suc k) b)) r.0 t.0 e'
    s.0 s.1 s.2.0 first_whole r.2.0 second_whole t.2.0 t.2.2))
complete ks (Absolute at e) (suc d) m n k e' l ml g s q =
    let fits = level_fits k d l in
    let from = suc (suc n) in
    let r = spans_split ks from (expr (suc k) e) (sign_mark k sign.RightParen ∷ []) e' s.2.2 in
    let c = r.2.0 in
    let inner = complete ks e d 0 from (suc k) r.0 (omega (arith, l)) zero-le g r.1 (ends_closed ks e r.0 sign.RightParen right_paren c) in
    let whole = ended ks d 0 from (suc k) e r.0 inner (rest_closed ks d 0 e r.0 sign.RightParen right_paren c) in
    rw (fits, deep_closed ks from (expr (suc k) e) (sign_mark k sign.RightParen) r.0 r.1 fits)
    (read_front ks d m n e' (first_deep from (expr (suc k) e)) (Absolute at e) refl
    (absolute_front ks (read ks d) n at e (first_deep from (expr (suc k) e)) r.0 e' s.0 s.1 s.2.0 whole c r.2.2))
