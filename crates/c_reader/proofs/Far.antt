-- A reader that stops at the last level has passed at least so many tokens.
use Rattle.std.proofs.Common.{◌≡◌, ℕ, zero, suc, ◌+◌, ◌≤◌, Bool, true, false, cond, List, ◌∷◌, length, Option, Some, None, Result, Ok, Err, refl, ap, arith, slice_get, zero-le, length-append}
use Rattle.c_tree.specs.declared.lexer.tokens.Kind.{Kind}
use Rattle.c_tree.specs.declared.lexer.tokens.Kind.TheVariants as kind
use Rattle.c_tree.specs.declared.lexer.tokens.Sign.{Sign}
use Rattle.c_tree.specs.declared.lexer.tokens.Sign.TheVariants as sign
use Rattle.c_tree.specs.declared.expressions.BinaryOp.{BinaryOp}
use Rattle.c_tree.specs.Signs.{level_of}
use Rattle.c_tree.specs.Tree.{ExprTree, Number, Name, Index, Deref, Unary, Binary, Choice, Paren, Extremum, Absolute}
use Rattle.c_tree.specs.Print.{expr, chain_of, operator_level, named_sign}
use Rattle.c_reader.specs.declared.leads.Lead.{Lead}
use Rattle.c_reader.specs.declared.leads.Lead.TheVariants as lead
use Rattle.c_reader.specs.declared.leads.WordLead.{WordLead}
use Rattle.c_reader.specs.declared.leads.WordLead.TheVariants as word_lead
use Rattle.c_reader.specs.declared.faults.Fault.{Fault}
use Rattle.c_reader.specs.declared.faults.Fault.TheVariants.{Syntax, TooDeep}
use Rattle.c_reader.specs.Leads.{lead_of, word_lead_of}
use Rattle.c_reader.specs.Descent.{Step, Rec, ◌>>=◌, sign_is, sign_at, operator_at, on_operator, name_at, name_in, led_by, worded_by, front_in, front, chain, choice, read}
use Rattle.c_reader.proofs.Spans.{spans_end}
use Rattle.c_reader.proofs.Steps.{level_bounds, sign_at_ok, operator_beyond}
use Rattle.c_reader.proofs.Complete.{level_fits}
use Rattle.c_reader.proofs.Sound.{Whole, Finds, front_sound, Held, held_more, chain_sound, sound}

-- either the first step stops there, or the rest does
pub far_bind : {A B : Type 0} (r : Result A Fault) (f : A → Result B Fault) (p : ℕ) → (r >>= f) ≡ Err (TooDeep p)
    → (r ≡ Err (TooDeep p) → 64 ≤ p) → ((x : A) → r ≡ Ok x → f x ≡ Err (TooDeep p) → 64 ≤ p) → 64 ≤ p
far_bind (Ok x) f p h a b = b x refl h
far_bind (Err e) f p h a b = a (let same : e ≡ TooDeep p = cc in ap Err same)

pub sign_far : (ks : List Kind) (s : Sign) (n p : ℕ) → sign_at ks s n ≡ Err (TooDeep p) → 64 ≤ p
unfolding sign_at
sign_far ks s n p h = by_test (sign_is s (slice_get ks n)) h
  where
    by_test : (t : Bool) → ◌≡◌ {A = Result ℕ Fault} (cond t (Ok (suc n)) (Err (Syntax n))) (Err (TooDeep p)) → 64 ≤ p
    by_test true h = cc
    by_test false h = cc

-- a reader for level k that is called at a place with at least k - 1 tokens before it
abbrev pub FarFrom : ℕ → Rec → Type 0
FarFrom k rec = (m n p : ℕ) → m ≤ 11 → k ≤ suc n → rec m n ≡ Err (TooDeep p) → 64 ≤ p

-- a tree ends behind where it begins
whole_end : (ks : List Kind) (n k : ℕ) (e : ExprTree) (e' : ℕ) → Whole ks n k e e' → n ≤ e'
whole_end ks n k e e' w = omega (arith, spans_end ks n (expr k e) e' w.spans)

-- a chain prints a token for each operator
chain_long : (k : ℕ) (e : ExprTree) → chain_of e ≤ length (expr k e)
chain_long k (Number n) = zero-le
chain_long k (Name n) = zero-le
chain_long k (Index x i) = zero-le
chain_long k (Deref at x) = zero-le
chain_long k (Unary op at x) = zero-le
chain_long k (Binary op at a b) =
    omega (arith, chain_long k a, length-append (expr k a) (named_sign (operator_level k (suc (chain_of a))) (Rattle.c_tree.specs.Signs.sign_of op) at ∷ expr (suc k) b))
chain_long k (Choice at a b c) = zero-le
chain_long k (Paren at x) = zero-le
chain_long k (Extremum w at a b) = zero-le
chain_long k (Absolute at x) = zero-le

module _ (ks : List Kind) (rec : Rec) (k : ℕ) (finds : Finds ks (suc k) rec) (far : FarFrom (suc k) rec) where
  name_far : (x : List ℕ) (n p : ℕ) → k ≤ suc n → name_at ks rec x n ≡ Err (TooDeep p) → 64 ≤ p
  unfolding name_at
  name_far x n p l h = by_test (sign_is sign.LeftBracket (slice_get ks (suc n))) h
    where
      indexed : Step
      indexed = rec 0 (suc (suc n)) >>= λ i. sign_at ks sign.RightBracket i.1 >>= λ e. Ok (Index (record { name = x; at = n }) i.0, e)

      plain : Step
      plain = Ok (Name (record { name = x; at = n }), suc n)

      by_test : (t : Bool) → cond t indexed plain ≡ Err (TooDeep p) → 64 ≤ p
      by_test true h =
          far_bind (rec 0 (suc (suc n))) _ p h (far 0 (suc (suc n)) p zero-le (omega arith))
          (λ i r g. far_bind (sign_at ks sign.RightBracket i.1) _ p g (sign_far ks sign.RightBracket i.1 p) (λ e q w. cc))
      by_test false h = cc

  named_far : (n p : ℕ) (o : Option Kind) → ◌>>=◌ {B = ExprTree × ℕ} (name_in o (suc n)) (λ x. Ok (Deref n (record { name = x; at = suc n }), suc (suc n))) ≡ Err (TooDeep p) → 64 ≤ p
  named_far n p None h = cc
  named_far n p (Some (kind.Name x)) h = cc
  named_far n p (Some (kind.Word x)) h = cc
  named_far n p (Some (kind.Number x)) h = cc
  named_far n p (Some (kind.Text x)) h = cc
  named_far n p (Some (kind.Sign x)) h = cc

  led_far : (l : Lead) (n p : ℕ) → k ≤ suc n → led_by ks rec l n ≡ Err (TooDeep p) → 64 ≤ p
  led_far lead.Paren n p b h =
      far_bind (rec 0 (suc n)) _ p h (far 0 (suc n) p zero-le (omega arith)) (λ i r g. far_bind (sign_at ks sign.RightParen i.1) _ p g (sign_far ks sign.RightParen i.1 p) (λ e q w. cc))
  led_far lead.Deref n p b h = named_far n p (slice_get ks (suc n)) h
  led_far (lead.Unary op) n p b h =
      far_bind (rec 11 (suc n)) _ p h (far 11 (suc n) p (omega arith) (omega arith)) (λ i r g. cc)
  led_far lead.Nothing n p b h = cc

  worded_far : (l : WordLead) (n p : ℕ) → k ≤ suc n → worded_by ks rec l n ≡ Err (TooDeep p) → 64 ≤ p
  worded_far (word_lead.Extremum w) n p b h =
      far_bind (sign_at ks sign.LeftParen (suc n)) _ p h (sign_far ks sign.LeftParen (suc n) p) (λ o q g.
      let at = (sign_at_ok ks sign.LeftParen (suc n) o q).1 in
      far_bind (rec 0 o) _ p g (far 0 o p zero-le (omega arith)) (λ x r g.
      let past = whole_end ks o (suc k) x.0 x.1 (finds 0 o zero-le x r).whole in
      far_bind (sign_at ks sign.Comma x.1) _ p g (sign_far ks sign.Comma x.1 p) (λ c q g.
      let next = (sign_at_ok ks sign.Comma x.1 c q).1 in
      far_bind (rec 0 c) _ p g (far 0 c p zero-le (omega arith)) (λ y r g.
      far_bind (sign_at ks sign.RightParen y.1) _ p g (sign_far ks sign.RightParen y.1 p) (λ e q w. cc)))))
  worded_far word_lead.Absolute n p b h =
      far_bind (sign_at ks sign.LeftParen (suc n)) _ p h (sign_far ks sign.LeftParen (suc n) p) (λ o q g.
      let at = (sign_at_ok ks sign.LeftParen (suc n) o q).1 in
      far_bind (rec 0 o) _ p g (far 0 o p zero-le (omega arith)) (λ x r g.
      far_bind (sign_at ks sign.RightParen x.1) _ p g (sign_far ks sign.RightParen x.1 p) (λ e q w. cc)))
  worded_far word_lead.Nothing n p b h = cc

  front_far : (n p : ℕ) → k ≤ suc n → front ks rec n ≡ Err (TooDeep p) → 64 ≤ p
  unfolding front
  front_far n p b h = by_kind (slice_get ks n) h
    where
      by_kind : (o : Option Kind) → front_in ks rec o n ≡ Err (TooDeep p) → 64 ≤ p
      by_kind None h = cc
      by_kind (Some (kind.Number v)) h = cc
      by_kind (Some (kind.Name x)) h = name_far x n p b h
      by_kind (Some (kind.Sign s)) h = led_far (lead_of s) n p b h
      by_kind (Some (kind.Word w)) h = worded_far (word_lead_of w) n p b h
      by_kind (Some (kind.Text t)) h = cc

module _ (ks : List Kind) (rec : Rec) (k d : ℕ) (finds : Finds ks (suc k) rec) (room : k + suc d ≡ 65) (far : FarFrom (suc k) rec) where
  chain_far : (c m s : ℕ) (l : ExprTree) (n p : ℕ) → k ≤ suc s → c + chain_of l ≡ 128 → Held ks m s k l n → chain ks rec c m l n ≡ Err (TooDeep p) → 64 ≤ p
  unfolding chain
  chain_far zero m s l n p a b h g = by_operator (operator_at ks m n) g
    where
      past : 128 ≤ n
      past = omega (arith, spans_end ks s (expr k l) n h.whole.spans, chain_long k l)

      by_operator : (o : Option BinaryOp) → on_operator {A = Step} o (Ok (l, n)) (λ op. Err (TooDeep n)) ≡ Err (TooDeep p) → 64 ≤ p
      by_operator None g = cc
      by_operator (Some op) g = let same : n ≡ p = cc in omega (arith, past)
  chain_far (suc c) m s l n p a b h g =
      chain_more (chain ks rec c m) (λ x op i t. chain_far c m s (Binary op n l x.0) x.1 p a (omega (arith, b)) i t) (operator_at ks m n) refl g
    where
      chain_more : (go : ExprTree → ℕ → Step) →
          ((x : ExprTree × ℕ) (op : BinaryOp) → Held ks m s k (Binary op n l x.0) x.1 → go (Binary op n l x.0) x.1 ≡ Err (TooDeep p)
          → 64 ≤ p) → (o : Option BinaryOp) → operator_at ks m n ≡ o
          → on_operator {A = Step} o (Ok (l, n)) (λ op. rec (suc (level_of op)) (suc n) >>= λ x. go (Binary op n l x.0) x.1) ≡ Err
          (TooDeep p) → 64 ≤ p
      chain_more go next None o g = cc
      chain_more go next (Some op) o g =
          let past = whole_end ks s k l n h.whole in
          far_bind (rec (suc (level_of op)) (suc n)) _ p g
          (far (suc (level_of op)) (suc n) p (omega (arith, (level_bounds op).1)) (omega arith))
          (λ x r w. next x op (held_more ks rec k d finds room m s l n op x (omega (arith, b)) h o r) w)

  choice_far : (m n : ℕ) (l : ExprTree) (p : ℕ) → k ≤ suc n → choice ks rec m l n ≡ Err (TooDeep p) → 64 ≤ p
  unfolding choice
  choice_far zero n l p b h = by_test (sign_is sign.Question (slice_get ks n)) h
    where
      chosen : Step
      chosen = rec 0 (suc n) >>= λ y. sign_at ks sign.Colon y.1 >>= λ e. rec 0 e >>= λ z. Ok (Choice n l y.0 z.0, z.1)

      alone : Step
      alone = Ok (l, n)

      by_test : (t : Bool) → cond t chosen alone ≡ Err (TooDeep p) → 64 ≤ p
      by_test true h =
          far_bind (rec 0 (suc n)) _ p h (far 0 (suc n) p zero-le (omega arith)) (λ y r g.
          let past = whole_end ks (suc n) (suc k) y.0 y.1 (finds 0 (suc n) zero-le y r).whole in
          far_bind (sign_at ks sign.Colon y.1) _ p g (sign_far ks sign.Colon y.1 p) (λ e q g.
          let next = (sign_at_ok ks sign.Colon y.1 e q).1 in
          far_bind (rec 0 e) _ p g (far 0 e p zero-le (omega arith)) (λ z r w. cc)))
      by_test false h = cc
  choice_far (suc m) n l p b h = cc

-- Where too many levels are found, at least 64 tokens stand before.
pub too_far : (ks : List Kind) (d k : ℕ) → k + d ≡ 65 → FarFrom k (read ks d)
unfolding read
too_far ks zero k l m n p b a h = let same : n ≡ p = cc in omega arith
too_far ks (suc d) k l m n p b a h =
    let finds = sound ks d (suc k) (omega (arith, l)) in
    let far = too_far ks d (suc k) (omega (arith, l)) in
    far_bind (front ks (read ks d) n) _ p h (front_far ks (read ks d) k finds far n p a) (λ f r g.
    let fronts = front_sound ks (read ks d) k finds (level_fits k d l) n f r in
    let held : Held ks m n k f.0 f.1 = record {
      whole = fronts.whole;
      strong = omega (arith, fronts.strong);
      lowest = omega (arith, fronts.strong);
      stops = operator_beyond ks (suc (Rattle.c_tree.specs.Grouped.strength f.0)) f.1 (omega (arith, fronts.strong));
    } in
    far_bind (chain ks (read ks d) 128 m f.0 f.1) _ p g (chain_far ks (read ks d) k d finds l far 128 m n f.0 f.1 p a (omega (arith, fronts.single)) held) (λ c q w.
    let chained = chain_sound ks (read ks d) k d finds l 128 m n f.0 f.1 c (omega (arith, fronts.single)) held q in
    let past = whole_end ks n k c.0 c.1 chained.held.whole in
    choice_far ks (read ks d) k d finds l far m c.1 c.0 p (omega arith) w))
