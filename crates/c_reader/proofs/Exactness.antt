-- Readers that answer exactly what is printed.
use Rattle.std.proofs.Common.{◌≡◌, ℕ, suc, ◌+◌, ◌≤◌, Bool, true, false, cond, List, [], ◌∷◌, ◌++◌, length, Option, Some, None, Result, Ok, Err, refl, sym, ap, subst, ◌∙◌, arith, slice_get, nat_lt, zero-le, length-append}
use Rattle.c_tree.specs.declared.lexer.tokens.Kind.{Kind}
use Rattle.c_tree.specs.declared.lexer.tokens.Kind.TheVariants as kind
use Rattle.c_tree.specs.declared.lexer.tokens.Sign.{Sign}
use Rattle.c_tree.specs.declared.lexer.tokens.Word.{Word}
use Rattle.c_tree.specs.contracts.lexer.tokens.Word as the_word
use Rattle.c_tree.specs.declared.expressions.Ident.{Ident}
use Rattle.c_tree.specs.declared.expressions.NumberLiteral.{NumberLiteral}
use Rattle.c_tree.specs.declared.expressions.TextLiteral.{TextLiteral}
use Rattle.c_tree.specs.Tree.{ExprTree}
use Rattle.c_tree.specs.Print.{Mark, sign_at as sign_mark, word_at as word_mark, named_sign, named_word, ident as ident_mark, figure, label, expr, chain_of, operator_level}
use Rattle.c_tree.specs.Signs.{sign_of}
use Rattle.c_tree.specs.declared.lexer.tokens.Sign.TheVariants as s
use Rattle.c_tree.specs.Grouped.{IsGrouped}
use Rattle.c_tree.specs.Reads.{first_deep}
use Rattle.c_reader.specs.declared.faults.Fault.{Fault}
use Rattle.c_reader.specs.declared.faults.Fault.TheVariants.{Syntax, TooDeep}
use Rattle.c_reader.specs.Descent.{◌>>=◌, sign_at, read}
use Rattle.c_reader.specs.Rows.{Reader, both, word_is, word_at, sign, word, marked, ident_in, ident, number_in, number, text_in, text}
use Rattle.c_reader.proofs.Spans.{Spans, spans_end, spans_split, spans_join, or_else, deep_split, deep_over, after}
use Rattle.c_reader.proofs.Steps.{sign_at_is, sign_at_ok}
use Rattle.c_reader.proofs.Complete.{Closes, complete, ended, ends_closed, rest_closed}
use Rattle.c_reader.proofs.Sound.{bind_ok, ok_one, sound}
use Rattle.c_reader.proofs.Far.{far_bind, sign_far, too_far}
use denote.Enum.Bare.{same_true, true_same}

-- What was read is a value of the tokens from n up to e, none of which is too deep.
pub record Found (ks : List Kind) {A : Type 0} (ok : A → Type 0) (marks : A → List Mark) (gives : A → ℕ → Type 0) (n : ℕ) (a : A) (e : ℕ) : Type 0 where
  pub valid : ok a
  pub spans : Spans ks n (marks a) e
  pub shallow : first_deep n (marks a) ≡ None
  pub behind : gives a e

-- A reader that is called with at least `from` tokens before it, and reads at least `size`. Each value whose tokens
-- stand there is read, up to the first token that is too deep; what is read is such a value; and a token that is too
-- deep for it has at least 64 before it.
pub record Exact (ks : List Kind) {A : Type 0} (from size : ℕ) (ok : A → Type 0) (marks : A → List Mark) (needs gives : A → ℕ → Type 0) (p : Reader A) : Type 0 where
  pub complete : (a : A) (n e : ℕ) → ok a → Spans ks n (marks a) e → needs a e → p n ≡ after (first_deep n (marks a)) (Ok (a, e))
  pub sound : (n : ℕ) (y : A × ℕ) → p n ≡ Ok y → Found ks ok marks gives n y.0 y.1
  pub moves : (n : ℕ) (y : A × ℕ) → p n ≡ Ok y → n + size ≤ y.1
  pub far : (n q : ℕ) → from ≤ n → p n ≡ Err (TooDeep q) → 64 ≤ q

abbrev pub Any : {A : Type 0} → A → Type 0
Any a = Unit {0}

abbrev pub Free : {A : Type 0} → A → ℕ → Type 0
Free a e = Unit {0}

both_is : {A B : Type 0} (p : Reader A) (q : Reader B) (n j e : ℕ) (a : A) (b : B) (x y : Option ℕ) → p n ≡ after x (Ok (a, j))
    → q j ≡ after y (Ok (b, e)) → both p q n ≡ after (or_else x y) (Ok ((a, b), e))
both_is p q n j e a b None None h g = rw (h, g) refl
both_is p q n j e a b None (Some y) h g = rw (h, g) refl
both_is p q n j e a b (Some x) y h g = rw h refl

-- two readers, one after the other
pub both_exact : (ks : List Kind) {A B : Type 0} (from size more : ℕ) (okA : A → Type 0) (okB : B → Type 0) (marksA : A → List Mark)
    (marksB : B → List Mark) (needsA givesA : A → ℕ → Type 0) (needsB givesB : B → ℕ → Type 0) (p : Reader A) (q : Reader B)
    → Exact ks from size okA marksA needsA givesA p → Exact ks (from + size) more okB marksB needsB givesB q
    → ((a : A) (b : B) (j e : ℕ) → okB b → Spans ks j (marksB b) e → needsA a j)
    → Exact ks from (size + more) (λ v. okA v.0 × okB v.1) (λ v. marksA v.0 ++ marksB v.1) (λ v e. needsB v.1 e) (λ v e. givesB v.1 e)
    (both p q)
both_exact ks {A = A} {B = B} from size more okA okB marksA marksB needsA givesA needsB givesB p q x y follow = record {
  complete = λ v n e o s h.
      (let r = spans_split ks n (marksA v.0) (marksB v.1) e s in
      let first = x.complete v.0 n r.0 o.0 r.1 (follow v.0 v.1 r.0 e o.1 r.2) in
      let second = y.complete v.1 r.0 e o.1 r.2 h in
      both_is p q n r.0 e v.0 v.1 (first_deep n (marksA v.0)) (first_deep r.0 (marksB v.1)) first second ∙ ap (λ z. after z (Ok (v, e))) (sym (deep_split ks n (marksA v.0) (marksB v.1) r.0 r.1)));
  sound = λ n z h.
      (let a = bind_ok (p n) _ z h in
      let b = bind_ok (q a.0.1) _ z a.2 in
      let first = x.sound n a.0 a.1 in
      let second = y.sound a.0.1 b.0 b.1 in
      let found : Found ks (λ v. okA v.0 × okB v.1) (λ v. marksA v.0 ++ marksB v.1) (λ v e. givesB v.1 e) n (a.0.0, b.0.0) b.0.1 = record {
        valid = (first.valid, second.valid);
        spans = spans_join ks n (marksA a.0.0) (marksB b.0.0) a.0.1 b.0.1 first.spans second.spans;
        shallow = deep_split ks n (marksA a.0.0) (marksB b.0.0) a.0.1 first.spans ∙ rw (first.shallow, second.shallow) refl;
        behind = second.behind;
      } in
      subst (λ w. Found ks (λ v. okA v.0 × okB v.1) (λ v. marksA v.0 ++ marksB v.1) (λ v e. givesB v.1 e) n w.0 w.1) (ok_one ((a.0.0, b.0.0), b.0.1) z b.2) found);
  moves = λ n z h.
      (let a = bind_ok (p n) _ z h in
      let b = bind_ok (q a.0.1) _ z a.2 in
      let one = x.moves n a.0 a.1 in
      let two = y.moves a.0.1 b.0 b.1 in
      subst (λ (w : (A × B) × ℕ). n + (size + more) ≤ w.1) (ok_one ((a.0.0, b.0.0), b.0.1) z b.2) (omega arith));
  far = λ n t l h.
      far_bind (p n) _ t h (x.far n t l) (λ a r g.
      (let one = x.moves n a r in
      far_bind (q a.1) _ t g (y.far a.1 t (omega arith)) (λ b r g. cc)));
}

-- one mark that isn't too deep
pub mark_shallow : (n : ℕ) (m : Mark) → nat_lt 64 m.level ≡ false → first_deep n (m ∷ []) ≡ None
mark_shallow n m h = deep_over n m [] h

pub word_found : (w : Word) (k : Option Kind) → word_is w k ≡ true → k ≡ Some (kind.Word w)
word_found w None h = cc
word_found w (Some (kind.Word v)) h = ap (λ x. Some (kind.Word x)) (same_true the_word.the_type tt v w h)
word_found w (Some (kind.Sign t)) h = cc
word_found w (Some (kind.Name t)) h = cc
word_found w (Some (kind.Number t)) h = cc
word_found w (Some (kind.Text t)) h = cc

pub word_here : (w : Word) (k : Option Kind) → k ≡ Some (kind.Word w) → word_is w k ≡ true
word_here w k h = rw h (true_same the_word.the_type w w refl)

pub word_at_is : (ks : List Kind) (w : Word) (n : ℕ) → slice_get ks n ≡ Some (kind.Word w) → word_at ks w n ≡ Ok (suc n)
unfolding word_at
word_at_is ks w n h = rw (word_here w (slice_get ks n) h) refl

pub word_at_ok : (ks : List Kind) (w : Word) (n e : ℕ) → word_at ks w n ≡ Ok e → (slice_get ks n ≡ Some (kind.Word w)) × (e ≡ suc n)
unfolding word_at
word_at_ok ks w n e h = by_test (word_is w (slice_get ks n)) refl h
  where
    by_test : (t : Bool) → word_is w (slice_get ks n) ≡ t → cond t (Ok (suc n)) (Err (Syntax n)) ≡ Ok e → (slice_get ks n ≡ Some (kind.Word w)) × (e ≡ suc n)
    by_test true f g = (word_found w (slice_get ks n) f, cc)
    by_test false f g = cc

pub word_far : (ks : List Kind) (w : Word) (n p : ℕ) → word_at ks w n ≡ Err (TooDeep p) → 64 ≤ p
unfolding word_at
word_far ks w n p h = by_test (word_is w (slice_get ks n)) h
  where
    by_test : (t : Bool) → ◌≡◌ {A = Result ℕ Fault} (cond t (Ok (suc n)) (Err (Syntax n))) (Err (TooDeep p)) → 64 ≤ p
    by_test true h = cc
    by_test false h = cc

-- a token of which nothing is kept
plain_exact : (ks : List Kind) (from k : ℕ) (x : Kind) (t : ℕ → Result ℕ Fault) → nat_lt 64 k ≡ false
    → ((n : ℕ) → slice_get ks n ≡ Some x → t n ≡ Ok (suc n)) → ((n e : ℕ) → t n ≡ Ok e → (slice_get ks n ≡ Some x) × (e ≡ suc n))
    → ((n p : ℕ) → t n ≡ Err (TooDeep p) → 64 ≤ p) → Exact ks {A = Unit {0}} from 1 Any
    (λ u. record { kind = x; number = None; level = k } ∷ []) Free Free (λ n. t n >>= λ e. Ok (tt, e))
plain_exact ks from k x t fits is ok far = record {
  complete = λ a n e o s h. rw (is n s.0, mark_shallow n (record { kind = x; number = None; level = k }) fits) (ap (λ (z : ℕ). Ok (tt, z)) s.2);
  sound = λ n y h.
      (let r = bind_ok (t n) _ y h in
      let q = ok n r.0 r.1 in
      let found : Found ks {A = Unit {0}} Any (λ u. record { kind = x; number = None; level = k } ∷ []) Free n tt r.0 = record {
        valid = tt;
        spans = (q.0, tt, sym q.1);
        shallow = mark_shallow n (record { kind = x; number = None; level = k }) fits;
        behind = tt;
      } in
      subst (λ w. Found ks {A = Unit {0}} Any (λ u. record { kind = x; number = None; level = k } ∷ []) Free n w.0 w.1) (ok_one (tt, r.0) y r.2) found);
  moves = λ n y h.
      (let r = bind_ok (t n) _ y h in
      let q = ok n r.0 r.1 in
      subst (λ (w : Unit {0} × ℕ). n + 1 ≤ w.1) (ok_one (tt, r.0) y r.2) (omega (arith, q.1)));
  far = λ n q l h. far_bind (t n) _ q h (far n q) (λ e r g. cc);
}

-- a token whose number is kept
kept_exact : (ks : List Kind) (from k : ℕ) (x : Kind) (t : ℕ → Result ℕ Fault) → nat_lt 64 k ≡ false
    → ((n : ℕ) → slice_get ks n ≡ Some x → t n ≡ Ok (suc n)) → ((n e : ℕ) → t n ≡ Ok e → (slice_get ks n ≡ Some x) × (e ≡ suc n))
    → ((n p : ℕ) → t n ≡ Err (TooDeep p) → 64 ≤ p) → Exact ks {A = ℕ} from 1 Any
    (λ at. record { kind = x; number = Some at; level = k } ∷ []) Free Free (λ n. t n >>= λ e. Ok (n, e))
kept_exact ks from k x t fits is ok far = record {
  complete = λ a n e o s h. rw (is n s.0, mark_shallow n (record { kind = x; number = Some a; level = k }) fits) (ap (λ (z : ℕ). Ok (z, suc n)) (sym s.1) ∙ ap (λ (z : ℕ). Ok (a, z)) s.2);
  sound = λ n y h.
      (let r = bind_ok (t n) _ y h in
      let q = ok n r.0 r.1 in
      let found : Found ks {A = ℕ} Any (λ at. record { kind = x; number = Some at; level = k } ∷ []) Free n n r.0 = record {
        valid = tt;
        spans = (q.0, refl, sym q.1);
        shallow = mark_shallow n (record { kind = x; number = Some n; level = k }) fits;
        behind = tt;
      } in
      subst (λ w. Found ks {A = ℕ} Any (λ at. record { kind = x; number = Some at; level = k } ∷ []) Free n w.0 w.1) (ok_one (n, r.0) y r.2) found);
  moves = λ n y h.
      (let r = bind_ok (t n) _ y h in
      let q = ok n r.0 r.1 in
      subst (λ (w : ℕ × ℕ). n + 1 ≤ w.1) (ok_one (n, r.0) y r.2) (omega (arith, q.1)));
  far = λ n q l h. far_bind (t n) _ q h (far n q) (λ e r g. cc);
}

pub sign_exact : (ks : List Kind) (from k : ℕ) (t : Sign) → nat_lt 64 k ≡ false → Exact ks from 1 Any (λ u. sign_mark k t ∷ []) Free Free (sign ks t)
sign_exact ks from k t fits =
    plain_exact ks from k (kind.Sign t) (sign_at ks t) fits (λ n. sign_at_is ks t n) (λ n e. sign_at_ok ks t n e) (λ n p. sign_far ks t n p)

pub word_exact : (ks : List Kind) (from k : ℕ) (w : Word) → nat_lt 64 k ≡ false → Exact ks from 1 Any (λ u. word_mark k w ∷ []) Free Free (word ks w)
word_exact ks from k w fits =
    plain_exact ks from k (kind.Word w) (word_at ks w) fits (λ n. word_at_is ks w n) (λ n e. word_at_ok ks w n e) (λ n p. word_far ks w n p)

pub marked_exact : (ks : List Kind) (from k : ℕ) (w : Word) → nat_lt 64 k ≡ false → Exact ks from 1 Any (λ at. named_word k w at ∷ []) Free Free (marked ks w)
marked_exact ks from k w fits =
    kept_exact ks from k (kind.Word w) (word_at ks w) fits (λ n. word_at_is ks w n) (λ n e. word_at_ok ks w n e) (λ n p. word_far ks w n p)

-- a reader of one token, which keeps what the token holds and its number
item_exact : (ks : List Kind) {A : Type 0} (from k : ℕ) (kind_of : A → Kind) (at_of : A → ℕ) (p : Reader A) → nat_lt 64 k ≡ false
    → ((a : A) (n : ℕ) → slice_get ks n ≡ Some (kind_of a) → at_of a ≡ n → p n ≡ Ok (a, suc n))
    → ((n : ℕ) (y : A × ℕ) → p n ≡ Ok y → (slice_get ks n ≡ Some (kind_of y.0)) × (at_of y.0 ≡ n) × (suc n ≡ y.1))
    → ((n q : ℕ) → p n ≡ Err (TooDeep q) → ⊥) → Exact ks from 1 Any
    (λ a. record { kind = kind_of a; number = Some (at_of a); level = k } ∷ []) Free Free p
item_exact ks from k kind_of at_of p fits is ok far = record {
  complete = λ a n e o s h. is a n s.0 s.1 ∙ ap (λ (z : ℕ). Ok (a, z)) s.2
      ∙ ap (λ z. after z (Ok (a, e))) (sym (mark_shallow n (record { kind = kind_of a; number = Some (at_of a); level = k }) fits));
  sound = λ n y h.
      (let q = ok n y h in
      record {
        valid = tt;
        spans = (q.0, q.1, q.2);
        shallow = mark_shallow n (record { kind = kind_of y.0; number = Some (at_of y.0); level = k }) fits;
        behind = tt;
      });
  moves = λ n y h. (let q = ok n y h in omega (arith, q.2));
  far = λ n q l h. absurd (far n q h);
}

pub ident_is : (ks : List Kind) (x : Ident) (n : ℕ) → slice_get ks n ≡ Some (kind.Name x.name) → x.at ≡ n → ident ks n ≡ Ok (x, suc n)
unfolding ident
ident_is ks x n h a = rw h (ap (λ z. Ok (record { name = x.name; at = z }, suc n)) (sym a))

pub ident_ok : (ks : List Kind) (n : ℕ) (y : Ident × ℕ) → ident ks n ≡ Ok y → (slice_get ks n ≡ Some (kind.Name y.0.name)) × (y.0.at ≡ n) × (suc n ≡ y.1)
unfolding ident
ident_ok ks n y h = by_kind (slice_get ks n) h
  where
    by_kind : (o : Option Kind) → ident_in o n ≡ Ok y → (o ≡ Some (kind.Name y.0.name)) × (y.0.at ≡ n) × (suc n ≡ y.1)
    by_kind None h = cc
    by_kind (Some (kind.Name x)) h =
        let e = ok_one (record { name = x; at = n }, suc n) y h in
        (ap (λ (z : Ident × ℕ). Some (kind.Name z.0.name)) e, sym (ap (λ (z : Ident × ℕ). z.0.at) e), ap (λ (z : Ident × ℕ). z.1) e)
    by_kind (Some (kind.Word x)) h = cc
    by_kind (Some (kind.Number x)) h = cc
    by_kind (Some (kind.Text x)) h = cc
    by_kind (Some (kind.Sign x)) h = cc

pub ident_near : (ks : List Kind) (n q : ℕ) → ident ks n ≡ Err (TooDeep q) → ⊥
unfolding ident
ident_near ks n q h = by_kind (slice_get ks n) h
  where
    by_kind : (o : Option Kind) → ident_in o n ≡ Err (TooDeep q) → ⊥
    by_kind None h = cc
    by_kind (Some (kind.Name x)) h = cc
    by_kind (Some (kind.Word x)) h = cc
    by_kind (Some (kind.Number x)) h = cc
    by_kind (Some (kind.Text x)) h = cc
    by_kind (Some (kind.Sign x)) h = cc

pub ident_exact : (ks : List Kind) (from k : ℕ) → nat_lt 64 k ≡ false → Exact ks from 1 Any (λ x. ident_mark k x ∷ []) Free Free (ident ks)
ident_exact ks from k fits =
    item_exact ks from k (λ x. kind.Name x.name) (λ x. x.at) (ident ks) fits (ident_is ks) (ident_ok ks) (ident_near ks)

pub number_is : (ks : List Kind) (x : NumberLiteral) (n : ℕ) → slice_get ks n ≡ Some (kind.Number x.value) → x.at ≡ n → number ks n ≡ Ok (x, suc n)
unfolding number
number_is ks x n h a = rw h (ap (λ z. Ok (record { value = x.value; at = z }, suc n)) (sym a))

pub number_ok : (ks : List Kind) (n : ℕ) (y : NumberLiteral × ℕ) → number ks n ≡ Ok y → (slice_get ks n ≡ Some (kind.Number y.0.value)) × (y.0.at ≡ n) × (suc n ≡ y.1)
unfolding number
number_ok ks n y h = by_kind (slice_get ks n) h
  where
    by_kind : (o : Option Kind) → number_in o n ≡ Ok y → (o ≡ Some (kind.Number y.0.value)) × (y.0.at ≡ n) × (suc n ≡ y.1)
    by_kind None h = cc
    by_kind (Some (kind.Number x)) h =
        let e = ok_one (record { value = x; at = n }, suc n) y h in
        (ap (λ (z : NumberLiteral × ℕ). Some (kind.Number z.0.value)) e, sym (ap (λ (z : NumberLiteral × ℕ). z.0.at) e), ap (λ (z : NumberLiteral × ℕ). z.1) e)
    by_kind (Some (kind.Word x)) h = cc
    by_kind (Some (kind.Name x)) h = cc
    by_kind (Some (kind.Text x)) h = cc
    by_kind (Some (kind.Sign x)) h = cc

pub number_near : (ks : List Kind) (n q : ℕ) → number ks n ≡ Err (TooDeep q) → ⊥
unfolding number
number_near ks n q h = by_kind (slice_get ks n) h
  where
    by_kind : (o : Option Kind) → number_in o n ≡ Err (TooDeep q) → ⊥
    by_kind None h = cc
    by_kind (Some (kind.Name x)) h = cc
    by_kind (Some (kind.Word x)) h = cc
    by_kind (Some (kind.Number x)) h = cc
    by_kind (Some (kind.Text x)) h = cc
    by_kind (Some (kind.Sign x)) h = cc

pub number_exact : (ks : List Kind) (from k : ℕ) → nat_lt 64 k ≡ false → Exact ks from 1 Any (λ x. figure k x ∷ []) Free Free (number ks)
number_exact ks from k fits =
    item_exact ks from k (λ x. kind.Number x.value) (λ x. x.at) (number ks) fits (number_is ks) (number_ok ks) (number_near ks)

text_is : (ks : List Kind) (x : TextLiteral) (n : ℕ) → slice_get ks n ≡ Some (kind.Text x.text) → x.at ≡ n → text ks n ≡ Ok (x, suc n)
unfolding text
text_is ks x n h a = rw h (ap (λ z. Ok (record { text = x.text; at = z }, suc n)) (sym a))

text_ok : (ks : List Kind) (n : ℕ) (y : TextLiteral × ℕ) → text ks n ≡ Ok y → (slice_get ks n ≡ Some (kind.Text y.0.text)) × (y.0.at ≡ n) × (suc n ≡ y.1)
unfolding text
text_ok ks n y h = by_kind (slice_get ks n) h
  where
    by_kind : (o : Option Kind) → text_in o n ≡ Ok y → (o ≡ Some (kind.Text y.0.text)) × (y.0.at ≡ n) × (suc n ≡ y.1)
    by_kind None h = cc
    by_kind (Some (kind.Text x)) h =
        let e = ok_one (record { text = x; at = n }, suc n) y h in
        (ap (λ (z : TextLiteral × ℕ). Some (kind.Text z.0.text)) e, sym (ap (λ (z : TextLiteral × ℕ). z.0.at) e), ap (λ (z : TextLiteral × ℕ). z.1) e)
    by_kind (Some (kind.Word x)) h = cc
    by_kind (Some (kind.Name x)) h = cc
    by_kind (Some (kind.Number x)) h = cc
    by_kind (Some (kind.Sign x)) h = cc

text_near : (ks : List Kind) (n q : ℕ) → text ks n ≡ Err (TooDeep q) → ⊥
unfolding text
text_near ks n q h = by_kind (slice_get ks n) h
  where
    by_kind : (o : Option Kind) → text_in o n ≡ Err (TooDeep q) → ⊥
    by_kind None h = cc
    by_kind (Some (kind.Name x)) h = cc
    by_kind (Some (kind.Word x)) h = cc
    by_kind (Some (kind.Number x)) h = cc
    by_kind (Some (kind.Text x)) h = cc
    by_kind (Some (kind.Sign x)) h = cc

pub text_exact : (ks : List Kind) (from k : ℕ) → nat_lt 64 k ≡ false → Exact ks from 1 Any (λ x. label k x ∷ []) Free Free (text ks)
text_exact ks from k fits =
    item_exact ks from k (λ x. kind.Text x.text) (λ x. x.at) (text ks) fits (text_is ks) (text_ok ks) (text_near ks)

-- a sign that ends an expression stands there
abbrev pub ClosedAt : List Kind → ℕ → Type 0
ClosedAt ks j = (s : Sign) × Closes s × (slice_get ks j ≡ Some (kind.Sign s))

pub expr_some : (k : ℕ) (e : ExprTree) → 1 ≤ length (expr k e)
expr_some k (Rattle.c_tree.specs.Tree.Number n) = omega arith
expr_some k (Rattle.c_tree.specs.Tree.Name x) = omega arith
expr_some k (Rattle.c_tree.specs.Tree.Index x e) = omega arith
expr_some k (Rattle.c_tree.specs.Tree.Deref at x) = omega arith
expr_some k (Rattle.c_tree.specs.Tree.Unary op at e) = omega arith
expr_some k (Rattle.c_tree.specs.Tree.Binary op at l r) = omega (arith, length-append (expr k l) (named_sign (operator_level k (suc (chain_of l))) (sign_of op) at ∷ expr (suc k) r))
expr_some k (Rattle.c_tree.specs.Tree.Choice at c y n) = omega (arith, length-append (expr k c) (named_sign k s.Question at ∷ (expr (suc k) y ++ (sign_mark k s.Colon ∷ expr (suc k) n))))
expr_some k (Rattle.c_tree.specs.Tree.Paren at e) = omega arith
expr_some k (Rattle.c_tree.specs.Tree.Extremum w at a b) = omega arith
expr_some k (Rattle.c_tree.specs.Tree.Absolute at e) = omega arith

-- an expression of a statement at level k, which a sign ends
pub expr_exact : (ks : List Kind) (from k d : ℕ) → suc k + d ≡ 65 → k ≤ from → Exact ks from 1 IsGrouped (λ e. expr (suc k) e) (λ e j. ClosedAt ks j) Free (read ks d 0)
expr_exact ks from k d l f = record {
  complete = λ e n j g s c.
      ended ks d 0 n (suc k) e j (complete ks e d 0 n (suc k) j l zero-le g s (ends_closed ks e j c.0 c.1 c.2)) (rest_closed ks d 0 e j c.0 c.1 c.2);
  sound = λ n y h.
      (let found = sound ks d (suc k) l 0 n zero-le y h in
      record { valid = found.whole.grouped; spans = found.whole.spans; shallow = found.whole.shallow; behind = tt });
  moves = λ n y h.
      (let found = sound ks d (suc k) l 0 n zero-le y h in
      omega (arith, spans_end ks n (expr (suc k) y.0) y.1 found.whole.spans, expr_some (suc k) y.0));
  far = λ n q b h. too_far ks d (suc k) l 0 n q zero-le (omega arith) h;
}

-- the same reader, called with more tokens before it, and with what is asked of its values said otherwise
pub turned_exact : (ks : List Kind) {A : Type 0} (from' : ℕ) {from size : ℕ} {ok ok' : A → Type 0} {marks : A → List Mark}
    {needs gives needs' gives' : A → ℕ → Type 0} {p : Reader A} → from ≤ from' → ((a : A) → ok' a → ok a) → ((a : A) → ok a → ok' a)
    → ((a : A) (e : ℕ) → needs' a e → needs a e) → ((a : A) (e : ℕ) → gives a e → gives' a e) → Exact ks from size ok marks needs gives p
    → Exact ks from' size ok' marks needs' gives' p
turned_exact ks from' l a b c d x = record {
  complete = λ v n e o s h. x.complete v n e (a v o) s (c v e h);
  sound = λ n y h.
      (let r = x.sound n y h in
      record { valid = b y.0 r.valid; spans = r.spans; shallow = r.shallow; behind = d y.0 y.1 r.behind });
  moves = x.moves;
  far = λ n q m h. x.far n q (omega arith) h;
}

-- two readers of tokens alone
pub flat : (ks : List Kind) {A B : Type 0} {from size more : ℕ} {marksA : A → List Mark} {marksB : B → List Mark} {p : Reader A}
    {q : Reader B} → Exact ks from size Any marksA Free Free p → Exact ks from more Any marksB Free Free q
    → Exact ks from (size + more) Any (λ v. marksA v.0 ++ marksB v.1) Free Free (both p q)
flat ks {from = from} {size = size} x y =
    turned_exact ks from (omega arith) (λ v o. (tt, tt)) (λ v o. tt) (λ v e h. tt) (λ v e h. tt)
    (both_exact ks from size _ _ _ _ _ _ _ _ _ _ _ x
    (turned_exact ks (from + size) (omega arith) (λ v o. o) (λ v o. o) (λ v e h. h) (λ v e h. h) y) (λ a b j e o s. tt))
