-- What is read is a tree of the tokens that were read.
use Rattle.std.proofs.Common.{◌≡◌, ℕ, zero, suc, ◌+◌, ◌≤◌, ◌<◌, Bool, true, false, cond, List, [], ◌∷◌, ◌++◌, Option, Some, None, Result, Ok, Err, refl, sym, ap, subst, ◌∙◌, arith, slice_get, nat_lt, zero-le, ◌⊎◌, inl, inr}
use Rattle.c_tree.specs.declared.lexer.tokens.Kind.{Kind}
use Rattle.c_tree.specs.declared.lexer.tokens.Kind.TheVariants as kind
use Rattle.c_tree.specs.declared.lexer.tokens.Sign.{Sign}
use Rattle.c_tree.specs.declared.lexer.tokens.Sign.TheVariants as sign
use Rattle.c_tree.specs.declared.lexer.tokens.Word.{Word}
use Rattle.c_tree.specs.declared.expressions.BinaryOp.{BinaryOp}
use Rattle.c_tree.specs.Signs.{level_of, sign_of}
use Rattle.c_tree.specs.Tree.{ExprTree, Number, Name, Index, Deref, Unary, Binary, Choice, Paren, Extremum, Absolute}
use Rattle.c_tree.specs.Print.{expr, chain_of, operator_level, sign_at as sign_mark, named_sign}
use Rattle.c_tree.specs.Grouped.{strength, IsGrouped}
use Rattle.c_tree.specs.Reads.{first_deep}
use Rattle.c_reader.specs.declared.leads.Lead.{Lead}
use Rattle.c_reader.specs.declared.leads.Lead.TheVariants as lead
use Rattle.c_reader.specs.declared.leads.WordLead.{WordLead}
use Rattle.c_reader.specs.declared.leads.WordLead.TheVariants as word_lead
use Rattle.c_reader.specs.declared.faults.Fault.{Fault}
use Rattle.c_reader.specs.declared.faults.Fault.TheVariants.{TooDeep}
use Rattle.c_reader.specs.Leads.{lead_of, word_lead_of}
use Rattle.c_reader.specs.Descent.{Step, Rec, ◌>>=◌, sign_is, sign_at, operator_at, on_operator, name_at, name_in, led_by, worded_by, front_in, front, chain, choice, read}
use Rattle.c_reader.proofs.Spans.{Spans, spans_join, deep_between, deep_closed}
use Rattle.c_reader.proofs.Steps.{level_bounds, sign_found, sign_at_ok, operator_is, operator_some, operator_beyond, sign_of_lead, sign_of_paren, sign_of_deref, word_of_extremum, word_of_absolute}
use Rattle.c_reader.proofs.Complete.{level_fits, short_chain, le_or_lt}

pub bind_ok : {A B : Type 0} (r : Result A Fault) (f : A → Result B Fault) (y : B) → (r >>= f) ≡ Ok y → (x : A) × (r ≡ Ok x) × (f x ≡ Ok y)
bind_ok (Ok x) f y h = (x, refl, h)
bind_ok (Err e) f y h = cc

pub ok_one : {A : Type 0} (a b : A) → ◌≡◌ {A = Result A Fault} (Ok a) (Ok b) → a ≡ b
ok_one a b h = cc

-- a tree of the tokens from n to e', within the levels
pub record Whole (ks : List Kind) (n k : ℕ) (e : ExprTree) (e' : ℕ) : Type 0 where
  pub spans : Spans ks n (expr k e) e'
  pub shallow : first_deep n (expr k e) ≡ None
  pub grouped : IsGrouped e

-- such a tree that binds at least as tightly as m, with no operator behind it that does
pub record Found (ks : List Kind) (m n k : ℕ) (e : ExprTree) (e' : ℕ) : Type 0 where
  pub whole : Whole ks n k e e'
  pub strong : m ≤ strength e
  pub stops : operator_at ks m e' ≡ None

-- such a tree that begins with none of its operands
pub record Fronts (ks : List Kind) (n k : ℕ) (e : ExprTree) (e' : ℕ) : Type 0 where
  pub whole : Whole ks n k e e'
  pub strong : 11 ≤ strength e
  pub single : chain_of e ≡ 0

abbrev pub Finds : List Kind → ℕ → Rec → Type 0
Finds ks k rec = (m n : ℕ) → m ≤ 11 → (y : ExprTree × ℕ) → rec m n ≡ Ok y → Found ks m n k y.0 y.1

abbrev FrontsAt : List Kind → ℕ → ℕ → ExprTree × ℕ → Type 0
FrontsAt ks n k y = Fronts ks n k y.0 y.1

module _ (ks : List Kind) (rec : Rec) (k : ℕ) (finds : Finds ks (suc k) rec) (fits : nat_lt 64 k ≡ false) where
  name_sound : (x : List ℕ) (n : ℕ) (y : ExprTree × ℕ) → slice_get ks n ≡ Some (kind.Name x) → name_at ks rec x n ≡ Ok y → Fronts ks n k y.0 y.1
  unfolding name_at
  name_sound x n y h g = by_test (sign_is sign.LeftBracket (slice_get ks (suc n))) refl g
    where
      by_test : (t : Bool) → sign_is sign.LeftBracket (slice_get ks (suc n)) ≡ t
          → cond t (rec 0 (suc (suc n)) >>= λ i. sign_at ks sign.RightBracket i.1 >>= λ e. Ok (Index (record { name = x; at = n }) i.0, e))
          (Ok (Name (record { name = x; at = n }), suc n)) ≡ Ok y → Fronts ks n k y.0 y.1
      by_test true b g =
          let r = bind_ok (rec 0 (suc (suc n))) _ y g in
          let i = r.0 in
          let t = bind_ok (sign_at ks sign.RightBracket i.1) _ y r.2 in
          let c = sign_at_ok ks sign.RightBracket i.1 t.0 t.1 in
          let inner = (finds 0 (suc (suc n)) zero-le i r.1).whole in
          let made : Fronts ks n k (Index (record { name = x; at = n }) i.0) t.0 = record {
            whole = record {
              spans = (
                h,
                refl,
                (
                  sign_found sign.LeftBracket (slice_get ks (suc n)) b,
                  tt,
                  spans_join ks (suc (suc n)) (expr (suc k) i.0) (sign_mark k sign.RightBracket ∷ []) i.1 t.0 inner.spans
                      (c.0, tt, sym c.1),
                ),
              );
              shallow = rw (fits, deep_closed ks (suc (suc n)) (expr (suc k) i.0) (sign_mark k sign.RightBracket) i.1 inner.spans fits) inner.shallow;
              grouped = inner.grouped;
            };
            strong = omega arith;
            single = refl;
          } in
          subst (FrontsAt ks n k) (ok_one (Index (record { name = x; at = n }) i.0, t.0) y t.2) made
      by_test false b g =
          let made : Fronts ks n k (Name (record { name = x; at = n })) (suc n) = record {
            whole = record {
              spans = (h, refl, refl);
              shallow = rw fits refl;
              grouped = tt;
            };
            strong = omega arith;
            single = refl;
          } in
          subst (FrontsAt ks n k) (ok_one (Name (record { name = x; at = n }), suc n) y g) made

  deref_sound : (n : ℕ) (y : ExprTree × ℕ) (o : Option Kind) → slice_get ks n ≡ Some (kind.Sign sign.Star) → slice_get ks (suc n) ≡ o
      → (name_in o (suc n) >>= λ x. Ok (Deref n (record { name = x; at = suc n }), suc (suc n))) ≡ Ok y → Fronts ks n k y.0 y.1
  deref_sound n y None h o g = cc
  deref_sound n y (Some (kind.Name x)) h o g =
      let made : Fronts ks n k (Deref n (record { name = x; at = suc n })) (suc (suc n)) = record {
        whole = record {
          spans = (h, refl, (o, refl, refl));
          shallow = rw fits refl;
          grouped = tt;
        };
        strong = omega arith;
        single = refl;
      } in
      subst (FrontsAt ks n k) (ok_one (Deref n (record { name = x; at = suc n }), suc (suc n)) y g) made
  deref_sound n y (Some (kind.Word x)) h o g = cc
  deref_sound n y (Some (kind.Number x)) h o g = cc
  deref_sound n y (Some (kind.Text x)) h o g = cc
  deref_sound n y (Some (kind.Sign x)) h o g = cc

  led_sound : (n : ℕ) (y : ExprTree × ℕ) (s : Sign) (l : Lead) → lead_of s ≡ l → slice_get ks n ≡ Some (kind.Sign s) → led_by ks rec l n ≡ Ok y → Fronts ks n k y.0 y.1
  led_sound n y s lead.Paren l h g =
      let r = bind_ok (rec 0 (suc n)) _ y g in
      let i = r.0 in
      let t = bind_ok (sign_at ks sign.RightParen i.1) _ y r.2 in
      let c = sign_at_ok ks sign.RightParen i.1 t.0 t.1 in
      let inner = (finds 0 (suc n) zero-le i r.1).whole in
      let made : Fronts ks n k (Paren n i.0) t.0 = record {
        whole = record {
          spans = (h ∙ ap (λ x. Some (kind.Sign x)) (sign_of_paren s l), refl, spans_join ks (suc n) (expr (suc k) i.0) (sign_mark k sign.RightParen ∷ []) i.1 t.0 inner.spans (c.0, tt, sym c.1));
          shallow = rw (fits, deep_closed ks (suc n) (expr (suc k) i.0) (sign_mark k sign.RightParen) i.1 inner.spans fits) inner.shallow;
          grouped = inner.grouped;
        };
        strong = omega arith;
        single = refl;
      } in
      subst (FrontsAt ks n k) (ok_one (Paren n i.0, t.0) y t.2) made
  led_sound n y s lead.Deref l h g =
      deref_sound n y (slice_get ks (suc n)) (h ∙ ap (λ x. Some (kind.Sign x)) (sign_of_deref s l)) refl g
  led_sound n y s (lead.Unary op) l h g =
      let r = bind_ok (rec 11 (suc n)) _ y g in
      let i = r.0 in
      let inner = finds 11 (suc n) (omega arith) i r.1 in
      let made : Fronts ks n k (Unary op n i.0) i.1 = record {
        whole = record {
          spans = (h ∙ ap (λ x. Some (kind.Sign x)) (sign_of_lead s op l), refl, inner.whole.spans);
          shallow = rw fits inner.whole.shallow;
          grouped = (inner.strong, inner.whole.grouped);
        };
        strong = omega arith;
        single = refl;
      } in
      subst (FrontsAt ks n k) (ok_one (Unary op n i.0, i.1) y r.2) made
  led_sound n y s lead.Nothing l h g = cc

  worded_sound : (n : ℕ) (y : ExprTree × ℕ) (s : Word) (l : WordLead) → word_lead_of s ≡ l → slice_get ks n ≡ Some (kind.Word s) → worded_by ks rec l n ≡ Ok y → Fronts ks n k y.0 y.1
  worded_sound n y s (word_lead.Extremum w) l h g =
      let o = bind_ok (sign_at ks sign.LeftParen (suc n)) _ y g in
      let oc = sign_at_ok ks sign.LeftParen (suc n) o.0 o.1 in
      let a = bind_ok (rec 0 o.0) _ y o.2 in
      let c = bind_ok (sign_at ks sign.Comma a.0.1) _ y a.2 in
      let cc' = sign_at_ok ks sign.Comma a.0.1 c.0 c.1 in
      let b = bind_ok (rec 0 c.0) _ y c.2 in
      let d = bind_ok (sign_at ks sign.RightParen b.0.1) _ y b.2 in
      let dc = sign_at_ok ks sign.RightParen b.0.1 d.0 d.1 in
      let first : Whole ks (suc (suc n)) (suc k) a.0.0 a.0.1 = subst (λ z. Whole ks z (suc k) a.0.0 a.0.1) oc.1 (finds 0 o.0 zero-le a.0 a.1).whole in
      let second : Whole ks (suc a.0.1) (suc k) b.0.0 b.0.1 = subst (λ z. Whole ks z (suc k) b.0.0 b.0.1) cc'.1 (finds 0 c.0 zero-le b.0 b.1).whole in
      let tail = expr (suc k) b.0.0 ++ sign_mark k sign.RightParen ∷ [] in
      let ends : Spans ks (suc a.0.1) tail d.0 = spans_join ks (suc a.0.1) (expr (suc k) b.0.0) (sign_mark k sign.RightParen ∷ []) b.0.1 d.0 second.spans (dc.0, tt, sym dc.1) in
      let made : Fronts ks n k (Extremum w n a.0.0 b.0.0) d.0 = record {
        whole = record {
          spans = (
            h ∙ ap (λ x. Some (kind.Word x)) (word_of_extremum s w l),
            refl,
            (
              oc.0,
              tt,
              spans_join ks (suc (suc n)) (expr (suc k) a.0.0) (sign_mark k sign.Comma ∷ tail) a.0.1 d.0 first.spans
                  (cc'.0, tt, ends),
            ),
          );
          shallow = rw (
            fits,
            deep_between ks (suc (suc n)) (expr (suc k) a.0.0) (sign_mark k sign.Comma) tail a.0.1 first.spans fits,
            deep_closed ks (suc a.0.1) (expr (suc k) b.0.0) (sign_mark k sign.RightParen) b.0.1 second.spans fits,
            first.shallow,
            second.shallow,
          ) refl;
          grouped = (first.grouped, second.grouped);
        };
        strong = omega arith;
        single = refl;
      } in
      subst (FrontsAt ks n k) (ok_one (Extremum w n a.0.0 b.0.0, d.0) y d.2) made
  worded_sound n y s word_lead.Absolute l h g =
      let o = bind_ok (sign_at ks sign.LeftParen (suc n)) _ y g in
      let oc = sign_at_ok ks sign.LeftParen (suc n) o.0 o.1 in
      let a = bind_ok (rec 0 o.0) _ y o.2 in
      let d = bind_ok (sign_at ks sign.RightParen a.0.1) _ y a.2 in
      let dc = sign_at_ok ks sign.RightParen a.0.1 d.0 d.1 in
      let first : Whole ks (suc (suc n)) (suc k) a.0.0 a.0.1 = subst (λ z. Whole ks z (suc k) a.0.0 a.0.1) oc.1 (finds 0 o.0 zero-le a.0 a.1).whole in
      let made : Fronts ks n k (Absolute n a.0.0) d.0 = record {
        whole = record {
          spans = (
            h ∙ ap (λ x. Some (kind.Word x)) (word_of_absolute s l),
            refl,
            (
              oc.0,
              tt,
              spans_join ks (suc (suc n)) (expr (suc k) a.0.0) (sign_mark k sign.RightParen ∷ []) a.0.1 d.0 first.spans
                  (dc.0, tt, sym dc.1),
            ),
          );
          shallow = rw (fits, deep_closed ks (suc (suc n)) (expr (suc k) a.0.0) (sign_mark k sign.RightParen) a.0.1 first.spans fits) first.shallow;
          grouped = first.grouped;
        };
        strong = omega arith;
        single = refl;
      } in
      subst (FrontsAt ks n k) (ok_one (Absolute n a.0.0, d.0) y d.2) made
  worded_sound n y s word_lead.Nothing l h g = cc

  front_in_sound : (n : ℕ) (y : ExprTree × ℕ) (o : Option Kind) → slice_get ks n ≡ o → front_in ks rec o n ≡ Ok y → Fronts ks n k y.0 y.1
  front_in_sound n y None h g = cc
  front_in_sound n y (Some (kind.Number v)) h g =
      let made : Fronts ks n k (Number (record { value = v; at = n })) (suc n) = record {
        whole = record {
          spans = (h, refl, refl);
          shallow = rw fits refl;
          grouped = tt;
        };
        strong = omega arith;
        single = refl;
      } in
      subst (FrontsAt ks n k) (ok_one (Number (record { value = v; at = n }), suc n) y g) made
  front_in_sound n y (Some (kind.Name x)) h g = name_sound x n y h g
  front_in_sound n y (Some (kind.Sign s)) h g = led_sound n y s (lead_of s) refl h g
  front_in_sound n y (Some (kind.Word w)) h g = worded_sound n y w (word_lead_of w) refl h g
  front_in_sound n y (Some (kind.Text t)) h g = cc

  pub front_sound : (n : ℕ) (y : ExprTree × ℕ) → front ks rec n ≡ Ok y → Fronts ks n k y.0 y.1
  unfolding front
  front_sound n y g = front_in_sound n y (slice_get ks n) refl g

-- What has been read before more operators: a tree that starts at s, after which none stands that binds more tightly.
pub record Held (ks : List Kind) (m s k : ℕ) (e : ExprTree) (e' : ℕ) : Type 0 where
  pub whole : Whole ks s k e e'
  pub strong : m ≤ strength e
  pub lowest : 1 ≤ strength e
  pub stops : operator_at ks (suc (strength e)) e' ≡ None

pub record Chained (ks : List Kind) (m s k : ℕ) (e : ExprTree) (e' : ℕ) : Type 0 where
  pub held : Held ks m s k e e'
  pub stops : operator_at ks m e' ≡ None

abbrev ChainedAt : List Kind → ℕ → ℕ → ℕ → ExprTree × ℕ → Type 0
ChainedAt ks m s k y = Chained ks m s k y.0 y.1

module _ (ks : List Kind) (rec : Rec) (k d : ℕ) (finds : Finds ks (suc k) rec) (room : k + suc d ≡ 65) where
  chain_ends : (m s : ℕ) (l : ExprTree) (n : ℕ) (y : ExprTree × ℕ) → Held ks m s k l n → operator_at ks m n ≡ None → ◌≡◌ {A = Step} (Ok (l, n)) (Ok y) → Chained ks m s k y.0 y.1
  chain_ends m s l n y h o g =
      let made : Chained ks m s k l n = record { held = h; stops = o } in
      subst (ChainedAt ks m s k) (ok_one (l, n) y g) made

  pub held_more : (m s : ℕ) (l : ExprTree) (n : ℕ) (op : BinaryOp) (x : ExprTree × ℕ) → chain_of l < 128 → Held ks m s k l n
      → operator_at ks m n ≡ Some op → rec (suc (level_of op)) (suc n) ≡ Ok x → Held ks m s k (Binary op n l x.0) x.1
  held_more m s l n op x c h o g =
      let r = operator_some ks m n op o in
      let right = finds (suc (level_of op)) (suc n) (omega (arith, (level_bounds op).1)) x g in
      let mark = named_sign (operator_level k (suc (chain_of l))) (sign_of op) n in
      record {
        whole = record {
          spans = spans_join ks s (expr k l) (mark ∷ expr (suc k) x.0) n x.1 h.whole.spans (r.0, refl, right.whole.spans);
          shallow = rw (deep_between ks s (expr k l) mark (expr (suc k) x.0) n h.whole.spans (short_chain k d (chain_of l) room c), h.whole.shallow, right.whole.shallow) refl;
          grouped = (tighter l n h op r.0, right.strong, h.whole.grouped, right.whole.grouped);
        };
        strong = r.1;
        lowest = (level_bounds op).0;
        stops = right.stops;
      }
    where
      tighter : (l : ExprTree) (n : ℕ) → Held ks m s k l n → (op : BinaryOp) → slice_get ks n ≡ Some (kind.Sign (sign_of op)) → level_of op ≤ strength l
      tighter l n h op g = either (le_or_lt (level_of op) (strength l))
        where
          either : (level_of op ≤ strength l) ⊎ (strength l < level_of op) → level_of op ≤ strength l
          either (inl x) = x
          either (inr x) =
              let here : operator_at ks (suc (strength l)) n ≡ Some op = operator_is ks (suc (strength l)) n op g x in
              let none : operator_at ks (suc (strength l)) n ≡ None = h.stops in
              cc

  pub chain_sound : (c m s : ℕ) (l : ExprTree) (n : ℕ) (y : ExprTree × ℕ) → c + chain_of l ≡ 128 → Held ks m s k l n → chain ks rec c m l n ≡ Ok y → Chained ks m s k y.0 y.1
  unfolding chain
  chain_sound zero m s l n y c h g = by_operator (operator_at ks m n) refl g
    where
      by_operator : (o : Option BinaryOp) → operator_at ks m n ≡ o → on_operator {A = Step} o (Ok (l, n)) (λ op. Err (TooDeep n)) ≡ Ok y → Chained ks m s k y.0 y.1
      by_operator None o g = chain_ends m s l n y h o g
      by_operator (Some op) o g = cc
  chain_sound (suc c) m s l n y b h g =
      chain_more (chain ks rec c m) (λ x op i t. chain_sound c m s (Binary op n l x.0) x.1 y (omega (arith, b)) i t) (operator_at ks m n) refl g
    where
      chain_more : (go : ExprTree → ℕ → Step) →
          ((x : ExprTree × ℕ) → (op : BinaryOp) → Held ks m s k (Binary op n l x.0) x.1 → go (Binary op n l x.0) x.1 ≡ Ok y
          → Chained ks m s k y.0 y.1) → (o : Option BinaryOp) → operator_at ks m n ≡ o
          → on_operator {A = Step} o (Ok (l, n)) (λ op. rec (suc (level_of op)) (suc n) >>= λ x. go (Binary op n l x.0) x.1) ≡ Ok y
          → Chained ks m s k y.0 y.1
      chain_more go next None o g = chain_ends m s l n y h o g
      chain_more go next (Some op) o g =
          let r = bind_ok (rec (suc (level_of op)) (suc n)) _ y g in
          next r.0 op (held_more m s l n op r.0 (omega (arith, b)) h o r.1) r.2

  choice_sound : (m s : ℕ) (l : ExprTree) (n : ℕ) (y : ExprTree × ℕ) → Chained ks m s k l n → choice ks rec m l n ≡ Ok y → Found ks m s k y.0 y.1
  unfolding choice
  choice_sound zero s l n y h g = by_test (sign_is sign.Question (slice_get ks n)) refl g
    where
      by_test : (t : Bool) → sign_is sign.Question (slice_get ks n) ≡ t
          → cond t (rec 0 (suc n) >>= λ y. sign_at ks sign.Colon y.1 >>= λ e. rec 0 e >>= λ z. Ok (Choice n l y.0 z.0, z.1)) (Ok (l, n)) ≡
          Ok y → Found ks 0 s k y.0 y.1
      by_test true t g =
          let a = bind_ok (rec 0 (suc n)) _ y g in
          let c = bind_ok (sign_at ks sign.Colon a.0.1) _ y a.2 in
          let cs = sign_at_ok ks sign.Colon a.0.1 c.0 c.1 in
          let b = bind_ok (rec 0 c.0) _ y c.2 in
          let first = (finds 0 (suc n) zero-le a.0 a.1).whole in
          let second : Found ks 0 (suc a.0.1) (suc k) b.0.0 b.0.1 = subst (λ z. Found ks 0 z (suc k) b.0.0 b.0.1) cs.1 (finds 0 c.0 zero-le b.0 b.1) in
          let fits = level_fits k d room in
          let tail = expr (suc k) a.0.0 ++ (sign_mark k sign.Colon ∷ expr (suc k) b.0.0) in
          let ends : Spans ks (suc n) tail b.0.1 = spans_join ks (suc n) (expr (suc k) a.0.0) (sign_mark k sign.Colon ∷ expr (suc k) b.0.0) a.0.1 b.0.1 first.spans (cs.0, tt, second.whole.spans) in
          let made : Found ks 0 s k (Choice n l a.0.0 b.0.0) b.0.1 = record {
            whole = record {
              spans = spans_join ks s (expr k l) (named_sign k sign.Question n ∷ tail) n b.0.1 h.held.whole.spans (sign_found sign.Question (slice_get ks n) t, refl, ends);
              shallow = rw (
                deep_between ks s (expr k l) (named_sign k sign.Question n) tail n h.held.whole.spans fits,
                deep_between ks (suc n) (expr (suc k) a.0.0) (sign_mark k sign.Colon) (expr (suc k) b.0.0) a.0.1 first.spans fits,
                h.held.whole.shallow,
                first.shallow,
                second.whole.shallow,
              ) refl;
              grouped = (h.held.lowest, h.held.whole.grouped, first.grouped, second.whole.grouped);
            };
            strong = zero-le;
            stops = second.stops;
          } in
          subst (λ y. Found ks 0 s k y.0 y.1) (ok_one (Choice n l a.0.0 b.0.0, b.0.1) y b.2) made
      by_test false t g =
          let made : Found ks 0 s k l n = record { whole = h.held.whole; strong = zero-le; stops = h.stops } in
          subst (λ y. Found ks 0 s k y.0 y.1) (ok_one (l, n) y g) made
  choice_sound (suc m) s l n y h g =
      let made : Found ks (suc m) s k l n = record { whole = h.held.whole; strong = h.held.strong; stops = h.stops } in
      subst (λ y. Found ks (suc m) s k y.0 y.1) (ok_one (l, n) y g) made

-- What is read is a tree of its tokens. No level above that of a unary operator is asked for.
pub sound : (ks : List Kind) (d k : ℕ) → k + d ≡ 65 → Finds ks k (read ks d)
unfolding read
sound ks zero k l m n b y g = cc
sound ks (suc d) k l m n b y g =
    let inner = sound ks d (suc k) (omega (arith, l)) in
    let f = bind_ok (front ks (read ks d) n) _ y g in
    let front = front_sound ks (read ks d) k inner (level_fits k d l) n f.0 f.1 in
    let c = bind_ok (chain ks (read ks d) 128 m f.0.0 f.0.1) _ y f.2 in
    let held : Held ks m n k f.0.0 f.0.1 = record {
      whole = front.whole;
      strong = omega (arith, front.strong);
      lowest = omega (arith, front.strong);
      stops = operator_beyond ks (suc (strength f.0.0)) f.0.1 (omega (arith, front.strong));
    } in
    let chained = chain_sound ks (read ks d) k d inner l 128 m n f.0.0 f.0.1 c.0 (omega (arith, front.single)) held c.1 in
    choice_sound ks (read ks d) k d inner l m n c.0.0 c.0.1 y chained c.2
