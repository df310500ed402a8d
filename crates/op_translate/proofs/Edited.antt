-- Which edits begin with the tokens of sites, and which tokens are refused.
use Rattle.std.proofs.Common.{◌≡◌, ℕ, ◌+◌, Bool, true, false, cond, List, [], ◌∷◌, ◌++◌, length, Option, Some, None, find, refl, ap, ◌∙◌, length-append, arith}
use Rattle.std.specs.Prelude.{codes, is_none, option_map}
use Rattle.std.specs.Str.{bytes_eq}
use Rattle.std.proofs.lemmas.Slice.Eq.{bytes_eq-Decides}
use Rattle.c_tree.specs.declared.lexer.tokens.Kind.{Kind}
use Rattle.c_tree.specs.declared.lexer.tokens.Kind.TheVariants as kind
use Rattle.c_tree.specs.declared.lexer.tokens.Pos.{Pos}
use Rattle.c_tree.specs.declared.lexer.tokens.Sign.TheVariants as sign
use Rattle.c_tree.specs.declared.lexer.tokens.Word.{Word}
use Rattle.c_tree.specs.declared.lexer.tokens.Word.TheVariants as word
use Rattle.c_tree.specs.declared.lexer.tokens.Token.{Token}
use Rattle.c_tree.specs.declared.lexer.spelling.TheConstants.{WORDS}
use Rattle.c_tree.specs.Spelling.{word_spelling}
use Rattle.c_tree.specs.Lexed.{advance, Part, Passed, Spelled, all_bytes, tokens_of}
use Rattle.op_translate.specs.declared.refusals.TransRefusal.{TransRefusal}
use Rattle.op_translate.specs.declared.refusals.TransRefusal.TheVariants.{NameTaken, NoCall}
use Rattle.op_translate.specs.Edits.{Edit, with_edit, edits}
use Rattle.op_translate.specs.Translation.{prefix, begins, is_name, kernel_in, to_stub, to_call, or_else, first_refusal, taken, refuses_stub, uncalled, refuses_call}
use Rattle.op_translate.proofs.Quiet.{is_loop, is_taken, no_stub, no_call}
use Rattle.op_translate.proofs.Patches.{all_bytes-append, olds}
use Rattle.op_translate.proofs.Calls.{gaps, paren_part, comma_part, name_part, call_parts, stub_parts, IsKernel}
use Rattle.op_translate.proofs.Made.{NoEdit, OneEdit, AreEdits}
use Rattle.op_translate.proofs.Sites.{part_kinds, NoneTaken, Site, Other, Called, forward, backward, IsOther, AreSites, call_row}
use Rattle.lemmas.proofs.Lists.{find_passes}
use Rattle.std.proofs.lemmas.Bool.{true≢false}

-- ---- the tokens of a call

abbrev token : Kind → ℕ → ℕ → Pos → Token
token k n m p = record { kind = k; from = n; to = m; at = p }

tokens_over : (n : ℕ) (p : Pos) (g : List (List ℕ)) (more : List Part) → (q : Pos) × (tokens_of n p (gaps g ++ more) ≡ tokens_of (n + length (all_bytes (gaps g))) q more)
tokens_over n p [] more = (p, ap (λ z. tokens_of z p more) (let e : n ≡ n + 0 = omega arith in e))
tokens_over n p (s ∷ g) more =
    let r = tokens_over (n + length s) (advance p s) g more in
    let far : n + length s + length (all_bytes (gaps g)) ≡ n + length (s ++ all_bytes (gaps g)) = omega (arith, length-append s (all_bytes (gaps g))) in
    (r.0, r.1 ∙ ap (λ z. tokens_of z r.0 more) far)

-- the four tokens of a call of so many bytes, and those behind it
pub record Four (x : List ℕ) (n : ℕ) (p : Pos) (size : ℕ) (more : List Part) (ts : List Token) : Type 0 where
  pub paren : ℕ
  pub name : ℕ
  pub comma : ℕ
  pub paren_at : Pos
  pub name_at : Pos
  pub comma_at : Pos
  pub behind : Pos
  pub is : ts
      ≡ token (kind.Word word.OpParLoop) n (n + 11) p ∷ token (kind.Sign sign.LeftParen) paren (paren + 1) paren_at ∷ token (kind.Name x) name (name + length x) name_at
      ∷ token (kind.Sign sign.Comma) comma (n + size) comma_at ∷ tokens_of (n + size) behind more

call_size : (x : List ℕ) (f g h : List (List ℕ)) → length (all_bytes (call_parts x f g h)) ≡ 11 +
    (length (all_bytes (gaps f)) + (1 + (length (all_bytes (gaps g)) + (length x + (length (all_bytes (gaps h)) + 1)))))
call_size x f g h =
    let third : List Part = gaps h ++ comma_part ∷ [] in
    let second : List Part = gaps g ++ name_part x ∷ third in
    let e1 = ap length (over f (paren_part ∷ second)) in
    let e2 = ap length (over g (name_part x ∷ third)) in
    let e3 = ap length (over h (comma_part ∷ [])) in
    omega (
      arith,
      e1,
      e2,
      e3,
      length-append (all_bytes (gaps f))
          (codes "(" ++ all_bytes second),
      length-append (all_bytes (gaps g)) (x ++ all_bytes third),
      length-append x (all_bytes third),
      length-append (all_bytes (gaps h)) (codes ","),
    )
  where
    over : (g : List (List ℕ)) (ps : List Part) → all_bytes (gaps g ++ ps) ≡ all_bytes (gaps g) ++ all_bytes ps
    over g ps = all_bytes-append (gaps g) ps

four : (x : List ℕ) (f g h : List (List ℕ)) (n : ℕ) (p : Pos) (more : List Part) → Four x n p (length (all_bytes (call_parts x f g h))) more (tokens_of n p (call_parts x f g h ++ more))
four x f g h n p more =
    let third : List Part = gaps h ++ comma_part ∷ more in
    let second : List Part = gaps g ++ name_part x ∷ third in
    let size : ℕ = length (all_bytes (call_parts x f g h)) in
    let o = tokens_over (n + 11) (advance p (codes "op_par_loop")) f (paren_part ∷ second) in
    let paren : ℕ = n + 11 + length (all_bytes (gaps f)) in
    let u = tokens_over (paren + 1) (advance o.0 (codes "(")) g (name_part x ∷ third) in
    let name : ℕ = paren + 1 + length (all_bytes (gaps g)) in
    let v = tokens_over (name + length x) (advance u.0 x) h (comma_part ∷ more) in
    let comma : ℕ = name + length x + length (all_bytes (gaps h)) in
    let end : comma + 1 ≡ n + size = omega (arith, call_size x f g h) in
    record {
      paren = paren;
      name = name;
      comma = comma;
      paren_at = o.0;
      name_at = u.0;
      comma_at = v.0;
      behind = advance v.0 (codes ",");
      is = ap (tokens_of n p) (call_row x f g h more)
          ∙ ap (λ z. token (kind.Word word.OpParLoop) n (n + 11) p ∷ z) (o.1
          ∙ ap (λ z. token (kind.Sign sign.LeftParen) paren (paren + 1) o.0 ∷ z) (u.1
          ∙ ap (λ z. token (kind.Name x) name (name + length x) u.0 ∷ z) (v.1
          ∙ ap (λ e. token (kind.Sign sign.Comma) comma e v.0 ∷ tokens_of e (advance v.0 (codes ",")) more) end)));
    }

-- ---- the edits

one_stub : (x : List ℕ) (f g h : List (List ℕ)) → OneEdit to_stub (call_parts x f g h) (stub_parts x)
one_stub x f g h n p more =
    let size : ℕ = length (all_bytes (call_parts x f g h)) in
    let r = four x f g h n p more in
    let ts : List Token = tokens_of (n + size) r.behind more in
    let b : Token = token (kind.Sign sign.LeftParen) r.paren (r.paren + 1) r.paren_at in
    let c : Token = token (kind.Name x) r.name (r.name + length x) r.name_at in
    let d : Token = token (kind.Sign sign.Comma) r.comma (n + size) r.comma_at in
    let made : List ℕ → Edit = λ z. record { from = n; to = n + size; text = z } in
    let text : List ℕ = prefix ++ x ++ codes "(" in (
      r.behind,
      ap (edits to_stub) r.is
          ∙ (ap (λ z. made text ∷ with_edit z (with_edit (to_stub (c ∷ d ∷ ts)) (with_edit (to_stub (d ∷ ts)) (edits to_stub ts)))) (no_stub b (c ∷ d ∷ ts) refl)
          ∙ (ap (λ z. made text ∷ with_edit z (with_edit (to_stub (d ∷ ts)) (edits to_stub ts))) (no_stub c (d ∷ ts) refl)
          ∙ ap (λ z. made text ∷ with_edit z (edits to_stub ts)) (no_stub d ts refl))),
    )

is_named : (x : List ℕ) → IsKernel x → is_name x ≡ true
is_named [] k = absurd k.named
is_named (c ∷ cs) k =
    let free : is_none (find (λ w. bytes_eq (c ∷ cs) (word_spelling w)) WORDS) ≡ true = by_word (find (λ w. bytes_eq (c ∷ cs) (word_spelling w)) WORDS) refl in
    rw (k.named.0, k.named.1, free) refl
  where
    by_word : (o : Option Word) → find (λ w. bytes_eq (c ∷ cs) (word_spelling w)) WORDS ≡ o → is_none o ≡ true
    by_word None e = refl
    by_word (Some w) e =
        absurd (k.free w ((bytes_eq-Decides (c ∷ cs) (word_spelling w)).0 (find_passes (λ z. bytes_eq (c ∷ cs) (word_spelling z)) WORDS w e)))

kernel_found : (x : List ℕ) → IsKernel x → kernel_in (prefix ++ x) ≡ Some x
kernel_found x k = ap (λ t. cond t (Some x) None) (is_named x k)

-- the tokens of a stub's call
stub_begun : (x : List ℕ) → IsKernel x → (n : ℕ) (p q : Pos) (m : ℕ) (ts : List Token)
    → to_call (token (kind.Name (prefix ++ x)) n (n + length (prefix ++ x)) p
    ∷ token (kind.Sign sign.LeftParen) (n + length (prefix ++ x)) m q ∷ ts) ≡ Some
    (record { from = n; to = m; text = codes "op_par_loop(" ++ (x ++ codes ",") })
stub_begun x k n p q m ts = ap (option_map (λ z. record { from = n; to = m; text = codes "op_par_loop(" ++ (z ++ codes ",") })) (kernel_found x k)

stub_size : (x : List ℕ) (n : ℕ) → n + length (prefix ++ x) + 1 ≡ n + length (all_bytes (stub_parts x))
stub_size x n = omega (arith, length-append (prefix ++ x) (codes "("))

one_call : (x : List ℕ) → IsKernel x → OneEdit to_call (stub_parts x) (call_parts x [] [] [])
one_call x k n p more =
    let m : ℕ = n + length (prefix ++ x) in
    let mid : Pos = advance p (prefix ++ x) in
    let q : Pos = advance mid (codes "(") in
    let a : Token = token (kind.Name (prefix ++ x)) n m p in
    let b : Token = token (kind.Sign sign.LeftParen) m (m + 1) mid in
    let ts : List Token = tokens_of (m + 1) q more in
    let text : List ℕ = codes "op_par_loop(" ++ (x ++ codes ",") in (
      q,
      ap (λ z. with_edit z (with_edit (to_call (b ∷ ts)) (edits to_call ts))) (stub_begun x k n p mid (m + 1) ts)
          ∙ (ap (λ z. record { from = n; to = m + 1; text = text } ∷ with_edit z (edits to_call ts)) (no_call b ts refl)
          ∙ ap (λ z. record { from = n; to = z; text = text } ∷ edits to_call (tokens_of z q more)) (stub_size x n)),
    )

no_stub_at : (p : Part) → IsOther p → NoEdit to_stub p
no_stub_at (Passed s) h = tt
no_stub_at (Spelled k s) h = λ t ts e. no_stub t ts (ap is_loop e ∙ h.0)

no_call_at : (p : Part) → IsOther p → NoEdit to_call p
no_call_at (Passed s) h = tt
no_call_at (Spelled k s) h = λ t ts e. no_call t ts (ap is_taken e ∙ h.1)

pub forward_edits : (ss : List Site) → AreSites ss → AreEdits to_stub (forward ss)
forward_edits [] h = tt
forward_edits (Other p ∷ ss) h = (no_stub_at p h.0, forward_edits ss h.1)
forward_edits (Called x f g k ∷ ss) h = (one_stub x f g k, forward_edits ss h.1)

pub backward_edits : (ss : List Site) → AreSites ss → AreEdits to_call (backward ss)
backward_edits [] h = tt
backward_edits (Other p ∷ ss) h = (no_call_at p h.0, backward_edits ss h.1)
backward_edits (Called x f g k ∷ ss) h = (one_call x h.0, backward_edits ss h.1)

-- ---- the refusals

uncalled_quiet : (k : Kind) (at : Pos) (o : Option Edit) → is_loop k ≡ false → is_taken k ≡ false → uncalled k at o ≡ None
uncalled_quiet (kind.Word word.OpParLoop) at o f g = absurd (true≢false f)
uncalled_quiet (kind.Word _) at o f g = refl
uncalled_quiet (kind.Name x) at None f g = ap (λ t. cond t (Some (NoCall at)) None) g
uncalled_quiet (kind.Name x) at (Some e) f g = refl
uncalled_quiet (kind.Number z) at o f g = refl
uncalled_quiet (kind.Text t) at o f g = refl
uncalled_quiet (kind.Sign s) at o f g = refl

-- Nothing is refused where each stub is called.
pub none_refused : (ss : List Site) → AreSites ss → (n : ℕ) (p : Pos) → first_refusal refuses_call (tokens_of n p (olds (backward ss))) ≡ None
none_refused [] h n p = refl
none_refused (Other (Passed s) ∷ ss) h n p = none_refused ss h.1 (n + length s) (advance p s)
none_refused (Other (Spelled k s) ∷ ss) h n p =
    let ts : List Token = tokens_of (n + length s) (advance p s) (olds (backward ss)) in
    ap (λ z. or_else z (first_refusal refuses_call ts)) (uncalled_quiet k p (to_call (token k n (n + length s) p ∷ ts)) h.0.0 h.0.1)
    ∙ none_refused ss h.1 (n + length s) (advance p s)
none_refused (Called x f g k ∷ ss) h n p =
    let m : ℕ = n + length (prefix ++ x) in
    let mid : Pos = advance p (prefix ++ x) in
    let q : Pos = advance mid (codes "(") in
    let ts : List Token = tokens_of (m + 1) q (olds (backward ss)) in
    ap (λ z. or_else (uncalled (kind.Name (prefix ++ x)) p z) (first_refusal refuses_call ts)) (stub_begun x h.0 n p mid (m + 1) ts) ∙ none_refused ss h.1 (m + 1) q

or_none : (a b : Option TransRefusal) → or_else a b ≡ None → (a ≡ None) × (b ≡ None)
or_none None b e = (refl, e)
or_none (Some r) b e = let q : ⊥ = cc in absurd q

taken_none : (k : Kind) (at : Pos) → taken k at ≡ None → is_taken k ≡ false
taken_none (kind.Name x) at e = by_test (begins x) e
  where
    by_test : (t : Bool) → cond t (Some (NameTaken at)) None ≡ None → t ≡ false
    by_test true e = let q : ⊥ = cc in absurd q
    by_test false e = refl
taken_none (kind.Word w) at e = refl
taken_none (kind.Number z) at e = refl
taken_none (kind.Text t) at e = refl
taken_none (kind.Sign s) at e = refl

-- Where nothing is refused, no name is taken.
pub none_taken : (xs : List Part) (n : ℕ) (p : Pos) → first_refusal refuses_stub (tokens_of n p xs) ≡ None → NoneTaken (part_kinds xs)
none_taken [] n p e = tt
none_taken (Passed s ∷ xs) n p e = none_taken xs (n + length s) (advance p s) e
none_taken (Spelled k s ∷ xs) n p e =
    let q = or_none (taken k p) (first_refusal refuses_stub (tokens_of (n + length s) (advance p s) xs)) e in
    (taken_none k p q.0, none_taken xs (n + length s) (advance p s) q.1)
