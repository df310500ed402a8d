-- The tokens of a source, and the edits that begin with them, stand in order within its bytes.
use Rattle.std.proofs.Common.{◌≡◌, ℕ, ◌+◌, ◌≤◌, Bool, true, false, List, [], ◌∷◌, ◌++◌, length, Option, Some, None, Ok, refl, sym, ap, subst, ◌∙◌, length-append, arith}
use Rattle.std.specs.Prelude.{option_map, codes}
use Rattle.c_tree.specs.declared.lexer.tokens.Pos.{Pos}
use Rattle.c_tree.specs.declared.lexer.tokens.Token.{Token}
use Rattle.c_tree.specs.Lexed.{advance, start, Stop, AtEnd, AtBadByte, AtOpenComment, AtOpenText, AtNumberTooLarge, Part, Passed, Spelled, is_fresh_behind, is_number_part, AreParts, tokens_of, Outcome, outcome_of, Lexes}
use Rattle.op_translate.specs.Edits.{Edit, with_edit, edits, LieWithin}
use Rattle.op_translate.specs.Translation.{prefix, called, to_stub, stubbed, to_call}
use Rattle.op_translate.proofs.Quiet.{no_stub, no_call, called_quiet, stubbed_quiet}

-- ---- tokens

-- the tokens stand in order, between one place and another
abbrev pub Spans : ℕ → ℕ → List Token → Type 0
Spans n end [] = n ≤ end
Spans n end (t ∷ ts) = (n ≤ t.from) × (t.from ≤ t.to) × Spans t.to end ts

sooner : (m n end : ℕ) (ts : List Token) → m ≤ n → Spans n end ts → Spans m end ts
sooner m n end [] h s = omega arith
sooner m n end (t ∷ ts) h s = (omega (arith, s.0, h), s.1, s.2)

parts_span : (stop : Stop) (fresh number : Bool) (bs : List ℕ) (xs : List Part) (n end : ℕ) (p : Pos) → n + length bs ≤ end → AreParts stop fresh number bs xs → Spans n end (tokens_of n p xs)
parts_span stop fresh number bs [] n end p h a = omega (arith, h)
parts_span stop fresh number bs (Passed s ∷ xs) n end p h a =
    let long : length bs ≡ length s + length a.1.0 = ap length a.1.1 ∙ length-append s a.1.0 in
    sooner n (n + length s) end (tokens_of (n + length s) (advance p s) xs) (omega arith)
    (parts_span stop (is_fresh_behind fresh (Passed s)) (is_number_part (Passed s)) a.1.0 xs (n + length s) end (advance p s)
    (omega (arith, h, long)) a.1.3)
parts_span stop fresh number bs (Spelled k s ∷ xs) n end p h a =
    let long : length bs ≡ length s + length a.1.0 = ap length a.1.1 ∙ length-append s a.1.0 in (
      omega arith,
      omega arith,
      parts_span stop (is_fresh_behind fresh (Spelled k s)) (is_number_part (Spelled k s)) a.1.0 xs (n + length s) end (advance p s) (omega (arith, h, long)) a.1.3,
    )

-- bytes that have tokens are parts up to their end
pub record IsCut (bytes : List ℕ) (tokens : List Token) : Type 0 where
  pub parts : List Part
  pub are : AreParts AtEnd true false bytes parts
  pub tokens_are : tokens ≡ tokens_of 0 start parts

pub cut : (bytes : List ℕ) (tokens : List Token) → Lexes bytes (Ok tokens) → IsCut bytes tokens
cut bytes tokens l = by_stop l.stop l.are l.gives
  where
    by_stop : (stop : Stop) → AreParts stop true false bytes l.parts → ◌≡◌ {A = Outcome} (Ok tokens) (outcome_of l.parts stop) → IsCut bytes tokens
    by_stop AtEnd a e = record { parts = l.parts; are = a; tokens_are = cc }
    by_stop (AtBadByte good) a e = let bad : ⊥ = cc in absurd bad
    by_stop AtOpenComment a e = let bad : ⊥ = cc in absurd bad
    by_stop AtOpenText a e = let bad : ⊥ = cc in absurd bad
    by_stop AtNumberTooLarge a e = let bad : ⊥ = cc in absurd bad

pub tokens_span : (bytes : List ℕ) (tokens : List Token) → Lexes bytes (Ok tokens) → Spans 0 (length bytes) tokens
tokens_span bytes tokens l =
    let c = cut bytes tokens l in
    subst (Spans 0 (length bytes)) (sym c.tokens_are) (parts_span AtEnd true false bytes c.parts 0 (length bytes) start (omega arith) c.are)

-- ---- edits

no_edits : (ts : List Token) (n end : ℕ) → Spans n end ts → n ≤ end
no_edits [] n end s = s
no_edits (t ∷ ts) n end s = let h = no_edits ts t.to end s.2 in omega (arith, h, s.0, s.1)

pub stubs_lie : (ts : List Token) (n end : ℕ) → Spans n end ts → LieWithin n end (edits to_stub ts)
stubs_lie [] n end s = s
stubs_lie (a ∷ []) n end s = no_edits (a ∷ []) n end s
stubs_lie (a ∷ b ∷ []) n end s = no_edits (a ∷ b ∷ []) n end s
stubs_lie (a ∷ b ∷ c ∷ []) n end s = no_edits (a ∷ b ∷ c ∷ []) n end s
stubs_lie (a ∷ b ∷ c ∷ d ∷ ts) n end s =
    by_call (called a.kind b.kind c.kind d.kind) refl (stubs_lie (b ∷ c ∷ d ∷ ts) n end (sooner n a.to end (b ∷ c ∷ d ∷ ts) (omega (arith, s.0, s.1)) s.2)) (stubs_lie ts d.to end s.2.2.2.2)
  where
    more : List Edit
    more = edits to_stub (b ∷ c ∷ d ∷ ts)

    made : List ℕ → Edit
    made x = record { from = a.from; to = d.to; text = prefix ++ x ++ codes "(" }

    by_call : (o : Option (List ℕ)) → called a.kind b.kind c.kind d.kind ≡ o → LieWithin n end more → LieWithin d.to end (edits to_stub ts) → LieWithin n end (with_edit (option_map made o) more)
    by_call None e h g = h
    by_call (Some x) e h g =
        let q = called_quiet a.kind b.kind c.kind d.kind x e in
        let same : more ≡ edits to_stub ts =
        ap (λ z. with_edit z (edits to_stub (c ∷ d ∷ ts))) (no_stub b (c ∷ d ∷ ts) q.paren)
        ∙ (ap (λ z. with_edit z (edits to_stub (d ∷ ts))) (no_stub c (d ∷ ts) q.name) ∙ ap (λ z. with_edit z (edits to_stub ts)) (no_stub d ts q.comma)) in
        let b_in = s.2 in
        let c_in = b_in.2 in
        let d_in = c_in.2 in
        (s.0, omega (arith, s.1, b_in.0, b_in.1, c_in.0, c_in.1, d_in.0, d_in.1), subst (LieWithin d.to end) (sym same) g)

pub calls_lie : (ts : List Token) (n end : ℕ) → Spans n end ts → LieWithin n end (edits to_call ts)
calls_lie [] n end s = s
calls_lie (a ∷ []) n end s = no_edits (a ∷ []) n end s
calls_lie (a ∷ b ∷ ts) n end s =
    by_stub (stubbed a.kind b.kind) refl (calls_lie (b ∷ ts) n end (sooner n a.to end (b ∷ ts) (omega (arith, s.0, s.1)) s.2)) (calls_lie ts b.to end s.2.2)
  where
    more : List Edit
    more = edits to_call (b ∷ ts)

    made : List ℕ → Edit
    made x = record { from = a.from; to = b.to; text = codes "op_par_loop(" ++ x ++ codes "," }

    by_stub : (o : Option (List ℕ)) → stubbed a.kind b.kind ≡ o → LieWithin n end more → LieWithin b.to end (edits to_call ts) → LieWithin n end (with_edit (option_map made o) more)
    by_stub None e h g = h
    by_stub (Some x) e h g =
        let same : more ≡ edits to_call ts = ap (λ z. with_edit z (edits to_call ts)) (no_call b ts (stubbed_quiet a.kind b.kind x e)) in
        let b_in = s.2 in
        (s.0, omega (arith, s.1, b_in.0, b_in.1), subst (LieWithin b.to end) (sym same) g)
