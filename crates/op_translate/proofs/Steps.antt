-- One token more.
use Rattle.std.proofs.Common.{◌≡◌, ℕ, zero, suc, ◌+◌, ◌≤◌, ◌<◌, List, [], ◌∷◌, ◌++◌, length, take, drop, Option, Some, None, refl, sym, ap, ◌∙◌, subst, arith, append_assoc, length-drop, ◌-◌}
use Rattle.std.proofs.lemmas.List.{take_all, drop-drop}
use Rattle.c_tree.specs.declared.lexer.tokens.Token.{Token}
use Rattle.op_translate.specs.declared.refusals.TransRefusal.{TransRefusal}
use Rattle.op_translate.specs.Edits.{Edit, edited, with_edit, edits, LieWithin}
use Rattle.op_translate.specs.Translation.{or_else, first_refusal}

pub refusal_step : (refuses : List Token → Option TransRefusal) (i : ℕ) (ts : List Token) → i < length ts
    → first_refusal refuses (drop i ts) ≡ or_else (refuses (drop i ts)) (first_refusal refuses (drop (i + 1) ts))
refusal_step refuses i [] h = absurd (omega (arith, h))
refusal_step refuses zero (t ∷ ts) h = refl
refusal_step refuses (suc i) (t ∷ ts) h =
    let far : suc (i + 1) ≡ suc i + 1 = omega arith in
    refusal_step refuses i ts (let m : suc i < suc (length ts) = h in omega (arith, m)) ∙ ap (λ z. or_else (refuses (drop i ts)) (first_refusal refuses (drop z (t ∷ ts)))) far

pub edits_step : (begins : List Token → Option Edit) (i : ℕ) (ts : List Token) → i < length ts → edits begins (drop i ts) ≡ with_edit (begins (drop i ts)) (edits begins (drop (i + 1) ts))
edits_step begins i [] h = absurd (omega (arith, h))
edits_step begins zero (t ∷ ts) h = refl
edits_step begins (suc i) (t ∷ ts) h =
    let far : suc (i + 1) ≡ suc i + 1 = omega arith in
    edits_step begins i ts (let m : suc i < suc (length ts) = h in omega (arith, m)) ∙ ap (λ z. with_edit (begins (drop i ts)) (edits begins (drop z (t ∷ ts)))) far

-- `&xs[n..]` is what is left
pub rest_is : {X : Type 0} (n : ℕ) (xs : List X) → take (length xs - n) (drop n xs) ≡ drop n xs
rest_is n xs = take_all (length xs - n) (drop n xs) (omega (arith, length-drop n xs))

-- ---- an edit more

pub lie_end : (n end : ℕ) (es : List Edit) → LieWithin n end es → n ≤ end
lie_end n end [] h = h
lie_end n end (e ∷ es) h = let q = lie_end e.to end es h.2 in omega (arith, q, h.0, h.1)

-- the edit that begins here, and those behind it
pub record Turn (n end : ℕ) (e : Edit) (es : List Edit) : Type 0 where
  pub after : n ≤ e.from
  pub order : e.from ≤ e.to
  pub later : LieWithin e.to end es

pub turn : (begins : List Token → Option Edit) (i : ℕ) (ts : List Token) (n end : ℕ) (e : Edit) → i < length ts
    → begins (drop i ts) ≡ Some e → LieWithin n end (edits begins (drop i ts)) → Turn n end e (edits begins (drop (i + 1) ts))
turn begins i ts n end e short here h =
    let row : edits begins (drop i ts) ≡ e ∷ edits begins (drop (i + 1) ts) = edits_step begins i ts short ∙ ap (λ o. with_edit o (edits begins (drop (i + 1) ts))) here in
    let q : LieWithin n end (e ∷ edits begins (drop (i + 1) ts)) = subst (LieWithin n end) row h in
    record { after = q.0; order = q.1; later = q.2 }

pub edited_turn : (begins : List Token → Option Edit) (i : ℕ) (ts : List Token) (n end : ℕ) (e : Edit) (bytes out all : List ℕ)
    → i < length ts → begins (drop i ts) ≡ Some e → Turn n end e (edits begins (drop (i + 1) ts))
    → out ++ edited n (drop n bytes) (edits begins (drop i ts)) ≡ all
    → out ++ take (e.from - n) (drop n bytes) ++ e.text ++ edited e.to (drop e.to bytes) (edits begins (drop (i + 1) ts)) ≡ all
edited_turn begins i ts n end e bytes out all short here t h =
    let es : List Edit = edits begins (drop (i + 1) ts) in
    let row : edits begins (drop i ts) ≡ e ∷ es = edits_step begins i ts short ∙ ap (λ o. with_edit o es) here in
    let far : drop (e.to - n) (drop n bytes) ≡ drop e.to bytes = drop-drop (e.to - n) n bytes ∙ ap (λ z. drop z bytes) (let m : n + (e.to - n) ≡ e.to = omega (arith, t.after, t.order) in m) in
    let front : List ℕ = take (e.from - n) (drop n bytes) in
    append_assoc (out ++ front) e.text (edited e.to (drop e.to bytes) es)
    ∙ (append_assoc out front (e.text ++ edited e.to (drop e.to bytes) es)
    ∙ (ap (λ z. out ++ z) (sym (append_assoc front e.text (edited e.to (drop e.to bytes) es)) ∙ ap (λ z. front ++ e.text ++ edited e.to z es) (sym far))
    ∙ (ap (λ z. out ++ edited n (drop n bytes) z) (sym row) ∙ h)))

pub no_turn : (begins : List Token → Option Edit) (i : ℕ) (ts : List Token) → i < length ts → begins (drop i ts) ≡ None → edits begins (drop i ts) ≡ edits begins (drop (i + 1) ts)
no_turn begins i ts short here = edits_step begins i ts short ∙ ap (λ o. with_edit o (edits begins (drop (i + 1) ts))) here
