-- What edits make of the bytes of parts.
use Rattle.std.proofs.Common.{◌≡◌, ℕ, ◌+◌, ◌-◌, List, [], ◌∷◌, ◌++◌, length, take, drop, Option, None, refl, sym, ap, ◌∙◌, append_assoc, length-append, arith}
use Rattle.c_tree.specs.declared.lexer.tokens.Pos.{Pos}
use Rattle.c_tree.specs.declared.lexer.tokens.Token.{Token}
use Rattle.c_tree.specs.Lexed.{advance, Part, Passed, Spelled, bytes_of, all_bytes, tokens_of}
use Rattle.op_translate.specs.Edits.{Edit, edited, with_edit, edits}
use Rattle.op_translate.proofs.Patches.{all_bytes-append, Patch, Keep, Swap, olds, news}
use Rattle.std.proofs.Math.Seq.{drop-append_seam, take-append_seam}

-- ---- edits of parts

-- no edit begins with the part
abbrev pub NoEdit : (List Token → Option Edit) → Part → Type 0
NoEdit begins (Passed s) = Unit {0}
NoEdit begins (Spelled k s) = (t : Token) (ts : List Token) → t.kind ≡ k → begins (t ∷ ts) ≡ None

-- one edit replaces all the old parts
abbrev pub OneEdit : (List Token → Option Edit) → List Part → List Part → Type 0
OneEdit begins old new =
    (n : ℕ) (p : Pos) (more : List Part)
    → (q : Pos)
    × (edits begins (tokens_of n p (old ++ more))
    ≡ record { from = n; to = n + length (all_bytes old); text = all_bytes new } ∷ edits begins (tokens_of (n + length (all_bytes old)) q more))

abbrev pub AreEdits : (List Token → Option Edit) → List Patch → Type 0
AreEdits begins [] = Unit {0}
AreEdits begins (Keep p ∷ ps) = NoEdit begins p × AreEdits begins ps
AreEdits begins (Swap old new ∷ ps) = OneEdit begins old new × AreEdits begins ps

after_kept : (begins : List Token → Option Edit) (n : ℕ) (p : Pos) (x : Part) (more : List Part) → NoEdit begins x
    → edits begins (tokens_of n p (x ∷ more)) ≡ edits begins (tokens_of (n + length (bytes_of x)) (advance p (bytes_of x)) more)
after_kept begins n p (Passed s) more h = refl
after_kept begins n p (Spelled k s) more h =
    let t : Token = record { kind = k; from = n; to = n + length s; at = p } in
    let ts : List Token = tokens_of (n + length s) (advance p s) more in
    ap (λ e. with_edit e (edits begins ts)) (h t ts refl)

-- ---- one edit

one_made : (m : ℕ) (kept old rest text : List ℕ) (es : List Edit)
    → edited m (kept ++ (old ++ rest)) (record { from = m + length kept; to = m + length kept + length old; text = text } ∷ es) ≡ kept ++
    text ++ edited (m + length kept + length old) rest es
one_made m kept old rest text es =
    let bs : List ℕ = kept ++ (old ++ rest) in
    let front : take (m + length kept - m) bs ≡ kept = ap (λ z. take z bs) (let e : m + length kept - m ≡ length kept = omega arith in e) ∙ take-append_seam kept (old ++ rest) in
    let size : m + length kept + length old - m ≡ length (kept ++ old) = omega (arith, length-append kept old) in
    let back : drop (m + length kept + length old - m) bs ≡ rest = ap (λ z. drop z bs) size
    ∙ (ap (λ z. drop (length (kept ++ old)) z) (sym (append_assoc kept old rest)) ∙ drop-append_seam (kept ++ old) rest) in
    ap (λ z. z ++ text ++ edited (m + length kept + length old) (drop (m + length kept + length old - m) bs) es) front
    ∙ ap (λ z. kept ++ text ++ edited (m + length kept + length old) z es) back

-- All edits make the new bytes of the old ones.
module _ (begins : List Token → Option Edit) where
  abbrev Made : List Patch → ℕ → List ℕ → Pos → Type 0
  Made ps m kept p =
      edited m (kept ++ all_bytes (olds ps)) (edits begins (tokens_of (m + length kept) p (olds ps))) ≡ kept ++ all_bytes (news ps)

  made_from : (ps : List Patch) → AreEdits begins ps → (m : ℕ) (kept : List ℕ) (p : Pos) → Made ps m kept p
  made_from [] h m kept p = refl
  made_from (Keep x ∷ ps) h m kept p =
      let old : List ℕ = all_bytes (olds ps) in
      let step = after_kept begins (m + length kept) p x (olds ps) h.0 in
      let far : m + length kept + length (bytes_of x) ≡ m + length (kept ++ bytes_of x) = omega (arith, length-append kept (bytes_of x)) in
      let q : Pos = advance p (bytes_of x) in
      ap (λ es. edited m (kept ++ (bytes_of x ++ old)) es) step
      ∙ (ap (λ z. edited m (kept ++ (bytes_of x ++ old)) (edits begins (tokens_of z q (olds ps)))) far
      ∙ (ap (λ z. edited m z (edits begins (tokens_of (m + length (kept ++ bytes_of x)) q (olds ps)))) (sym (append_assoc kept (bytes_of x) old))
      ∙ (made_from ps h.1 m (kept ++ bytes_of x) q ∙ append_assoc kept (bytes_of x) (all_bytes (news ps)))))
  made_from (Swap old new ∷ ps) h m kept p =
      let one = h.0 (m + length kept) p (olds ps) in
      let rest : List ℕ = all_bytes (olds ps) in
      let end : ℕ = m + length kept + length (all_bytes old) in
      let es : List Edit = edits begins (tokens_of end one.0 (olds ps)) in
      let zero_more : end ≡ end + 0 = omega arith in
      let later : edited end rest es ≡ all_bytes (news ps) =
      ap (λ z. edited end rest (edits begins (tokens_of z one.0 (olds ps)))) zero_more ∙ made_from ps h.1 end [] one.0 in
      ap (λ z. edited m (kept ++ all_bytes (old ++ olds ps)) z) one.1
      ∙ (ap (λ z. edited m (kept ++ z) (record { from = m + length kept; to = end; text = all_bytes new } ∷ es)) (all_bytes-append old (olds ps))
      ∙ (one_made m kept (all_bytes old) rest (all_bytes new) es
      ∙ (ap (λ z. kept ++ all_bytes new ++ z) later ∙ (append_assoc kept (all_bytes new) (all_bytes (news ps)) ∙ ap (λ z. kept ++ z) (sym (all_bytes-append new (news ps)))))))

  pub made : (ps : List Patch) → AreEdits begins ps → (p : Pos) → edited 0 (all_bytes (olds ps)) (edits begins (tokens_of 0 p (olds ps))) ≡ all_bytes (news ps)
  made ps h p = made_from ps h 0 [] p
