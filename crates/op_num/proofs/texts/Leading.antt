-- Tokens that lead from one state to another, by their bytes.
use Rattle.std.proofs.Common.{◌≡◌, ℕ, List, [], ◌∷◌, ◌++◌, map, Result, Ok, refl, ap, ◌∙◌}
use Rattle.op_num.specs.Cut.{Word, text_of}
use Rattle.op_num.proofs.texts.Exact.{through, through-none, through-more, through-join}

same_cons : (t u : List ℕ) (ts us : List (List ℕ)) → t ≡ u → ts ≡ us → t ∷ ts ≡ u ∷ us
same_cons t u ts us e h = ap (λ x. x ∷ ts) e ∙ ap (λ xs. u ∷ xs) h

-- tokens whose bytes are two lists are two lists
split_map : (ws : List Word) (cs bs : List (List ℕ))
    → map text_of ws ≡ cs ++ bs
    → (us : List Word) × (vs : List Word) × (ws ≡ us ++ vs) × (map text_of us ≡ cs) × (map text_of vs ≡ bs)
split_map ws [] bs h = ([], ws, refl, refl, h)
split_map [] (a ∷ cs) bs h = cc
split_map (w ∷ ws) (a ∷ cs) bs h =
    let t : map text_of ws ≡ cs ++ bs = cc in
    let e : w.text ≡ a = cc in
    let r = split_map ws cs bs t in
    (w ∷ r.0, r.1, ap (λ xs. w ∷ xs) r.2, same_cons w.text a (map text_of r.0) cs e r.3, r.4)

module _ {S R V : Type 0} (step : S → Word → Result S R) (finish : S → ℕ → Result V R) where
  -- whatever tokens have these bytes lead from one state to the other
  abbrev pub Goes : S → List (List ℕ) → S → Type 0
  Goes p ts q = (ws : List Word) → map text_of ws ≡ ts → through step finish p ws ≡ Ok q

  pub goes_nowhere : (p : S) → Goes p [] p
  goes_nowhere p [] h = through-none step finish p
  goes_nowhere p (w ∷ ws) h = cc

  pub goes_join : (p q r : S) (cs bs : List (List ℕ)) → Goes p cs q → Goes q bs r → Goes p (cs ++ bs) r
  goes_join p q r cs bs g k ws h =
      let s = split_map ws cs bs h in
      ap (through step finish p) s.2 ∙ through-join step finish s.0 s.1 p q (g s.0 s.3) ∙ k s.1 s.4

  pub goes_one : (p q : S) (t : List ℕ) → ((w : Word) → w.text ≡ t → step p w ≡ Ok q) → Goes p (t ∷ []) q
  goes_one p q t k [] h = cc
  goes_one p q t k (w ∷ []) h =
      let e : w.text ≡ t = cc in
      through-more step finish p q w [] (k w e) ∙ through-none step finish q
  goes_one p q t k (w ∷ v ∷ ws) h = cc

  -- one token, and more
  pub goes_on : (p q r : S) (t : List ℕ) (ts : List (List ℕ))
      → ((w : Word) → w.text ≡ t → step p w ≡ Ok q)
      → Goes q ts r
      → Goes p (t ∷ ts) r
  goes_on p q r t ts k g = goes_join p q r (t ∷ []) ts (goes_one p q t k) g
