-- Tokens of the bytes from a place on.
use Rattle.std.proofs.Common.{◌≡◌, ℕ, suc, ◌+◌, ◌<◌, Bool, true, false, Some, None, List, [], ◌∷◌, length, take, drop, get_or, refl, sym, ap, ◌∙◌, arith}
use Rattle.std.proofs.lemmas.Bool.Decides.{nat_tests}
use Rattle.std.specs.List.{prefix_len}
use Rattle.std.proofs.Math.Numerals.{one-add}
use Rattle.std.proofs.Math.Seq.{drop-cons}
use Rattle.op_num.specs.Cut.{blank, dark, line_after, with_byte, words, Uncut, first_of, rest_of, IsDark}

pub words-blank : (line b : ℕ) (bs : List ℕ) → blank b ≡ true → words line (b ∷ bs) ≡ words (line_after line b) bs
unfolding words
words-blank line b bs h = rw h refl

pub words-dark : (line b : ℕ) (bs : List ℕ) → blank b ≡ false → words line (b ∷ bs) ≡ with_byte line b bs (words line bs)
unfolding words
words-dark line b bs h = rw h refl

pub words-none : (line : ℕ) → words line [] ≡ []
unfolding words
words-none line = refl

pub words-step : (line i : ℕ) (bs : List ℕ) → i < length bs → blank (get_or bs i 0) ≡ true → words line (drop i bs) ≡ words (line_after line (get_or bs i 0)) (drop (suc i) bs)
words-step line i bs h b = ap (words line) (drop-cons bs i 0 h) ∙ words-blank line (get_or bs i 0) (drop (suc i) bs) b

-- the token at the front, and what stands behind it
abbrev pub Token : ℕ → ℕ → List ℕ → Type 0
Token line b bs = words line (b ∷ bs) ≡ (record { text = b ∷ take (prefix_len dark bs) bs; line = line }) ∷ words line (drop (prefix_len dark bs) bs)

token_then : (line b c : ℕ) (cs : List ℕ) (t : Bool) → blank c ≡ t → (blank c ≡ false → Token line c cs)
    → with_byte line b (c ∷ cs) (words line (c ∷ cs)) ≡ (record { text = b ∷ take (prefix_len dark (c ∷ cs)) (c ∷ cs); line = line })
    ∷ words line (drop (prefix_len dark (c ∷ cs)) (c ∷ cs))
token_then line b c cs true t r = rw t refl
token_then line b c cs false t r = rw t (rw (one-add (prefix_len dark cs)) (rw (r t) refl))

pub words-token : (line b : ℕ) (bs : List ℕ) → blank b ≡ false → Token line b bs
words-token line b [] h = words-dark line b [] h ∙ ap (λ ws. with_byte line b [] ws) (words-none line) ∙ ap (λ ws. (record { text = b ∷ []; line = line }) ∷ ws) (sym (words-none line))
words-token line b (c ∷ cs) h = words-dark line b (c ∷ cs) h ∙ token_then line b c cs (blank c) refl (λ t. words-token line c cs t)

-- the front has no bytes: there is no token
none_left : (line : ℕ) (bs : List ℕ) → IsDark bs → prefix_len dark bs ≡ 0 → words line bs ≡ []
none_left line [] d n = words-none line
none_left line (b ∷ bs) d n = let m : 1 + prefix_len dark bs ≡ 0 = rw d at n in absurd (omega arith)

some_left : (line : ℕ) (bs : List ℕ) → IsDark bs → 0 < prefix_len dark bs → words line bs ≡ (record { text = take (prefix_len dark bs) bs; line = line }) ∷ words line (drop (prefix_len dark bs) bs)
some_left line [] d n = absurd (omega arith)
some_left line (b ∷ bs) d n = rw d (rw (one-add (prefix_len dark bs)) (words-token line b bs d))

pub no_token : (u : Uncut) (last line at : ℕ) (bytes rest : List ℕ) → record { last = last; words = words line bytes } ≡ u
    → words line bytes ≡ words at rest → IsDark rest → prefix_len dark rest ≡ 0 → (None ≡ first_of u)
    × (record { last = last; words = words at rest } ≡ rest_of u)
no_token u last line at bytes rest v w d n =
    let e : words at rest ≡ [] = none_left at rest d n in
    let is : record { last = last; words = [] } ≡ u = ap (λ ws. record { last = last; words = ws }) (sym (w ∙ e)) ∙ v in
    (ap first_of is, ap (λ ws. record { last = last; words = ws }) e ∙ ap rest_of is)

pub a_token : (u : Uncut) (last line at n : ℕ) (bytes rest text back : List ℕ) → record { last = last; words = words line bytes } ≡ u
    → words line bytes ≡ words at rest → IsDark rest → n ≡ prefix_len dark rest → (n ≡ 0 → ⊥) → text ≡ take n rest → back ≡ drop n rest
    → (Some (record { text = text; line = at }) ≡ first_of u) × (record { last = at; words = words at back } ≡ rest_of u)
a_token u last line at n bytes rest text back v w d size some front behind =
    let full : 0 < prefix_len dark rest = omega arith in
    let token : words line bytes ≡ (record { text = text; line = at }) ∷ words at back =
    w ∙ some_left at rest d full ∙ rw (front, behind, size) refl in
    let is : record { last = last; words = (record { text = text; line = at }) ∷ words at back } ≡ u = ap (λ ws. record { last = last; words = ws }) (sym token) ∙ v in
    (ap first_of is, ap rest_of is)

lf : (line at b : ℕ) → b ≡ 10 → at ≡ line + 1 → at ≡ line_after line b
lf line at b h a = grind (arith, nat_tests)

no_lf : (line at b : ℕ) → (b ≡ 10 → ⊥) → at ≡ line → at ≡ line_after line b
no_lf line at b h a = grind (arith, nat_tests)

pub skipped : (start line i at : ℕ) (bs : List ℕ) → words start bs ≡ words line (drop i bs) → i < length bs → blank (get_or bs i 0) ≡ true
    → at ≡ line_after line (get_or bs i 0) → words start bs ≡ words at (drop (i + 1) bs)
skipped start line i at bs s h b a =
    let e : suc i ≡ i + 1 = omega arith in
    s ∙ words-step line i bs h b ∙ ap (λ n. words n (drop (suc i) bs)) (sym a) ∙ ap (λ k. words at (drop k bs)) e

pub skipped_lf : (start line i at : ℕ) (bs : List ℕ) → words start bs ≡ words line (drop i bs) → i < length bs
    → blank (get_or bs i 0) ≡ true → get_or bs i 0 ≡ 10 → at ≡ line + 1 → words start bs ≡ words at (drop (i + 1) bs)
skipped_lf start line i at bs s h b e a = skipped start line i at bs s h b (lf line at (get_or bs i 0) e a)

pub skipped_other : (start line i at : ℕ) (bs : List ℕ) → words start bs ≡ words line (drop i bs) → i < length bs
    → blank (get_or bs i 0) ≡ true → (get_or bs i 0 ≡ 10 → ⊥) → at ≡ line → words start bs ≡ words at (drop (i + 1) bs)
skipped_other start line i at bs s h b e a = skipped start line i at bs s h b (no_lf line at (get_or bs i 0) e a)
