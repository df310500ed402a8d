-- A line of words without blanks ends at its first LF, and has one cut into words.
use Rattle.std.proofs.Common.{◌≡◌, ℕ, zero, suc, ◌/◌, ◌%◌, ◌<◌, Bool, true, false, cond, refl, sym, ap, subst, ◌∙◌, arith, List, [], ◌∷◌, ◌++◌, append_assoc, append-nil, get_or, Some}
use Rattle.std.specs.Prelude.{◌==◌}
use Rattle.std.specs.List.{All, list_all, join_with_byte}
use Rattle.std.specs.Fmt.{decimal, digits, digits_onto, digit_glyph}
use Rattle.std.proofs.lemmas.Bool.Decides.{nat_tests}
use Rattle.std.proofs.lemmas.Nat.{mod_below}
use Rattle.std.proofs.lemmas.Bool.{false≢true}
use Rattle.std.proofs.lemmas.List.Elements.{All-nil, All-cons, All-append}
use Rattle.std.proofs.lemmas.List.Sums.{AllPass-from_list_all}
use Rattle.op_num.specs.Spelling.{number_of}
use Rattle.op_num.specs.Cut.{dark}
use Rattle.op_num.specs.Lines.{line_of}
use Rattle.op_num.proofs.Public.{number_token, one_line, one_cut}
use Rattle.op_num.specs.CutLines.{is_lf, is_space, words, HasNoLf, HasNoSpace}
use Rattle.loop_plan.specs.Spaced.{spaced}
use Rattle.loop_plan.proofs.Public.{line_is_spaced}
use Rattle.lemmas.proofs.Lists.{list_all_cons}

-- ---- words without blanks

-- no byte of a word is a blank
abbrev pub IsDark : List ℕ → Type 0
IsDark w = list_all dark w ≡ true

abbrev pub AreDark : List (List ℕ) → Type 0
AreDark [] = Unit {0}
AreDark (w ∷ ws) = IsDark w × AreDark ws

pub dark_append : (xs ys : List (List ℕ)) → AreDark xs → AreDark ys → AreDark (xs ++ ys)
dark_append [] ys h k = k
dark_append (x ∷ xs) ys h k = (h.0, dark_append xs ys h.1 k)

-- digits

glyph_dark : (d : ℕ) → d < 10 → dark (digit_glyph false d) ≡ true
glyph_dark d l = grind (arith, nat_tests)

either_dark : (t : Bool) (xs ys : List ℕ) → IsDark xs → IsDark ys → IsDark (cond t xs ys)
either_dark true xs ys h k = h
either_dark false xs ys h k = k

onto_dark : (k n : ℕ) (acc : List ℕ) → IsDark acc → IsDark (digits_onto k 10 false n acc)
onto_dark zero n acc h = h
onto_dark (suc k) n acc h =
    let here : IsDark (digit_glyph false (n % 10) ∷ acc) = list_all_cons dark (digit_glyph false (n % 10)) acc (glyph_dark (n % 10) (mod_below n 10 (omega arith))) h in
    either_dark (n / 10 == 0) (digit_glyph false (n % 10) ∷ acc) (digits_onto k 10 false (n / 10) (digit_glyph false (n % 10) ∷ acc))
    here (onto_dark k (n / 10) (digit_glyph false (n % 10) ∷ acc) here)

pub decimal_dark : (n : ℕ) → IsDark (decimal n)
unfolding digits
decimal_dark n = onto_dark 64 n [] refl

pub number_dark : (w : List ℕ) (c : ℕ) → number_of w ≡ Some c → IsDark w
number_dark w c e = (number_token w c e).1

-- ---- a line of them

lf_not : (x : ℕ) → dark x ≡ true → is_lf x ≡ false
lf_not x h = grind (arith, nat_tests)

space_not : (x : ℕ) → dark x ≡ true → is_space x ≡ false
space_not x h = grind (arith, nat_tests)

pub dark_no_lf : (w : List ℕ) → IsDark w → HasNoLf w
dark_no_lf w h k d l = lf_not (get_or w k d) (AllPass-from_list_all dark w h k d l)

dark_no_space : (w : List ℕ) → IsDark w → HasNoSpace w
dark_no_space w h k d l = space_not (get_or w k d) (AllPass-from_list_all dark w h k d l)

words_no_space : (ws : List (List ℕ)) → AreDark ws → All HasNoSpace ws
words_no_space [] h = All-nil HasNoSpace
words_no_space (w ∷ ws) h = All-cons HasNoSpace w ws (dark_no_space w h.0) (words_no_space ws h.1)

no_lf_append : (xs ys : List ℕ) → HasNoLf xs → HasNoLf ys → HasNoLf (xs ++ ys)
no_lf_append xs ys h k = All-append (λ b. is_lf b ≡ false) xs ys h k

pub no_lf_behind : (x : ℕ) (xs : List ℕ) → is_lf x ≡ false → HasNoLf xs → HasNoLf (x ∷ xs)
no_lf_behind x xs e h = All-cons (λ b. is_lf b ≡ false) x xs e h

pub no_lf_none : HasNoLf []
no_lf_none = All-nil (λ b. is_lf b ≡ false)

spaced_no_lf : (ws : List (List ℕ)) → AreDark ws → HasNoLf (spaced ws)
spaced_no_lf [] h = no_lf_none
spaced_no_lf (w ∷ ws) h = no_lf_behind 32 (w ++ spaced ws) refl (no_lf_append w (spaced ws) (dark_no_lf w h.0) (spaced_no_lf ws h.1))

-- bytes with an LF aren't without
pub lf_there : (xs ys : List ℕ) → HasNoLf (xs ++ 10 ∷ ys) → ⊥
lf_there [] ys h = false≢true (sym (h zero 0 (omega arith)))
lf_there (x ∷ xs) ys h = lf_there xs ys (λ k d l. h (suc k) d (omega arith))

-- words between single spaces, and behind a space each
pub joined_spaced : (t : List ℕ) (ts : List (List ℕ)) → join_with_byte 32 (t ∷ ts) ≡ t ++ spaced ts
joined_spaced t [] = sym (append-nil t)
joined_spaced t (u ∷ us) = ap (λ z. t ++ 32 ∷ z) (joined_spaced u us)

-- what stands before the LF
abbrev pub content : List (List ℕ) → List ℕ
content ws = join_with_byte 32 ws

module _ (w : List ℕ) (ws : List (List ℕ)) where
  pub line_content : line_of (w ∷ ws) ≡ content (w ∷ ws) ++ 10 ∷ []
  line_content = line_is_spaced w ws ∙ (sym (append_assoc w (spaced ws) (10 ∷ [])) ∙ ap (λ z. z ++ 10 ∷ []) (sym (joined_spaced w ws)))

  pub content_no_lf : AreDark (w ∷ ws) → HasNoLf (content (w ∷ ws))
  content_no_lf h = subst HasNoLf (sym (joined_spaced w ws)) (no_lf_append w (spaced ws) (dark_no_lf w h.0) (spaced_no_lf ws h.1))

  pub content_cut : AreDark (w ∷ ws) → words (content (w ∷ ws)) ≡ w ∷ ws
  content_cut h = one_cut w ws (dark_no_space w h.0) (words_no_space ws h.1)

  -- bytes that begin with the line, and end what they begin with at their first LF
  pub line_front : (line rest more : List ℕ) → AreDark (w ∷ ws) → HasNoLf line → line ++ 10 ∷ rest ≡ line_of (w ∷ ws) ++ more → (line ≡ content (w ∷ ws)) × (rest ≡ more)
  line_front line rest more h none e =
      one_line line (content (w ∷ ws)) rest more none (content_no_lf h)
      (e ∙ (ap (λ z. z ++ more) line_content ∙ append_assoc (content (w ∷ ws)) (10 ∷ []) more))

-- two lines at one front are the same, and so are their words and what stands behind them
pub one_front : (v w : List ℕ) (vs ws : List (List ℕ)) (rest more : List ℕ) → AreDark (v ∷ vs) → AreDark (w ∷ ws)
    → line_of (v ∷ vs) ++ rest ≡ line_of (w ∷ ws) ++ more → (v ∷ vs ≡ w ∷ ws) × (rest ≡ more)
one_front v w vs ws rest more h k e =
    let a : content (v ∷ vs) ++ 10 ∷ rest ≡ line_of (w ∷ ws) ++ more = sym (append_assoc (content (v ∷ vs)) (10 ∷ []) rest) ∙ (ap (λ z. z ++ rest) (sym (line_content v vs)) ∙ e) in
    let o = line_front w ws (content (v ∷ vs)) rest more k (content_no_lf v vs h) a in
    (sym (content_cut v vs h) ∙ (ap words o.0 ∙ content_cut w ws k), o.1)
