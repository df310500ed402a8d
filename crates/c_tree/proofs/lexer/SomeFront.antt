-- At the front of bytes something stands: what is passed over, a token, or a refusal.
use Rattle.std.proofs.Common.{◌≡◌, ◌≢◌, ℕ, zero, suc, ◌+◌, ◌≤◌, ◌<◌, Bool, true, false, List, [], ◌∷◌, ◌++◌, length, take, drop, get_or, slice_index, Option, Some, None, find, refl, sym, ap, subst, ◌∙◌, arith, nat_eq, ◌⊎◌, inl, inr, codes, drop-cons, length-drop, cond}
use Rattle.std.specs.List.{list_all, prefix_len, starts_with}
use Rattle.std.specs.Str.{bytes_eq}
use Rattle.std.proofs.lemmas.Bool.{cases_lt, eqb-true, true≢false}
use Rattle.std.proofs.lemmas.List.{length-take, drop_all}
use Rattle.std.proofs.lemmas.List.Sums.{prefix_len-le-length}
use Rattle.c_tree.specs.declared.lexer.tokens.Word.{Word}
use Rattle.c_tree.specs.declared.lexer.tokens.Kind.TheVariants as kind
use Rattle.c_tree.specs.declared.lexer.spelling.TheConstants.{WORDS}
use Rattle.c_tree.specs.declared.lexer.front.Front.{Front}
use Rattle.c_tree.specs.declared.lexer.front.Front.TheVariants.{Passed, Token, BadByte, OpenComment, OpenText}
use Rattle.c_tree.specs.Spelling.{blank, letter, digit, part, textual, all_escaped, word_spelling, text_spelling}
use Rattle.c_tree.specs.Lexed.{IsPassed, is_closed}
use Rattle.c_tree.specs.Front.{LiesIn, IsText, IsFront, in_line, passes_line, closes, close_len, further, plain, escape_of, unit_of, word_or, front_word, front_sign, front_figure}
use Rattle.c_tree.proofs.lexer.Fits.{figure_fits, sign_fits}
use Rattle.c_tree.proofs.lexer.Units.{unit_is, list_all-push}
use Rattle.c_tree.proofs.lexer.Lines.{starts, line_front, block_front, open_front}
use Rattle.c_tree.proofs.lexer.Fronts.{front_blank, front_letter, front_digit, front_other, text_is_front, open_text, bad_text, take_split, text_more, text_first}

-- ---- what is found lies in the bytes

passed_some : (fresh : Bool) (s rest : List ℕ) → IsPassed fresh s rest → 1 ≤ length s
passed_some fresh s rest (inl p) = let e = ap length p.cut in omega (arith, e)
passed_some fresh s rest (inr (inl p)) = let e : length s ≡ suc (suc (length p.body)) = ap length p.cut in omega (arith, e)
passed_some fresh s rest (inr (inr (inl p))) = let e : length s ≡ suc (suc (length (p.body ++ codes "*/"))) = ap length p.cut in omega (arith, e)
passed_some fresh s rest (inr (inr (inr p))) = let e : length s ≡ suc (length (codes "include" ++ p.body)) = ap length p.cut in omega (arith, e)

word_within : (bs : List ℕ) (m : ℕ) → 1 ≤ length bs → length bs ≤ m → LiesIn m (front_word bs)
unfolding front_word
word_within bs m h g = by_word (find (λ w. bytes_eq bs (word_spelling w)) WORDS)
  where
    by_word : (o : Option Word) → LiesIn m (word_or o bs)
    by_word (Some w) = (h, g)
    by_word None = (h, g)

letter_part : (b : ℕ) → letter b ≡ true → part b ≡ true
letter_part b h = rw h refl

name_within : (bs : List ℕ) → 0 < length bs → letter (slice_index bs 0) ≡ true → LiesIn (length bs) (front_word (take (prefix_len part bs) bs))
name_within [] h e = absurd (omega arith)
name_within (b ∷ bs) h e =
    let n = prefix_len part (b ∷ bs) in
    let fits : n ≤ length (b ∷ bs) = prefix_len-le-length part (b ∷ bs) in
    let some : 1 ≤ n = rw (letter_part b e) (omega arith) in
    let long = length-take n (b ∷ bs) in
    word_within (take n (b ∷ bs)) (length (b ∷ bs)) (omega (arith, some, fits, long)) (omega (arith, fits, long))

further_within : (o : Option ℕ) (n m : ℕ) → ((k : ℕ) → o ≡ Some k → k ≤ m) → further 1 o ≡ Some n → n ≤ suc m
further_within None n m f e = let bad : ⊥ = cc in absurd bad
further_within (Some k) n m f e = let g = f k refl in let same : 1 + k ≡ n = cc in omega (arith, g, same)

close_within : (bs : List ℕ) (n : ℕ) → close_len bs ≡ Some n → n ≤ length bs
close_within [] n e = let bad : ⊥ = cc in absurd bad
close_within (b ∷ []) n e = further_within (close_len []) n 0 (λ k f. close_within [] k f) e
close_within (b ∷ c ∷ bs) n e = by_close (closes (b ∷ c ∷ bs)) e (λ f. further_within (close_len (c ∷ bs)) n (length (c ∷ bs)) (λ k g. close_within (c ∷ bs) k g) f)
  where
    by_close : (t : Bool) → cond t (Some 2) (further 1 (close_len (c ∷ bs))) ≡ Some n → (further 1 (close_len (c ∷ bs)) ≡ Some n → n ≤ length (b ∷ c ∷ bs)) → n ≤ length (b ∷ c ∷ bs)
    by_close true f g = let same : 2 ≡ n = cc in omega (arith, same)
    by_close false f g = g f

-- ---- texts

abbrev IsWithin : List ℕ → ℕ × ℕ → Type 0
IsWithin bs u = (1 ≤ u.1) × (u.1 ≤ length bs)

these_within : (bs : List ℕ) (c l : ℕ) (u : ℕ × ℕ) → 1 ≤ l → l ≤ length bs → ◌≡◌ {A = Option (ℕ × ℕ)} (Some (c, l)) (Some u) → IsWithin bs u
these_within bs c l u h g e = let same : (c, l) ≡ u = cc in subst (IsWithin bs) same (h, g)

escape_within : (b : ℕ) (bs : List ℕ) (u : ℕ × ℕ) → escape_of bs ≡ Some u → IsWithin (b ∷ bs) u
escape_within b [] u h = let bad : ⊥ = cc in absurd bad
escape_within b (c ∷ bs) u h = by_tests (nat_eq c 110) (nat_eq c 116) (nat_eq c 92) (nat_eq c 34) h
  where
    two : (x : ℕ) → ◌≡◌ {A = Option (ℕ × ℕ)} (Some (x, 2)) (Some u) → IsWithin (b ∷ c ∷ bs) u
    two x e = these_within (b ∷ c ∷ bs) x 2 u (omega arith) (omega arith) e

    by_tests : (v w x y : Bool) → cond v (Some (10, 2)) (cond w (Some (9, 2)) (cond x (Some (92, 2)) (cond y (Some (34, 2)) None))) ≡ Some u → IsWithin (b ∷ c ∷ bs) u
    by_tests true w x y e = two 10 e
    by_tests false true x y e = two 9 e
    by_tests false false true y e = two 92 e
    by_tests false false false true e = two 34 e
    by_tests false false false false e = let bad : ⊥ = cc in absurd bad

unit_within : (bs : List ℕ) (u : ℕ × ℕ) → unit_of bs ≡ Some u → IsWithin bs u
unit_within [] u h = let bad : ⊥ = cc in absurd bad
unit_within (b ∷ bs) u h = by_tests (nat_eq b 92) (plain b) h
  where
    by_tests : (v w : Bool) → cond v (escape_of bs) (cond w (Some (b, 1)) None) ≡ Some u → IsWithin (b ∷ bs) u
    by_tests true w e = escape_within b bs u e
    by_tests false true e = these_within (b ∷ bs) b 1 u (omega arith) (omega arith) e
    by_tests false false e = let bad : ⊥ = cc in absurd bad

-- what stands at the front, where a text begins there
abbrev TextFront : List ℕ → Type 0
TextFront bs = (f : Front) × IsText bs f × LiesIn (length bs) f

-- n bytes were read, which spell t behind the opening quote
pub record SoFar (bs t : List ℕ) (n : ℕ) : Type 0 where
  pub some : 1 ≤ n
  pub held : list_all textual t ≡ true
  pub read : take n bs ≡ 34 ∷ all_escaped t

text_end : (bs t : List ℕ) (n : ℕ) → SoFar bs t n → length bs ≤ n → TextFront bs
text_end bs t n s le = (OpenText, open_text bs t n s.read (ap is_closed (drop_all n bs le)), tt)

text_stop : (bs t : List ℕ) (n : ℕ) → SoFar bs t n → n < length bs → unit_of (drop n bs) ≡ None → TextFront bs
text_stop bs t n s lt none = by_quote (nat_eq (get_or bs n 0) 34) refl
  where
    row : drop n bs ≡ get_or bs n 0 ∷ drop (suc n) bs
    row = drop-cons bs n 0 lt

    spelled : get_or bs n 0 ≡ 34 → take (n + 1) bs ≡ text_spelling t
    spelled e = take_split n 1 bs ∙ ap (λ z. z ++ take 1 (drop n bs)) s.read ∙ ap (λ z. 34 ∷ (all_escaped t ++ take 1 z)) row ∙ ap (λ z. 34 ∷ (all_escaped t ++ z ∷ [])) e

    by_closed : get_or bs n 0 ≢ 34 → (b : Bool) → is_closed (drop n bs) ≡ b → TextFront bs
    by_closed q true is = (BadByte n, bad_text bs t n lt s.held s.read q none is, lt)
    by_closed q false is = (OpenText, open_text bs t n s.read is, tt)

    by_quote : (b : Bool) → nat_eq (get_or bs n 0) 34 ≡ b → TextFront bs
    by_quote true is = (Token (kind.Text t) (n + 1), (spelled (eqb-true (get_or bs n 0) 34 is), s.held), (omega arith, omega (arith, lt)))
    by_quote false is = by_closed (λ e. true≢false (sym (ap (λ z. nat_eq z 34) e) ∙ is)) (is_closed (drop n bs)) refl

text_turn : (bs t : List ℕ) (n : ℕ) → SoFar bs t n → n < length bs → ((u : List ℕ) (m : ℕ) → n < m → SoFar bs u m → TextFront bs) → TextFront bs
text_turn bs t n s lt on = by_unit (unit_of (drop n bs)) refl
  where
    by_unit : (o : Option (ℕ × ℕ)) → unit_of (drop n bs) ≡ o → TextFront bs
    by_unit None is = text_stop bs t n s lt is
    by_unit (Some u) is =
        let unit = unit_is (drop n bs) u is in
        let w = unit_within (drop n bs) u is in
        on (t ++ u.0 ∷ []) (n + u.1) (omega (arith, w.0)) (record {
          some = omega (arith, s.some);
          held = list_all-push textual t u.0 s.held unit.held;
          read = text_more bs t n u.0 u.1 s.read unit.spelled;
        })

text_from : (k : ℕ) (bs t : List ℕ) (n : ℕ) → length bs ≤ n + k → SoFar bs t n → TextFront bs
text_from zero bs t n long s = text_end bs t n s (omega (arith, long))
text_from (suc k) bs t n long s = by_size (cases_lt n (length bs)) (λ u m lt more. text_from k bs u m (omega (arith, long, lt)) more)
  where
    by_size : (n < length bs) ⊎ (length bs ≤ n) → ((u : List ℕ) (m : ℕ) → n < m → SoFar bs u m → TextFront bs) → TextFront bs
    by_size (inl lt) on = text_turn bs t n s lt on
    by_size (inr le) on = text_end bs t n s le

text_found : (bs : List ℕ) → 0 < length bs → slice_index bs 0 ≡ 34 → TextFront bs
text_found bs h e = text_from (length bs) bs [] 1 (omega arith) (record { some = omega arith; held = refl; read = text_first bs h e })

-- ---- the front

-- something stands there
abbrev pub SomeFront : Bool → List ℕ → Type 0
SomeFront fresh bs = (f : Front) × IsFront fresh bs f × LiesIn (length bs) f

pub some_front : (fresh : Bool) (bs : List ℕ) → 0 < length bs → SomeFront fresh bs
some_front fresh bs h = by_blank (blank (slice_index bs 0)) refl
  where
    by_block : blank (slice_index bs 0) ≡ false → letter (slice_index bs 0) ≡ false → digit (slice_index bs 0) ≡ false
        → nat_eq (slice_index bs 0) 34 ≡ false → passes_line fresh bs ≡ false → (t : Bool) → starts_with nat_eq bs (codes "/*") ≡ t
        → (o : Option ℕ) → close_len (drop 2 bs) ≡ o → SomeFront fresh bs
    by_block b l d q p false is o c = (front_sign bs, front_other fresh bs h b l d q p is, sign_fits bs h)
    by_block b l d q p true is None c = (OpenComment, open_front fresh bs is c, tt)
    by_block b l d q p true is (Some n) c =
        let w = close_within (drop 2 bs) n c in
        let front = block_front fresh bs n is c in
        let long = length-take (n + 2) bs in
        let some = passed_some fresh (take (n + 2) bs) (drop (n + 2) bs) front in
        (Passed (n + 2), front, (omega arith, block_fits n w (starts_two is)))
      where
        starts_two : starts_with nat_eq bs (codes "/*") ≡ true → 2 ≤ length bs
        starts_two s = let row = ap length (starts (codes "/*") bs s) in omega (arith, row)

        block_fits : (n : ℕ) → n ≤ length (drop 2 bs) → 2 ≤ length bs → n + 2 ≤ length bs
        block_fits n w two = let long = length-drop 2 bs in omega (arith, w, two, long)

    by_line : blank (slice_index bs 0) ≡ false → letter (slice_index bs 0) ≡ false → digit (slice_index bs 0) ≡ false
        → nat_eq (slice_index bs 0) 34 ≡ false → (t : Bool) → passes_line fresh bs ≡ t → SomeFront fresh bs
    by_line b l d q true is =
        let n = prefix_len in_line bs in
        let front = line_front fresh bs is in
        let some = passed_some fresh (take n bs) (drop n bs) front in
        let fits = prefix_len-le-length in_line bs in
        let long = length-take n bs in
        (Passed n, front, (omega (arith, some, long, fits), fits))
    by_line b l d q false is = by_block b l d q is (starts_with nat_eq bs (codes "/*")) refl (close_len (drop 2 bs)) refl

    by_quote : blank (slice_index bs 0) ≡ false → letter (slice_index bs 0) ≡ false → digit (slice_index bs 0) ≡ false → (t : Bool) → nat_eq (slice_index bs 0) 34 ≡ t → SomeFront fresh bs
    by_quote b l d true is = let f = text_found bs h (eqb-true (slice_index bs 0) 34 is) in (f.0, text_is_front fresh bs f.0 f.2 f.1, f.2)
    by_quote b l d false is = by_line b l d is (passes_line fresh bs) refl

    by_digit : blank (slice_index bs 0) ≡ false → letter (slice_index bs 0) ≡ false → (t : Bool) → digit (slice_index bs 0) ≡ t → SomeFront fresh bs
    by_digit b l true is = (front_figure bs, front_digit fresh bs h is, figure_fits bs h is)
    by_digit b l false is = by_quote b l is (nat_eq (slice_index bs 0) 34) refl

    by_letter : blank (slice_index bs 0) ≡ false → (t : Bool) → letter (slice_index bs 0) ≡ t → SomeFront fresh bs
    by_letter b true is = (front_word (take (prefix_len part bs) bs), front_letter fresh bs h is, name_within bs h is)
    by_letter b false is = by_digit b is (digit (slice_index bs 0)) refl

    by_blank : (t : Bool) → blank (slice_index bs 0) ≡ t → SomeFront fresh bs
    by_blank true is = (Passed 1, front_blank fresh bs h is, (omega arith, h))
    by_blank false is = by_letter is (letter (slice_index bs 0)) refl
