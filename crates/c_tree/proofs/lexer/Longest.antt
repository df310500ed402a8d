-- The longest form at the front.
use Rattle.std.proofs.Common.{◌≡◌, ◌≢◌, ℕ, ◌≤◌, Bool, true, false, cond, List, [], ◌∷◌, ◌++◌, length, take, drop, Option, Some, None, find, refl, sym, ap, subst, ◌∙◌, arith, nat_eq, nat_lt, zero-le, take-append-drop, pos, append_assoc, inl}
use Rattle.std.specs.List.{list_all, prefix_len, starts_with}
use Rattle.std.specs.Str.{bytes_eq}
use Rattle.std.proofs.Math.Numerals.{one-add}
use Rattle.std.proofs.lemmas.List.{length-take}
use Rattle.std.proofs.lemmas.Slice.Eq.{bytes_eq-Decides}
use Rattle.std.proofs.lemmas.Bool.{eqb-true, eq-eqb, ltb-false, ltb-true, true≢false}
use Rattle.std.proofs.lemmas.List.Sums.{prefix_len-le-length}
use Rattle.std.proofs.lemmas.Bool.Decides.{nat_tests}
use Rattle.c_tree.specs.declared.lexer.tokens.Kind.{Kind}
use Rattle.c_tree.specs.declared.lexer.tokens.Kind.TheVariants as kind
use Rattle.c_tree.specs.declared.lexer.tokens.Sign.{Sign}
use Rattle.c_tree.specs.declared.lexer.tokens.Word.{Word}
use Rattle.c_tree.specs.declared.lexer.spelling.TheConstants.{SIGNS, WORDS}
use Rattle.c_tree.specs.declared.lexer.front.Front.TheVariants.{Token, TooLarge}
use Rattle.c_tree.specs.Spelling.{sign_spelling, word_spelling, letter, digit, part, value_of, IsName, IsFigure, textual, all_escaped, text_spelling, HasForm}
use Rattle.c_tree.specs.Lexed.{NoLonger, BeginsNoComment, IsLongest, IsPassed}
use Rattle.c_tree.specs.Front.{IsFront, word_or, front_word, sign_or, front_sign, figure_size, front_figure}
use Rattle.c_tree.proofs.lexer.Runs.{all_of_prefix, prefix_at_least}
use Rattle.c_tree.proofs.lexer.Fits.{sign_prefix, figure_some}
use Rattle.c_tree.proofs.lexer.Units.{units_one}
use Rattle.c_tree.proofs.lexer.Forms.{no_word, sign_found, BeginsSign, Begins, begins, not_empty, name_begins, figure_begins, text_begins, sign_begins_as}
use Rattle.lemmas.proofs.Lists.{find_passes}

pub taken : (n : ℕ) (bs : List ℕ) → n ≤ length bs → length (take n bs) ≡ n
taken n bs h = simp length-take (omega arith)

-- a token that is as long as any form at the front
pub longest_at : (bs : List ℕ) (k : Kind) (l : ℕ) → l ≤ length bs → HasForm k (take l bs) → NoLonger bs l → BeginsNoComment bs → IsLongest k (take l bs) (drop l bs)
longest_at bs k l w f n c =
    let whole = sym (take-append-drop l bs) in
    record {
      form = f;
      longest = subst (λ z. NoLonger z (length (take l bs))) whole (subst (NoLonger bs) (sym (taken l bs w)) n);
      no_comment = subst BeginsNoComment whole c;
    }

no_slash : (b : ℕ) (bs : List ℕ) → nat_eq b 47 ≡ false → BeginsNoComment (b ∷ bs)
no_slash b bs h =
    (λ rest e. true≢false (sym (eq-eqb b 47 (let same : b ≡ 47 = cc in same)) ∙ h), λ rest e. true≢false (sym (eq-eqb b 47 (let same : b ≡ 47 = cc in same)) ∙ h))

letter_slash : (b : ℕ) → letter b ≡ true → nat_eq b 47 ≡ false
letter_slash b h = grind (arith, nat_tests)

digit_slash : (b : ℕ) → digit b ≡ true → nat_eq b 47 ≡ false
digit_slash b h = grind (arith, nat_tests)

named_parts : (b : ℕ) (bs : List ℕ) → IsName (b ∷ bs) → list_all part (b ∷ bs) ≡ true
named_parts b bs h = rw (h.0, h.1) refl

name_longest : (b : ℕ) (bs : List ℕ) → letter b ≡ true → NoLonger (b ∷ bs) (prefix_len part (b ∷ bs))
name_longest b bs h k [] rest f e = zero-le
name_longest b bs h k (c ∷ s) rest f e =
    let same : b ≡ c = cc in
    let named = name_begins k b h (subst (Begins k) (sym same) (begins k c s f)) (c ∷ s) f in
    subst (λ z. length (c ∷ s) ≤ prefix_len part z) (sym e) (prefix_at_least part (c ∷ s) rest (named_parts c s named))

figure_reach : (b : ℕ) (bs rest : List ℕ) → IsFigure (b ∷ bs) → length (b ∷ bs) ≤ figure_size (b ∷ (bs ++ rest))
figure_reach b [] rest h = (figure_some b rest h).0
figure_reach b (c ∷ bs) rest h =
    let all : list_all digit (b ∷ c ∷ bs) ≡ true = rw (h.0, h.2) refl in
    subst (λ t. length (b ∷ c ∷ bs) ≤ cond t 1 (prefix_len digit (b ∷ c ∷ (bs ++ rest)))) (sym (not_equal b 48 h.1)) (prefix_at_least digit (b ∷ c ∷ bs) rest all)
  where
    not_equal : (x y : ℕ) → x ≢ y → nat_eq x y ≡ false
    not_equal x y h = by_test (nat_eq x y) refl
      where
        by_test : (t : Bool) → nat_eq x y ≡ t → t ≡ false
        by_test true e = absurd (h (eqb-true x y e))
        by_test false e = refl

figure_longest : (b : ℕ) (bs : List ℕ) → digit b ≡ true → NoLonger (b ∷ bs) (figure_size (b ∷ bs))
figure_longest b bs h k [] rest f e = zero-le
figure_longest b bs h k (c ∷ s) rest f e =
    let same : b ≡ c = cc in
    let figure = figure_begins k b h (subst (Begins k) (sym same) (begins k c s f)) (c ∷ s) f in
    subst (λ z. length (c ∷ s) ≤ figure_size z) (sym e) (figure_reach c s rest figure)

abbrev find_sign : List ℕ → Option Sign
find_sign bs = find (λ z. starts_with nat_eq bs (sign_spelling z)) SIGNS

-- a form where a sign may begin
sign_there : (b : ℕ) (bs : List ℕ) → BeginsSign b → (k : Kind) (c : ℕ) (s rest : List ℕ) → HasForm k (c ∷ s) → b ∷ bs ≡ (c ∷ s) ++ rest
    → (t : Sign) × (find_sign (b ∷ bs) ≡ Some t) × (length (c ∷ s) ≤ length (sign_spelling t))
sign_there b bs h k c s rest f e =
    let same : b ≡ c = cc in
    let r = sign_begins_as k b h (subst (Begins k) (sym same) (begins k c s f)) (c ∷ s) f in
    let found = sign_found r.0 rest in
    let row : b ∷ bs ≡ sign_spelling r.0 ++ rest = e ∙ ap (λ z. z ++ rest) r.1 in
    (found.0, ap find_sign row ∙ found.1, subst (λ z. length z ≤ length (sign_spelling found.0)) (sym r.1) found.2)

sign_longest : (b : ℕ) (bs : List ℕ) → BeginsSign b → (t : Sign) → find_sign (b ∷ bs) ≡ Some t → NoLonger (b ∷ bs) (length (sign_spelling t))
sign_longest b bs h t g k [] rest f e = zero-le
sign_longest b bs h t g k (c ∷ s) rest f e =
    let r = sign_there b bs h k c s rest f e in
    let same : r.0 ≡ t = some_same r.0 t (sym r.1 ∙ g) in
    subst (λ z. length (c ∷ s) ≤ length (sign_spelling z)) same r.2
  where
    some_same : (u v : Sign) → ◌≡◌ {A = Option Sign} (Some u) (Some v) → u ≡ v
    some_same u v q = cc

sign_none : (b : ℕ) (bs : List ℕ) → BeginsSign b → find_sign (b ∷ bs) ≡ None → (k : Kind) (s rest : List ℕ) → HasForm k s → b ∷ bs ≢ s ++ rest
sign_none b bs h g k [] rest f e = not_empty k f
sign_none b bs h g k (c ∷ s) rest f e =
    let r = sign_there b bs h k c s rest f e in
    none_some r.0 (sym g ∙ r.1)
  where
    none_some : (u : Sign) → ◌≡◌ {A = Option Sign} None (Some u) → ⊥
    none_some u q = cc

-- a text, and what stands behind it
pub text_row : (t rest : List ℕ) → text_spelling t ++ rest ≡ 34 ∷ (all_escaped t ++ 34 ∷ rest)
text_row t rest = ap (λ z. 34 ∷ z) (append_assoc (all_escaped t) (34 ∷ []) rest)

pub text_one : (t u r q : List ℕ) → list_all textual t ≡ true → list_all textual u ≡ true → text_spelling t ++ r ≡ text_spelling u ++ q → t ≡ u
text_one t u r q h g e =
    let row = sym (text_row t r) ∙ e ∙ text_row u q in
    (units_one t u (34 ∷ r) (34 ∷ q) h g refl refl (let z : all_escaped t ++ 34 ∷ r ≡ all_escaped u ++ 34 ∷ q = cc in z)).0

pub text_longest : (t rest : List ℕ) → list_all textual t ≡ true → NoLonger (text_spelling t ++ rest) (length (text_spelling t))
text_longest t rest h k [] more f e = zero-le
text_longest t rest h k (c ∷ s) more f e =
    let row = sym (text_row t rest) ∙ e in
    let same : 34 ≡ c = cc in
    let r = text_begins k c (sym same) (begins k c s f) (c ∷ s) f in
    let one = text_one t r.0 rest more h r.1.1 (e ∙ ap (λ z. z ++ more) r.1.0) in
    omega (arith, ap length r.1.0, ap (λ z. length (text_spelling z)) one)

pub text_front : (fresh : Bool) (bs : List ℕ) (t : List ℕ) (l : ℕ) → l ≤ length bs → HasForm (kind.Text t) (take l bs) → IsFront fresh bs (Token (kind.Text t) l)
text_front fresh bs t l w f =
    let whole : bs ≡ text_spelling t ++ drop l bs = sym (take-append-drop l bs) ∙ ap (λ z. z ++ drop l bs) f.0 in
    let size : length (text_spelling t) ≡ l = ap length (sym f.0) ∙ taken l bs w in
    let long : NoLonger bs l = subst (λ z. NoLonger z l) (sym whole) (subst (NoLonger (text_spelling t ++ drop l bs)) size (text_longest t (drop l bs) f.1)) in
    let quiet : BeginsNoComment bs = subst BeginsNoComment (sym (whole ∙ text_row t (drop l bs))) (no_slash 34 _ refl) in
    (longest_at bs (kind.Text t) l w f long quiet, tt)

name_shape : (b : ℕ) (bs : List ℕ) → letter b ≡ true → IsName (take (prefix_len part (b ∷ bs)) (b ∷ bs))
name_shape b bs h = rw (h, one-add (prefix_len part bs)) (h, all_of_prefix part bs)

-- a word or a name
pub word_front : (fresh : Bool) (b : ℕ) (bs : List ℕ) → letter b ≡ true → IsFront fresh (b ∷ bs) (front_word (take (prefix_len part (b ∷ bs)) (b ∷ bs)))
unfolding front_word
word_front fresh b bs h = by_word (find (λ w. bytes_eq s (word_spelling w)) WORDS) refl
  where
    n : ℕ
    n = prefix_len part (b ∷ bs)

    s : List ℕ
    s = take n (b ∷ bs)

    fits : n ≤ length (b ∷ bs)
    fits = prefix_len-le-length part (b ∷ bs)

    at : (k : Kind) → HasForm k s → IsLongest k s (drop n (b ∷ bs))
    at k f = longest_at (b ∷ bs) k n fits f (name_longest b bs h) (no_slash b bs (letter_slash b h))

    by_word : (f : Option Word) → find (λ w. bytes_eq s (word_spelling w)) WORDS ≡ f → IsFront fresh (b ∷ bs) (word_or f s)
    by_word (Some v) e =
        let is : s ≡ word_spelling v = (bytes_eq-Decides s (word_spelling v)).0 (find_passes (λ w. bytes_eq s (word_spelling w)) WORDS v e) in
        subst (λ z. IsFront fresh (b ∷ bs) (Token (kind.Word v) z)) (sym (taken n (b ∷ bs) fits)) (at (kind.Word v) is, tt)
    by_word None e =
        subst (λ z. IsFront fresh (b ∷ bs) (Token (kind.Name s) z)) (sym (taken n (b ∷ bs) fits)) (at (kind.Name s) (refl, name_shape b bs h, no_word s e), tt)

figure_shape : (b : ℕ) (bs : List ℕ) → digit b ≡ true → IsFigure (take (figure_size (b ∷ bs)) (b ∷ bs))
figure_shape b bs d = by_zero (nat_eq b 48) refl
  where
    by_rest : (xs : List ℕ) → b ≢ 48 → list_all digit xs ≡ true → IsFigure (b ∷ xs)
    by_rest [] n a = d
    by_rest (c ∷ xs) n a = (d, n, a)

    by_zero : (t : Bool) → nat_eq b 48 ≡ t → IsFigure (take (cond t 1 (prefix_len digit (b ∷ bs))) (b ∷ bs))
    by_zero true e = d
    by_zero false e =
        let other : b ≢ 48 = λ q. true≢false (sym (eq-eqb b 48 q) ∙ e) in
        rw (d, one-add (prefix_len digit bs)) (by_rest (take (prefix_len digit bs) bs) other (all_of_prefix digit bs))

-- a number
pub figure_front : (fresh : Bool) (b : ℕ) (bs : List ℕ) → digit b ≡ true → IsFront fresh (b ∷ bs) (front_figure (b ∷ bs))
figure_front fresh b bs d = by_size (nat_lt v 2147483648) refl
  where
    n : ℕ
    n = figure_size (b ∷ bs)

    s : List ℕ
    s = take n (b ∷ bs)

    v : ℕ
    v = value_of s

    fits : n ≤ length (b ∷ bs)
    fits = (figure_some b bs d).1

    by_size : (t : Bool) → nat_lt v 2147483648 ≡ t → IsFront fresh (b ∷ bs) (cond t (Token (kind.Number (pos v)) n) TooLarge)
    by_size true e =
        (longest_at (b ∷ bs) (kind.Number (pos v)) n fits (figure_shape b bs d, refl) (figure_longest b bs d) (no_slash b bs (digit_slash b d)), ltb-true v 2147483648 e)
    by_size false e = record {
      figure = s;
      rest = drop n (b ∷ bs);
      cut = sym (take-append-drop n (b ∷ bs));
      form = figure_shape b bs d;
      longest = subst (NoLonger (b ∷ bs)) (sym (taken n (b ∷ bs) fits)) (figure_longest b bs d);
      large = ltb-false v 2147483648 e;
    }

-- a sign, or nothing
pub sign_front : (fresh : Bool) (b : ℕ) (bs : List ℕ) → BeginsSign b → BeginsNoComment (b ∷ bs)
    → ((s rest : List ℕ) → IsPassed fresh s rest → b ∷ bs ≢ s ++ rest) → IsFront fresh (b ∷ bs) (front_sign (b ∷ bs))
unfolding front_sign
sign_front fresh b bs h c p = by_sign (find_sign (b ∷ bs)) refl
  where
    by_sign : (f : Option Sign) → find_sign (b ∷ bs) ≡ f → IsFront fresh (b ∷ bs) (sign_or f)
    by_sign (Some t) e =
        let is = sign_prefix (b ∷ bs) t (find_passes (λ s. starts_with nat_eq (b ∷ bs) (sign_spelling s)) SIGNS t e) in
        let size : length (take (length (sign_spelling t)) (b ∷ bs)) ≡ length (sign_spelling t) = ap length is in
        let fits : length (sign_spelling t) ≤ length (b ∷ bs) = omega (arith, size, length-take (length (sign_spelling t)) (b ∷ bs)) in
        (longest_at (b ∷ bs) (kind.Sign t) (length (sign_spelling t)) fits is (sign_longest b bs h t e) c, tt)
    by_sign None e =
        inl (
          refl,
          record {
            some = λ q. (let z : ⊥ = cc in z);
            no_token = sign_none b bs h e;
            no_passed = p;
            no_comment = c;
            no_text = λ rest q. true≢false (sym (eq-eqb b 34 (let same : b ≡ 34 = cc in same)) ∙ h.no_quote);
          },
        )
