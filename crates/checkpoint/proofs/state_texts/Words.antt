-- Bytes of words and lines: none of them ends a line or a word.
use Rattle.std.proofs.Common.{◌≡◌, ℕ, ℤ, pos, suc, zero, ◌+◌, ◌<◌, ◌/◌, ◌%◌, refl, sym, ap, ◌∙◌, arith, List, [], ◌∷◌, ◌++◌, append_assoc, length, get_or, Bool, true, false, not, nat_eq, nat_lt, Option, Some, None, Result, Ok, Err}
use Rattle.std.specs.Prelude.{◌||◌, ◌==◌, if◌then◌else◌}
use Rattle.std.specs.List.{All, list_all, join_with_byte}
use Rattle.std.specs.Char.{is_ascii_digit}
use Rattle.std.specs.Fmt.{decimal, digits, digits_onto, digit_glyph}
use Rattle.std.proofs.lemmas.Bool.{false≢true, and_from}
use Rattle.std.proofs.lemmas.Bool.Decides.{nat_tests}
use Rattle.std.proofs.lemmas.List.Sums.{AllPass-from_list_all}
use Rattle.op_num.specs.Spelling.{integer_of, i32_judged}
use Rattle.op_num.specs.declared.refusals.NumRefusal.{NumRefusal}
use Rattle.op_num.specs.Cut.{dark}
use Rattle.op_num.specs.Lines.{line_of}
use Rattle.op_num.proofs.Public.{integer_token}
use Rattle.op_num.specs.CutLines.{is_lf, HasNoLf, HasNoSpace}
use Rattle.checkpoint.specs.Reading.{Spell, words_line}

-- ---- bytes

pub no_lf_nil : HasNoLf []
no_lf_nil k d l = absurd (omega arith)

pub no_lf_cons : (x : ℕ) (xs : List ℕ) → is_lf x ≡ false → HasNoLf xs → HasNoLf (x ∷ xs)
no_lf_cons x xs h t zero d l = h
no_lf_cons x xs h t (suc k) d l = t k d (omega arith)

pub no_lf_append : (xs ys : List ℕ) → HasNoLf xs → HasNoLf ys → HasNoLf (xs ++ ys)
no_lf_append [] ys h t = t
no_lf_append (x ∷ xs) ys h t = no_lf_cons x (xs ++ ys) (h zero 0 (omega arith)) (no_lf_append xs ys (λ k d l. h (suc k) d (omega arith)) t)

dark_not : (x : ℕ) (s t : Bool) → nat_eq x 32 ≡ s → nat_eq x 10 ≡ t → dark x ≡ true → (s ≡ false) × (t ≡ false)
dark_not x false false es et h = (refl, refl)
dark_not x true t es et h = absurd (false≢true (sym (ap (λ z. not (z || nat_eq x 9 || nat_eq x 13 || nat_eq x 10)) es) ∙ h))
dark_not x false true es et h = absurd (false≢true (sym (ap (λ z. not (nat_eq x 32 || nat_eq x 9 || nat_eq x 13 || z)) et ∙ or_true (nat_eq x 32 || nat_eq x 9 || nat_eq x 13)) ∙ h))
  where
    or_true : (b : Bool) → not (b || true) ≡ false
    or_true true = refl
    or_true false = refl

pub dark_no_lf : (w : List ℕ) → list_all dark w ≡ true → HasNoLf w
dark_no_lf w h k d l = (dark_not (get_or w k d) (nat_eq (get_or w k d) 32) (nat_eq (get_or w k d) 10) refl refl (AllPass-from_list_all dark w h k d l)).1

pub dark_no_space : (w : List ℕ) → list_all dark w ≡ true → HasNoSpace w
dark_no_space w h k d l = (dark_not (get_or w k d) (nat_eq (get_or w k d) 32) (nat_eq (get_or w k d) 10) refl refl (AllPass-from_list_all dark w h k d l)).0

-- ---- digits

abbrev AreDigits : List ℕ → Type 0
AreDigits ds = list_all is_ascii_digit ds ≡ true

glyph_digit : (d : ℕ) (acc : List ℕ) → d < 10 → AreDigits acc → AreDigits (digit_glyph false d ∷ acc)
glyph_digit d acc l h = by (nat_lt d 10) refl
  where
    by : (t : Bool) → nat_lt d 10 ≡ t → AreDigits ((if t then 48 + d else 87 + d) ∷ acc)
    by true e = let b : is_ascii_digit (48 + d) ≡ true = grind (arith, nat_tests) in and_from (is_ascii_digit (48 + d)) (list_all is_ascii_digit acc) b h
    by false e = absurd (grind (arith, nat_tests))

one_of : (t : Bool) (xs ys : List ℕ) → AreDigits xs → AreDigits ys → AreDigits (if t then xs else ys)
one_of true xs ys h i = h
one_of false xs ys h i = i

onto_digits : (k n : ℕ) (acc : List ℕ) → AreDigits acc → AreDigits (digits_onto k 10 false n acc)
onto_digits zero n acc h = h
onto_digits (suc k) n acc h =
    let small : n % 10 < 10 = omega arith in
    let last : AreDigits (digit_glyph false (n % 10) ∷ acc) = glyph_digit (n % 10) acc small h in
    one_of (n / 10 == 0) (digit_glyph false (n % 10) ∷ acc) (digits_onto k 10 false (n / 10) (digit_glyph false (n % 10) ∷ acc)) last
    (onto_digits k (n / 10) (digit_glyph false (n % 10) ∷ acc) last)

pub decimal_digits : (n : ℕ) → list_all is_ascii_digit (decimal n) ≡ true
unfolding digits
decimal_digits n = onto_digits 64 n [] refl

digit_not_lf : (x : ℕ) → is_ascii_digit x ≡ true → is_lf x ≡ false
digit_not_lf x h = grind (arith, nat_tests)

pub decimal_no_lf : (n : ℕ) → HasNoLf (decimal n)
decimal_no_lf n k d l = digit_not_lf (get_or (decimal n) k d) (AllPass-from_list_all is_ascii_digit (decimal n) (decimal_digits n) k d l)

-- ---- what nothing stands in

-- ---- lines

pub line_no_lf : (xs ys : List ℕ) → HasNoLf (xs ++ 10 ∷ ys) → ⊥
line_no_lf [] ys h = false≢true (sym (h zero 0 (omega arith)))
line_no_lf (x ∷ xs) ys h = line_no_lf xs ys (λ k d l. h (suc k) d (omega arith))

-- ---- words that spell integers

ok_none : (z : ℤ) → i32_judged None ≡ Ok z → ⊥
ok_none z e = cc

spelled : (w : List ℕ) (z : ℤ) (o : Option ℤ) → integer_of w ≡ o → i32_judged o ≡ Ok z → list_all dark w ≡ true
spelled w z None e h = absurd (ok_none z h)
spelled w z (Some y) e h = (integer_token w y e).1

pub spelled_dark : (w : List ℕ) (z : ℤ) → i32_judged (integer_of w) ≡ Ok z → list_all dark w ≡ true
spelled_dark w z h = spelled w z (integer_of w) refl h

-- each is dark
abbrev pub AllDark : List (List ℕ) → Type 0
AllDark [] = Unit {0}
AllDark (w ∷ ws) = (list_all dark w ≡ true) × AllDark ws

pub spell_dark : (ws : List (List ℕ)) (zs : List ℤ) → Spell ws zs → AllDark ws
spell_dark [] zs h = tt
spell_dark (w ∷ ws) [] h = absurd h
spell_dark (w ∷ ws) (z ∷ zs) h = (spelled_dark w z h.0, spell_dark ws zs h.1)

pub dark_spaces : (ws : List (List ℕ)) → AllDark ws → All HasNoSpace ws
dark_spaces [] h k d l = absurd (omega arith)
dark_spaces (w ∷ ws) h zero d l = dark_no_space w h.0
dark_spaces (w ∷ ws) h (suc k) d l = dark_spaces ws h.1 k d (omega arith)

-- words between single spaces
abbrev pub row : List (List ℕ) → List ℕ
row ws = join_with_byte 32 ws

row_line : (w : List ℕ) (ws : List (List ℕ)) → line_of (w ∷ ws) ≡ row (w ∷ ws) ++ 10 ∷ []
row_line w [] = refl
row_line w (v ∷ vs) = ap (λ z. w ++ 32 ∷ z) (row_line v vs) ∙ sym (append_assoc w (32 ∷ row (v ∷ vs)) (10 ∷ []))

pub words_row : (ws : List (List ℕ)) → words_line ws ≡ row ws ++ 10 ∷ []
words_row [] = refl
words_row (w ∷ ws) = row_line w ws

pub row_no_lf : (ws : List (List ℕ)) → AllDark ws → HasNoLf (row ws)
row_no_lf [] h = no_lf_nil
row_no_lf (w ∷ []) h = dark_no_lf w h.0
row_no_lf (w ∷ v ∷ vs) h = no_lf_append w (32 ∷ row (v ∷ vs)) (dark_no_lf w h.0) (no_lf_cons 32 (row (v ∷ vs)) refl (row_no_lf (v ∷ vs) h.1))

-- ---- one value each

abbrev ok_or_zero : Result ℤ NumRefusal → ℤ
ok_or_zero (Ok z) = z
ok_or_zero (Err e) = pos 0

ok_same : (y z : ℤ) (r : Result ℤ NumRefusal) → r ≡ Ok y → r ≡ Ok z → y ≡ z
ok_same y z r e f = ap ok_or_zero (sym e ∙ f)

pub spell_one : (ws : List (List ℕ)) (ys zs : List ℤ) → Spell ws ys → Spell ws zs → ys ≡ zs
spell_one [] [] [] h k = refl
spell_one [] [] (z ∷ zs) h k = absurd k
spell_one [] (y ∷ ys) zs h k = absurd h
spell_one (w ∷ ws) [] zs h k = absurd h
spell_one (w ∷ ws) (y ∷ ys) [] h k = absurd k
spell_one (w ∷ ws) (y ∷ ys) (z ∷ zs) h k = rw (ok_same y z (i32_judged (integer_of w)) h.0 k.0) (ap (λ l. z ∷ l) (spell_one ws ys zs h.1 k.1))

pub spell_long : (ws : List (List ℕ)) (zs : List ℤ) → Spell ws zs → length ws ≡ length zs
spell_long [] [] h = refl
spell_long [] (z ∷ zs) h = absurd h
spell_long (w ∷ ws) [] h = absurd h
spell_long (w ∷ ws) (z ∷ zs) h = let e = spell_long ws zs h.1 in omega arith

pub spell_push : (ws : List (List ℕ)) (zs : List ℤ) (w : List ℕ) (z : ℤ) → i32_judged (integer_of w) ≡ Ok z → Spell ws zs → Spell (ws ++ w ∷ []) (zs ++ z ∷ [])
spell_push [] [] w z e h = (e, tt)
spell_push [] (y ∷ ys) w z e h = absurd h
spell_push (v ∷ vs) [] w z e h = absurd h
spell_push (v ∷ vs) (y ∷ ys) w z e h = (h.0, spell_push vs ys w z e h.1)
