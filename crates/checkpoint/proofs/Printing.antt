-- What `op_printf` makes of a text, and the text of a state.
use Rattle.std.proofs.Common.{◌≡◌, ◌+◌, ◌/◌, ◌%◌, ◌++◌, ℕ, zero, suc, ℤ, Bool, true, false, List, [], ◌∷◌, length, map, drop, refl, sym, ap, ◌∙◌, subst, arith, ⊎_elim, eqb-true}
use Rattle.std.specs.Prelude.{not, ◌&&◌, ◌==◌, nat_eq, nat_lt, codes, if◌then◌else◌}
use Rattle.std.specs.List.{list_all}
use Rattle.std.specs.Fmt.{decimal, signed_decimal, digits, digits_onto, digit_glyph}
use Rattle.std.proofs.lemmas.Bool.{cases_Bool, and_from, and_parts}
use Rattle.std.proofs.lemmas.List.{append-nil}
use Rattle.std.proofs.lemmas.List.Folds.{list_all-append}
use Rattle.op_num.specs.Lines.{line_of, separator}
use Rattle.mesh_decl.specs.Printed.{printed_line, shown}
use Rattle.checkpoint.specs.Cut.{more_places, places}
use Rattle.checkpoint.specs.StateText.{values_text, var_text}

-- no `%`
abbrev pub plain : ℕ → Bool
plain c = not (nat_eq c 37)

abbrev pub IsPlain : List ℕ → Type 0
IsPlain xs = list_all plain xs ≡ true

pub both_plain : (xs ys : List ℕ) → IsPlain xs → IsPlain ys → IsPlain (xs ++ ys)
both_plain xs ys a b = list_all-append plain xs ys ∙ and_from (list_all plain xs) (list_all plain ys) a b

figure_plain : (n : ℕ) → IsPlain ((48 + n) ∷ [])
figure_plain n = ⊎_elim
    (λ (t : nat_eq (48 + n) 37 ≡ true). let e : 48 + n ≡ 37 = eqb-true (48 + n) 37 t in absurd (omega (arith, e)))
    (λ (f : nat_eq (48 + n) 37 ≡ false). and_from (plain (48 + n)) true (ap not f) refl)
    (cases_Bool (nat_eq (48 + n) 37))

glyph_plain : (d : ℕ) (acc : List ℕ) → IsPlain acc → IsPlain (digit_glyph false d ∷ acc)
glyph_plain d acc h = by (nat_lt d 10)
  where
    by : (t : Bool) → IsPlain ((if t then 48 + d else 87 + d) ∷ acc)
    by true = both_plain ((48 + d) ∷ []) acc (figure_plain d) h
    by false = both_plain ((87 + d) ∷ []) acc (let e : 48 + (39 + d) ≡ 87 + d = omega arith in subst (λ c. IsPlain (c ∷ [])) e (figure_plain (39 + d))) h

one_digit : (t : Bool) (xs ys : List ℕ) → IsPlain xs → IsPlain ys → IsPlain (if t then xs else ys)
one_digit true xs ys h i = h
one_digit false xs ys h i = i

digits_plain : (k n : ℕ) (acc : List ℕ) → IsPlain acc → IsPlain (digits_onto k 10 false n acc)
digits_plain zero n acc h = h
digits_plain (suc k) n acc h =
    let last : IsPlain (digit_glyph false (n % 10) ∷ acc) = glyph_plain (n % 10) acc h in
    one_digit (n / 10 == 0) (digit_glyph false (n % 10) ∷ acc) (digits_onto k 10 false (n / 10) (digit_glyph false (n % 10) ∷ acc)) last
    (digits_plain k (n / 10) (digit_glyph false (n % 10) ∷ acc) last)

pub decimal_plain : (n : ℕ) → IsPlain (decimal n)
unfolding digits
decimal_plain n = digits_plain 64 n [] refl

one_plain : (x : ℕ) (ds : List ℕ) (zs : List ℤ) → nat_eq x 37 ≡ false → printed_line (x ∷ ds) zs ≡ x ∷ printed_line ds zs
unfolding printed_line
one_plain x [] zs h = refl
one_plain x (d ∷ ds) zs h =
    ap (λ t. if t && nat_eq d 100 then shown zs ++ printed_line ds (drop 1 zs)
    else (if t && nat_eq d 37 then 37 ∷ printed_line ds zs else x ∷ printed_line (d ∷ ds) zs)) h

pub no_percent : (x : ℕ) → plain x ≡ true → nat_eq x 37 ≡ false
no_percent x h = by (nat_eq x 37) h
  where
    by : (t : Bool) → not t ≡ true → t ≡ false
    by false e = refl
    by true e = sym e

all_plain : (xs r : List ℕ) (zs : List ℤ) → IsPlain xs → printed_line (xs ++ r) zs ≡ xs ++ printed_line r zs
all_plain [] r zs h = refl
all_plain (x ∷ xs) r zs h =
    let k = and_parts (plain x) (list_all plain xs) h in
    one_plain x (xs ++ r) zs (no_percent x k.0) ∙ ap (λ w. x ∷ w) (all_plain xs r zs k.1)

none_left : (zs : List ℤ) → printed_line [] zs ≡ []
unfolding printed_line
none_left zs = refl

pub text_plain : (xs : List ℕ) → IsPlain xs → printed_line xs [] ≡ xs
text_plain xs h =
    ap (λ t. printed_line t []) (sym (append-nil xs)) ∙ (all_plain xs [] [] h ∙ (ap (λ t. xs ++ t) (none_left []) ∙ append-nil xs))

more_said : (is : List ℕ) (zs : List ℤ) → length is ≡ length zs
    → printed_line (more_places is ++ codes "\n") zs ≡ separator (map signed_decimal zs) ∷ line_of (map signed_decimal zs)
unfolding printed_line
more_said [] [] e = refl
more_said [] (z ∷ zs) e = absurd (let bad : 0 ≡ suc (length zs) = e in omega (arith, bad))
more_said (i ∷ is) [] e = absurd (let bad : suc (length is) ≡ 0 = e in omega (arith, bad))
more_said (i ∷ is) (z ∷ zs) e = ap (λ w. 32 ∷ (signed_decimal z ++ w)) (more_said is zs (let s : suc (length is) ≡ suc (length zs) = e in omega (arith, s)))

places_said : (is : List ℕ) (zs : List ℤ) → length is ≡ length zs → printed_line (places is) zs ≡ values_text zs
unfolding printed_line
places_said [] [] e = refl
places_said [] (z ∷ zs) e = absurd (let bad : 0 ≡ suc (length zs) = e in omega (arith, bad))
places_said (i ∷ is) [] e = absurd (let bad : suc (length is) ≡ 0 = e in omega (arith, bad))
places_said (i ∷ is) (z ∷ zs) e = ap (λ w. signed_decimal z ++ w) (more_said is zs (let s : suc (length is) ≡ suc (length zs) = e in omega (arith, s)))

pub first_plain : (k : ℕ) → IsPlain (codes "\nop2state 1\nitem " ++ decimal k ++ codes "\n")
first_plain k =
    both_plain (codes "\nop2state 1\nitem " ++ decimal k) (codes "\n") (both_plain (codes "\nop2state 1\nitem ") (decimal k) refl (decimal_plain k)) refl

pub last_plain : IsPlain (codes "done\n")
last_plain = refl

pub var_said : (n : ℕ) (is : List ℕ) (zs : List ℤ) → length is ≡ length zs
    → printed_line (codes "var " ++ decimal n ++ codes " " ++ decimal (length is) ++ codes "\n" ++ places is) zs ≡ var_text n zs
var_said n is zs count =
    all_plain (codes "var " ++ decimal n ++ codes " " ++ decimal (length is) ++ codes "\n") (places is) zs
    (both_plain (codes "var " ++ decimal n ++ codes " " ++ decimal (length is)) (codes "\n")
    (both_plain (codes "var " ++ decimal n ++ codes " ") (decimal (length is))
    (both_plain (codes "var " ++ decimal n) (codes " ") (both_plain (codes "var ") (decimal n) refl (decimal_plain n)) refl)
    (decimal_plain (length is)))
    refl)
    ∙ (ap (λ w. codes "var " ++ decimal n ++ codes " " ++ decimal (length is) ++ codes "\n" ++ w) (places_said is zs count)
    ∙ ap (λ m. codes "var " ++ decimal n ++ codes " " ++ decimal m ++ codes "\n" ++ values_text zs) count)
