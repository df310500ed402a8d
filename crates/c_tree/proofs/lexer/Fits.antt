-- What is found lies in the bytes.
use Rattle.std.proofs.Common.{◌≡◌, ℕ, ◌+◌, ◌≤◌, ◌<◌, Bool, true, false, cond, List, [], ◌∷◌, length, take, Option, Some, None, find, refl, sym, ap, arith, nat_eq, nat_lt, slice_index}
use Rattle.std.specs.List.{prefix_len, starts_with}
use Rattle.std.proofs.lemmas.List.{length-take}
use Rattle.std.proofs.lemmas.List.Sums.{prefix_len-le-length}
use Rattle.std.proofs.lemmas.Slice.Eq.{bytes_eq-Decides}
use Rattle.c_tree.specs.declared.lexer.tokens.Sign.{Sign}
use Rattle.c_tree.specs.declared.lexer.tokens.Sign.TheVariants as sign
use Rattle.c_tree.specs.declared.lexer.spelling.TheConstants.{SIGNS}
use Rattle.c_tree.specs.declared.lexer.tokens.Pos.{Pos}
use Rattle.c_tree.specs.declared.lexer.front.Front.TheVariants.{Token, TooLarge}
use Rattle.c_tree.specs.Spelling.{sign_spelling, digit, value_of}
use Rattle.c_tree.specs.Front.{LiesIn, front_sign, sign_or, front_figure, figure_size}
use Rattle.c_tree.specs.Lexed.{after_byte, advance}
use Rattle.lemmas.proofs.Lists.{find_passes}

-- the sign's bytes stand at the front
pub sign_prefix : (bs : List ℕ) (s : Sign) → starts_with nat_eq bs (sign_spelling s) ≡ true → take (length (sign_spelling s)) bs ≡ sign_spelling s
sign_prefix bs s h = sym ((bytes_eq-Decides (sign_spelling s) (take (length (sign_spelling s)) bs)).0 h)

pub sign_some : (s : Sign) → 1 ≤ length (sign_spelling s)
sign_some sign.LeftParen = omega arith
sign_some _ = omega arith

pub sign_fits : (bs : List ℕ) → 1 ≤ length bs → LiesIn (length bs) (front_sign bs)
unfolding front_sign
sign_fits bs h = by_sign (find (λ s. starts_with nat_eq bs (sign_spelling s)) SIGNS) refl
  where
    by_sign : (f : Option Sign) → find (λ s. starts_with nat_eq bs (sign_spelling s)) SIGNS ≡ f → LiesIn (length bs) (sign_or f)
    by_sign None e = h
    by_sign (Some s) e =
        let is = sign_prefix bs s (find_passes (λ s. starts_with nat_eq bs (sign_spelling s)) SIGNS s e) in
        let long : length (take (length (sign_spelling s)) bs) ≡ length (sign_spelling s) = ap length is in
        (sign_some s, omega (arith, long, length-take (length (sign_spelling s)) bs))

pub figure_some : (b : ℕ) (bs : List ℕ) → digit b ≡ true → (1 ≤ figure_size (b ∷ bs)) × (figure_size (b ∷ bs) ≤ length (b ∷ bs))
figure_some b bs d = by_zero (nat_eq b 48)
  where
    by_zero : (t : Bool) → (1 ≤ cond t 1 (prefix_len digit (b ∷ bs))) × (cond t 1 (prefix_len digit (b ∷ bs)) ≤ length (b ∷ bs))
    by_zero true = (omega arith, omega arith)
    by_zero false = (rw d (omega arith), prefix_len-le-length digit (b ∷ bs))

figure_lies : (t : Bool) (k : Rattle.c_tree.specs.declared.lexer.tokens.Kind.Kind) (n m : ℕ) → 1 ≤ n → n ≤ m → LiesIn m (cond t (Token k n) TooLarge)
figure_lies true k n m h g = (h, g)
figure_lies false k n m h g = tt

pub figure_fits : (bs : List ℕ) → 0 < length bs → digit (slice_index bs 0) ≡ true → LiesIn (length bs) (front_figure bs)
figure_fits [] h d = absurd (omega arith)
figure_fits (b ∷ bs) h d =
    let r = figure_some b bs d in
    figure_lies (nat_lt (value_of (take (figure_size (b ∷ bs)) (b ∷ bs))) 2147483648) _ (figure_size (b ∷ bs)) (length (b ∷ bs)) r.0 r.1

-- the lines and columns passed
pub advance_line : (p : Pos) (bs : List ℕ) → (advance p bs).line ≤ p.line + length bs
advance_line p [] = omega arith
advance_line p (b ∷ bs) = omega (arith, advance_line (after_byte p b) bs, by_test (nat_eq b 10))
  where
    by_test : (t : Bool) → (cond t (let q : Pos = record { line = p.line + 1; column = 1 } in q) (record { line = p.line; column = p.column + 1 })).line ≤ p.line + 1
    by_test true = omega arith
    by_test false = omega arith

pub advance_column : (p : Pos) (bs : List ℕ) → (advance p bs).column ≤ p.column + length bs
advance_column p [] = omega arith
advance_column p (b ∷ bs) = omega (arith, advance_column (after_byte p b) bs, by_test (nat_eq b 10))
  where
    by_test : (t : Bool) → (cond t (let q : Pos = record { line = p.line + 1; column = 1 } in q) (record { line = p.line; column = p.column + 1 })).column ≤ p.column + 1
    by_test true = omega arith
    by_test false = omega arith
