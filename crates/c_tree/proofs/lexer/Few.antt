-- There are no more tokens than bytes.
use Rattle.std.proofs.Common.{◌≡◌, ℕ, ◌+◌, ◌≤◌, Bool, true, false, List, [], ◌∷◌, length, Ok, ap, arith, length-append}
use Rattle.c_tree.specs.declared.lexer.tokens.Kind.{Kind}
use Rattle.c_tree.specs.declared.lexer.tokens.Pos.{Pos}
use Rattle.c_tree.specs.declared.lexer.tokens.Token.{Token as Lexeme}
use Rattle.c_tree.specs.Spelling.{HasForm}
use Rattle.c_tree.specs.Lexed.{advance, start, Stop, AtEnd, AtBadByte, AtOpenComment, AtOpenText, AtNumberTooLarge, Part, Passed, Spelled, is_fresh_behind, is_number_part, AreParts, tokens_of, Outcome, outcome_of, Lexes}
use Rattle.c_tree.proofs.lexer.Forms.{not_empty}

spelled_some : (k : Kind) (s : List ℕ) → HasForm k s → 1 ≤ length s
spelled_some k [] f = absurd (not_empty k f)
spelled_some k (b ∷ s) f = omega arith

few_parts : (stop : Stop) (fresh number : Bool) (bs : List ℕ) (xs : List Part) (n : ℕ) (p : Pos) → AreParts stop fresh number bs xs → length (tokens_of n p xs) ≤ length bs
few_parts stop fresh number bs [] n p a = omega arith
few_parts stop fresh number bs (Passed s ∷ xs) n p a =
    let h = few_parts stop (is_fresh_behind fresh (Passed s)) false a.1.0 xs (n + length s) (advance p s) a.1.3 in
    let whole = ap length a.1.1 in
    let long = length-append s a.1.0 in
    omega (arith, h, whole, long)
few_parts stop fresh number bs (Spelled k s ∷ xs) n p a =
    let h = few_parts stop (is_fresh_behind fresh (Spelled k s)) (is_number_part (Spelled k s)) a.1.0 xs (n + length s) (advance p s) a.1.3 in
    let whole = ap length a.1.1 in
    let long = length-append s a.1.0 in
    let some = spelled_some k s a.1.2.0.form in
    omega (arith, h, whole, long, some)

pub tokens_are_few : (bytes : List ℕ) (tokens : List Lexeme) → Lexes bytes (Ok tokens) → length tokens ≤ length bytes
tokens_are_few bytes tokens l = by_stop l.stop l.gives (few_parts l.stop true false bytes l.parts 0 start l.are)
  where
    by_stop : (stop : Stop) → ◌≡◌ {A = Outcome} (Ok tokens) (outcome_of l.parts stop) → length (tokens_of 0 start l.parts) ≤ length bytes → length tokens ≤ length bytes
    by_stop AtEnd e h = let same : tokens ≡ tokens_of 0 start l.parts = cc in rw same h
    by_stop (AtBadByte good) e h = let bad : ⊥ = cc in absurd bad
    by_stop AtOpenComment e h = let bad : ⊥ = cc in absurd bad
    by_stop AtOpenText e h = let bad : ⊥ = cc in absurd bad
    by_stop AtNumberTooLarge e h = let bad : ⊥ = cc in absurd bad
