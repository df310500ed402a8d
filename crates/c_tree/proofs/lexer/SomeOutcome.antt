-- The bytes of a source have an outcome.
use Rattle.std.proofs.Common.{◌≡◌, ℕ, zero, suc, ◌+◌, ◌≤◌, ◌<◌, Bool, true, false, ◌&&◌, List, [], length, take, drop, slice_index, refl, arith, ◌⊎◌, inl, inr, length-drop}
use Rattle.std.proofs.lemmas.Bool.{cases_lt}
use Rattle.std.proofs.lemmas.List.{drop_all}
use Rattle.c_tree.specs.declared.lexer.tokens.Pos.{Pos}
use Rattle.c_tree.specs.declared.lexer.tokens.Token.{Token as Lexeme}
use Rattle.c_tree.specs.declared.lexer.front.Front.{Front}
use Rattle.c_tree.specs.declared.lexer.front.Front.TheVariants.{Passed, Token, BadByte, OpenComment, OpenText, TooLarge}
use Rattle.c_tree.specs.Spelling.{part}
use Rattle.c_tree.specs.Lexed.{start, IsApart, AtEnd, AtBadByte, AtOpenComment, AtOpenText, AtNumberTooLarge, Outcome, Lexes}
use Rattle.c_tree.specs.Front.{IsFront, LiesIn}
use Rattle.c_tree.proofs.lexer.Turns.{State, begins, passed_more, token_more, stops_here, clash_stops, apart, bad_stops}
use Rattle.c_tree.proofs.lexer.SomeFront.{some_front}

abbrev Some : List ℕ → Type 0
Some bs = (o : Outcome) × Lexes bs o

-- on from a later place
abbrev Later : List ℕ → ℕ → Type 0
Later bs n = (fresh number : Bool) (m : ℕ) (p : Pos) (ts : List Lexeme) → n < m → m ≤ length bs → State bs fresh number m p ts → Some bs

ended : (bs : List ℕ) (fresh number : Bool) (n : ℕ) (p : Pos) (ts : List Lexeme) → length bs ≤ n → State bs fresh number n p ts → Some bs
ended bs fresh number n p ts le s = (_, stops_here bs fresh number n p ts AtEnd (drop_all n bs le) s)

by_front : (bs : List ℕ) (fresh number : Bool) (n : ℕ) (p : Pos) (ts : List Lexeme) → n < length bs → State bs fresh number n p ts
    → (number ≡ true → IsApart (drop n bs)) → Later bs n → (f : Front) → IsFront fresh (drop n bs) f → LiesIn (length (drop n bs)) f
    → Some bs
by_front bs fresh number n p ts lt s clear on (Passed l) is w =
    let long = length-drop n bs in
    on _ _ (n + l) _ ts (omega (arith, w.0)) (omega (arith, w.1, long, lt)) (passed_more bs fresh number n p ts l w.1 clear is s)
by_front bs fresh number n p ts lt s clear on (Token k l) is w =
    let long = length-drop n bs in
    on _ _ (n + l) _ _ (omega (arith, w.0)) (omega (arith, w.1, long, lt)) (token_more bs fresh number n p ts k l w.1 clear is s)
by_front bs fresh number n p ts lt s clear on (BadByte l) is w =
    (_, stops_here bs fresh number n p ts (AtBadByte (take l (drop n bs))) (bad_stops fresh number (drop n bs) l clear is) s)
by_front bs fresh number n p ts lt s clear on OpenComment is w = (_, stops_here bs fresh number n p ts AtOpenComment is s)
by_front bs fresh number n p ts lt s clear on OpenText is w = (_, stops_here bs fresh number n p ts AtOpenText is s)
by_front bs fresh number n p ts lt s clear on TooLarge is w = (_, stops_here bs fresh number n p ts AtNumberTooLarge (clear, is) s)

turn : (bs : List ℕ) (fresh number : Bool) (n : ℕ) (p : Pos) (ts : List Lexeme) → n < length bs → State bs fresh number n p ts → Later bs n → Some bs
turn bs fresh number n p ts lt s on = by_clash (number && part (slice_index (drop n bs) 0)) refl
  where
    left : 0 < length (drop n bs)
    left = let long = length-drop n bs in omega (arith, long, lt)

    by_clash : (b : Bool) → (number && part (slice_index (drop n bs) 0)) ≡ b → Some bs
    by_clash true is = (_, stops_here bs fresh number n p ts (AtBadByte []) (clash_stops fresh number (drop n bs) left is) s)
    by_clash false is =
        let f = some_front fresh (drop n bs) left in
        by_front bs fresh number n p ts lt s (apart number (drop n bs) is) on f.0 f.1 f.2

outcome_from : (k : ℕ) (bs : List ℕ) (fresh number : Bool) (n : ℕ) (p : Pos) (ts : List Lexeme) → length bs ≤ n + k → State bs fresh number n p ts → Some bs
outcome_from zero bs fresh number n p ts long s = ended bs fresh number n p ts (omega (arith, long)) s
outcome_from (suc k) bs fresh number n p ts long s =
    by_size (cases_lt n (length bs)) (λ fresh number m p ts lt le more. outcome_from k bs fresh number m p ts (omega (arith, long, lt)) more)
  where
    by_size : (n < length bs) ⊎ (length bs ≤ n) → Later bs n → Some bs
    by_size (inl lt) on = turn bs fresh number n p ts lt s on
    by_size (inr le) on = ended bs fresh number n p ts le s

pub some_outcome : (bs : List ℕ) → (o : Outcome) × Lexes bs o
some_outcome bs = outcome_from (length bs) bs true false 0 start [] (omega arith) (begins bs [] refl)
