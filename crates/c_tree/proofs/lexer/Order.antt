-- Tokens of a source stand in the order of their numbers.
use Rattle.std.proofs.Common.{◌≡◌, ℕ, zero, suc, ◌+◌, ◌≤◌, Bool, true, false, nat_eq, List, [], ◌∷◌, length, map, Some, slice_get, Ok, ◌⊎◌, inl, inr, refl, sym, ◌∙◌, subst, arith, if◌then◌else◌}
use Rattle.c_tree.specs.declared.lexer.tokens.Pos.{Pos}
use Rattle.c_tree.specs.declared.lexer.tokens.Token.{Token}
use Rattle.c_tree.specs.Lexed.{after_byte, advance, start, Stop, AtEnd, AtBadByte, AtOpenComment, AtOpenText, AtNumberTooLarge, Part, Passed, Spelled, is_fresh_behind, is_number_part, AreParts, tokens_of, outcome_of, Lexes}
use Rattle.c_tree.specs.Order.{IsEarlier, AreInOrder}
use Rattle.c_tree.proofs.lexer.Forms.{form_some}

earlier_than : (p q r : Pos) → IsEarlier p q → IsEarlier q r → IsEarlier p r
earlier_than p q r (inl a) (inl b) = inl (omega arith)
earlier_than p q r (inl a) (inr b) = inl (omega (arith, b.0))
earlier_than p q r (inr a) (inl b) = inl (omega (arith, a.0))
earlier_than p q r (inr a) (inr b) = inr (a.0 ∙ b.0, omega (arith, a.1, b.1))

then_not_before : (p q r : Pos) → IsEarlier p q → (q ≡ r) ⊎ IsEarlier q r → IsEarlier p r
then_not_before p q r h (inl e) = subst (λ z. IsEarlier p z) e h
then_not_before p q r h (inr g) = earlier_than p q r h g

not_before : (p q r : Pos) → (p ≡ q) ⊎ IsEarlier p q → (q ≡ r) ⊎ IsEarlier q r → (p ≡ r) ⊎ IsEarlier p r
not_before p q r (inl e) g = subst (λ z. (z ≡ r) ⊎ IsEarlier z r) (sym e) g
not_before p q r (inr h) g = inr (then_not_before p q r h g)

after_byte_later : (p : Pos) (b : ℕ) → IsEarlier p (after_byte p b)
after_byte_later p b = by_byte (nat_eq b 10)
  where
    by_byte : (t : Bool) → IsEarlier p (if t then (record { line = p.line + 1; column = 1 }) else (record { line = p.line; column = p.column + 1 }))
    by_byte true = inl (omega arith)
    by_byte false = inr (refl, omega arith)

advance_not_before : (p : Pos) (s : List ℕ) → (p ≡ advance p s) ⊎ IsEarlier p (advance p s)
advance_not_before p [] = inl refl
advance_not_before p (b ∷ bs) =
    inr (then_not_before p (after_byte p b) (advance (after_byte p b) bs) (after_byte_later p b) (advance_not_before (after_byte p b) bs))

advance_later : (p : Pos) (s : List ℕ) → 1 ≤ length s → IsEarlier p (advance p s)
advance_later p [] h = absurd (omega arith)
advance_later p (b ∷ bs) h =
    then_not_before p (after_byte p b) (advance (after_byte p b) bs) (after_byte_later p b) (advance_not_before (after_byte p b) bs)

-- no token stands before the place where the tokens begin
none_before : (n : ℕ) (p : Pos) (xs : List Part) (k : ℕ) (q : Pos) → slice_get (map (λ t. t.at) (tokens_of n p xs)) k ≡ Some q → (p ≡ q) ⊎ IsEarlier p q
none_before n p [] k q h = cc
none_before n p (Passed s ∷ xs) k q h =
    not_before p (advance p s) q (advance_not_before p s) (none_before (n + length s) (advance p s) xs k q h)
none_before n p (Spelled f s ∷ xs) zero q h = inl cc
none_before n p (Spelled f s ∷ xs) (suc k) q h =
    not_before p (advance p s) q (advance_not_before p s) (none_before (n + length s) (advance p s) xs k q h)

parts_in_order : (stop : Stop) (fresh number : Bool) (bs : List ℕ) (n : ℕ) (p : Pos) (xs : List Part) → AreParts stop fresh number bs xs → AreInOrder (map (λ t. t.at) (tokens_of n p xs))
parts_in_order stop fresh number bs n p [] a i j q r l h g = cc
parts_in_order stop fresh number bs n p (Passed s ∷ xs) a i j q r l h g =
    parts_in_order stop (is_fresh_behind fresh (Passed s)) (is_number_part (Passed s)) a.1.0 (n + length s) (advance p s) xs a.1.3 i j q r l h g
parts_in_order stop fresh number bs n p (Spelled f s ∷ xs) a i zero q r l h g = absurd (omega arith)
parts_in_order stop fresh number bs n p (Spelled f s ∷ xs) a zero (suc j) q r l h g =
    let first : p ≡ q = cc in
    let behind = then_not_before p (advance p s) r (advance_later p s (form_some f s a.1.2.0.form)) (none_before (n + length s) (advance p s) xs j r g) in
    subst (λ z. IsEarlier z r) first behind
parts_in_order stop fresh number bs n p (Spelled f s ∷ xs) a (suc i) (suc j) q r l h g =
    parts_in_order stop (is_fresh_behind fresh (Spelled f s)) (is_number_part (Spelled f s)) a.1.0 (n + length s) (advance p s) xs a.1.3 i j q r (omega arith) h g

pub tokens_in_order : (bytes : List ℕ) (tokens : List Token) → Lexes bytes (Ok tokens) → AreInOrder (map (λ t. t.at) tokens)
tokens_in_order bytes tokens l = by_stop l.parts l.stop l.are l.gives
  where
    by_stop : (xs : List Part) (stop : Stop) → AreParts stop true false bytes xs → Ok tokens ≡ outcome_of xs stop → AreInOrder (map (λ t. t.at) tokens)
    by_stop xs AtEnd a e =
        let same : tokens_of 0 start xs ≡ tokens = cc in
        subst (λ z. AreInOrder (map (λ t. t.at) z)) same (parts_in_order AtEnd true false bytes 0 start xs a)
    by_stop xs (AtBadByte good) a e = cc
    by_stop xs AtOpenComment a e = cc
    by_stop xs AtOpenText a e = cc
    by_stop xs AtNumberTooLarge a e = cc
