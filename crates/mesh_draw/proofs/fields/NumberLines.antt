-- Lines of numbers, word by word and line by line.
use Rattle.std.proofs.Common.{◌≡◌, ℕ, zero, suc, ◌+◌, ◌-◌, ◌<◌, Bool, true, false, ◌&&◌, ◌↔◌, Option, Some, None, Bor, Result, Ok, Err, List, [], ◌∷◌, ◌++◌, length, refl, sym, ap, ◌∙◌, arith, append_assoc, length-append}
use Rattle.std.proofs.lemmas.Bool.{and_parts}
use Rattle.std.proofs.lemmas.List.{flat_map_more}
use Rattle.std.proofs.lemmas.List.Elements.{All-append, All-cons, All-nil}
use Rattle.std.specs.Prelude.{All, ℤ, is_ok, is_err, is_some, not, MatchOption}
use Rattle.op_num.specs.Spelling.{integer_of, i32_judged}
use Rattle.op_num.specs.CutLines.{Unread, Takes, words}
use Rattle.mesh_draw.specs.Numbers.{IsNumber, HasNumbers, lines_text}

-- ---- words

-- whether the word spells a number
abbrev pub is_number : List ℕ → Bool
is_number word = is_ok (i32_judged (integer_of word))

-- whether so many words do, and there are no more
abbrev pub are_numbers : ℕ → List (List ℕ) → Bool
are_numbers zero [] = true
are_numbers zero (w ∷ ws) = false
are_numbers (suc n) [] = false
are_numbers (suc n) (w ∷ ws) = is_number w && are_numbers n ws

ok_read : {E : Type 0} (r : Result ℤ E) → is_ok r ≡ true → (z : ℤ) × (r ≡ Ok z)
ok_read (Ok z) e = (z, refl)
ok_read (Err x) e = let bad : ⊥ = cc in absurd bad

read_ok : {E : Type 0} (r : Result ℤ E) (z : ℤ) → r ≡ Ok z → is_ok r ≡ true
read_ok r z e = ap is_ok e

head_of : (w : List ℕ) (ws : List (List ℕ)) → All IsNumber (w ∷ ws) → IsNumber w
head_of w ws h = h zero [] (omega arith)

tail_of : (w : List ℕ) (ws : List (List ℕ)) → All IsNumber (w ∷ ws) → All IsNumber ws
tail_of w ws h k d lt = h (suc k) d (omega arith)

numbers_so : (n : ℕ) (ws : List (List ℕ)) → are_numbers n ws ≡ true → (length ws ≡ n) × All IsNumber ws
numbers_so zero [] e = (refl, All-nil IsNumber)
numbers_so zero (w ∷ ws) e = let bad : ⊥ = cc in absurd bad
numbers_so (suc n) [] e = let bad : ⊥ = cc in absurd bad
numbers_so (suc n) (w ∷ ws) e =
    let p = and_parts (is_number w) (are_numbers n ws) e in
    let rest = numbers_so n ws p.1 in
    (ap suc rest.0, All-cons IsNumber w ws (ok_read (i32_judged (integer_of w)) p.0) rest.1)

so_numbers : (n : ℕ) (ws : List (List ℕ)) → length ws ≡ n → All IsNumber ws → are_numbers n ws ≡ true
so_numbers zero [] e h = refl
so_numbers zero (w ∷ ws) e h = absurd (omega (arith, e))
so_numbers (suc n) [] e h = absurd (omega (arith, e))
so_numbers (suc n) (w ∷ ws) e h =
    let first = head_of w ws h in
    rw (read_ok (i32_judged (integer_of w)) first.0 first.1) (so_numbers n ws (omega (arith, e)) (tail_of w ws h))

pub has_so : (n : ℕ) (line : List ℕ) (b : Bool) → b ≡ are_numbers n (words line) → (b ≡ true) ↔ HasNumbers n line
has_so n line b e = (
  (λ t. let p = numbers_so n (words line) (sym e ∙ t) in record { count = p.0; numbers = p.1 }),
  (λ h. e ∙ so_numbers n (words line) h.count h.numbers),
)

-- ---- word by word

none_left : (d : ℕ) → 0 < d → are_numbers d [] ≡ false
none_left zero lt = absurd (omega (arith, lt))
none_left (suc d) lt = refl

-- no word is left
pub is_short : (n k : ℕ) (ws : List (List ℕ)) → ws ≡ [] → k < n → are_numbers (n - k) ws ≡ false
is_short n k ws e lt = rw e (none_left (n - k) (omega (arith, lt)))

wrong_first : (d : ℕ) (w : List ℕ) (ws : List (List ℕ)) → is_number w ≡ false → are_numbers d (w ∷ ws) ≡ false
wrong_first zero w ws h = refl
wrong_first (suc d) w ws h = rw h refl

-- a word is no number
pub is_wrong : (n k : ℕ) (old ws : List (List ℕ)) (w : List ℕ) → old ≡ w ∷ ws → is_number w ≡ false → are_numbers (n - k) old ≡ false
is_wrong n k old ws w e h = rw e (wrong_first (n - k) w ws h)

right_first : (d e : ℕ) (w : List ℕ) (ws : List (List ℕ)) → d ≡ suc e → is_number w ≡ true → are_numbers d (w ∷ ws) ≡ are_numbers e ws
right_first d e w ws same h = rw (same, h) refl

-- a word is one
pub is_more : (n k : ℕ) (old ws : List (List ℕ)) (w : List ℕ) → old ≡ w ∷ ws → is_number w ≡ true → k < n
    → are_numbers (n - (k + 1)) ws ≡ are_numbers (n - k) old
is_more n k old ws w e h lt =
    let next : n - k ≡ suc (n - (k + 1)) = omega (arith, lt) in
    sym (ap (are_numbers (n - k)) e ∙ right_first (n - k) (n - (k + 1)) w ws next h)

-- behind the last there is none
pub is_end : (d : ℕ) (old new : List (List ℕ)) (r : Option (Bor (List ℕ))) (b : Bool) → d ≡ 0 → is_some r ≡ not b
    → MatchOption r ((old ≡ []) × (new ≡ [])) (λ w. old ≡ w.now ∷ new)
    → b ≡ are_numbers d old
is_end d old new None true none_awaited is taken = rw (none_awaited, taken.0) refl
is_end d old new None false none_awaited is taken = let bad : ⊥ = cc in absurd bad
is_end d old new (Some w) true none_awaited is taken = let bad : ⊥ = cc in absurd bad
is_end d old new (Some w) false none_awaited is taken = rw (none_awaited, taken) refl

-- whether what was read is no number
pub no_number : {E : Type 0} (r : Result ℤ E) (b : Bool) → b ≡ is_err r → is_ok r ≡ not b
no_number (Ok z) b e = rw e refl
no_number (Err x) b e = rw e refl

-- ---- lines

-- so many lines of numbers were taken from the text
pub record ArePassed (n : ℕ) (text : List ℕ) (u : Unread) : Type 0 where
  pub lines : List (List ℕ)
  pub whole : text ≡ lines_text lines ++ u.rest
  pub each : All (HasNumbers n) lines
  pub count : length lines ≡ u.taken

more_passed : (line rest : List ℕ) (lines : List (List ℕ))
    → lines_text lines ++ (line ++ 10 ∷ rest) ≡ lines_text (lines ++ line ∷ []) ++ rest
more_passed line rest lines =
    let lf = λ (l : List ℕ). l ++ 10 ∷ [] in
    sym (ap (λ x. x ++ rest) (sym (flat_map_more lf [] lines line)) ∙ append_assoc (lines_text lines) (line ++ 10 ∷ []) rest
    ∙ ap (λ x. lines_text lines ++ x) (append_assoc line (10 ∷ []) rest))

pub passed_more : (n : ℕ) (text : List ℕ) (old new : Unread) (line : List ℕ)
    → ArePassed n text old → Takes old new line → HasNumbers n line → ArePassed n text new
passed_more n text old new line p t h = record {
  lines = p.lines ++ line ∷ [];
  whole = p.whole ∙ ap (λ x. lines_text p.lines ++ x) t.whole ∙ more_passed line new.rest p.lines;
  each = All-append (HasNumbers n) p.lines (line ∷ []) p.each (All-cons (HasNumbers n) line [] h (All-nil (HasNumbers n)));
  count = length-append p.lines (line ∷ []) ∙ ap (λ k. k + 1) p.count ∙ sym t.taken;
}
