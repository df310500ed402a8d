-- Written words: tokens of lines, and numbers as tokens.
use Rattle.std.proofs.Common.{◌≡◌, ℕ, ℤ, ◌+◌, ◌-◌, ◌*◌, Bool, true, false, cond, List, [], ◌∷◌, ◌++◌, map, Option, Some, None, refl, ap, ◌∙◌, arith, nat_eq}
use Rattle.std.proofs.lemmas.Bool.Decides.{nat_tests}
use Rattle.std.proofs.lemmas.List.{map-append}
use Rattle.std.proofs.lemmas.List.Concat.{flat_map-append}
use Rattle.std.specs.Char.{is_ascii_digit}
use Rattle.std.specs.List.{list_all, flat_map}
use Rattle.op_num.specs.Spelling.{number_after, number_of, integer_of, negated, plain}
use Rattle.op_num.specs.Cut.{text_of, dark}
use Rattle.op_num.specs.Lines.{IsToken, AreLines, on_line, placed}
use Rattle.lemmas.proofs.Lists.{list_all_cons}

-- the tokens of lines
abbrev pub concat : List (List (List ℕ)) → List (List ℕ)
concat ls = flat_map (λ l. l) ls

on_texts : (line : ℕ) (ts : List (List ℕ)) → map text_of (map (on_line line) ts) ≡ ts
on_texts line [] = refl
on_texts line (t ∷ ts) = ap (λ xs. t ∷ xs) (on_texts line ts)

-- the tokens of written lines
pub placed_texts : (line : ℕ) (ls : List (List (List ℕ))) → map text_of (placed line ls) ≡ concat ls
placed_texts line [] = refl
placed_texts line ([] ∷ ls) = placed_texts line ls
placed_texts line ((t ∷ ts) ∷ ls) = map-append text_of (map (on_line line) (t ∷ ts)) (placed (line + 1) ls)
    ∙ ap (λ xs. xs ++ map text_of (placed (line + 1) ls)) (on_texts line (t ∷ ts)) ∙ ap (λ xs. (t ∷ ts) ++ xs) (placed_texts (line + 1) ls)

pub concat_append : (cs bs : List (List (List ℕ))) → concat (cs ++ bs) ≡ concat cs ++ concat bs
concat_append cs bs = flat_map-append (λ l. l) cs bs

pub lines_append : (cs bs : List (List (List ℕ))) → AreLines cs → AreLines bs → AreLines (cs ++ bs)
lines_append [] bs a b = b
lines_append (c ∷ cs) bs a b = (a.0, lines_append cs bs a.1 b)

-- numbers are tokens
dark_by : (m c : ℕ) (cs : List ℕ) (n : ℕ) (t : Bool) → is_ascii_digit c ≡ t → cond t (number_after (m * 10 + (c - 48)) cs) None ≡ Some n
    → (number_after (m * 10 + (c - 48)) cs ≡ Some n → list_all dark cs ≡ true) → list_all dark (c ∷ cs) ≡ true
dark_by m c cs n true t h r = let b : dark c ≡ true = grind (arith, nat_tests) in list_all_cons dark c cs b (r h)
dark_by m c cs n false t h r = cc

digits_dark : (m : ℕ) (ds : List ℕ) (n : ℕ) → number_after m ds ≡ Some n → list_all dark ds ≡ true
digits_dark m [] n h = refl
digits_dark m (c ∷ cs) n h = dark_by m c cs n (is_ascii_digit c) refl h (λ k. digits_dark (m * 10 + (c - 48)) cs n k)

pub number_token : (ds : List ℕ) (n : ℕ) → number_of ds ≡ Some n → IsToken ds
number_token [] n h = cc
number_token (c ∷ cs) n h = (omega arith, digits_dark 0 (c ∷ cs) n h)

plain_some : (o : Option ℕ) (z : ℤ) → plain o ≡ Some z → (n : ℕ) × (o ≡ Some n)
plain_some None z h = cc
plain_some (Some n) z h = (n, refl)

negated_some : (o : Option ℕ) (z : ℤ) → negated o ≡ Some z → (n : ℕ) × (o ≡ Some n)
negated_some None z h = cc
negated_some (Some n) z h = (n, refl)

pub integer_token : (text : List ℕ) (z : ℤ) → integer_of text ≡ Some z → IsToken text
integer_token [] z h = cc
integer_token (c ∷ cs) z h = go (nat_eq c 45) refl h
  where
    go : (t : Bool) → nat_eq c 45 ≡ t → cond t (negated (number_of cs)) (plain (number_of (c ∷ cs))) ≡ Some z → IsToken (c ∷ cs)
    go true t h = let k = negated_some (number_of cs) z h in let b : dark c ≡ true = grind (arith, nat_tests) in (omega arith, list_all_cons dark c cs b (number_token cs k.0 k.1).1)
    go false t h = let k = plain_some (number_of (c ∷ cs)) z h in number_token (c ∷ cs) k.0 k.1
