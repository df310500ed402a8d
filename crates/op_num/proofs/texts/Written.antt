-- Written lines are cut into their tokens.
use Rattle.std.proofs.Common.{◌≡◌, ℕ, suc, ◌+◌, Bool, true, false, not, cond, List, [], ◌∷◌, ◌++◌, map, length, take, drop, refl, ap, ◌∙◌, arith, append_assoc}
use Rattle.std.proofs.lemmas.Bool.{and_parts}
use Rattle.std.proofs.Math.Seq.{take-append_seam, drop-append_seam}
use Rattle.std.proofs.Math.Numerals.{one-add}
use Rattle.std.specs.List.{prefix_len, list_all}
use Rattle.op_num.specs.Cut.{blank, dark, line_after, words}
use Rattle.op_num.specs.Lines.{IsToken, line_of, text_of_lines, AreTokens, AreLines, on_line, placed}
use Rattle.op_num.proofs.texts.Cutting.{words-none, words-blank, words-token}

light : (b : ℕ) → dark b ≡ true → blank b ≡ false
light b h = go (blank b) refl h
  where
    go : (t : Bool) → blank b ≡ t → not t ≡ true → blank b ≡ false
    go true t h = cc
    go false t h = t

dark_len : (t : List ℕ) (b : ℕ) (rest : List ℕ) → list_all dark t ≡ true → blank b ≡ true → prefix_len dark (t ++ b ∷ rest) ≡ length t
dark_len [] b rest h s = rw s refl
dark_len (x ∷ t) b rest h s =
    let k = and_parts (dark x) (list_all dark t) h in
    ap (λ d. cond d (1 + prefix_len dark (t ++ b ∷ rest)) 0) k.0 ∙ one-add (prefix_len dark (t ++ b ∷ rest)) ∙ ap suc (dark_len t b rest k.1 s)

-- a token and the blank behind it
words_one : (line : ℕ) (t : List ℕ) (b : ℕ) (rest : List ℕ) → IsToken t → blank b ≡ true → words line (t ++ b ∷ rest) ≡ on_line line t ∷ words (line_after line b) rest
words_one line [] b rest i s = absurd (omega (arith, i.0))
words_one line (x ∷ t) b rest i s =
    let k = and_parts (dark x) (list_all dark t) i.1 in
    let len = dark_len t b rest k.1 s in
    words-token line x (t ++ b ∷ rest) (light x k.0)
    ∙ ap (λ n. on_line line (x ∷ take n (t ++ b ∷ rest)) ∷ words line (drop n (t ++ b ∷ rest))) len
    ∙ ap (λ xs. on_line line (x ∷ xs) ∷ words line (drop (length t) (t ++ b ∷ rest))) (take-append_seam t (b ∷ rest))
    ∙ ap (λ xs. on_line line (x ∷ t) ∷ words line xs) (drop-append_seam t (b ∷ rest))
    ∙ ap (λ ws. on_line line (x ∷ t) ∷ ws) (words-blank line b rest s)

-- the tokens of a line
words_line : (line : ℕ) (t : List ℕ) (ts : List (List ℕ)) (rest : List ℕ) → AreTokens (t ∷ ts) → words line (line_of (t ∷ ts) ++ rest) ≡ map (on_line line) (t ∷ ts) ++ words (line + 1) rest
words_line line t [] rest a = ap (words line) (append_assoc t (10 ∷ []) rest) ∙ words_one line t 10 rest a.0 refl
words_line line t (u ∷ ts) rest a =
    ap (words line) (append_assoc t (32 ∷ line_of (u ∷ ts)) rest) ∙ words_one line t 32 (line_of (u ∷ ts) ++ rest) a.0 refl
    ∙ ap (λ ws. on_line line t ∷ ws) (words_line line u ts rest a.1)

text_cons : (l : List (List ℕ)) (ls : List (List (List ℕ))) → text_of_lines (l ∷ ls) ≡ line_of l ++ text_of_lines ls
text_cons l ls = refl

pub lines_cut : (line : ℕ) (lines : List (List (List ℕ))) → AreLines lines → words line (text_of_lines lines) ≡ placed line lines
lines_cut line [] a = words-none line
lines_cut line ([] ∷ ls) a = ap (words line) (text_cons [] ls) ∙ lines_cut line ls a.1
lines_cut line ((t ∷ ts) ∷ ls) a = ap (words line) (text_cons (t ∷ ts) ls) ∙ words_line line t ts (text_of_lines ls) a.0 ∙ ap (λ ws. map (on_line line) (t ∷ ts) ++ ws) (lines_cut (line + 1) ls a.1)
