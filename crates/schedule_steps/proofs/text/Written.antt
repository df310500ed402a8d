-- What is written spells its steps.
use Rattle.std.proofs.Common.{◌≡◌, ℕ, ◌+◌, ◌^◌, ◌<◌, suc, List, [], ◌∷◌, ◌++◌, map, length, Some, codes, refl, sym, ap, ◌∙◌, arith, append_assoc}
use Rattle.std.proofs.lemmas.List.Concat.{flat_map-append}
use Rattle.std.specs.Fmt.{decimal}
use Rattle.op_num.specs.Spelling.{number_of}
use Rattle.op_num.specs.Cut.{Word, words}
use Rattle.op_num.specs.Lines.{IsToken, line_of, text_of_lines, AreTokens, AreLines, on_line, placed}
use Rattle.op_num.proofs.Public.{number_token}
use Rattle.schedule_steps.specs.declared.step.Step.{Step}
use Rattle.schedule_steps.specs.declared.step.Step.TheVariants.{Send, Recv, Begin, End, Join}
use Rattle.schedule_steps.specs.Spelling.{word_of, numbers_of, AreNumbers, AreSteps, Spells}
use Rattle.schedule_steps.specs.Written.{tokens_of, header, text_lines, schedule_text, one_a_line, Fit, AllFit}

pub lines_len : (line : ℕ) (steps : List Step) → length (one_a_line line steps) ≡ length steps
lines_len line [] = refl
lines_len line (s ∷ steps) = ap (λ n. suc n) (lines_len (line + 1) steps)

word_token : (s : Step) → IsToken (word_of s)
word_token (Send k s r) = (omega arith, refl)
word_token (Recv k r s) = (omega arith, refl)
word_token (Begin k r p) = (omega arith, refl)
word_token (End k r p) = (omega arith, refl)
word_token (Join k) = (omega arith, refl)

-- what the crates below promise: printed numbers are read again, and written lines are cut again
module _ (counted : (n : ℕ) → n < 2 ^ 64 → number_of (decimal n) ≡ Some n)
    (cut : (line : ℕ) (lines : List (List (List ℕ))) → AreLines lines → words line (text_of_lines lines) ≡ placed line lines) where
  printed : (n : ℕ) → n < 2 ^ 32 → number_of (decimal n) ≡ Some n
  printed n low = counted n (omega arith)

  numbers_are : (line : ℕ) (ns : List ℕ) → Fit ns → AreNumbers (map (on_line line) (map decimal ns)) ns
  numbers_are line [] f = tt
  numbers_are line (n ∷ ns) f = ((printed n f.0, f.0), numbers_are line ns f.1)

  numbers_tokens : (ns : List ℕ) → Fit ns → AreTokens (map decimal ns)
  numbers_tokens [] f = tt
  numbers_tokens (n ∷ ns) f = (number_token (decimal n) n (printed n f.0), numbers_tokens ns f.1)

  steps_lines : (steps : List Step) → AllFit steps → AreLines (map tokens_of steps ++ (codes "done" ∷ []) ∷ [])
  steps_lines [] f = (((omega arith, refl), tt), tt)
  steps_lines (s ∷ steps) f = ((word_token s, numbers_tokens (numbers_of s) f.0), steps_lines steps f.1)

  -- the tokens of the steps, and `done`
  steps_are : (line : ℕ) (steps : List Step)
      → AllFit steps
      → (body : List Word) × (w : Word) × (placed line (map tokens_of steps ++ (codes "done" ∷ []) ∷ []) ≡ body ++ w ∷ []) × (w.text ≡ codes "done") × AreSteps body (one_a_line line steps)
  steps_are line [] f = ([], on_line line (codes "done"), refl, refl, refl)
  steps_are line (s ∷ steps) f =
      let r = steps_are (line + 1) steps f.1 in
      let front = map (on_line line) (tokens_of s) in
      (front ++ r.0, r.1, (ap (λ ws. front ++ ws) r.2 ∙ sym (append_assoc front r.0 (r.1 ∷ []))), r.3, (front, r.0, refl, (refl, refl, numbers_are line (numbers_of s) f.0), r.4))

  header_tokens : AreTokens header
  header_tokens = ((omega arith, refl), ((omega arith, refl), tt))

  pub spelled : (steps : List Step) → AllFit steps → Spells (schedule_text steps) (one_a_line 2 steps)
  spelled steps f =
      let r = steps_are 2 steps f in
      let a = on_line 1 (codes "op2sched") in
      let b = on_line 1 (codes "1") in
      (a ∷ b ∷ r.0, r.1, (cut 1 (text_lines steps) (header_tokens, steps_lines steps f) ∙ ap (λ ws. a ∷ b ∷ ws) r.2), r.3, (a, b, r.0, refl, refl, refl, r.4))

-- the whole text, line by line
pub whole_text : (steps : List Step) → (line_of header ++ text_of_lines (map tokens_of steps)) ++ codes "done\n" ≡ schedule_text steps
whole_text steps =
    append_assoc (line_of header) (text_of_lines (map tokens_of steps)) (codes "done\n")
    ∙ ap (λ xs. line_of header ++ xs) (sym (flat_map-append line_of (map tokens_of steps) ((codes "done" ∷ []) ∷ [])))
