-- Reading is exact.
use Rattle.std.proofs.Common.{◌≡◌, ℕ, ◌≤◌, ◌⊎◌, length, List, Result, Ok, Err, IfOk, IfErr, refl, sym, subst, ◌∙◌}
use Rattle.op_num.specs.Cut.{Word, words, uncut}
use Rattle.op_num.specs.Automaton.{last_line, run, Answers, IsGiven, IsRefused}
use Rattle.op_num.proofs.Public as exact
use Rattle.schedule_steps.specs.declared.text.lines.Line.{Line}
use Rattle.schedule_steps.specs.declared.text.lines.TheConstants.{SCHEDULE_STEPS}
use Rattle.schedule_steps.specs.declared.text.refusals.ScheduleTextRefusal.{ScheduleTextRefusal}
use Rattle.schedule_steps.specs.declared.text.refusals.ScheduleTextRefusal.TheVariants.{OutOfMemory}
use Rattle.schedule_steps.specs.Spelling.{Spells}
use Rattle.schedule_steps.specs.Reading.{State, Magic, Version, Between, Numbers, End, step, finish, run_from, Stands, Refuses}
use Rattle.schedule_steps.proofs.text.Standing.{stands_on}
use Rattle.schedule_steps.proofs.text.Complete.{stands_through}

-- only behind `done` the text may end
pub finish_is : (p : State) (last : ℕ) (ls : List Line) (ws : List Word) → Stands ws p → finish p last ≡ Ok ls → Stands ws (End ls)
finish_is (End xs) last ls ws s h = let e : xs ≡ ls = cc in subst (λ ys. Stands ws (End ys)) e s
finish_is Magic last ls ws s h = cc
finish_is Version last ls ws s h = cc
finish_is (Between xs) last ls ws s h = cc
finish_is (Numbers xs line b) last ls ws s h = cc

-- what stands there whole is spelled, within the limit
pub end_spells : (bytes : List ℕ) (ls : List Line) → Stands (words 1 bytes) (End ls) → Spells bytes ls × (length ls ≤ SCHEDULE_STEPS)
end_spells bytes ls s = ((s.0, s.1, s.2, s.3, s.4.0), s.4.1)

spelled_ends : (bytes : List ℕ) (ls : List Line) → Spells bytes ls → length ls ≤ SCHEDULE_STEPS → Stands (words 1 bytes) (End ls)
spelled_ends bytes ls s m = (s.0, s.1, s.2, s.3, (s.4, m))

-- the run over a text that spells steps ends with them
pub spelled-run : (bytes : List ℕ) (ls : List Line) → Spells bytes ls → length ls ≤ SCHEDULE_STEPS → run step finish Magic 1 (words 1 bytes) ≡ Ok ls
spelled-run bytes ls s m = exact.whole_run step finish Magic Stands refl stands_on stands_through (words 1 bytes) (End ls) (spelled_ends bytes ls s m)

-- the four clauses
module _ {M : Type 0} (bytes : List ℕ) (result : Result M ScheduleTextRefusal) (view : M → List Line) (answers : Answers OutOfMemory result view (run_from Magic (uncut bytes))) where
  pub found : IfOk result (λ m. Spells bytes (view m) × (length (view m) ≤ SCHEDULE_STEPS))
  found = go result (exact.found step finish Magic Stands refl stands_on stands_through OutOfMemory bytes result view answers)
    where
      go : (r : Result M ScheduleTextRefusal) → IfOk r
          (λ m. (q : State) × Stands (words 1 bytes) q × (finish q (last_line 1 (words 1 bytes)) ≡ Ok (view m)))
          → IfOk r (λ m. Spells bytes (view m) × (length (view m) ≤ SCHEDULE_STEPS))
      go (Ok m) f = end_spells bytes (view m) (finish_is f.0 (last_line 1 (words 1 bytes)) (view m) (words 1 bytes) f.1 f.2)
      go (Err e) f = tt

  pub only : (ls : List Line) → Spells bytes ls → length ls ≤ SCHEDULE_STEPS → IsGiven OutOfMemory result (λ m. view m ≡ ls)
  only ls s m = exact.only step finish Magic Stands refl stands_on stands_through OutOfMemory bytes result view answers (End ls) ls (spelled_ends bytes ls s m) refl

  pub refused : IfErr result (λ e. (e ≡ OutOfMemory) ⊎ Refuses bytes e)
  refused = exact.refused step finish Magic Stands refl stands_on stands_through OutOfMemory bytes result view answers

  pub refuses : (e : ScheduleTextRefusal) → Refuses bytes e → IsRefused OutOfMemory result e
  refuses = exact.refuses step finish Magic Stands refl stands_on stands_through OutOfMemory bytes result view answers

-- so a text spells one list of steps
pub one-schedule : (bytes : List ℕ) (a b : List Line) → Spells bytes a → Spells bytes b → length a ≤ SCHEDULE_STEPS → length b ≤ SCHEDULE_STEPS → a ≡ b
one-schedule bytes a b s t m n = let e = sym (spelled-run bytes a s m) ∙ spelled-run bytes b t n in cc
