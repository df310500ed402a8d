-- A text comes to one outcome, its steps or a refusal, and want of memory is none.
use Rattle.std.proofs.Common.{◌≡◌, ℕ, ◌^◌, Bool, true, false, if◌then◌else◌, nat_lt, length, List, Option, Some, None, Result, Ok, Err, refl, sym, ◌∙◌, subst, inl, inr}
use Rattle.op_num.specs.Spelling.{number_of}
use Rattle.op_num.specs.Cut.{Word, words}
use Rattle.op_num.specs.Automaton.{last_line, run, onto}
use Rattle.op_num.proofs.Public as exact
use Rattle.schedule_steps.specs.declared.text.lines.TheConstants.{SCHEDULE_STEPS}
use Rattle.schedule_steps.specs.declared.text.refusals.ScheduleTextRefusal.{ScheduleTextRefusal}
use Rattle.schedule_steps.specs.declared.text.refusals.ScheduleTextRefusal.TheVariants.{Header, Syntax, TooManySteps, OutOfMemory}
use Rattle.schedule_steps.specs.declared.text.token.Keyword.{Keyword}
use Rattle.schedule_steps.specs.declared.text.token.Keyword.TheVariants as keyword
use Rattle.schedule_steps.specs.Token.{is_magic, is_version, keyword_of}
use Rattle.schedule_steps.specs.Reading.{State, Magic, Version, Between, Numbers, End, Read, Reads, Refuses, opened, numbered, step, finish, Stands}
use Rattle.schedule_steps.proofs.text.Standing.{stands_on}
use Rattle.schedule_steps.proofs.text.Complete.{stands_through}
use Rattle.schedule_steps.proofs.text.Exact.{finish_is, end_spells, spelled-run}

-- ---- each refusal has a cause

-- a value, or a refusal other than want of memory
abbrev Caused : {A : Type 0} → Result A ScheduleTextRefusal → Type 0
Caused (Ok x) = Unit {0}
Caused (Err OutOfMemory) = ⊥
Caused (Err e) = Unit {0}

caused_onto : {A B : Type 0} (r : Result A ScheduleTextRefusal) (f : A → B) → Caused r → Caused (onto r f)
caused_onto (Ok x) f h = tt
caused_onto (Err (Header l)) f h = tt
caused_onto (Err (Syntax l)) f h = tt
caused_onto (Err TooManySteps) f h = tt
caused_onto (Err OutOfMemory) f h = absurd h

caused_if : {A : Type 0} (b : Bool) (r s : Result A ScheduleTextRefusal) → Caused r → Caused s → Caused (if b then r else s)
caused_if true r s h k = h
caused_if false r s h k = k

opened_caused : (n : ℕ) (k : Option Keyword) (line : ℕ) → Caused (opened n k line)
unfolding opened
opened_caused n None line = tt
opened_caused n (Some keyword.Done) line = tt
opened_caused n (Some (keyword.Step w)) line = caused_if (nat_lt n SCHEDULE_STEPS) _ _ tt tt

numbered_caused : (o : Option ℕ) (line : ℕ) → Caused (numbered o line)
unfolding numbered
numbered_caused None line = tt
numbered_caused (Some n) line = caused_if (nat_lt n (2 ^ 32)) _ _ tt tt

step_caused : (p : State) (w : Word) → Caused (step p w)
unfolding step
step_caused Magic w = caused_if (is_magic w.text) _ _ tt tt
step_caused Version w = caused_if (is_version w.text) _ _ tt tt
step_caused (Between ls) w = caused_onto (opened (length ls) (keyword_of w.text) w.line) _ (opened_caused (length ls) (keyword_of w.text) w.line)
step_caused (Numbers ls line b) w = caused_onto (numbered (number_of w.text) w.line) _ (numbered_caused (number_of w.text) w.line)
step_caused (End ls) w = tt

finish_caused : (p : State) (line : ℕ) → Caused (finish p line)
finish_caused Magic line = tt
finish_caused Version line = tt
finish_caused (Between ls) line = tt
finish_caused (Numbers ls first b) line = tt
finish_caused (End ls) line = tt

pub refusals_have_causes : (bytes : List ℕ) → ¬ Refuses bytes OutOfMemory
refusals_have_causes bytes (inl r) = subst Caused r.6 (step_caused r.3 r.1)
refusals_have_causes bytes (inr r) = subst Caused r.2 (finish_caused r.0 (last_line 1 (words 1 bytes)))

-- ---- one outcome

run_is : (bytes : List ℕ) (o : Read) → Reads bytes o → run step finish Magic 1 (words 1 bytes) ≡ o
run_is bytes (Ok ls) h = spelled-run bytes ls h.0 h.1
run_is bytes (Err r) h = exact.refuses_run step finish Magic Stands refl stands_on stands_through (words 1 bytes) r h

pub one_outcome : (bytes : List ℕ) (a b : Read) → Reads bytes a → Reads bytes b → a ≡ b
one_outcome bytes a b h k = sym (run_is bytes a h) ∙ run_is bytes b k

pub some_outcome : (bytes : List ℕ) → (o : Read) × Reads bytes o
some_outcome bytes = by_run (run step finish Magic 1 (words 1 bytes)) refl
  where
    by_run : (o : Read) → run step finish Magic 1 (words 1 bytes) ≡ o → (o : Read) × Reads bytes o
    by_run (Ok ls) h =
        let f = exact.found_run step finish Magic Stands refl stands_on stands_through (words 1 bytes) ls h in
        (Ok ls, end_spells bytes ls (finish_is f.0 (last_line 1 (words 1 bytes)) ls (words 1 bytes) f.1 f.2))
    by_run (Err r) h = (Err r, exact.refused_run step finish Magic Stands refl stands_on stands_through (words 1 bytes) r h)
