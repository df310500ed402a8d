-- One token of a schedule text after another.
use Rattle.std.proofs.Common.{◌≡◌, ℕ, length, true, false, List, [], Option, Result, Ok, Err, None, refl, sym, ap, ◌∙◌, inr}
use Rattle.op_num.specs.Spelling.{number_of}
use Rattle.op_num.specs.Cut.{Word, Uncut, first_of}
use Rattle.op_num.specs.Automaton.{onto, IsNext}
use Rattle.op_num.proofs.Public.{onto_err, run_refused, run_end, run_onto}
use Rattle.schedule_steps.specs.declared.text.lines.Line.{Line}
use Rattle.schedule_steps.specs.declared.text.refusals.ScheduleTextRefusal.{ScheduleTextRefusal}
use Rattle.schedule_steps.specs.declared.text.refusals.ScheduleTextRefusal.TheVariants.{Header, Syntax}
use Rattle.schedule_steps.specs.declared.text.token.StepWord.{StepWord}
use Rattle.schedule_steps.specs.Token.{is_magic, is_version, keyword_of}
use Rattle.schedule_steps.specs.Reading.{Begun, Magic, Version, Between, Numbers, End, step, finish, opened, began, numbered, grown, run_from}
use Rattle.schedule_steps.specs.Answered.{Leads}

-- what each state says of a token
pub step-magic : (w : Word) → is_magic w.text ≡ true → step Magic w ≡ Ok Version
unfolding step
step-magic w h = rw h refl

pub step-no_magic : (w : Word) → is_magic w.text ≡ false → step Magic w ≡ Err (Header w.line)
unfolding step
step-no_magic w h = rw h refl

pub step-version : (w : Word) → is_version w.text ≡ true → step Version w ≡ Ok (Between [])
unfolding step
step-version w h = rw h refl

pub step-no_version : (w : Word) → is_version w.text ≡ false → step Version w ≡ Err (Header w.line)
unfolding step
step-no_version w h = rw h refl

pub step-between : (ls : List Line) (w : Word) → step (Between ls) w ≡ onto (opened (length ls) (keyword_of w.text) w.line) (began ls w.line)
unfolding step
step-between ls w = refl

pub step-numbers : (ls : List Line) (line : ℕ) (b : Begun) (w : Word) → step (Numbers ls line b) w ≡ onto (numbered (number_of w.text) w.line) (grown ls line b)
unfolding step
step-numbers ls line b w = refl

pub step-end : (ls : List Line) (w : Word) → step (End ls) w ≡ Err (Syntax w.line)
unfolding step
step-end ls w = refl

pub run_done : (ls : List Line) (u : Uncut) → first_of u ≡ None → run_from (End ls) u ≡ Ok ls
run_done ls u n = run_end step finish (End ls) u (Ok ls) n refl

-- behind the first word of a step, or `done`
pub word_taken : (ls : List Line) (count : ℕ) (u v : Uncut) (w : Word) (x : Option StepWord)
    → count ≡ length ls
    → IsNext u v w
    → Ok x ≡ opened count (keyword_of w.text) w.line
    → run_from (Between ls) u ≡ run_from (began ls w.line x) v
word_taken ls count u v w x c n h =
    run_onto step finish (Between ls) u v w x (opened (length ls) (keyword_of w.text) w.line) (began ls w.line) n (step-between ls w) (ap (λ k. opened k (keyword_of w.text) w.line) (sym c) ∙ sym h)

-- at another token, or at a step beyond the limit
pub word_refused : (ls : List Line) (count : ℕ) (u v : Uncut) (w : Word) (e : ScheduleTextRefusal)
    → count ≡ length ls
    → IsNext u v w
    → Err e ≡ opened count (keyword_of w.text) w.line
    → run_from (Between ls) u ≡ Err e
word_refused ls count u v w e c n h =
    run_refused step finish (Between ls) u v w e n
    (step-between ls w ∙ onto_err (opened (length ls) (keyword_of w.text) w.line) (began ls w.line) e (ap (λ k. opened k (keyword_of w.text) w.line) (sym c) ∙ sym h))

-- behind a token where a number is awaited, or at it
pub number_leads : (ls : List Line) (line : ℕ) (b : Begun) (u v : Uncut) (w : Word) (r : Result ℕ ScheduleTextRefusal)
    → IsNext u v w
    → r ≡ numbered (number_of w.text) w.line
    → Leads (Numbers ls line b) u r (grown ls line b) v
number_leads ls line b u v w (Ok k) n h = run_onto step finish (Numbers ls line b) u v w k (numbered (number_of w.text) w.line) (grown ls line b) n (step-numbers ls line b w) (sym h)
number_leads ls line b u v w (Err e) n h = inr
    (run_refused step finish (Numbers ls line b) u v w e n
    (step-numbers ls line b w ∙ onto_err (numbered (number_of w.text) w.line) (grown ls line b) e (sym h)))
