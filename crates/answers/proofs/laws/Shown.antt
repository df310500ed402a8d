-- What a call leaves on `out`.
use Rattle.std.proofs.Common.{◌≡◌, ◌⊎◌, inl, inr, ℕ, Bool, List, [], Option, Some, None, Result, refl, sym, ap, ◌∙◌, subst, append-nil}
use Rattle.kernel_model.specs.declared.types.faults.KernelFault.{KernelFault}
use Rattle.schedule_model.specs.Sequential.{Stop}
use Rattle.schedule_steps.specs.declared.step.Step.{Step}
use Rattle.mesh_decl.specs.declared.owners.Owners.{Owners}
use Rattle.bound_program.specs.Values.{BoundValue}
use Rattle.run_model.specs.Program.{first_fault}
use Rattle.checkpoint.specs.Laws.{later}
use Rattle.mesh_decl.specs.Canonical.{canonical}
use Rattle.op_outside.specs.Outside.{Files, appended, AppendsFront}
use Rattle.command_words.specs.Refusal.{Refusal, Usage, CannotRead, NoTokens, NoTree, TooDeep, BadName, BadBinding, BadTarget, BadAccess, BadMesh, BadCut, BadState, BadPart, BadPartition, BadPlan, BadSchedule, BadStep, EarlyStep, LeftStep, BadStub, BeyondLimit, status_of}
use Rattle.command_words.specs.Lines.{Answer, done, refused, faulted}
use Rattle.command_words.specs.Words.{ChainJob, CountsChains, RunsChains, ChainOptions, PlanJob, Check, ShowsPlan, ShowsSchedule, RunsPlan, Options, group_of, Input, Command, OnPlan, OnChains, Converts, Translates, Restores, ShowsUsage, ShowsVersion, WordsAre}
use Rattle.answers.specs.Judgements.{TextIs, SourceIs, TreeIs, TranslationIs, RestorationIs, TypesAre, FileIs, MeshIs, EntriesAre, BoundIs, AccessesAre, CutOf, Chosen, ChosenIs, NumbersOf, PartsOf, OwnersOf, ColouringOf, Planned, PlanIs, OrderOf, outline_of, StepsOf}
use Rattle.answers.specs.Answers.{given, ran, planned_answer, ChosenAnswers, PlannedAnswers, chain_answer, ChainAnswers, BoundAnswers, CommandAnswers, Answers}
use Rattle.answers.specs.Endings.{Ending, Answered, OutOfMemory, Unread, Unwritten, ending_status, unwritten_status, Call, Tells, IsWritten, EndsBy, Ends, Shows, IsShown, IsSilent}
use Rattle.answers.specs.Laws.{Agree, AnswersAgree}
use Rattle.answers.proofs.laws.Complete.{tells_answer, tells_some}

-- ---- the three forms of an answer

pub data Form (a : Answer) : Type 0 where
  IsDone : (bytes : List ℕ) → a ≡ done bytes → Form a
  IsRefused : (r : Refusal) → a ≡ refused r → Form a
  IsFaulted : (bytes : List ℕ) (x : Stop KernelFault) → a ≡ faulted bytes x → Form a

given_form : {A : Type 0} (J : Result A Refusal → Type 0) (f : A → Answer → Type 0) → ((x : A) (a : Answer) → f x a → Form a) → (a : Answer) → given J f a → Form a
given_form J f rest a (inl h) = IsRefused h.0 h.2
given_form J f rest a (inr h) = rest h.0 a h.2

ran_form : (first : ℕ) (o : Option (Stop KernelFault)) (bytes : List ℕ) (a : Answer) → a ≡ ran first o bytes → Form a
ran_form first None bytes a e = IsDone bytes e
ran_form first (Some x) bytes a e = IsFaulted bytes (later first x) e

plan_job_form : (j : PlanJob) (dumps : Bool) (c : Chosen) (p : Planned) (steps : List Step) (a : Answer) → a ≡ planned_answer j dumps c p steps → Form a
plan_job_form Check dumps c p steps a e = IsDone _ e
plan_job_form ShowsPlan dumps c p steps a e = IsDone _ e
plan_job_form ShowsSchedule dumps c p steps a e = IsDone _ e
plan_job_form RunsPlan dumps c p steps a e = ran_form c.first (first_fault c.program) _ a e

chosen_form : (j : PlanJob) (o : Options) (files : Files) (c : Chosen) (a : Answer) → ChosenAnswers j o files c a → Form a
chosen_form j o files c a h =
    given_form (NumbersOf o c.program) _ (λ n.
    given_form (PartsOf o.parting files) _ (λ parts.
    given_form (OwnersOf o.ranks c.program parts) _ (λ u.
    given_form (ColouringOf o.blocks files) _ (λ colouring.
    given_form (PlanIs colouring c.program u n) _ (λ p.
    given_form (OrderOf o.schedule files) _ (λ order.
    given_form (StepsOf (outline_of c.program p) (group_of o) order) (λ steps x. x ≡ planned_answer j o.dumps c p steps) (plan_job_form j o.dumps c p))))))) a h.1

planned_form : (j : PlanJob) (o : Options) (files : Files) (b : BoundValue) (a : Answer) → PlannedAnswers j o files b a → Form a
planned_form j o files b a h =
    given_form (CutOf o.stretch files) _ (λ cut. given_form (ChosenIs cut b) (ChosenAnswers j o files) (chosen_form j o files)) a h.1

chain_job_form : (j : ChainJob) (dumps : Bool) (b : BoundValue) (u : Owners) (a : Answer) → a ≡ chain_answer j dumps b u → Form a
chain_job_form CountsChains dumps b u a e = IsDone _ e
chain_job_form RunsChains dumps b u a e = ran_form 0 (first_fault b) _ a e

chained_form : (j : ChainJob) (o : ChainOptions) (files : Files) (b : BoundValue) (a : Answer) → ChainAnswers j o files b a → Form a
chained_form j o files b a h =
    given_form (PartsOf o.parting files) _ (λ parts.
    given_form (OwnersOf o.ranks b parts) (λ u x. x ≡ chain_answer j o.dumps b u) (chain_job_form j o.dumps b)) a h.1

bound_form : (rest : BoundValue → Answer → Type 0) → ((b : BoundValue) (a : Answer) → rest b a → Form a) → (input : Input) (files : Files) (a : Answer) → BoundAnswers rest input files a → Form a
bound_form rest form input files =
    given_form (SourceIs input files) _ (λ bytes.
    given_form (TreeIs bytes) _ (λ p.
    given_form (TypesAre p) _ (λ types.
    given_form (MeshIs input files) _ (λ text.
    given_form (EntriesAre text) _ (λ es.
    given_form (BoundIs p types es) _ (λ b.
    given_form (AccessesAre b) _ (λ u a h. form b a h)))))))

command_form : (c : Command) (files : Files) (a : Answer) → CommandAnswers c files a → Form a
command_form (OnPlan j o input) files a h = bound_form (PlannedAnswers j o files) (planned_form j o files) input files a h
command_form (OnChains j o input) files a h = bound_form (ChainAnswers j o files) (chained_form j o files) input files a h
command_form (Converts form mesh) files a h =
    given_form (FileIs mesh files) _ (λ text. given_form (EntriesAre text) (λ es a. a ≡ done (canonical form es)) (λ es a h. IsDone (canonical form es) h)) a h
command_form (Translates source) files a h =
    given_form (TextIs source files) _ (λ bytes.
    given_form (TreeIs bytes) _ (λ p. given_form (TranslationIs bytes p) (λ out a. a ≡ done out) (λ out a h. IsDone out h))) a h
command_form (Restores source) files a h =
    given_form (TextIs source files) _ (λ bytes. given_form (RestorationIs bytes) (λ out a. a ≡ done out) (λ out a h. IsDone out h)) a h
command_form ShowsUsage files a h = IsDone _ h
command_form ShowsVersion files a h = IsDone _ h

answer_form : (words : List (List ℕ)) (files : Files) (a : Answer) → Answers words files a → Form a
answer_form words files = given_form (WordsAre words) _ (λ c a h. command_form c files a h)

told_form : (words : List (List ℕ)) (told : Option Files) (a : Answer) → Tells words told a → Form a
told_form words told a h = (let k = tells_some words told a h in answer_form words k.0 a k.1)

-- ---- statuses

not_four : (r : Refusal) → status_of r ≡ 4 → ⊥
not_four Usage e = cc
not_four (CannotRead n) e = cc
not_four (NoTokens n at) e = cc
not_four (NoTree at) e = cc
not_four (TooDeep at) e = cc
not_four (BadName n at) e = cc
not_four (BadBinding n at) e = cc
not_four (BadTarget at m x p) e = cc
not_four (BadAccess n at) e = cc
not_four (BadMesh n line) e = cc
not_four (BadCut item) e = cc
not_four (BadState n line) e = cc
not_four (BadPart n) e = cc
not_four (BadPartition n line) e = cc
not_four (BadPlan n line) e = cc
not_four (BadSchedule n line) e = cc
not_four (BadStep n line s) e = cc
not_four (EarlyStep line s t) e = cc
not_four (LeftStep line t) e = cc
not_four (BadStub n at) e = cc
not_four (BeyondLimit l n) e = cc

-- a number is one of these two and not the other
apart : (n a b : ℕ) → n ≡ a → n ≡ b → (a ≡ b → ⊥) → ⊥
apart n a b e f g = g (sym e ∙ f)

no_answer_is_four : (a : Answer) → Form a → a.status ≡ 4 → ⊥
no_answer_is_four a (IsDone bytes e) h = apart a.status 0 4 (ap (λ x. x.status) e) h (λ f. cc)
no_answer_is_four a (IsRefused r e) h = not_four r (sym (ap (λ x. x.status) e) ∙ h)
no_answer_is_four a (IsFaulted bytes x e) h = apart a.status 9 4 (ap (λ y. y.status) e) h (λ f. cc)

pub unwritten_by : (a : Answer) → IsWritten a → ((a.status ≡ 0) × (unwritten_status a ≡ 4)) ⊎ ((a.status ≡ 9) × (unwritten_status a ≡ 9))
unwritten_by a (inl e) = inl (e, rw e refl)
unwritten_by a (inr e) = inr (e, rw e refl)

-- ---- calls

pub shown : AnswersAgree → (c : Call) (status : ℕ) → Ends c status → IsShown c status
shown agree c status ends files a known answers = by_ending ends.ending ends.is ends.cause
  where
    same : (b : Answer) → Tells c.words c.told b → Agree c.words files b a
    same b h = agree c.words files b a (tells_answer c files b known h) answers

    by_ending : (e : Ending) → status ≡ ending_status e → EndsBy c e → Shows c status a
    by_ending (Answered b) is h =
        let whole : c.out.1 ≡ appended c.out.0 a.out = h.1 ∙ ap (appended c.out.0) (same b h.0).out in
        record {
          whole = λ e. whole;
          faulty = λ e. inl whole;
          front = λ e. absurd (no_answer_is_four b (told_form c.words c.told b h.0) (sym is ∙ e));
        }
    by_ending OutOfMemory is h = record {
      whole = λ e. absurd (apart status 1 0 is e (λ f. cc));
      faulty = λ e. absurd (apart status 1 9 is e (λ f. cc));
      front = λ e. absurd (apart status 1 4 is e (λ f. cc));
    }
    by_ending (Unread name) is h = record {
      whole = λ e. absurd (apart status 3 0 is e (λ f. cc));
      faulty = λ e. absurd (apart status 3 9 is e (λ f. cc));
      front = λ e. absurd (apart status 3 4 is e (λ f. cc));
    }
    by_ending (Unwritten b) is h = by_status (unwritten_by b h.2)
      where
        part : AppendsFront c.out.0 a.out c.out.1
        part = subst (λ bytes. AppendsFront c.out.0 bytes c.out.1) (same b h.1).out h.3

        by_status : ((b.status ≡ 0) × (unwritten_status b ≡ 4)) ⊎ ((b.status ≡ 9) × (unwritten_status b ≡ 9)) → Shows c status a
        by_status (inl s) = record {
          whole = λ e. absurd (apart status 4 0 (is ∙ s.1) e (λ f. cc));
          faulty = λ e. absurd (apart status 4 9 (is ∙ s.1) e (λ f. cc));
          front = λ e. (sym (same b h.1).status ∙ s.0, h.0, part);
        }
        by_status (inr s) = record {
          whole = λ e. absurd (apart status 9 0 (is ∙ s.1) e (λ f. cc));
          faulty = λ e. inr (h.0, part);
          front = λ e. absurd (apart status 9 4 (is ∙ s.1) e (λ f. cc));
        }

nothing_more : (o : Option (List ℕ)) → appended o [] ≡ o
nothing_more None = refl
nothing_more (Some bytes) = ap Some (append-nil bytes)

pub silent : (c : Call) (status : ℕ) → Ends c status → IsSilent c status
silent c status ends not_done not_unwritten not_faulted = by_ending ends.ending ends.is ends.cause
  where
    by_form : (b : Answer) → Form b → status ≡ b.status → c.out.1 ≡ appended c.out.0 b.out → c.out.1 ≡ c.out.0
    by_form b (IsDone bytes e) is h = absurd (not_done (is ∙ ap (λ x. x.status) e))
    by_form b (IsRefused r e) is h = h ∙ ap (λ x. appended c.out.0 x.out) e ∙ nothing_more c.out.0
    by_form b (IsFaulted bytes x e) is h = absurd (not_faulted (is ∙ ap (λ y. y.status) e))

    by_status : (b : Answer) → status ≡ unwritten_status b → ((b.status ≡ 0) × (unwritten_status b ≡ 4)) ⊎ ((b.status ≡ 9) × (unwritten_status b ≡ 9)) → ⊥
    by_status b is (inl s) = not_unwritten (is ∙ s.1)
    by_status b is (inr s) = not_faulted (is ∙ s.1)

    by_ending : (e : Ending) → status ≡ ending_status e → EndsBy c e → c.out.1 ≡ c.out.0
    by_ending (Answered b) is h = by_form b (told_form c.words c.told b h.0) is h.1
    by_ending OutOfMemory is h = h
    by_ending (Unread name) is h = h.3
    by_ending (Unwritten b) is h = absurd (by_status b is (unwritten_by b h.2))
