-- An answer has status 2 only of words, and status 3 only of a missing file.
use Rattle.std.proofs.Common.{◌≡◌, inl, inr, ℕ, zero, suc, Bool, List, ◌∷◌, ◌++◌, Option, Some, None, Result, Err, refl, sym, ap, ◌∙◌, arith, []}
use Rattle.std.specs.List.{Contains}
use Rattle.kernel_model.specs.declared.types.faults.KernelFault.{KernelFault}
use Rattle.schedule_model.specs.Sequential.{Stop}
use Rattle.mesh_decl.specs.declared.owners.Owners.{Owners}
use Rattle.bound_program.specs.Values.{BoundValue}
use Rattle.run_model.specs.Program.{first_fault}
use Rattle.checkpoint.specs.Laws.{later}
use Rattle.mesh_decl.specs.Canonical.{canonical}
use Rattle.op_outside.specs.Outside.{Files}
use Rattle.command_words.specs.Refusal.{SourceBytes, MeshBytes, Refusal}
use Rattle.command_words.specs.Lines.{Answer, done, refused, faulted}
use Rattle.schedule_steps.specs.declared.step.Step.{Step}
use Rattle.command_words.specs.Words.{ChainJob, CountsChains, RunsChains, ChainOptions, PlanJob, Check, ShowsPlan, ShowsSchedule, RunsPlan, Options, group_of, Input, InFiles, OfSample, Command, OnPlan, OnChains, Converts, Translates, Restores, ShowsUsage, ShowsVersion, judged, names_from, names_before, names_by, names_in_blocks, names_at, names_of}
use Rattle.answers.specs.Judgements.{TextIs, SourceIs, TreeIs, TranslationIs, RestorationIs, TypesAre, FileIs, MeshIs, EntriesAre, BoundIs, AccessesAre, CutOf, Chosen, ChosenIs, NumbersOf, PartsOf, OwnersOf, ColouringOf, Planned, PlanIs, OrderOf, outline_of, StepsOf}
use Rattle.answers.specs.Answers.{given, ran, planned_answer, ChosenAnswers, PlannedAnswers, chain_answer, ChainAnswers, BoundAnswers, CommandAnswers}
use Rattle.answers.proofs.laws.OtherRefusals.{IsOther, is_other, Lack, IsJust, just, held_just, source_other, translation_other, types_other, mesh_other, binding_other, numbers_other, owners_other, Has, one, cut_just, chosen_other, parts_just, order_just, colouring_just, plan_other, steps_other}

-- ---- answers

pub zero_two : ◌≡◌ {A = ℕ} 0 2 → ⊥
zero_two e = cc

pub one_two : ◌≡◌ {A = ℕ} 1 2 → ⊥
one_two e = cc

pub three_two : ◌≡◌ {A = ℕ} 3 2 → ⊥
three_two e = cc

pub four_two : ◌≡◌ {A = ℕ} 4 2 → ⊥
four_two e = cc

pub nine_two : ◌≡◌ {A = ℕ} 9 2 → ⊥
nine_two e = cc

pub zero_three : ◌≡◌ {A = ℕ} 0 3 → ⊥
zero_three e = cc

pub four_three : ◌≡◌ {A = ℕ} 4 3 → ⊥
four_three e = cc

pub nine_three : ◌≡◌ {A = ℕ} 9 3 → ⊥
nine_three e = cc

-- an answer with another status than 2, and with 3 only where the files lack one of these names
abbrev IsSound : List (List ℕ) → Files → Answer → Type 0
IsSound names files a = (a.status ≡ 2 → ⊥) × (a.status ≡ 3 → Lack names files)

module _ (names : List (List ℕ)) (files : Files) where
  refused_sound : (r : Refusal) (a : Answer) → a ≡ refused r → IsJust names files r → IsSound names files a
  refused_sound r a e j = (λ h. j.0 (sym (ap (λ x. x.status) e) ∙ h), λ h. j.1 (sym (ap (λ x. x.status) e) ∙ h))

  done_sound : (bytes : List ℕ) (a : Answer) → a ≡ done bytes → IsSound names files a
  done_sound bytes a e = (λ h. zero_two (sym (ap (λ x. x.status) e) ∙ h), λ h. absurd (zero_three (sym (ap (λ x. x.status) e) ∙ h)))

  faulted_sound : (bytes : List ℕ) (x : Stop KernelFault) (a : Answer) → a ≡ faulted bytes x → IsSound names files a
  faulted_sound bytes x a e = (λ h. nine_two (sym (ap (λ y. y.status) e) ∙ h), λ h. absurd (nine_three (sym (ap (λ y. y.status) e) ∙ h)))

  given_sound : {A : Type 0} (J : Result A Refusal → Type 0) (f : A → Answer → Type 0) → ((r : Refusal) → J (Err r) → IsJust names files r)
      → ((x : A) (a : Answer) → f x a → IsSound names files a)
      → (a : Answer)
      → given J f a
      → IsSound names files a
  given_sound J f judged rest a (inl h) = refused_sound h.0 a h.2 (judged h.0 h.1)
  given_sound J f judged rest a (inr h) = rest h.0 a h.2

  -- where all refusals are of something else
  given_other : {A : Type 0} (J : Result A Refusal → Type 0) (f : A → Answer → Type 0) → ((r : Refusal) → J (Err r) → IsOther r)
      → ((x : A) (a : Answer) → f x a → IsSound names files a)
      → (a : Answer)
      → given J f a
      → IsSound names files a
  given_other J f others rest = given_sound J f (λ r j. just names files r (others r j)) rest

  ran_sound : (first : ℕ) (o : Option (Stop KernelFault)) (bytes : List ℕ) (a : Answer) → a ≡ ran first o bytes → IsSound names files a
  ran_sound first None bytes a e = done_sound bytes a e
  ran_sound first (Some x) bytes a e = faulted_sound bytes (later first x) a e

  source_just : (input : Input) → Has names (names_from input) → (r : Refusal) → SourceIs input files (Err r) → IsJust names files r
  source_just (InFiles source mesh) has r h = held_just names files SourceBytes source r (has source (0, omega arith, refl)) h
  source_just (OfSample side) has r h = absurd (let bad : ⊥ = cc in bad)

  mesh_just : (input : Input) → Has names (names_from input) → (r : Refusal) → MeshIs input files (Err r) → IsJust names files r
  mesh_just (InFiles source mesh) has r h = held_just names files MeshBytes mesh r (has mesh (1, omega arith, refl)) h
  mesh_just (OfSample side) has r h = absurd (let bad : ⊥ = cc in bad)

  plan_job_sound : (j : PlanJob) (dumps : Bool) (c : Chosen) (p : Planned) (steps : List Step) (a : Answer) → a ≡ planned_answer j dumps c p steps
      → IsSound names files a
  plan_job_sound Check dumps c p steps a e = done_sound _ a e
  plan_job_sound ShowsPlan dumps c p steps a e = done_sound _ a e
  plan_job_sound ShowsSchedule dumps c p steps a e = done_sound _ a e
  plan_job_sound RunsPlan dumps c p steps a e = ran_sound c.first (first_fault c.program) _ a e

  chosen_sound : (j : PlanJob) (o : Options) → Has names (names_by o.parting) → Has names (names_in_blocks o.blocks) → Has names (names_at o.schedule) → (c : Chosen) (a : Answer)
      → ChosenAnswers j o files c a
      → IsSound names files a
  chosen_sound j o has_part has_blocks has_order c a h =
      given_other (NumbersOf o c.program) _ (λ r h. numbers_other h.0 r h.2) (λ n.
      given_sound (PartsOf o.parting files) _ (parts_just names o.parting has_part files) (λ parts.
      given_other (OwnersOf o.ranks c.program parts) _ (λ r h. owners_other h.0 r h.2) (λ u.
      given_sound (ColouringOf o.blocks files) _ (colouring_just names o.blocks has_blocks files) (λ x.
      given_other (PlanIs x c.program u n) _ (plan_other x c.program u n) (λ p.
      given_sound (OrderOf o.schedule files) _ (order_just names o.schedule has_order files) (λ order.
      given_other (StepsOf (outline_of c.program p) (group_of o) order) (λ steps x. x ≡ planned_answer j o.dumps c p steps)
      (λ r h. steps_other (outline_of c.program p) (group_of o) order r h) (plan_job_sound j o.dumps c p))))))) a h.1

  planned_sound : (j : PlanJob) (o : Options) → Has names (names_before o.stretch) → Has names (names_by o.parting)
      → Has names (names_in_blocks o.blocks) → Has names (names_at o.schedule) → (b : BoundValue) (a : Answer)
      → PlannedAnswers j o files b a
      → IsSound names files a
  planned_sound j o has_state has_part has_blocks has_order b a h =
      given_sound (CutOf o.stretch files) _ (cut_just names o.stretch has_state files) (λ cut.
      given_other (ChosenIs cut b) (ChosenAnswers j o files) (chosen_other cut b) (chosen_sound j o has_part has_blocks has_order)) a h.1

  chain_job_sound : (j : ChainJob) (dumps : Bool) (b : BoundValue) (u : Owners) (a : Answer) → a ≡ chain_answer j dumps b u → IsSound names files a
  chain_job_sound CountsChains dumps b u a e = done_sound _ a e
  chain_job_sound RunsChains dumps b u a e = ran_sound 0 (first_fault b) _ a e

  chained_sound : (j : ChainJob) (o : ChainOptions) → Has names (names_by o.parting) → (b : BoundValue) (a : Answer) → ChainAnswers j o files b a
      → IsSound names files a
  chained_sound j o has_part b a h =
      given_sound (PartsOf o.parting files) _ (parts_just names o.parting has_part files) (λ parts.
      given_other (OwnersOf o.ranks b parts) (λ u x. x ≡ chain_answer j o.dumps b u) (λ r h. owners_other h.0 r h.2) (chain_job_sound j o.dumps b)) a h.1

  bound_sound : (rest : BoundValue → Answer → Type 0) → ((b : BoundValue) (a : Answer) → rest b a → IsSound names files a)
      → (input : Input)
      → Has names (names_from input)
      → (a : Answer)
      → BoundAnswers rest input files a
      → IsSound names files a
  bound_sound rest sound input has =
      given_sound (SourceIs input files) _ (source_just input has) (λ bytes.
      given_other (TreeIs bytes) _ (λ r h. source_other h.0 r h.2) (λ p.
      given_other (TypesAre p) _ (λ r h. types_other h.0 r h.2) (λ types.
      given_sound (MeshIs input files) _ (mesh_just input has) (λ text.
      given_other (EntriesAre text) _ (λ r h. mesh_other h.0 r h.2) (λ es.
      given_other (BoundIs p types es) _ (λ r h. binding_other p h.0 r h.2) (λ b.
      given_other (AccessesAre b) _ (λ r h. is_other r _ h.says tt) (λ u a h. sound b a h)))))))

-- those of the whole
left : (xs ys : List (List ℕ)) → Has (xs ++ ys) xs
left [] ys name (k, below, is) = absurd (omega (arith, below))
left (x ∷ xs) ys name (zero, below, is) = (zero, omega arith, is)
left (x ∷ xs) ys name (suc k, below, is) = further x (xs ++ ys) name (left xs ys name (k, omega (arith, below), is))
  where
    further : (x : List ℕ) (zs : List (List ℕ)) (name : List ℕ) → Contains zs name → Contains (x ∷ zs) name
    further x zs name (k, below, is) = (suc k, omega (arith, below), is)

right : (xs ys : List (List ℕ)) → Has (xs ++ ys) ys
right [] ys name c = c
right (x ∷ xs) ys name c = further (right xs ys name c)
  where
    further : Contains (xs ++ ys) name → Contains (x ∷ (xs ++ ys)) name
    further (k, below, is) = (suc k, omega (arith, below), is)

pub command_sound : (c : Command) (files : Files) (a : Answer) → CommandAnswers c files a → IsSound (names_of c) files a
command_sound (OnPlan j o input) files a h =
    bound_sound names files (PlannedAnswers j o files)
    (planned_sound names files j o
    (λ name c. with_input name (right (names_from input) (names_before o.stretch) name c))
    (λ name c. with_owners name (right (names_from input ++ names_before o.stretch) (names_by o.parting) name c))
    (λ name c. with_blocks name (right (names_from input ++ names_before o.stretch ++ names_by o.parting) (names_in_blocks o.blocks) name c))
    (right (names_from input ++ names_before o.stretch ++ names_by o.parting ++ names_in_blocks o.blocks) (names_at o.schedule)))
    input (λ name c. with_input name (left (names_from input) (names_before o.stretch) name c)) a h
  where
    names : List (List ℕ)
    names = names_of (OnPlan j o input)

    with_blocks : Has names (names_from input ++ names_before o.stretch ++ names_by o.parting ++ names_in_blocks o.blocks)
    with_blocks = left (names_from input ++ names_before o.stretch ++ names_by o.parting ++ names_in_blocks o.blocks) (names_at o.schedule)

    with_owners : Has names (names_from input ++ names_before o.stretch ++ names_by o.parting)
    with_owners name c = with_blocks name (left (names_from input ++ names_before o.stretch ++ names_by o.parting) (names_in_blocks o.blocks) name c)

    with_input : Has names (names_from input ++ names_before o.stretch)
    with_input name c = with_owners name (left (names_from input ++ names_before o.stretch) (names_by o.parting) name c)
command_sound (OnChains j o input) files a h =
    bound_sound names files (ChainAnswers j o files)
    (chained_sound names files j o (right (names_from input) (names_by o.parting)))
    input (left (names_from input) (names_by o.parting)) a h
  where
    names : List (List ℕ)
    names = names_of (OnChains j o input)
command_sound (Converts form mesh) files a h =
    given_sound (mesh ∷ []) files (FileIs mesh files) _ (λ r h. held_just (mesh ∷ []) files MeshBytes mesh r (one mesh) h) (λ text.
    given_other (mesh ∷ []) files (EntriesAre text) (λ es a. a ≡ done (canonical form es)) (λ r h. mesh_other h.0 r h.2)
    (λ es a h. done_sound (mesh ∷ []) files (canonical form es) a h)) a h
command_sound (Translates source) files a h =
    given_sound (source ∷ []) files (TextIs source files) _ (λ r h. held_just (source ∷ []) files SourceBytes source r (one source) h) (λ bytes.
    given_other (source ∷ []) files (TreeIs bytes) _ (λ r h. source_other h.0 r h.2) (λ p.
    given_other (source ∷ []) files (TranslationIs bytes p) (λ out a. a ≡ done out) (λ r h. translation_other h.0 r h.2)
    (λ out a h. done_sound (source ∷ []) files out a h))) a h
command_sound (Restores source) files a h =
    given_sound (source ∷ []) files (TextIs source files) _ (λ r h. held_just (source ∷ []) files SourceBytes source r (one source) h) (λ bytes.
    given_other (source ∷ []) files (RestorationIs bytes) (λ out a. a ≡ done out) (λ r h. translation_other h.0 r h.2)
    (λ out a h. done_sound (source ∷ []) files out a h)) a h
command_sound ShowsUsage files a h = done_sound [] files _ a h
command_sound ShowsVersion files a h = done_sound [] files _ a h
