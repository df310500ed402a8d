-- What a run is of, where its words are answered: one bound program, and the items of it that run.
use Rattle.std.proofs.Common.{◌≡◌, inl, inr, ℕ, Bool, false, List, [], Result, Ok, refl, sym, ap, ◌∙◌, subst}
use Rattle.c_tree.specs.Tree.{ProgramTree}
use Rattle.c_tree.specs.Reads.{Reads}
use Rattle.kernel_model.specs.declared.types.faults.KernelFault.{KernelFault}
use Rattle.kernel_model.specs.declared.types.kernels.Resolved.{Resolved}
use Rattle.kernel_model.specs.View.{resolved_of}
use Rattle.name_resolution.specs.Programs as names
use Rattle.name_resolution.specs.Programs.{Resolves}
use Rattle.mesh_decl.specs.Spelling.{Named}
use Rattle.mesh_decl.specs.Reading.{Read, Reads as Spelled}
use Rattle.schedule_model.specs.Sequential.{Seq}
use Rattle.bound_program.specs.Values.{BoundValue}
use Rattle.bound_program.specs.Fits.{Fits}
use Rattle.loop_bind.specs.Bound.{bound}
use Rattle.run_model.specs.Programs.{run_of_program, printed_in, stop_in}
use Rattle.mesh_decl.specs.declared.owners.Owners.{Owners}
use Rattle.local_mesh.specs.declared.types.RankMesh.{RankMesh}
use Rattle.loop_plan.specs.Values.{PlanValue}
use Rattle.schedule_steps.specs.declared.step.Step.{Step}
use Rattle.bound_plan.specs.Memories.{unless_stopped, dump_of}
use Rattle.op_outside.specs.Outside.{Files}
use Rattle.command_words.specs.Refusal.{SourceBytes, MeshBytes, Refusal, status_of, Usage, CannotRead, NoTokens, NoTree, TooDeep, BadName, BadBinding, BadTarget, BadAccess, BadMesh, BadCut, BadState, BadPart, BadPartition, BadPlan, BadSchedule, BadStep, EarlyStep, LeftStep, BadStub, BeyondLimit}
use Rattle.command_words.specs.Words.{RunsPlan, Stretch, Options, Command, InFiles, OnPlan, WordsAre, group_of}
use Rattle.command_words.specs.Lines.{Answer, refused}
use Rattle.answers.specs.Judgements.{SourceIs, TreeIs, TypesAre, MeshIs, EntriesAre, BoundIs, AccessesAre, Cut, CutOf, Chosen, ChosenIs, NumbersOf, PartsOf, OwnersOf, ColouringOf, PlanIs, OrderOf, outline_of, StepsOf}
use Rattle.answers.specs.Answers.{given, ran, planned_answer, ChosenAnswers, PlannedAnswers, CommandAnswers}
use Rattle.answers.specs.Endings.{IsWritten}
use Rattle.answers.specs.Restarts.{IsRun}
use Rattle.answers.specs.OnCells.{RunsAnswerOnCells}
use Rattle.answers.proofs.laws.IsOne.{held_is_one}
use Rattle.answers.proofs.laws.SameBound.{IsSame, SameOutcome, same_bound}

-- ---- what is run

-- the program of a source and a mesh in files, bound
pub record IsProgramOf (source mesh : List ℕ) (files : Files) (b : BoundValue) : Type 0 where
  pub bytes : List ℕ
  pub tree : ProgramTree
  pub types : Resolved
  pub text : List ℕ
  pub entries : List Named
  pub held : SourceIs (InFiles source mesh) files (Ok bytes)
  pub reads : Reads bytes tree
  pub typed : Resolves tree (Ok (resolved_of types))
  pub there : MeshIs (InFiles source mesh) files (Ok text)
  pub spelled : EntriesAre text (Ok entries)
  pub is : bound tree types entries ≡ Ok b

-- ---- answers that are written are no refusals

not_zero : (r : Refusal) → status_of r ≡ 0 → ⊥
not_zero Usage e = cc
not_zero (CannotRead n) e = cc
not_zero (NoTokens n at) e = cc
not_zero (NoTree at) e = cc
not_zero (TooDeep at) e = cc
not_zero (BadName n at) e = cc
not_zero (BadBinding n at) e = cc
not_zero (BadTarget at m x p) e = cc
not_zero (BadAccess n at) e = cc
not_zero (BadMesh n line) e = cc
not_zero (BadCut item) e = cc
not_zero (BadState n line) e = cc
not_zero (BadPart n) e = cc
not_zero (BadPartition n line) e = cc
not_zero (BadPlan n line) e = cc
not_zero (BadSchedule n line) e = cc
not_zero (BadStep n line s) e = cc
not_zero (EarlyStep line s t) e = cc
not_zero (LeftStep line t) e = cc
not_zero (BadStub n at) e = cc
not_zero (BeyondLimit l n) e = cc

not_nine : (r : Refusal) → status_of r ≡ 9 → ⊥
not_nine Usage e = cc
not_nine (CannotRead n) e = cc
not_nine (NoTokens n at) e = cc
not_nine (NoTree at) e = cc
not_nine (TooDeep at) e = cc
not_nine (BadName n at) e = cc
not_nine (BadBinding n at) e = cc
not_nine (BadTarget at m x p) e = cc
not_nine (BadAccess n at) e = cc
not_nine (BadMesh n line) e = cc
not_nine (BadCut item) e = cc
not_nine (BadState n line) e = cc
not_nine (BadPart n) e = cc
not_nine (BadPartition n line) e = cc
not_nine (BadPlan n line) e = cc
not_nine (BadSchedule n line) e = cc
not_nine (BadStep n line s) e = cc
not_nine (EarlyStep line s t) e = cc
not_nine (LeftStep line t) e = cc
not_nine (BadStub n at) e = cc
not_nine (BeyondLimit l n) e = cc

not_written : (r : Refusal) (a : Answer) → a ≡ refused r → IsWritten a → ⊥
not_written r a e (inl w) = not_zero r (sym (ap (λ x. x.status) e) ∙ w)
not_written r a e (inr w) = not_nine r (sym (ap (λ x. x.status) e) ∙ w)

-- so its judgement gave something, and what follows of that is so
through : {A : Type 0} (R : Answer → Type 0) (J : Result A Refusal → Type 0) (f : A → Answer → Type 0)
    → ((x : A) → J (Ok x) → (a : Answer) → IsWritten a → f x a → R a)
    → (a : Answer) → IsWritten a → given J f a → R a
through R J f rest a w (inl h) = absurd (not_written h.0 a h.2 w)
through R J f rest a w (inr h) = rest h.0 h.1 a w h.2

-- ---- runs

-- the answer of a run, by what it is of: with that dump behind it, where it has no fault
abbrev pub told : (first : ℕ) (dump : List ℕ) → Seq KernelFault → Answer
told first dump r = ran first (stop_in r) (unless_stopped (stop_in r) (printed_in r) dump)

-- what a run is of
pub record Runs (source mesh : List ℕ) (stretch : Stretch) (files : Files) (o : Options) (a : Answer) : Type 0 where
  pub program : BoundValue
  pub is_of : IsProgramOf source mesh files program
  pub obeyed : AccessesAre program (Ok tt)
  pub fits : Fits program
  pub cut : Cut
  pub cut_of : CutOf stretch files (Ok cut)
  pub chosen : Chosen
  pub chosen_is : ChosenIs cut program (Ok chosen)
  pub dump : List ℕ
  pub undumped : o.dumps ≡ false → dump ≡ []
  pub answer : a ≡ told chosen.first dump (run_of_program chosen.program)

-- what is known of a run's answer and its dump
record Told (o : Options) (c : Chosen) (a : Answer) : Type 0 where
  pub dump : List ℕ
  pub undumped : o.dumps ≡ false → dump ≡ []
  pub answer : a ≡ told c.first dump (run_of_program c.program)

no_dump : (dumps : Bool) → dumps ≡ false → (b : BoundValue) (u : Owners) (ms : List RankMesh) (p : PlanValue) (steps : List Step) → dump_of dumps b u ms p steps ≡ []
no_dump dumps e b u ms p steps = rw e refl

chosen_told : RunsAnswerOnCells → (files : Files) (o : Options) (c : Chosen) (a : Answer) → IsWritten a → ChosenAnswers RunsPlan o files c a → Told o c a
chosen_told on_cells files o c a w h =
    through (Told o c) (NumbersOf o c.program) _ (λ n _.
    through (Told o c) (PartsOf o.parting files) _ (λ parts _.
    through (Told o c) (OwnersOf o.ranks c.program parts) _ (λ u _.
    through (Told o c) (ColouringOf o.blocks files) _ (λ x _.
    through (Told o c) (PlanIs x c.program u n) _ (λ p _.
    through (Told o c) (OrderOf o.schedule files) _ (λ order _.
    through (Told o c) (StepsOf (outline_of c.program p) (group_of o) order) (λ steps y. y ≡ planned_answer RunsPlan o.dumps c p steps) (λ steps _ y _ is. record {
      dump = dump_of o.dumps c.program p.distribution.owners p.distribution.ranks.items p.plan steps;
      undumped = λ e. no_dump o.dumps e c.program p.distribution.owners p.distribution.ranks.items p.plan steps;
      answer = is ∙ on_cells c.first c.program h.0 _;
    }))))))) a w h.1

module _ (on_cells : RunsAnswerOnCells) (source mesh : List ℕ) (files : Files) (o : Options) where
  -- what it is of, with any items
  abbrev Its : Answer → Type 0
  Its a = Runs source mesh o.stretch files o a

  planned_runs : (b : BoundValue) → IsProgramOf source mesh files b → AccessesAre b (Ok tt) → (a : Answer) → IsWritten a → PlannedAnswers RunsPlan o files b a → Its a
  planned_runs b is_of obeyed a w h =
      through Its (CutOf o.stretch files) _ (λ cut cut_of.
      through Its (ChosenIs cut b) (ChosenAnswers RunsPlan o files) (λ c chosen y v answered. by_told y cut cut_of c chosen (chosen_told on_cells files o c y v answered))) a w h.1
    where
      by_told : (y : Answer) (cut : Cut) → CutOf o.stretch files (Ok cut) → (c : Chosen) → ChosenIs cut b (Ok c) → Told o c y → Its y
      by_told y cut cut_of c chosen t = record {
        program = b;
        is_of = is_of;
        obeyed = obeyed;
        fits = h.0;
        cut = cut;
        cut_of = cut_of;
        chosen = c;
        chosen_is = chosen;
        dump = t.dump;
        undumped = t.undumped;
        answer = t.answer;
      }

  command_runs : (a : Answer) → IsWritten a → CommandAnswers (OnPlan RunsPlan o (InFiles source mesh)) files a → Its a
  command_runs =
      through Its (SourceIs (InFiles source mesh) files) _ (λ bytes held.
      through Its (TreeIs bytes) _ (λ p reads.
      through Its (TypesAre p) _ (λ types typed.
      through Its (MeshIs (InFiles source mesh) files) _ (λ text there.
      through Its (EntriesAre text) _ (λ es spelled.
      through Its (BoundIs p types es) _ (λ b is.
      through Its (AccessesAre b) (λ _. PlannedAnswers RunsPlan o files b) (λ u obeyed.
      planned_runs b (record {
        bytes = bytes;
        tree = p;
        types = types;
        text = text;
        entries = es;
        held = held;
        reads = reads;
        typed = typed;
        there = there;
        spelled = spelled;
        is = is;
      }) obeyed)))))))

pub runs : RunsAnswerOnCells → (source mesh : List ℕ) (stretch : Stretch) (files : Files) (a : Answer) (r : IsRun source mesh stretch files a) → Runs source mesh stretch files r.options a
runs on_cells source mesh stretch files a r =
    through (Runs source mesh stretch files r.options) (WordsAre r.words) (λ c. CommandAnswers c files) (λ c asks y w answered.
    let e : ◌≡◌ {A = Result Command Refusal} (Ok c) (Ok (OnPlan RunsPlan r.options (InFiles source mesh))) = sym asks ∙ r.asks in
    let same : c ≡ OnPlan RunsPlan r.options (InFiles source mesh) = cc in
    subst (λ s. Runs source mesh s files r.options y) r.items
    (command_runs on_cells source mesh files r.options y w (subst (λ d. CommandAnswers d files y) same answered))) a r.ran r.answers

-- ---- one program

module _ (one_tree : (bytes : List ℕ) (a b : ProgramTree) → Reads bytes a → Reads bytes b → a ≡ b)
    (one_resolved : (p : ProgramTree) (a b : names.Outcome) → Resolves p a → Resolves p b → a ≡ b)
    (one_read : (bytes : List ℕ) (a b : Read) → Spelled bytes a → Spelled bytes b → a ≡ b) where
  same_entries : (text : List ℕ) (es fs : List Named) → EntriesAre text (Ok es) → EntriesAre text (Ok fs) → es ≡ fs
  same_entries text es fs h k = let e = one_read text (Ok es) (Ok fs) h k in cc

  same_types : (p : ProgramTree) (r q : Resolved) → Resolves p (Ok (resolved_of r)) → Resolves p (Ok (resolved_of q)) → resolved_of r ≡ resolved_of q
  same_types p r q h k = let e = one_resolved p (Ok (resolved_of r)) (Ok (resolved_of q)) h k in cc

  by_outcome : (b c : BoundValue) (x y : _) → x ≡ Ok b → y ≡ Ok c → SameOutcome x y → IsSame b c
  by_outcome b c x y e f h = let k = rw (e, f) at h in k

  -- two programs of the same source and mesh are the same but for the kernels' addresses
  pub one_program_of : (source mesh : List ℕ) (files others : Files) (b c : BoundValue) → IsProgramOf source mesh files b → IsProgramOf source mesh others c
      → others source ≡ files source → others mesh ≡ files mesh → IsSame b c
  one_program_of source mesh files others b c h k e f =
      let bytes : h.bytes ≡ k.bytes = (held_is_one SourceBytes source (files source)).values h.bytes k.bytes h.held (rw e at k.held) in
      let text : h.text ≡ k.text = (held_is_one MeshBytes mesh (files mesh)).values h.text k.text h.there (rw f at k.there) in
      let tree : h.tree ≡ k.tree = one_tree k.bytes h.tree k.tree (subst (λ z. Reads z h.tree) bytes h.reads) k.reads in
      let types : resolved_of h.types ≡ resolved_of k.types = same_types k.tree h.types k.types (subst (λ p. Resolves p (Ok (resolved_of h.types))) tree h.typed) k.typed in
      let entries : h.entries ≡ k.entries = same_entries k.text h.entries k.entries (subst (λ z. EntriesAre z (Ok h.entries)) text h.spelled) k.spelled in
      by_outcome b c (bound k.tree h.types k.entries) (bound k.tree k.types k.entries)
      (ap (λ es. bound k.tree h.types es) (sym entries) ∙ ap (λ p. bound p h.types h.entries) (sym tree) ∙ h.is) k.is
      (same_bound k.tree h.types k.types k.entries types)
