-- Any two answers to the same words agree.
use Rattle.std.proofs.Common.{◌≡◌, ◌<◌, ◌⊎◌, inl, inr, ℕ, List, Option, Some, None, Result, Ok, Err, refl, sym, ap, ◌∙◌, subst}
use Rattle.c_tree.specs.Lexed as lexer
use Rattle.c_tree.specs.Lexed.{Lexes}
use Rattle.c_tree.specs.Tree.{ProgramTree}
use Rattle.c_tree.specs.Reads.{Reads}
use Rattle.kernel_model.specs.declared.types.kernels.Resolved.{Resolved}
use Rattle.kernel_model.specs.View.{resolved_of}
use Rattle.kernel_model.specs.Refusals.{ObeysUnlessBroken, OneRefusal}
use Rattle.kernel_model.specs.Walk.{Breach, WalkFinds}
use Rattle.name_resolution.specs.Programs as names
use Rattle.name_resolution.specs.Programs.{Resolves}
use Rattle.mesh_decl.specs.Spelling.{Named}
use Rattle.mesh_decl.specs.Reading.{Read, Reads as Spelled}
use Rattle.kernel_model.specs.Trees.{WalksAlike}
use Rattle.bound_program.specs.declared.refusals.refusals.BindRefusal.{BindRefusal}
use Rattle.bound_program.specs.Values.{BoundValue}
use Rattle.loop_bind.specs.Bound.{bound}
use Rattle.bound_plan.specs.OneRun.{KernelsAreOne}
use Rattle.op_translate.specs.Translation as trans
use Rattle.op_outside.specs.Outside.{Files}
use Rattle.command_words.specs.Refusal.{SourceBytes, MeshBytes, Refusal}
use Rattle.command_words.specs.Lines.{Answer, done, refused, line_of}
use Rattle.answers.specs.Said.{SaysTypes, SaysMesh, SaysBinding}
use Rattle.mesh_decl.specs.declared.text.entry.Form.{Form}
use Rattle.mesh_gen.specs.Sample.{sample_source, sample_mesh}
use Rattle.command_words.specs.Words.{ChainJob, ChainOptions, PlanJob, Options, Input, InFiles, OfSample, Command, OnPlan, OnChains, Converts, Translates, Restores, ShowsUsage, ShowsVersion, WordsAre}
use Rattle.answers.specs.Judgements.{TextIs, SourceIs, FileIs, MeshIs, TreeIs, TypesAre, TranslationIs, RestorationIs, EntriesAre, BoundIs, AccessesAre}
use Rattle.answers.specs.Answers.{given, PlannedAnswers, ChainAnswers, BoundAnswers, ConvertAnswers, TranslateAnswers, RestoreAnswers, CommandAnswers}
use Rattle.command_words.specs.Laws.{OptionsAreWithin}
use Rattle.answers.specs.Laws.{LacksTree, SourceLacksTree, Agree, AnswersAgree}
use Rattle.answers.proofs.laws.Given.{given_both, given_alike}
use Rattle.answers.proofs.laws.IsOne.{IsOne, held_is_one, told_is_one}
use Rattle.answers.proofs.laws.SaidOnce.{types_once, mesh_once, binding_once, source_status}
use Rattle.answers.proofs.laws.Translations.{translation_is_one, restoration_is_one}
use Rattle.answers.proofs.laws.Trees.{tree_lines}
use Rattle.answers.proofs.laws.Sites.{site_found, first_found, accesses_none, accesses_some}
use Rattle.answers.proofs.laws.SameKernels.{sites_found}
use Rattle.answers.proofs.laws.SameBound.{IsSame, SameOutcome, same_bound}

-- what is answered of two bound programs that are the same but for their kernels is one
abbrev Alike : (BoundValue → Answer → Type 0) → Type 0
Alike rest = (b c : BoundValue) → IsSame b c → (x y : Answer) → rest b x → rest c y → x ≡ y

-- the same status and bytes, and the same line unless N
record AgreeBut (N : Type 0) (a b : Answer) : Type 0 where
  pub status : a.status ≡ b.status
  pub out : a.out ≡ b.out
  pub line : (a.line ≡ b.line) ⊎ N

same_answers : (N : Type 0) (a b : Answer) → a ≡ b → AgreeBut N a b
same_answers N a b e = record { status = ap (λ x. x.status) e; out = ap (λ x. x.out) e; line = inl (ap (λ x. x.line) e) }

same_refusals : (N : Type 0) (r s : Refusal) → r ≡ s → AgreeBut N (refused r) (refused s)
same_refusals N r s e = same_answers N (refused r) (refused s) (ap refused e)

-- ---- files

source_is_one : (input : Input) (files : Files) → IsOne (SourceIs input files)
source_is_one (InFiles source mesh) files = held_is_one SourceBytes source (files source)
source_is_one (OfSample side) files = told_is_one sample_source

mesh_is_one : (input : Input) (files : Files) → IsOne (MeshIs input files)
mesh_is_one (InFiles source mesh) files = held_is_one MeshBytes mesh (files mesh)
mesh_is_one (OfSample side) files = told_is_one (sample_mesh side)

module _ (walks_alike : WalksAlike) (kernels_are_one : KernelsAreOne)
    (one_read : (bytes : List ℕ) (a b : Read) → Spelled bytes a → Spelled bytes b → a ≡ b)
    (one_outcome : (bytes : List ℕ) (a b : lexer.Outcome) → Lexes bytes a → Lexes bytes b → a ≡ b)
    (one_tree : (bytes : List ℕ) (a b : ProgramTree) → Reads bytes a → Reads bytes b → a ≡ b)
    (one_resolved : (p : ProgramTree) (a b : names.Outcome) → Resolves p a → Resolves p b → a ≡ b) (walk_finds : WalkFinds)
    (obeys : ObeysUnlessBroken) (one_breach : OneRefusal)
    (plans_alike : (j : PlanJob) (o : Options) (files : Files) → 0 < o.ranks → Alike (PlannedAnswers j o files))
    (chains_alike : (j : ChainJob) (o : ChainOptions) (files : Files) → 0 < o.ranks → Alike (ChainAnswers j o files))
    (within : OptionsAreWithin) (one_translation : (bytes : List ℕ) (p : ProgramTree) (a b : trans.Outcome) → trans.Translates bytes p a
    → trans.Translates bytes p b → a ≡ b) (one_restoration : (bytes : List ℕ) (a b : trans.Outcome) → trans.Restores bytes a
    → trans.Restores bytes b → a ≡ b) where
  -- ---- accesses

  -- what is found in the loops' kernels
  abbrev found : BoundValue → Option Breach
  found b = first_found (site_found b) b.sites

  found_same : (b c : BoundValue) → IsSame b c → found b ≡ found c
  found_same b c same = sites_found walks_alike kernels_are_one b c.kernels same.1 ∙ ap found (sym same.0)

  accesses_agree : (N : Type 0) (rest : BoundValue → Answer → Type 0) → Alike rest → (b c : BoundValue) → IsSame b c → (x y : Answer)
      → given (AccessesAre b) (λ _. rest b) x → given (AccessesAre c) (λ _. rest c) y → AgreeBut N x y
  accesses_agree N rest alike b c same =
      given_both (AccessesAre b) (AccessesAre c) (λ _. rest b) (λ _. rest c) (AgreeBut N) refusals refused_b refused_c (λ u v h k x y p q. same_answers N x y (alike b c same x y p q))
    where
      refusals : (r s : Refusal) → AccessesAre b (Err r) → AccessesAre c (Err s) → AgreeBut N (refused r) (refused s)
      refusals r s h k =
          let f = accesses_some walk_finds obeys one_breach b r h in
          let g = accesses_some walk_finds obeys one_breach c s k in
          let e : Some f.0 ≡ Some g.0 = sym f.1 ∙ found_same b c same ∙ g.1 in
          let same_breach : f.0 ≡ g.0 = cc in
          same_refusals N r s (f.2 ∙ rw same_breach refl ∙ sym g.2)

      refused_b : (r : Refusal) (u : Unit {0}) → AccessesAre b (Err r) → AccessesAre c (Ok u) → ⊥
      refused_b r u h k =
          let f = accesses_some walk_finds obeys one_breach b r h in
          let e : Some f.0 ≡ None = sym f.1 ∙ found_same b c same ∙ accesses_none walk_finds obeys one_breach c u k in
          let bad : ⊥ = cc in bad

      refused_c : (u : Unit {0}) (s : Refusal) → AccessesAre b (Ok u) → AccessesAre c (Err s) → ⊥
      refused_c u s h k =
          let g = accesses_some walk_finds obeys one_breach c s k in
          let e : Some g.0 ≡ None = sym g.1 ∙ sym (found_same b c same) ∙ accesses_none walk_finds obeys one_breach b u h in
          let bad : ⊥ = cc in bad

  -- ---- binding

  bounds_agree : (N : Type 0) (rest : BoundValue → Answer → Type 0) → Alike rest → (p : ProgramTree) (r q : Resolved)
      → resolved_of r ≡ resolved_of q → (es : List Named) → (x y : Answer)
      → given (BoundIs p r es) (λ b. given (AccessesAre b) (λ _. rest b)) x
      → given (BoundIs p q es) (λ b. given (AccessesAre b) (λ _. rest b)) y → AgreeBut N x y
  bounds_agree N rest alike p r q e es =
      given_both (BoundIs p r es) (BoundIs p q es) (λ b. given (AccessesAre b) (λ _. rest b)) (λ b. given (AccessesAre b) (λ _. rest b)) (AgreeBut N) refusals one_refused other_refused values
    where
      both : (m n : Result BoundValue BindRefusal) → bound p r es ≡ m → bound p q es ≡ n → SameOutcome m n
      both m n h k = let s = same_bound p r q es e in rw (← h, ← k) s

      refusals : (s t : Refusal) → BoundIs p r es (Err s) → BoundIs p q es (Err t) → AgreeBut N (refused s) (refused t)
      refusals s t h k = same_refusals N s t (binding_once p h.0 s t h.2 (subst (λ f. SaysBinding p f t) (sym (both (Err h.0) (Err k.0) h.1 k.1)) k.2))

      one_refused : (s : Refusal) (c : BoundValue) → BoundIs p r es (Err s) → BoundIs p q es (Ok c) → ⊥
      one_refused s c h k = both (Err h.0) (Ok c) h.1 k

      other_refused : (b : BoundValue) (t : Refusal) → BoundIs p r es (Ok b) → BoundIs p q es (Err t) → ⊥
      other_refused b t h k = both (Ok b) (Err k.0) h k.1

      values : (b c : BoundValue) → BoundIs p r es (Ok b) → BoundIs p q es (Ok c) → (x y : Answer) → given (AccessesAre b) (λ _. rest b) x → given (AccessesAre c) (λ _. rest c) y → AgreeBut N x y
      values b c h k = accesses_agree N rest alike b c (both (Ok b) (Ok c) h k)

  -- ---- the mesh

  -- what comes after the kernels and constants
  abbrev FromMesh : (BoundValue → Answer → Type 0) → Input → Files → ProgramTree → Resolved → Answer → Type 0
  FromMesh rest input files p r =
      given (MeshIs input files) (λ text.
      given (EntriesAre text) (λ es.
      given (BoundIs p r es) (λ b.
      given (AccessesAre b) (λ _. rest b))))

  entries_are_one : (text : List ℕ) → IsOne (EntriesAre text)
  entries_are_one text = record {
    refusals = λ s t h k.
        let e : ◌≡◌ {A = Read} (Err k.0) (Err h.0) = one_read text (Err k.0) (Err h.0) k.1 h.1 in
        let same : k.0 ≡ h.0 = cc in
        mesh_once h.0 s t h.2 (subst (λ f. SaysMesh f t) same k.2);
    apart = λ s es h k. let e : Err h.0 ≡ Ok es = one_read text (Err h.0) (Ok es) h.1 k in cc;
    values = λ a b h k. let e : ◌≡◌ {A = Read} (Ok a) (Ok b) = one_read text (Ok a) (Ok b) h k in cc;
  }

  entries_agree : (N : Type 0) (rest : BoundValue → Answer → Type 0) → Alike rest → (p : ProgramTree) (r q : Resolved)
      → resolved_of r ≡ resolved_of q → (text : List ℕ) → (x y : Answer)
      → given (EntriesAre text) (λ es. given (BoundIs p r es) (λ b. given (AccessesAre b) (λ _. rest b))) x
      → given (EntriesAre text) (λ es. given (BoundIs p q es) (λ b. given (AccessesAre b) (λ _. rest b))) y → AgreeBut N x y
  entries_agree N rest alike p r q e text =
      given_alike (EntriesAre text) (λ es. given (BoundIs p r es) (λ b. given (AccessesAre b) (λ _. rest b))) (λ es. given (BoundIs p q es) (λ b. given (AccessesAre b) (λ _. rest b))) (AgreeBut N)
      (λ s t h k. same_refusals N s t ((entries_are_one text).refusals s t h k)) (entries_are_one text).apart (entries_are_one text).values
      (λ es h. bounds_agree N rest alike p r q e es)

  meshes_agree : (N : Type 0) (rest : BoundValue → Answer → Type 0) → Alike rest
      → (input : Input) (files : Files) (p : ProgramTree) (r q : Resolved) → resolved_of r ≡ resolved_of q → (x y : Answer)
      → FromMesh rest input files p r x → FromMesh rest input files p q y → AgreeBut N x y
  meshes_agree N rest alike input files p r q e =
      given_alike (MeshIs input files)
      (λ text. given (EntriesAre text) (λ es. given (BoundIs p r es) (λ b. given (AccessesAre b) (λ _. rest b))))
      (λ text. given (EntriesAre text) (λ es. given (BoundIs p q es) (λ b. given (AccessesAre b) (λ _. rest b)))) (AgreeBut N)
      (λ s t h k. same_refusals N s t ((mesh_is_one input files).refusals s t h k)) (mesh_is_one input files).apart (mesh_is_one input files).values
      (λ text h. entries_agree N rest alike p r q e text)

  -- ---- the source

  types_agree : (N : Type 0) (rest : BoundValue → Answer → Type 0) → Alike rest → (input : Input) (files : Files) (p : ProgramTree)
      → (x y : Answer) → given (TypesAre p) (FromMesh rest input files p) x → given (TypesAre p) (FromMesh rest input files p) y
      → AgreeBut N x y
  types_agree N rest alike input files p =
      given_both (TypesAre p) (TypesAre p) (FromMesh rest input files p) (FromMesh rest input files p) (AgreeBut N) refusals (λ s q h k. mixed s q h k) (λ r t h k. mixed t r k h) values
    where
      refusals : (s t : Refusal) → TypesAre p (Err s) → TypesAre p (Err t) → AgreeBut N (refused s) (refused t)
      refusals s t h k =
          let e = one_resolved p (Err h.0) (Err k.0) h.1 k.1 in
          let same : h.0 ≡ k.0 = cc in
          same_refusals N s t (types_once h.0 s t h.2 (subst (λ f. SaysTypes f t) (sym same) k.2))

      mixed : (s : Refusal) (q : Resolved) → TypesAre p (Err s) → TypesAre p (Ok q) → ⊥
      mixed s q h k = let e = one_resolved p (Err h.0) (Ok (resolved_of q)) h.1 k in let bad : ⊥ = cc in bad

      values : (r q : Resolved) → TypesAre p (Ok r) → TypesAre p (Ok q) → (x y : Answer) → FromMesh rest input files p r x → FromMesh rest input files p q y → AgreeBut N x y
      values r q h k = meshes_agree N rest alike input files p r q (h.1 ∙ sym k.1)

  -- the source lacks a tree
  abbrev Lacks : Input → Files → Type 0
  Lacks input files = (bytes : List ℕ) × SourceIs input files (Ok bytes) × LacksTree bytes

  -- where answers of one tree agree, those of the bytes do
  trees_agree : (N : Type 0) (bytes : List ℕ) → (LacksTree bytes → N) → (rest : ProgramTree → Answer → Type 0)
      → ((p : ProgramTree) (x y : Answer) → rest p x → rest p y → AgreeBut N x y) → (x y : Answer) → given (TreeIs bytes) rest x
      → given (TreeIs bytes) rest y → AgreeBut N x y
  trees_agree N bytes lacks rest agree =
      given_alike (TreeIs bytes) rest rest (AgreeBut N) refusals (λ s p h k. h.1.none p k) (λ a b h k. one_tree bytes a b h k) (λ p h. agree p)
    where
      lines : (s t : Refusal) → (line_of s ≡ line_of t) ⊎ LacksTree bytes → (line_of s ≡ line_of t) ⊎ N
      lines s t (inl e) = inl e
      lines s t (inr l) = inr (lacks l)

      refusals : (s t : Refusal) → TreeIs bytes (Err s) → TreeIs bytes (Err t) → AgreeBut N (refused s) (refused t)
      refusals s t h k = record {
        status = source_status h.0 s h.2 ∙ sym (source_status k.0 t k.2);
        out = refl;
        line = lines s t (tree_lines one_outcome bytes s t h k);
      }

  programs_agree : (rest : BoundValue → Answer → Type 0) → Alike rest → (input : Input) (files : Files) → (x y : Answer)
      → BoundAnswers rest input files x → BoundAnswers rest input files y → AgreeBut (Lacks input files) x y
  programs_agree rest alike input files =
      given_alike (SourceIs input files) (λ bytes. given (TreeIs bytes) (λ p. given (TypesAre p) (FromMesh rest input files p)))
      (λ bytes. given (TreeIs bytes) (λ p. given (TypesAre p) (FromMesh rest input files p))) (AgreeBut (Lacks input files))
      (λ s t h k. same_refusals (Lacks input files) s t ((source_is_one input files).refusals s t h k)) (source_is_one input files).apart (source_is_one input files).values
      (λ bytes h. trees_agree (Lacks input files) bytes (λ l. (bytes, h, l)) (λ p. given (TypesAre p) (FromMesh rest input files p)) (types_agree (Lacks input files) rest alike input files))

  converts_agree : (form : Form) (mesh : List ℕ) (files : Files) → (x y : Answer) → ConvertAnswers form mesh files x → ConvertAnswers form mesh files y → AgreeBut ⊥ x y
  converts_agree form mesh files =
      given_alike (FileIs mesh files) _ _ (AgreeBut ⊥) (λ s t h k. same_refusals ⊥ s t ((held_is_one MeshBytes mesh (files mesh)).refusals s t h k))
      (held_is_one MeshBytes mesh (files mesh)).apart (held_is_one MeshBytes mesh (files mesh)).values
      (λ text _.
      given_alike (EntriesAre text) _ _ (AgreeBut ⊥) (λ s t h k. same_refusals ⊥ s t ((entries_are_one text).refusals s t h k))
      (entries_are_one text).apart (entries_are_one text).values
      (λ es _ x y h k. same_answers ⊥ x y (h ∙ sym k)))

  -- ---- translations

  -- the source in a file lacks a tree
  abbrev FileLacks : List ℕ → Files → Type 0
  FileLacks source files = (bytes : List ℕ) × TextIs source files (Ok bytes) × LacksTree bytes

  translations_agree : (source : List ℕ) (files : Files) → (x y : Answer) → TranslateAnswers source files x → TranslateAnswers source files y → AgreeBut (FileLacks source files) x y
  translations_agree source files =
      given_alike (TextIs source files) _ _ (AgreeBut (FileLacks source files))
      (λ s t h k. same_refusals (FileLacks source files) s t ((held_is_one SourceBytes source (files source)).refusals s t h k))
      (held_is_one SourceBytes source (files source)).apart (held_is_one SourceBytes source (files source)).values
      (λ bytes h.
      trees_agree (FileLacks source files) bytes (λ l. (bytes, h, l)) (λ p. given (TranslationIs bytes p) (λ out a. a ≡ done out)) (λ p.
      given_alike (TranslationIs bytes p) _ _ (AgreeBut (FileLacks source files))
      (λ s t h k. same_refusals (FileLacks source files) s t ((translation_is_one one_translation bytes p).refusals s t h k))
      (translation_is_one one_translation bytes p).apart (translation_is_one one_translation bytes p).values
      (λ out _ x y h k. same_answers (FileLacks source files) x y (h ∙ sym k))))

  restorations_agree : (source : List ℕ) (files : Files) → (x y : Answer) → RestoreAnswers source files x → RestoreAnswers source files y → AgreeBut ⊥ x y
  restorations_agree source files =
      given_alike (TextIs source files) _ _ (AgreeBut ⊥) (λ s t h k. same_refusals ⊥ s t ((held_is_one SourceBytes source (files source)).refusals s t h k))
      (held_is_one SourceBytes source (files source)).apart (held_is_one SourceBytes source (files source)).values
      (λ bytes _.
      given_alike (RestorationIs bytes) _ _ (AgreeBut ⊥) (λ s t h k. same_refusals ⊥ s t ((restoration_is_one one_restoration bytes).refusals s t h k))
      (restoration_is_one one_restoration bytes).apart (restoration_is_one one_restoration bytes).values
      (λ out _ x y h k. same_answers ⊥ x y (h ∙ sym k)))

  -- ---- the words

  agree_for : (words : List (List ℕ)) (files : Files) (N : Type 0) → (N → SourceLacksTree words files) → (a b : Answer) → AgreeBut N a b → Agree words files a b
  agree_for words files N f a b h = record { status = h.status; out = h.out; line = by_line h.line }
    where
      by_line : (a.line ≡ b.line) ⊎ N → (a.line ≡ b.line) ⊎ SourceLacksTree words files
      by_line (inl e) = inl e
      by_line (inr n) = inr (f n)

  commands_agree : (words : List (List ℕ)) (files : Files) (c : Command) → WordsAre words (Ok c) → (a b : Answer) → CommandAnswers c files a → CommandAnswers c files b → Agree words files a b
  commands_agree words files (OnPlan j o input) asks a b h k =
      agree_for words files (Lacks input files) (λ l. record { command = OnPlan j o input; bytes = l.0; asks = asks; held = l.1; lacks = l.2 }) a b
      (programs_agree (PlannedAnswers j o files) (plans_alike j o files (within words (OnPlan j o input) asks).ranks.some) input files a b h k)
  commands_agree words files (OnChains j o input) asks a b h k =
      agree_for words files (Lacks input files) (λ l. record { command = OnChains j o input; bytes = l.0; asks = asks; held = l.1; lacks = l.2 }) a b
      (programs_agree (ChainAnswers j o files) (chains_alike j o files (within words (OnChains j o input) asks).some) input files a b h k)
  commands_agree words files (Converts form mesh) asks a b h k = agree_for words files ⊥ (λ x. absurd x) a b (converts_agree form mesh files a b h k)
  commands_agree words files (Translates source) asks a b h k =
      agree_for words files (FileLacks source files) (λ l. record { command = Translates source; bytes = l.0; asks = asks; held = l.1; lacks = l.2 }) a b (translations_agree source files a b h k)
  commands_agree words files (Restores source) asks a b h k = agree_for words files ⊥ (λ x. absurd x) a b (restorations_agree source files a b h k)
  commands_agree words files ShowsUsage asks a b h k = agree_for words files ⊥ (λ x. absurd x) a b (same_answers ⊥ a b (h ∙ sym k))
  commands_agree words files ShowsVersion asks a b h k = agree_for words files ⊥ (λ x. absurd x) a b (same_answers ⊥ a b (h ∙ sym k))

  pub answers_agree : AnswersAgree
  answers_agree words files =
      given_alike (WordsAre words) (λ c. CommandAnswers c files) (λ c. CommandAnswers c files) (Agree words files) refusals
      (λ s c h k. let e : Err s ≡ Ok c = sym h ∙ k in let bad : ⊥ = cc in bad)
      (λ c d h k. let e : Ok c ≡ Ok d = sym h ∙ k in let same : c ≡ d = cc in same) (λ c h. commands_agree words files c h)
    where
      refusals : (s t : Refusal) → WordsAre words (Err s) → WordsAre words (Err t) → Agree words files (refused s) (refused t)
      refusals s t h k =
          let e : Err s ≡ Err t = sym h ∙ k in
          let same : s ≡ t = cc in
          agree_for words files ⊥ (λ x. absurd x) (refused s) (refused t) (same_refusals ⊥ s t same)
