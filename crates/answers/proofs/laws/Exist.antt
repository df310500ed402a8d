-- There is an answer to all words.
use Rattle.std.proofs.Common.{◌≡◌, ◌^◌, ◌≢◌, ◌≤◌, ◌<◌, ◌⊎◌, inl, inr, ℕ, List, length, Result, Ok, Err, refl, sym, ap, ◌∙◌, subst, arith}
use Rattle.c_tree.specs.declared.lexer.tokens.Token.{Token}
use Rattle.c_tree.specs.declared.lexer.refusals.LexRefusal.{LexRefusal}
use Rattle.c_tree.specs.declared.lexer.refusals.LexRefusal.TheVariants as lex
use Rattle.c_tree.specs.Lexed.{Lexes, Outcome, Stop, AtEnd, AtBadByte, AtOpenComment, AtOpenText, AtNumberTooLarge, Part, outcome_of}
use Rattle.c_tree.specs.Tree.{ProgramTree}
use Rattle.c_tree.specs.Reads.{Reads, Deep}
use Rattle.c_tree.specs.declared.refusals.SourceRefusal.TheVariants as source
use Rattle.c_tree.specs.Refused.{places, place_at, IsFar}
use Rattle.kernel_model.specs.declared.types.kernels.Resolved.{Resolved}
use Rattle.kernel_model.specs.View.{resolved_of}
use Rattle.name_resolution.specs.declared.refusals.TypeRefusal.TheVariants as types
use Rattle.name_resolution.specs.Programs as names
use Rattle.name_resolution.specs.Programs.{Resolves, resolved}
use Rattle.kernel_model.specs.Refusals.{ObeysUnlessBroken, OneRefusal}
use Rattle.kernel_model.specs.Walk.{WalkFinds}
use Rattle.mesh_decl.specs.declared.text.entry.MeshRefusal.TheVariants as mesh
use Rattle.mesh_decl.specs.Spelling.{Named, Spells}
use Rattle.mesh_decl.specs.Reading.{Read, Reads as Spelled, Refuses}
use Rattle.bound_program.specs.declared.refusals.refusals.BindRefusal.{BindRefusal}
use Rattle.bound_program.specs.declared.refusals.refusals.BindRefusal.TheVariants as bind
use Rattle.bound_program.specs.Values.{BoundValue}
use Rattle.loop_bind.specs.Bound.{bound}
use Rattle.op_outside.specs.Outside.{Files}
use Rattle.command_words.specs.Refusal.{SourceBytes, MeshBytes, Refusal, NoTree, TooDeep}
use Rattle.command_words.specs.Lines.{Answer, most}
use Rattle.mesh_gen.specs.Sample.{sample_source}
use Rattle.command_words.specs.Words.{ChainJob, ChainOptions, PlanJob, Options, Input, InFiles, OfSample, Command, OnPlan, OnChains, Converts, Translates, Restores, ShowsUsage, ShowsVersion, WordsAre}
use Rattle.op_translate.specs.declared.refusals.TransRefusal.TheVariants as trans
use Rattle.answers.specs.Judgements.{IsUnread, SourceIs, MeshIs, TreeIs, TranslationIs, RestorationIs, TypesAre, EntriesAre, BoundIs}
use Rattle.answers.specs.Answers.{BoundAnswers, PlannedAnswers, ChainAnswers, CommandAnswers}
use Rattle.command_words.specs.Laws.{AreFew, AreWithin, OptionsAreWithin}
use Rattle.answers.specs.Laws.{AnswersExist}
use Rattle.answers.proofs.laws.Given.{given_one}
use Rattle.answers.proofs.laws.Translations.{translation_exists, restoration_exists}
use Rattle.answers.proofs.laws.Held.{held_exists, held_within}
use Rattle.answers.proofs.laws.Stretches.{Suits, SuitsInParts}
use Rattle.answers.proofs.laws.SaidOnce.{lex_said, types_said, mesh_said, binding_said}
use Rattle.answers.proofs.laws.Trees.{shallow_or_deep}
use Rattle.answers.proofs.laws.Sites.{accesses_exist}

source_exists : (input : Input) (files : Files) → ¬ ((r : Result (List ℕ) Refusal) → ¬ SourceIs input files r)
source_exists (InFiles source mesh) files none = held_exists SourceBytes source (files source) none
source_exists (OfSample side) files none = none _ refl

source_within : (input : Input) (files : Files) (bytes : List ℕ) → SourceIs input files (Ok bytes) → length bytes ≤ most SourceBytes
unfolding sample_source
source_within (InFiles source mesh) files bytes h = held_within SourceBytes source (files source) bytes h
source_within (OfSample side) files bytes h = let e : bytes ≡ sample_source = cc in rw e (omega arith)

mesh_exists : (input : Input) (files : Files) → ¬ ((r : Result (List ℕ) Refusal) → ¬ MeshIs input files r)
mesh_exists (InFiles source mesh) files none = held_exists MeshBytes mesh (files mesh) none
mesh_exists (OfSample side) files none = none _ refl

-- no refusal of tokens is want of memory
has_cause : (parts : List Part) (stop : Stop) (l : LexRefusal) → Err l ≡ outcome_of parts stop → l ≢ lex.OutOfMemory
has_cause parts AtEnd l e is = let bad : ⊥ = cc in bad
has_cause parts (AtBadByte good) l e is = let bad : ⊥ = cc in bad
has_cause parts AtOpenComment l e is = let bad : ⊥ = cc in bad
has_cause parts AtOpenText l e is = let bad : ⊥ = cc in bad
has_cause parts AtNumberTooLarge l e is = let bad : ⊥ = cc in bad

-- what is bound of a source that was read and of a mesh text suits
abbrev pub SourcesSuit : Type 0
SourcesSuit =
    (bytes text : List ℕ) (p : ProgramTree) (types : Resolved) (es : List Named) (b : BoundValue)
    → length bytes ≤ most SourceBytes → Reads bytes p → Resolves p (Ok (resolved_of types)) → Spells text es → bound p types es ≡ Ok b → SuitsInParts b

-- there is an answer of each plan that is asked for
abbrev pub PlansAnswered : Type 0
PlansAnswered = (j : PlanJob) (o : Options) (files : Files) → AreWithin o → (b : BoundValue) → SuitsInParts b → ¬ ((a : Answer) → ¬ PlannedAnswers j o files b a)

-- there is an answer of each bound program that suits, on few ranks
abbrev pub ChainsAnswered : Type 0
ChainsAnswered =
    (j : ChainJob) (o : ChainOptions) (files : Files) → AreFew o.ranks → (b : BoundValue) → Suits b → ¬ ((a : Answer) → ¬ ChainAnswers j o files b a)

module _ (some_lexed : (bytes : List ℕ) → (o : Outcome) × Lexes bytes o)
    (some_types : (p : ProgramTree) → (o : names.Outcome) × Resolves p o)
    (types_causes : (p : ProgramTree) → ¬ Resolves p (Err types.OutOfMemory))
    (some_kernels : (bytes : List ℕ) (p : ProgramTree) → Reads bytes p → length bytes < 2 ^ 63 → (r : Resolved)
    × (resolved_of r ≡ resolved p)) (deep : (bytes : List ℕ) (p : ProgramTree) (n : ℕ) → Deep bytes p n
    → IsFar bytes (place_at p.places bytes n)) (causes : (p : ProgramTree) (types : Resolved) (es : List Named)
    → bound p types es ≢ Err bind.OutOfMemory) (some_read : (bytes : List ℕ) → (o : Read) × Spelled bytes o)
    (mesh_causes : (bytes : List ℕ) → ¬ Refuses bytes mesh.OutOfMemory)
    (one_outcome : (bytes : List ℕ) (a b : Outcome) → Lexes bytes a → Lexes bytes b → a ≡ b)
    (one_depth : (bytes : List ℕ) (a b : ProgramTree) (n m : ℕ) → Deep bytes a n → Deep bytes b m → n ≡ m)
    (one_shape : (bytes : List ℕ) (a b : ProgramTree) (n : ℕ) → Reads bytes a → Deep bytes b n → ⊥) (walk_finds : WalkFinds)
    (obeys : ObeysUnlessBroken) (one_breach : OneRefusal) (suits : SourcesSuit) (planned : PlansAnswered) (chained : ChainsAnswered)
    (within : OptionsAreWithin) where
  -- bytes that the lexer refuses have no tree
  unlexed : (bytes : List ℕ) (l : LexRefusal) → Lexes bytes (Err l) → IsUnread bytes (source.Lex l)
  unlexed bytes l h = record {
    none = λ p r. no_tokens r.tokens r.lexed;
    deep = λ p n d. absurd (no_tokens d.tokens d.lexed);
    cause = h;
  }
    where
      no_tokens : (tokens : List Token) → Lexes bytes (Ok tokens) → ⊥
      no_tokens tokens k = let e = one_outcome bytes (Err l) (Ok tokens) h k in let bad : ⊥ = cc in bad

  -- bytes that have tokens, where no tree has these
  treeless : (bytes : List ℕ) (tokens : List Token) → Lexes bytes (Ok tokens) → ((p : ProgramTree) → ¬ Reads bytes p)
      → ((p : ProgramTree) (n : ℕ) → ¬ Deep bytes p n) → IsUnread bytes (source.Syntax (place_at (places tokens) bytes 0))
  treeless bytes tokens h reads deep = record {
    none = reads;
    deep = λ p n d. absurd (deep p n d);
    cause = record { tokens = tokens; lexed = h; number = 0; here = refl; none = λ p prints. by_depth p (shallow_or_deep bytes tokens h p prints) };
  }
    where
      by_depth : (p : ProgramTree) → Reads bytes p ⊎ ((n : ℕ) × Deep bytes p n) → ⊥
      by_depth p (inl r) = reads p r
      by_depth p (inr d) = deep p d.0 d.1

  -- a tree that is too deep
  too_deep : (bytes : List ℕ) (p : ProgramTree) (n : ℕ) → Deep bytes p n → IsUnread bytes (source.TooDeep (place_at p.places bytes n))
  too_deep bytes p n d = record {
    none = λ q r. one_shape bytes q p n r d;
    deep = λ q m e. ap source.TooDeep (rw (one_depth bytes p q n m d e, same_places q m e) refl);
    cause = deep bytes p n d;
  }
    where
      same_places : (q : ProgramTree) (m : ℕ) → Deep bytes q m → p.places ≡ q.places
      same_places q m e =
          let outcome = one_outcome bytes (Ok d.tokens) (Ok e.tokens) d.lexed e.lexed in
          let same : d.tokens ≡ e.tokens = cc in
          d.prints.places ∙ rw same refl ∙ sym e.prints.places

  tree_exists : (bytes : List ℕ) → ¬ ((r : Result ProgramTree Refusal) → ¬ TreeIs bytes r)
  tree_exists bytes none = by_outcome (some_lexed bytes).0 (some_lexed bytes).1
    where
      no_deep : (p : ProgramTree) (n : ℕ) → ¬ Deep bytes p n
      no_deep p n d = none (Err (TooDeep (place_at p.places bytes n))) (source.TooDeep (place_at p.places bytes n), too_deep bytes p n d, refl)

      by_outcome : (o : Outcome) → ¬ Lexes bytes o
      by_outcome (Err l) h = let said = lex_said l (has_cause h.parts h.stop l h.gives) in none (Err said.0) (source.Lex l, unlexed bytes l h, said.1)
      by_outcome (Ok tokens) h = none (Err (NoTree (place_at (places tokens) bytes 0))) (source.Syntax (place_at (places tokens) bytes 0), treeless bytes tokens h (λ p r. none (Ok p) r) no_deep, refl)

  restored_exists : (bytes : List ℕ) → ¬ ((r : Result (List ℕ) Refusal) → ¬ RestorationIs bytes r)
  restored_exists bytes none = by_outcome (some_lexed bytes).0 (some_lexed bytes).1
    where
      by_outcome : (o : Outcome) → ¬ Lexes bytes o
      by_outcome (Err l) h =
          let said = lex_said l (has_cause h.parts h.stop l h.gives) in
          none (Err said.0) (trans.Lex l, record { found = Err l; lexed = h; is = refl }, said.1)
      by_outcome (Ok tokens) h = let r = restoration_exists bytes tokens h in none r.0 r.1

  types_exist : (bytes : List ℕ) (p : ProgramTree) → length bytes ≤ most SourceBytes → Reads bytes p → ¬ ((r : Result Resolved Refusal) → ¬ TypesAre p r)
  types_exist bytes p within reads none = by_outcome (some_types p).0 (some_types p).1
    where
      by_outcome : (o : names.Outcome) → ¬ Resolves p o
      by_outcome (Ok r) h =
          let small : length bytes < 2 ^ 63 = omega (arith, within) in
          let k = some_kernels bytes p reads small in
          none (Ok k.0) (h.0, k.1)
      by_outcome (Err e) h = let said = types_said e (λ m. types_causes p (subst (λ f. Resolves p (Err f)) m h)) in none (Err said.0) (e, h, said.1)

  bound_exists : (p : ProgramTree) (types : Resolved) (es : List Named) → ¬ ((r : Result BoundValue Refusal) → ¬ BoundIs p types es r)
  bound_exists p types es none = by_outcome (bound p types es) refl
    where
      by_outcome : (o : Result BoundValue BindRefusal) → bound p types es ≡ o → ⊥
      by_outcome (Ok b) is = none (Ok b) is
      by_outcome (Err e) is = let said = binding_said p e (λ m. causes p types es (is ∙ ap (λ f. Err f) m)) in none (Err said.0) (e, is, said.1)

  entries_exist : (bytes : List ℕ) → ¬ ((r : Result (List Named) Refusal) → ¬ EntriesAre bytes r)
  entries_exist bytes none = by_outcome (some_read bytes).0 (some_read bytes).1
    where
      by_outcome : (o : Read) → ¬ Spelled bytes o
      by_outcome (Ok es) h = none (Ok es) h
      by_outcome (Err e) h = let said = mesh_said e (λ m. mesh_causes bytes (subst (λ f. Refuses bytes f) m h)) in none (Err said.0) (e, h, said.1)

  -- ---- the program

  -- there is an answer where there is one of each bound program that suits
  bound_answers : (rest : BoundValue → Answer → Type 0) → ((b : BoundValue) → SuitsInParts b → ¬ ((a : Answer) → ¬ rest b a))
      → (input : Input) (files : Files) → ¬ ((a : Answer) → ¬ BoundAnswers rest input files a)
  bound_answers rest after input files =
      given_one _ _ (source_exists input files) (λ bytes held.
      given_one _ _ (tree_exists bytes) (λ p reads.
      given_one _ _ (types_exist bytes p (source_within input files bytes held) reads) (λ types resolves.
      given_one _ _ (mesh_exists input files) (λ text _.
      given_one _ _ (entries_exist text) (λ es spells.
      given_one _ _ (bound_exists p types es) (λ b is.
      given_one _ _ (accesses_exist walk_finds obeys one_breach b) (λ u _. after b (suits bytes text p types es b (source_within input files bytes held) reads resolves spells.0 is))))))))

  -- ---- commands

  command_answers : (words : List (List ℕ)) (files : Files) (c : Command) → WordsAre words (Ok c) → ¬ ((a : Answer) → ¬ CommandAnswers c files a)
  command_answers words files (OnPlan j o input) asks =
      bound_answers (PlannedAnswers j o files) (planned j o files (within words (OnPlan j o input) asks)) input files
  command_answers words files (OnChains j o input) asks =
      bound_answers (ChainAnswers j o files) (λ b suits. chained j o files (within words (OnChains j o input) asks) b suits.suits) input files
  command_answers words files (Converts form mesh) asks =
      given_one _ _ (held_exists MeshBytes mesh (files mesh)) (λ text _.
      given_one _ _ (entries_exist text) (λ es _ n. n _ refl))
  command_answers words files (Translates source) asks =
      given_one _ _ (held_exists SourceBytes source (files source)) (λ bytes _.
      given_one _ _ (tree_exists bytes) (λ p reads.
      given_one (TranslationIs bytes p) _ (λ none. let t = translation_exists bytes p reads in none t.0 t.1) (λ out _ n. n _ refl)))
  command_answers words files (Restores source) asks =
      given_one _ _ (held_exists SourceBytes source (files source)) (λ bytes _.
      given_one _ _ (restored_exists bytes) (λ out _ n. n _ refl))
  command_answers words files ShowsUsage asks = λ none. none _ refl
  command_answers words files ShowsVersion asks = λ none. none _ refl

  pub answers_exist : AnswersExist
  answers_exist words files = given_one (WordsAre words) (λ c. CommandAnswers c files) (λ none. none _ refl) (command_answers words files)
