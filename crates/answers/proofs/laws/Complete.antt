-- The status of a call is that of any answer over files that tell it.
use Rattle.std.proofs.Common.{◌≡◌, ◌⊎◌, inl, inr, ℕ, List, [], ◌∷◌, ◌++◌, Option, Some, None, Result, refl, sym, ap, ◌∙◌, subst}
use Rattle.op_outside.specs.Outside.{Files, Rose}
use Rattle.command_words.specs.Lines.{Answer}
use Rattle.partition.specs.Parts.{Parts}
use Rattle.bound_program.specs.Values.{BoundValue}
use Rattle.command_words.specs.Refusal.{Refusal}
use Rattle.command_words.specs.Words.{ChainJob, ChainOptions, PlanJob, Stretch, Whole, Before, From, Parting, ByRule, ByFile, Blocks, OfSize, AsPlanned, Schedule, Standard, Drawn, Written, Options, group_of, Command, OnPlan, OnChains, InFiles, OfSample, Converts, Translates, Restores, ShowsUsage, ShowsVersion, names_before, names_by, names_in_blocks, names_at, names_in, names_of, named_by}
use Rattle.answers.specs.Judgements.{SourceIs, TreeIs, TypesAre, MeshIs, EntriesAre, BoundIs, AccessesAre, Cut, CutOf, Chosen, ChosenIs, NumbersOf, PartsOf, OwnersOf, Colouring, ColouringOf, Planned, PlanIs, Order, OrderOf, outline_of, StepsOf}
use Rattle.answers.specs.Answers.{given, planned_answer, chain_answer, ChosenAnswers, PlannedAnswers, ChainAnswers, BoundAnswers, CommandAnswers, Answers}
use Rattle.answers.specs.Endings.{Ending, Answered, OutOfMemory, Unread, Unwritten, ending_status, unwritten_status, Call, Tells, IsWritten, EndsBy, Ends, TellTheAnswer, IsComplete}
use Rattle.answers.specs.Laws.{AnswersAgree}
use Rattle.answers.proofs.laws.Given.{given_on}

-- items, owners, blocks and colours, and a schedule that come from no file
cut_over : (x : Stretch) → names_before x ≡ [] → (f g : Files) (r : Result Cut Refusal) → CutOf x f r → CutOf x g r
cut_over Whole none f g r h = h
cut_over (Before item) none f g r h = h
cut_over (From name) none f g r h = absurd (let bad : ⊥ = cc in bad)

parts_over : (p : Parting) → names_by p ≡ [] → (f g : Files) (r : Result Parts Refusal) → PartsOf p f r → PartsOf p g r
parts_over (ByRule rule) none f g r h = h
parts_over (ByFile name) none f g r h = absurd (let bad : ⊥ = cc in bad)

colouring_over : (x : Blocks) → names_in_blocks x ≡ [] → (f g : Files) (r : Result Colouring Refusal) → ColouringOf x f r → ColouringOf x g r
colouring_over (OfSize places) none f g r h = h
colouring_over (AsPlanned name) none f g r h = absurd (let bad : ⊥ = cc in bad)

order_over : (s : Schedule) → names_at s ≡ [] → (f g : Files) (r : Result Order Refusal) → OrderOf s f r → OrderOf s g r
order_over Standard none f g r h = h
order_over (Drawn seed) none f g r h = h
order_over (Written name) none f g r h = absurd (let bad : ⊥ = cc in bad)

-- the options name no file
pub record NameNone (o : Options) : Type 0 where
  pub stretch : names_before o.stretch ≡ []
  pub parting : names_by o.parting ≡ []
  pub blocks : names_in_blocks o.blocks ≡ []
  pub schedule : names_at o.schedule ≡ []

-- lists of which the whole is empty are
parts_empty : (xs ys : List (List ℕ)) → xs ++ ys ≡ [] → (xs ≡ []) × (ys ≡ [])
parts_empty [] ys e = (refl, e)
parts_empty (x ∷ xs) ys e = absurd (let bad : ⊥ = cc in bad)

no_names : (o : Options) → names_before o.stretch ++ names_by o.parting ++ names_in_blocks o.blocks ++ names_at o.schedule ≡ [] → NameNone o
no_names o none =
    let a = parts_empty (names_before o.stretch ++ names_by o.parting ++ names_in_blocks o.blocks) (names_at o.schedule) none in
    let b = parts_empty (names_before o.stretch ++ names_by o.parting) (names_in_blocks o.blocks) a.0 in
    let c = parts_empty (names_before o.stretch) (names_by o.parting) b.0 in
    record { stretch = c.0; parting = c.1; blocks = b.1; schedule = a.1 }

chosen_over : (j : PlanJob) (o : Options) → NameNone o → (f g : Files) (c : Chosen) (a : Answer) → ChosenAnswers j o f c a → ChosenAnswers j o g c a
chosen_over j o none f g c a h = (
  h.0,
  given_on (NumbersOf o c.program) (NumbersOf o c.program) _ _ (λ r k. k) (λ n.
      given_on (PartsOf o.parting f) (PartsOf o.parting g) _ _ (parts_over o.parting none.parting f g) (λ parts.
      given_on (OwnersOf o.ranks c.program parts) (OwnersOf o.ranks c.program parts) _ _ (λ r k. k) (λ u.
      given_on (ColouringOf o.blocks f) (ColouringOf o.blocks g) _ _ (colouring_over o.blocks none.blocks f g) (λ colouring.
      given_on (PlanIs colouring c.program u n) (PlanIs colouring c.program u n) _ _ (λ r k. k) (λ p.
      given_on (OrderOf o.schedule f) (OrderOf o.schedule g) (by_order p) (by_order p) (order_over o.schedule none.schedule f g) (λ order x k. k)))))) a h.1,
)
  where
    by_order : Planned → Order → Answer → Type 0
    by_order p order = given (StepsOf (outline_of c.program p) (group_of o) order) (λ steps x. x ≡ planned_answer j o.dumps c p steps)

planned_over : (j : PlanJob) (o : Options) → NameNone o → (f g : Files) (b : BoundValue) (a : Answer) → PlannedAnswers j o f b a → PlannedAnswers j o g b a
planned_over j o none f g b a h = (
  h.0,
  given_on (CutOf o.stretch f) (CutOf o.stretch g) _ _ (cut_over o.stretch none.stretch f g) (λ cut.
      given_on (ChosenIs cut b) (ChosenIs cut b) _ _ (λ r k. k) (λ c. chosen_over j o none f g c)) a h.1,
)

chained_over : (j : ChainJob) (o : ChainOptions) → names_by o.parting ≡ [] → (f g : Files) (b : BoundValue) (a : Answer) → ChainAnswers j o f b a → ChainAnswers j o g b a
chained_over j o none f g b a h =
    (h.0, given_on (PartsOf o.parting f) (PartsOf o.parting g) by_parts by_parts (parts_over o.parting none f g) (λ parts x k. k) a h.1)
  where
    by_parts : Parts → Answer → Type 0
    by_parts parts = given (OwnersOf o.ranks b parts) (λ u x. x ≡ chain_answer j o.dumps b u)

-- the sample is read from no file
sample_over : (rest more : BoundValue → Answer → Type 0) (side : ℕ) → ((b : BoundValue) (a : Answer) → rest b a → more b a)
    → (f g : Files) (a : Answer) → BoundAnswers rest (OfSample side) f a → BoundAnswers more (OfSample side) g a
sample_over rest more side over f g =
    given_on (SourceIs (OfSample side) f) (SourceIs (OfSample side) g) _ _ (λ r k. k) (λ bytes.
    given_on (TreeIs bytes) (TreeIs bytes) _ _ (λ r k. k) (λ p.
    given_on (TypesAre p) (TypesAre p) _ _ (λ r k. k) (λ types.
    given_on (MeshIs (OfSample side) f) (MeshIs (OfSample side) g) _ _ (λ r k. k) (λ text.
    given_on (EntriesAre text) (EntriesAre text) _ _ (λ r k. k) (λ es.
    given_on (BoundIs p types es) (BoundIs p types es) _ _ (λ r k. k) (λ b.
    given_on (AccessesAre b) (AccessesAre b) _ _ (λ r k. k) (λ _. over b)))))))

-- a command that names no file has its answers over any
same_command : (c : Command) → names_of c ≡ [] → (f g : Files) (a : Answer) → CommandAnswers c f a → CommandAnswers c g a
same_command (OnPlan j o (InFiles source mesh)) none f g a h = absurd (let bad : ⊥ = cc in bad)
same_command (OnPlan j o (OfSample side)) none f g a h =
    sample_over (PlannedAnswers j o f) (PlannedAnswers j o g) side (planned_over j o (no_names o none) f g) f g a h
same_command (OnChains j o (InFiles source mesh)) none f g a h = absurd (let bad : ⊥ = cc in bad)
same_command (OnChains j o (OfSample side)) none f g a h =
    sample_over (ChainAnswers j o f) (ChainAnswers j o g) side (chained_over j o none f g) f g a h
same_command (Converts form mesh) none f g a h = absurd (let bad : ⊥ = cc in bad)
same_command (Translates source) none f g a h = absurd (let bad : ⊥ = cc in bad)
same_command (Restores source) none f g a h = absurd (let bad : ⊥ = cc in bad)
same_command ShowsUsage none f g a h = h
same_command ShowsVersion none f g a h = h

-- words that name no file have their answers over any
same_over : (words : List (List ℕ)) → named_by words ≡ [] → (f g : Files) (a : Answer) → Answers words f a → Answers words g a
same_over words none f g a (inl h) = inl h
same_over words none f g a (inr h) = inr (h.0, h.1, same_command h.0 (sym (ap names_in h.1) ∙ none) f g a h.2)

-- what a call tells is an answer over files that tell it
pub tells_answer : (c : Call) (files : Files) (a : Answer) → TellTheAnswer c files → Tells c.words c.told a → Answers c.words files a
tells_answer c files a (inl told) h = subst (λ t. Tells c.words t a) told h
tells_answer c files a (inr none) h = by_told c.told h
  where
    by_told : (t : Option Files) → Tells c.words t a → Answers c.words files a
    by_told (Some f) k = same_over c.words none f files a k
    by_told None k = same_over c.words none k.0 files a k.2

-- what a call tells is an answer over some files
pub tells_some : (words : List (List ℕ)) (told : Option Files) (a : Answer) → Tells words told a → (files : Files) × Answers words files a
tells_some words (Some files) a h = (files, h)
tells_some words None a h = (h.0, h.2)

pub unwritten_is : (a : Answer) → IsWritten a → (unwritten_status a ≡ a.status) ⊎ (unwritten_status a ≡ 4)
unwritten_is a (inl e) = inr (rw e refl)
unwritten_is a (inr e) = inl (rw e refl)

pub complete : AnswersAgree → (c : Call) (status : ℕ) → Ends c status → IsComplete c status
complete agree c status ends files a known answers = by_ending ends.ending ends.is ends.cause
  where
    Completes : Type 0
    Completes =
        (status ≡ a.status) ⊎ (status ≡ 1) ⊎ ((status ≡ 3) × Rose c.reads.0 c.reads.1) ⊎ ((status ≡ 4) × Rose c.writes.0 c.writes.1)

    same : (b : Answer) → Tells c.words c.told b → b.status ≡ a.status
    same b h = (agree c.words files b a (tells_answer c files b known h) answers).status

    by_ending : (e : Ending) → status ≡ ending_status e → EndsBy c e → Completes
    by_ending (Answered b) is h = inl (is ∙ same b h.0)
    by_ending OutOfMemory is h = inr (inl is)
    by_ending (Unread name) is h = inr (inr (inl (is, h.0)))
    by_ending (Unwritten b) is h = by_status (unwritten_is b h.2)
      where
        by_status : (unwritten_status b ≡ b.status) ⊎ (unwritten_status b ≡ 4) → Completes
        by_status (inl e) = inl (is ∙ e ∙ same b h.1)
        by_status (inr e) = inr (inr (inr (is ∙ e, h.0)))
