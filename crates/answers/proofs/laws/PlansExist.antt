-- There is an answer to words that ask for a plan, of a bound program that fits and whose maps are narrow.
use Rattle.std.proofs.Common.{◌≡◌, ◌<◌, ◌≤◌, ◌⊎◌, inl, inr, ℕ, List, Result, Ok, Err, refl, sym, subst}
use Rattle.std.proofs.lemmas.Bool.{cases_lt}
use Rattle.mesh_decl.specs.declared.owners.Owners.{Owners}
use Rattle.mesh_decl.specs.declared.owners.Perms.{Perms}
use Rattle.mesh_decl.specs.Mesh.{MeshValue, IsMesh}
use Rattle.mesh_decl.specs.Owners.{AreOwners, ArePerms}
use Rattle.partition.specs.declared.part_text.refusals.PartRefusal.TheVariants as part
use Rattle.partition.specs.Reading.{Refuses}
use Rattle.partition.specs.Parts.{Parts, Block, Bisect, Grow, Text, NumbersRefusal, OwnersRefusal}
use Rattle.partition.specs.Judgements.{NumbersAre, OwnersAre}
use Rattle.partition.specs.declared.distribute.types.Distribution.{Distribution}
use Rattle.partition.specs.Distributions.{IsDistribution}
use Rattle.schedule_steps.specs.Outline.{Outline}
use Rattle.schedule_steps.specs.declared.step.Step.{Step}
use Rattle.bound_program.specs.Values.{BoundValue}
use Rattle.bound_program.specs.Fits.{Fits}
use Rattle.checkpoint.specs.Laws.{HeadsFit, TailsFit}
use Rattle.checkpoint.specs.StateTextLaws.{SaysSomething}
use Rattle.loop_plan.specs.Distributed.{IsDistributed}
use Rattle.loop_plan.specs.StepCounts.{program_steps}
use Rattle.loop_plan.specs.Values.{PlanValue}
use Rattle.plan_cert.specs.Certified.{Certified, IsRefused}
use Rattle.plan_cert.specs.Laws.{SomeOutcome}
use Rattle.loop_plan.specs.Laws.{NumbersExist, OwnersExist, OutcomesFit, NarrowMeshesFitMemory, DistributionsExist, PlansExist}
use Rattle.op_outside.specs.Outside.{Files}
use Rattle.command_words.specs.Refusal.{PartitionBytes, PlanBytes, ScheduleBytes, Steps, Refusal, BadPart, BadPlan, BeyondLimit}
use Rattle.command_words.specs.Lines.{Answer, most}
use Rattle.answers.specs.Said.{SaysOwners}
use Rattle.command_words.specs.Words.{ChainJob, ChainOptions, PlanJob, Parting, ByRule, ByFile, Blocks, OfSize, AsPlanned, Schedule, Standard, Drawn, Written, Options, group_of}
use Rattle.answers.specs.Judgements.{IsHeld, Chosen, NumbersOf, PartsOf, OwnersOf, Colouring, Least, Told, ColouringOf, Planned, PlanIs, Order, InStandardOrder, BySeed, ByText, OrderOf, outline_of, StepsOf}
use Rattle.answers.specs.Answers.{ChosenAnswers, PlannedAnswers, ChainAnswers}
use Rattle.command_words.specs.Laws.{AreFew, HaveFewPlaces, AreWithin}
use Rattle.answers.proofs.laws.Given.{given_one, given_with}
use Rattle.answers.proofs.laws.Held.{held_exists}
use Rattle.answers.proofs.laws.SaidOnce.{numbers_said, partition_said}
use Rattle.answers.proofs.laws.Stretches.{Suits, SuitsInParts, cut_exists, chosen_exists, chosen_suits}

-- there are the steps that a schedule is asked for by, or a refusal
abbrev pub SchedulesExist : Type 0
SchedulesExist = (o : Outline) (g : ℕ) (order : Order) → ¬ ((r : Result (List Step) Refusal) → ¬ StepsOf o g order r)

-- ---- files

parts_exist : (p : Parting) (files : Files) → ¬ ((r : Result Parts Refusal) → ¬ PartsOf p files r)
parts_exist (ByRule rule) files none = none (Ok rule) refl
parts_exist (ByFile name) files none = held_exists PartitionBytes name (files name) by_held
  where
    by_held : (r : Result (List ℕ) Refusal) → ¬ IsHeld PartitionBytes name (files name) r
    by_held (Ok bytes) h = none (Ok (Text bytes)) (bytes, h, refl)
    by_held (Err r) h = none (Err r) h

colouring_exists : (x : Blocks) (files : Files) → ¬ ((r : Result Colouring Refusal) → ¬ ColouringOf x files r)
colouring_exists (OfSize places) files none = none (Ok (Least places)) refl
colouring_exists (AsPlanned name) files none = held_exists PlanBytes name (files name) by_held
  where
    by_held : (r : Result (List ℕ) Refusal) → ¬ IsHeld PlanBytes name (files name) r
    by_held (Ok bytes) h = none (Ok (Told bytes)) (bytes, h, refl)
    by_held (Err r) h = none (Err r) h

order_exists : (s : Schedule) (files : Files) → ¬ ((r : Result Order Refusal) → ¬ OrderOf s files r)
order_exists Standard files none = none (Ok InStandardOrder) refl
order_exists (Drawn seed) files none = none (Ok (BySeed seed)) refl
order_exists (Written name) files none = held_exists ScheduleBytes name (files name) by_held
  where
    by_held : (r : Result (List ℕ) Refusal) → ¬ IsHeld ScheduleBytes name (files name) r
    by_held (Ok bytes) h = none (Ok (ByText bytes)) (bytes, h, refl)
    by_held (Err r) h = none (Err r) h

-- ---- new numbers and owners

module _ (some_numbers : NumbersExist) (some_owners : OwnersExist) (outcomes_fit : OutcomesFit) (narrow_fit : NarrowMeshesFitMemory)
    (some_distribution : DistributionsExist) (some_plan : PlansExist) (some_outcome : SomeOutcome)
    (causes : (g : MeshValue) (ranks : ℕ) (bytes : List ℕ) → ¬ Refuses g ranks bytes part.OutOfMemory) (steps_exist : SchedulesExist) where
  numbers_exist : (o : Options) (b : BoundValue) → IsMesh b.mesh → ¬ ((r : Result Perms Refusal) → ¬ NumbersOf o b r)
  numbers_exist o b mesh none = let n = some_numbers b.mesh o.renumber mesh in by_outcome n.0 n.1
    where
      by_outcome : (r : Result Perms NumbersRefusal) → ¬ NumbersAre b.mesh o.renumber r
      by_outcome (Ok p) h = none (Ok p) h
      by_outcome (Err e) h = let said = numbers_said e in none (Err said.0) (e, h, said.1)

  owners_said : (g : MeshValue) (ranks : ℕ) (parts : Parts) (e : OwnersRefusal) → OwnersAre g ranks parts (Err e) → (r : Refusal) × SaysOwners e r
  owners_said g ranks Block e h = absurd h
  owners_said g ranks (Bisect name) e h = (BadPart name, subst (λ f. SaysOwners f (BadPart name)) (sym h.1) refl)
  owners_said g ranks (Grow name) e h = (BadPart name, subst (λ f. SaysOwners f (BadPart name)) (sym h.1) refl)
  owners_said g ranks (Text bytes) e h =
      let said = partition_said h.0 (λ m. causes g ranks bytes (subst (λ f. Refuses g ranks bytes f) m h.1)) in
      (said.0, subst (λ f. SaysOwners f said.0) (sym h.2) said.1)

  owners_exist : (ranks : ℕ) (b : BoundValue) (parts : Parts) → IsMesh b.mesh → AreFew ranks → ¬ ((r : Result Owners Refusal) → ¬ OwnersOf ranks b parts r)
  owners_exist ranks b parts mesh few none = let u = some_owners b.mesh ranks parts mesh few.some few.few in by_outcome u.0 u.1
    where
      by_outcome : (r : Result Owners OwnersRefusal) → ¬ OwnersAre b.mesh ranks parts r
      by_outcome (Ok u) h = none (Ok u) h
      by_outcome (Err e) h = let said = owners_said b.mesh ranks parts e h in none (Err said.0) (e, h, said.1)

  -- ---- the plan

  -- a block that is asked for has some places
  abbrev HasPlaces : Colouring → Type 0
  HasPlaces (Least places) = 0 < places
  HasPlaces (Told bytes) = Unit {0}

  has_places : (x : Blocks) (files : Files) (colouring : Colouring) → HaveFewPlaces x → ColouringOf x files (Ok colouring) → HasPlaces colouring
  has_places (OfSize places) files colouring few h = let e : colouring ≡ Least places = cc in rw e few.0
  has_places (AsPlanned name) files colouring few h = rw h.2 tt

  module _ (b : BoundValue) (u : Owners) (n : Perms) (d : Distribution) (h : IsDistribution b.mesh u n d) (spread : IsDistributed b.mesh u n d.ranks.items) (fits : Fits b) where
    least_exists : (places : ℕ) → 0 < places → ¬ ((r : Result Planned Refusal) → ¬ PlanIs (Least places) b u n r)
    least_exists places some none = by_steps (cases_lt (most Steps) (program_steps b d.ranks.items))
      where
        by_steps : (most Steps < program_steps b d.ranks.items) ⊎ (program_steps b d.ranks.items ≤ most Steps) → ⊥
        by_steps (inl many) = none (Err (BeyondLimit Steps (program_steps b d.ranks.items))) (d, h, inr (record { coloured = tt; many = many; says = refl }))
        by_steps (inr few) =
            let p = some_plan b u n d.ranks.items places fits spread some in
            none (Ok (record { distribution = d; plan = p.0 })) (h, record { proper = p.2; coloured = (p.3, p.1); few = few })

    told_exists : (bytes : List ℕ) → ¬ ((r : Result Planned Refusal) → ¬ PlanIs (Told bytes) b u n r)
    told_exists bytes none = by_outcome (some_outcome b u n d.ranks.items bytes fits spread)
      where
        by_steps : (p : PlanValue) → Certified b d.ranks.items bytes p → (most Steps < program_steps b d.ranks.items) ⊎ (program_steps b d.ranks.items ≤ most Steps) → ⊥
        by_steps p k (inl many) = none (Err (BeyondLimit Steps (program_steps b d.ranks.items))) (d, h, inr (record { coloured = (p, k); many = many; says = refl }))
        by_steps p k (inr few) = none (Ok (record { distribution = d; plan = p })) (h, record { proper = k.proper; coloured = k; few = few })

        by_outcome : ((p : PlanValue) × Certified b d.ranks.items bytes p) ⊎ ((number : ℕ) × (line : ℕ) × IsRefused b d.ranks.items bytes number line) → ⊥
        by_outcome (inl p) = by_steps p.0 p.1 (cases_lt (most Steps) (program_steps b d.ranks.items))
        by_outcome (inr k) = none (Err (BadPlan k.0 k.1)) (d, h, inl (k.0, k.1, k.2, refl))

  plan_exists : (colouring : Colouring) (b : BoundValue) (u : Owners) (n : Perms) → HasPlaces colouring → Suits b → AreOwners b.mesh u → ArePerms b.mesh n
      → ¬ ((r : Result Planned Refusal) → ¬ PlanIs colouring b u n r)
  plan_exists colouring b u n some suits are_owners are_perms =
      let d = some_distribution b.mesh u n suits.fits.mesh (narrow_fit b.mesh suits.fits.mesh suits.narrow) are_owners are_perms in
      by_colouring d.0 d.1 (record { are_owners = are_owners; are_perms = are_perms; are_meshes = d.1.ranks }) colouring some
    where
      by_colouring : (d : Distribution) → IsDistribution b.mesh u n d → IsDistributed b.mesh u n d.ranks.items → (x : Colouring) → HasPlaces x → ¬ ((r : Result Planned Refusal) → ¬ PlanIs x b u n r)
      by_colouring d h spread (Least places) places_some = least_exists b u n d h spread suits.fits places places_some
      by_colouring d h spread (Told bytes) places_some = told_exists b u n d h spread suits.fits bytes

  -- ---- all

  chosen_answered : (j : PlanJob) (o : Options) (files : Files) → AreWithin o → (c : Chosen) → Suits c.program → ¬ ((a : Answer) → ¬ ChosenAnswers j o files c a)
  chosen_answered j o files within c suits =
      given_with suits.fits
      (given_one _ _ (numbers_exist o c.program suits.fits.mesh) (λ n numbered.
      given_one _ _ (parts_exist o.parting files) (λ parts _.
      given_one _ _ (owners_exist o.ranks c.program parts suits.fits.mesh within.ranks) (λ u owned.
      given_one _ _ (colouring_exists o.blocks files) (λ colouring told.
      given_one _ _ (plan_exists colouring c.program u n (has_places o.blocks files colouring within.places told) suits
      (outcomes_fit.owners c.program.mesh o.ranks parts u within.ranks.some within.ranks.few owned).1 (outcomes_fit.numbers c.program.mesh o.renumber n numbered)) (λ p _.
      given_one _ _ (order_exists o.schedule files) (λ order _.
      given_one _ _ (steps_exist (outline_of c.program p) (group_of o) order) (λ steps _ last. last _ refl))))))))

  pub planned_exist : HeadsFit → TailsFit → SaysSomething → (j : PlanJob) (o : Options) (files : Files) → AreWithin o → (b : BoundValue)
      → SuitsInParts b → ¬ ((a : Answer) → ¬ PlannedAnswers j o files b a)
  planned_exist heads_fit tails_fit some_state j o files within b suits =
      given_with suits.suits.fits
      (given_one _ _ (cut_exists o.stretch files) (λ cut _.
      given_one _ _ (chosen_exists some_state cut b suits.suits.fits.mesh) (λ c chosen.
      chosen_answered j o files within c (chosen_suits heads_fit tails_fit cut b suits c chosen))))

  -- ---- chains

  pub chains_exist : (j : ChainJob) (o : ChainOptions) (files : Files) → AreFew o.ranks → (b : BoundValue) → Suits b → ¬ ((a : Answer) → ¬ ChainAnswers j o files b a)
  chains_exist j o files few b suits =
      given_with suits.fits
      (given_one _ _ (parts_exist o.parting files) (λ parts _.
      given_one _ _ (owners_exist o.ranks b parts suits.fits.mesh few) (λ u _ last. last _ refl)))
