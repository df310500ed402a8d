-- What is answered of a plan is one, whatever the addresses of kernels, owners and new numbers.
use Rattle.std.proofs.Common.{◌≡◌, ◌<◌, ◌↔◌, ℕ, Bool, true, false, List, map, Option, Some, None, Result, Ok, Err, refl, sym, ap, ◌∙◌, subst}
use Rattle.kernel_model.specs.declared.types.kernels.RKernel.{RKernel}
use Rattle.kernel_model.specs.View.{rkernel_of}
use Rattle.mesh_decl.specs.declared.owners.Owners.{Owners}
use Rattle.mesh_decl.specs.declared.owners.Perms.{Perms}
use Rattle.mesh_decl.specs.Mesh.{MeshValue}
use Rattle.mesh_decl.specs.Owners.{ArePerms}
use Rattle.local_mesh.specs.Values.{rank_mesh_value}
use Rattle.partition.specs.Parts.{Parts, Text, NumbersRefusal, OwnersRefusal}
use Rattle.partition.specs.Judgements.{NumbersAre, OwnersAre}
use Rattle.partition.specs.Distributions.{IsDistribution, DistributionValue, distribution_value}
use Rattle.partition.specs.declared.distribute.types.Distribution.{Distribution}
use Rattle.partition.specs.Laws.{SamePerms, SameOwners, SameOutcome, NumbersAreOne, OwnersAreOne, DistributionsAreOne}
use Rattle.schedule_steps.specs.Outline.{Outline}
use Rattle.schedule_steps.specs.declared.step.Step.{Step}
use Rattle.schedule_steps.specs.Steps.{IsStep, Earlier}
use Rattle.schedule_steps.specs.Drawn.{IsDrawn}
use Rattle.schedule_steps.specs.Judged.{is_step, missing, left_over}
use Rattle.schedule_steps.specs.Reading.{Read as ScheduleRead, Reads as ScheduleReads}
use Rattle.bound_program.specs.Values.{BoundValue}
use Rattle.bound_program.specs.Fits.{Fits}
use Rattle.loop_plan.specs.PlanText.{plan_text}
use Rattle.loop_plan.specs.OnePlan.{AreAlike, PlanTextsAreOne, PlansAreOne}
use Rattle.bound_plan.specs.Memories.{dump_of}
use Rattle.bound_plan.specs.OneRun.{with_kernels, ProgramsAreOne, DumpsAreOne}
use Rattle.op_outside.specs.Outside.{Files}
use Rattle.command_words.specs.Refusal.{Refusal, PartitionBytes, PlanBytes}
use Rattle.command_words.specs.Lines.{Answer, done, refused}
use Rattle.answers.specs.Said.{SaysNumbers, SaysOwners}
use Rattle.command_words.specs.Words.{PlanJob, Check, ShowsPlan, ShowsSchedule, RunsPlan, Parting, ByRule, ByFile, Blocks, OfSize, AsPlanned, Options, group_of}
use Rattle.answers.specs.Judgements.{CutOf, Chosen, ChosenIs, NumbersOf, PartsOf, OwnersOf, Colouring, Least, Told, ColouringOf, Planned, PlanIs, Order, OrderOf, outline_of, StepsOf}
use Rattle.answers.specs.Answers.{given, sizes_text, run_answer, planned_answer, ChosenAnswers, PlannedAnswers}
use Rattle.answers.specs.OnCells.{RunsAnswerOnCells}
use Rattle.answers.proofs.laws.Given.{given_both, given_alike}
use Rattle.answers.proofs.laws.IsOne.{IsOne, held_is_one, told_is_one}
use Rattle.answers.proofs.laws.SaidOnce.{numbers_once, owners_once}
use Rattle.answers.proofs.laws.Colourings.{same_outline, PlanLaws, alike, refusals, refused_planned, planned_refused}
use Rattle.answers.proofs.laws.SameKernels.{output_same}
use Rattle.answers.proofs.laws.SameBound.{IsSame}
use Rattle.answers.proofs.laws.Stretches.{StateLaws, cut_is_one, SameItems, chosen_refusals, chosen_refused, refused_chosen, chosen_same}
use Rattle.answers.proofs.laws.SchedulesAgree.{order_is_one, steps_are_one}

-- ---- parts

pub parts_are_one : (p : Parting) (files : Files) → IsOne (PartsOf p files)
parts_are_one (ByRule rule) files = record { refusals = (told_is_one rule).refusals; apart = (told_is_one rule).apart; values = (told_is_one rule).values }
parts_are_one (ByFile name) files =
    let held = held_is_one PartitionBytes name (files name) in
    record {
      refusals = held.refusals;
      apart = λ r x h k. held.apart r k.0 h k.1;
      values = λ x y h k. h.2 ∙ ap Text (held.values h.0 k.0 h.1 k.1) ∙ sym k.2;
    }

colouring_is_one : (x : Blocks) (files : Files) → IsOne (ColouringOf x files)
colouring_is_one (OfSize places) files = told_is_one (Least places)
colouring_is_one (AsPlanned name) files =
    let held = held_is_one PlanBytes name (files name) in
    record {
      refusals = held.refusals;
      apart = λ r x h k. held.apart r k.0 h k.1;
      values = λ x y h k. h.2 ∙ ap Told (held.values h.0 k.0 h.1 k.1) ∙ sym k.2;
    }

are_perms : (g : MeshValue) (name : Option (List ℕ)) (p : Perms) → NumbersAre g name (Ok p) → ArePerms g p
are_perms g None p h = h.perms
are_perms g (Some name) p h = h.2.perms

same_ranks : (d e : Distribution) → distribution_value d ≡ distribution_value e → map rank_mesh_value d.ranks.items ≡ map rank_mesh_value e.ranks.items
unfolding distribution_value
same_ranks d e h = ap (λ (v : DistributionValue). v.ranks) h

-- what is said of schedules
pub record ScheduleLaws : Type 0 where
  pub steps_decide : (o : Outline) (s : Step) → (is_step o s ≡ true) ↔ IsStep o s
  pub missing_is : (o : Outline) (m : Step → Bool) (s t : Step) → missing o m s ≡ Some t → IsStep o t × Earlier o t s × (m t ≡ false)
  pub left_is : (o : Outline) (m : Step → Bool) (t : Step) → left_over o m ≡ Some t → IsStep o t × (m t ≡ false)
  pub one_read : (bytes : List ℕ) (a b : ScheduleRead) → ScheduleReads bytes a → ScheduleReads bytes b → a ≡ b
  pub drawn_once : (o : Outline) (g seed : ℕ) (l n : List Step) → IsDrawn o g seed l → IsDrawn o g seed n → l ≡ n

same_rank_counts : (d e : Distribution) → distribution_value d ≡ distribution_value e → d.owners.ranks ≡ e.owners.ranks
unfolding distribution_value
same_rank_counts d e h = ap (λ (v : DistributionValue). v.rank_count) h

same_owners : (d e : Distribution) → distribution_value d ≡ distribution_value e → d.owners.sets.items ≡ e.owners.sets.items
unfolding distribution_value
same_owners d e h = ap (λ (v : DistributionValue). v.owners) h

module _ (on_cells : RunsAnswerOnCells) (programs_are_one : ProgramsAreOne) (dumps_are_one : DumpsAreOne) (plans : PlanLaws)
    (one_plan : PlansAreOne) (schedules : ScheduleLaws) (one_numbers : NumbersAreOne) (one_owners : OwnersAreOne)
    (one_distribution : DistributionsAreOne) (one_plan_text : PlanTextsAreOne) (states : StateLaws) where
  module _ (j : PlanJob) (o : Options) (files : Files) (some : 0 < o.ranks) (b : BoundValue) (ks : List RKernel)
      (same : map rkernel_of b.kernels ≡ map rkernel_of ks) (fits : Fits b) (others : Fits (with_kernels b ks)) (first : ℕ) where
    abbrev c : BoundValue
    c = with_kernels b ks

    -- the items of a program, the first of which has that number
    abbrev from : BoundValue → Chosen
    from d = record { program = d; first = first }

    -- what comes after the order of the steps
    abbrev FromOrder : BoundValue → Planned → Order → Answer → Type 0
    FromOrder d p order = given (StepsOf (outline_of d p) (group_of o) order) (λ steps x. x ≡ planned_answer j o.dumps (from d) p steps)

    -- what comes after the plan
    abbrev FromPlan : BoundValue → Planned → Answer → Type 0
    FromPlan d p = given (OrderOf o.schedule files) (FromOrder d p)

    -- what comes after that where blocks and colours come from
    abbrev FromColouring : BoundValue → Owners → Perms → Colouring → Answer → Type 0
    FromColouring d u n colouring = given (PlanIs colouring d u n) (FromPlan d)

    -- ---- the plan

    module _ (u v : Owners) (n m : Perms) (owned : SameOwners u v) (numbered : SamePerms n m) (perms : ArePerms b.mesh n) where
      distributions_same : (d e : Distribution) → IsDistribution b.mesh u n d → IsDistribution b.mesh v m e → distribution_value d ≡ distribution_value e
      distributions_same d e h k = one_distribution b.mesh u v n m d e fits.mesh perms owned numbered h k

      ranks_alike : (d e : Distribution) → IsDistribution b.mesh u n d → IsDistribution b.mesh v m e → map rank_mesh_value d.ranks.items ≡ map rank_mesh_value e.ranks.items
      ranks_alike d e h k = same_ranks d e (distributions_same d e h k)

      refusals_agree : (x : Colouring) (r s : Refusal) → PlanIs x b u n (Err r) → PlanIs x c v m (Err s) → refused r ≡ refused s
      refusals_agree x r s h k = ap refused (refusals plans b ks h.0.ranks.items k.0.ranks.items (ranks_alike h.0 k.0 h.1 k.1) x r s h.2 k.2)

      refused_or_planned : (x : Colouring) (r : Refusal) (q : Planned) → PlanIs x b u n (Err r) → PlanIs x c v m (Ok q) → ⊥
      refused_or_planned x r q h k =
          refused_planned plans b ks h.0.ranks.items q.distribution.ranks.items (ranks_alike h.0 q.distribution h.1 k.0) x r q.plan h.2 k.1

      planned_or_refused : (x : Colouring) (p : Planned) (s : Refusal) → PlanIs x b u n (Ok p) → PlanIs x c v m (Err s) → ⊥
      planned_or_refused x p s h k =
          planned_refused plans b ks p.distribution.ranks.items k.0.ranks.items (ranks_alike p.distribution k.0 h.0 k.1) x p.plan s h.1 k.2

      module _ (x : Colouring) (p q : Planned) (h : PlanIs x b u n (Ok p)) (k : PlanIs x c v m (Ok q)) where
        plans_are_alike : AreAlike b p.distribution.ranks.items q.distribution.ranks.items p.plan q.plan
        plans_are_alike =
            alike plans b ks p.distribution.ranks.items q.distribution.ranks.items (ranks_alike p.distribution q.distribution h.0 k.0) x p.plan q.plan h.1 k.1

        outlines_same : outline_of b p ≡ outline_of c q
        outlines_same =
            (one_plan b p.distribution.ranks.items q.distribution.ranks.items p.plan q.plan plans_are_alike).outline
            ∙ same_outline b ks q.distribution.ranks.items q.plan

        -- ---- what the job answers

        dumps_same : (steps : List Step) → dump_of o.dumps b p.distribution.owners p.distribution.ranks.items p.plan steps ≡ dump_of o.dumps
            c q.distribution.owners q.distribution.ranks.items q.plan steps
        dumps_same steps =
            let e = distributions_same p.distribution q.distribution h.0 k.0 in
            dumps_are_one b ks p.distribution.owners q.distribution.owners p.distribution.ranks.items q.distribution.ranks.items p.plan q.plan (record {
              kernels = same;
              ranks = same_rank_counts p.distribution q.distribution e;
              owners = same_owners p.distribution q.distribution e;
              plans = plans_are_alike;
            }) o.dumps steps

        answers : (steps : List Step) → planned_answer j o.dumps (from b) p steps ≡ planned_answer j o.dumps (from c) q steps
        answers steps = by_job j
          where
            one : (plan_text b p.distribution.ranks.items p.plan ≡ plan_text b q.distribution.ranks.items q.plan) × (p.plan.steps ≡ q.plan.steps)
            one = one_plan_text b p.distribution.ranks.items q.distribution.ranks.items p.plan q.plan plans_are_alike

            by_job : (i : PlanJob) → planned_answer i o.dumps (from b) p steps ≡ planned_answer i o.dumps (from c) q steps
            by_job Check = ap (λ n. done (sizes_text b n)) one.1
            by_job ShowsPlan = ap done one.0
            by_job ShowsSchedule = refl
            by_job RunsPlan =
                ap (run_answer first b) (dumps_same steps)
                ∙ output_same on_cells programs_are_one b ks same fits others first (dump_of o.dumps c q.distribution.owners q.distribution.ranks.items q.plan steps)

        -- ---- schedules

        steps_agree : (order : Order) → (x y : Answer) → FromOrder b p order x → FromOrder c q order y → x ≡ y
        steps_agree order x y f g =
            given_alike (StepsOf (outline_of b p) (group_of o) order) (λ steps x. x ≡ planned_answer j o.dumps (from b) p steps)
            (λ steps x. x ≡ planned_answer j o.dumps (from c) q steps) (λ x y. x ≡ y)
            (λ r s h k. ap refused (one.refusals r s h k)) one.apart one.values
            (λ steps l x y e f. e ∙ answers steps ∙ sym f)
            x y f (subst (λ z. given (StepsOf z (group_of o) order) (λ steps x. x ≡ planned_answer j o.dumps (from c) q steps) y) (sym outlines_same) g)
          where
            one : IsOne (StepsOf (outline_of b p) (group_of o) order)
            one = steps_are_one schedules.steps_decide schedules.missing_is schedules.left_is schedules.one_read schedules.drawn_once (outline_of b p) (group_of o) order

        orders_agree : (x y : Answer) → FromPlan b p x → FromPlan c q y → x ≡ y
        orders_agree =
            let one = order_is_one o.schedule files in
            given_alike (OrderOf o.schedule files) (FromOrder b p) (FromOrder c q) (λ x y. x ≡ y)
            (λ r s h k. ap refused (one.refusals r s h k)) one.apart one.values
            (λ order l. steps_agree order)

      plans_agree : (colouring : Colouring) (x y : Answer) → given (PlanIs colouring b u n) (FromPlan b) x → given (PlanIs colouring c v m) (FromPlan c) y → x ≡ y
      plans_agree colouring =
          given_both (PlanIs colouring b u n) (PlanIs colouring c v m) (FromPlan b) (FromPlan c) (λ x y. x ≡ y)
          (refusals_agree colouring) (refused_or_planned colouring) (planned_or_refused colouring)
          (λ p q h k. orders_agree colouring p q h k)

      -- what comes after the owners
      colourings_agree : (x y : Answer) → given (ColouringOf o.blocks files) (FromColouring b u n) x → given (ColouringOf o.blocks files) (FromColouring c v m) y → x ≡ y
      colourings_agree =
          let one = colouring_is_one o.blocks files in
          given_alike (ColouringOf o.blocks files) (FromColouring b u n) (FromColouring c v m) (λ x y. x ≡ y)
          (λ r s h k. ap refused (one.refusals r s h k)) one.apart one.values
          (λ colouring h. plans_agree colouring)

    -- ---- owners

    abbrev FromOwners : BoundValue → Perms → Parts → Answer → Type 0
    FromOwners d n parts = given (OwnersOf o.ranks d parts) (λ u. given (ColouringOf o.blocks files) (FromColouring d u n))

    module _ (n m : Perms) (numbered : SamePerms n m) (perms : ArePerms b.mesh n) where
      owners_agree : (parts : Parts) (x y : Answer) → FromOwners b n parts x → FromOwners c m parts y → x ≡ y
      owners_agree parts =
          given_both (OwnersOf o.ranks b parts) (OwnersOf o.ranks c parts) (λ u. given (ColouringOf o.blocks files) (FromColouring b u n))
          (λ u. given (ColouringOf o.blocks files) (FromColouring c u m)) (λ x y. x ≡ y)
          (λ r s h k. ap refused (owners_once h.0 r s h.2 (subst (λ e. SaysOwners e s) (sym (both (Err h.0) (Err k.0) h.1 k.1)) k.2)))
          (λ r v h k. both (Err h.0) (Ok v) h.1 k)
          (λ u s h k. both (Ok u) (Err k.0) h k.1)
          (λ u v h k. colourings_agree u v n m (both (Ok u) (Ok v) h k) numbered perms)
        where
          both : (x y : Result Owners OwnersRefusal) → OwnersAre b.mesh o.ranks parts x → OwnersAre b.mesh o.ranks parts y → SameOutcome SameOwners x y
          both x y h k = one_owners b.mesh o.ranks parts x y fits.mesh some h k

      parts_agree : (x y : Answer) → given (PartsOf o.parting files) (FromOwners b n) x → given (PartsOf o.parting files) (FromOwners c m) y → x ≡ y
      parts_agree =
          let one = parts_are_one o.parting files in
          given_alike (PartsOf o.parting files) (FromOwners b n) (FromOwners c m) (λ x y. x ≡ y) (λ r s h k. ap refused (one.refusals r s h k)) one.apart one.values
          (λ parts h. owners_agree parts)

    -- ---- new numbers

    numbers_agree : (x y : Answer) → given (NumbersOf o b) (λ n. given (PartsOf o.parting files) (FromOwners b n)) x
        → given (NumbersOf o c) (λ n. given (PartsOf o.parting files) (FromOwners c n)) y → x ≡ y
    numbers_agree =
        given_both (NumbersOf o b) (NumbersOf o c) (λ n. given (PartsOf o.parting files) (FromOwners b n)) (λ n. given (PartsOf o.parting files) (FromOwners c n)) (λ x y. x ≡ y)
        (λ r s h k. ap refused (numbers_once h.0 r s h.2 (subst (λ e. SaysNumbers e s) (sym (both (Err h.0) (Err k.0) h.1 k.1)) k.2)))
        (λ r m h k. both (Err h.0) (Ok m) h.1 k)
        (λ n s h k. both (Ok n) (Err k.0) h k.1)
        (λ n m h k. parts_agree n m (both (Ok n) (Ok m) h k) (are_perms b.mesh o.renumber n h))
      where
        both : (x y : Result Perms NumbersRefusal) → NumbersAre b.mesh o.renumber x → NumbersAre b.mesh o.renumber y → SameOutcome SamePerms x y
        both x y h k = one_numbers b.mesh o.renumber x y fits.mesh h k

  -- ---- the items that run

  chosen_agree : (j : PlanJob) (o : Options) (files : Files) → 0 < o.ranks → (b : BoundValue) (ks : List RKernel) → map rkernel_of b.kernels ≡ map rkernel_of ks
      → (c d : Chosen) → SameItems b ks c d → (x y : Answer) → ChosenAnswers j o files c x → ChosenAnswers j o files d y → x ≡ y
  chosen_agree j o files some b ks same c d items x y h k =
      let other = subst (λ e. ChosenAnswers j o files e y) items.1 k in
      numbers_agree j o files some c.program ks (ap (map rkernel_of) items.0 ∙ same) h.0 other.0 c.first x y h.1 other.1

  cuts_agree : (j : PlanJob) (o : Options) (files : Files) → 0 < o.ranks → (b : BoundValue) (ks : List RKernel) → map rkernel_of b.kernels ≡ map rkernel_of ks → Fits b
      → (x y : Answer) → given (CutOf o.stretch files) (λ cut. given (ChosenIs cut b) (ChosenAnswers j o files)) x
      → given (CutOf o.stretch files) (λ cut. given (ChosenIs cut (with_kernels b ks)) (ChosenAnswers j o files)) y → x ≡ y
  cuts_agree j o files some b ks same fits =
      let one = cut_is_one o.stretch files in
      given_alike (CutOf o.stretch files) _ _ (λ x y. x ≡ y) (λ r s h k. ap refused (one.refusals r s h k)) one.apart one.values
      (λ cut _.
      given_both (ChosenIs cut b) (ChosenIs cut (with_kernels b ks)) (ChosenAnswers j o files) (ChosenAnswers j o files) (λ x y. x ≡ y)
      (λ r s h k. ap refused (chosen_refusals b ks states cut r s h k)) (chosen_refused b ks states cut) (refused_chosen b ks states cut)
      (λ c d h k. chosen_agree j o files some b ks same c d (chosen_same b ks states fits cut c d h k)))

  pub plans_alike : (j : PlanJob) (o : Options) (files : Files) → 0 < o.ranks → (b c : BoundValue) → IsSame b c → (x y : Answer) → PlannedAnswers j o files b x → PlannedAnswers j o files c y → x ≡ y
  plans_alike j o files some b c same x y h k =
      cuts_agree j o files some b c.kernels same.1 h.0 x y h.1 (subst (λ d. PlannedAnswers j o files d y) same.0 k).1
