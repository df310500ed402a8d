-- From new numbers and owners to the plan.
use Rattle.std.proofs.Common.{ℕ, inl, inr, List, ◌++◌, Option, Result, Ok, Err, refl, sym, subst}
use Rattle.op_outside.specs.Outside.{Files}
use Rattle.job_inputs.specs.Readings.{Readings, AreNext, HaveCome, Finds}
use Rattle.job_inputs.proofs.kept_files.Finding.{finds_on, finds_weaker}
use Rattle.mesh_decl.specs.declared.owners.Owners.{Owners}
use Rattle.mesh_decl.specs.declared.owners.Perms.{Perms}
use Rattle.mesh_decl.specs.Mesh.{MeshValue}
use Rattle.mesh_decl.specs.Owners.{AreOwners, ArePerms}
use Rattle.partition.specs.declared.distribute.types.Distribution.{Distribution}
use Rattle.partition.specs.Distributions.{IsDistribution}
use Rattle.bound_program.specs.declared.programs.Bound.{Bound}
use Rattle.bound_program.specs.Values.{BoundValue, bound_of}
use Rattle.bound_program.specs.Fits.{Fits}
use Rattle.local_mesh.specs.Halos.{AreHalos}
use Rattle.loop_plan.specs.declared.types.Plan.{Plan}
use Rattle.loop_plan.specs.Values.{plan_of}
use Rattle.loop_plan.specs.Distributed.{IsDistributed, Distributed}
use Rattle.loop_plan.specs.Proper.{Proper}
use Rattle.loop_plan.specs.Planned.{FitTogether}
use Rattle.command_words.specs.Refusal.{Refusal}
use Rattle.command_words.specs.Words.{Options, names_by, names_in_blocks}
use Rattle.command_words.specs.Lines as lines
use Rattle.command_words.specs.Lines.{refused}
use Rattle.command_words.specs.declared.answer_lines.call_answer.Answer.{Answer}
use Rattle.command_words.specs.declared.answer_lines.refusals.Halt.{Halt}
use Rattle.command_words.specs.Halts.{StopsWhere}
use Rattle.command_words.proofs.Public.{stops_weaker}
use Rattle.answers.specs.Judgements.{Colouring, Planned, NumbersOf, PartsOf, OwnersOf, ColouringOf, IsUnplanned, PlanIs}
use Rattle.answers.specs.Answers.{PlanningAnswers}
use Rattle.job_inputs.specs.Inputs.{parts_by, colouring_by}
use Rattle.job_inputs.specs.Chains.{HaltsOver, AnswersFrom}
use Rattle.job_inputs.proofs.Chained.{halts_weaker, halts_on, stops_on, stops_always, answers_on, still_named}
use Rattle.job_inputs.proofs.Jobs.{given_weaker}
use Rattle.job_inputs.specs.Plans.{Unplanned, IsPlannedIn}

-- ---- distributions

pub spread : (g : MeshValue) (u : Owners) (n : Perms) (d : Distribution) → AreOwners g u → ArePerms g n → IsDistribution g u n d → Distributed g d.halos d.ranks.items
spread g u n d are_owners are_perms h =
    record { owners = u; numbers = n; are_halos = h.halos; distributed = record { are_owners = are_owners; are_perms = are_perms; are_meshes = h.ranks } }

pub unplanned : (c : Colouring) (b : BoundValue) (u : Owners) (n : Perms) (d : Distribution) (h : Halt) → IsDistribution b.mesh u n d
    → StopsWhere (IsUnplanned c b d.ranks.items) h
    → StopsWhere (λ r. PlanIs c b u n (Err r)) h
unplanned c b u n d h is s = stops_weaker (IsUnplanned c b d.ranks.items) (λ r. PlanIs c b u n (Err r)) h (λ r k. (d, is, k)) s

pub fit_together : (b : Bound) (u : Owners) (n : Perms) (d : Distribution) (p : Plan)
    → Fits (bound_of b)
    → AreOwners b.mesh u
    → ArePerms b.mesh n
    → IsDistribution b.mesh u n d
    → Proper (bound_of b) d.ranks.items (plan_of p)
    → FitTogether (record { bound = b; distribution = d; plan = plan_of p })
fit_together b u n d p fits are_owners are_perms h proper =
    let spread : IsDistributed b.mesh u n d.ranks.items = record { are_owners = are_owners; are_perms = are_perms; are_meshes = h.ranks } in
    record {
      fits = fits;
      numbers = n;
      distributed = subst (λ z. IsDistributed b.mesh z n d.ranks.items) (sym h.owners) spread;
      are_halos = subst (λ z. AreHalos b.mesh z d.halos) (sym h.owners) h.halos;
      proper = proper;
    }

-- ---- judgements over files

module _ (o : Options) (b : BoundValue) (told : Option Files) (rose : Type 0) (old : Readings) where
  abbrev Refuses : Files → Refusal → Type 0
  Refuses files r = PlanningAnswers Unplanned o files b (refused r)

  pub numbers_refused : (h : Halt) → StopsWhere (λ r. NumbersOf o b (Err r)) h → HaltsOver told old Refuses rose h
  numbers_refused h s = stops_always told rose old (λ r. NumbersOf o b (Err r)) Refuses h (λ files r i. inl (r, i, refl)) s

  module _ (n : Perms) (numbered : NumbersOf o b (Ok n)) where
    pub parts_refused : (h : Halt) → HaltsOver told old (λ files r. PartsOf o.parting files (Err r)) rose h → HaltsOver told old Refuses rose h
    parts_refused h k =
        halts_weaker told rose old (λ files r. PartsOf o.parting files (Err r)) Refuses h (λ files r i. inr (n, numbered, inl (r, i, refl))) k

    module _ (mid : Readings) (text : List ℕ) (found : Finds told old mid (λ files. PartsOf o.parting files (Ok (parts_by o.parting text)))) where
      abbrev Parted : Files → Type 0
      Parted files = PartsOf o.parting files (Ok (parts_by o.parting text))

      pub owners_refused : (h : Halt) → StopsWhere (λ r. OwnersOf o.ranks b (parts_by o.parting text) (Err r)) h → HaltsOver told old Refuses rose h
      owners_refused h s =
          stops_on told rose old mid Parted found (λ r. OwnersOf o.ranks b (parts_by o.parting text) (Err r)) Refuses h
          (λ files r k i. inr (n, numbered, inr (parts_by o.parting text, k, inl (r, i, refl)))) s

      module _ (u : Owners) (owned : OwnersOf o.ranks b (parts_by o.parting text) (Ok u)) where
        pub colouring_refused : (h : Halt) → AreNext (names_by o.parting) old → HaveCome (names_by o.parting) old mid
            → HaltsOver told mid (λ files r. ColouringOf o.blocks files (Err r)) rose h
            → HaltsOver told old Refuses rose h
        colouring_refused h next come k =
            halts_on told rose old mid Parted found (λ files r. ColouringOf o.blocks files (Err r)) Refuses h
            (still_named (names_by o.parting) old mid next come)
            (λ files r p i. inr (n, numbered, inr (parts_by o.parting text, p, inr (u, owned, inl (r, i, refl))))) k

        module _ (late : Readings) (bytes : List ℕ) (seen : Finds told mid late (λ files. ColouringOf o.blocks files (Ok (colouring_by o.blocks bytes)))) where
          abbrev Coloured : Files → Type 0
          Coloured files = ColouringOf o.blocks files (Ok (colouring_by o.blocks bytes))

          abbrev Both : Files → Type 0
          Both files = Parted files × Coloured files

          both : Finds told old late Both
          both = finds_on told old mid late Parted Coloured found seen

          pub plan_refused : (h : Halt) → StopsWhere (λ r. PlanIs (colouring_by o.blocks bytes) b u n (Err r)) h → HaltsOver told old Refuses rose h
          plan_refused h s =
              stops_on told rose old late Both both (λ r. PlanIs (colouring_by o.blocks bytes) b u n (Err r)) Refuses h
              (λ files r k i. inr (n, numbered, inr (parts_by o.parting text, k.0, inr (u, owned, inr (colouring_by o.blocks bytes, k.1, inl (r, i, refl)))))) s

          pub plan_found : (p : Planned) → PlanIs (colouring_by o.blocks bytes) b u n (Ok p) → Finds told old late (IsPlannedIn o b p)
          plan_found p is =
              finds_weaker told old late Both (IsPlannedIn o b p)
              (λ files k. record {
                numbers = n;
                parts = parts_by o.parting text;
                owners = u;
                colouring = colouring_by o.blocks bytes;
                numbered = numbered;
                parted = k.0;
                owned = owned;
                coloured = k.1;
                planned = is;
              }) both

-- ---- from a plan to what is answered of it

-- refusals that come before a plan stay, whatever is answered of it
planning_never : (rest : Planned → lines.Answer → Type 0) (o : Options) (files : Files) (b : BoundValue) (a : lines.Answer)
    → PlanningAnswers Unplanned o files b a
    → PlanningAnswers rest o files b a
planning_never rest o files b =
    given_weaker (NumbersOf o b) _ _ (λ n.
    given_weaker (PartsOf o.parting files) _ _ (λ parts.
    given_weaker (OwnersOf o.ranks b parts) _ _ (λ u.
    given_weaker (ColouringOf o.blocks files) _ _ (λ colouring.
    given_weaker (PlanIs colouring b u n) _ _ (λ p a h. absurd h)))))

-- what is answered of a plan is answered over the files
planning_reached : (rest : Planned → lines.Answer → Type 0) (o : Options) (b : BoundValue) (p : Planned) (files : Files) (a : lines.Answer)
    → IsPlannedIn o b p files
    → rest p a
    → PlanningAnswers rest o files b a
planning_reached rest o b p files a h k =
    inr (h.numbers, h.numbered, inr (h.parts, h.parted, inr (h.owners, h.owned, inr (h.colouring, h.coloured, inr (p, h.planned, k)))))

module _ (rest : Files → Planned → lines.Answer → Type 0) (o : Options) (b : BoundValue) (fits : Fits b) (told : Option Files) (rose : Type 0) (old : Readings) where
  -- what is answered of a bound program
  abbrev All : Files → lines.Answer → Type 0
  All files a = Fits b × PlanningAnswers (rest files) o files b a

  pub planning_halted : (h : Halt) → HaltsOver told old (λ files r. PlanningAnswers Unplanned o files b (refused r)) rose h
      → HaltsOver told old (λ files r. All files (refused r)) rose h
  planning_halted h k =
      halts_weaker told rose old (λ files r. PlanningAnswers Unplanned o files b (refused r)) (λ files r. All files (refused r)) h
      (λ files r x. (fits, planning_never (rest files) o files b (refused r) x)) k

  pub planning_answered : (mid : Readings) (p : Planned) (r : Result Answer Halt)
      → Finds told old mid (IsPlannedIn o b p)
      → AreNext (names_by o.parting ++ names_in_blocks o.blocks) old
      → HaveCome (names_by o.parting ++ names_in_blocks o.blocks) old mid
      → AnswersFrom told mid (λ files. rest files p) rose r
      → AnswersFrom told old All rose r
  planning_answered mid p r found next come h =
      answers_on told rose old mid (IsPlannedIn o b p) found (λ files. rest files p) All r
      (still_named (names_by o.parting ++ names_in_blocks o.blocks) old mid next come)
      (λ files a k x. (fits, planning_reached (rest files) o b p files a k x)) h
