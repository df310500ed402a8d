-- From what is answered of the text of a plan to the plan, or its refusal.
use Rattle.std.proofs.Common.{◌≡◌, ◌<◌, ◌≤◌, ℕ, inl, inr, List, ap, subst, ◌∙◌}
use Rattle.local_mesh.specs.declared.types.RankMesh.{RankMesh}
use Rattle.bound_program.specs.Values.{BoundValue}
use Rattle.loop_plan.specs.Values.{PlanValue}
use Rattle.loop_plan.specs.StepCounts.{max_steps, program_steps}
use Rattle.plan_cert.specs.Certified.{Certified, IsRefused}
use Rattle.plan_cert.specs.Judged.{IsRefusedBy}
use Rattle.plan_cert.specs.declared.types.CertRefusal.{CertRefusal}
use Rattle.plan_cert.specs.declared.types.CertRefusal.TheVariants as cert
use Rattle.command_words.specs.Refusal.{Steps, BadPlan, BeyondLimit}
use Rattle.command_words.specs.Lines.{most}
use Rattle.command_words.specs.declared.answer_lines.refusals.Halt.{Halt}
use Rattle.command_words.specs.Halts.{StopsWhere}
use Rattle.command_words.proofs.Public.{stops_weaker}
use Rattle.answers.specs.Judgements.{Told, IsPlanned, IsUnplanned}
use Rattle.job_inputs.specs.Plans.{SaysPlan}

module _ (b : BoundValue) (meshes : List RankMesh) (bytes : List ℕ) where
  pub told_planned : (p : PlanValue) → Certified b meshes bytes p → p.steps ≡ program_steps b meshes → p.steps ≤ max_steps → IsPlanned (Told bytes) b meshes p
  told_planned p h e few = record { proper = h.proper; coloured = h; few = subst (λ k. k ≤ most Steps) e few }

  line_refused : (number line : ℕ) (h : Halt) → IsRefused b meshes bytes number line → StopsWhere (λ r. r ≡ BadPlan number line) h
      → StopsWhere (IsUnplanned (Told bytes) b meshes) h
  line_refused number line h is says =
      stops_weaker (λ r. r ≡ BadPlan number line) (IsUnplanned (Told bytes) b meshes) h (λ r e. inl (number, line, is, e)) says

  pub told_refused : (e : CertRefusal) (h : Halt) → IsRefusedBy b meshes bytes e → StopsWhere (SaysPlan e) h
      → StopsWhere (IsUnplanned (Told bytes) b meshes) h
  told_refused (cert.Header line) h is says = line_refused 1 line h is says
  told_refused (cert.Ranks line) h is says = line_refused 2 line h is says
  told_refused (cert.Halo line) h is says = line_refused 3 line h is says
  told_refused (cert.Site line) h is says = line_refused 4 line h is says
  told_refused (cert.Item line) h is says = line_refused 5 line h is says
  told_refused (cert.BlockConflict line) h is says = line_refused 6 line h is says
  told_refused (cert.InnerConflict line) h is says = line_refused 7 line h is says
  told_refused (cert.End line) h is says = line_refused 8 line h is says
  told_refused (cert.TooManySteps steps) h is says =
      stops_weaker (λ r. r ≡ BeyondLimit Steps steps) (IsUnplanned (Told bytes) b meshes) h
      (λ r e. inr (record { coloured = (is.0, is.1); many = subst (λ k. most Steps < k) is.3 is.4; says = e ∙ ap (BeyondLimit Steps) is.3 })) says
  told_refused cert.OutOfMemory h is says =
      stops_weaker (SaysPlan cert.OutOfMemory) (IsUnplanned (Told bytes) b meshes) h (λ r x. absurd x) says
