-- A peak by the cells that the checker counts is one by those that the machine has.
use Rattle.std.proofs.Common.{◌≡◌, ◌<◌, ℕ, refl, sym, ap, subst, ◌∙◌, arith, List, [], ◌∷◌, ◌++◌}
use Rattle.std.specs.Prelude.{max}
use Rattle.mesh_decl.specs.declared.owners.Owners.{Owners}
use Rattle.mesh_decl.specs.declared.owners.Perms.{Perms}
use Rattle.local_mesh.specs.declared.types.RankMesh.{RankMesh}
use Rattle.schedule_steps.specs.declared.step.Step.{Step}
use Rattle.schedule_steps.specs.declared.step.Step.TheVariants.{Send, Recv, Begin, End, Join}
use Rattle.schedule_steps.specs.declared.peak.Peak.{Peak}
use Rattle.schedule_steps.specs.Steps.{IsStep, Accepted}
use Rattle.schedule_steps.specs.Peaks.{open_step, mail_step, greatest, IsPeak}
use Rattle.schedule_model.specs.Layout.{message_cells}
use Rattle.bound_program.specs.Values.{BoundValue}
use Rattle.loop_plan.specs.Values.{PlanValue}
use Rattle.loop_plan.specs.StepOutline.{step_outline}
use Rattle.schedule_check.specs.Mail.{plan_cells}
use Rattle.bound_plan.specs.Layouts.{layout_of}
use Rattle.bound_plan.specs.Laws.{Planned}
use Rattle.rank_exec.specs.Driving.{FitsPeak}
use Rattle.rank_exec.proofs.planned_run.Elements.{Given}
use Rattle.rank_exec.proofs.planned_run.Counting.{cells_are_exported}

-- counts that agree on the steps of a list have one greatest value
greatest_agree : (f h : Step → ℕ → ℕ) (n : ℕ) (l : List Step)
    → ((pre : List Step) (s : Step) (post : List Step) → l ≡ pre ++ (s ∷ post) → (m : ℕ) → f s m ≡ h s m)
    → greatest f n l ≡ greatest h n l
greatest_agree f h n [] e = refl
greatest_agree f h n (s ∷ l) e =
    ap (λ z. max n (greatest f z l)) (e [] s l refl n)
    ∙ ap (λ z. max n z) (greatest_agree f h (h s n) l (λ pre t post q. e (s ∷ pre) t post (ap (λ z. s ∷ z) q)))

module _ (laws : Given) (b : BoundValue) (o : Owners) (n : Perms) (meshes : List RankMesh) (p : PlanValue) (pl : Planned b o n meshes p) where
  ranks_are : p.ranks ≡ o.ranks
  ranks_are = pl.proper.ranks ∙ pl.distributed.are_meshes.count

  step_agrees : (s : Step) → IsStep (step_outline b meshes p) s → (m : ℕ)
      → mail_step (message_cells (layout_of b o meshes p)) s m ≡ mail_step (plan_cells b meshes p) s m
  step_agrees (Send k s r) h m = ap (λ z. mail_step (λ i x y. z) (Send k s r) m)
      (sym (cells_are_exported laws b o n meshes p pl s r (subst (λ z. s < z) ranks_are h.2) (subst (λ z. r < z) ranks_are h.3) k))
  step_agrees (Recv k r s) h m = ap (λ z. mail_step (λ i x y. z) (Recv k r s) m)
      (sym (cells_are_exported laws b o n meshes p pl s r (subst (λ z. s < z) ranks_are h.2) (subst (λ z. r < z) ranks_are h.3) k))
  step_agrees (Begin k r x) h m = refl
  step_agrees (End k r x) h m = refl
  step_agrees (Join k) h m = refl

  pub room : (l : List Step) (k : Peak) → Accepted (step_outline b meshes p) l → IsPeak (plan_cells b meshes p) l k → FitsPeak (layout_of b o meshes p) k.frames k.mail l
  room l k a peak =
      let same : greatest (mail_step (message_cells (layout_of b o meshes p))) 0 l ≡ greatest (mail_step (plan_cells b meshes p)) 0 l =
      greatest_agree (mail_step (message_cells (layout_of b o meshes p))) (mail_step (plan_cells b meshes p)) 0 l (λ pre s post e. step_agrees s (a.steps pre s post e)) in
      record {
        opened = (let f : k.frames ≡ greatest open_step 0 l = peak.frames in omega arith);
        mails = (let f : k.mail ≡ greatest (mail_step (plan_cells b meshes p)) 0 l = peak.mail in omega arith);
      }
