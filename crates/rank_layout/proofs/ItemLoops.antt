-- The loop of a Free item, as the plan and the setup name it.
use Rattle.std.proofs.Common.{◌≡◌, ◌<◌, ℕ, true, List, length, get_or, refl, sym, ap, ◌∙◌, ⊎_elim}
use Rattle.std.proofs.lemmas.Bool.{cases_lt, eq-eqb, false≢true}
use Rattle.std.proofs.lemmas.List.{get_or_past}
use Rattle.std.proofs.lemmas.List.Folds.{list_any_at}
use Rattle.schedule_model.specs.Program as program
use Rattle.schedule_model.specs.Program.{Kind, is_loop}
use Rattle.bound_program.specs.Values.{BoundValue, ItemValue, Free, Reduce, Ordered, Host, Exit}
use Rattle.run_model.specs.Programs.{item_at, kind_of, loop_of}
use Rattle.run_model.specs.Laws.{site_of}
use Rattle.loop_plan.specs.Needs as plan
use Rattle.loop_plan.specs.Places.{runs_loop, runs_free}
use Rattle.loop_plan.specs.StepOutline as steps

-- an item that is a loop is there
pub item_there : (xs : List ItemValue) (k : ℕ) → is_loop (kind_of (get_or xs k (Host Exit))) ≡ true → k < length xs
item_there xs k h = ⊎_elim (λ lt. lt) (λ ge. absurd (false≢true (sym (ap (λ x. is_loop (kind_of x)) (get_or_past xs k (Host Exit) ge)) ∙ h))) (cases_lt k (length xs))

pub free_kind : (i : Kind) → program.is_free i ≡ true → i ≡ program.Free
free_kind program.Free h = refl
free_kind program.Reduce h = cc
free_kind program.Ordered h = cc
free_kind program.Host h = cc

free_item : (i : ItemValue) → kind_of i ≡ program.Free → i ≡ Free (loop_of i)
free_item (Free s) h = refl
free_item (Reduce s) h = cc
free_item (Ordered s) h = cc
free_item (Host a) h = cc

module _ (b : BoundValue) (k : ℕ) (free : kind_of (item_at b k) ≡ program.Free) where
  item_is : plan.item_at b k ≡ Free (loop_of (item_at b k))
  unfolding plan.item_at
  item_is = free_item (item_at b k) free

  pub loop_is : steps.loop_of (plan.item_at b k) ≡ loop_of (item_at b k)
  loop_is = ap steps.loop_of item_is

  pub args_are : plan.loop_args b (plan.item_at b k) ≡ (site_of b k).args
  args_are = ap (plan.loop_args b) item_is

  pub loop_runs : runs_free b (loop_of (item_at b k)) ≡ true
  loop_runs =
      list_any_at (runs_loop (loop_of (item_at b k))) b.trace k (Host Exit) (item_there b.trace k (ap is_loop free))
      (ap (runs_loop (loop_of (item_at b k))) (free_item (item_at b k) free) ∙ eq-eqb (loop_of (item_at b k)) (loop_of (item_at b k)) refl)
