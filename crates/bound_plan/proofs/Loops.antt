-- The loops of items, as the program, the plan and the setup name them.
use Rattle.std.proofs.Common.{◌≡◌, ℕ, ◌<◌, true, length, refl, sym, ap, ◌∙◌, arith, ⊎_elim}
use Rattle.std.proofs.lemmas.Bool.{cases_lt, false≢true, eq-eqb}
use Rattle.std.proofs.lemmas.List.{get_or_past}
use Rattle.std.proofs.lemmas.List.Folds.{list_any_at}
use Rattle.schedule_model.specs.Program as program
use Rattle.schedule_model.specs.Program.{Kind}
use Rattle.bound_program.specs.Values.{ItemValue, Free, Reduce, Ordered, Host, Exit, BoundValue}
use Rattle.bound_program.specs.Fits.{site_at}
use Rattle.run_model.specs.Programs.{kind_of, loop_of, item_at}
use Rattle.run_model.specs.Laws.{site_of}
use Rattle.loop_plan.specs.Needs as plan
use Rattle.loop_plan.specs.Places.{runs_loop, runs_free}
use Rattle.loop_plan.specs.StepOutline as steps

abbrev is_free_kind : Kind → ℕ
is_free_kind program.Free = 1
is_free_kind program.Reduce = 0
is_free_kind program.Ordered = 0
is_free_kind program.Host = 0

zero_one : (a b : ℕ) → a ≡ b → a ≡ 0 → b ≡ 1 → ⊥
zero_one a b e x y = absurd (omega arith)

-- an item of a Free loop
pub free_item : (i : ItemValue) → kind_of i ≡ program.Free → i ≡ Free (loop_of i)
free_item (Free s) h = refl
free_item (Reduce s) h = absurd (zero_one 0 1 (ap is_free_kind h) refl refl)
free_item (Ordered s) h = absurd (zero_one 0 1 (ap is_free_kind h) refl refl)
free_item (Host a) h = absurd (zero_one 0 1 (ap is_free_kind h) refl refl)

-- both tests of Free loops agree
pub free_same : (i : ItemValue) → steps.is_free i ≡ program.is_free (kind_of i)
free_same (Free s) = refl
free_same (Reduce s) = refl
free_same (Ordered s) = refl
free_same (Host a) = refl

loops_same : (i : ItemValue) → steps.loop_of i ≡ loop_of i
loops_same (Free s) = refl
loops_same (Reduce s) = refl
loops_same (Ordered s) = refl
loops_same (Host a) = refl

module _ (b : BoundValue) where
  pub item_is : (k : ℕ) → plan.item_at b k ≡ item_at b k
  unfolding plan.item_at
  item_is k = refl

  pub loop_is : (k : ℕ) → steps.loop_of (plan.item_at b k) ≡ loop_of (item_at b k)
  loop_is k = ap steps.loop_of (item_is k) ∙ loops_same (item_at b k)

  -- past the last item there is no loop
  pub item_there : (k : ℕ) → kind_of (item_at b k) ≡ program.Free → k < length b.trace
  item_there k h = ⊎_elim
      (λ l. l)
      (λ l. absurd (zero_one 0 1 (ap (λ i. is_free_kind (kind_of i)) (sym (get_or_past b.trace k (Host Exit) l)) ∙ ap is_free_kind h) refl refl))
      (cases_lt k (length b.trace))

  -- the loop of a Free item runs
  pub runs : (k : ℕ) → kind_of (item_at b k) ≡ program.Free → runs_free b (loop_of (item_at b k)) ≡ true
  runs k h =
      list_any_at (runs_loop (loop_of (item_at b k))) b.trace k (Host Exit) (item_there k h)
      (ap (runs_loop (loop_of (item_at b k))) (free_item (item_at b k) h) ∙ eq-eqb (loop_of (item_at b k)) (loop_of (item_at b k)) refl)

  -- the arguments of a Free item's loop
  pub free_args_are : (k : ℕ) → kind_of (item_at b k) ≡ program.Free → plan.free_args b (plan.item_at b k) ≡ (site_of b k).args
  free_args_are k h = ap (plan.free_args b) (item_is k ∙ free_item (item_at b k) h)

  pub loop_args_are : (k : ℕ) → kind_of (item_at b k) ≡ program.Free → plan.loop_args b (plan.item_at b k) ≡ (site_of b k).args
  loop_args_are k h = ap (plan.loop_args b) (item_is k ∙ free_item (item_at b k) h)

  -- the arguments of an item's loop
  args_of : (i : ItemValue) → program.is_loop (kind_of i) ≡ true → plan.loop_args b i ≡ (site_at b (loop_of i)).args
  args_of (Free s) h = refl
  args_of (Ordered s) h = refl
  args_of (Reduce s) h = absurd (false≢true h)
  args_of (Host a) h = absurd (false≢true h)

  pub args_are : (k : ℕ) → program.is_loop (kind_of (item_at b k)) ≡ true → plan.loop_args b (plan.item_at b k) ≡ (site_of b k).args
  args_are k h = ap (plan.loop_args b) (item_is k) ∙ args_of (item_at b k) h

  -- what an item needs it needs as a Free loop
  need_free : (i : ItemValue) (d : ℕ) → plan.needs (plan.free_args b i) d ≡ true → kind_of i ≡ program.Free
  need_free (Free s) d h = refl
  need_free (Ordered s) d h = absurd (false≢true h)
  need_free (Reduce s) d h = absurd (false≢true h)
  need_free (Host a) d h = absurd (false≢true h)

  pub needs_free : (k d : ℕ) → plan.item_needs b k d ≡ true → kind_of (item_at b k) ≡ program.Free
  needs_free k d h = need_free (item_at b k) d (ap (λ i. plan.needs (plan.free_args b i) d) (sym (item_is k)) ∙ h)
