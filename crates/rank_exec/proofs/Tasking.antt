-- The begins of a group, after their kernels have run.
use Rattle.std.proofs.Common.{◌≡◌, ℕ, zero, suc, ℤ, pos, ◌+◌, ◌-◌, ◌*◌, ◌<◌, ◌≤◌, true, false, refl, sym, ap, ap₂, ⊎_elim, ◌∙◌, arith, List, [], ◌∷◌, ◌++◌, length, length-drop, take, drop, get_or, map, Bool, nat_lt, subst}
use Rattle.std.specs.Prelude.{is_some}
use Rattle.std.proofs.lemmas.Bool.{cases_Bool, cond-true, cond-false}
use Rattle.std.proofs.lemmas.Bool.Decides.{nat_tests}
use Rattle.std.proofs.lemmas.List.{take-append-le, drop-append-le, drop-take, take-take}
use Rattle.std.proofs.Math.Nat.{mul-le-mul_right}
use Rattle.schedule_steps.specs.declared.step.Step.TheVariants.{Begin}
use Rattle.schedule_steps.specs.Outline.{Outline}
use Rattle.schedule_steps.specs.Steps.{IsStep}
use Rattle.schedule_model.specs.Setup.{Setup}
use Rattle.schedule_model.specs.Layout.{Layout, Core, Faults, Leaves}
use Rattle.schedule_model.specs.Flat.{Flat, open_pane, flat_step, flat_from}
use Rattle.schedule_model.specs.Flat as flat
use Rattle.rank_state.specs.Spans.{gathered}
use Rattle.rank_state.specs.Windows.{firsts}
use Rattle.rank_state.specs.Indices.{values_at}
use Rattle.rank_state.specs.Groups.{begins, Planned}
use Rattle.rank_state.specs.Machine.{State, row}
use Rattle.rank_state.specs.Shows.{Tables, Shows}
use Rattle.rank_program.specs.declared.tasks.Task.{Task}
use Rattle.rank_program.specs.Jobs.{RanIn, task_at, part}
use Rattle.rank_exec.specs.declared.group_room.GroupRoom.{GroupRoom}
use Rattle.rank_exec.specs.Tasks.{IsRun, HasGroupRoom, KeepsGroupRoom}

pub planned_at : (o : Outline) (k r : ℕ) (xs : List ℕ) → Planned o k r xs → (i : ℕ) → i < length xs → IsStep o (Begin k r (get_or xs i 0))
planned_at o k r [] h i lt = absurd (omega arith)
planned_at o k r (x ∷ xs) h zero lt = h.0
planned_at o k r (x ∷ xs) h (suc i) lt = planned_at o k r xs h.1 i (omega arith)

-- no window reaches into the next
pub part_ends : (window j i : ℕ) → j < i → j * window + window ≤ i * window
part_ends window j i lt =
    let h : suc j * window ≤ i * window = mul-le-mul_right window lt in
    omega arith

-- a window whose run had no fault has what the kernel leaves
pub ran_well : {F : Type 0} (c : Core F) (n : ℕ) (w : List ℤ) → RanIn c n w → get_or w n (pos 0) ≡ pos 0 → c ≡ Leaves (take n w)
ran_well (Leaves ws) n w h e = ap Leaves (sym h.0)
ran_well (Faults f) n w h e = absurd (zero_is_not_one (sym h ∙ e))
  where
    zero_is_not_one : pos 1 ≡ pos 0 → ⊥
    zero_is_not_one q = cc

module _ {F : Type 0} (p : Setup F) (l : Layout F) where
  goes_kept : (k r x : ℕ) (c : Core F) (f : Flat F) → ((open_pane p l k r x c f).memories ≡ f.memories) × ((open_pane p l k r x c f).variables ≡ f.variables)
  goes_kept k r x (Faults n) f = (refl, refl)
  goes_kept k r x (Leaves ws) f = (refl, refl)

  -- begins leave memories and variables
  pub begins_keep : (k r : ℕ) (xs : List ℕ) (f : Flat F) → ((flat_from p l (begins k r xs) f).memories ≡ f.memories) × ((flat_from p l (begins k r xs) f).variables ≡ f.variables)
  begins_keep k r [] f = (refl, refl)
  begins_keep k r (x ∷ xs) f = ⊎_elim
      (λ (y : is_some f.stop ≡ true).
      let e = cond-true (is_some f.stop) f (flat_from p l (begins k r xs) (flat_step p l (Begin k r x) f)) y in
      (ap (λ (z : Flat F). z.memories) e, ap (λ (z : Flat F). z.variables) e))
      (λ (y : is_some f.stop ≡ false).
      let e = cond-false (is_some f.stop) f (flat_from p l (begins k r xs) (flat_step p l (Begin k r x) f)) y in
      let rest = begins_keep k r xs (flat_step p l (Begin k r x) f) in
      let one = goes_kept k r x (l.core k (l.original k r x) (map (flat.variable p l f) l.constants) (map (flat.window p l f k r) (l.cells k (l.original k r x)))) f in
      (ap (λ (z : Flat F). z.memories) e ∙ (rest.0 ∙ one.0), ap (λ (z : Flat F). z.variables) e ∙ (rest.1 ∙ one.1)))
      (cases_Bool (is_some f.stop))

module _ {F : Type 0} (p : Setup F) (l : Layout F) (t : Tables) where
  -- a run on the windows of one state is one on those of another with the same memories and variables
  pub run_kept : (k r x n : ℕ) (w : List ℤ) (old new : State F) → new.memories ≡ old.memories → new.variables ≡ old.variables → IsRun p l t k r x old n w → IsRun p l t k r x new n w
  run_kept k r x n w old new em ev h = record {
    spans = h.spans;
    scalars = h.scalars;
    are = h.are;
    left = λ z. ap₂ (λ (ms : List (List ℤ)) (vs : List ℤ). l.core k (l.original k r x) (values_at vs t.constants) (gathered (row ms r) h.spans ++ firsts vs h.scalars)) em ev ∙ h.left z;
  }

  -- states that show the same before and after begins have the same memories and variables
  pub run_later : (k r x n : ℕ) (w : List ℤ) (xs : List ℕ) (old new : State F) (f : Flat F) → Shows p l t old f
      → Shows p l t new (flat_from p l (begins k r xs) f) → IsRun p l t k r x old n w → IsRun p l t k r x new n w
  run_later k r x n w xs old new f a b h =
      let keep = begins_keep p l k r xs f in
      run_kept k r x n w old new (b.memories ∙ (keep.0 ∙ sym a.memories)) (b.variables ∙ (keep.1 ∙ sym a.variables)) h

-- a window of the front of a buffer is one of the buffer
pub part_of_front : (window i n : ℕ) (cells : List ℤ) → i * window + window ≤ n → part window i (take n cells) ≡ part window i cells
part_of_front window i n cells le =
    let split : n ≡ i * window + (n - i * window) = omega arith in
    ap (λ m. part window i (take m cells)) split
    ∙ ap (take window) (drop-take (i * window) (n - i * window) cells)
    ∙ take-take window (n - i * window) (drop (i * window) cells) (omega arith)

-- a window of a buffer is one of the buffer with more cells behind it
pub part_of_longer : (window i : ℕ) (cells rest : List ℤ) → i * window + window ≤ length cells → part window i (cells ++ rest) ≡ part window i cells
part_of_longer window i cells rest le =
    let room : window ≤ length (drop (i * window) cells) = omega (arith, length-drop (i * window) cells) in
    ap (take window) (drop-append-le (i * window) cells rest (omega arith)) ∙ take-append-le window (drop (i * window) cells) rest room

-- room that is as large as that before is enough for as many begins
pub still_enough : (most stride locals : ℕ) (old new : GroupRoom) → KeepsGroupRoom old new → HasGroupRoom most stride locals old → HasGroupRoom most stride locals new
still_enough most stride locals old new kept fits = record {
  tasks_fit = subst (λ n. most ≤ n) (sym kept.tasks) fits.tasks_fit;
  targets_fit = subst (λ n. most ≤ n) (sym kept.targets) fits.targets_fit;
  window_fits = subst (λ n. stride + locals < n) (sym kept.window) fits.window_fits;
  staging_fits = subst (λ n. most * n ≤ length new.staging.items) (sym kept.window) (subst (λ n. most * old.window ≤ n) (sym kept.staging) fits.staging_fits);
}

-- room for some begins is room for fewer
pub fewer : (most few stride locals : ℕ) (room : GroupRoom) → few ≤ most → HasGroupRoom most stride locals room → HasGroupRoom few stride locals room
fewer most few stride locals room le fits = record {
  tasks_fit = omega (arith, le, fits.tasks_fit);
  targets_fit = omega (arith, le, fits.targets_fit);
  window_fits = fits.window_fits;
  staging_fits = (let h : few * room.window ≤ most * room.window = mul-le-mul_right room.window le in omega (arith, fits.staging_fits));
}

-- room stays as large step by step
pub kept_on : (a b c : GroupRoom) → KeepsGroupRoom a b → KeepsGroupRoom b c → KeepsGroupRoom a c
kept_on a b c first then = record {
  tasks = then.tasks ∙ first.tasks;
  targets = then.targets ∙ first.targets;
  window = then.window ∙ first.window;
  staging = then.staging ∙ first.staging;
}

-- what holds of each task and its window holds with one more
pub one_more : (P : ℕ → Task → List ℤ → Type 0) (n : ℕ) (old new : GroupRoom) → length old.tasks.items ≡ n
    → ((j : ℕ) → j < n → P j (task_at old.tasks.items j) (part old.window j old.staging.items))
    → P n (task_at new.tasks.items (length old.tasks.items)) (part new.window (length old.tasks.items) new.staging.items)
    → ((j : ℕ) → j < length old.tasks.items → (task_at new.tasks.items j ≡ task_at old.tasks.items j) × (part new.window j new.staging.items ≡ part old.window j old.staging.items))
    → (j : ℕ) → j < n + 1 → P j (task_at new.tasks.items j) (part new.window j new.staging.items)
one_more P n old new len each one others j lt = go (nat_lt j n) refl
  where
    go : (test : Bool) → nat_lt j n ≡ test → P j (task_at new.tasks.items j) (part new.window j new.staging.items)
    go true h =
        let below : j < n = grind (arith, nat_tests) in
        let same = others j (omega (arith, below, len)) in
        subst (λ task. P j task (part new.window j new.staging.items)) (sym same.0)
        (subst (P j (task_at old.tasks.items j)) (sym same.1) (each j below))
    go false h =
        let above : n ≤ j = grind (arith, nat_tests) in
        let last : n ≡ j = omega arith in
        subst (λ i. P i (task_at new.tasks.items i) (part new.window i new.staging.items)) last
        (subst (λ i. P n (task_at new.tasks.items i) (part new.window i new.staging.items)) len one)
