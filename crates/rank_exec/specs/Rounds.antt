-- The elements of one item on all ranks, each rank's one after another, rank after rank.
use Rattle.std.specs.Prelude.{◌≡◌, ◌<◌, ◌≤◌, ℕ, Bool, true, false, zero, suc, List, [], ◌∷◌, ◌++◌, length, Option, Some, None}
use Rattle.schedule_steps.specs.declared.step.Step.{Step}
use Rattle.schedule_steps.specs.declared.step.Step.TheVariants.{Send, Recv, Begin, End, Join}
use Rattle.schedule_steps.specs.Steps.{IsStep}
use Rattle.rank_exec.specs.declared.stream.Told.{Told}
use Rattle.step_orders.specs.Alone.{alone}
use Rattle.rank_exec.specs.Closed.{closed}
use Rattle.schedule_model.specs.Setup.{Setup}
use Rattle.schedule_model.specs.Layout.{Layout, IsLayout, by_place}
use Rattle.rank_state.specs.Indices.{values_at}
use Rattle.rank_state.specs.Frames.{Panes, Shut, pane_at}
use Rattle.rank_state.specs.Machine.{State}
use Rattle.rank_state.specs.Shows.{Tables, Indexed}
use Rattle.rank_program.specs.AloneRuns.{Share, with_share}
use Rattle.rank_program.specs.FromNone.{kept_both, OfElement, with_fault}
use Rattle.rank_machine.specs.OnRanks.{RanOnRanks, share_at, with_shares}
use Rattle.rank_exec.specs.Driving.{Done}

-- item, places by rank: the elements of the first n ranks
abbrev pub round : ℕ → (ℕ → List ℕ) → ℕ → List Step
round k places zero = []
round k places (suc n) = round k places n ++ alone k n (places n)

-- the state in which the first n ranks have these shares; their faults are put together with the one that was kept
abbrev pub after_ranks : {F : Type 0} → State F → (ℕ → Share F) → ℕ → State F
after_ranks old new zero = old
after_ranks old new (suc n) =
    with_share n (with_fault (kept_both (after_ranks old new n).fault (new n).fault) (new n)) (after_ranks old new n)

-- each element that begins among the steps is of the plan and has no frame, and a frame is free
abbrev pub CanBegin : {F : Type 0} → Setup F → Layout F → Panes → List Step → Type 0
CanBegin p l fs [] = Unit {0}
CanBegin p l fs (Begin k r x ∷ ss) =
    IsStep (by_place p l) (Begin k r x) × (pane_at fs.panes r x ≡ Shut) × (0 < fs.left) × CanBegin p l fs ss
CanBegin p l fs (Send k a b ∷ ss) = CanBegin p l fs ss
CanBegin p l fs (Recv k a b ∷ ss) = CanBegin p l fs ss
CanBegin p l fs (End k r x ∷ ss) = CanBegin p l fs ss
CanBegin p l fs (Join k ∷ ss) = CanBegin p l fs ss

-- elements of item k on rank r at these places: each begins and ends before the next begins, or they are a closed group
abbrev pub elements : (alone : Bool) → (k r : ℕ) → List ℕ → List Step
elements true k r xs = alone k r xs
elements false k r xs = closed k r xs

-- the steps that were told, at these places
abbrev pub told : Option Told → List ℕ → List Step
told None xs = []
told (Some of) xs = elements of.alone of.item of.rank xs

-- Elements that ran on each rank by itself, from no fault, were begun and ended rank after rank.
abbrev pub RanksComeInTurn : {F : Type 0} → Setup F → Layout F → Tables → Type 0
RanksComeInTurn {F = F} p l t =
    Indexed p l t → IsLayout p l
    → (k : ℕ) (places : ℕ → List ℕ) (old : State F) (new : ℕ → Share F) (ranks : ℕ)
    → OfElement old.fault
    → ranks ≤ length old.memories
    → ranks ≤ length old.partials
    → RanOnRanks p l t k (values_at old.variables t.constants) old.variables places old new ranks
    → CanBegin p l old.frames (round k places ranks)
    → Done p l t (round k places ranks) old (after_ranks old new ranks)

-- shares that are put into the state rank after rank are those of all ranks
abbrev pub SharesAreSet : {F : Type 0} → State F → List (Share F) → Type 0
SharesAreSet old news =
    length old.memories ≡ length news
    → length old.partials ≡ length news
    → after_ranks old (share_at news) (length news) ≡ with_shares news old
