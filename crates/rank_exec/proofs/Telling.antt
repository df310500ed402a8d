-- What a stream tells of the steps that come next.
use Rattle.std.proofs.Common.{◌≡◌, ℕ, Bool, true, false, ◌<◌, refl, sym, ap, arith, Option, Some, None, List, [], ◌∷◌, ◌++◌, length, append-nil}
use Rattle.std.specs.Prelude.{IfSome, IfNone}
use Rattle.schedule_steps.specs.declared.step.Step.{Step}
use Rattle.schedule_steps.specs.declared.step.Step.TheVariants.{Begin, End}
use Rattle.step_orders.specs.Alone.{alone}
use Rattle.schedule_model.specs.Setup.{Setup}
use Rattle.schedule_model.specs.Layout.{Layout}
use Rattle.schedule_model.specs.Flat.{Flat}
use Rattle.rank_exec.specs.Closed.{closed, GroupsAreAlone, RankGroup, all_closed, all_alone}
use Rattle.rank_state.specs.Machine.{State}
use Rattle.rank_state.specs.Shows.{Tables, Shows}
use Rattle.rank_exec.specs.declared.stream.Told.{Told}
use Rattle.rank_exec.specs.Driving.{Done, ComeReady}
use Rattle.rank_exec.specs.Rounds.{elements, told}
use Rattle.rank_exec.proofs.Closing.{StayShut, closed_ready, closed_done}

-- what came is what was told and what is left
pub told_is : (next : Option Told) (xs : List ℕ) (old new : List Step)
    → IfSome next (λ of. old ≡ elements of.alone of.item of.rank xs ++ new) → IfNone next (new ≡ old)
    → old ≡ told next xs ++ new
told_is None xs old new some none = sym none
told_is (Some of) xs old new some none = some

-- ---- elements that were told, as closed groups

abbrev singles : ℕ → List ℕ → List RankGroup
singles r [] = []
singles r (x ∷ xs) = record { rank = r; places = x ∷ [] } ∷ singles r xs

-- the groups: one, or one for each element
abbrev pub groups_of : Bool → ℕ → List ℕ → List RankGroup
groups_of true r xs = singles r xs
groups_of false r xs = record { rank = r; places = xs } ∷ []

closed_singles : (k r : ℕ) (xs : List ℕ) → all_closed k (singles r xs) ≡ alone k r xs
closed_singles k r [] = refl
closed_singles k r (x ∷ xs) = ap (λ z. Begin k r x ∷ End k r x ∷ z) (closed_singles k r xs)

alone_singles : (k r : ℕ) (xs : List ℕ) → all_alone k (singles r xs) ≡ alone k r xs
alone_singles k r [] = refl
alone_singles k r (x ∷ xs) = ap (λ z. Begin k r x ∷ End k r x ∷ z) (alone_singles k r xs)

pub elements_closed : (b : Bool) (k r : ℕ) (xs : List ℕ) → all_closed k (groups_of b r xs) ≡ elements b k r xs
elements_closed true k r xs = closed_singles k r xs
elements_closed false k r xs = append-nil (closed k r xs)

pub elements_alone : (b : Bool) (k r : ℕ) (xs : List ℕ) → all_alone k (groups_of b r xs) ≡ alone k r xs
elements_alone true k r xs = alone_singles k r xs
elements_alone false k r xs = append-nil (alone k r xs)

pub some_elements : (b : Bool) (k r : ℕ) (xs : List ℕ) → 0 < length xs → 0 < length (elements b k r xs)
some_elements b k r [] lt = absurd (omega (arith, lt))
some_elements true k r (x ∷ xs) lt = omega arith
some_elements false k r (x ∷ xs) lt = omega arith

-- ---- their elements one after another

module _ {F : Type 0} (p : Setup F) (l : Layout F) (t : Tables) where
  pub elements_ready : StayShut p l t → (b : Bool) (k r : ℕ) (xs : List ℕ) (old : State F) (f : Flat F) → Shows p l t old f
      → ComeReady p l t (elements b k r xs) old → ComeReady p l t (alone k r xs) old
  elements_ready stay true k r xs old f h ready = ready
  elements_ready stay false k r xs old f h ready = closed_ready p l t stay k r xs old f h ready

  pub elements_done : (b : Bool) (k r : ℕ) (xs : List ℕ) (old new : State F) → GroupsAreAlone p l (elements b k r xs)
      → Done p l t (alone k r xs) old new → Done p l t (elements b k r xs) old new
  elements_done true k r xs old new law d = d
  elements_done false k r xs old new law d = closed_done p l t k r xs old new law d

-- fewer steps are left
pub told_fewer : (done rest come : List Step) → come ≡ done ++ rest → 0 < length done → length rest < length come
told_fewer [] rest come e some = absurd (omega (arith, some))
told_fewer (d ∷ done) rest come e some = (let n = ap length e in let h = no_more done in omega (arith, n, h))
  where
    no_more : (ss : List Step) → length rest < length (d ∷ (ss ++ rest))
    no_more [] = omega arith
    no_more (s ∷ ss) = let h = no_more ss in omega (arith, h)

pub elements_fewer : (b : Bool) (k r : ℕ) (xs : List ℕ) (come rest : List Step) → come ≡ elements b k r xs ++ rest → 0 < length xs → length rest < length come
elements_fewer b k r xs come rest e some = told_fewer (elements b k r xs) rest come e (some_elements b k r xs some)
