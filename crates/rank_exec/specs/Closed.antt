-- Elements that begin together and then end, and the same elements one after another.
use Rattle.std.specs.Prelude.{◌≡◌, ℕ, List, [], ◌∷◌, ◌++◌, None}
use Rattle.schedule_steps.specs.declared.step.Step.{Step}
use Rattle.step_orders.specs.Alone.{alone}
use Rattle.step_orders.specs.Left.{begins, ends}
use Rattle.schedule_model.specs.Cells.{VarCell}
use Rattle.schedule_model.specs.Setup.{Setup}
use Rattle.schedule_model.specs.Layout.{Layout}
use Rattle.schedule_model.specs.Flat.{Flat, flat_from}

-- nothing tells the two states apart
pub record AreAlike {F : Type 0} (f g : Flat F) : Type 0 where
  pub memories : f.memories ≡ g.memories
  pub variables : f.variables ≡ g.variables
  pub partials : (r s : ℕ) (v : VarCell) → f.partials r s v ≡ g.partials r s v
  pub mail : (s r : ℕ) → f.mail s r ≡ g.mail s r
  pub panes : (k r x : ℕ) → f.panes k r x ≡ g.panes k r x
  pub faults : f.faults ≡ g.faults
  pub output : f.output ≡ g.output
  pub stop : f.stop ≡ g.stop

-- item, rank, places: the begins of a group, and then its ends
abbrev pub closed : ℕ → ℕ → List ℕ → List Step
closed k r xs = begins k r xs ++ ends k r xs

-- each closed group among the steps leaves what its elements leave one after another, whatever there was before
abbrev pub GroupsAreAlone : {F : Type 0} → Setup F → Layout F → List Step → Type 0
GroupsAreAlone {F = F} p l steps =
    (front : List Step) (k r : ℕ) (xs : List ℕ) (rest : List Step) → steps ≡ front ++ (closed k r xs ++ rest)
    → (f : Flat F) → f.stop ≡ None → AreAlike (flat_from p l (closed k r xs) f) (flat_from p l (alone k r xs) f)

-- a group of elements on a rank, by their places
pub record RankGroup : Type 0 where
  pub rank : ℕ
  pub places : List ℕ

-- closed groups of an item, one behind another
abbrev pub all_closed : ℕ → List RankGroup → List Step
all_closed k [] = []
all_closed k (g ∷ gs) = closed k g.rank g.places ++ all_closed k gs

-- the elements of all of them one after another
abbrev pub all_alone : ℕ → List RankGroup → List Step
all_alone k [] = []
all_alone k (g ∷ gs) = alone k g.rank g.places ++ all_alone k gs

-- closed groups of an item among the steps, one behind another, leave what all their elements leave one after another
abbrev pub SeveralAreAlone : {F : Type 0} → Setup F → Layout F → List Step → Type 0
SeveralAreAlone {F = F} p l steps =
    (front : List Step) (k : ℕ) (gs : List RankGroup) (rest : List Step) → steps ≡ front ++ (all_closed k gs ++ rest)
    → (f : Flat F) → f.stop ≡ None → AreAlike (flat_from p l (all_closed k gs) f) (flat_from p l (all_alone k gs) f)
