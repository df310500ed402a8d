-- The steps of a plan, and which of them are taken.
use Rattle.std.specs.Prelude.{◌≡◌, ◌<◌, ◌/◌, ◌||◌, ℕ, Bool, true, false, List, [], get_or, length}
use Rattle.schedule_steps.specs.Outline.{Outline}
use Rattle.schedule_steps.specs.declared.step.Step.{Step}
use Rattle.schedule_steps.specs.declared.step.Step.TheVariants.{Send, Recv, Begin, End, Join}
use Rattle.schedule_steps.specs.Steps.{IsStep, Earlier, same}
use Rattle.schedule_steps.specs.Alike.{AlikeOutlines}
use Rattle.schedule_steps.specs.Judged.{is_step, is_earlier}
use Rattle.step_judge.specs.Marks.{no_marks}
use Rattle.step_judge.specs.Run.{inner, begun_at, ended_at, core_at}
use Rattle.step_judge.specs.Item.{Item, run_at, place_of, linked, sent, received, Complete}

-- a plan's items on so many ranks, with the steps that are taken
pub record Marked : Type 0 where
  pub ranks : ℕ
  pub items : List Item

-- an item that isn't there
abbrev pub no_item : Item
no_item = record { free = false; joined = true; sends = no_marks; receipts = no_marks; ranks = [] }

-- an item by its number
abbrev pub item_at : Marked → ℕ → Item
item_at v k = get_or v.items k no_item

-- what the steps depend on
abbrev pub outline_of : Marked → Outline
outline_of v = record {
  items = length v.items;
  ranks = v.ranks;
  is_free = λ k. (item_at v k).free;
  sends = λ k s r. linked (item_at v k) s r;
  count = λ k r. length (run_at (item_at v k) r).begun;
  executes = λ k r x. true;
  is_core = λ k r x. core_at (run_at (item_at v k) r) x;
  block = λ k r x. x / (run_at (item_at v k) r).size;
  block_colour = λ k r b. get_or (run_at (item_at v k) r).colours.of b 0;
  colour = λ k r x. inner (run_at (item_at v k) r) x;
}

-- which steps are taken
abbrev pub taken : Marked → Step → Bool
taken v (Send k s r) = sent (item_at v k) s r
taken v (Recv k r s) = received (item_at v k) s r
taken v (Begin k r p) = begun_at (run_at (item_at v k) r) p
taken v (End k r p) = ended_at (run_at (item_at v k) r) p
taken v (Join k) = (item_at v k).joined

-- behind the step the plan is the same, with its messages in the same places, and one step more is taken
pub record TakesOne (v w : Marked) (s : Step) : Type 0 where
  pub ranks : w.ranks ≡ v.ranks
  pub alike : AlikeOutlines (outline_of w) (outline_of v)
  pub steps : (t : Step) → is_step (outline_of w) t ≡ is_step (outline_of v) t
  pub before : (t u : Step) → is_earlier (outline_of w) t u ≡ is_earlier (outline_of v) t u
  pub marks : (t : Step) → taken w t ≡ (same t s || taken v t)
  pub pairs : (k s r : ℕ) → place_of (item_at w k) s r ≡ place_of (item_at v k) s r

-- each earlier step is taken
abbrev pub IsReady : Marked → Step → Type 0
IsReady v s = (t : Step) → IsStep (outline_of v) t → Earlier (outline_of v) t s → taken v t ≡ true

-- each step of the rank before the item is taken
abbrev pub Stands : Marked → ℕ → ℕ → Type 0
Stands v x k = (i : ℕ) → i < k → Complete (item_at v i) x
