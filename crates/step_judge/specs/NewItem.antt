-- Items of which no step is taken.
use Rattle.std.specs.Prelude.{ℕ, true, false, List, [], length, replicate}
use Rattle.step_judge.specs.Marks.{Marks, no_marks}
use Rattle.step_judge.specs.Run.{Run}
use Rattle.step_judge.specs.Item.{Item}

-- tasks of these stages, none of them done
abbrev pub fresh_marks : List ℕ → Marks
fresh_marks of = record { of = of; done = replicate (length of) false }

-- messages by sender and receiver, and by rank its places
abbrev pub free_item : List ℕ → List ℕ → List Run → Item
free_item senders receivers runs =
    record { free = true; joined = false; sends = fresh_marks senders; receipts = fresh_marks receivers; ranks = runs }

-- one join
abbrev pub join_item : Item
join_item = record { free = false; joined = false; sends = no_marks; receipts = no_marks; ranks = [] }
