-- The loop that a fault is in, and in which turn of it.
use Rattle.std.specs.Prelude.{ℕ, ◌+◌, Bool, false, nat_eq, List, [], ◌++◌, take, Option, Some, None, option_and_then, slice_get, codes}
use Rattle.std.specs.Fmt.{decimal}
use Rattle.std.specs.List.{count_by, starts_with}
use Rattle.kernel_model.specs.declared.types.kernels.RKernel.{RKernel}
use Rattle.bound_program.specs.Values.{BoundValue, SiteValue, ItemValue, Free, Reduce, Ordered, Host}
use Rattle.explanations.specs.Words.{line_words, number_at}
use Rattle.explanations.specs.Placed.{placed}

-- the lines of faults
abbrev pub tells_fault : List ℕ → Bool
tells_fault line = starts_with nat_eq line (codes "op2: fault ")

-- the item that the line of a fault names, `op2: fault item K ..`
abbrev pub item_in : (line : List ℕ) → Option ℕ
item_in line = number_at (line_words line) 3

-- the loop that an item runs, by its number in the program
abbrev pub loop_of : ItemValue → Option ℕ
loop_of (Free s) = Some s
loop_of (Reduce s) = None
loop_of (Ordered s) = Some s
loop_of (Host a) = None

-- an item runs this loop
abbrev pub runs : (site : ℕ) → ItemValue → Bool
runs site (Free s) = nat_eq s site
runs site (Reduce s) = false
runs site (Ordered s) = nat_eq s site
runs site (Host a) = false

-- the turn of the loop that this item is, from 1: one more than the items before it that run the loop
abbrev pub turn_of : BoundValue → (site item : ℕ) → ℕ
turn_of b site item = count_by (runs site) (take item b.trace) + 1

-- the name of a kernel, if it is there
abbrev pub name_of : Option RKernel → List ℕ
name_of None = []
name_of (Some k) = k.name

-- an item as the turn of a loop, if it is there: both numbers, the name of its kernel, and its line of the source
abbrev pub shown_turn : BoundValue → (source : List ℕ) → (item site : ℕ) → Option SiteValue → List ℕ
shown_turn b source item site None = []
shown_turn b source item site (Some s) =
    codes "item " ++ decimal item ++ codes " is turn " ++ decimal (turn_of b site item) ++ codes " of loop "
    ++ name_of (slice_get b.kernels s.kernel) ++ placed source s.at

-- the loop of an item, if there is one
abbrev pub shown_loop : BoundValue → (source : List ℕ) → (item : ℕ) → Option ℕ → List ℕ
shown_loop b source item None = []
shown_loop b source item (Some site) = shown_turn b source item site (slice_get b.sites site)

-- what an item is
abbrev pub shown_item : BoundValue → (source : List ℕ) → Option ℕ → List ℕ
shown_item b source None = []
shown_item b source (Some item) = shown_loop b source item (option_and_then loop_of (slice_get b.trace item))
