-- What is left of each rank, as a drawn order keeps it: the rank's next step, and what comes behind it.
use Rattle.std.specs.Prelude.{ℕ, Bool, false, ◌&&◌, not, nat_lt, List, [], ◌∷◌, Option, Some, None, Vec, map, slice_index, slice_index_or}
use Rattle.std.specs.declared.alloc.Global.{Global}
use Rattle.schedule_steps.specs.declared.step.Step.{Step}
use Rattle.schedule_steps.specs.declared.step.Step.TheVariants.{Send}
use Rattle.schedule_steps.specs.Drawn.{is_early, waits}

-- of one rank
abbrev pub rest_of : Option Step → List Step → List Step
rest_of None l = []
rest_of (Some s) l = s ∷ l

-- by rank
abbrev pub rests : List (Option Step) → List (List Step) → ℕ → List Step
rests heads tails r = rest_of (slice_index_or heads r None) (slice_index_or tails r [])

-- by sender and receiver, an item behind the last whose message is sent
abbrev pub sent_below : List (Vec ℕ Global) → ℕ → ℕ → ℕ
sent_below rows s r = slice_index (slice_index_or (map (λ (v : Vec ℕ Global). v.items) rows) s []) r

-- the step is a send that is taken
abbrev pub is_sent : (ℕ → ℕ → ℕ) → Step → Bool
is_sent below (Send k s r) = nat_lt k (below s r)
is_sent below t = false

-- the rank's next step is of an item before k, and needn't wait
abbrev pub can_go : (Step → Bool) → ℕ → List Step → Bool
can_go m k l = is_early k l && not (waits m l)
