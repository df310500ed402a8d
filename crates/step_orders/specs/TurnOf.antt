-- What a turn takes, by what is left of each rank, which sends are taken, the number drawn and the next join.
use Rattle.std.specs.Prelude.{ℕ, Bool, cond, nat_lt, List, [], ◌∷◌}
use Rattle.schedule_steps.specs.declared.step.Step.{Step}
use Rattle.schedule_steps.specs.Drawn.{numbers, is_early, picked}
use Rattle.step_orders.specs.declared.drawn.turns.Turn.{Turn}
use Rattle.step_orders.specs.declared.drawn.turns.Turn.TheVariants.{Over, Join, Rank}
use Rattle.step_orders.specs.Rests.{can_go}

-- where some rank's next step is of an item before the join, one of those that can go, and else the join, if there is one
abbrev pub turn_among : List ℕ → List ℕ → ℕ → ℕ → ℕ → Turn
turn_among [] going number join items = cond (nat_lt join items) Join Over
turn_among (r ∷ early) going number join items = Rank (picked number going)

-- among so many ranks
abbrev pub turn_of : (ℕ → List Step) → (Step → Bool) → ℕ → ℕ → ℕ → ℕ → Turn
turn_of rest m number join items ranks =
    turn_among (numbers (λ r. is_early join (rest r)) ranks) (numbers (λ r. can_go m join (rest r)) ranks) number join items
