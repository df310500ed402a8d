-- Senders and receivers of pairs.
use Rattle.std.specs.Prelude.{ℕ, List, map}
use Rattle.loop_plan.specs.declared.types.Pair.{Pair}

-- the senders of pairs
abbrev pub froms : List Pair → List ℕ
froms l = map (λ (p : Pair). p.from) l

-- the receivers of pairs
abbrev pub tos : List Pair → List ℕ
tos l = map (λ (p : Pair). p.to) l
