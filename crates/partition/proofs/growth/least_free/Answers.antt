use Rattle.std.proofs.Common.{◌≡◌, ℕ, ◌<◌, ◌≤◌, Bool, true, false, not, List, length, get_or, arith, ⊎_elim}
use Rattle.std.specs.List.{count_by}
use Rattle.std.proofs.lemmas.Bool.{cases_lt}
use Rattle.renumber.proofs.Public.{none_left}
use Rattle.partition.proofs.growth.least_free.Goals as goal

-- where one isn't marked, not all are
within : (seen : List Bool) (k : ℕ) → 0 < count_by (λ b. not b) seen → ((y : ℕ) → y < k → get_or seen y false ≡ true) → k < length seen
within seen k some before = ⊎_elim
    (λ (l : k < length seen). l)
    (λ (l : length seen ≤ k). absurd (let z : count_by (λ b. not b) seen ≡ 0 = none_left seen (λ y ly. before y (omega (arith, ly, l))) in omega (arith, z, some)))
    (cases_lt k (length seen))

pub bounds-seen-least : goal.bounds-seen-least
bounds-seen-least c = within c.args.seen.now c.loop-least.least c.requires.some c.loop-least.invariant

pub returns-clause-within : goal.returns-clause-within
returns-clause-within c = within c.args.seen.now c.loop-least.least c.requires.some c.loop-least.invariant
