-- The tests by which a step is judged in its turn.
use Rattle.std.specs.Prelude.{ℕ, Bool, true, false, cond, ◌&&◌, ◌||◌, ◌==◌, nat_lt, not, List, [], ◌∷◌, Option, Some, None, is_none}
use Rattle.schedule_steps.specs.Outline.{Outline, runs, by_colour}
use Rattle.schedule_steps.specs.declared.step.Step.{Step}
use Rattle.schedule_steps.specs.declared.step.Step.TheVariants.{Send, Recv, Begin, End, Join}
use Rattle.schedule_steps.specs.Steps.{item, same3}
use Rattle.schedule_steps.specs.Turns.{marked, nothing_taken}
use Rattle.schedule_steps.specs.Standard.{standard}

-- the step is one of the plan's
abbrev pub is_step : Outline → Step → Bool
is_step o (Send k s r) = nat_lt k o.items && (o.is_free k && (nat_lt s o.ranks && (nat_lt r o.ranks && o.sends k s r)))
is_step o (Recv k r s) = nat_lt k o.items && (o.is_free k && (nat_lt s o.ranks && (nat_lt r o.ranks && o.sends k s r)))
is_step o (Begin k r e) = nat_lt k o.items && (o.is_free k && (nat_lt r o.ranks && runs o k r e))
is_step o (End k r e) = nat_lt k o.items && (o.is_free k && (nat_lt r o.ranks && runs o k r e))
is_step o (Join k) = nat_lt k o.items && not (o.is_free k)

-- the rank of a step; a join is of every rank
abbrev pub rank_of : Step → Option ℕ
rank_of (Send k s r) = Some s
rank_of (Recv k r s) = Some r
rank_of (Begin k r e) = Some r
rank_of (End k r e) = Some r
rank_of (Join k) = None

-- some rank has both steps
abbrev pub share_rank : Option ℕ → Option ℕ → Bool
share_rank (Some a) (Some b) = a == b
share_rank _ _ = true

-- the first step is earlier than the second by a rule on the steps of one item
abbrev pub is_earlier_in_item : Outline → Step → Step → Bool
is_earlier_in_item o (Send k s r) (Recv j b a) = same3 k s r j a b
is_earlier_in_item o (Send k s r) (Begin j a e) = (k == j) && (s == a)
is_earlier_in_item o (Recv k r s) (Begin j a e) = (k == j) && ((r == a) && not (o.is_core k r e))
is_earlier_in_item o (Begin k r e) (End j a f) = same3 k r e j a f
is_earlier_in_item o (End k r e) (Begin j a f) = (k == j) && ((r == a) && by_colour o k r e f)
is_earlier_in_item o _ _ = false

-- the first step has to come before the second
abbrev pub is_earlier : Outline → Step → Step → Bool
is_earlier o t s = (nat_lt (item t) (item s) && share_rank (rank_of t) (rank_of s)) || is_earlier_in_item o t s

-- the first step of the list that meets the test
abbrev pub first_of : (Step → Bool) → List Step → Option Step
first_of f [] = None
first_of f (s ∷ l) = cond (f s) (Some s) (first_of f l)

-- the least step, in standard order, that is earlier than s and not taken
abbrev pub missing : Outline → (Step → Bool) → Step → Option Step
missing o m s = first_of (λ t. is_earlier o t s && not (m t)) (standard o 1)

-- the step may be taken now
abbrev pub may_take : Outline → (Step → Bool) → Step → Bool
may_take o m s = is_step o s && (not (m s) && is_none (missing o m s))

-- the least step, in standard order, that is not taken
abbrev pub left_over : Outline → (Step → Bool) → Option Step
left_over o m = first_of (λ t. not (m t)) (standard o 1)

-- each step of the list may be taken in its turn, and none of the plan is left
abbrev pub takes_all : Outline → (Step → Bool) → List Step → Bool
takes_all o m [] = is_none (left_over o m)
takes_all o m (s ∷ l) = may_take o m s && takes_all o (marked s m) l

-- the list is accepted under all rules
abbrev pub is_accepted : Outline → List Step → Bool
is_accepted o l = takes_all o nothing_taken l
