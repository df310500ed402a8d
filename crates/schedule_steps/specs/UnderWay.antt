-- What a list of steps leaves open and under way.
use Rattle.std.specs.Prelude.{ℕ, Bool, cond, ◌&&◌, ◌==◌, not, List, [], ◌∷◌, ◌++◌}
use Rattle.schedule_steps.specs.declared.step.Step.{Step}
use Rattle.schedule_steps.specs.declared.step.Step.TheVariants.{Send, Recv, Begin, End}
use Rattle.schedule_steps.specs.Steps.{has}

-- item, rank, element: it has begun and not ended
abbrev pub is_open : List Step → ℕ → ℕ → ℕ → Bool
is_open l k r e = has l (Begin k r e) && not (has l (End k r e))

-- a queue without its oldest entry
abbrev pub without_oldest : List ℕ → List ℕ
without_oldest [] = []
without_oldest (k ∷ q) = q

-- the items of the messages from s to r that are under way, the oldest first, after one more step
abbrev pub queue_step : ℕ → ℕ → Step → List ℕ → List ℕ
queue_step s r (Send k a b) q = cond ((a == s) && (b == r)) (q ++ (k ∷ [])) q
queue_step s r (Recv k b a) q = cond ((a == s) && (b == r)) (without_oldest q) q
queue_step s r _ q = q

-- after all steps of the list, where q was under way before
abbrev pub queue_after : ℕ → ℕ → List ℕ → List Step → List ℕ
queue_after s r q [] = q
queue_after s r q (t ∷ l) = queue_after s r (queue_step s r t q) l
