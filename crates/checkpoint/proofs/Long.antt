-- How many items a head has.
use Rattle.std.proofs.Common.{◌≡◌, ◌≤◌, ◌+◌, ℕ, length, take, drop, arith, length-append}
use Rattle.std.proofs.lemmas.List.{length-take-le, drop_at}
use Rattle.bound_program.specs.Values.{BoundValue}
use Rattle.checkpoint.specs.Cut.{head, says_state}

pub head_long : (b : BoundValue) (k : ℕ) → k ≤ length b.trace → k ≤ length (head b k).trace
head_long b k le =
    let long : length (take k b.trace) ≡ k = length-take-le k b.trace le in
    let all : length (head b k).trace ≡ length (take k b.trace) + length (says_state b k) = length-append (take k b.trace) (says_state b k) in
    omega (arith, long, all)

-- behind the cut stands the state
pub head_left : (b : BoundValue) (k : ℕ) → k ≤ length b.trace → drop k (head b k).trace ≡ says_state b k
head_left b k le = drop_at (take k b.trace) (says_state b k) k (length-take-le k b.trace le)
