-- How many chains a program has, and how many messages they send.
use Rattle.std.specs.Prelude.{◌≤◌, ◌*◌, ℕ, zero, suc, ◌+◌, Bool, ◌&&◌, not, length}
use Rattle.lemmas.specs.Below.{any_below, count_below}
use Rattle.mesh_decl.specs.declared.owners.Owners.{Owners}
use Rattle.mesh_decl.specs.Mesh.{dat_count, set_size, dat_set}
use Rattle.bound_program.specs.Values.{BoundValue}
use Rattle.run_model.specs.Programs.{program_of}
use Rattle.chain_model.specs.Chains.{begins}
use Rattle.chain_model.specs.Slices.{owns_pair, needs}

-- the sum of f at the numbers below n
abbrev pub sum_below : ℕ → (ℕ → ℕ) → ℕ
sum_below zero f = 0
sum_below (suc n) f = sum_below n f + f n

module _ (b : BoundValue) where
  -- a chain begins at item k
  abbrev pub begins_at : ℕ → Bool
  begins_at k = begins (program_of b).kind k

  -- how many chains a program has
  abbrev pub chain_count : ℕ
  chain_count = count_below (length b.trace) begins_at

  -- some pair of a dat and an element of its set passes
  abbrev pub some_pair : (ℕ → ℕ → Bool) → Bool
  some_pair test = any_below (dat_count b.mesh) (λ d. any_below (set_size b.mesh (dat_set b.mesh d)) (test d))

  module _ (o : Owners) where
    -- s sends to r at the start of the chain that begins at item k: r needs a pair that s owns and r doesn't
    abbrev pub sends : ℕ → ℕ → ℕ → Bool
    sends k s r = begins_at k && some_pair (λ d y. needs b o k r d y && (owns_pair b o s d y && not (owns_pair b o r d y)))

    -- all messages, by item, sender and receiver
    abbrev pub message_count : ℕ
    message_count = sum_below (length b.trace) (λ k. sum_below o.ranks (λ s. count_below o.ranks (sends k s)))

-- at most one message for each chain and two ranks
abbrev pub MessagesAreFew : Type 0
MessagesAreFew = (b : BoundValue) (o : Owners) → message_count b o ≤ chain_count b * (o.ranks * o.ranks)
