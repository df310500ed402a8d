-- What is held under a name, or why it is not taken.
use Rattle.std.proofs.Common.{◌≤◌, ◌<◌, ◌⊎◌, inl, inr, ℕ, suc, List, length, Option, Some, None, Result, Ok, Err, refl}
use Rattle.std.proofs.lemmas.Bool.{cases_lt}
use Rattle.command_words.specs.Refusal.{Limit, Refusal, CannotRead, BeyondLimit}
use Rattle.command_words.specs.Lines.{most}
use Rattle.answers.specs.Judgements.{IsHeld}

pub held_exists : (l : Limit) (name : List ℕ) (o : Option (List ℕ)) → ¬ ((r : Result (List ℕ) Refusal) → ¬ IsHeld l name o r)
held_exists l name None none = none (Err (CannotRead name)) refl
held_exists l name (Some held) none = by_size (cases_lt (most l) (length held))
  where
    by_size : (most l < length held) ⊎ (length held ≤ most l) → ⊥
    by_size (inl lt) = none (Err (BeyondLimit l (suc (most l)))) (refl, lt)
    by_size (inr le) = none (Ok held) (refl, le)

pub held_within : (l : Limit) (name : List ℕ) (o : Option (List ℕ)) (bytes : List ℕ) → IsHeld l name o (Ok bytes) → length bytes ≤ most l
held_within l name None bytes h = absurd h
held_within l name (Some held) bytes h = rw h.0 h.1
