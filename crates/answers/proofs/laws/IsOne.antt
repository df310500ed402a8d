-- Judgements that have one outcome.
use Rattle.std.proofs.Common.{◌≡◌, ℕ, List, Option, Some, None, Result, Ok, Err, sym, ◌∙◌, arith}
use Rattle.command_words.specs.Refusal.{Limit, Refusal}
use Rattle.answers.specs.Judgements.{IsHeld}

-- a judgement has one outcome
pub record IsOne {A : Type 0} (J : Result A Refusal → Type 0) : Type 0 where
  pub refusals : (r s : Refusal) → J (Err r) → J (Err s) → r ≡ s
  pub apart : (r : Refusal) (x : A) → J (Err r) → J (Ok x) → ⊥
  pub values : (x y : A) → J (Ok x) → J (Ok y) → x ≡ y

pub held_is_one : (l : Limit) (name : List ℕ) (o : Option (List ℕ)) → IsOne (IsHeld l name o)
held_is_one l name None = record { refusals = λ r s h k. h ∙ sym k; apart = λ r x h k. k; values = λ x y h k. absurd h }
held_is_one l name (Some held) = record {
  refusals = λ r s h k. h.0 ∙ sym k.0;
  apart = λ r x h k. let a = h.1 in let b = k.1 in omega (arith, a, b);
  values = λ x y h k. h.0 ∙ sym k.0;
}

-- what is told outright
pub told_is_one : {A : Type 0} (told : A) → IsOne (λ (r : Result A Refusal). r ≡ Ok told)
told_is_one told = record {
  refusals = λ r s h k. let bad : ⊥ = cc in absurd bad;
  apart = λ r x h k. cc;
  values = λ x y h k. let e : Ok x ≡ Ok y = h ∙ sym k in cc;
}
