-- The program over files that are held, bound again.
use Rattle.std.proofs.Common.{◌≡◌, ℕ, List, [], Option, Some, subst}
use Rattle.op_outside.specs.Outside.{Files}
use Rattle.job_inputs.specs.Seen.{nothing_seen}
use Rattle.job_inputs.specs.Readings.{Readings, readings_of, Finds}
use Rattle.job_inputs.proofs.Public.{nothing_is_seen}
use Rattle.command_words.specs.Refusal.{Refusal}
use Rattle.command_words.specs.declared.answer_lines.refusals.Halt.{Halt}
use Rattle.command_words.specs.declared.answer_lines.refusals.Halt.TheVariants.{Refused}
use Rattle.command_words.specs.declared.answer_lines.refusals.Refusal.{Refusal as CallRefusal}
use Rattle.command_words.specs.Halts.{refusal_of, StopsWhere}
use Rattle.job_inputs.specs.Chains.{HaltsOver}

module _ (files : Files) (names : List (List ℕ)) (kept : Readings) (is : kept ≡ readings_of names) where
  -- what is found over the files that are told is so of them
  found : (new : Readings) (K : Files → Type 0) → Finds (Some files) kept new K → K files
  found new K f =
      let k = subst (λ rs. Finds (Some files) rs new K) is f nothing_seen (nothing_is_seen (Some files) names) in
      k.all files k.seen.sight.so

  -- and over those of a shelf that has the same files
  pub found_in : (lent : Files) → lent ≡ files → (new : Readings) (K : Files → Type 0) → Finds (Some lent) kept new K → K files
  found_in lent same new K f = found new K (subst (λ fs. Finds (Some fs) kept new K) same f)

-- what is so of a halt that is a refusal is so of the refusal
pub refused_by : (P : Refusal → Type 0) (h : Halt) (r : CallRefusal) → h ≡ Refused r → StopsWhere P h → P (refusal_of r)
refused_by P h r is s = subst (StopsWhere P) is s

-- the same over files that are told
pub refused_over : (told : Option Files) (rs : Readings) (J : Files → Refusal → Type 0) (rose : Type 0) (h : Halt) (r : CallRefusal)
    → h ≡ Refused r → HaltsOver told rs J rose h → Finds told rs [] (λ files. J files (refusal_of r))
refused_over told rs J rose h r is s = subst (HaltsOver told rs J rose) is s
