-- What the reading of a file finds, as its judgement.
use Rattle.std.proofs.Common.{◌≡◌, ◌<◌, ◌≤◌, ℕ, suc, arith, List, [], ◌∷◌, length, Option, None, Some, IsSomeAnd, Ok, Err, refl, ap, sym, subst}
use Rattle.std.specs.List.{Contains}
use Rattle.std.proofs.lemmas.Slice.Eq.{bytes_eq-Decides}
use Rattle.op_outside.specs.Outside.{Files}
use Rattle.job_inputs.specs.Seen.{Seen}
use Rattle.job_inputs.specs.Readings.{Readings, names_of, AreNext, IsSeen, Finds, IsUnseen}
use Rattle.job_inputs.proofs.kept_files.Seeing.{grows_same}
use Rattle.job_inputs.proofs.kept_files.Finding.{finds_weaker}
use Rattle.command_words.specs.Refusal.{Limit, Refusal, CannotRead, BeyondLimit}
use Rattle.command_words.specs.Lines.{most}
use Rattle.answers.specs.Judgements.{IsHeld}
use Rattle.answers.specs.Answers.{without}
use Rattle.job_inputs.specs.Chains.{Misses}

contains_first : (n : List ℕ) (ns : List (List ℕ)) → Contains (n ∷ ns) n
contains_first n ns = (0, omega arith, refl)

held_large : (limit : Limit) (name : List ℕ) (o : Option (List ℕ)) (size : ℕ) → size ≡ suc (most limit)
    → IsSomeAnd o (λ bytes. most limit < length bytes)
    → IsHeld limit name o (Err (BeyondLimit limit size))
held_large limit name None size e h = absurd h
held_large limit name (Some bytes) size e h = (ap (BeyondLimit limit) e, h)

module _ (told : Option Files) (rose : Type 0) (limit : Limit) (name : List ℕ) where
  abbrev Refuses : Files → Refusal → Type 0
  Refuses files r = IsHeld limit name (files name) (Err r)

  pub file_read : (old new : Readings) (v : List ℕ) → length v ≤ most limit → Finds told old new (λ files. files name ≡ Some v)
      → Finds told old new (λ files. IsHeld limit name (files name) (Ok v))
  file_read old new v fits found =
      finds_weaker told old new (λ files. files name ≡ Some v) (λ files. IsHeld limit name (files name) (Ok v))
      (λ files e. subst (λ o. IsHeld limit name o (Ok v)) (sym e) (refl, fits)) found

  pub file_missing : (rs : Readings) → Finds told rs [] (λ files. files name ≡ None) → Finds told rs [] (λ files. Refuses files (CannotRead name))
  file_missing rs found =
      finds_weaker told rs [] (λ files. files name ≡ None) (λ files. Refuses files (CannotRead name))
      (λ files e. subst (λ o. IsHeld limit name o (Err (CannotRead name))) (sym e) refl) found

  pub file_large : (rs : Readings) (size : ℕ) → size ≡ suc (most limit) → Finds told rs [] (λ files. IsSomeAnd (files name) (λ bytes. most limit < length bytes))
      → Finds told rs [] (λ files. Refuses files (BeyondLimit limit size))
  file_large rs size e found =
      finds_weaker told rs [] (λ files. IsSomeAnd (files name) (λ bytes. most limit < length bytes)) (λ files. Refuses files (BeyondLimit limit size))
      (λ files h. held_large limit name (files name) size e h) found

  pub file_unread : (rs : Readings) → rose → AreNext (name ∷ []) rs → IsUnseen told rs name
      → rose × Contains (names_of rs) name × ((before : Seen) → IsSeen told rs before → Misses told before name (λ files. Refuses files (CannotRead name)))
  file_unread rs rises next unseen = (rises, subst (λ ns. Contains ns name) (sym next.1) (contains_first name next.0), misses)
    where
      missing : (files : Files) → Refuses (without name files) (CannotRead name)
      missing files = rw ((bytes_eq-Decides name name).1 refl) refl

      misses : (before : Seen) → IsSeen told rs before → Misses told before name (λ files. Refuses files (CannotRead name))
      misses before seen = record {
        after = before;
        grows = grows_same before;
        sight = seen.sight;
        unseen = unseen before seen;
        all = λ files agree. missing files;
      }
