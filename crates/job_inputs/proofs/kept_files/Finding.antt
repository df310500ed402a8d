-- What parts of a call find, put together.
use Rattle.std.proofs.Common.{◌≡◌, ℕ, Bool, true, false, List, [], ◌∷◌, Option, None, Some, option_map, IfSome, refl}
use Rattle.std.specs.Str.{bytes_eq}
use Rattle.std.specs.Prelude.{if◌then◌else◌}
use Rattle.op_outside.specs.Outside.{Files}
use Rattle.job_inputs.specs.Seen.{nothing_seen, Agree}
use Rattle.job_inputs.specs.Readings.{Readings, readings_of, kept_for, IsSeen, Finds}
use Rattle.job_inputs.proofs.kept_files.Seeing.{agree_before, grows_same, grows_on}

-- where nothing was seen, all files are as they were seen, and nothing is kept
pub nothing_is_seen : (told : Option Files) (names : List (List ℕ)) → IsSeen told (readings_of names) nothing_seen
nothing_is_seen told names = record { sight = record { so = by told; there = λ e name. tt }; keeps = λ name. none names name }
  where
    by : (t : Option Files) → IfSome t (Agree nothing_seen)
    by None = tt
    by (Some files) = λ name. tt

    kept : (ns : List (List ℕ)) (name : List ℕ) → Option (Option (List ℕ))
    kept ns name = kept_for (readings_of ns) name

    both : (x : Bool) (o : Option (Option (List ℕ))) → IfSome o (λ bytes. None ≡ option_map Some bytes) → IfSome (if x then Some None else o) (λ bytes. None ≡ option_map Some bytes)
    both true o h = refl
    both false o h = h

    none : (ns : List (List ℕ)) (name : List ℕ) → IfSome (kept_for (readings_of ns) name) (λ bytes. None ≡ option_map Some bytes)
    none [] name = tt
    none (n ∷ ns) name = both (bytes_eq n name) (kept_for (readings_of ns) name) (none ns name)

module _ (told : Option Files) where
  -- one part behind another
  pub finds_on : (old mid new : Readings) (K L : Files → Type 0) → Finds told old mid K → Finds told mid new L → Finds told old new (λ files. K files × L files)
  finds_on old mid new K L f g before seen =
      let a = f before seen in
      let b = g a.after a.seen in
      record {
        after = b.after;
        grows = grows_on before a.after b.after a.grows b.grows;
        seen = b.seen;
        all = λ files agree. (a.all files (agree_before a.after b.after files b.grows agree), b.all files agree);
      }

  pub finds_weaker : (old new : Readings) (K L : Files → Type 0) → ((files : Files) → K files → L files) → Finds told old new K → Finds told old new L
  finds_weaker old new K L step f before seen =
      let a = f before seen in
      record { after = a.after; grows = a.grows; seen = a.seen; all = λ files agree. step files (a.all files agree) }

  -- behind the last part no reading is to come
  pub finds_last : (old new : Readings) (K : Files → Type 0) → Finds told old new K → Finds told old [] K
  finds_last old new K f before seen =
      let a = f before seen in
      record { after = a.after; grows = a.grows; seen = record { sight = a.seen.sight; keeps = λ name. tt }; all = a.all }

  -- a part that reads nothing
  pub finds_always : (rs : Readings) (K : Files → Type 0) → ((files : Files) → K files) → Finds told rs rs K
  finds_always rs K always before seen = record { after = before; grows = grows_same before; seen = seen; all = λ files agree. always files }
