-- The numbers of what words ask for are in range.
use Rattle.std.proofs.Common.{◌≡◌, ℕ, Bool, true, false, List, [], Option, Some, None, IfSome, Result, Ok, Err, IfOk, codes, inl, inr, subst, refl, ◌<◌, ◌&&◌, nat_lt, if◌then◌else◌}
use Rattle.std.specs.Prelude.{option_map, option_and_then}
use Rattle.std.specs.Str.{bytes_eq}
use Rattle.std.proofs.lemmas.Bool.{ltb-true}
use Rattle.clap.specs.Walk.{first_of}
use Rattle.clap.specs.Simple.{matches_of}
use Rattle.clap.specs.declared.error.kind.ErrorKind.{ErrorKind}
use Rattle.clap.specs.declared.error.kind.ErrorKind.TheVariants as kind
use Rattle.command_words.specs.Words.{Options, ChainOptions, OptionWords, options_of, chain_options_of, runs_nothing}
use Rattle.command_words.specs.Laws.{AreFew, AreWithin, OptionWordsAreWithin}
use Rattle.command_words.proofs.Public.{Holds, Any, any, holds_if, holds_then, holds_map}
use Rattle.tool_words.specs.Words.{TakesOwners, Picture, PlanJob, TellsOwners, Counts, Draws, Grids, Command, OnProgram, OnPlan, OwnWords, Given, command, where_so, earlier_than, has_no_option, has_metis_alone, has_ranks_alone, has_picture_alone, has_grid_alone, has_plain_alone, has_mesh_alone, counted, small_number, scale_by, dimension_by, converted, picture_in, pictured, picked, graphed, planned, taken, owned, by_name, given_in, asked, by_kind, MatchesAre, WordsAreWith, call_in}
use Rattle.tool_words.specs.Ranges.{IsWithin}
use Rattle.tool_words.specs.declared.asked.Asked.{Asked}
use Rattle.command_words.specs.declared.refusals.WordsRefusal.{WordsRefusal}
use Rattle.command_words.specs.declared.refusals.WordsRefusal.TheVariants.{Usage, OutOfMemory}
use Rattle.tool_words.specs.Values.{IsRead, IsInRange}

module _ (law : OptionWordsAreWithin) where
  where_holds : (allowed : Bool) (c : Option Command) → Holds IsWithin c → Holds IsWithin (where_so allowed c)
  where_holds allowed c h = holds_if IsWithin allowed c None h tt

  -- ---- jobs

  picked_holds : (source mesh output file number : Option (List ℕ)) → Holds IsWithin (picked source mesh output file number)
  picked_holds (Some source) (Some mesh) (Some output) (Some file) number = holds_map Any IsWithin _ (earlier_than number) (any (earlier_than number)) (λ n h. tt)
  picked_holds _ _ _ _ number = tt

  graphed_holds : (source mesh map fourth : Option (List ℕ)) → Holds IsWithin (graphed source mesh map fourth)
  graphed_holds (Some source) (Some mesh) (Some map) None = tt
  graphed_holds _ _ _ _ = tt

  planned_holds : (job : PlanJob) (source mesh third : Option (List ℕ)) (w : OptionWords) → Holds IsWithin (planned job source mesh third w)
  planned_holds job (Some source) (Some mesh) None w = by (options_of w) (law.plans w)
    where
      by : (o : Option Options) → IfSome o AreWithin → Holds IsWithin (option_map (λ x. OnPlan job x source mesh) o)
      by None h = tt
      by (Some x) h = h
  planned_holds job _ _ _ w = tt

  taken_holds : (file set : List ℕ) (source mesh third : Option (List ℕ)) (w : OptionWords) → Holds IsWithin (taken file set source mesh third w)
  taken_holds file set (Some source) (Some mesh) None w =
      where_holds (has_ranks_alone w) (option_map (λ o. OnProgram (TakesOwners o.ranks file set) source mesh) (chain_options_of w))
      (by (chain_options_of w) (law.chains w))
    where
      by : (o : Option ChainOptions) → IfSome o (λ (x : ChainOptions). AreFew x.ranks)
          → Holds IsWithin (option_map (λ (x : ChainOptions). OnProgram (TakesOwners x.ranks file set) source mesh) o)
      by None h = tt
      by (Some x) h = h
  taken_holds file set _ _ _ w = tt

  owned_holds : (metis set : Option (List ℕ)) (g : Given) → Holds IsWithin (owned metis set g)
  owned_holds None None g = planned_holds TellsOwners g.first g.second g.third g.planning
  owned_holds (Some file) (Some set) g = taken_holds file set g.first g.second g.third g.planning
  owned_holds _ _ g = tt

  -- with a picture
  picture_holds : (job : Picture → PlanJob) (g : Given) (p : Option Picture)
      → Holds IsWithin (option_and_then (λ x. planned (job x) g.first g.second g.third g.planning) p)
  picture_holds job g None = tt
  picture_holds job g (Some p) = planned_holds (job p) g.first g.second g.third g.planning

  pictured_holds : (job : Picture → PlanJob) (g : Given) → Holds IsWithin (pictured job g)
  pictured_holds job g = picture_holds job g (picture_in g.own)

  positive : (n : ℕ) (b : Bool) → nat_lt 0 n ≡ b → Holds (λ m. 0 < m) (if b then Some n else None)
  positive n true h = ltb-true 0 n h
  positive n false h = tt

  scale_holds : (word : Option (List ℕ)) → Holds (λ n. 0 < n) (scale_by word)
  scale_holds None = tt
  scale_holds (Some word) =
      holds_then Any (λ n. 0 < n) (λ n. if nat_lt 0 n then Some n else None) (small_number word) (any (small_number word))
      (λ n _. positive n (nat_lt 0 n) refl)

  converted_holds : (file second : Option (List ℕ)) (w : OwnWords) → Holds IsWithin (converted file second w)
  converted_holds (Some file) None w =
      holds_then (λ n. 0 < n) IsWithin _ (scale_by w.scale) (scale_holds w.scale)
      (λ n h. holds_map Any IsWithin _ (dimension_by w.dim) (any (dimension_by w.dim)) (λ d _. h))
  converted_holds _ _ w = tt

  jobs_hold : (job : List ℕ) (g : Given) → Holds IsWithin (by_name job g)
  jobs_hold job g =
      holds_if IsWithin (bytes_eq job (codes "pick")) _ _
      (where_holds (has_no_option g) (picked g.first g.second g.third g.fourth g.fifth) (picked_holds g.first g.second g.third g.fourth g.fifth))
      (holds_if IsWithin (bytes_eq job (codes "graph")) _ _
      (where_holds (has_no_option g) (graphed g.first g.second g.third g.fourth) (graphed_holds g.first g.second g.third g.fourth))
      (holds_if IsWithin (bytes_eq job (codes "owners")) _ _
      (where_holds (has_metis_alone g.own) (owned g.own.metis g.own.set g) (owned_holds g.own.metis g.own.set g))
      (holds_if IsWithin (bytes_eq job (codes "stat")) _ _
      (where_holds (has_plain_alone g.own) (counted g) (planned_holds (Counts g.own.plain) g.first g.second g.third g.planning))
      (holds_if IsWithin (bytes_eq job (codes "draw")) _ _
      (where_holds (has_picture_alone g.own) (pictured Draws g) (pictured_holds Draws g))
      (holds_if IsWithin (bytes_eq job (codes "vtk")) _ _
      (where_holds (has_grid_alone g.own) (pictured (λ p. Grids p g.own.output) g) (pictured_holds (λ p. Grids p g.own.output) g))
      (holds_if IsWithin (bytes_eq job (codes "from-gmsh")) _ _
      (where_holds (runs_nothing g.planning && has_mesh_alone g.own) (converted g.first g.second g.own) (converted_holds g.first g.second g.own)) tt))))))

  -- ---- words

  asked_holds : (job : Option (List ℕ)) (g : Given) → Holds IsWithin (asked job g)
  asked_holds None g = tt
  asked_holds (Some job) g = jobs_hold job g

  kinds_hold : (k : ErrorKind) → Holds IsWithin (by_kind k)
  kinds_hold kind.DisplayHelp = tt
  kinds_hold kind.DisplayVersion = tt
  kinds_hold k = tt

  matches_hold : (words : List (List ℕ)) (o : Option Command) → MatchesAre words o → Holds IsWithin o
  matches_hold words o (inl h) =
      subst (Holds IsWithin) h.1 (asked_holds (first_of (codes "JOB") (matches_of command words)) (given_in (matches_of command words)))
  matches_hold words o (inr h) = subst (Holds IsWithin) h.2 (kinds_hold h.0)

  words_hold : (call : Option (List (List ℕ))) (words : List (List ℕ)) (o : Option Command) → WordsAreWith call words o → Holds IsWithin o
  words_hold (Some call) words o h = subst (Holds IsWithin) h tt
  words_hold None words o h = matches_hold words o h

  pub in_range : (words : List (List ℕ)) (r : Result Asked WordsRefusal) → IsRead words r → IfOk r IsInRange
  in_range words (Ok a) h = words_hold (call_in words) words _ h
  in_range words (Err Usage) h = tt
  in_range words (Err OutOfMemory) h = tt
