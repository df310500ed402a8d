-- What the options that words ask for keep.
use Rattle.std.specs.Prelude.{◌≡◌, ℕ, ◌<◌, ◌≤◌, false, List, Ok, IfSome}
use Rattle.command_words.specs.declared.limits.TheConstants.{MAX_RANKS, MAX_BLOCK, MAX_WORKERS}
use Rattle.command_words.specs.Words.{PlanJob, Blocks, OfSize, AsPlanned, Before, Options, ChainOptions, Input, Command, OnPlan, OnChains, OptionWords, options_of, chain_options_of, WordsAre}

-- there are 1 to 64 ranks
pub record AreFew (ranks : ℕ) : Type 0 where
  pub some : 0 < ranks
  pub few : ranks ≤ MAX_RANKS

-- a block has 1 to 65,536 places
abbrev pub HaveFewPlaces : Blocks → Type 0
HaveFewPlaces (OfSize places) = (0 < places) × (places ≤ MAX_BLOCK)
HaveFewPlaces (AsPlanned name) = Unit {0}

-- there are 1 to 64 ranks, a block has 1 to 65,536 places, and there are 1 to 64 workers
pub record AreWithin (o : Options) : Type 0 where
  pub ranks : AreFew o.ranks
  pub places : HaveFewPlaces o.blocks
  pub some_workers : 0 < o.workers
  pub few_workers : o.workers ≤ MAX_WORKERS

-- the numbers of a command are in range
abbrev pub IsWithin : Command → Type 0
IsWithin (OnPlan j o input) = AreWithin o
IsWithin (OnChains j o input) = AreFew o.ranks
IsWithin c = Unit {0}

-- those of the commands that words ask for are
abbrev pub OptionsAreWithin : Type 0
OptionsAreWithin = (words : List (List ℕ)) (c : Command) → WordsAre words (Ok c) → IsWithin c

-- those of the options that their values give are
pub record OptionWordsAreWithin : Type 0 where
  pub plans : (w : OptionWords) → IfSome (options_of w) AreWithin
  pub chains : (w : OptionWords) → IfSome (chain_options_of w) (λ (o : ChainOptions). AreFew o.ranks)

-- where the items before one run, no dump is asked for
abbrev pub HeadsAreNotDumped : Type 0
HeadsAreNotDumped =
    (words : List (List ℕ)) (j : PlanJob) (o : Options) (input : Input) (item : ℕ)
    → WordsAre words (Ok (OnPlan j o input)) → o.stretch ≡ Before item → o.dumps ≡ false
