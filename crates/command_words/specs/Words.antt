-- The words of the command line, by `clap`'s own model of the command: job by job what they ask for.
use Rattle.std.specs.Prelude.{◌≡◌, ℕ, Bool, not, ◌&&◌, ◌||◌, List, [], ◌∷◌, Option, Some, None, Result, Ok, Err, codes, if◌then◌else◌, option_and_then, option_map, is_some}
use Rattle.std.specs.Str.{bytes_eq}
use Rattle.clap.specs.Walk.{Row, first_of}
use Rattle.clap.specs.Simple.{matches_of}
use Rattle.clap.specs.Kinds.{Kinds}
use Rattle.clap.specs.Faults.{fault_of}
use Rattle.clap.specs.declared.error.kind.ErrorKind.TheVariants as kind
use Rattle.mesh_gen.specs.declared.places.TheConstants.{MAX_SIDE}
use Rattle.command_words.specs.Refusal.{Refusal, Usage}
pub use Rattle.command_words.specs.Requests.{PlanJob, Check, ShowsPlan, ShowsSchedule, RunsPlan, Parting, ByRule, ByFile}
pub use Rattle.command_words.specs.Requests.{Schedule, Standard, Drawn, Written, Stretch, Whole, Before, From, Blocks, OfSize, AsPlanned}
pub use Rattle.command_words.specs.Requests.{Options, group_of, ChainJob, CountsChains, RunsChains, ChainOptions, Input, InFiles, OfSample}
pub use Rattle.command_words.specs.Requests.{Command, OnPlan, OnChains, Converts, Translates, Restores, ShowsUsage, ShowsVersion}
pub use Rattle.command_words.specs.Requests.{names_from, names_before, names_by, names_in_blocks, names_at, names_of}
pub use Rattle.command_words.specs.CommandRules.{positional, option, flag, versioned, with_rules, rules, command}
pub use Rattle.command_words.specs.OptionValues.{OptionWords, is_set, options_in, is_unplanned, runs_nothing, number_to, number_or, form_of}
pub use Rattle.command_words.specs.OptionValues.{behind, rule_of, parting_of, seed_of, schedule_of, blocks_of, item_of, stretch_of}
pub use Rattle.command_words.specs.OptionValues.{options_with, options_of, chain_options_of}

-- ---- jobs

-- a job on the plan of a program over a mesh, with a plan's options
abbrev pub plans : PlanJob → Input → OptionWords → Option Command
plans j input w = if is_some w.form || w.chains then None else option_map (λ o. OnPlan j o input) (options_of w)

-- a job on its chains, with none of the options that say by which plan a program runs, and which of its items
abbrev pub chains : ChainJob → Input → OptionWords → Option Command
chains j input w =
    if not (is_some w.form) && is_unplanned w then option_map (λ o. OnChains j o input) (chain_options_of w) else None

-- by chains where `--chain` stands, and else by a plan
abbrev pub plans_or_chains : PlanJob → ChainJob → Input → OptionWords → Option Command
plans_or_chains plan chain input w = if w.chains then chains chain input w else plans plan input w

-- a command, where its options allow it
abbrev pub where_so : (allowed : Bool) → Option Command → Option Command
where_so allowed c = if allowed then c else None

-- no item is named at which the run ends
abbrev pub goes_to_the_end : OptionWords → Bool
goes_to_the_end w = not (is_some w.at)

-- all items
abbrev pub is_whole : OptionWords → Bool
is_whole w = not (is_some w.at) && not (is_some w.from)

-- all items, and no file gives the plan
abbrev pub plans_itself : OptionWords → Bool
plans_itself w = is_whole w && not (is_some w.plan)

-- the items before one, no file gives the plan, and nothing is dumped
abbrev pub stops_at_an_item : OptionWords → Bool
stops_at_an_item w = is_some w.at && not (is_some w.from) && not (is_some w.plan) && not w.dumps

-- SOURCE and MESH
abbrev pub on_files : (Input → OptionWords → Option Command) → (input : List ℕ) (mesh : Option (List ℕ)) → OptionWords → Option Command
on_files job input (Some mesh) w = job (InFiles input mesh) w
on_files job input None w = None

-- `sample SIDE`
abbrev pub samples : (input : List ℕ) (mesh : Option (List ℕ)) → OptionWords → Option Command
samples input None w =
    option_and_then (λ side. plans_or_chains RunsPlan RunsChains (OfSample side) w) (number_to MAX_SIDE input)
samples input (Some mesh) w = None

-- `convert MESH`, with `--form`
abbrev pub converts : (input : List ℕ) (mesh : Option (List ℕ)) → OptionWords → Option Command
converts input None w = if runs_nothing w then option_map (λ f. Converts f input) (form_of w.form) else None
converts input (Some mesh) w = None

-- SOURCE, for the jobs that take nothing else: no mesh and no option
abbrev pub source_alone : (source : List ℕ) (mesh : Option (List ℕ)) → OptionWords → Option (List ℕ)
source_alone source mesh w = if not (is_some mesh) && not (is_some w.form) && runs_nothing w then Some source else None

-- by the job's name
abbrev pub by_job : (job input : List ℕ) (mesh : Option (List ℕ)) → OptionWords → Option Command
by_job job input mesh w =
    if bytes_eq job (codes "run") then where_so (goes_to_the_end w) (on_files (plans_or_chains RunsPlan RunsChains) input mesh w)
    else if bytes_eq job (codes "sample") then where_so (is_whole w) (samples input mesh w)
    else if bytes_eq job (codes "state") then where_so (stops_at_an_item w) (on_files (plans RunsPlan) input mesh w)
    else if bytes_eq job (codes "convert") then converts input mesh w
    else if bytes_eq job (codes "translate") then option_map Translates (source_alone input mesh w)
    else if bytes_eq job (codes "restore") then option_map Restores (source_alone input mesh w)
    else if bytes_eq job (codes "check") then where_so (is_whole w) (on_files (plans_or_chains Check CountsChains) input mesh w)
    else if bytes_eq job (codes "plan") then where_so (plans_itself w) (on_files (plans ShowsPlan) input mesh w)
    else if bytes_eq job (codes "schedule") then where_so (goes_to_the_end w) (on_files (plans ShowsSchedule) input mesh w)
    else None

-- what a match asks for, or the words are refused
abbrev pub or_usage : Option Command → Result Command Refusal
or_usage None = Err Usage
or_usage (Some c) = Ok c

-- the words JOB and INPUT stand
abbrev pub asked : (job input mesh : Option (List ℕ)) → OptionWords → Result Command Refusal
asked (Some job) (Some input) mesh w = or_usage (by_job job input mesh w)
asked _ _ mesh w = Err Usage

-- what the matches ask for, where `clap` has nothing against the words; it answers those that ask for help or the version by kinds
-- of their own
abbrev pub judged : Kinds → List Row → Result Command Refusal
judged [] rows =
    asked (first_of (codes "JOB") rows) (first_of (codes "INPUT") rows) (first_of (codes "MESH") rows) (options_in rows)
judged (kind.DisplayHelp ∷ ks) rows = Ok ShowsUsage
judged (kind.DisplayVersion ∷ ks) rows = Ok ShowsVersion
judged (k ∷ ks) rows = Err Usage

-- What the words, the program's name first, ask for, or their refusal.
abbrev pub WordsAre : List (List ℕ) → Result Command Refusal → Type 0
WordsAre words r = judged (fault_of command words) (matches_of command words) ≡ r

-- ---- the files that words name

-- those of words
abbrev pub names_in : Result Command Refusal → List (List ℕ)
names_in (Ok c) = names_of c
names_in (Err r) = []

-- the files that the words name
abbrev pub named_by : List (List ℕ) → List (List ℕ)
named_by words = names_in (judged (fault_of command words) (matches_of command words))
