-- What words ask for in the code, as `Words` defines it.
use Rattle.std.specs.Prelude.{◌≡◌, true, false, Result, Ok, Err, codes, option_map}
use Rattle.clap.specs.Walk.{Rule as ClapRule}
use Rattle.clap.specs.declared.parser.matches.Found.{Found}
use Rattle.clap.specs.Matches.{first_value}
use Rattle.partition.specs.Parts.{Parts, Block, Bisect, Grow, name_of}
use Rattle.command_words.specs.Refusal as answer
use Rattle.command_words.specs.Words as words
use Rattle.command_words.specs.Words.{is_set, OnPlan, OnChains, Converts, Translates, Restores, ShowsUsage, ShowsVersion}
use Rattle.command_words.specs.Laws.{IsWithin}
use Rattle.command_words.specs.declared.command.WordRule.{WordRule}
use Rattle.command_words.specs.declared.command.WordRule.TheVariants.{Required, Optional, Valued, Flag}
use Rattle.command_words.specs.declared.refusals.WordsRefusal.{WordsRefusal}
use Rattle.command_words.specs.declared.refusals.WordsRefusal.TheVariants.{Usage, OutOfMemory}
use Rattle.command_words.specs.declared.options.OptionWords.{OptionWords}
use Rattle.command_words.specs.declared.asked.Rule.{Rule}
use Rattle.command_words.specs.declared.asked.Rule.TheVariants as rule
use Rattle.command_words.specs.declared.asked.Parting.{Parting}
use Rattle.command_words.specs.declared.asked.Parting.TheVariants as parting
use Rattle.command_words.specs.declared.asked.Schedule.{Schedule}
use Rattle.command_words.specs.declared.asked.Schedule.TheVariants as schedule
use Rattle.command_words.specs.declared.asked.Stretch.{Stretch}
use Rattle.command_words.specs.declared.asked.Stretch.TheVariants as stretch
use Rattle.command_words.specs.declared.asked.Blocks.{Blocks}
use Rattle.command_words.specs.declared.asked.Blocks.TheVariants as blocks
use Rattle.command_words.specs.declared.asked.Options.{Options}
use Rattle.command_words.specs.declared.asked.ChainOptions.{ChainOptions}
use Rattle.command_words.specs.declared.asked.ChainJob.{ChainJob}
use Rattle.command_words.specs.declared.asked.ChainJob.TheVariants as chain_job
use Rattle.command_words.specs.declared.asked.PlanJob.{PlanJob}
use Rattle.command_words.specs.declared.asked.PlanJob.TheVariants as job
use Rattle.command_words.specs.declared.asked.Input.{Input}
use Rattle.command_words.specs.declared.asked.Input.TheVariants as input
use Rattle.command_words.specs.declared.asked.Asked.{Asked}
use Rattle.command_words.specs.declared.asked.Asked.TheVariants as asked

-- ---- the command

-- a rule of the command
abbrev pub word_rule : WordRule → ClapRule
word_rule (Required id) = words.positional true id.now
word_rule (Optional id) = words.positional false id.now
word_rule (Valued id) = words.option id.now
word_rule (Flag id) = words.flag id.now

-- ---- options

-- the values of the options
abbrev pub option_words_of : OptionWords → words.OptionWords
option_words_of w = record {
  form = option_map (λ s. s.now) w.form;
  ranks = option_map (λ s. s.now) w.ranks;
  parts = option_map (λ s. s.now) w.parts;
  partition = option_map (λ s. s.now) w.partition;
  renumber = option_map (λ s. s.now) w.renumber;
  block = option_map (λ s. s.now) w.block;
  plan = option_map (λ s. s.now) w.plan;
  at = option_map (λ s. s.now) w.at;
  from = option_map (λ s. s.now) w.from;
  schedule = option_map (λ s. s.now) w.schedule;
  seed = option_map (λ s. s.now) w.seed;
  workers = option_map (λ s. s.now) w.workers;
  chains = w.chains;
  dumps = w.dumps;
}

-- the same, as `clap` has found them
abbrev pub options_found : Found → words.OptionWords
options_found f = record {
  form = first_value f (codes "form");
  ranks = first_value f (codes "ranks");
  parts = first_value f (codes "parts");
  partition = first_value f (codes "partition");
  renumber = first_value f (codes "renumber");
  block = first_value f (codes "block");
  plan = first_value f (codes "plan");
  at = first_value f (codes "at");
  from = first_value f (codes "from");
  schedule = first_value f (codes "schedule");
  seed = first_value f (codes "seed");
  workers = first_value f (codes "workers");
  chains = is_set (first_value f (codes "chain"));
  dumps = is_set (first_value f (codes "dump"));
}

-- by which rule elements are given to ranks
abbrev pub rule_in : Rule → Parts
rule_in rule.Block = Block
rule_in (rule.Bisect dat) = Bisect dat.now
rule_in (rule.Grow map) = Grow map.now

-- who owns which element
abbrev pub parting_in : Parting → words.Parting
parting_in (parting.ByRule rule) = words.ByRule (rule_in rule)
parting_in (parting.ByFile name) = words.ByFile name.now

-- in which order the steps of a plan are taken
abbrev pub schedule_in : Schedule → words.Schedule
schedule_in schedule.Standard = words.Standard
schedule_in (schedule.Drawn seed) = words.Drawn seed
schedule_in (schedule.Written name) = words.Written name.now

-- which items run
abbrev pub stretch_in : Stretch → words.Stretch
stretch_in stretch.Whole = words.Whole
stretch_in (stretch.Before item) = words.Before item
stretch_in (stretch.From name) = words.From name.now

-- blocks and colours of a plan
abbrev pub blocks_in : Blocks → words.Blocks
blocks_in (blocks.OfSize places) = words.OfSize places
blocks_in (blocks.AsPlanned name) = words.AsPlanned name.now

-- a plan's options
abbrev pub options_in : Options → words.Options
options_in o = record {
  stretch = stretch_in o.stretch;
  ranks = o.ranks;
  parting = parting_in o.parting;
  renumber = name_of o.renumber;
  blocks = blocks_in o.blocks;
  schedule = schedule_in o.schedule;
  workers = o.workers;
  dumps = o.dumps;
}

-- those of a run by chains
abbrev pub chain_options_in : ChainOptions → words.ChainOptions
chain_options_in o = record { ranks = o.ranks; parting = parting_in o.parting; dumps = o.dumps }

-- ---- commands

-- what is done with a plan
abbrev pub job_in : PlanJob → words.PlanJob
job_in job.Check = words.Check
job_in job.ShowsPlan = words.ShowsPlan
job_in job.ShowsSchedule = words.ShowsSchedule
job_in job.RunsPlan = words.RunsPlan

-- what is done with a program by chains
abbrev pub chain_job_in : ChainJob → words.ChainJob
chain_job_in chain_job.CountsChains = words.CountsChains
chain_job_in chain_job.RunsChains = words.RunsChains

-- where a source and a mesh come from
abbrev pub input_in : Input → words.Input
input_in (input.InFiles source mesh) = words.InFiles source.now mesh.now
input_in (input.OfSample side) = words.OfSample side.cells

-- what the words ask for
abbrev pub command_of : Asked → words.Command
command_of (asked.Plan j o i) = OnPlan (job_in j) (options_in o) (input_in i)
command_of (asked.Chains j o i) = OnChains (chain_job_in j) (chain_options_in o) (input_in i)
command_of (asked.Convert form mesh) = Converts form mesh.now
command_of (asked.Translate source) = Translates source.now
command_of (asked.Restore source) = Restores source.now
command_of asked.Usage = ShowsUsage
command_of asked.Version = ShowsVersion

-- the numbers of what is asked for are in range
abbrev pub IsInRange : Asked → Type 0
IsInRange a = IsWithin (command_of a)

-- the answer is what the words ask for, or their refusal, unless memory ran out
abbrev pub AsksBy : Result Asked WordsRefusal → Result words.Command answer.Refusal → Type 0
AsksBy (Ok a) r = r ≡ Ok (command_of a)
AsksBy (Err Usage) r = r ≡ Err answer.Usage
AsksBy (Err OutOfMemory) r = Unit {0}
