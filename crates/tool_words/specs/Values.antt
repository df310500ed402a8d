-- What words ask for in the code, as `Words` defines it.
use Rattle.std.specs.Prelude.{◌≡◌, ℕ, List, map, false, Option, Some, None, Result, Ok, Err, Vec, String, codes, string_bytes, option_map}
use Rattle.std.specs.declared.alloc.Global.{Global}
use Rattle.clap.specs.declared.parser.matches.Found.{Found}
use Rattle.clap.specs.Matches.{first_value}
use Rattle.command_words.specs.Words.{OptionWords, is_set}
use Rattle.command_words.specs.Values.{option_words_of, options_in}
use Rattle.tool_words.specs.Words as words
use Rattle.tool_words.specs.Words.{Picks, Graphs, TakesOwners, TellsOwners, Counts, Draws, Grids, OnProgram, OnPlan, Converts, Explains, ShowsUsage, ShowsVersion, WordsAreWith, call_in}
use Rattle.tool_words.specs.Ranges.{IsWithin}
use Rattle.tool_words.specs.declared.asked.ProgramJob.{ProgramJob}
use Rattle.tool_words.specs.declared.asked.ProgramJob.TheVariants as job
use Rattle.tool_words.specs.declared.asked.Picture.{Picture}
use Rattle.tool_words.specs.declared.asked.PlanJob.{PlanJob}
use Rattle.tool_words.specs.declared.asked.PlanJob.TheVariants as plan_job
use Rattle.tool_words.specs.declared.asked.Asked.{Asked}
use Rattle.tool_words.specs.declared.asked.Asked.TheVariants as asked
use Rattle.tool_words.specs.declared.given.OwnWords.{OwnWords}
use Rattle.tool_words.specs.declared.given.Given.{Given}
use Rattle.command_words.specs.declared.refusals.WordsRefusal.{WordsRefusal}
use Rattle.command_words.specs.declared.refusals.WordsRefusal.TheVariants.{Usage, OutOfMemory}

-- the options of single jobs
abbrev pub own_of : OwnWords → words.OwnWords
own_of w = record {
  coords = option_map (λ s. s.now) w.coords;
  cells = option_map (λ s. s.now) w.cells;
  halos = option_map (λ s. s.now) w.halos;
  colours = option_map (λ s. s.now) w.colours;
  output = option_map (λ s. s.now) w.output;
  plain = w.plain;
  metis = option_map (λ s. s.now) w.metis;
  set = option_map (λ s. s.now) w.set;
  scale = option_map (λ s. s.now) w.scale;
  dim = option_map (λ s. s.now) w.dim;
  source = w.source;
}

-- the words behind the job's name, and the options
abbrev pub given_of : Given → words.Given
given_of g = record {
  first = option_map (λ s. s.now) g.first;
  second = option_map (λ s. s.now) g.second;
  third = option_map (λ s. s.now) g.third;
  fourth = option_map (λ s. s.now) g.fourth;
  fifth = option_map (λ s. s.now) g.fifth;
  planning = option_words_of g.planning;
  own = own_of g.own;
}

-- the options of a plan, as `clap` has found them
abbrev pub planning_found : Found → OptionWords
planning_found f = record {
  form = None;
  ranks = first_value f (codes "ranks");
  parts = first_value f (codes "parts");
  partition = first_value f (codes "partition");
  renumber = first_value f (codes "renumber");
  block = first_value f (codes "block");
  plan = first_value f (codes "plan");
  at = None;
  from = None;
  schedule = None;
  seed = None;
  workers = None;
  chains = false;
  dumps = false;
}

-- those of single jobs
abbrev pub own_found : Found → words.OwnWords
own_found f = record {
  coords = first_value f (codes "coords");
  cells = first_value f (codes "cells");
  halos = first_value f (codes "halos");
  colours = first_value f (codes "colours");
  output = first_value f (codes "output");
  plain = is_set (first_value f (codes "plain"));
  metis = first_value f (codes "metis");
  set = first_value f (codes "set");
  scale = first_value f (codes "scale");
  dim = first_value f (codes "dim");
  source = is_set (first_value f (codes "source"));
}

-- all words
abbrev pub given_found : Found → words.Given
given_found f = record {
  first = first_value f (codes "FIRST");
  second = first_value f (codes "SECOND");
  third = first_value f (codes "THIRD");
  fourth = first_value f (codes "FOURTH");
  fifth = first_value f (codes "FIFTH");
  planning = planning_found f;
  own = own_found f;
}

-- what is done with a program
abbrev pub job_of : ProgramJob → words.ProgramJob
job_of (job.Picks output file earlier) = Picks output.now file.now earlier
job_of (job.Graphs map) = Graphs map.now
job_of (job.TakesOwners ranks file set) = TakesOwners ranks file.now set.now

-- what is shown of a mesh
abbrev pub picture_of : Picture → words.Picture
picture_of p = record { coords = p.coords.now; cells = p.cells.now; shown = p.shown }

-- what is done with its plan
abbrev pub plan_job_of : PlanJob → words.PlanJob
plan_job_of plan_job.TellsOwners = TellsOwners
plan_job_of (plan_job.Counts plain) = Counts plain
plan_job_of (plan_job.Draws p) = Draws (picture_of p)
plan_job_of (plan_job.Grids p output) = Grids (picture_of p) (option_map (λ s. s.now) output)

-- what the words ask for
abbrev pub command_of : Asked → words.Command
command_of (asked.OnProgram j source mesh) = OnProgram (job_of j) source.now mesh.now
command_of (asked.OnPlan j o source mesh) = OnPlan (plan_job_of j) (options_in o) source.now mesh.now
command_of (asked.Convert file dim scale writes_source) = Converts file.now dim scale writes_source
command_of (asked.Explain call) = Explains (map string_bytes call.now.items)
command_of asked.Usage = ShowsUsage
command_of asked.Version = ShowsVersion

-- the numbers of what is asked for are in range
abbrev pub IsInRange : Asked → Type 0
IsInRange a = IsWithin (command_of a)

-- it is what is asked for, or nothing is, unless memory ran out
abbrev pub AsksBy : Result Asked WordsRefusal → Option words.Command → Type 0
AsksBy (Ok a) r = r ≡ Some (command_of a)
AsksBy (Err Usage) r = r ≡ None
AsksBy (Err OutOfMemory) r = Unit {0}

-- the words of a call
abbrev pub call_of : Option (Vec (String Global) Global) → Option (List (List ℕ))
call_of call = option_map (λ v. map string_bytes v.items) call

-- it is what the words ask for with such a call to explain, or they are refused, unless memory ran out
abbrev pub IsReadWith : (call : Option (List (List ℕ))) → List (List ℕ) → Result Asked WordsRefusal → Type 0
IsReadWith call words (Ok a) = WordsAreWith call words (Some (command_of a))
IsReadWith call words (Err Usage) = WordsAreWith call words None
IsReadWith call words (Err OutOfMemory) = Unit {0}

-- it is what the words ask for, or they are refused, unless memory ran out
abbrev pub IsRead : List (List ℕ) → Result Asked WordsRefusal → Type 0
IsRead words r = IsReadWith (call_in words) words r
