-- What the values of the options mean.
use Rattle.std.specs.Prelude.{ℕ, ◌^◌, Bool, false, not, ◌&&◌, nat_lt, nat_eq, List, Option, Some, None, codes, if◌then◌else◌, option_and_then, option_map, is_some, length, take, drop}
use Rattle.std.specs.Str.{bytes_eq}
use Rattle.clap.specs.Walk.{Row, first_of}
use Rattle.op_num.specs.Spelling.{number_of}
use Rattle.mesh_decl.specs.declared.text.entry.Form.{Form}
use Rattle.mesh_decl.specs.declared.text.entry.Form.TheVariants as form
use Rattle.partition.specs.Parts.{Parts, Block, Bisect, Grow}
use Rattle.command_words.specs.declared.limits.TheConstants.{MAX_RANKS, MAX_BLOCK, MAX_WORKERS}
use Rattle.command_words.specs.Requests.{Parting, ByRule, ByFile, Schedule, Standard, Drawn, Written, Stretch, Whole, Before, From, Blocks, OfSize, AsPlanned, Options, ChainOptions}

-- the values of the options, as the words have them
pub record OptionWords : Type 0 where
  pub form : Option (List ℕ)
  pub ranks : Option (List ℕ)
  pub parts : Option (List ℕ)
  pub partition : Option (List ℕ)
  pub renumber : Option (List ℕ)
  pub block : Option (List ℕ)
  pub plan : Option (List ℕ)
  pub at : Option (List ℕ)
  pub from : Option (List ℕ)
  pub schedule : Option (List ℕ)
  pub seed : Option (List ℕ)
  pub workers : Option (List ℕ)
  pub chains : Bool
  pub dumps : Bool

-- whether a flag's value says so
abbrev pub is_set : Option (List ℕ) → Bool
is_set None = false
is_set (Some word) = bytes_eq word (codes "true")

-- those of the matches
abbrev pub options_in : List Row → OptionWords
options_in rows = record {
  form = first_of (codes "form") rows;
  ranks = first_of (codes "ranks") rows;
  parts = first_of (codes "parts") rows;
  partition = first_of (codes "partition") rows;
  renumber = first_of (codes "renumber") rows;
  block = first_of (codes "block") rows;
  plan = first_of (codes "plan") rows;
  at = first_of (codes "at") rows;
  from = first_of (codes "from") rows;
  schedule = first_of (codes "schedule") rows;
  seed = first_of (codes "seed") rows;
  workers = first_of (codes "workers") rows;
  chains = is_set (first_of (codes "chain") rows);
  dumps = is_set (first_of (codes "dump") rows);
}

-- none stands of the options that say by which plan a program runs, and which of its items
abbrev pub is_unplanned : OptionWords → Bool
is_unplanned w =
    not (is_some w.renumber) && not (is_some w.block) && not (is_some w.plan) && not (is_some w.at) && not (is_some w.from)
    && not (is_some w.schedule) && not (is_some w.seed) && not (is_some w.workers)

-- none stands of those of a program's run
abbrev pub runs_nothing : OptionWords → Bool
runs_nothing w =
    not (is_some w.ranks) && not (is_some w.parts) && not (is_some w.partition) && not w.chains && not w.dumps && is_unplanned w

-- a number from 1 to the most, in decimal digits
abbrev pub number_to : (most : ℕ) → List ℕ → Option ℕ
number_to most word = option_and_then (λ n. if nat_lt 0 n && not (nat_lt most n) then Some n else None) (number_of word)

-- a version of the mesh format; the second, where no word says which
abbrev pub form_of : Option (List ℕ) → Option Form
form_of None = Some form.Two
form_of (Some word) = option_map (λ n. if nat_eq n 1 then form.One else form.Two) (number_to 2 word)

-- ---- a plan's options

-- a number from 1 to the most, in decimal digits; this one, where no word says which
abbrev pub number_or : (usual most : ℕ) → Option (List ℕ) → Option ℕ
number_or usual most None = Some usual
number_or usual most (Some word) = number_to most word

-- what stands behind a prefix, if the word begins with it
abbrev pub behind : (prefix word : List ℕ) → Option (List ℕ)
behind prefix word = if bytes_eq (take (length prefix) word) prefix then Some (drop (length prefix) word) else None

-- `grow:MAP`
abbrev pub growth_of : List ℕ → Option Parts
growth_of word = option_map Grow (behind (codes "grow:") word)

-- what is by cuts along a dat's values, or else by growth
abbrev pub cuts_or_growth : Option (List ℕ) → List ℕ → Option Parts
cuts_or_growth (Some dat) word = Some (Bisect dat)
cuts_or_growth None word = growth_of word

-- `block`, `bisect:DAT` or `grow:MAP`
abbrev pub rule_of : List ℕ → Option Parts
rule_of word = if bytes_eq word (codes "block") then Some Block else cuts_or_growth (behind (codes "bisect:") word) word

-- by `--parts`, or by `--partition`, or by blocks; not by both
abbrev pub parting_of : (parts partition : Option (List ℕ)) → Option Parting
parting_of None None = Some (ByRule Block)
parting_of (Some word) None = option_map ByRule (rule_of word)
parting_of None (Some name) = Some (ByFile name)
parting_of (Some word) (Some name) = None

-- a number below 2 ^ 64, in decimal digits
abbrev pub seed_of : List ℕ → Option ℕ
seed_of word = option_and_then (λ n. if nat_lt n (2 ^ 64) then Some n else None) (number_of word)

-- by `--schedule`, or by `--seed`, or the standard order; not by both
abbrev pub schedule_of : (schedule seed : Option (List ℕ)) → Option Schedule
schedule_of None None = Some Standard
schedule_of (Some name) None = Some (Written name)
schedule_of None (Some word) = option_map Drawn (seed_of word)
schedule_of (Some name) (Some word) = None

-- by `--plan`, or by `--block`, or blocks of 256 places; not by both
abbrev pub blocks_of : (block plan : Option (List ℕ)) → Option Blocks
blocks_of None None = Some (OfSize 256)
blocks_of (Some word) None = option_map OfSize (number_to MAX_BLOCK word)
blocks_of None (Some name) = Some (AsPlanned name)
blocks_of (Some word) (Some name) = None

-- a number below 2 ^ 32, in decimal digits
abbrev pub item_of : List ℕ → Option ℕ
item_of word = option_and_then (λ n. if nat_lt n (2 ^ 32) then Some n else None) (number_of word)

-- by `--at`, or by `--from`, or all items; not by both
abbrev pub stretch_of : (at from : Option (List ℕ)) → Option Stretch
stretch_of None None = Some Whole
stretch_of (Some word) None = option_map Before (item_of word)
stretch_of None (Some name) = Some (From name)
stretch_of (Some word) (Some name) = None

-- with items, a number of ranks, owners and an order of steps that are known
abbrev pub options_with : Stretch → (ranks : ℕ) → Parting → Schedule → OptionWords → Option Options
options_with stretch ranks parting schedule w =
    option_and_then (λ blocks. option_map (λ workers. record {
      stretch = stretch;
      ranks = ranks;
      parting = parting;
      renumber = w.renumber;
      blocks = blocks;
      schedule = schedule;
      workers = workers;
      dumps = w.dumps;
    }) (number_or 1 MAX_WORKERS w.workers))
    (blocks_of w.block w.plan)

-- all options of a plan
abbrev pub options_of : OptionWords → Option Options
options_of w =
    option_and_then (λ stretch. option_and_then (λ ranks. option_and_then (λ parting. option_and_then (λ schedule.
    options_with stretch ranks parting schedule w)
    (schedule_of w.schedule w.seed))
    (parting_of w.parts w.partition))
    (number_or 1 MAX_RANKS w.ranks))
    (stretch_of w.at w.from)

-- those of a run by chains
abbrev pub chain_options_of : OptionWords → Option ChainOptions
chain_options_of w =
    option_and_then (λ ranks. option_map (λ parting. record {
      ranks = ranks;
      parting = parting;
      dumps = w.dumps;
    }) (parting_of w.parts w.partition))
    (number_or 1 MAX_RANKS w.ranks)
