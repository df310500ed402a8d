-- Words that ask for the items before one ask for no dump.
use Rattle.std.proofs.Common.{◌≡◌, ℕ, Bool, true, false, not, ◌&&◌, ◌||◌, List, [], ◌∷◌, Option, Some, None, Result, Ok, Err, refl, subst, codes}
use Rattle.std.specs.Prelude.{option_map, is_some}
use Rattle.std.specs.Str.{bytes_eq}
use Rattle.std.proofs.lemmas.Bool.{and_parts}
use Rattle.clap.specs.Walk.{Row, first_of}
use Rattle.clap.specs.Kinds.{Kinds}
use Rattle.clap.specs.Faults.{fault_of}
use Rattle.clap.specs.Simple.{matches_of}
use Rattle.clap.specs.declared.error.kind.ErrorKind.TheVariants as kind
use Rattle.mesh_gen.specs.declared.places.TheConstants.{MAX_SIDE}
use Rattle.command_words.specs.declared.limits.TheConstants.{MAX_RANKS, MAX_WORKERS}
use Rattle.command_words.specs.Refusal.{Refusal}
use Rattle.command_words.specs.Words.{PlanJob, Check, ShowsPlan, ShowsSchedule, RunsPlan, Stretch, Before, Parting, Schedule, Options, Input, InFiles, OfSample, ChainJob, CountsChains, RunsChains, Command, OnPlan, Translates, Restores, command, number_to, number_or, form_of, OptionWords, options_in, parting_of, schedule_of, blocks_of, stretch_of, options_with, options_of, goes_to_the_end, is_whole, plans_itself, stops_at_an_item, runs_nothing, is_unplanned, on_files, samples, converts, source_alone, plans, chain_options_of, chains, plans_or_chains, where_so, by_job, or_usage, asked, judged}
use Rattle.command_words.specs.Laws.{HeadsAreNotDumped}
use Rattle.command_words.proofs.Within.{Holds, holds_if, holds_then, holds_map, Any, any}

-- options of the items before one have no dump
abbrev IsUndumped : Options → Type 0
IsUndumped o = (item : ℕ) → o.stretch ≡ Before item → o.dumps ≡ false

abbrev Undumped : Command → Type 0
Undumped (OnPlan j o input) = IsUndumped o
Undumped c = Unit {0}

-- ---- options

no_item : (from : Option (List ℕ)) (stretch : Stretch) (item : ℕ) → stretch_of None from ≡ Some stretch → stretch ≡ Before item → ⊥
no_item None stretch item e f = cc
no_item (Some name) stretch item e f = cc

-- what is so of a value where it came
holds_so : {X : Type 0} (P : X → Type 0) (o : Option X) → ((x : X) → o ≡ Some x → P x) → Holds P o
holds_so P None h = tt
holds_so P (Some x) h = h x refl

with_undumped : (stretch : Stretch) (ranks : ℕ) (parting : Parting) (schedule : Schedule) (w : OptionWords)
    → ((item : ℕ) → stretch ≡ Before item → w.dumps ≡ false)
    → Holds IsUndumped (options_with stretch ranks parting schedule w)
with_undumped stretch ranks parting schedule w h =
    holds_then Any IsUndumped _ (blocks_of w.block w.plan) (any (blocks_of w.block w.plan))
    (λ blocks _. holds_map Any IsUndumped _ (number_or 1 MAX_WORKERS w.workers) (any (number_or 1 MAX_WORKERS w.workers)) (λ workers _. h))

options_undumped : (w : OptionWords) → ((stretch : Stretch) (item : ℕ) → stretch_of w.at w.from ≡ Some stretch → stretch ≡ Before item → w.dumps ≡ false)
    → Holds IsUndumped (options_of w)
options_undumped w h =
    holds_then (λ (stretch : Stretch). (item : ℕ) → stretch ≡ Before item → w.dumps ≡ false) IsUndumped _ (stretch_of w.at w.from)
    (holds_so (λ (stretch : Stretch). (item : ℕ) → stretch ≡ Before item → w.dumps ≡ false) (stretch_of w.at w.from) (λ stretch e item f. h stretch item e f))
    (λ stretch s. holds_then Any IsUndumped _ (number_or 1 MAX_RANKS w.ranks) (any (number_or 1 MAX_RANKS w.ranks))
    (λ ranks _. holds_then Any IsUndumped _ (parting_of w.parts w.partition) (any (parting_of w.parts w.partition))
    (λ parting _. holds_then Any IsUndumped _ (schedule_of w.schedule w.seed) (any (schedule_of w.schedule w.seed))
    (λ schedule _. with_undumped stretch ranks parting schedule w s))))

plans_undumped : (j : PlanJob) (input : Input) (w : OptionWords) → ((stretch : Stretch) (item : ℕ) → stretch_of w.at w.from ≡ Some stretch → stretch ≡ Before item → w.dumps ≡ false)
    → Holds Undumped (plans j input w)
plans_undumped j input w h = holds_if Undumped (is_some w.form || w.chains) _ _ tt (holds_map IsUndumped Undumped _ (options_of w) (options_undumped w h) (λ o k. k))

chains_undumped : (j : ChainJob) (input : Input) (w : OptionWords) → Holds Undumped (chains j input w)
chains_undumped j input w =
    holds_if Undumped (not (is_some w.form) && is_unplanned w) _ _
    (holds_map Any Undumped _ (chain_options_of w) (any (chain_options_of w)) (λ o _. tt)) tt

either_undumped : (plan : PlanJob) (chain : ChainJob) (input : Input) (w : OptionWords)
    → ((stretch : Stretch) (item : ℕ) → stretch_of w.at w.from ≡ Some stretch → stretch ≡ Before item → w.dumps ≡ false)
    → Holds Undumped (plans_or_chains plan chain input w)
either_undumped plan chain input w h = holds_if Undumped w.chains _ _ (chains_undumped chain input w) (plans_undumped plan input w h)

files_undumped : (job : Input → OptionWords → Option Command) (input : List ℕ) (mesh : Option (List ℕ)) (w : OptionWords)
    → ((i : Input) → Holds Undumped (job i w))
    → Holds Undumped (on_files job input mesh w)
files_undumped job input None w h = tt
files_undumped job input (Some mesh) w h = h (InFiles input mesh)

samples_undumped : (input : List ℕ) (mesh : Option (List ℕ)) (w : OptionWords)
    → ((stretch : Stretch) (item : ℕ) → stretch_of w.at w.from ≡ Some stretch → stretch ≡ Before item → w.dumps ≡ false)
    → Holds Undumped (samples input mesh w)
samples_undumped input None w h =
    holds_then Any Undumped _ (number_to MAX_SIDE input) (any (number_to MAX_SIDE input)) (λ side _. either_undumped RunsPlan RunsChains (OfSample side) w h)
samples_undumped input (Some mesh) w h = tt

-- ---- where they are allowed

allowed_so : (allowed : Bool) (c : Option Command) → (allowed ≡ true → Holds Undumped c) → Holds Undumped (where_so allowed c)
allowed_so true c h = h refl
allowed_so false c h = tt

not_some : (at : Option (List ℕ)) → not (is_some at) ≡ true → at ≡ None
not_some None h = refl
not_some (Some word) h = let bad : ⊥ = cc in absurd bad

to_the_end : (w : OptionWords) → goes_to_the_end w ≡ true → (stretch : Stretch) (item : ℕ) → stretch_of w.at w.from ≡ Some stretch → stretch ≡ Before item → w.dumps ≡ false
to_the_end w allowed stretch item e f =
    absurd (no_item w.from stretch item (subst (λ at. stretch_of at w.from ≡ Some stretch) (not_some w.at allowed) e) f)

whole_ends : (w : OptionWords) → is_whole w ≡ true → goes_to_the_end w ≡ true
whole_ends w h = (and_parts (not (is_some w.at)) (not (is_some w.from)) h).0

itself_ends : (w : OptionWords) → plans_itself w ≡ true → goes_to_the_end w ≡ true
itself_ends w h = whole_ends w (and_parts (is_whole w) (not (is_some w.plan)) h).0

dumps_nothing : (w : OptionWords) → stops_at_an_item w ≡ true → w.dumps ≡ false
dumps_nothing w h = by_flag w.dumps (and_parts (is_some w.at && not (is_some w.from) && not (is_some w.plan)) (not w.dumps) h).1
  where
    by_flag : (b : Bool) → not b ≡ true → b ≡ false
    by_flag true k = let bad : ⊥ = cc in absurd bad
    by_flag false k = refl

-- ---- jobs

converts_undumped : (input : List ℕ) (mesh : Option (List ℕ)) (w : OptionWords) → Holds Undumped (converts input mesh w)
converts_undumped input None w = holds_if Undumped (runs_nothing w) _ _ (holds_map Any Undumped _ (form_of w.form) (any (form_of w.form)) (λ f h. tt)) tt
converts_undumped input (Some mesh) w = tt

alone_undumped : (job : List ℕ → Command) → ((source : List ℕ) → Undumped (job source)) → (input : List ℕ) (mesh : Option (List ℕ)) (w : OptionWords)
    → Holds Undumped (option_map job (source_alone input mesh w))
alone_undumped job h input mesh w = holds_map Any Undumped job (source_alone input mesh w) (any (source_alone input mesh w)) (λ source _. h source)

jobs_undumped : (job input : List ℕ) (mesh : Option (List ℕ)) (w : OptionWords) → Holds Undumped (by_job job input mesh w)
jobs_undumped job input mesh w =
    holds_if Undumped (bytes_eq job (codes "run")) _ _
    (allowed_so (goes_to_the_end w) _ (λ a. files_undumped (plans_or_chains RunsPlan RunsChains) input mesh w (λ i. either_undumped RunsPlan RunsChains i w (to_the_end w a))))
    (holds_if Undumped (bytes_eq job (codes "sample")) _ _
    (allowed_so (is_whole w) _ (λ a. samples_undumped input mesh w (to_the_end w (whole_ends w a))))
    (holds_if Undumped (bytes_eq job (codes "state")) _ _
    (allowed_so (stops_at_an_item w) _ (λ a. files_undumped (plans RunsPlan) input mesh w (λ i. plans_undumped RunsPlan i w (λ stretch item e f. dumps_nothing w a))))
    (holds_if Undumped (bytes_eq job (codes "convert")) _ _ (converts_undumped input mesh w)
    (holds_if Undumped (bytes_eq job (codes "translate")) _ _ (alone_undumped Translates (λ source. tt) input mesh w)
    (holds_if Undumped (bytes_eq job (codes "restore")) _ _ (alone_undumped Restores (λ source. tt) input mesh w)
    (holds_if Undumped (bytes_eq job (codes "check")) _ _
    (allowed_so (is_whole w) _ (λ a. files_undumped (plans_or_chains Check CountsChains) input mesh w (λ i. either_undumped Check CountsChains i w (to_the_end w (whole_ends w a)))))
    (holds_if Undumped (bytes_eq job (codes "plan")) _ _
    (allowed_so (plans_itself w) _ (λ a. files_undumped (plans ShowsPlan) input mesh w (λ i. plans_undumped ShowsPlan i w (to_the_end w (itself_ends w a)))))
    (holds_if Undumped (bytes_eq job (codes "schedule")) _ _
    (allowed_so (goes_to_the_end w) _ (λ a. files_undumped (plans ShowsSchedule) input mesh w (λ i. plans_undumped ShowsSchedule i w (to_the_end w a)))) tt))))))))

-- ---- words

abbrev Asks : Result Command Refusal → Type 0
Asks (Ok c) = Undumped c
Asks (Err r) = Unit {0}

or_usage_asks : (o : Option Command) → Holds Undumped o → Asks (or_usage o)
or_usage_asks None h = tt
or_usage_asks (Some c) h = h

asked_asks : (job input mesh : Option (List ℕ)) (w : OptionWords) → Asks (asked job input mesh w)
asked_asks (Some job) (Some input) mesh w = or_usage_asks (by_job job input mesh w) (jobs_undumped job input mesh w)
asked_asks (Some job) None mesh w = tt
asked_asks None input mesh w = tt

judged_asks : (ks : Kinds) (rows : List Row) → Asks (judged ks rows)
judged_asks [] rows = asked_asks (first_of (codes "JOB") rows) (first_of (codes "INPUT") rows) (first_of (codes "MESH") rows) (options_in rows)
judged_asks (kind.DisplayHelp ∷ ks) rows = tt
judged_asks (kind.DisplayVersion ∷ ks) rows = tt
judged_asks (k ∷ ks) rows = tt

pub undumped : HeadsAreNotDumped
undumped words j o input item h = subst Asks h (judged_asks (fault_of command words) (matches_of command words)) item
