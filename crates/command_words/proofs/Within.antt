-- The numbers of a plan's options are in range.
use Rattle.std.proofs.Common.{◌≡◌, ◌<◌, ◌≤◌, ◌||◌, ℕ, Bool, true, false, not, ◌&&◌, nat_lt, List, [], ◌∷◌, Option, Some, None, IfSome, Result, Ok, Err, if◌then◌else◌, refl, subst, codes, arith}
use Rattle.std.specs.Prelude.{option_and_then, option_map, is_some}
use Rattle.std.specs.Str.{bytes_eq}
use Rattle.std.proofs.lemmas.Bool.{ltb-true, ltb-false, and_parts, not-true}
use Rattle.clap.specs.Walk.{Row, first_of}
use Rattle.clap.specs.Kinds.{Kinds}
use Rattle.clap.specs.Faults.{fault_of}
use Rattle.clap.specs.Simple.{matches_of}
use Rattle.clap.specs.declared.error.kind.ErrorKind.TheVariants as kind
use Rattle.op_num.specs.Spelling.{number_of}
use Rattle.mesh_gen.specs.declared.places.TheConstants.{MAX_SIDE}
use Rattle.command_words.specs.declared.limits.TheConstants.{MAX_RANKS, MAX_BLOCK, MAX_WORKERS}
use Rattle.command_words.specs.Refusal.{Refusal}
use Rattle.command_words.specs.Words.{PlanJob, Check, ShowsPlan, ShowsSchedule, RunsPlan, Parting, Schedule, Stretch, Input, InFiles, OfSample, ChainJob, CountsChains, RunsChains, ChainOptions, Command, Translates, Restores, command, number_to, number_or, form_of, OptionWords, options_in, parting_of, schedule_of, blocks_of, stretch_of, options_with, options_of, chain_options_of, goes_to_the_end, is_whole, plans_itself, stops_at_an_item, is_unplanned, runs_nothing, on_files, samples, converts, source_alone, plans, chains, plans_or_chains, where_so, by_job, or_usage, asked, judged}
use Rattle.command_words.specs.Laws.{AreFew, HaveFewPlaces, AreWithin, IsWithin, OptionsAreWithin, OptionWordsAreWithin}

-- P is so of what there is
abbrev pub Holds : {X : Type 0} → (X → Type 0) → Option X → Type 0
Holds P None = Unit {0}
Holds P (Some x) = P x

pub holds_if : {X : Type 0} (P : X → Type 0) (b : Bool) (x y : Option X) → Holds P x → Holds P y → Holds P (if b then x else y)
holds_if P true x y h k = h
holds_if P false x y h k = k

pub holds_then : {X Y : Type 0} (P : X → Type 0) (Q : Y → Type 0) (f : X → Option Y) (o : Option X) → Holds P o → ((x : X) → P x → Holds Q (f x)) → Holds Q (option_and_then f o)
holds_then P Q f None h k = tt
holds_then P Q f (Some x) h k = k x h

pub holds_map : {X Y : Type 0} (P : X → Type 0) (Q : Y → Type 0) (f : X → Y) (o : Option X) → Holds P o → ((x : X) → P x → Q (f x)) → Holds Q (option_map f o)
holds_map P Q f None h k = tt
holds_map P Q f (Some x) h k = k x h

-- no more is known
abbrev pub Any : {X : Type 0} → X → Type 0
Any x = Unit {0}

pub any : {X : Type 0} (o : Option X) → Holds Any o
any None = tt
any (Some x) = tt

-- ---- numbers

abbrev IsTo : ℕ → ℕ → Type 0
IsTo most n = (0 < n) × (n ≤ most)

number_is : (most n : ℕ) (b : Bool) → nat_lt 0 n && not (nat_lt most n) ≡ b → Holds (IsTo most) (if b then Some n else None)
number_is most n true e = let h = and_parts (nat_lt 0 n) (not (nat_lt most n)) e in (ltb-true 0 n h.0, ltb-false most n (not-true (nat_lt most n) h.1))
number_is most n false e = tt

number_holds : (most : ℕ) (word : List ℕ) → Holds (IsTo most) (number_to most word)
number_holds most word = holds_then Any (IsTo most) (λ n. if nat_lt 0 n && not (nat_lt most n) then Some n else None) (number_of word)
    (any (number_of word)) (λ n h. number_is most n (nat_lt 0 n && not (nat_lt most n)) refl)

or_holds : (usual most : ℕ) (word : Option (List ℕ)) → IsTo most usual → Holds (IsTo most) (number_or usual most word)
or_holds usual most None h = h
or_holds usual most (Some word) h = number_holds most word

-- ---- options

blocks_hold : (block plan : Option (List ℕ)) → Holds HaveFewPlaces (blocks_of block plan)
blocks_hold None None = (omega arith, omega arith)
blocks_hold (Some word) None = holds_map (IsTo MAX_BLOCK) HaveFewPlaces _ (number_to MAX_BLOCK word) (number_holds MAX_BLOCK word) (λ n h. h)
blocks_hold None (Some name) = tt
blocks_hold (Some word) (Some name) = tt

with_holds : (stretch : Stretch) (ranks : ℕ) (parting : Parting) (schedule : Schedule) (w : OptionWords) → IsTo MAX_RANKS ranks → Holds AreWithin (options_with stretch ranks parting schedule w)
with_holds stretch ranks parting schedule w h =
    holds_then HaveFewPlaces AreWithin _ (blocks_of w.block w.plan) (blocks_hold w.block w.plan)
    (λ blocks k. holds_map (IsTo MAX_WORKERS) AreWithin _ (number_or 1 MAX_WORKERS w.workers) (or_holds 1 MAX_WORKERS w.workers (omega arith, omega arith))
    (λ workers l. record { ranks = record { some = h.0; few = h.1 }; places = k; some_workers = l.0; few_workers = l.1 }))

options_hold : (w : OptionWords) → Holds AreWithin (options_of w)
options_hold w =
    holds_then Any AreWithin _ (stretch_of w.at w.from) (any (stretch_of w.at w.from))
    (λ stretch _. holds_then (IsTo MAX_RANKS) AreWithin _ (number_or 1 MAX_RANKS w.ranks) (or_holds 1 MAX_RANKS w.ranks (omega arith, omega arith))
    (λ ranks h. holds_then Any AreWithin _ (parting_of w.parts w.partition) (any (parting_of w.parts w.partition))
    (λ parting _. holds_then Any AreWithin _ (schedule_of w.schedule w.seed) (any (schedule_of w.schedule w.seed))
    (λ schedule _. with_holds stretch ranks parting schedule w h))))

chain_options_hold : (w : OptionWords) → Holds (λ o. AreFew o.ranks) (chain_options_of w)
chain_options_hold w =
    holds_then (IsTo MAX_RANKS) (λ (o : ChainOptions). AreFew o.ranks) _ (number_or 1 MAX_RANKS w.ranks) (or_holds 1 MAX_RANKS w.ranks (omega arith, omega arith))
    (λ ranks h. holds_map Any (λ (o : ChainOptions). AreFew o.ranks) _ (parting_of w.parts w.partition) (any (parting_of w.parts w.partition))
    (λ parting _. record { some = h.0; few = h.1 }))

-- the same, as it is said of what there is
if_some : {X : Type 0} (P : X → Type 0) (o : Option X) → Holds P o → IfSome o P
if_some P None h = tt
if_some P (Some x) h = h

pub words_are_within : OptionWordsAreWithin
words_are_within = record {
  plans = λ w. if_some AreWithin (options_of w) (options_hold w);
  chains = λ w. if_some (λ (o : ChainOptions). AreFew o.ranks) (chain_options_of w) (chain_options_hold w);
}

-- ---- commands

converts_hold : (input : List ℕ) (mesh : Option (List ℕ)) (w : OptionWords) → Holds IsWithin (converts input mesh w)
converts_hold input None w = holds_if IsWithin (runs_nothing w) _ _ (holds_map Any IsWithin _ (form_of w.form) (any (form_of w.form)) (λ f h. tt)) tt
converts_hold input (Some mesh) w = tt

plans_hold : (j : PlanJob) (input : Input) (w : OptionWords) → Holds IsWithin (plans j input w)
plans_hold j input w = holds_if IsWithin (is_some w.form || w.chains) _ _ tt (holds_map AreWithin IsWithin _ (options_of w) (options_hold w) (λ o h. h))

chains_hold : (j : ChainJob) (input : Input) (w : OptionWords) → Holds IsWithin (chains j input w)
chains_hold j input w =
    holds_if IsWithin (not (is_some w.form) && is_unplanned w) _ _
    (holds_map (λ (o : ChainOptions). AreFew o.ranks) IsWithin _ (chain_options_of w) (chain_options_hold w) (λ o h. h)) tt

either_holds : (plan : PlanJob) (chain : ChainJob) (input : Input) (w : OptionWords) → Holds IsWithin (plans_or_chains plan chain input w)
either_holds plan chain input w = holds_if IsWithin w.chains _ _ (chains_hold chain input w) (plans_hold plan input w)

-- what such a job asks for is in range
abbrev AllWithin : (Input → OptionWords → Option Command) → Type 0
AllWithin job = (input : Input) (w : OptionWords) → Holds IsWithin (job input w)

files_hold : (job : Input → OptionWords → Option Command) → AllWithin job
    → (input : List ℕ) (mesh : Option (List ℕ)) (w : OptionWords) → Holds IsWithin (on_files job input mesh w)
files_hold job h input None w = tt
files_hold job h input (Some mesh) w = h (InFiles input mesh) w

samples_hold : (input : List ℕ) (mesh : Option (List ℕ)) (w : OptionWords) → Holds IsWithin (samples input mesh w)
samples_hold input None w =
    holds_then Any IsWithin _ (number_to MAX_SIDE input) (any (number_to MAX_SIDE input))
    (λ side _. either_holds RunsPlan RunsChains (OfSample side) w)
samples_hold input (Some mesh) w = tt

-- a job on files, where its options allow it
where_holds : (allowed : Bool) (job : Input → OptionWords → Option Command) → AllWithin job
    → (input : List ℕ) (mesh : Option (List ℕ)) (w : OptionWords) → Holds IsWithin (where_so allowed (on_files job input mesh w))
where_holds allowed job h input mesh w = holds_if IsWithin allowed _ _ (files_hold job h input mesh w) tt

-- a job on a source alone has no options
alone_holds : (job : List ℕ → Command) → ((source : List ℕ) → IsWithin (job source)) → (input : List ℕ) (mesh : Option (List ℕ)) (w : OptionWords)
    → Holds IsWithin (option_map job (source_alone input mesh w))
alone_holds job h input mesh w = holds_map Any IsWithin job (source_alone input mesh w) (any (source_alone input mesh w)) (λ source _. h source)

jobs_hold : (job input : List ℕ) (mesh : Option (List ℕ)) (w : OptionWords) → Holds IsWithin (by_job job input mesh w)
jobs_hold job input mesh w =
    holds_if IsWithin (bytes_eq job (codes "run")) _ _
    (where_holds (goes_to_the_end w) (plans_or_chains RunsPlan RunsChains) (either_holds RunsPlan RunsChains) input mesh w)
    (holds_if IsWithin (bytes_eq job (codes "sample")) _ _
    (holds_if IsWithin (is_whole w) _ _ (samples_hold input mesh w) tt)
    (holds_if IsWithin (bytes_eq job (codes "state")) _ _
    (where_holds (stops_at_an_item w) (plans RunsPlan) (plans_hold RunsPlan) input mesh w)
    (holds_if IsWithin (bytes_eq job (codes "convert")) _ _ (converts_hold input mesh w)
    (holds_if IsWithin (bytes_eq job (codes "translate")) _ _ (alone_holds Translates (λ source. tt) input mesh w)
    (holds_if IsWithin (bytes_eq job (codes "restore")) _ _ (alone_holds Restores (λ source. tt) input mesh w)
    (holds_if IsWithin (bytes_eq job (codes "check")) _ _
    (where_holds (is_whole w) (plans_or_chains Check CountsChains) (either_holds Check CountsChains) input mesh w)
    (holds_if IsWithin (bytes_eq job (codes "plan")) _ _
    (where_holds (plans_itself w) (plans ShowsPlan) (plans_hold ShowsPlan) input mesh w)
    (holds_if IsWithin (bytes_eq job (codes "schedule")) _ _
    (where_holds (goes_to_the_end w) (plans ShowsSchedule) (plans_hold ShowsSchedule) input mesh w) tt))))))))

-- ---- words

-- what is asked for is in range
abbrev Asks : Result Command Refusal → Type 0
Asks (Ok c) = IsWithin c
Asks (Err r) = Unit {0}

or_usage_asks : (o : Option Command) → Holds IsWithin o → Asks (or_usage o)
or_usage_asks None h = tt
or_usage_asks (Some c) h = h

asked_asks : (job input mesh : Option (List ℕ)) (w : OptionWords) → Asks (asked job input mesh w)
asked_asks (Some job) (Some input) mesh w = or_usage_asks (by_job job input mesh w) (jobs_hold job input mesh w)
asked_asks (Some job) None mesh w = tt
asked_asks None input mesh w = tt

judged_asks : (ks : Kinds) (rows : List Row) → Asks (judged ks rows)
judged_asks [] rows = asked_asks (first_of (codes "JOB") rows) (first_of (codes "INPUT") rows) (first_of (codes "MESH") rows) (options_in rows)
judged_asks (kind.DisplayHelp ∷ ks) rows = tt
judged_asks (kind.DisplayVersion ∷ ks) rows = tt
judged_asks (k ∷ ks) rows = tt

pub within : OptionsAreWithin
within words c h = subst Asks h (judged_asks (fault_of command words) (matches_of command words))
