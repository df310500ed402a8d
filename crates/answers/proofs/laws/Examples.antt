-- Lines and words that are written out.
use Rattle.std.proofs.Common.{◌≡◌, true, false, [], ◌∷◌, Some, None, Ok, Err, codes, refl}
use Rattle.std.specs.Fmt.{digits}
use Rattle.op_num.specs.declared.refusals.Fault.TheVariants.{DivZero}
use Rattle.clap.proofs.OnLiterals.{clap_on_literals}
use Rattle.mesh_decl.specs.declared.text.entry.Form.TheVariants as form
use Rattle.command_words.specs.Refusal.{CannotRead, TooDeep, NoTokens, BadName, BadTarget, BadAccess, BadMesh, BadCut, BadState, BadPart, BadPartition, BadPlan, BadSchedule, BadStep, EarlyStep, LeftStep, BadStub, BeyondLimit, StateBytes, PartitionBytes, PlanBytes, Steps, ScheduleSteps, SetSize, Usage}
use Rattle.command_words.specs.Lines.{line_of, fault_line}
use Rattle.partition.specs.Parts.{Block, Bisect, Grow}
use Rattle.schedule_steps.specs.declared.step.Step.TheVariants.{Send, Recv, Begin, Join}
use Rattle.command_words.specs.Words.{CountsChains, RunsChains, Options, Whole, Before, From, Check, ShowsPlan, ShowsSchedule, RunsPlan, ByRule, ByFile, OfSize, AsPlanned, Standard, Drawn, Written, InFiles, OfSample, OnPlan, OnChains, Converts, Translates, Restores, ShowsUsage, ShowsVersion, WordsAre}

-- ---- lines

line_of_names : line_of (CannotRead (codes "m.txt")) ≡ codes "op2: cannot read m.txt\n"
line_of_names = refl

line_of_tokens : line_of (NoTokens 4 (record { line = 3; column = 28 })) ≡ codes "op2: source lex 4 at 3:28\n"
unfolding digits
line_of_tokens = refl

line_of_depth : line_of (TooDeep (record { line = 3; column = 91 })) ≡ codes "op2: source depth at 3:91\n"
unfolding digits
line_of_depth = refl

line_of_types : line_of (BadName 7 (record { line = 3; column = 6 })) ≡ codes "op2: source type 7 at 3:6\n"
unfolding digits
line_of_types = refl

line_of_target : line_of (BadTarget (record { line = 15; column = 44 }) (codes "pe") 1 1) ≡ codes "op2: source bind 10 at 15:44 map pe element 1 place 1\n"
unfolding digits
line_of_target = refl

line_of_access : line_of (BadAccess 5 (record { line = 3; column = 16 })) ≡ codes "op2: source access 5 at 3:16\n"
unfolding digits
line_of_access = refl

line_of_mesh : line_of (BadMesh 4 9) ≡ codes "op2: mesh 4 line 9\n"
unfolding digits
line_of_mesh = refl

line_of_limit : line_of (BeyondLimit SetSize 4194305) ≡ codes "op2: limit set-size 4194304 4194305\n"
unfolding digits
line_of_limit = refl

line_of_fault : fault_line (record { item = 0; element = Some 2; fault = record { kind = DivZero; at = record { line = 3; column = 31 } } })
    ≡ codes "op2: fault item 0 element 2 div-zero at 3:31\n"
unfolding digits
line_of_fault = refl

line_of_host_fault : fault_line (record { item = 1; element = None; fault = record { kind = DivZero; at = record { line = 8; column = 23 } } })
    ≡ codes "op2: fault item 1 host div-zero at 8:23\n"
unfolding digits
line_of_host_fault = refl

line_of_part : line_of (BadPart (codes "pe")) ≡ codes "op2: partition name pe\n"
unfolding digits
line_of_part = refl

line_of_partition : line_of (BadPartition 6 3) ≡ codes "op2: partition 6 line 3\n"
unfolding digits
line_of_partition = refl

line_of_steps : line_of (BeyondLimit Steps 8388609) ≡ codes "op2: limit steps 8388608 8388609\n"
unfolding digits
line_of_steps = refl

line_of_partition_bytes : line_of (BeyondLimit PartitionBytes 67108865) ≡ codes "op2: limit partition-bytes 67108864 67108865\n"
unfolding digits
line_of_partition_bytes = refl

line_of_cut : line_of (BadCut 6) ≡ codes "op2: state item 6\n"
unfolding digits
line_of_cut = refl

line_of_state : line_of (BadState 5 7) ≡ codes "op2: state 5 line 7\n"
unfolding digits
line_of_state = refl

line_of_state_bytes : line_of (BeyondLimit StateBytes 268435457) ≡ codes "op2: limit state-bytes 268435456 268435457\n"
unfolding digits
line_of_state_bytes = refl

line_of_plan : line_of (BadPlan 7 5) ≡ codes "op2: plan 7 line 5\n"
unfolding digits
line_of_plan = refl

line_of_plan_bytes : line_of (BeyondLimit PlanBytes 268435457) ≡ codes "op2: limit plan-bytes 268435456 268435457\n"
unfolding digits
line_of_plan_bytes = refl

line_of_schedule : line_of (BadSchedule 2 4) ≡ codes "op2: schedule text 2 line 4\n"
unfolding digits
line_of_schedule = refl

line_of_step : line_of (BadStep 1 7 (Send 0 1 2)) ≡ codes "op2: schedule step 1 line 7 send 0 1 2\n"
unfolding digits
line_of_step = refl

line_of_early_step : line_of (EarlyStep 3 (Begin 2 0 14) (Recv 2 0 1)) ≡ codes "op2: schedule step 3 line 3 begin 2 0 14 needs recv 2 0 1\n"
unfolding digits
line_of_early_step = refl

line_of_left_step : line_of (LeftStep 9 (Join 5)) ≡ codes "op2: schedule step 4 line 9 needs join 5\n"
unfolding digits
line_of_left_step = refl

line_of_schedule_steps : line_of (BeyondLimit ScheduleSteps 8388609) ≡ codes "op2: limit schedule-steps 8388608 8388609\n"
unfolding digits
line_of_schedule_steps = refl

line_of_stub : line_of (BadStub 1 (record { line = 3; column = 6 })) ≡ codes "op2: translate 1 at 3:6\n"
unfolding digits
line_of_stub = refl

-- ---- words

-- a plan's options where none is told
abbrev plainly : Options
plainly = record { stretch = Whole; ranks = 1; parting = ByRule Block; renumber = None; blocks = OfSize 256; schedule = Standard; workers = 1; dumps = false }

a_run : WordsAre (codes "op2" ∷ codes "run" ∷ codes "s.c" ∷ codes "m" ∷ []) (Ok (OnPlan RunsPlan plainly (InFiles (codes "s.c") (codes "m"))))
unfolding clap_on_literals
a_run = refl

a_run_behind_dashes : WordsAre (codes "op2" ∷ codes "--" ∷ codes "run" ∷ codes "-s" ∷ codes "-" ∷ []) (Ok (OnPlan RunsPlan plainly (InFiles (codes "-s") (codes "-"))))
unfolding clap_on_literals
a_run_behind_dashes = refl

a_sample : WordsAre (codes "op2" ∷ codes "sample" ∷ codes "020" ∷ []) (Ok (OnPlan RunsPlan plainly (OfSample 20)))
unfolding clap_on_literals
a_sample = refl

a_sample_too_large : WordsAre (codes "op2" ∷ codes "sample" ∷ codes "201" ∷ []) (Err Usage)
unfolding clap_on_literals
a_sample_too_large = refl

a_sample_of_a_mesh : WordsAre (codes "op2" ∷ codes "sample" ∷ codes "2" ∷ codes "m" ∷ []) (Err Usage)
unfolding clap_on_literals
a_sample_of_a_mesh = refl

a_mesh_in_runs : WordsAre (codes "op2" ∷ codes "convert" ∷ codes "m" ∷ []) (Ok (Converts form.Two (codes "m")))
unfolding clap_on_literals
a_mesh_in_runs = refl

a_plain_mesh : WordsAre (codes "op2" ∷ codes "convert" ∷ codes "--form" ∷ codes "1" ∷ codes "m" ∷ []) (Ok (Converts form.One (codes "m")))
unfolding clap_on_literals
a_plain_mesh = refl

a_third_version : WordsAre (codes "op2" ∷ codes "convert" ∷ codes "m" ∷ codes "--form=3" ∷ []) (Err Usage)
unfolding clap_on_literals
a_third_version = refl

two_versions : WordsAre (codes "op2" ∷ codes "convert" ∷ codes "m" ∷ codes "--form=1" ∷ codes "--form=1" ∷ []) (Err Usage)
unfolding clap_on_literals
two_versions = refl

a_run_in_runs : WordsAre (codes "op2" ∷ codes "run" ∷ codes "s.c" ∷ codes "m" ∷ codes "--form=1" ∷ []) (Err Usage)
unfolding clap_on_literals
a_run_in_runs = refl

no_words : WordsAre (codes "op2" ∷ []) (Err Usage)
unfolding clap_on_literals
no_words = refl

no_mesh : WordsAre (codes "op2" ∷ codes "run" ∷ codes "s.c" ∷ []) (Err Usage)
unfolding clap_on_literals
no_mesh = refl

another_job : WordsAre (codes "op2" ∷ codes "walk" ∷ codes "s.c" ∷ codes "m" ∷ []) (Err Usage)
unfolding clap_on_literals
another_job = refl

a_check : WordsAre (codes "op2" ∷ codes "check" ∷ codes "s.c" ∷ codes "m" ∷ [])
    (Ok (OnPlan Check plainly (InFiles (codes "s.c") (codes "m"))))
unfolding clap_on_literals
a_check = refl

a_plan : WordsAre (codes "op2" ∷ codes "plan" ∷ codes "--ranks=08" ∷ codes "s.c" ∷ codes "m" ∷ codes "--parts" ∷ codes "bisect:x" ∷ codes "--block=2" ∷ [])
    (Ok (OnPlan ShowsPlan (record {
      stretch = Whole;
      ranks = 8;
      parting = ByRule (Bisect (codes "x"));
      renumber = None;
      blocks = OfSize 2;
      schedule = Standard;
      workers = 1;
      dumps = false;
    }) (InFiles (codes "s.c") (codes "m"))))
unfolding clap_on_literals
a_plan = refl

a_plan_by_growth : WordsAre (codes "op2" ∷ codes "plan" ∷ codes "s.c" ∷ codes "m" ∷ codes "--parts=grow:" ∷ codes "--renumber=pe" ∷ [])
    (Ok (OnPlan ShowsPlan (record {
      stretch = Whole;
      ranks = 1;
      parting = ByRule (Grow []);
      renumber = Some (codes "pe");
      blocks =
          OfSize 256;
      schedule = Standard;
      workers = 1;
      dumps = false;
    }) (InFiles (codes "s.c") (codes "m"))))
unfolding clap_on_literals
a_plan_by_growth = refl

a_plan_by_a_file : WordsAre (codes "op2" ∷ codes "plan" ∷ codes "s.c" ∷ codes "m" ∷ codes "--partition=p" ∷ [])
    (Ok (OnPlan ShowsPlan (record {
      stretch = Whole;
      ranks = 1;
      parting = ByFile (codes "p");
      renumber = None;
      blocks = OfSize 256;
      schedule = Standard;
      workers = 1;
      dumps = false;
    }) (InFiles (codes "s.c") (codes "m"))))
unfolding clap_on_literals
a_plan_by_a_file = refl

two_partings : WordsAre (codes "op2" ∷ codes "plan" ∷ codes "s.c" ∷ codes "m" ∷ codes "--partition=p" ∷ codes "--parts=block" ∷ []) (Err Usage)
unfolding clap_on_literals
two_partings = refl

an_unknown_rule : WordsAre (codes "op2" ∷ codes "plan" ∷ codes "s.c" ∷ codes "m" ∷ codes "--parts=bisect" ∷ []) (Err Usage)
unfolding clap_on_literals
an_unknown_rule = refl

too_many_ranks : WordsAre (codes "op2" ∷ codes "check" ∷ codes "s.c" ∷ codes "m" ∷ codes "--ranks=65" ∷ []) (Err Usage)
unfolding clap_on_literals
too_many_ranks = refl

an_empty_block : WordsAre (codes "op2" ∷ codes "check" ∷ codes "s.c" ∷ codes "m" ∷ codes "--block=0" ∷ []) (Err Usage)
unfolding clap_on_literals
an_empty_block = refl

a_plan_of_a_version : WordsAre (codes "op2" ∷ codes "plan" ∷ codes "s.c" ∷ codes "m" ∷ codes "--form=1" ∷ []) (Err Usage)
unfolding clap_on_literals
a_plan_of_a_version = refl

one_word_more : WordsAre (codes "op2" ∷ codes "run" ∷ codes "s.c" ∷ codes "m" ∷ codes "x" ∷ []) (Err Usage)
unfolding clap_on_literals
one_word_more = refl

a_run_on_ranks : WordsAre (codes "op2" ∷ codes "run" ∷ codes "s.c" ∷ codes "m" ∷ codes "--ranks" ∷ codes "2" ∷ [])
    (Ok (OnPlan RunsPlan (record {
      stretch = Whole;
      ranks = 2;
      parting = ByRule Block;
      renumber = None;
      blocks = OfSize 256;
      schedule =
          Standard;
      workers = 1;
      dumps = false;
    }) (InFiles (codes "s.c") (codes "m"))))
unfolding clap_on_literals
a_run_on_ranks = refl

a_run_in_blocks : WordsAre (codes "op2" ∷ codes "run" ∷ codes "s.c" ∷ codes "m" ∷ codes "--block=1" ∷ [])
    (Ok (OnPlan RunsPlan (record {
      stretch = Whole;
      ranks = 1;
      parting = ByRule Block;
      renumber = None;
      blocks = OfSize 1;
      schedule =
          Standard;
      workers = 1;
      dumps = false;
    }) (InFiles (codes "s.c") (codes "m"))))
unfolding clap_on_literals
a_run_in_blocks = refl

a_run_on_ranks_of_a_version : WordsAre (codes "op2" ∷ codes "run" ∷ codes "s.c" ∷ codes "m" ∷ codes "--ranks=2" ∷ codes "--form=1" ∷ []) (Err Usage)
unfolding clap_on_literals
a_run_on_ranks_of_a_version = refl

a_sample_on_ranks : WordsAre (codes "op2" ∷ codes "sample" ∷ codes "2" ∷ codes "--ranks" ∷ codes "2" ∷ codes "--workers" ∷ codes "4" ∷ [])
    (Ok (OnPlan RunsPlan (record { stretch = Whole; ranks = 2; parting = ByRule Block; renumber = None; blocks = OfSize 256; schedule = Standard; workers = 4; dumps = false }) (OfSample 2)))
unfolding clap_on_literals
a_sample_on_ranks = refl

a_drawn_schedule : WordsAre (codes "op2" ∷ codes "schedule" ∷ codes "s.c" ∷ codes "m" ∷ codes "--seed" ∷ codes "7" ∷ [])
    (Ok (OnPlan ShowsSchedule (record {
      stretch = Whole;
      ranks = 1;
      parting = ByRule Block;
      renumber = None;
      blocks = OfSize 256;
      schedule =
          Drawn 7;
      workers = 1;
      dumps = false;
    }) (InFiles (codes "s.c") (codes "m"))))
unfolding clap_on_literals
a_drawn_schedule = refl

a_run_by_a_schedule : WordsAre (codes "op2" ∷ codes "run" ∷ codes "s.c" ∷ codes "m" ∷ codes "--schedule" ∷ codes "f" ∷ codes "--dump" ∷ [])
    (Ok (OnPlan RunsPlan (record {
      stretch = Whole;
      ranks = 1;
      parting = ByRule Block;
      renumber = None;
      blocks = OfSize 256;
      schedule =
          Written (codes "f");
      workers = 1;
      dumps = true;
    }) (InFiles (codes "s.c") (codes "m"))))
unfolding clap_on_literals
a_run_by_a_schedule = refl

a_check_of_a_plan : WordsAre (codes "op2" ∷ codes "check" ∷ codes "s.c" ∷ codes "m" ∷ codes "--plan" ∷ codes "p" ∷ [])
    (Ok (OnPlan Check (record {
      stretch = Whole;
      ranks = 1;
      parting = ByRule Block;
      renumber = None;
      blocks = AsPlanned (codes "p");
      schedule = Standard;
      workers = 1;
      dumps = false;
    }) (InFiles (codes "s.c") (codes "m"))))
unfolding clap_on_literals
a_check_of_a_plan = refl

a_plan_in_blocks : WordsAre (codes "op2" ∷ codes "sample" ∷ codes "2" ∷ codes "--plan=p" ∷ codes "--block=256" ∷ []) (Err Usage)
unfolding clap_on_literals
a_plan_in_blocks = refl

a_plan_by_a_plan : WordsAre (codes "op2" ∷ codes "plan" ∷ codes "s.c" ∷ codes "m" ∷ codes "--plan=p" ∷ []) (Err Usage)
unfolding clap_on_literals
a_plan_by_a_plan = refl

a_state : WordsAre (codes "op2" ∷ codes "state" ∷ codes "s.c" ∷ codes "m" ∷ codes "--at=02" ∷ [])
    (Ok (OnPlan RunsPlan (record plainly { stretch = Before 2 }) (InFiles (codes "s.c") (codes "m"))))
unfolding clap_on_literals
a_state = refl

a_state_nowhere : WordsAre (codes "op2" ∷ codes "state" ∷ codes "s.c" ∷ codes "m" ∷ []) (Err Usage)
unfolding clap_on_literals
a_state_nowhere = refl

a_state_beyond : WordsAre (codes "op2" ∷ codes "state" ∷ codes "s.c" ∷ codes "m" ∷ codes "--at=4294967296" ∷ []) (Err Usage)
unfolding clap_on_literals
a_state_beyond = refl

a_state_with_a_dump : WordsAre (codes "op2" ∷ codes "state" ∷ codes "s.c" ∷ codes "m" ∷ codes "--at=2" ∷ codes "--dump" ∷ []) (Err Usage)
unfolding clap_on_literals
a_state_with_a_dump = refl

a_run_that_stops : WordsAre (codes "op2" ∷ codes "run" ∷ codes "s.c" ∷ codes "m" ∷ codes "--at=2" ∷ []) (Err Usage)
unfolding clap_on_literals
a_run_that_stops = refl

a_run_that_goes_on : WordsAre (codes "op2" ∷ codes "run" ∷ codes "s.c" ∷ codes "m" ∷ codes "--from" ∷ codes "f" ∷ [])
    (Ok (OnPlan RunsPlan (record plainly { stretch = From (codes "f") }) (InFiles (codes "s.c") (codes "m"))))
unfolding clap_on_literals
a_run_that_goes_on = refl

a_schedule_of_a_rest : WordsAre (codes "op2" ∷ codes "schedule" ∷ codes "s.c" ∷ codes "m" ∷ codes "--from=f" ∷ [])
    (Ok (OnPlan ShowsSchedule (record plainly { stretch = From (codes "f") }) (InFiles (codes "s.c") (codes "m"))))
unfolding clap_on_literals
a_schedule_of_a_rest = refl

a_check_of_a_rest : WordsAre (codes "op2" ∷ codes "check" ∷ codes "s.c" ∷ codes "m" ∷ codes "--from=f" ∷ []) (Err Usage)
unfolding clap_on_literals
a_check_of_a_rest = refl

a_mesh_by_a_plan : WordsAre (codes "op2" ∷ codes "convert" ∷ codes "m" ∷ codes "--plan=p" ∷ []) (Err Usage)
unfolding clap_on_literals
a_mesh_by_a_plan = refl

two_schedules : WordsAre (codes "op2" ∷ codes "run" ∷ codes "s.c" ∷ codes "m" ∷ codes "--seed" ∷ codes "1" ∷ codes "--schedule" ∷ codes "f" ∷ []) (Err Usage)
unfolding clap_on_literals
two_schedules = refl

too_many_workers : WordsAre (codes "op2" ∷ codes "run" ∷ codes "s.c" ∷ codes "m" ∷ codes "--workers" ∷ codes "65" ∷ []) (Err Usage)
unfolding clap_on_literals
too_many_workers = refl

a_seed_too_large : WordsAre (codes "op2" ∷ codes "run" ∷ codes "s.c" ∷ codes "m" ∷ codes "--seed" ∷ codes "18446744073709551616" ∷ []) (Err Usage)
unfolding clap_on_literals
a_seed_too_large = refl

a_mesh_and_a_dump : WordsAre (codes "op2" ∷ codes "convert" ∷ codes "m" ∷ codes "--dump" ∷ []) (Err Usage)
unfolding clap_on_literals
a_mesh_and_a_dump = refl

a_schedule_of_no_mesh : WordsAre (codes "op2" ∷ codes "schedule" ∷ codes "s.c" ∷ []) (Err Usage)
unfolding clap_on_literals
a_schedule_of_no_mesh = refl

a_run_by_chains : WordsAre (codes "op2" ∷ codes "run" ∷ codes "s.c" ∷ codes "m" ∷ codes "--chain" ∷ codes "--ranks" ∷ codes "2" ∷ codes "--dump" ∷ [])
    (Ok (OnChains RunsChains (record { ranks = 2; parting = ByRule Block; dumps = true }) (InFiles (codes "s.c") (codes "m"))))
unfolding clap_on_literals
a_run_by_chains = refl

a_sample_by_chains : WordsAre (codes "op2" ∷ codes "sample" ∷ codes "2" ∷ codes "--chain" ∷ [])
    (Ok (OnChains RunsChains (record { ranks = 1; parting = ByRule Block; dumps = false }) (OfSample 2)))
unfolding clap_on_literals
a_sample_by_chains = refl

a_count_of_chains : WordsAre (codes "op2" ∷ codes "check" ∷ codes "s.c" ∷ codes "m" ∷ codes "--partition=p" ∷ codes "--chain" ∷ [])
    (Ok (OnChains CountsChains (record { ranks = 1; parting = ByFile (codes "p"); dumps = false }) (InFiles (codes "s.c") (codes "m"))))
unfolding clap_on_literals
a_count_of_chains = refl

a_plan_of_chains : WordsAre (codes "op2" ∷ codes "plan" ∷ codes "s.c" ∷ codes "m" ∷ codes "--chain" ∷ []) (Err Usage)
unfolding clap_on_literals
a_plan_of_chains = refl

chains_in_blocks : WordsAre (codes "op2" ∷ codes "run" ∷ codes "s.c" ∷ codes "m" ∷ codes "--chain" ∷ codes "--block" ∷ codes "256" ∷ []) (Err Usage)
unfolding clap_on_literals
chains_in_blocks = refl

chains_of_a_rest : WordsAre (codes "op2" ∷ codes "run" ∷ codes "s.c" ∷ codes "m" ∷ codes "--chain" ∷ codes "--from" ∷ codes "f" ∷ []) (Err Usage)
unfolding clap_on_literals
chains_of_a_rest = refl

a_mesh_of_chains : WordsAre (codes "op2" ∷ codes "convert" ∷ codes "m" ∷ codes "--chain" ∷ []) (Err Usage)
unfolding clap_on_literals
a_mesh_of_chains = refl

a_translation : WordsAre (codes "op2" ∷ codes "translate" ∷ codes "s.c" ∷ []) (Ok (Translates (codes "s.c")))
unfolding clap_on_literals
a_translation = refl

a_restoration : WordsAre (codes "op2" ∷ codes "restore" ∷ codes "s.c" ∷ []) (Ok (Restores (codes "s.c")))
unfolding clap_on_literals
a_restoration = refl

a_translation_over_a_mesh : WordsAre (codes "op2" ∷ codes "translate" ∷ codes "s.c" ∷ codes "m" ∷ []) (Err Usage)
unfolding clap_on_literals
a_translation_over_a_mesh = refl

a_translation_of_a_version : WordsAre (codes "op2" ∷ codes "translate" ∷ codes "s.c" ∷ codes "--form=2" ∷ []) (Err Usage)
unfolding clap_on_literals
a_translation_of_a_version = refl

a_restoration_on_ranks : WordsAre (codes "op2" ∷ codes "restore" ∷ codes "s.c" ∷ codes "--ranks=1" ∷ []) (Err Usage)
unfolding clap_on_literals
a_restoration_on_ranks = refl

help : WordsAre (codes "op2" ∷ codes "run" ∷ codes "--help" ∷ []) (Ok ShowsUsage)
unfolding clap_on_literals
help = refl

short_help : WordsAre (codes "op2" ∷ codes "-h" ∷ []) (Ok ShowsUsage)
unfolding clap_on_literals
short_help = refl

version : WordsAre (codes "op2" ∷ codes "-V" ∷ []) (Ok ShowsVersion)
unfolding clap_on_literals
version = refl
