use Rattle.std.proofs.Common.{◌+◌, sym, ap, subst, ◌∙◌, length}
use Rattle.schedule_model.specs.Program.{is_loop}
use Rattle.rank_state.specs.Core.{fault_of}
use Rattle.rank_state.specs.Ordered.{all_windows, left_in, total_all}
use Rattle.rank_machine.proofs.Public.{count_values}
use Rattle.rank_program.specs.Sound.{Takes, setup_in, layout_in, tables_in}
use Rattle.rank_program.specs.ProgramLaws.{each_runs}
use Rattle.rank_exec.proofs.joins.run_one_on.Goals as goal

pub element-requires-clause-takes : goal.element-requires-clause-takes
element-requires-clause-takes c =
    subst (λ n. Takes c.args.run.now.program.now c.args.run.now.item c.args.run.now.element n
    (total_all c.args.windows.now.spans.now + length c.args.windows.now.indices.now))
    (sym (ap length c.requires.values ∙ count_values (tables_in c.args.run.now.program.now).constants c.args.machine.now.variables))
    (subst (Takes c.args.run.now.program.now c.args.run.now.item c.args.run.now.element (length (tables_in c.args.run.now.program.now).constants))
    (sym (c.windows_are_counted.ensures.owned (setup_in c.args.run.now.program.now) (layout_in c.args.run.now.program.now)
    (tables_in c.args.run.now.program.now) c.args.run.now.item c.args.run.now.element c.args.windows.now.spans.now
    c.args.windows.now.indices.now c.requires.are))
    (each_runs c.args.run.now.program.now c.args.run.now.item c.args.run.now.element (ap is_loop c.requires.kind) c.requires.element))

pub element-requires-clause-inside : goal.element-requires-clause-inside
element-requires-clause-inside c =
    (c.steps_can.ensures.element (setup_in c.args.run.now.program.now) (layout_in c.args.run.now.program.now)
    (tables_in c.args.run.now.program.now) c.args.machine.now c.requires.shows.0 c.requires.shows.1 c.is_sound.ensures.indexed
    c.args.run.now.item c.args.run.now.element c.args.windows.now.spans.now c.args.windows.now.indices.now c.requires.are).inside

pub element-requires-clause-reads : goal.element-requires-clause-reads
element-requires-clause-reads c =
    (c.steps_can.ensures.element (setup_in c.args.run.now.program.now) (layout_in c.args.run.now.program.now)
    (tables_in c.args.run.now.program.now) c.args.machine.now c.requires.shows.0 c.requires.shows.1 c.is_sound.ensures.indexed
    c.args.run.now.item c.args.run.now.element c.args.windows.now.spans.now c.args.windows.now.indices.now c.requires.are).reads

pub returns-clause-fault : goal.returns-clause-fault
returns-clause-fault c = c.element.ensures.fault ∙ ap fault_of
    (ap (λ v. (layout_in c.args.run.now.program.now).core c.args.run.now.item c.args.run.now.element v
    (all_windows c.args.windows.now.spans.now c.args.windows.now.indices.now c.args.machine.now)) c.requires.values)

pub returns-clause-state : goal.returns-clause-state
returns-clause-state c = c.element.ensures.state ∙ ap
    (λ r. left_in c.args.windows.now.spans.now c.args.windows.now.indices.now r c.args.machine.now)
    (ap (λ v. (layout_in c.args.run.now.program.now).core c.args.run.now.item c.args.run.now.element v
    (all_windows c.args.windows.now.spans.now c.args.windows.now.indices.now c.args.machine.now)) c.requires.values)
