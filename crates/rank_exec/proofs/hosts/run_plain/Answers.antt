use Rattle.std.proofs.Common.{map, ap, sym, subst, ◌∙◌, refl}
use Rattle.kernel_model.specs.declared.types.faults.KernelFault.{KernelFault}
use Rattle.schedule_steps.specs.declared.step.Step.TheVariants.{Join}
use Rattle.schedule_model.specs.Flat.{owned, flat_step}
use Rattle.bound_program.specs.Values.{told_act_of, var_of}
use Rattle.bound_program.specs.Fits.{ActFits}
use Rattle.run_model.specs.Hosts.{act_run}
use Rattle.run_model.specs.Memory.{Holds, memory_length}
use Rattle.run_model.specs.Programs.{act_in}
use Rattle.run_model.specs.Variables.{of_vars}
use Rattle.run_model.specs.Acts.{ActEnds}
use Rattle.rank_state.specs.Machine.{State}
use Rattle.rank_state.specs.Shows.{Shows}
use Rattle.rank_exec.proofs.Hosting.{kind_is, host_is, holds, same_act, plain_fits, goes_on, halts}
use Rattle.rank_program.specs.declared.program.DistributedProgram.{DistributedProgram}
use Rattle.rank_program.specs.Sound.{program_in, setup_in, layout_in, tables_in}
use Rattle.rank_exec.proofs.hosts.run_plain.Goals as goal

pub act-requires-clause-fits : goal.act-requires-clause-fits
act-requires-clause-fits c =
    subst (λ vs. ActFits (of_vars vs) (told_act_of c.args.act.now)) (sym (ap (map var_of) (c.deref.ensures.value ∙ ap (λ (d : DistributedProgram). d.bound.now.vars.items) c.parts.ensures.are)))
    (plain_fits (program_in c.args.program.now) (told_act_of c.args.act.now) c.requires.plain
    (subst (ActFits (program_in c.args.program.now)) (ap act_in c.requires.is)
    (c.items_are_there.ensures.acts (program_in c.args.program.now) c.args.item c.is_sound.ensures.planned.fits)))

pub act-requires-clause-cells : goal.act-requires-clause-cells
act-requires-clause-cells c =
    (holds (program_in c.args.program.now) (setup_in c.args.program.now) (layout_in c.args.program.now) (tables_in c.args.program.now)
    (refl) c.is_sound.ensures.indexed c.args.machine.now c.requires.shows.0 c.requires.shows.1 c.is_sound.ensures.variables
    c.variables_hold.ensures.hold (c.owners_show.ensures.variables (setup_in c.args.program.now) (layout_in c.args.program.now)
    (tables_in c.args.program.now) c.is_sound.ensures.indexed c.args.machine.now c.requires.shows.0 c.requires.shows.1)).length
    ∙ ap (λ vs. memory_length (of_vars vs)) (sym (ap (map var_of) (c.deref.ensures.value ∙ ap (λ (d : DistributedProgram). d.bound.now.vars.items) c.parts.ensures.are)))

pub returns-in-Ok-clause-after : goal.returns-in-Ok-clause-after
returns-in-Ok-clause-after c f h =
    subst (λ (z : State KernelFault). Shows (setup_in c.args.program.now) (layout_in c.args.program.now) (tables_in c.args.program.now) z
    (flat_step (setup_in c.args.program.now) (layout_in c.args.program.now) (Join c.args.item) f)) (sym c.act.ensures.others)
    (goes_on (program_in c.args.program.now) (setup_in c.args.program.now) (layout_in c.args.program.now) (tables_in c.args.program.now)
    (refl) c.is_sound.ensures.indexed c.args.machine.now f h c.is_sound.ensures.variables c.variables_hold.ensures.are c.args.item
    c.act.new.self.variables c.act.new.self.output
    (Unit {0}) c.in-Ok.field-0 (act_run (of_vars (program_in c.args.program.now).vars) (owned (setup_in c.args.program.now) (layout_in c.args.program.now) f) (told_act_of c.args.act.now))
    (subst (λ r. ActEnds (of_vars (program_in c.args.program.now).vars) c.act.new.self.variables
    (owned (setup_in c.args.program.now) (layout_in c.args.program.now) f) c.args.machine.now.output c.act.new.self.output r
    (act_run (of_vars (program_in c.args.program.now).vars) (owned (setup_in c.args.program.now) (layout_in c.args.program.now) f)
    (told_act_of c.args.act.now))) c.in-Ok.is
    (subst (λ vs. ActEnds (of_vars vs) c.act.new.self.variables (owned (setup_in c.args.program.now) (layout_in c.args.program.now) f)
    c.args.machine.now.output c.act.new.self.output c.in_ok-act.field-0
    (act_run (of_vars vs) (owned (setup_in c.args.program.now) (layout_in c.args.program.now) f) (told_act_of c.args.act.now)))
    (ap (map var_of) (c.deref.ensures.value ∙ ap (λ (d : DistributedProgram). d.bound.now.vars.items) c.parts.ensures.are))
    (c.in_ok-act.ensures.ends (owned (setup_in c.args.program.now) (layout_in c.args.program.now) f)
    (subst (λ vs. Holds (of_vars vs) c.args.machine.now.variables
    (owned (setup_in c.args.program.now) (layout_in c.args.program.now) f)) (sym (ap (map var_of) (c.deref.ensures.value ∙ ap (λ (d : DistributedProgram). d.bound.now.vars.items) c.parts.ensures.are)))
    (holds (program_in c.args.program.now) (setup_in c.args.program.now) (layout_in c.args.program.now) (tables_in c.args.program.now)
    (refl) c.is_sound.ensures.indexed c.args.machine.now f h c.is_sound.ensures.variables c.variables_hold.ensures.hold
    (c.owners_show.ensures.variables (setup_in c.args.program.now) (layout_in c.args.program.now) (tables_in c.args.program.now)
    c.is_sound.ensures.indexed c.args.machine.now f h))))))
    (host_is (program_in c.args.program.now) (setup_in c.args.program.now) (layout_in c.args.program.now) (tables_in c.args.program.now)
    (refl) c.args.item (told_act_of c.args.act.now) c.requires.is (owned (setup_in c.args.program.now) (layout_in c.args.program.now) f)
    ∙ sym (same_act (program_in c.args.program.now) (owned (setup_in c.args.program.now) (layout_in c.args.program.now) f)
    (told_act_of c.args.act.now) c.requires.plain))
    (c.join_shows.ensures.hosts (setup_in c.args.program.now) (layout_in c.args.program.now) (tables_in c.args.program.now)
    c.args.machine.now f h c.args.item c.requires.going
    (kind_is (program_in c.args.program.now) (setup_in c.args.program.now) (layout_in c.args.program.now) (tables_in c.args.program.now)
    (refl) c.args.item (told_act_of c.args.act.now) c.requires.is)))

pub returns-in-Err-clause-after : goal.returns-in-Err-clause-after
returns-in-Err-clause-after c f h =
    halts (program_in c.args.program.now) (setup_in c.args.program.now) (layout_in c.args.program.now) (tables_in c.args.program.now) (refl)
    c.is_sound.ensures.indexed c.args.machine.now f h c.is_sound.ensures.variables c.variables_hold.ensures.are c.args.item
    c.act.new.self.variables c.act.new.self.output
    (Unit {0}) c.in-Err.fault (act_run (of_vars (program_in c.args.program.now).vars) (owned (setup_in c.args.program.now) (layout_in c.args.program.now) f) (told_act_of c.args.act.now))
    (subst (λ r. ActEnds (of_vars (program_in c.args.program.now).vars) c.act.new.self.variables
    (owned (setup_in c.args.program.now) (layout_in c.args.program.now) f) c.args.machine.now.output c.act.new.self.output r
    (act_run (of_vars (program_in c.args.program.now).vars) (owned (setup_in c.args.program.now) (layout_in c.args.program.now) f)
    (told_act_of c.args.act.now))) c.in-Err.is
    (subst (λ vs. ActEnds (of_vars vs) c.act.new.self.variables (owned (setup_in c.args.program.now) (layout_in c.args.program.now) f)
    c.args.machine.now.output c.act.new.self.output c.in_ok-act.field-0
    (act_run (of_vars vs) (owned (setup_in c.args.program.now) (layout_in c.args.program.now) f) (told_act_of c.args.act.now)))
    (ap (map var_of) (c.deref.ensures.value ∙ ap (λ (d : DistributedProgram). d.bound.now.vars.items) c.parts.ensures.are))
    (c.in_ok-act.ensures.ends (owned (setup_in c.args.program.now) (layout_in c.args.program.now) f)
    (subst (λ vs. Holds (of_vars vs) c.args.machine.now.variables
    (owned (setup_in c.args.program.now) (layout_in c.args.program.now) f)) (sym (ap (map var_of) (c.deref.ensures.value ∙ ap (λ (d : DistributedProgram). d.bound.now.vars.items) c.parts.ensures.are)))
    (holds (program_in c.args.program.now) (setup_in c.args.program.now) (layout_in c.args.program.now) (tables_in c.args.program.now)
    (refl) c.is_sound.ensures.indexed c.args.machine.now f h c.is_sound.ensures.variables c.variables_hold.ensures.hold
    (c.owners_show.ensures.variables (setup_in c.args.program.now) (layout_in c.args.program.now) (tables_in c.args.program.now)
    c.is_sound.ensures.indexed c.args.machine.now f h))))))
    (host_is (program_in c.args.program.now) (setup_in c.args.program.now) (layout_in c.args.program.now) (tables_in c.args.program.now)
    (refl) c.args.item (told_act_of c.args.act.now) c.requires.is (owned (setup_in c.args.program.now) (layout_in c.args.program.now) f)
    ∙ sym (same_act (program_in c.args.program.now) (owned (setup_in c.args.program.now) (layout_in c.args.program.now) f)
    (told_act_of c.args.act.now) c.requires.plain))
    (c.join_shows.ensures.halts (setup_in c.args.program.now) (layout_in c.args.program.now) (tables_in c.args.program.now)
    c.args.machine.now f h c.args.item c.requires.going
    (kind_is (program_in c.args.program.now) (setup_in c.args.program.now) (layout_in c.args.program.now) (tables_in c.args.program.now)
    (refl) c.args.item (told_act_of c.args.act.now) c.requires.is))
