use Rattle.std.proofs.Common.{◌≡◌, ℤ, Vec, Global, map, sym, ap, ◌∙◌, subst}
use Rattle.kernel_model.specs.declared.types.faults.KernelFault.{KernelFault}
use Rattle.schedule_model.specs.Flat.{Flat, StartsFlat}
use Rattle.rank_state.specs.Machine.{State}
use Rattle.rank_state.specs.Shows.{Shows}
use Rattle.rank_state.specs.Starting.{started}
use Rattle.rank_program.specs.Sound.{setup_in, layout_in, tables_in}
use Rattle.rank_machine.proofs.start.start.Goals as goal

pub returns-clause-starts : goal.returns-clause-starts
returns-clause-starts c =
    let same : c.in_ok-machine.machine ≡ started (map (λ (v : Vec ℤ Global). v.items) c.args.memories.items) c.args.variables.items
    c.slots.result.now c.places.result.now c.args.frames c.args.mail (tables_in c.args.program.now).stride =
    c.in_ok-machine.ensures ∙ ap (λ n. started (map (λ (v : Vec ℤ Global). v.items) c.args.memories.items) c.args.variables.items
    c.slots.result.now c.places.result.now c.args.frames c.args.mail n) c.stride.ensures in
    subst (λ (s : State KernelFault). (f : Flat KernelFault) × StartsFlat (setup_in c.args.program.now) (layout_in c.args.program.now) f
    × Shows (setup_in c.args.program.now) (layout_in c.args.program.now) (tables_in c.args.program.now) s f) (sym same)
    (c.start_shows.ensures.shows (setup_in c.args.program.now) (layout_in c.args.program.now) (tables_in c.args.program.now)
    (started (map (λ (v : Vec ℤ Global). v.items) c.args.memories.items) c.args.variables.items c.slots.result.now c.places.result.now
    c.args.frames c.args.mail (tables_in c.args.program.now).stride)
    (c.start_shows.ensures.lists (setup_in c.args.program.now) (layout_in c.args.program.now) (tables_in c.args.program.now)
    (map (λ (v : Vec ℤ Global). v.items) c.args.memories.items) c.args.variables.items c.slots.result.now c.places.result.now
    c.args.frames c.args.mail c.requires.first c.slots.ensures c.places.ensures))
