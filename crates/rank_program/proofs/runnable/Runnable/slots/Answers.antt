use Rattle.std.proofs.Common.{sym, subst}
use Rattle.rank_state.specs.Starting.{AreSlots}
use Rattle.rank_program.specs.Sound.{program_in, plan_in, setup_in, layout_in, tables_in}
use Rattle.rank_program.proofs.runnable.Runnable.slots.Goals as goal

pub returns : goal.returns
returns c =
    rw (sym c.self.view_is) (
    let p = c.self.inside.parts in
    let sound = c.self.invariant.sound in
    subst (AreSlots (setup_in p) (layout_in p) (tables_in p)) (sym c.deref.ensures.value)
    (c.slots_stand.ensures (program_in p) p.owners.now sound.numbers p.meshes.now (plan_in p) p.lists.now p.tables sound.planned sound.made))
