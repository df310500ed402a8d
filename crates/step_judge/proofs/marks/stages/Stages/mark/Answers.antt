use Rattle.std.proofs.Common.{◌≡◌, ◌<◌, false, length, get_or}
use Rattle.step_judge.proofs.marks.Count.{mark_read}
use Rattle.step_judge.proofs.marks.stages.Stages.mark.Goals as goal

pub overflow_sub-index_mut : goal.overflow_sub-index_mut
overflow_sub-index_mut c =
    let inside : c.args.task < length c.self.inside.of.items = rw (← c.self.view_is) at c.requires.inside in
    let open_task : get_or c.self.inside.done.items c.args.task false ≡ false = rw (← c.self.view_is) at c.requires.open in
    (mark_read _ _ _ _ _ _ _ c.self.invariant inside open_task c.index.ensures c.index_mut-2.ensures.value).0

pub invariant_of-self : goal.invariant_of-self
invariant_of-self c =
    let inside : c.args.task < length c.self.inside.of.items = rw (← c.self.view_is) at c.requires.inside in
    let open_task : get_or c.self.inside.done.items c.args.task false ≡ false = rw (← c.self.view_is) at c.requires.open in
    (mark_read _ _ _ _ _ _ _ c.self.invariant inside open_task c.index.ensures c.index_mut-2.ensures.value).1
