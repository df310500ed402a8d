use Rattle.std.proofs.Common.{sym, length, get_or, ap, ◌∙◌}
use Rattle.rank_layout.specs.Made.{row_of}
use Rattle.rank_program.proofs.BegunParts.{row_there, args_stand, writes_are, windows_stand}
use Rattle.rank_program.proofs.begun.push_element.Goals as goal

pub row_of-writes-requires : goal.row_of-writes-requires
row_of-writes-requires c =
    row_there c.parts-program.result.now c.parts-program.ensures.sound c.steps_stand.ensures c.args.item c.args.rank c.args.place (rw c.parts-program.ensures.are c.requires.step)
    c.loop_of-site.result (length c.deref.result.now) c.loop_of-site.ensures (ap length c.deref.ensures.value ∙ c.parts-program.ensures.sound.made.write_count)

pub push_local_windows-requires-clause-here : goal.push_local_windows-requires-clause-here
push_local_windows-requires-clause-here c =
    args_stand c.parts-program.result.now c.parts-program.ensures.sound c.steps_stand.ensures c.args.item c.args.rank c.args.place (rw c.parts-program.ensures.are c.requires.step) c.site_of.result.now c.site_of.ensures
    c.deref-2.result.now c.deref-2.ensures.value c.loop_of-site.result c.loop_of-site.ensures
    (get_or c.parts-program.result.now.meshes.now c.args.rank c.index-program-rank.result)
    (ap (get_or c.parts-program.result.now.meshes.now c.args.rank) c.index-program-rank.is) c.windows_stand.ensures.here

pub push_local_windows-requires-clause-writes : goal.push_local_windows-requires-clause-writes
push_local_windows-requires-clause-writes c =
    writes_are c.parts-program.result.now c.parts-program.ensures.sound c.steps_stand.ensures c.args.item c.args.rank c.args.place (rw c.parts-program.ensures.are c.requires.step) c.site_of.result.now c.site_of.ensures
    c.deref-2.result.now c.deref-2.ensures.value c.loop_of-site.result c.loop_of-site.ensures
    (get_or c.parts-program.result.now.meshes.now c.args.rank c.index-program-rank.result)
    (ap (get_or c.parts-program.result.now.meshes.now c.args.rank) c.index-program-rank.is)
    c.row_of-writes.result.now (c.row_of-writes.ensures ∙ ap (λ rows. row_of rows c.loop_of-site.result) c.deref.ensures.value)

pub row_of-requires : goal.row_of-requires
row_of-requires c =
    row_there c.parts-program.result.now c.parts-program.ensures.sound c.steps_stand.ensures c.args.item c.args.rank c.args.place (rw c.parts-program.ensures.are c.requires.step)
    c.loop_of-site.result (length c.deref-3.result.now) c.loop_of-site.ensures (ap length c.deref-3.ensures.value ∙ c.parts-program.ensures.sound.made.scalar_count)

pub returns-clause-are : goal.returns-clause-are
returns-clause-are c =
    rw (sym c.parts-program.ensures.are) (
    windows_stand c.parts-program.result.now c.parts-program.ensures.sound c.steps_stand.ensures c.args.item c.args.rank c.args.place (rw c.parts-program.ensures.are c.requires.step) c.site_of.result.now c.site_of.ensures
    c.deref-2.result.now c.deref-2.ensures.value c.loop_of-site.result c.loop_of-site.ensures
    (get_or c.parts-program.result.now.meshes.now c.args.rank c.index-program-rank.result)
    (ap (get_or c.parts-program.result.now.meshes.now c.args.rank) c.index-program-rank.is)
    c.element_windows_stand.ensures c.push_local_windows.new.spans.items c.row_of.result.now c.push_local_windows.ensures.spans
    (c.row_of.ensures ∙ ap (λ rows. row_of rows c.loop_of-site.result) c.deref-3.ensures.value))
