use Rattle.rank_exec.proofs.planned_run.Counting.{cells_are_exported}
use Rattle.rank_exec.proofs.planned_run.Peaking.{room}
use Rattle.rank_exec.proofs.planned_run.peaks.peaks_are_room.Goals as goal

pub returns-clause-cells : goal.returns-clause-cells
returns-clause-cells c b o n meshes p pl k s r ls lr = cells_are_exported (record {
  owned = c.owned_come_first.ensures;
  distinct = c.originals_are_distinct.ensures;
  held = c.originals_are_held.ensures;
  others = c.imports_are_of_others.ensures;
  listed = c.numbers_are_listed.ensures;
  dats = c.declarations_hold.ensures.dats;
}) b o n meshes p pl s r ls lr k

pub returns-clause-room : goal.returns-clause-room
returns-clause-room c b o n meshes p pl l k a peak = room (record {
  owned = c.owned_come_first.ensures;
  distinct = c.originals_are_distinct.ensures;
  held = c.originals_are_held.ensures;
  others = c.imports_are_of_others.ensures;
  listed = c.numbers_are_listed.ensures;
  dats = c.declarations_hold.ensures.dats;
}) b o n meshes p pl l k a peak
