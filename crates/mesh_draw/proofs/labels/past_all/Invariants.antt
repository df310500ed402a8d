use Rattle.std.proofs.Common.{◌≡◌, ◌≤◌, take}
use Rattle.mesh_draw.specs.Fills.{past_all}
use Rattle.mesh_draw.proofs.labels.past_all.Given as goal

abbrev pub invariant-loop-fill : goal.invariant-loop-fill
invariant-loop-fill l = record {
  past : l.past ≡ past_all (take l.fill-index l.fills);
  few : l.past ≤ 64;
}
