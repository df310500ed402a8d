use Rattle.std.proofs.Common.{◌≡◌, All, map, length}
use Rattle.std.specs.List.{range_with_len}
use Rattle.mesh_draw.specs.Picture.{HasColour}
use Rattle.mesh_draw.specs.Fills.{numbered}
use Rattle.mesh_draw.proofs.labels.counted.Given as goal

abbrev pub invariant-loop-fill : goal.invariant-loop-fill
invariant-loop-fill l = record {
  labels : l.labels.items ≡ map (numbered l.word) (range_with_len 0 l.fill);
  count : length l.labels.items ≡ l.fill;
  colours : All HasColour l.labels.items;
}
