use Rattle.std.proofs.Common.{◌≡◌, ◌++◌, take}
use Rattle.std.specs.List.{flat_map}
use Rattle.mesh_draw.specs.Tree.{printed}
use Rattle.mesh_draw.specs.Picture.{labels_from}
use Rattle.mesh_draw.proofs.picture.legend.put_labels.Given as goal

abbrev pub invariant-loop-above : goal.invariant-loop-above
invariant-loop-above l = l.out.items ≡ l.initial.out.items ++ flat_map printed (labels_from l.frame 0 (take l.above l.labels))
