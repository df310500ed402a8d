use Rattle.std.proofs.Common.{◌≡◌, ◌≤◌}
use Rattle.mesh_decl.specs.Mesh.{set_count}
use Rattle.partition.specs.Reading.{set_below}
use Rattle.partition.proofs.part_text.read.find_set.Given as goal

abbrev pub invariant-loop-set : goal.invariant-loop-set
invariant-loop-set l = record {
  same : set_below l.mesh l.name (set_count l.mesh) ≡ set_below l.mesh l.name l.set;
  within : l.set ≤ set_count l.mesh;
}

abbrev pub decreases-loop-set : goal.decreases-loop-set
decreases-loop-set l = l.set
