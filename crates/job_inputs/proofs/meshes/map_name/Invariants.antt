use Rattle.std.proofs.Common.{◌≡◌, drop, [], slice_index_or}
use Rattle.c_tree.specs.View.{hosts_of}
use Rattle.answers.specs.Said.{maps_in}
use Rattle.job_inputs.proofs.meshes.map_name.Given as goal

-- The name is that of the map with the number that is left, among those of the statements that are left.
abbrev pub invariant-loop-host : goal.invariant-loop-host
invariant-loop-host l = slice_index_or (maps_in (hosts_of (drop l.host-index l.body))) l.left [] ≡ slice_index_or (maps_in (hosts_of l.body)) l.map []
