use Rattle.std.proofs.Common.{◌≡◌, ◌++◌, map, take}
use Rattle.mesh_decl.specs.Mesh.{dat_name}
use Rattle.loop_plan.specs.Spaced.{spaced}
use Rattle.loop_plan.proofs.writing.put_names.Given as goal

abbrev pub invariant-loop-dat : goal.invariant-loop-dat
invariant-loop-dat l = l.out.items ≡ l.initial.out.items ++ spaced (map (dat_name l.mesh) (take l.dat-index l.dats))
