use Rattle.std.proofs.Common.{◌≡◌, length}
use Rattle.op_num.specs.Cut.{uncut}
use Rattle.mesh_decl.specs.Mesh.{set_count}
use Rattle.partition.specs.Reading.{Magic, Between, run_from}
use Rattle.partition.proofs.part_text.read.read.Given as goal

abbrev pub invariant-loop-table : goal.invariant-loop-table
invariant-loop-table l = record {
  runs : run_from l.mesh l.ranks Magic (uncut l.fn.bytes) ≡ run_from l.mesh l.ranks (Between l.table.items) l.tokens;
  sets : length l.table.items ≡ set_count l.mesh;
}

abbrev pub decreases-loop-table : goal.decreases-loop-table
decreases-loop-table l = length l.tokens.words
