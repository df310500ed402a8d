use Rattle.std.proofs.Common.{◌≡◌, ◌≤◌, length}
use Rattle.op_num.specs.Cut.{uncut}
use Rattle.mesh_decl.specs.declared.text.entry.TheConstants.{MESH_VALUES}
use Rattle.mesh_decl.specs.Spelling.{total}
use Rattle.mesh_decl.specs.Reading.{Magic, Between, run_from}
use Rattle.mesh_decl.proofs.text.read.read.Given as goal

abbrev pub invariant-loop-entries : goal.invariant-loop-entries
invariant-loop-entries l = record {
  runs : run_from Magic (uncut l.fn.bytes) ≡ run_from (Between l.form l.entries.entries) l.tokens;
  total : l.total ≡ total l.entries.entries;
  room : l.total ≤ MESH_VALUES;
}

abbrev pub decreases-loop-entries : goal.decreases-loop-entries
decreases-loop-entries l = length l.tokens.words
