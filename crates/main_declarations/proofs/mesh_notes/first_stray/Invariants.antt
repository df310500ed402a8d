use Rattle.std.proofs.Common.{◌≡◌, drop}
use Rattle.main_declarations.specs.Declarations.{first_stray}
use Rattle.main_declarations.proofs.mesh_notes.first_stray.Given as goal

abbrev pub invariant-loop-value : goal.invariant-loop-value
invariant-loop-value l = record {
  stray : first_stray l.size l.index (drop l.value-index l.values) ≡ first_stray l.size 0 l.values;
  at : l.index ≡ l.value-index;
}
