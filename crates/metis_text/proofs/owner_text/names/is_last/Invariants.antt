use Rattle.std.proofs.Common.{◌≡◌, ◌≤◌, ◌<◌, ℕ}
use Rattle.mesh_decl.specs.Mesh.{set_count, set_name}
use Rattle.metis_text.proofs.owner_text.names.is_last.Given as goal

-- no set from here on has the name
abbrev pub invariant-loop-later : goal.invariant-loop-later
invariant-loop-later l = record {
  within : l.later ≤ set_count l.mesh;
  none : (j : ℕ) → l.later ≤ j → j < set_count l.mesh → ¬ (set_name l.mesh j ≡ set_name l.mesh l.set);
}

abbrev pub decreases-loop-later : goal.decreases-loop-later
decreases-loop-later l = l.later
