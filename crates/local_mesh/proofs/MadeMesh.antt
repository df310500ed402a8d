-- The local mesh of a rank, from its sets.
use Rattle.std.proofs.Common.{◌≡◌, ◌<◌, ◌∙◌, ℕ, List, length, get_or, sym, ap, subst}
use Rattle.mesh_decl.specs.declared.owners.Owners.{Owners}
use Rattle.mesh_decl.specs.declared.owners.Perms.{Perms}
use Rattle.mesh_decl.specs.Mesh.{MeshValue, set_count, map_count}
use Rattle.lemmas.specs.Below.{row}
use Rattle.local_mesh.specs.declared.types.LocalSet.{LocalSet}
use Rattle.local_mesh.specs.declared.types.RankMesh.{RankMesh}
use Rattle.local_mesh.specs.LocalMesh.{IsLocalSet, IsRankMesh, AreLocalTargets, AreBases}

pub made_is : (g : MeshValue) (o : Owners) (p : Perms) (r : ℕ) (sets : List LocalSet) (m : RankMesh) → length sets ≡ set_count g
    → ((s : ℕ) (d : LocalSet) → s < set_count g → IsLocalSet g o p s r (get_or sets s d)) → m.sets.items ≡ sets
    → length m.maps.items ≡ map_count g → ((k : ℕ) → k < map_count g → AreLocalTargets g k sets (row m.maps.items k))
    → AreBases g sets m.bases.items m.cells → IsRankMesh g o p r m
made_is g o p r sets m n is e count maps bases = record {
  sets_count = ap (length {A = LocalSet}) e ∙ n;
  sets = subst (λ (z : List LocalSet). (s : ℕ) (d : LocalSet) → s < set_count g → IsLocalSet g o p s r (get_or z s d)) (sym e) is;
  maps_count = count;
  maps = subst (λ (z : List LocalSet). (k : ℕ) → k < map_count g → AreLocalTargets g k z (row m.maps.items k)) (sym e) maps;
  bases = subst (λ (z : List LocalSet). AreBases g z m.bases.items m.cells) (sym e) bases;
}
