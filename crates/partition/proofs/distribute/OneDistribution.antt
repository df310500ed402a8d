-- The same owners and new numbers have one distribution.
use Rattle.std.proofs.Common.{◌≡◌, map, refl, sym, ap, ◌∙◌}
use Rattle.mesh_decl.specs.declared.owners.Owners.{Owners}
use Rattle.mesh_decl.specs.declared.owners.Perms.{Perms}
use Rattle.mesh_decl.specs.Mesh.{MeshValue, IsInRange}
use Rattle.mesh_decl.specs.Owners.{ArePerms}
use Rattle.local_mesh.specs.declared.halo_lists.types.Halos.{Halos}
use Rattle.local_mesh.specs.Halos.{AreHalos}
use Rattle.local_mesh.specs.HaloValues.{halos_value}
use Rattle.local_mesh.specs.Values.{rank_mesh_value, AreOne}
use Rattle.partition.specs.declared.distribute.types.Distribution.{Distribution}
use Rattle.partition.specs.Distributions.{IsDistribution, distribution_value}
use Rattle.partition.specs.Laws.{SameOwners, SamePerms}
use Rattle.partition.proofs.distribute.Alike.{halos_alike, rank_meshes_alike}

-- a law of the halos
abbrev OneHalos : Type 0
OneHalos = (g : MeshValue) (o : Owners) (a b : Halos) → AreHalos g o a → AreHalos g o b → halos_value a ≡ halos_value b

module _ (one : OneHalos) (meshes : AreOne) (g : MeshValue) (o u : Owners) (p q : Perms) (a b : Distribution) (range : IsInRange g) (perms : ArePerms g p)
    (same : SameOwners o u) (numbers : SamePerms p q) (h : IsDistribution g o p a) (k : IsDistribution g u q b) where
  back : SameOwners u o
  back = (sym same.0, sym same.1)

  halos_same : halos_value a.halos ≡ halos_value b.halos
  halos_same = one g o a.halos b.halos h.halos (halos_alike g u o back b.halos k.halos)

  ranks_same : map rank_mesh_value a.ranks.items ≡ map rank_mesh_value b.ranks.items
  ranks_same = meshes g o p a.ranks.items b.ranks.items range perms h.ranks (rank_meshes_alike g u o back q p (sym numbers) b.ranks.items k.ranks)

  pub one_distribution : distribution_value a ≡ distribution_value b
  unfolding distribution_value
  one_distribution =
      let count : a.owners.ranks ≡ b.owners.ranks = ap (λ (z : Owners). z.ranks) h.owners ∙ (same.0 ∙ sym (ap (λ (z : Owners). z.ranks) k.owners)) in
      let owners : a.owners.sets.items ≡ b.owners.sets.items = ap (λ (z : Owners). z.sets.items) h.owners ∙ (same.1 ∙ sym (ap (λ (z : Owners). z.sets.items) k.owners)) in
      rw (count, owners, halos_same, ranks_same) refl
