-- The target and its local number.
use Rattle.std.proofs.Common.{◌≡◌, ℕ, ◌+◌, ◌*◌, ◌<◌, ◌↔◌, length, get_or, sym, ap, ◌∙◌, subst}
use Rattle.mesh_decl.specs.declared.owners.Owners.{Owners}
use Rattle.mesh_decl.specs.declared.owners.Perms.{Perms}
use Rattle.mesh_decl.specs.Mesh.{MeshValue, map_count, map_from, map_to, map_dim, target, IsInRange}
use Rattle.mesh_decl.specs.Owners.{ArePerms}
use Rattle.lemmas.specs.Below.{row}
use Rattle.local_mesh.specs.declared.types.RankMesh.{RankMesh}
use Rattle.local_mesh.specs.LocalMesh.{IsRankMesh, originals_in, executed_in}
use Rattle.local_mesh.proofs.Firsts.{distinct}

module _ (g : MeshValue) (o : Owners) (p : Perms) (r : ℕ) (m : RankMesh) (range : IsInRange g) (perms : ArePerms g p) (is : IsRankMesh g o p r m) where
  abbrev local : ℕ → ℕ → ℕ → ℕ
  local a k i = get_or (row m.maps.items a) (k * map_dim g a + i) 0

  abbrev original : ℕ → ℕ → ℕ
  original s k = get_or (originals_in m.sets.items s) k 0

  pub by_number : (a k i l : ℕ) → a < map_count g → k < executed_in m.sets.items (map_from g a) → i < map_dim g a
      → l < length (originals_in m.sets.items (map_to g a))
      → (target g a (original (map_from g a) k) i ≡ original (map_to g a) l) ↔ (local a k i ≡ l)
  by_number a k i l la lk li ll =
      let t = is.maps a la in (
        λ e. distinct g o p r m is (map_to g a) (range.maps a la).to perms (local a k i) l (t.within k i lk li) ll (t.targets k i lk li ∙ e),
        λ e. sym (t.targets k i lk li) ∙ ap (original (map_to g a)) e,
      )

  pub by_numbers : (a b j k i l : ℕ) → a < map_count g → b < map_count g → map_to g a ≡ map_to g b
      → j < executed_in m.sets.items (map_from g a) → i < map_dim g a → k < executed_in m.sets.items (map_from g b) → l < map_dim g b
      → (target g a (original (map_from g a) j) i ≡ target g b (original (map_from g b) k) l) ↔ (local a j i ≡ local b k l)
  by_numbers a b j k i l la lb same lj li lk ll =
      let t = is.maps b lb in
      let w : local b k l < length (originals_in m.sets.items (map_to g a)) = subst (λ z. local b k l < length (originals_in m.sets.items z)) (sym same) (t.within k l lk ll) in
      let e : original (map_to g a) (local b k l) ≡ target g b (original (map_from g b) k) l = ap (λ z. original z (local b k l)) same ∙ t.targets k l lk ll in
      let h = by_number a j i (local b k l) la lj li w in (
        λ f. h.0 (f ∙ sym e),
        λ f. h.1 f ∙ e,
      )
