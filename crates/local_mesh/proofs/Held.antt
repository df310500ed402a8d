-- What the local meshes of all ranks have of a set.
use Rattle.std.proofs.Common.{◌≡◌, ℕ, ◌<◌, ◌↔◌, true, List, [], length, get_or, sym, arith, subst}
use Rattle.std.specs.List.{Contains}
use Rattle.std.proofs.lemmas.List.{get_or-map}
use Rattle.mesh_decl.specs.declared.owners.Owners.{Owners}
use Rattle.mesh_decl.specs.declared.owners.Perms.{Perms}
use Rattle.mesh_decl.specs.Mesh.{MeshValue, set_count, set_size}
use Rattle.mesh_decl.specs.Owners.{ArePerms, perm_in}
use Rattle.mesh_decl.proofs.Public.{some_in}
use Rattle.local_mesh.specs.Halo.{owns, imports_execute, imports_nonexecute, has_copy}
use Rattle.local_mesh.specs.declared.types.LocalSet.{LocalSet}
use Rattle.local_mesh.specs.declared.types.RankMesh.{RankMesh}
use Rattle.local_mesh.specs.LocalMesh.{IsRankMesh, AreRankMeshes, AreClosed, originals_in}
use Rattle.local_mesh.specs.Lists.{sets_of, IsHeld, AreHeld}
use Rattle.local_mesh.proofs.Closing.{originals_at, executed_at}
use Rattle.local_mesh.proofs.Numbered.{number_is_copy, number_contains}
use Rattle.local_mesh.proofs.Firsts.{own_at, owned_first}

pub sets_at : (meshes : List RankMesh) (r : ℕ) (d : RankMesh) → r < length meshes → sets_of meshes r ≡ (get_or meshes r d).sets.items
unfolding sets_of
sets_at meshes r d l = get_or-map (λ (m : RankMesh). m.sets.items) meshes r d [] l

module _ (g : MeshValue) (o : Owners) (p : Perms) (perms : ArePerms g p) (s : ℕ) (l : s < set_count g) where
  pub copies_by : (r : ℕ) (m : RankMesh) → IsRankMesh g o p r m → (x : ℕ) → Contains (originals_in m.sets.items s) x ↔ ((x < set_size g s) × (has_copy g o s x r ≡ true))
  copies_by r m is x =
      let here : s < length m.sets.items = rw is.sets_count l in
      let d : LocalSet = some_in m.sets.items s here in
      let at : originals_in m.sets.items s ≡ (get_or m.sets.items s d).original = originals_at m.sets.items s d here in
      let inv = (is.sets s d l).inverse in
      subst (λ (z : List ℕ). Contains z x ↔ ((x < set_size g s) × (has_copy g o s x r ≡ true))) (sym at) (
        number_is_copy (set_size g s) (perm_in p s) (λ x. owns o s x r) (λ x. imports_execute g o s x r) (λ x. imports_nonexecute g o s x r)
            (get_or m.sets.items s d).original (perms.numbers s l) inv x,
        λ h. number_contains (set_size g s) (perm_in p s) (λ x. owns o s x r) (λ x. imports_execute g o s x r)
            (λ x. imports_nonexecute g o s x r) (get_or m.sets.items s d).original (perms.numbers s l) inv x h.0 h.1,
      )

  held_by : (r : ℕ) (m : RankMesh) → IsRankMesh g o p r m → AreClosed g m.sets.items → IsHeld g o s r m.sets.items
  held_by r m is closed =
      let here : s < length m.sets.items = rw is.sets_count l in
      let d : LocalSet = some_in m.sets.items s here in
      record {
        here = here;
        few = closed.few s l;
        held = (let a = own_at m.sets.items s d here in let b = executed_at m.sets.items s d here in let e = closed.executed s l in omega arith);
        within = λ k. closed.within s k l;
        apart = λ j k. closed.apart s j k l;
        owned = owned_first g o p r m is s l;
        copies = copies_by r m is;
      }

  pub all_held : (meshes : List RankMesh) → AreRankMeshes g o p meshes → ((r : ℕ) (m : RankMesh) → IsRankMesh g o p r m → AreClosed g m.sets.items) → AreHeld g o meshes s
  all_held meshes are closed = record {
    count = are.count;
    ranks = λ r lr. (
        let lm : r < length meshes = omega (arith, are.count) in
        let d : RankMesh = some_in meshes r lm in
        let is = are.ranks r d lr in
        subst (λ (z : List LocalSet). IsHeld g o s r z) (sym (sets_at meshes r d lm)) (held_by r (get_or meshes r d) is (closed r (get_or meshes r d) is)));
  }
