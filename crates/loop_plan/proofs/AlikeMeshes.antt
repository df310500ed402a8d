-- What is read of local meshes is read of their lists.
use Rattle.std.proofs.Common.{◌≡◌, ◌+◌, ◌<◌, ◌≤◌, ℕ, zero, suc, Bool, List, [], ◌∷◌, Vec, cond, nat_eq, length, get_or, map, drop, refl, sym, ap, ◌∙◌, arith, ⊎_elim}
use Rattle.std.specs.declared.alloc.Global.{Global}
use Rattle.std.specs.List.{list_any}
use Rattle.std.proofs.lemmas.Bool.{cases_lt}
use Rattle.std.proofs.lemmas.List.{get_or-map, get_or_past, length-map}
use Rattle.std.proofs.lemmas.Simd.{map-map}
use Rattle.std.proofs.Math.Path.{fun_ext}
use Rattle.lemmas.specs.Below.{row}
use Rattle.mesh_decl.specs.Mesh.{MeshValue, dat_set}
use Rattle.local_mesh.specs.HaloValues.{lists_of}
use Rattle.local_mesh.specs.declared.types.LocalSet.{LocalSet}
use Rattle.local_mesh.specs.declared.types.RankMesh.{RankMesh}
use Rattle.local_mesh.specs.LocalMesh.{originals_in, executed_in}
use Rattle.local_mesh.specs.Values.{LocalSetValue, local_set_value, RankMeshValue, rank_mesh_value}
use Rattle.bound_program.specs.Values.{SiteValue}
use Rattle.bound_program.specs.Classes.{scatters}
use Rattle.loop_plan.specs.Pairs.{sets_of, own_in, core_in, owned, imported, imports_from, passes}
use Rattle.loop_plan.specs.Places.{places_of, maps_of}
use Rattle.loop_plan.specs.PlanText.{halo_line, halo_lines, all_halo_lines}

-- what a list has at a place, under a map that takes the empty to the empty
map_at : {X Y : Type 0} (f : X → Y) (xs : List X) (k : ℕ) (d : X) (e : Y) → f d ≡ e → f (get_or xs k d) ≡ get_or (map f xs) k e
map_at f xs k d e h = ⊎_elim
    (λ (l : k < length xs). sym (get_or-map f xs k d e l))
    (λ (l : length xs ≤ k). ap f (get_or_past xs k d l) ∙ (h ∙ sym (get_or_past (map f xs) k e (let m = length-map xs f in omega arith))))
    (cases_lt k (length xs))

-- ---- a rank's sets

-- two lists of sets that are the same as lists
module _ (xs ys : List LocalSet) (same : map local_set_value xs ≡ map local_set_value ys) where
  field : {Y : Type 0} (f : LocalSetValue → Y) → map (λ (l : LocalSet). f (local_set_value l)) xs ≡ map (λ (l : LocalSet). f (local_set_value l)) ys
  field f = sym (map-map f local_set_value xs) ∙ (ap (λ zs. map f zs) same ∙ map-map f local_set_value ys)

  pub own_same : (s : ℕ) → own_in xs s ≡ own_in ys s
  unfolding own_in local_set_value
  own_same s = ap (λ (zs : List ℕ). get_or zs s 0) (field (λ v. v.own))

  pub executed_same : (s : ℕ) → executed_in xs s ≡ executed_in ys s
  unfolding executed_in local_set_value
  executed_same s = ap (λ (zs : List ℕ). get_or zs s 0) (field (λ v. v.own + v.exec))

  pub originals_same : (s : ℕ) → originals_in xs s ≡ originals_in ys s
  unfolding originals_in local_set_value
  originals_same s = ap (λ (zs : List (List ℕ)). get_or zs s []) (field (λ v. v.original))

  pub core_same : (s : ℕ) → core_in xs s ≡ core_in ys s
  unfolding core_in local_set_value
  core_same s = ap (λ (zs : List (List Bool)). get_or zs s []) (field (λ v. v.core))

  pub owned_same : (s : ℕ) → owned xs s ≡ owned ys s
  owned_same s = rw (own_same s, originals_same s) refl

  pub imported_same : (s : ℕ) → imported xs s ≡ imported ys s
  imported_same s = rw (own_same s, originals_same s) refl

  pub halo_line_same : (g : MeshValue) (s r : ℕ) → halo_line g xs s r ≡ halo_line g ys s r
  halo_line_same g s r = rw (own_same s, executed_same s, originals_same s) refl

  pub places_by_same : (b : Bool) (s : ℕ) → cond b (executed_in xs s) (own_in xs s) ≡ cond b (executed_in ys s) (own_in ys s)
  places_by_same b s = rw (own_same s, executed_same s) refl

imports_same : (ws xs ys vs : List LocalSet) → map local_set_value ws ≡ map local_set_value xs → map local_set_value ys ≡ map local_set_value vs → (t : ℕ) → imports_from ws ys t ≡ imports_from xs vs t
unfolding imports_from
imports_same ws xs ys vs e f t =
    ap (λ (zs : List ℕ). list_any (λ x. list_any (nat_eq x) (owned ws t)) zs) (imported_same ys vs f t)
    ∙ ap (λ (zs : List ℕ). list_any (λ x. list_any (nat_eq x) zs) (imported vs t)) (owned_same ws xs e t)

-- ---- the local meshes

sets_value : (meshes : List RankMesh) (r : ℕ) → map local_set_value (sets_of meshes r) ≡ get_or (map (λ (v : RankMeshValue). v.sets) (map rank_mesh_value meshes)) r []
unfolding sets_of rank_mesh_value
sets_value meshes r =
    map_at (λ zs. map local_set_value zs) (map (λ (m : RankMesh). m.sets.items) meshes) r [] [] refl
    ∙ (ap (λ zs. get_or zs r []) (map-map (λ zs. map local_set_value zs) (λ (m : RankMesh). m.sets.items) meshes)
    ∙ ap (λ zs. get_or zs r []) (sym (map-map (λ (v : RankMeshValue). v.sets) rank_mesh_value meshes)))

maps_value : (meshes : List RankMesh) (r : ℕ) → lists_of (maps_of meshes r) ≡ get_or (map (λ (v : RankMeshValue). v.maps) (map rank_mesh_value meshes)) r []
unfolding maps_of rank_mesh_value lists_of
maps_value meshes r =
    map_at lists_of (map (λ (m : RankMesh). m.maps.items) meshes) r [] [] refl
    ∙ (ap (λ zs. get_or zs r []) (map-map lists_of (λ (m : RankMesh). m.maps.items) meshes)
    ∙ ap (λ zs. get_or zs r []) (sym (map-map (λ (v : RankMeshValue). v.maps) rank_mesh_value meshes)))

row_value : (xs : List (Vec ℕ Global)) (k : ℕ) → row xs k ≡ get_or (lists_of xs) k []
unfolding row lists_of
row_value xs k = refl

module _ (meshes others : List RankMesh) (same : map rank_mesh_value meshes ≡ map rank_mesh_value others) where
  pub length_same : length meshes ≡ length others
  length_same = sym (length-map meshes rank_mesh_value) ∙ (ap (λ (zs : List RankMeshValue). length zs) same ∙ length-map others rank_mesh_value)

  pub sets_same : (r : ℕ) → map local_set_value (sets_of meshes r) ≡ map local_set_value (sets_of others r)
  sets_same r = sets_value meshes r ∙ (ap (λ zs. get_or (map (λ (v : RankMeshValue). v.sets) zs) r []) same ∙ sym (sets_value others r))

  pub rows_same : (r k : ℕ) → row (maps_of meshes r) k ≡ row (maps_of others r) k
  rows_same r k =
      row_value (maps_of meshes r) k
      ∙ (ap (λ zs. get_or zs k []) (maps_value meshes r ∙ (ap (λ zs. get_or (map (λ (v : RankMeshValue). v.maps) zs) r []) same ∙ sym (maps_value others r)))
      ∙ sym (row_value (maps_of others r) k))

  pub places_same : (s : SiteValue) (r : ℕ) → places_of meshes s r ≡ places_of others s r
  places_same s r = places_by_same (sets_of meshes r) (sets_of others r) (sets_same r) (scatters s.args) s.set

  pub passes_same : (g : MeshValue) (dats : List ℕ) (s r : ℕ) → passes g meshes dats s r ≡ passes g others dats s r
  passes_same g dats s r = ap (λ (f : ℕ → Bool). list_any f dats)
      (fun_ext (λ d. imports_same (sets_of meshes s) (sets_of others s) (sets_of meshes r) (sets_of others r) (sets_same s) (sets_same r) (dat_set g d)))

-- ---- the lines of halos

module _ (g : MeshValue) (s : ℕ) where
  same_lines : (r : ℕ) (xs ys : List RankMesh) → map rank_mesh_value xs ≡ map rank_mesh_value ys → halo_lines g s r xs ≡ halo_lines g s r ys
  unfolding rank_mesh_value
  same_lines r [] [] e = refl
  same_lines r [] (y ∷ ys) e = let z : 0 ≡ suc (length (map rank_mesh_value ys)) = ap (λ (zs : List RankMeshValue). length zs) e in absurd (omega arith)
  same_lines r (x ∷ xs) [] e = let z : suc (length (map rank_mesh_value xs)) ≡ 0 = ap (λ (zs : List RankMeshValue). length zs) e in absurd (omega arith)
  same_lines r (x ∷ xs) (y ∷ ys) e =
      let none : RankMeshValue = rank_mesh_value x in
      let head : rank_mesh_value x ≡ rank_mesh_value y = ap (λ (zs : List RankMeshValue). get_or zs 0 none) e in
      let tail : map rank_mesh_value xs ≡ map rank_mesh_value ys = ap (λ (zs : List RankMeshValue). drop 1 zs) e in
      let sets : map local_set_value x.sets.items ≡ map local_set_value y.sets.items = ap (λ (v : RankMeshValue). v.sets) head in
      rw (halo_line_same x.sets.items y.sets.items sets g s r, same_lines (suc r) xs ys tail) refl

pub halo_lines_same : (g : MeshValue) (xs ys : List RankMesh) → map rank_mesh_value xs ≡ map rank_mesh_value ys → (n : ℕ) → all_halo_lines g xs n ≡ all_halo_lines g ys n
halo_lines_same g xs ys e zero = refl
halo_lines_same g xs ys e (suc s) = rw (halo_lines_same g xs ys e s, same_lines g s 0 xs ys e) refl
