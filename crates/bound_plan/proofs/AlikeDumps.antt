-- What is dumped by local meshes is dumped by their lists.
use Rattle.std.proofs.Common.{◌≡◌, ℕ, zero, suc, ℤ, List, [], ◌∷◌, length, get_or, map, drop, refl, sym, ap, ◌∙◌, arith}
use Rattle.std.proofs.lemmas.Simd.{map-map}
use Rattle.mesh_decl.specs.Mesh.{MeshValue, dat_count}
use Rattle.local_mesh.specs.declared.types.LocalSet.{LocalSet}
use Rattle.local_mesh.specs.declared.types.RankMesh.{RankMesh}
use Rattle.local_mesh.specs.LocalMesh.{originals_in}
use Rattle.local_mesh.specs.Numbers.{own_in}
use Rattle.local_mesh.specs.Values.{LocalSetValue, local_set_value, RankMeshValue, rank_mesh_value}
use Rattle.run_model.specs.Dump.{exec_in, nonexec_in, dat_text, dats_text, ranks_text, dump_text}

-- two lists of sets that are the same as lists
module _ (xs ys : List LocalSet) (same : map local_set_value xs ≡ map local_set_value ys) where
  field : {Y : Type 0} (f : LocalSetValue → Y) → map (λ (l : LocalSet). f (local_set_value l)) xs ≡ map (λ (l : LocalSet). f (local_set_value l)) ys
  field f = sym (map-map f local_set_value xs) ∙ (ap (λ zs. map f zs) same ∙ map-map f local_set_value ys)

  own_same : (s : ℕ) → own_in xs s ≡ own_in ys s
  unfolding own_in local_set_value
  own_same s = ap (λ (zs : List ℕ). get_or zs s 0) (field (λ v. v.own))

  exec_same : (s : ℕ) → exec_in xs s ≡ exec_in ys s
  unfolding local_set_value
  exec_same s = ap (λ (zs : List ℕ). get_or zs s 0) (field (λ v. v.exec))

  nonexec_same : (s : ℕ) → nonexec_in xs s ≡ nonexec_in ys s
  unfolding local_set_value
  nonexec_same s = ap (λ (zs : List ℕ). get_or zs s 0) (field (λ v. v.nonexec))

  originals_same : (s : ℕ) → originals_in xs s ≡ originals_in ys s
  unfolding originals_in local_set_value
  originals_same s = ap (λ (zs : List (List ℕ)). get_or zs s []) (field (λ v. v.original))

module _ (g : MeshValue) where
  module _ (r : ℕ) (x y : RankMesh) (same : rank_mesh_value x ≡ rank_mesh_value y) (memory : List ℤ) where
    sets : map local_set_value x.sets.items ≡ map local_set_value y.sets.items
    unfolding rank_mesh_value
    sets = ap (λ (v : RankMeshValue). v.sets) same

    bases : x.bases.items ≡ y.bases.items
    unfolding rank_mesh_value
    bases = ap (λ (v : RankMeshValue). v.bases) same

    dat_same : (d : ℕ) → dat_text g r x memory d ≡ dat_text g r y memory d
    dat_same d =
        rw (
          own_same x.sets.items y.sets.items sets,
          exec_same x.sets.items y.sets.items sets,
          nonexec_same x.sets.items y.sets.items sets,
          originals_same x.sets.items y.sets.items sets,
          bases,
        ) refl

    dats_same : (n : ℕ) → dats_text g r x memory n ≡ dats_text g r y memory n
    dats_same zero = refl
    dats_same (suc d) = rw (dats_same d, dat_same d) refl

  ranks_same : (r : ℕ) (xs ys : List RankMesh) → map rank_mesh_value xs ≡ map rank_mesh_value ys → (ms : List (List ℤ)) → ranks_text g r xs ms ≡ ranks_text g r ys ms
  ranks_same r [] [] e ms = refl
  ranks_same r [] (y ∷ ys) e ms = let z : 0 ≡ suc (length (map rank_mesh_value ys)) = ap (λ (zs : List RankMeshValue). length zs) e in absurd (omega arith)
  ranks_same r (x ∷ xs) [] e ms = let z : suc (length (map rank_mesh_value xs)) ≡ 0 = ap (λ (zs : List RankMeshValue). length zs) e in absurd (omega arith)
  ranks_same r (x ∷ xs) (y ∷ ys) e [] = refl
  ranks_same r (x ∷ xs) (y ∷ ys) e (m ∷ ms) =
      let none : RankMeshValue = rank_mesh_value x in
      let head : rank_mesh_value x ≡ rank_mesh_value y = ap (λ (zs : List RankMeshValue). get_or zs 0 none) e in
      let tail : map rank_mesh_value xs ≡ map rank_mesh_value ys = ap (λ (zs : List RankMeshValue). drop 1 zs) e in
      rw (dats_same r x y head m (dat_count g), ranks_same (suc r) xs ys tail ms) refl

  pub dumps_same : (xs ys : List RankMesh) → map rank_mesh_value xs ≡ map rank_mesh_value ys → (ms : List (List ℤ)) → dump_text g xs ms ≡ dump_text g ys ms
  dumps_same xs ys e ms = rw (ranks_same 0 xs ys e ms) refl
