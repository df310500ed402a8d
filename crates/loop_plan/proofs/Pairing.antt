-- Messages by exports are those by local meshes.
use Rattle.std.proofs.Common.{◌≡◌, ◌<◌, ◌≤◌, ℕ, Bool, true, sym, ap, subst, ◌∙◌, arith, List, [], Vec, length, get_or}
use Rattle.std.specs.Prelude.{◌&&◌}
use Rattle.std.specs.declared.alloc.Global.{Global}
use Rattle.std.proofs.lemmas.Bool.{and_parts, and_from, ltb-true, lt-ltb}
use Rattle.std.proofs.lemmas.List.{get_or-map}
use Rattle.lemmas.specs.Below.{listed, row, rows}
use Rattle.lemmas.proofs.Below.{length_listed, count_lt, at_listed}
use Rattle.mesh_decl.specs.declared.owners.Owners.{Owners}
use Rattle.mesh_decl.specs.declared.owners.Perms.{Perms}
use Rattle.mesh_decl.specs.Owners.{AreOwners, ArePerms}
use Rattle.mesh_decl.specs.Mesh.{MeshValue, set_count, set_size}
use Rattle.local_mesh.specs.Halo.{owns, imports}
use Rattle.local_mesh.specs.Halos.{IsSetHalo, AreHalos}
use Rattle.local_mesh.specs.declared.halo_lists.types.SetHalo.{SetHalo}
use Rattle.local_mesh.specs.declared.halo_lists.types.Halos.{Halos}
use Rattle.local_mesh.specs.declared.types.RankMesh.{RankMesh}
use Rattle.local_mesh.specs.LocalMesh.{AreRankMeshes}
use Rattle.loop_plan.specs.Pairs.{sets_of, imports_from}
use Rattle.loop_plan.specs.Exports.{exports_in, is_some_exported, HaveExports}
use Rattle.loop_plan.proofs.Exporting.{messages}
use Rattle.lemmas.proofs.Lists.{element_at}
use Rattle.lemmas.proofs.Truth.{iff_eq}

module _ (g : MeshValue) (o : Owners) (h : Halos) (halos : AreHalos g o h) where
  set_at : (t : ℕ) → t < set_count g → (x : SetHalo) × (exports_in h t ≡ x.exports.items) × IsSetHalo g o t x
  unfolding exports_in
  set_at t l =
      let ls : t < length h.sets.items = (let e : length h.sets.items ≡ set_count g = halos.count in omega arith) in
      let s : (x : SetHalo) × ((d : SetHalo) → get_or h.sets.items t d ≡ x) = element_at h.sets.items t ls in (
        s.0,
        get_or-map (λ (x : SetHalo). x.exports.items) h.sets.items t s.0 [] ls ∙ ap (λ (x : SetHalo). x.exports.items) (s.1 s.0),
        subst (IsSetHalo g o t) (s.1 s.0) (halos.sets t s.0 l),
      )

  pub have_exports : AreOwners g o → HaveExports g h
  have_exports owners = record {
    few = (let e : h.ranks ≡ o.ranks = halos.ranks in let f : o.ranks ≤ 64 = owners.few_ranks in omega arith);
    sets = halos.count;
    owners = λ t l. (let x = set_at t l in ap (λ (z : List (Vec (Vec ℕ Global) Global)). length z) x.1 ∙ (x.2.export_count ∙ sym halos.ranks));
    ranks = λ t s l m. (let x = set_at t l in ap (λ (z : List (Vec (Vec ℕ Global) Global)). length (rows z s)) x.1
        ∙ (x.2.export_counts s (let e : h.ranks ≡ o.ranks = halos.ranks in omega arith) ∙ sym halos.ranks));
  }

  module _ (p : Perms) (meshes : List RankMesh) (perms : ArePerms g p) (ranks : AreRankMeshes g o p meshes) (s r t : ℕ) (ls : s < o.ranks) (lr : r < o.ranks) (lt : t < set_count g) where
    abbrev is_sent : ℕ → Bool
    is_sent x = imports g o t x r && owns o t x s

    exports_are : row (rows (exports_in h t) s) r ≡ listed (set_size g t) is_sent
    exports_are = let x = set_at t lt in ap (λ (z : List (Vec (Vec ℕ Global) Global)). row (rows z s) r) x.1 ∙ x.2.exports s r ls lr

    to_imports : is_some_exported (exports_in h t) s r ≡ true → imports_from (sets_of meshes s) (sets_of meshes r) t ≡ true
    to_imports e =
        let l : 0 < length (row (rows (exports_in h t) s) r) = ltb-true 0 (length (row (rows (exports_in h t) s) r)) e in
        let m : length (row (rows (exports_in h t) s) r) ≡ length (listed (set_size g t) is_sent) = ap (λ (z : List ℕ). length z) exports_are in
        let n = length_listed (set_size g t) is_sent in
        let x = at_listed (set_size g t) 0 0 is_sent (omega arith) in
        let y : ℕ = get_or (listed (set_size g t) is_sent) 0 0 in
        let w : (imports g o t y r ≡ true) × (owns o t y s ≡ true) = and_parts (imports g o t y r) (owns o t y s) x.1 in
        (messages g o p meshes perms ranks s r t ls lr lt).1 (y, x.0, w.0, w.1)

    from_imports : imports_from (sets_of meshes s) (sets_of meshes r) t ≡ true → is_some_exported (exports_in h t) s r ≡ true
    from_imports e =
        let w = (messages g o p meshes perms ranks s r t ls lr lt).0 e in
        let c = count_lt w.0 (set_size g t) is_sent w.1 (and_from (imports g o t w.0 r) (owns o t w.0 s) w.2 w.3) in
        let m : length (row (rows (exports_in h t) s) r) ≡ length (listed (set_size g t) is_sent) = ap (λ (z : List ℕ). length z) exports_are in
        let n = length_listed (set_size g t) is_sent in
        lt-ltb 0 (length (row (rows (exports_in h t) s) r)) (omega arith)

    pub exported_is_imported : is_some_exported (exports_in h t) s r ≡ imports_from (sets_of meshes s) (sets_of meshes r) t
    exported_is_imported = iff_eq (is_some_exported (exports_in h t) s r) (imports_from (sets_of meshes s) (sets_of meshes r) t) to_imports from_imports
