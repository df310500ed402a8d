-- Owners have one halo.
use Rattle.std.proofs.Common.{◌≡◌, ℕ, ◌<◌, false, List, [], Vec, map, length, get_or, refl, sym, ap, ◌∙◌, arith}
use Rattle.std.specs.declared.alloc.Global.{Global}
use Rattle.std.proofs.lemmas.List.{ext_get_or, get_or-map, length-map}
use Rattle.mesh_decl.specs.declared.owners.Owners.{Owners}
use Rattle.mesh_decl.specs.Mesh.{MeshValue, set_count, set_size}
use Rattle.mesh_decl.proofs.Public.{some_in}
use Rattle.lemmas.specs.Below.{row, rows}
use Rattle.local_mesh.specs.declared.halo_lists.types.SetHalo.{SetHalo}
use Rattle.local_mesh.specs.declared.halo_lists.types.Halos.{Halos}
use Rattle.local_mesh.specs.Halos.{IsSetHalo, AreHalos}
use Rattle.local_mesh.specs.HaloValues.{lists_of, SetHaloValue, set_halo_value, halos_value}

length_lists : (xs : List (Vec ℕ Global)) → length (lists_of xs) ≡ length xs
unfolding lists_of
length_lists xs = length-map xs (λ (v : Vec ℕ Global). v.items)

-- as many lists, that are the same one by one
pub same_lists : (xs ys : List (Vec ℕ Global)) (n : ℕ) → length xs ≡ n → length ys ≡ n → ((k : ℕ) → k < n → row xs k ≡ row ys k) → lists_of xs ≡ lists_of ys
unfolding row lists_of
same_lists xs ys n ex ey h =
    let lx : length (lists_of xs) ≡ n = length_lists xs ∙ ex in
    let ly : length (lists_of ys) ≡ n = length_lists ys ∙ ey in
    ext_get_or [] (lists_of xs) (lists_of ys) (lx ∙ sym ly) (λ k l. h k (omega arith))

abbrev deep : List (Vec (Vec ℕ Global) Global) → List (List (List ℕ))
deep xs = map (λ (v : Vec (Vec ℕ Global) Global). lists_of v.items) xs

deep_at : (xs : List (Vec (Vec ℕ Global) Global)) (k : ℕ) → k < length xs → get_or (deep xs) k [] ≡ lists_of (rows xs k)
unfolding rows
deep_at xs k l =
    let d : Vec (Vec ℕ Global) Global = some_in xs k l in
    get_or-map (λ (v : Vec (Vec ℕ Global) Global). lists_of v.items) xs k d [] l
    ∙ ap lists_of (sym (get_or-map (λ (v : Vec (Vec ℕ Global) Global). v.items) xs k d [] l))

same_deep : (xs ys : List (Vec (Vec ℕ Global) Global)) (n : ℕ) → length xs ≡ n → length ys ≡ n → ((k : ℕ) → k < n → lists_of (rows xs k) ≡ lists_of (rows ys k)) → deep xs ≡ deep ys
same_deep xs ys n ex ey h =
    let lx : length (deep xs) ≡ n = length-map xs (λ (v : Vec (Vec ℕ Global) Global). lists_of v.items) ∙ ex in
    let ly : length (deep ys) ≡ n = length-map ys (λ (v : Vec (Vec ℕ Global) Global). lists_of v.items) ∙ ey in
    ext_get_or [] (deep xs) (deep ys) (lx ∙ sym ly)
    (λ k l. deep_at xs k (omega arith) ∙ (h k (omega arith) ∙ sym (deep_at ys k (omega arith))))

module _ (g : MeshValue) (o : Owners) where
  pub one_set_halo : (s : ℕ) (a b : SetHalo) → IsSetHalo g o s a → IsSetHalo g o s b → set_halo_value a ≡ set_halo_value b
  unfolding set_halo_value
  one_set_halo s a b h k =
      let exec : lists_of a.exec.items ≡ lists_of b.exec.items = same_lists a.exec.items b.exec.items o.ranks h.exec_count k.exec_count (λ r l. h.exec r l ∙ sym (k.exec r l)) in
      let nonexec : lists_of a.nonexec.items ≡ lists_of b.nonexec.items =
      same_lists a.nonexec.items b.nonexec.items o.ranks h.nonexec_count k.nonexec_count (λ r l. h.nonexec r l ∙ sym (k.nonexec r l)) in
      let exports : deep a.exports.items ≡ deep b.exports.items = same_deep a.exports.items b.exports.items o.ranks h.export_count k.export_count
      (λ q l. same_lists (rows a.exports.items q) (rows b.exports.items q) o.ranks (h.export_counts q l) (k.export_counts q l) (λ r lr. h.exports q r l lr ∙ sym (k.exports q r l lr))) in
      let core : a.core.items ≡ b.core.items = ext_get_or false a.core.items b.core.items (h.core_count ∙ sym k.core_count)
      (λ x l. let lx : x < set_size g s = omega (arith, h.core_count) in h.core x lx ∙ sym (k.core x lx)) in
      rw (exec, nonexec, exports, core) refl

  pub one_halos : (a b : Halos) → AreHalos g o a → AreHalos g o b → halos_value a ≡ halos_value b
  unfolding halos_value
  one_halos a b h k =
      let lx : length (map set_halo_value a.sets.items) ≡ set_count g = length-map a.sets.items set_halo_value ∙ h.count in
      let ly : length (map set_halo_value b.sets.items) ≡ set_count g = length-map b.sets.items set_halo_value ∙ k.count in
      let ranks : a.ranks ≡ b.ranks = h.ranks ∙ sym k.ranks in
      let none : SetHaloValue = record { exec = []; nonexec = []; exports = []; core = [] } in
      let sets : map set_halo_value a.sets.items ≡ map set_halo_value b.sets.items =
      ext_get_or none (map set_halo_value a.sets.items) (map set_halo_value b.sets.items) (lx ∙ sym ly)
      (λ s l.
      let ls : s < set_count g = omega arith in
      let la : s < length a.sets.items = omega (arith, h.count) in
      let lb : s < length b.sets.items = omega (arith, k.count) in
      let da : SetHalo = some_in a.sets.items s la in
      let db : SetHalo = some_in b.sets.items s lb in
      get_or-map set_halo_value a.sets.items s da none la
      ∙ (one_set_halo s (get_or a.sets.items s da) (get_or b.sets.items s db) (h.sets s da ls) (k.sets s db ls)
      ∙ sym (get_or-map set_halo_value b.sets.items s db none lb))) in
      rw (ranks, sets) refl
