-- Least colours are as small as places are few.
use Rattle.std.proofs.Common.{◌≡◌, ℕ, zero, suc, ◌^◌, ◌<◌, ◌≤◌, ⊎_elim, arith, Bool, true, false, cond, List, length, get_or}
use Rattle.std.specs.List.{All}
use Rattle.std.proofs.lemmas.Bool.{cases_lt}
use Rattle.std.proofs.lemmas.List.{get_or_default}
use Rattle.mesh_decl.specs.declared.owners.Owners.{Owners}
use Rattle.mesh_decl.specs.declared.owners.Perms.{Perms}
use Rattle.mesh_decl.proofs.Public.{sizes_fit}
use Rattle.local_mesh.specs.declared.types.RankMesh.{RankMesh}
use Rattle.local_mesh.specs.LocalMesh.{executed_in}
use Rattle.colouring.specs.declared.types.Colours.{Colours}
use Rattle.colouring.specs.Colours.{BlocksConflict, ConflictWithin, IsLeast, AreColours}
use Rattle.colouring.proofs.Public.{few_blocks}
use Rattle.bound_program.specs.Values.{BoundValue}
use Rattle.bound_program.specs.Fits.{site_at, Fits}
use Rattle.bound_program.specs.Classes.{scatters}
use Rattle.loop_plan.specs.Distributed.{IsDistributed}
use Rattle.loop_plan.specs.Values.{PlanValue, site_plan}
use Rattle.loop_plan.specs.Pairs.{sets_of, own_in}
use Rattle.loop_plan.specs.Places.{reducing, places_of, maps_of}
use Rattle.loop_plan.specs.Proper.{Proper, HasLeastColours}
use Rattle.loop_plan.proofs.Public.{executed_few, own_within, set_fits}
use Rattle.plan_cert.specs.Laws.{HasShortColours, LeastAreShort}

-- ---- a least colour is no larger than its place

module _ (C : ℕ → ℕ → Type 0) (xs : List ℕ) (n : ℕ) (h : (p : ℕ) → p < n → IsLeast C xs p) where
  small_below : (m p : ℕ) → p < m → p < n → get_or xs p 0 ≤ p
  small_below zero p lm l = absurd (omega arith)
  small_below (suc m) p lm l = ⊎_elim
      (λ (k : p < get_or xs p 0).
      let w = (h p l).taken p k in
      let before : get_or xs w.0 0 ≤ w.0 = small_below m w.0 (let e = w.1 in omega arith) (let e = w.1 in omega arith) in
      let q = w.1 in
      let e = w.3 in
      absurd (omega arith))
      (λ (k : get_or xs p 0 ≤ p). k)
      (cases_lt p (get_or xs p 0))

  all_short : length xs ≤ n → n < 2 ^ 32 → All (λ k. k < 2 ^ 32) xs
  all_short le few i d l =
      let s : get_or xs i 0 ≤ i = small_below (suc i) i (omega arith) (omega arith) in
      let e : get_or xs i d ≡ get_or xs i 0 = get_or_default xs i d 0 l in
      omega arith

-- ---- places are few

module _ (b : BoundValue) (o : Owners) (n : Perms) (meshes : List RankMesh) (fits : Fits b) (d : IsDistributed b.mesh o n meshes) where
  few_places : (s r : ℕ) → s < length b.sites → r < length meshes → places_of meshes (site_at b s) r < 2 ^ 32
  few_places s r l lr = by_class (scatters (site_at b s).args)
    where
      few : executed_in (sets_of meshes r) (site_at b s).set < 2 ^ 32
      few = executed_few b.mesh o n meshes d.are_perms d.are_meshes r (site_at b s).set (let e = d.are_meshes.count in omega arith)
          (set_fits b meshes fits s l) (sizes_fit b.mesh fits.mesh (site_at b s).set)

      by_class : (t : Bool) → cond t (executed_in (sets_of meshes r) (site_at b s).set) (own_in (sets_of meshes r) (site_at b s).set) < 2 ^ 32
      by_class true = few
      by_class false = let w = own_within (sets_of meshes r) (site_at b s).set in let f = few in omega arith

  short : (p : PlanValue) → Proper b meshes p → HasLeastColours b meshes p → HasShortColours b p
  short p proper least s ls run r c l =
      let lr : r < length meshes = (let e = (proper.loops s ls run).colours_count in omega arith) in
      let k : Colours = get_or (site_plan p s).colours r c in
      let a : AreColours b.mesh (maps_of meshes r) (reducing (site_at b s).args) (places_of meshes (site_at b s) r) p.block k = least s r c ls run lr in
      let few = few_places s r ls lr in
      let blocks : length k.blocks.items ≤ places_of meshes (site_at b s) r = few_blocks (length k.blocks.items) p.block (places_of meshes (site_at b s) r) proper.block a.blocks_count in
      let count = a.inner_count in (
        all_short (BlocksConflict b.mesh (maps_of meshes r) (reducing (site_at b s).args) (places_of meshes (site_at b s) r) p.block)
            k.blocks.items (length k.blocks.items) a.blocks (omega arith) (omega arith),
        all_short (ConflictWithin b.mesh (maps_of meshes r) (reducing (site_at b s).args) p.block) k.inner.items (places_of meshes (site_at b s) r) a.inner (omega arith) few,
      )

pub least_are_short : LeastAreShort
least_are_short b o n meshes p fits d proper least = short b o n meshes fits d p proper least
