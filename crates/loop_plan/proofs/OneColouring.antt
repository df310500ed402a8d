-- Two plans with least colours have one colouring.
use Rattle.std.proofs.Common.{◌≡◌, ◌+◌, ◌*◌, ◌<◌, ◌≤◌, ℕ, zero, suc, true, List, Vec, Option, Some, None, length, get_or, refl, sym, ap, subst, ◌∙◌, arith, ⊎_elim}
use Rattle.std.specs.declared.alloc.Global.{Global}
use Rattle.std.proofs.lemmas.Bool.{cases_lt, cases_eq}
use Rattle.std.proofs.lemmas.List.{ext_get_or}
use Rattle.lemmas.specs.Below.{row}
use Rattle.mesh_decl.specs.declared.access.Via.{Via}
use Rattle.mesh_decl.specs.Mesh.{MeshValue, map_dim}
use Rattle.local_mesh.specs.declared.types.RankMesh.{RankMesh}
use Rattle.colouring.specs.declared.types.IncArg.{IncArg}
use Rattle.colouring.specs.declared.types.Colours.{Colours}
use Rattle.colouring.specs.Colours.{target_by, Conflict, ConflictWithin, BlocksConflict, IsLeast, AreColours}
use Rattle.bound_program.specs.Values.{BoundValue}
use Rattle.bound_program.specs.Fits.{site_at}
use Rattle.loop_plan.specs.Values.{PlanValue, site_plan}
use Rattle.loop_plan.specs.Places.{reducing, places_of, maps_of, runs_free}
use Rattle.loop_plan.specs.OnePlan.{AreLeast, LeastColoursAreOne}
use Rattle.loop_plan.proofs.AlikeMeshes.{length_same, rows_same, places_same}
use Rattle.lemmas.proofs.Numbers.{same_bound}

module _ (C D : ℕ → ℕ → Type 0) (to : (q p : ℕ) → C q p → D q p) (from : (q p : ℕ) → D q p → C q p) (xs ys : List ℕ) (n : ℕ)
    (h : (p : ℕ) → p < n → IsLeast C xs p) (k : (p : ℕ) → p < n → IsLeast D ys p) where
  least_here : (p : ℕ) → p < n → ((q : ℕ) → q < p → get_or xs q 0 ≡ get_or ys q 0) → get_or xs p 0 ≡ get_or ys p 0
  least_here p l ih = ⊎_elim
      (λ (e : get_or xs p 0 ≡ get_or ys p 0). e)
      (λ (ne : get_or xs p 0 ≡ get_or ys p 0 → ⊥). ⊎_elim
      (λ (m : get_or xs p 0 < get_or ys p 0). let w = (k p l).taken (get_or xs p 0) m in absurd ((h p l).free w.0 w.1 (from w.0 p w.2) (ih w.0 w.1 ∙ w.3)))
      (λ (m : get_or ys p 0 ≤ get_or xs p 0). let w = (h p l).taken (get_or ys p 0) (omega arith) in absurd ((k p l).free w.0 w.1 (to w.0 p w.2) (sym (ih w.0 w.1) ∙ w.3)))
      (cases_lt (get_or xs p 0) (get_or ys p 0)))
      (cases_eq (get_or xs p 0) (get_or ys p 0))

  least_below : (m p : ℕ) → p < m → p < n → get_or xs p 0 ≡ get_or ys p 0
  least_below zero p m l = absurd (omega arith)
  least_below (suc m) p lm l = least_here p l (λ q lq. least_below m q (omega arith) (omega arith))

  one_least : (p : ℕ) → p < n → get_or xs p 0 ≡ get_or ys p 0
  one_least p l = least_below (suc p) p (omega arith) l

-- the same targets, so the same conflicts
module _ (g : MeshValue) (ms ns : List (Vec ℕ Global)) (rows : (k : ℕ) → row ms k ≡ row ns k) (args : List IncArg) where
  target_by_same : (place : ℕ) (v : Option Via) → target_by g ms place v ≡ target_by g ns place v
  target_by_same place None = refl
  target_by_same place (Some v) = ap (λ (xs : List ℕ). get_or xs (place * map_dim g v.map + v.index) 0) (rows v.map)

  conflict_to : (p q : ℕ) → Conflict g ms args p q → Conflict g ns args p q
  conflict_to p q c = (c.0, c.1, c.2, c.3, c.4, sym (target_by_same p c.0.via) ∙ (c.5 ∙ target_by_same q c.1.via))

  within_to : (size p q : ℕ) → ConflictWithin g ms args size p q → ConflictWithin g ns args size p q
  within_to size p q c = (c.0, conflict_to p q c.1)

  blocks_to : (places size p q : ℕ) → BlocksConflict g ms args places size p q → BlocksConflict g ns args places size p q
  blocks_to places size p q c = (c.0, c.1, c.2, c.3, conflict_to c.0 c.1 c.4)

module _ (g : MeshValue) (ms ns : List (Vec ℕ Global)) (rows : (k : ℕ) → row ms k ≡ row ns k) (args : List IncArg) (places size : ℕ)
    (c d : Colours) (h : AreColours g ms args places size c) (k : AreColours g ns args places size d) where
  back : (k : ℕ) → row ns k ≡ row ms k
  back k = sym (rows k)

  blocks_same : c.blocks.items ≡ d.blocks.items
  blocks_same =
      let count : length c.blocks.items ≡ length d.blocks.items = same_bound (length c.blocks.items) (length d.blocks.items) (λ b. b * size < places) h.blocks_count k.blocks_count in
      ext_get_or 0 c.blocks.items d.blocks.items count
      (one_least (BlocksConflict g ms args places size) (BlocksConflict g ns args places size) (blocks_to g ms ns rows args places size) (blocks_to g ns ms back args places size)
      c.blocks.items d.blocks.items (length c.blocks.items) h.blocks (λ b l. k.blocks b (omega arith)))

  inner_same : c.inner.items ≡ d.inner.items
  inner_same =
      ext_get_or 0 c.inner.items d.inner.items (h.inner_count ∙ sym k.inner_count)
      (λ p l. one_least (ConflictWithin g ms args size) (ConflictWithin g ns args size) (within_to g ms ns rows args size) (within_to g ns ms back args size)
      c.inner.items d.inner.items places h.inner k.inner p (let e = h.inner_count in omega arith))

module _ (b : BoundValue) (meshes others : List RankMesh) (p q : PlanValue) (h : AreLeast b meshes others p q) (s r : ℕ) (c d : Colours)
    (ls : s < length b.sites) (runs : runs_free b s ≡ true) (lr : r < length meshes) where
  abbrev mine_of : Colours
  mine_of = get_or (site_plan p s).colours r c

  abbrev yours_of : Colours
  yours_of = get_or (site_plan q s).colours r d

  mine_least : AreColours b.mesh (maps_of meshes r) (reducing (site_at b s).args) (places_of meshes (site_at b s) r) p.block mine_of
  mine_least = h.colours s r c ls runs lr

  yours_least : AreColours b.mesh (maps_of others r) (reducing (site_at b s).args) (places_of meshes (site_at b s) r) p.block yours_of
  yours_least =
      let lo : r < length others = (let e = length_same meshes others h.alike in omega arith) in
      subst (λ n. AreColours b.mesh (maps_of others r) (reducing (site_at b s).args) n p.block yours_of) (sym (places_same meshes others h.alike (site_at b s) r))
      (subst (λ n. AreColours b.mesh (maps_of others r) (reducing (site_at b s).args) (places_of others (site_at b s) r) n yours_of) (sym h.block)
      (h.other_colours s r d ls runs lo))

  least_same : (mine_of.blocks.items ≡ yours_of.blocks.items) × (mine_of.inner.items ≡ yours_of.inner.items)
  least_same = (
    blocks_same b.mesh (maps_of meshes r) (maps_of others r) (rows_same meshes others h.alike r) (reducing (site_at b s).args)
        (places_of meshes (site_at b s) r) p.block mine_of yours_of mine_least yours_least,
    inner_same b.mesh (maps_of meshes r) (maps_of others r) (rows_same meshes others h.alike r) (reducing (site_at b s).args)
        (places_of meshes (site_at b s) r) p.block mine_of yours_of mine_least yours_least,
  )

pub least_colours_are_one : LeastColoursAreOne
least_colours_are_one b meshes others p q h s r c d ls runs lr = least_same b meshes others p q h s r c d ls runs lr
