use Rattle.std.proofs.Common.{◌≡◌, ◌<◌, ◌+◌, ◌*◌, ◌∙◌, ℕ, Some, ap, sym, subst, List, Vec, length, get_or, arith}
use Rattle.std.specs.declared.alloc.Global.{Global}
use Rattle.lemmas.specs.Below.{row}
use Rattle.lemmas.proofs.Rows.{row_read}
use Rattle.mesh_decl.specs.declared.access.Via.{Via}
use Rattle.mesh_decl.specs.Mesh.{MeshValue, map_to, map_dim, dat_set}
use Rattle.local_mesh.specs.declared.types.RankMesh.{RankMesh}
use Rattle.local_mesh.specs.LocalMesh.{executed_in, originals_in}
use Rattle.colouring.specs.declared.types.IncArg.{IncArg}
use Rattle.colouring.specs.Colours.{Leads, target_of, target_by, IsArg}
use Rattle.colouring.specs.Table.{copies_of, IsRankOf}
use Rattle.colouring.proofs.Numbering.{entry_in, read_entry}
use Rattle.colouring.proofs.table.target.Goals as goal

module _ (g : MeshValue) (r : RankMesh) (is : IsRankOf g r) (x : IncArg) (p : ℕ)
    (arg : (s : ℕ) × IsArg g s x × (p < executed_in r.sets.items s)) (via : Via) (e : x.via ≡ Some via) (v : Vec ℕ Global)
    (ev : v ≡ get_or r.maps.items via.map v) (dim : ℕ) (ed : dim ≡ map_dim g via.map) where
  leads : Leads g arg.0 (dat_set g x.dat) (Some via)
  leads = subst (λ z. Leads g arg.0 (dat_set g x.dat) z) e arg.1.leads

  is_row : v.items ≡ row r.maps.items via.map
  is_row = row_read r.maps.items via.map v (rw is.maps_count leads.0) ev

  inside : p * dim + via.index < length v.items
  inside = rw (is_row, ed) (entry_in g r.sets.items via.map p via.index arg.0 (row r.maps.items via.map) (is.maps via.map leads.0) leads.2 arg.2 leads.1)

  entry : (y : ℕ) → y ≡ get_or v.items (p * dim + via.index) y → y ≡ get_or (row r.maps.items via.map) (p * map_dim g via.map + via.index) 0
  entry y h =
      read_entry v.items (p * dim + via.index) y inside h
      ∙ (ap (λ (z : List ℕ). get_or z (p * dim + via.index) 0) is_row
      ∙ ap (λ z. get_or (row r.maps.items via.map) (p * z + via.index) 0) ed)

  value : (y : ℕ) → y ≡ get_or v.items (p * dim + via.index) y → y ≡ target_of g r.maps.items p x
  value y h = subst (λ z. y ≡ target_by g r.maps.items p z) (sym e) (entry y h)

  below : (y : ℕ) → y ≡ get_or v.items (p * dim + via.index) y → y < copies_of g r.sets.items x.dat
  below y h =
      let l : Leads g arg.0 (dat_set g x.dat) (Some via) = leads in
      let o : length (originals_in r.sets.items (map_to g via.map)) ≡ length (originals_in r.sets.items (dat_set g x.dat)) = ap (λ z. length (originals_in r.sets.items z)) l.3 in
      let w : get_or (row r.maps.items via.map) (p * map_dim g via.map + via.index) 0 < length
      (originals_in r.sets.items (map_to g via.map)) = (is.maps via.map l.0).within p via.index (rw l.2 arg.2) l.1 in
      omega (arith, entry y h, o, w)

pub index-requires-in-Some : goal.index-requires-in-Some
index-requires-in-Some c =
    let i = inside c.args.mesh.now c.args.rank.now c.requires.rank c.args.arg.now c.args.place c.requires.arg c.in-Some.via c.in-Some.is
    c.index.result.now c.index.ensures c.map_ends-dim.result.2 (ap (λ z. z.2) c.map_ends-dim.ensures) in
    omega (arith, i, c.index.result.now.ok)

pub returns-in-Some-clause-value : goal.returns-in-Some-clause-value
returns-in-Some-clause-value c = value c.args.mesh.now c.args.rank.now c.requires.rank c.args.arg.now c.args.place c.requires.arg
    c.in-Some.via c.in-Some.is c.index.result.now c.index.ensures c.map_ends-dim.result.2 (ap (λ z. z.2) c.map_ends-dim.ensures)
    c.index-in-Some.result.now c.index-in-Some.ensures

pub returns-in-Some-clause-within : goal.returns-in-Some-clause-within
returns-in-Some-clause-within c = below c.args.mesh.now c.args.rank.now c.requires.rank c.args.arg.now c.args.place c.requires.arg
    c.in-Some.via c.in-Some.is c.index.result.now c.index.ensures c.map_ends-dim.result.2 (ap (λ z. z.2) c.map_ends-dim.ensures)
    c.index-in-Some.result.now c.index-in-Some.ensures
