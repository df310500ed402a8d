-- Places whose elements have a common target are in conflict.
use Rattle.std.proofs.Common.{◌≡◌, ℕ, ◌+◌, ◌*◌, ◌<◌, ◌≤◌, sym, ap, subst, ◌∙◌, arith, List, Option, Some, None, length, get_or}
use Rattle.std.specs.Prelude.{Contains}
use Rattle.mesh_decl.specs.declared.owners.Owners.{Owners}
use Rattle.mesh_decl.specs.declared.owners.Perms.{Perms}
use Rattle.mesh_decl.specs.declared.access.Via.{Via}
use Rattle.mesh_decl.specs.Mesh.{MeshValue, IsDatAt, set_count, dat_count, map_dim, target, dat_set}
use Rattle.mesh_decl.specs.Owners.{ArePerms}
use Rattle.lemmas.specs.Below.{row}
use Rattle.local_mesh.specs.declared.types.RankMesh.{RankMesh}
use Rattle.local_mesh.specs.LocalMesh.{IsRankMesh, executed_in, originals_in}
use Rattle.local_mesh.specs.Numbers.{OriginalsAreDistinct}
use Rattle.colouring.specs.declared.types.IncArg.{IncArg}
use Rattle.colouring.specs.Colours.{target_of, target_by, reached_by, Conflict, Leads, IsArg, AreArgs}
use Rattle.colouring.specs.Table.{IsRankOf}
use Rattle.colouring.proofs.Numbering.{rank_is, target_within}

module _ (distinct : OriginalsAreDistinct) (g : MeshValue) (o : Owners) (p : Perms) (r : ℕ) (m : RankMesh) (perms : ArePerms g p)
    (dats : (d : ℕ) → d < dat_count g → IsDatAt g d) (is : IsRankMesh g o p r m) where
  -- the target's original number
  at_target : (s t x : ℕ) (v : Option Via) → Leads g s t v → x < executed_in m.sets.items s
      → get_or (originals_in m.sets.items t) (target_by g m.maps.items x v) 0 ≡ reached_by g (get_or (originals_in m.sets.items s) x 0) v
  at_target s t x None e l = ap (λ z. get_or (originals_in m.sets.items z) x 0) e
  at_target s t x (Some v) e l =
      ap (λ z. get_or (originals_in m.sets.items z) (get_or (row m.maps.items v.map) (x * map_dim g v.map + v.index) 0) 0) (sym e.3)
      ∙ ((is.maps v.map e.0).targets x v.index (rw e.2 l) e.1
      ∙ ap (λ z. target g v.map (get_or (originals_in m.sets.items z) x 0) v.index) e.2)

  pub reached_conflict : (args : List IncArg) (places : ℕ) (a : AreArgs g m.sets.items places args) (x y : IncArg) (e f : ℕ)
      → Contains args x → Contains args y → x.dat ≡ y.dat → e < places → f < places
      → reached_by g (get_or (originals_in m.sets.items a.set) e 0) x.via ≡ reached_by g (get_or (originals_in m.sets.items a.set) f 0)
      y.via → Conflict g m.maps.items args e f
  reached_conflict args places a x y e f cx cy d le lf same =
      let ix : IsArg g a.set x = subst (λ z. IsArg g a.set z) cx.2 (a.each cx.0 x cx.1) in
      let iy : IsArg g a.set y = subst (λ z. IsArg g a.set z) cy.2 (a.each cy.0 y cy.1) in
      let n : places ≤ executed_in m.sets.items a.set = a.executed (let l : cx.0 < length args = cx.1 in omega arith) in
      let k : IsRankOf g m = rank_is g o p r m is in
      let sx : dat_set g x.dat < set_count g = (dats x.dat ix.dat).set in
      let sy : dat_set g y.dat < set_count g = (dats y.dat iy.dat).set in
      let wx : target_of g m.maps.items e x < length (originals_in m.sets.items (dat_set g x.dat)) = target_within g m k x e a.set sx ix (omega arith) in
      let wy : target_of g m.maps.items f y < length (originals_in m.sets.items (dat_set g y.dat)) = target_within g m k y f a.set sy iy (omega arith) in
      let ox = at_target a.set (dat_set g x.dat) e x.via ix.leads (omega arith) in
      let oy = at_target a.set (dat_set g y.dat) f y.via iy.leads (omega arith) in
      let t : dat_set g y.dat ≡ dat_set g x.dat = ap (dat_set g) (sym d) in (
        x,
        y,
        cx,
        cy,
        d,
        distinct g o p r m perms is (dat_set g x.dat) (target_of g m.maps.items e x) (target_of g m.maps.items f y) sx wx
            (subst (λ z. target_of g m.maps.items f y < length (originals_in m.sets.items z)) t wy)
            (ox ∙ (same ∙ (sym oy ∙ ap (λ z. get_or (originals_in m.sets.items z) (target_of g m.maps.items f y) 0) t))),
      )
