-- A mesh where a dat has other values.
use Rattle.std.proofs.Common.{◌≡◌, ◌<◌, ℕ, zero, suc, ℤ, List, [], ◌∷◌, length, get_or, map, refl, sym, ap, subst, ◌∙◌, arith}
use Rattle.std.specs.Prelude.{All, slice_set}
use Rattle.std.proofs.lemmas.List.Elements.{All-cons}
use Rattle.mesh_decl.specs.declared.decl.SetDecl.{SetDecl}
use Rattle.mesh_decl.specs.declared.decl.DatDecl.{DatDecl}
use Rattle.mesh_decl.specs.Mesh.{MeshValue, IsDat, IsMesh, dat_values, with_values}

-- the dat that was read is written again, with these values
pub values_set : (xs : List DatDecl) (d : ℕ) (x : DatDecl) (zs : List ℤ) → d < length xs → x ≡ get_or xs d x → slice_set xs d (record x { values = zs }) ≡ with_values xs d zs
values_set [] d x zs l r = absurd (omega arith)
values_set (y ∷ ys) zero x zs l r = ap (λ (z : DatDecl). record z { values = zs } ∷ ys) r
values_set (y ∷ ys) (suc d) x zs l r = ap (λ l. y ∷ l) (values_set ys d x zs (omega arith) r)

pub values_count : (xs : List DatDecl) (d : ℕ) (zs : List ℤ) → length (with_values xs d zs) ≡ length xs
values_count [] d zs = refl
values_count (y ∷ ys) zero zs = refl
values_count (y ∷ ys) (suc d) zs = ap suc (values_count ys d zs)

dats_kept : (sets : List SetDecl) (xs : List DatDecl) (d : ℕ) (zs : List ℤ)
    → length zs ≡ length (get_or (map (λ (e : DatDecl). e.values) xs) d []) → All (IsDat sets) xs → All (IsDat sets) (with_values xs d zs)
dats_kept sets [] d zs e h = h
dats_kept sets (y ∷ ys) zero zs e h =
    let i : IsDat sets y = h 0 y (omega arith) in
    let now : IsDat sets (record y { values = zs }) = record { set = i.set; some = i.some; dim = i.dim; length = e ∙ i.length } in
    All-cons (IsDat sets) (record y { values = zs }) ys now (λ k x l. h (suc k) x (omega arith))
dats_kept sets (y ∷ ys) (suc d) zs e h = All-cons (IsDat sets) y (with_values ys d zs) (h 0 y (omega arith)) (dats_kept sets ys d zs e (λ k x l. h (suc k) x (omega arith)))

pub mesh_kept : (g : MeshValue) (d : ℕ) (zs : List ℤ) → length zs ≡ length (dat_values g d) → IsMesh g → IsMesh (record g { dats = with_values g.dats d zs })
unfolding dat_values
mesh_kept g d zs e i = record {
  few_sets = i.few_sets;
  few_maps = i.few_maps;
  few_dats = omega (arith, values_count g.dats d zs, i.few_dats);
  sizes = i.sizes;
  maps = i.maps;
  dats = dats_kept g.sets g.dats d zs e i.dats;
}

-- the same, read from the fields of which a mesh is the view
module _ (v g : MeshValue) (view : v ≡ g) (d : ℕ) (x : DatDecl) (zs : List ℤ) (l : d < length g.dats) (r : x ≡ get_or v.dats d x) where
  within : d < length v.dats
  within = subst (λ (h : MeshValue). d < length h.dats) (sym view) l

  pub mesh_is : record v { dats = slice_set v.dats d (record x { values = zs }) } ≡ record g { dats = with_values g.dats d zs }
  mesh_is = ap (λ ds. record v { dats = ds }) (values_set v.dats d x zs within r) ∙ ap (λ (h : MeshValue). record h { dats = with_values h.dats d zs }) view

  pub mesh_holds : length zs ≡ length (dat_values g d) → IsMesh v → IsMesh (record v { dats = slice_set v.dats d (record x { values = zs }) })
  mesh_holds e i = subst IsMesh (sym mesh_is) (mesh_kept g d zs e (subst IsMesh view i))
