-- What a read of one field of a list of records gives.
use Rattle.std.proofs.Common.{◌≡◌, ℕ, ◌<◌, List, [], ◌∷◌, length, get_or, map, sym, ap, subst, ◌∙◌, arith}
use Rattle.std.proofs.lemmas.List.{get_or-map}
use Rattle.mesh_decl.specs.declared.decl.SetDecl.{SetDecl}
use Rattle.mesh_decl.specs.declared.decl.MapDecl.{MapDecl}
use Rattle.mesh_decl.specs.declared.decl.DatDecl.{DatDecl}
use Rattle.mesh_decl.specs.Mesh.{MeshValue}

-- the field of the record that was read
pub mapped : {X Y : Type 0} (f : X → Y) (xs : List X) (i : ℕ) (x : X) (e : Y) → i < length xs → x ≡ get_or xs i x → f x ≡ get_or (map f xs) i e
mapped f xs i x e l r = ap f r ∙ sym (get_or-map f xs i x e l)

-- an element of a list that has some
pub some_in : {X : Type 0} (xs : List X) (i : ℕ) → i < length xs → X
some_in [] i h = absurd (omega arith)
some_in (x ∷ xs) i h = x

-- the same of a declaration, read from the fields of which a mesh is the view
module _ {Y : Type 0} (e : Y) (v g : MeshValue) (view : v ≡ g) (i : ℕ) where
  pub set_field : (f : SetDecl → Y) (x : SetDecl) → i < length g.sets → x ≡ get_or v.sets i x → f x ≡ get_or (map f g.sets) i e
  set_field f x l r = subst (λ h. f x ≡ get_or (map f h.sets) i e) view (mapped f v.sets i x e (subst (λ h. i < length h.sets) (sym view) l) r)

  pub map_field : (f : MapDecl → Y) (x : MapDecl) → i < length g.maps → x ≡ get_or v.maps i x → f x ≡ get_or (map f g.maps) i e
  map_field f x l r = subst (λ h. f x ≡ get_or (map f h.maps) i e) view (mapped f v.maps i x e (subst (λ h. i < length h.maps) (sym view) l) r)

  pub dat_field : (f : DatDecl → Y) (x : DatDecl) → i < length g.dats → x ≡ get_or v.dats i x → f x ≡ get_or (map f g.dats) i e
  dat_field f x l r = subst (λ h. f x ≡ get_or (map f h.dats) i e) view (mapped f v.dats i x e (subst (λ h. i < length h.dats) (sym view) l) r)
