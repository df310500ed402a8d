-- A mesh with one declaration more, and what is so of the declarations of a mesh.
use Rattle.std.proofs.Common.{◌≡◌, ℕ, ℤ, pos, negsuc, ◌+◌, ◌*◌, ◌^◌, ◌<◌, ◌≤◌, true, List, [], ◌∷◌, ◌++◌, length, get_or, map, unsigned_abs, ⊎_elim, refl, sym, ap, subst, ◌∙◌, arith}
use Rattle.std.proofs.lemmas.Bool.Decides.{nat_tests}
use Rattle.std.proofs.lemmas.Bool.{cases_lt}
use Rattle.std.proofs.lemmas.List.{get_or-map, get_or_append_left, get_or_past, length_push, length-map, map-append}
use Rattle.std.proofs.lemmas.List.Elements.{All-get_or, All-map, All-push, All-weaker}
use Rattle.mesh_decl.specs.declared.decl.SetDecl.{SetDecl}
use Rattle.mesh_decl.specs.declared.decl.MapDecl.{MapDecl}
use Rattle.mesh_decl.specs.declared.decl.DatDecl.{DatDecl}
use Rattle.mesh_decl.specs.Mesh.{MeshValue, set_count, map_count, dat_count, size_in, set_size, map_from, map_to, map_dim, map_targets, target, dat_set, dat_dim, dat_values, is_element, AreElements, IsMap, IsDat, IsMesh, IsMapAt, IsDatAt, IsInRange}
use Rattle.mesh_decl.proofs.FieldReads.{some_in, map_field}
use native.Mathlib.Nat.{mul-le-mul_right}

-- a further set leaves the sizes of the others
pub size_in-push : (sets : List SetDecl) (d : SetDecl) (s : ℕ) → s < length sets → size_in (sets ++ d ∷ []) s ≡ size_in sets s
unfolding size_in
size_in-push sets d s h =
    ap (λ ns. get_or ns s 0) (map-append (λ (e : SetDecl). e.size) sets (d ∷ []))
    ∙ get_or_append_left (map (λ (e : SetDecl). e.size) sets) (d.size ∷ []) 0 s (rw (length-map sets (λ (e : SetDecl). e.size)) h)

more_sets : (sets : List SetDecl) (d : SetDecl) (s : ℕ) → s < length sets → s < length (sets ++ d ∷ [])
more_sets sets d s h = omega (arith, length_push sets d)

map_kept : (sets : List SetDecl) (d : SetDecl) (m : MapDecl) → IsMap sets m → IsMap (sets ++ d ∷ []) m
map_kept sets d m i = record {
  from = more_sets sets d m.from i.from;
  to = more_sets sets d m.to i.to;
  some = i.some;
  dim = i.dim;
  length = i.length ∙ ap (λ n. n * m.dim) (sym (size_in-push sets d m.from i.from));
  elements = subst (λ n. AreElements n m.targets) (sym (size_in-push sets d m.to i.to)) i.elements;
}

dat_kept : (sets : List SetDecl) (d : SetDecl) (e : DatDecl) → IsDat sets e → IsDat (sets ++ d ∷ []) e
dat_kept sets d e i = record {
  set = more_sets sets d e.set i.set;
  some = i.some;
  dim = i.dim;
  length = i.length ∙ ap (λ n. n * e.dim) (sym (size_in-push sets d e.set i.set));
}

pub with_set : (g : MeshValue) (d : SetDecl) → IsMesh g → set_count g < 4294967295 → d.size < 2 ^ 32 → IsMesh (record g { sets = g.sets ++ d ∷ [] })
with_set g d i few fits = record {
  few_sets = omega (arith, length_push g.sets d);
  few_maps = i.few_maps;
  few_dats = i.few_dats;
  sizes = All-push (λ (e : SetDecl). e.size < 2 ^ 32) g.sets d i.sizes fits;
  maps = All-weaker (IsMap g.sets) (IsMap (g.sets ++ d ∷ [])) (map_kept g.sets d) g.maps i.maps;
  dats = All-weaker (IsDat g.sets) (IsDat (g.sets ++ d ∷ [])) (dat_kept g.sets d) g.dats i.dats;
}

pub with_map : (g : MeshValue) (d : MapDecl) → IsMesh g → map_count g < 4294967295 → IsMap g.sets d → IsMesh (record g { maps = g.maps ++ d ∷ [] })
with_map g d i few is = record {
  few_sets = i.few_sets;
  few_maps = omega (arith, length_push g.maps d);
  few_dats = i.few_dats;
  sizes = i.sizes;
  maps = All-push (IsMap g.sets) g.maps d i.maps is;
  dats = i.dats;
}

pub with_dat : (g : MeshValue) (d : DatDecl) → IsMesh g → dat_count g < 4294967295 → IsDat g.sets d → IsMesh (record g { dats = g.dats ++ d ∷ [] })
with_dat g d i few is = record {
  few_sets = i.few_sets;
  few_maps = i.few_maps;
  few_dats = omega (arith, length_push g.dats d);
  sizes = i.sizes;
  maps = i.maps;
  dats = All-push (IsDat g.sets) g.dats d i.dats is;
}

-- each size fits, also that of no set, which is 0
pub sizes_fit : (g : MeshValue) → IsMesh g → (s : ℕ) → set_size g s < 2 ^ 32
unfolding size_in
sizes_fit g i s = ⊎_elim
    (λ (l : s < length g.sets). All-get_or (λ n. n < 2 ^ 32) (map (λ (d : SetDecl). d.size) g.sets) s 0
    (rw (length-map g.sets (λ (d : SetDecl). d.size)) l) (All-map (λ n. n < 2 ^ 32) (λ (d : SetDecl). d.size) g.sets i.sizes))
    (λ (l : length g.sets ≤ s). let none : get_or (map (λ (d : SetDecl). d.size) g.sets) s 0 ≡ 0 =
    get_or_past (map (λ (d : SetDecl). d.size) g.sets) s 0 (rw (length-map g.sets (λ (d : SetDecl). d.size)) l) in omega arith)
    (cases_lt s (length g.sets))

-- an index of an element's values
pub index_below : (element size dim place : ℕ) → element < size → place < dim → element * dim + place < size * dim
index_below element size dim place e p = grind (arith, mul-le-mul_right)

pub element_below : (size : ℕ) (t : ℤ) → is_element size t ≡ true → unsigned_abs t < size
element_below size (pos n) h = grind (arith, nat_tests)
element_below size (negsuc n) h = cc

-- A map by its number.
module _ (g : MeshValue) (i : IsMesh g) (m : ℕ) (h : m < map_count g) where
  abbrev decl : MapDecl
  decl = get_or g.maps m (some_in g.maps m h)

  is : IsMap g.sets decl
  is = All-get_or (IsMap g.sets) g.maps m (some_in g.maps m h) h i.maps

  from_is : map_from g m ≡ decl.from
  unfolding map_from
  from_is = get_or-map (λ (d : MapDecl). d.from) g.maps m (some_in g.maps m h) 0 h

  to_is : map_to g m ≡ decl.to
  unfolding map_to
  to_is = get_or-map (λ (d : MapDecl). d.to) g.maps m (some_in g.maps m h) 0 h

  dim_is : map_dim g m ≡ decl.dim
  unfolding map_dim
  dim_is = get_or-map (λ (d : MapDecl). d.dim) g.maps m (some_in g.maps m h) 0 h

  targets_is : map_targets g m ≡ decl.targets
  unfolding map_targets
  targets_is = get_or-map (λ (d : MapDecl). d.targets) g.maps m (some_in g.maps m h) [] h

  pub long : length (map_targets g m) ≡ set_size g (map_from g m) * map_dim g m
  long = ap length targets_is ∙ is.length ∙ ap (λ s. set_size g s * decl.dim) (sym from_is) ∙ ap (λ n. set_size g (map_from g m) * n) (sym dim_is)

  pub all_elements : AreElements (set_size g (map_to g m)) (map_targets g m)
  all_elements = subst (λ ts. AreElements (set_size g (map_to g m)) ts) (sym targets_is) (subst (λ s. AreElements (set_size g s) decl.targets) (sym to_is) is.elements)

  within : (element place : ℕ) → element < set_size g (map_from g m) → place < map_dim g m → target g m element place < set_size g (map_to g m)
  unfolding target
  within element place e p =
      let low : element * map_dim g m + place < length (map_targets g m) =
      subst (λ n. element * map_dim g m + place < n) (sym long)
      (index_below element (set_size g (map_from g m)) (map_dim g m) place e p) in
      element_below (set_size g (map_to g m)) (get_or (map_targets g m) (element * map_dim g m + place) (pos 0))
      (All-get_or (λ t. is_element (set_size g (map_to g m)) t ≡ true) (map_targets g m) (element * map_dim g m + place) (pos 0) low
      all_elements)

  pub map_at : IsMapAt g m
  map_at = record {
    from = subst (λ s. s < set_count g) (sym from_is) is.from;
    to = subst (λ s. s < set_count g) (sym to_is) is.to;
    some = subst (λ n. 0 < n) (sym dim_is) is.some;
    dim = subst (λ n. n < 2 ^ 32) (sym dim_is) is.dim;
    length = long;
    within = within;
  }

-- A dat by its number.
module _ (g : MeshValue) (i : IsMesh g) (d : ℕ) (h : d < dat_count g) where
  abbrev dat : DatDecl
  dat = get_or g.dats d (some_in g.dats d h)

  dat_is : IsDat g.sets dat
  dat_is = All-get_or (IsDat g.sets) g.dats d (some_in g.dats d h) h i.dats

  set_is : dat_set g d ≡ dat.set
  unfolding dat_set
  set_is = get_or-map (λ (e : DatDecl). e.set) g.dats d (some_in g.dats d h) 0 h

  dat_dim_is : dat_dim g d ≡ dat.dim
  unfolding dat_dim
  dat_dim_is = get_or-map (λ (e : DatDecl). e.dim) g.dats d (some_in g.dats d h) 0 h

  values_is : dat_values g d ≡ dat.values
  unfolding dat_values
  values_is = get_or-map (λ (e : DatDecl). e.values) g.dats d (some_in g.dats d h) [] h

  pub dat_at : IsDatAt g d
  dat_at = record {
    set = subst (λ s. s < set_count g) (sym set_is) dat_is.set;
    some = subst (λ n. 0 < n) (sym dat_dim_is) dat_is.some;
    dim = subst (λ n. n < 2 ^ 32) (sym dat_dim_is) dat_is.dim;
    length = ap length values_is ∙ dat_is.length ∙ ap (λ s. set_size g s * dat.dim) (sym set_is) ∙ ap (λ n. set_size g (dat_set g d) * n) (sym dat_dim_is);
  }

-- What the declaration of a map that was read says, where a mesh is the view of the fields.
module _ (v g : MeshValue) (view : v ≡ g) (i : IsMesh v) (m : ℕ) (x : MapDecl) (h : m < map_count g) (read : x ≡ get_or v.maps m x) where
  pub mesh_is : IsMesh g
  mesh_is = subst IsMesh view i

  pub read_from : x.from ≡ map_from g m
  unfolding map_from
  read_from = map_field 0 v g view m (λ (d : MapDecl). d.from) x h read

  pub read_to : x.to ≡ map_to g m
  unfolding map_to
  read_to = map_field 0 v g view m (λ (d : MapDecl). d.to) x h read

  pub read_dim : x.dim ≡ map_dim g m
  unfolding map_dim
  read_dim = map_field 0 v g view m (λ (d : MapDecl). d.dim) x h read

  read_targets : x.targets ≡ map_targets g m
  unfolding map_targets
  read_targets = map_field [] v g view m (λ (d : MapDecl). d.targets) x h read

  pub read_elements : (size : ℕ) × (size < 2 ^ 32) × AreElements size x.targets
  read_elements = (set_size g (map_to g m), sizes_fit g mesh_is (map_to g m), subst (λ ts. AreElements (set_size g (map_to g m)) ts) (sym read_targets) (all_elements g mesh_is m h))

  pub read_within : (element place : ℕ) → element < set_size g (map_from g m) → place < map_dim g m → element * x.dim + place < length x.targets
  read_within element place e p =
      let low = index_below element (set_size g (map_from g m)) (map_dim g m) place e p in
      let size = long g mesh_is m h in
      rw (read_dim, read_targets, size) low

  pub read_target : (element place : ℕ) → unsigned_abs (get_or x.targets (element * x.dim + place) (pos 0)) ≡ target g m element place
  unfolding target
  read_target element place = rw (read_dim, read_targets) refl

pub in_range : (g : MeshValue) → IsMesh g → IsInRange g
in_range g i = record { sizes = sizes_fit g i; maps = map_at g i; dats = dat_at g i }
