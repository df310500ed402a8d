-- What is declared stays so behind the declaration of a set, a map or a dat.
use Rattle.std.proofs.Common.{◌≡◌, ℕ, suc, ℤ, ◌+◌, ◌≤◌, List, [], ◌∷◌, ◌++◌, length, Bool, false, refl, sym, subst, arith}
use Rattle.std.specs.Prelude.{All, is_none}
use Rattle.std.proofs.lemmas.List.{length_push}
use Rattle.std.proofs.lemmas.List.Elements.{All-nil, All-push}
use Rattle.c_tree.specs.declared.lexer.tokens.Pos.{Pos}
use Rattle.c_tree.specs.declared.expressions.Ident.{Ident}
use Rattle.c_tree.specs.declared.expressions.NumberLiteral.{NumberLiteral}
use Rattle.c_tree.specs.declared.expressions.TextLiteral.{TextLiteral}
use Rattle.c_tree.specs.Tree.{ExprTree}
use Rattle.kernel_model.specs.declared.types.kernels.RKernel.{RKernel}
use Rattle.mesh_decl.specs.declared.decl.SetDecl.{SetDecl}
use Rattle.mesh_decl.specs.declared.decl.MapDecl.{MapDecl}
use Rattle.mesh_decl.specs.declared.decl.DatDecl.{DatDecl}
use Rattle.mesh_decl.specs.Mesh.{set_count, map_count, dat_count, IsMap, IsDat}
use Rattle.mesh_decl.proofs.Public as mesh
use Rattle.mesh_decl.specs.Spelling.{Named}
use Rattle.bound_program.specs.declared.refusals.refusals.BindRefusal.TheVariants as refusal
use Rattle.bound_program.specs.declared.refusals.refusals.Counted.TheVariants as counted
use Rattle.bound_program.specs.declared.refusals.founds.Turn.TheVariants.{InOrder}
use Rattle.main_declarations.specs.declared.names.scopes.Meaning.TheVariants.{Set, Map, Dat}
use Rattle.bound_program.specs.HostExpr.{value}
use Rattle.main_declarations.specs.Names.{means, declare}
use Rattle.main_declarations.specs.Expressions.{resolved}
use Rattle.bound_program.specs.Limits.{max_sets, max_maps, max_dats, max_size, max_dim}
use Rattle.bound_program.specs.Refusals.{found_over}
use Rattle.main_declarations.specs.SoFar.{Declared}
use Rattle.main_declarations.specs.Meanings.{set_of, or_zero, or_none, count_of, array_of}
use Rattle.main_declarations.specs.Declarations.{awaited, with_set, with_map, with_dat, place_found, set_found, dim_found, type_found, data_found, target_found, cells_found, size_found, size_of, set_decl_found, judged_set, map_decl_found, judged_map, dat_decl_found, judged_dat}
use Rattle.bound_program.specs.Fits.{SiteFits}
use Rattle.main_declarations.proofs.Public.{Gives, gives_unless, left_nil, right_nil, not_over, not_if, Below, dim_fits}
use Rattle.loop_bind.proofs.FitsState.{vars-self, NameFits, Grows, names_more, known-fits, NameIsOwn, HasDim, HasMapDim, so_far, Lawful, means_fits}
use Rattle.loop_bind.proofs.FitsMesh.{set_below, no_site_yet, set_size_below, map_is, dat_is}

-- lawful still, and nothing is lost
pub record Goes (ks : List RKernel) (es : List Named) (k l : Declared) : Type 0 where
  pub lawful : Lawful ks es l
  pub grows : Grows k l
  pub file : l.names.file ≡ k.names.file

module _ (ks : List RKernel) (es : List Named) where
  set-goes : (k : Declared) (x : List ℕ) (n filled : ℕ) → Lawful ks es k → k.sites ≡ [] → suc (set_count k.mesh) ≤ max_sets → n ≤ max_size
      → Goes ks es k (record k { filled = filled; mesh = with_set x n k.mesh; names = declare x (Set (set_count k.mesh)) k.names })
  set-goes k x n filled h e few size = record { lawful = lawful; grows = grows; file = refl }
    where
      d : SetDecl
      d = record { name = x; size = n }

      l : Declared
      l = record k { filled = filled; mesh = with_set x n k.mesh; names = declare x (Set (set_count k.mesh)) k.names }

      more : length (k.mesh.sets ++ d ∷ []) ≡ length k.mesh.sets + 1
      more = length_push k.mesh.sets d

      grows : Grows k l
      grows = record { vars = vars-self k.vars; cells = omega arith; sets = omega (arith, more); maps = omega arith; dats = omega arith; sites = omega arith }

      lawful : Lawful ks es l
      lawful = record {
        mesh = mesh.with_set k.mesh d h.mesh (omega (arith, few)) (omega (arith, size));
        few_sets = omega (arith, more, few);
        few_maps = h.few_maps;
        few_dats = h.few_dats;
        dims = h.dims;
        map_dims = h.map_dims;
        cells = h.cells;
        file = names_more ks k l grows k.names.file h.file;
        own = known-fits (NameFits ks l.mesh k.vars k.cells) x (Set (set_count k.mesh)) k.names.own (omega (arith, more)) (names_more ks k l grows k.names.own h.own);
        mine = known-fits NameIsOwn x (Set (set_count k.mesh)) k.names.own tt h.mine;
        externs = h.externs;
        sites = subst (All (SiteFits (so_far ks l))) (sym e) (All-nil (SiteFits (so_far ks l)));
      }

  map-goes : (k : Declared) (x : List ℕ) (from to dim filled : ℕ) (zs : List ℤ) → Lawful ks es k → k.sites ≡ [] → suc (map_count k.mesh) ≤ max_maps → dim ≤ max_dim
      → IsMap k.mesh.sets (record { name = x; from = from; to = to; dim = dim; targets = zs })
      → Goes ks es k (record k { filled = filled; mesh = with_map x from to dim zs k.mesh; names = declare x (Map (map_count k.mesh)) k.names })
  map-goes k x from to dim filled zs h e few small is = record { lawful = lawful; grows = grows; file = refl }
    where
      d : MapDecl
      d = record { name = x; from = from; to = to; dim = dim; targets = zs }

      l : Declared
      l = record k { filled = filled; mesh = with_map x from to dim zs k.mesh; names = declare x (Map (map_count k.mesh)) k.names }

      more : length (k.mesh.maps ++ d ∷ []) ≡ length k.mesh.maps + 1
      more = length_push k.mesh.maps d

      grows : Grows k l
      grows = record { vars = vars-self k.vars; cells = omega arith; sets = omega arith; maps = omega (arith, more); dats = omega arith; sites = omega arith }

      lawful : Lawful ks es l
      lawful = record {
        mesh = mesh.with_map k.mesh d h.mesh (omega (arith, few)) is;
        few_sets = h.few_sets;
        few_maps = omega (arith, more, few);
        few_dats = h.few_dats;
        dims = h.dims;
        map_dims = All-push HasMapDim k.mesh.maps d h.map_dims small;
        cells = h.cells;
        file = names_more ks k l grows k.names.file h.file;
        own = known-fits (NameFits ks l.mesh k.vars k.cells) x (Map (map_count k.mesh)) k.names.own (omega (arith, more)) (names_more ks k l grows k.names.own h.own);
        mine = known-fits NameIsOwn x (Map (map_count k.mesh)) k.names.own tt h.mine;
        externs = h.externs;
        sites = subst (All (SiteFits (so_far ks l))) (sym e) (All-nil (SiteFits (so_far ks l)));
      }

  dat-goes : (k : Declared) (x : List ℕ) (set dim filled : ℕ) (zs : List ℤ) → Lawful ks es k → k.sites ≡ [] → suc (dat_count k.mesh) ≤ max_dats → dim ≤ max_dim
      → IsDat k.mesh.sets (record { name = x; set = set; dim = dim; values = zs })
      → Goes ks es k (record k { filled = filled; mesh = with_dat x set dim zs k.mesh; names = declare x (Dat (dat_count k.mesh)) k.names })
  dat-goes k x set dim filled zs h e few small is = record { lawful = lawful; grows = grows; file = refl }
    where
      d : DatDecl
      d = record { name = x; set = set; dim = dim; values = zs }

      l : Declared
      l = record k { filled = filled; mesh = with_dat x set dim zs k.mesh; names = declare x (Dat (dat_count k.mesh)) k.names }

      more : length (k.mesh.dats ++ d ∷ []) ≡ length k.mesh.dats + 1
      more = length_push k.mesh.dats d

      grows : Grows k l
      grows = record { vars = vars-self k.vars; cells = omega arith; sets = omega arith; maps = omega arith; dats = omega (arith, more); sites = omega arith }

      lawful : Lawful ks es l
      lawful = record {
        mesh = mesh.with_dat k.mesh d h.mesh (omega (arith, few)) is;
        few_sets = h.few_sets;
        few_maps = h.few_maps;
        few_dats = omega (arith, more, few);
        dims = All-push HasDim k.mesh.dats d h.dims small;
        map_dims = h.map_dims;
        cells = h.cells;
        file = names_more ks k l grows k.names.file h.file;
        own = known-fits (NameFits ks l.mesh k.vars k.cells) x (Dat (dat_count k.mesh)) k.names.own (omega (arith, more)) (names_more ks k l grows k.names.own h.own);
        mine = known-fits NameIsOwn x (Dat (dat_count k.mesh)) k.names.own tt h.mine;
        externs = h.externs;
        sites = subst (All (SiteFits (so_far ks l))) (sym e) (All-nil (SiteFits (so_far ks l)));
      }

  module _ (places : List Pos) (k : Declared) (h : Lawful ks es k) (nested : Bool) (t : ℕ) where
    set_there : (x : Ident) → Below (set_count k.mesh) (set_of (means k.names x.name))
    set_there x = set_below ks k.mesh k.vars k.cells (means k.names x.name) (means_fits ks es k h x.name)

    pub set_is_lawful : (x : Ident) (e : ExprTree) → Gives (Goes ks es k) (judged_set places k nested t x e)
    set_is_lawful x e =
        gives_unless (Goes ks es k) (set_decl_found places k nested t e) _
        (λ none.
        let p = place_found places k nested t in
        let o = found_over InOrder max_sets (suc (set_count k.mesh)) t counted.Sets in
        let s = size_found places k t e in
        let po : p ++ o ≡ [] = left_nil (p ++ o) s none in
        set-goes k x.name (size_of places (value [] [] (resolved places k.names e)))
        (k.filled + size_of places (value [] [] (resolved places k.names e))) h (no_site_yet places k nested t (left_nil p o po))
        (not_over InOrder max_sets (suc (set_count k.mesh)) t counted.Sets (right_nil p o po))
        (set_size_below places k t e (right_nil (p ++ o) s none)))

    set_known : (x : Ident) → set_found places k x ≡ [] → is_none (set_of (means k.names x.name)) ≡ false
    set_known x e = not_if places (is_none (set_of (means k.names x.name))) x.at refusal.UnknownSet e

    module _ (x : Ident) (n : NumberLiteral) (v : Ident) where
      pub map_is_lawful : (from to : Ident) → Gives (Goes ks es k) (judged_map places es k nested t x from to n v)
      map_is_lawful from to =
          gives_unless (Goes ks es k) (map_decl_found places es k nested t from to n v) _
          (λ none.
          let vs = array_of es v.name (means k.names v.name) in
          let awaits = awaited k.mesh (set_of (means k.names from.name)) (count_of n) in
          let p = place_found places k nested t in
          let o = found_over InOrder max_maps (suc (map_count k.mesh)) t counted.Maps in
          let a = set_found places k from in
          let b = set_found places k to in
          let d = dim_found places n in
          let f = data_found places vs awaits v in
          let g = target_found places k.mesh (count_of n) v vs awaits (set_of (means k.names to.name)) in
          let c = cells_found places t (k.filled + length (or_none vs)) in
          let m : a ++ b ++ d ++ f ++ g ++ c ≡ [] = right_nil (p ++ o) (a ++ b ++ d ++ f ++ g ++ c) none in
          let po : p ++ o ≡ [] = left_nil (p ++ o) (a ++ b ++ d ++ f ++ g ++ c) none in
          let m5 : a ++ b ++ d ++ f ++ g ≡ [] = left_nil (a ++ b ++ d ++ f ++ g) c m in
          let m4 : a ++ b ++ d ++ f ≡ [] = left_nil (a ++ b ++ d ++ f) g m5 in
          let m3 : a ++ b ++ d ≡ [] = left_nil (a ++ b ++ d) f m4 in
          let m2 : a ++ b ≡ [] = left_nil (a ++ b) d m3 in
          let dims = dim_fits places n (right_nil (a ++ b) d m3) in
          map-goes k x.name (or_zero (set_of (means k.names from.name))) (or_zero (set_of (means k.names to.name))) (count_of n)
          (k.filled + length (or_none vs)) (or_none vs) h (no_site_yet places k nested t (left_nil p o po))
          (not_over InOrder max_maps (suc (map_count k.mesh)) t counted.Maps (right_nil p o po)) dims.1
          (map_is places k.mesh v x.name (set_of (means k.names from.name)) (set_of (means k.names to.name)) (count_of n) vs (set_there from) (set_there to)
          (set_known from (left_nil a b m2)) (set_known to (right_nil a b m2)) dims.0 dims.1 (right_nil (a ++ b ++ d) f m4) (right_nil (a ++ b ++ d ++ f) g m5)))

      pub dat_is_lawful : (set : Ident) (l : TextLiteral) → Gives (Goes ks es k) (judged_dat places es k nested t x set n l v)
      dat_is_lawful set l =
          gives_unless (Goes ks es k) (dat_decl_found places es k nested t set n l v) _
          (λ none.
          let vs = array_of es v.name (means k.names v.name) in
          let awaits = awaited k.mesh (set_of (means k.names set.name)) (count_of n) in
          let p = place_found places k nested t in
          let o = found_over InOrder max_dats (suc (dat_count k.mesh)) t counted.Dats in
          let a = set_found places k set in
          let d = dim_found places n in
          let y = type_found places l in
          let f = data_found places vs awaits v in
          let c = cells_found places t (k.filled + length (or_none vs)) in
          let m : a ++ d ++ y ++ f ++ c ≡ [] = right_nil (p ++ o) (a ++ d ++ y ++ f ++ c) none in
          let po : p ++ o ≡ [] = left_nil (p ++ o) (a ++ d ++ y ++ f ++ c) none in
          let m4 : a ++ d ++ y ++ f ≡ [] = left_nil (a ++ d ++ y ++ f) c m in
          let m3 : a ++ d ++ y ≡ [] = left_nil (a ++ d ++ y) f m4 in
          let m2 : a ++ d ≡ [] = left_nil (a ++ d) y m3 in
          let dims = dim_fits places n (right_nil a d m2) in
          dat-goes k x.name (or_zero (set_of (means k.names set.name))) (count_of n) (k.filled + length (or_none vs)) (or_none vs) h (no_site_yet places k nested t (left_nil p o po))
          (not_over InOrder max_dats (suc (dat_count k.mesh)) t counted.Dats (right_nil p o po)) dims.1
          (dat_is places k.mesh v x.name (set_of (means k.names set.name)) (count_of n) vs (set_there set) (set_known set (left_nil a d m2)) dims.0 dims.1 (right_nil (a ++ d ++ y) f m4)))
