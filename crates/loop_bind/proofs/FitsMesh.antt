-- One set, map or dat more.
use Rattle.std.proofs.Common.{◌≡◌, ℕ, suc, ℤ, pos, negsuc, ◌+◌, ◌*◌, ◌<◌, ◌≤◌, List, [], ◌∷◌, length, Ok, Err, Bool, true, false, not, ◌||◌, refl, sym, subst, arith}
use Rattle.std.specs.Prelude.{Option, Some, None, IfSome, is_none, nat_eq, nat_lt, if◌then◌else◌}
use Rattle.std.proofs.lemmas.Bool.{ltb-false, not-false, or_parts}
use Rattle.std.proofs.lemmas.List.Elements.{All-nil, All-cons}
use Rattle.c_tree.specs.declared.lexer.tokens.Pos.{Pos}
use Rattle.c_tree.specs.declared.expressions.Ident.{Ident}
use Rattle.c_tree.specs.Tree.{ExprTree}
use Rattle.kernel_model.specs.declared.types.kernels.RKernel.{RKernel}
use Rattle.kernel_model.specs.Numbers.{Value}
use Rattle.mesh_decl.specs.Mesh.{MeshValue, set_count, map_count, dat_count, set_size, is_element, AreElements, IsMap, IsDat}
use Rattle.bound_program.specs.declared.refusals.refusals.BindRefusal.TheVariants as refusal
use Rattle.bound_program.specs.declared.refusals.refusals.Counted.TheVariants as counted
use Rattle.bound_program.specs.declared.refusals.founds.Turn.TheVariants.{SizeValue}
use Rattle.main_declarations.specs.declared.names.scopes.Meaning.{Meaning}
use Rattle.main_declarations.specs.declared.names.scopes.Meaning.TheVariants.{Extern, ExternArray, Kernel, Set, Map, Dat, Variable, Fixed, FixedLater, Turning}
use Rattle.bound_program.specs.HostExpr.{value, is_static}
use Rattle.bound_program.specs.Values.{SiteValue, VarValue}
use Rattle.main_declarations.specs.Expressions.{first_token, resolved}
use Rattle.bound_program.specs.Refusals.{place, found_if, found_over}
use Rattle.bound_program.specs.Limits.{max_size, max_dim}
use Rattle.main_declarations.specs.SoFar.{Declared}
use Rattle.main_declarations.specs.Meanings.{set_of, map_of, dat_of, or_zero, or_none}
use Rattle.main_declarations.specs.Declarations.{awaited, first_stray, place_found, data_found, stray_found, target_found, cells_found, value_found, size_found, size_of}
use Rattle.main_declarations.proofs.Public.{left_nil, not_in, not_over, not_if, IsNil, Below, never, is_dim-true, awaited-is, data_is}
use Rattle.loop_bind.proofs.FitsState.{MeaningFits}

-- ---- numbers of what names stand for

module _ (ks : List RKernel) (g : MeshValue) (vs : List VarValue) (n : ℕ) where
  pub set_below : (m : Option Meaning) → IfSome m (MeaningFits ks g vs n) → Below (set_count g) (set_of m)
  set_below None h = tt
  set_below (Some (Extern z)) h = tt
  set_below (Some ExternArray) h = tt
  set_below (Some (Kernel number params)) h = tt
  set_below (Some (Set s)) h = h
  set_below (Some (Map m)) h = tt
  set_below (Some (Dat d)) h = tt
  set_below (Some (Variable c)) h = tt
  set_below (Some (Fixed z c)) h = tt
  set_below (Some (FixedLater k c)) h = tt
  set_below (Some (Turning k)) h = tt

  pub map_below : (m : Option Meaning) → IfSome m (MeaningFits ks g vs n) → Below (map_count g) (map_of m)
  map_below None h = tt
  map_below (Some (Extern z)) h = tt
  map_below (Some ExternArray) h = tt
  map_below (Some (Kernel number params)) h = tt
  map_below (Some (Set s)) h = tt
  map_below (Some (Map m)) h = h
  map_below (Some (Dat d)) h = tt
  map_below (Some (Variable c)) h = tt
  map_below (Some (Fixed z c)) h = tt
  map_below (Some (FixedLater k c)) h = tt
  map_below (Some (Turning k)) h = tt

  pub dat_below : (m : Option Meaning) → IfSome m (MeaningFits ks g vs n) → Below (dat_count g) (dat_of m)
  dat_below None h = tt
  dat_below (Some (Extern z)) h = tt
  dat_below (Some ExternArray) h = tt
  dat_below (Some (Kernel number params)) h = tt
  dat_below (Some (Set s)) h = tt
  dat_below (Some (Map m)) h = tt
  dat_below (Some (Dat d)) h = h
  dat_below (Some (Variable c)) h = tt
  dat_below (Some (Fixed z c)) h = tt
  dat_below (Some (FixedLater k c)) h = tt
  dat_below (Some (Turning k)) h = tt

-- ---- what was not found

pub no_site_yet : (places : List Pos) (k : Declared) (nested : Bool) (t : ℕ) → place_found places k nested t ≡ [] → k.sites ≡ []
no_site_yet places k nested t e = none k.sites
    (ltb-false 0 (length k.sites) (or_parts nested (nat_lt 0 (length k.sites))
    (not_if places (nested || nat_lt 0 (length k.sites)) t refusal.DeclarationPlace e)).1)
  where
    none : (ss : List SiteValue) → length ss ≤ 0 → ss ≡ []
    none [] l = refl
    none (s ∷ ss) l = absurd (omega arith)

-- ---- sizes

size_below : (places : List Pos) (k : Declared) (t first : ℕ) (v : Value) → value_found places k t first v ≡ [] → size_of places v ≤ max_size
size_below places k t first (Err f) e = never (not_if places true first refusal.ControlNotStatic e)
size_below places k t first (Ok (negsuc n)) e = never (not_in SizeValue true first (refusal.DimMismatch (place places first)) e)
size_below places k t first (Ok (pos n)) e =
    not_over SizeValue max_size n t counted.SetSize (left_nil (found_over SizeValue max_size n t counted.SetSize) (cells_found places t (k.filled + n)) e)

pub set_size_below : (places : List Pos) (k : Declared) (t : ℕ) (e : ExprTree) → size_found places k t e ≡ [] → size_of places (value [] [] (resolved places k.names e)) ≤ max_size
set_size_below places k t e n = pick (is_static (resolved places k.names e)) n
  where
    v : Value
    v = value [] [] (resolved places k.names e)

    pick : (b : Bool) → (if b then value_found places k t (first_token e) v else found_if places true (first_token e) refusal.ControlNotStatic) ≡ [] → size_of places v ≤ max_size
    pick true h = size_below places k t (first_token e) v h
    pick false h = never (not_if places true (first_token e) refusal.ControlNotStatic h)

-- ---- maps and dats, by what their names stand for

no_stray : (size i : ℕ) (zs : List ℤ) → first_stray size i zs ≡ None → AreElements size zs
no_stray size i [] e = All-nil (λ t. is_element size t ≡ true)
no_stray size i (z ∷ zs) e = pick (λ h. no_stray size (suc i) zs h) (is_element size z) refl e
  where
    IsNone : Option ℕ → Type 0
    IsNone None = Unit {0}
    IsNone (Some n) = ⊥

    pick : (first_stray size (suc i) zs ≡ None → AreElements size zs) → (b : Bool) → is_element size z ≡ b → (if b then first_stray size (suc i) zs else Some i) ≡ None → AreElements size (z ∷ zs)
    pick rest true f h = All-cons (λ t. is_element size t ≡ true) z zs f (rest h)
    pick rest false f h = absurd (subst IsNone (sym h) tt)

module _ (places : List Pos) (g : MeshValue) (x : Ident) where
  elements_are : (n dim to : ℕ) (zs : Option (List ℤ)) → data_found places zs (Some n) x ≡ [] → target_found places g dim x zs (Some n) (Some to) ≡ [] → AreElements (set_size g to) (or_none zs)
  elements_are n dim to None d e = All-nil (λ t. is_element (set_size g to) t ≡ true)
  elements_are n dim to (Some zs) d e = stray (first_stray (set_size g to) 0 zs) refl
      (subst (λ b. (if b then stray_found places (map_count g) dim x (first_stray (set_size g to) 0 zs) else []) ≡ [])
      (not-false (nat_eq (length zs) n) (not_if places (not (nat_eq (length zs) n)) x.at refusal.DimMismatch d)) e)
    where
      stray : (o : Option ℕ) → first_stray (set_size g to) 0 zs ≡ o → stray_found places (map_count g) dim x o ≡ [] → AreElements (set_size g to) zs
      stray None f h = no_stray (set_size g to) 0 zs f
      stray (Some i) f h = absurd (subst IsNil (sym h) tt)

  pub map_is : (name : List ℕ) (from to : Option ℕ) (dim : ℕ) (zs : Option (List ℤ))
      → Below (set_count g) from → Below (set_count g) to → is_none from ≡ false → is_none to ≡ false → 0 < dim → dim ≤ max_dim
      → data_found places zs (awaited g from dim) x ≡ [] → target_found places g dim x zs (awaited g from dim) to ≡ []
      → IsMap g.sets (record { name = name; from = or_zero from; to = or_zero to; dim = dim; targets = or_none zs })
  map_is name None to dim zs a b p q l m d e = never p
  map_is name (Some s) None dim zs a b p q l m d e = never q
  map_is name (Some s) (Some t) dim zs a b p q l m d e =
      let w : awaited g (Some s) dim ≡ Some (set_size g s * dim) = awaited-is g s dim (is_dim-true dim l m) in
      let d' : data_found places zs (Some (set_size g s * dim)) x ≡ [] = subst (λ o. data_found places zs o x ≡ []) w d in
      let e' : target_found places g dim x zs (Some (set_size g s * dim)) (Some t) ≡ [] = subst (λ o. target_found places g dim x zs o (Some t) ≡ []) w e in
      record {
        from = a;
        to = b;
        some = l;
        dim = omega (arith, m);
        length = data_is places x (set_size g s * dim) zs d';
        elements = elements_are (set_size g s * dim) dim t zs d' e';
      }

  pub dat_is : (name : List ℕ) (set : Option ℕ) (dim : ℕ) (zs : Option (List ℤ))
      → Below (set_count g) set → is_none set ≡ false → 0 < dim → dim ≤ max_dim → data_found places zs (awaited g set dim) x ≡ []
      → IsDat g.sets (record { name = name; set = or_zero set; dim = dim; values = or_none zs })
  dat_is name None dim zs a p l m d = never p
  dat_is name (Some s) dim zs a p l m d =
      let w : awaited g (Some s) dim ≡ Some (set_size g s * dim) = awaited-is g s dim (is_dim-true dim l m) in
      record {
        set = a;
        some = l;
        dim = omega (arith, m);
        length = data_is places x (set_size g s * dim) zs (subst (λ o. data_found places zs o x ≡ []) w d);
      }
