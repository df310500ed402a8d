-- What holds of the declaration of a map or a dat with which nothing is wrong.
use Rattle.std.proofs.Common.{◌≡◌, ℕ, suc, ℤ, ◌+◌, ◌*◌, ◌<◌, ◌≤◌, List, [], ◌++◌, length, Bool, true, false, not, refl, ap, subst, lt-ltb, le-ltb}
use Rattle.std.specs.Prelude.{Option, Some, None, IfSome, is_none, nat_eq, nat_lt, if◌then◌else◌}
use Rattle.std.proofs.lemmas.Map.Entries.{All-lookup}
use Rattle.c_tree.specs.declared.lexer.tokens.Pos.{Pos}
use Rattle.c_tree.specs.declared.expressions.Ident.{Ident}
use Rattle.c_tree.specs.declared.expressions.NumberLiteral.{NumberLiteral}
use Rattle.c_tree.specs.declared.expressions.TextLiteral.{TextLiteral}
use Rattle.mesh_decl.specs.Mesh.{MeshValue, set_count, map_count, dat_count, set_size}
use Rattle.mesh_decl.specs.Spelling.{Named}
use Rattle.bound_program.specs.declared.refusals.refusals.BindRefusal.TheVariants as refusal
use Rattle.bound_program.specs.declared.refusals.refusals.Counted.TheVariants as counted
use Rattle.bound_program.specs.declared.refusals.founds.Turn.TheVariants.{InOrder}
use Rattle.bound_program.specs.Refusals.{first_of, found_if, found_over}
use Rattle.bound_program.specs.Limits.{max_dim, max_maps, max_dats}
use Rattle.main_declarations.specs.declared.names.scopes.Meaning.{Meaning}
use Rattle.main_declarations.specs.Names.{named_in, or_else, means}
use Rattle.main_declarations.specs.SoFar.{Declared}
use Rattle.main_declarations.specs.Meanings.{set_of, or_zero, or_none, count_of, array_of}
use Rattle.main_declarations.specs.Declarations.{is_dim, awaited, place_found, set_found, dim_found, type_found, data_found, cells_found, dat_decl_found}
use Rattle.main_declarations.specs.KnownSets.{IsKnown, SetsKnown}
use Rattle.main_declarations.specs.Targets.{shape_decl_found}
use Rattle.main_declarations.proofs.Judged.{nothing_found, left_nil, right_nil, not_over, not_if}
use Rattle.lemmas.proofs.Numbers.{equal_from_not, positive}

-- ---- numbers of sets

abbrev pub Below : ℕ → Option ℕ → Type 0
Below n o = IfSome o (λ k. k < n)

abbrev IsTrue' : Bool → Type 0
IsTrue' true = Unit {0}
IsTrue' false = ⊥

pub never : {X : Type 0} → true ≡ false → X
never e = absurd (subst IsTrue' e tt)

pub known_below : (n : ℕ) (o : Option ℕ) → Below n o → is_none o ≡ false → or_zero o < n
known_below n None h e = never e
known_below n (Some k) h e = h

-- a set that a name stands for is one of the mesh
pub set_there : (k : Declared) (x : List ℕ) → SetsKnown k → Below (set_count k.mesh) (set_of (means k.names x))
set_there k x h = pick (named_in k.names.own x) (named_in k.names.file x) (All-lookup P _ k.names.own h.1) (All-lookup P _ k.names.file h.0)
  where
    P : Meaning → Type 0
    P m = IsKnown (set_count k.mesh) m

    pick : (a b : Option Meaning) → IfSome a P → IfSome b P → Below (set_count k.mesh) (set_of (or_else a b))
    pick (Some m) b f g = f
    pick None (Some m) f g = g
    pick None None f g = tt

-- ---- dims and values

pub dim_fits : (places : List Pos) (n : NumberLiteral) → dim_found places n ≡ [] → (0 < count_of n) × (count_of n ≤ max_dim)
dim_fits places n e = (
  positive (count_of n) (not_if places (nat_eq (count_of n) 0) n.at refusal.DimMismatch
      (left_nil (found_if places (nat_eq (count_of n) 0) n.at refusal.DimMismatch)
      (found_over InOrder max_dim (count_of n) n.at counted.Dim) e)),
  not_over InOrder max_dim (count_of n) n.at counted.Dim (right_nil (found_if places (nat_eq (count_of n) 0) n.at refusal.DimMismatch) (found_over InOrder max_dim (count_of n) n.at counted.Dim) e),
)

pub is_dim-true : (n : ℕ) → 0 < n → n ≤ max_dim → is_dim n ≡ true
is_dim-true n l m = let a : nat_lt 0 n ≡ true = lt-ltb 0 n l in let b : nat_lt max_dim n ≡ false = le-ltb max_dim n m in rw (a, b) refl

pub awaited-is : (g : MeshValue) (s n : ℕ) → is_dim n ≡ true → awaited g (Some s) n ≡ Some (set_size g s * n)
awaited-is g s n e = ap (λ (b : Bool). if b then Some (set_size g s * n) else None) e

pub data_is : (places : List Pos) (x : Ident) (n : ℕ) (zs : Option (List ℤ)) → data_found places zs (Some n) x ≡ [] → length (or_none zs) ≡ n
data_is places x n None e = never (not_if places true x.at refusal.UnknownEntry e)
data_is places x n (Some zs) e = equal_from_not (length zs) n (not_if places (not (nat_eq (length zs) n)) x.at refusal.DimMismatch e)

-- ---- the mesh takes it

-- its set is there, it has a dim, and as many values as are awaited
pub record IsReady (g : MeshValue) (s dim : ℕ) (zs : List ℤ) : Type 0 where
  pub set : s < set_count g
  pub some : 0 < dim
  pub size : length zs ≡ set_size g s * dim

is_ready : (places : List Pos) (x : Ident) (g : MeshValue) (set : Option ℕ) (dim : ℕ) (zs : Option (List ℤ))
    → Below (set_count g) set
    → is_none set ≡ false
    → (0 < dim) × (dim ≤ max_dim)
    → data_found places zs (awaited g set dim) x ≡ []
    → IsReady g (or_zero set) dim (or_none zs)
is_ready places x g None dim zs h p l d = never p
is_ready places x g (Some s) dim zs h p l d =
    let w : awaited g (Some s) dim ≡ Some (set_size g s * dim) = awaited-is g s dim (is_dim-true dim l.0 l.1) in
    record { set = h; some = l.0; size = data_is places x (set_size g s * dim) zs (subst (λ o. data_found places zs o x ≡ []) w d) }

module _ (places : List Pos) (es : List Named) (k : Declared) (h : SetsKnown k) (nested : Bool) (t : ℕ) (n : NumberLiteral) (v : Ident) where
  abbrev given : Option (List ℤ)
  given = array_of es v.name (means k.names v.name)

  set_is_there : (x : Ident) → set_found places k x ≡ [] → is_none (set_of (means k.names x.name)) ≡ false
  set_is_there x e = not_if places (is_none (set_of (means k.names x.name))) x.at refusal.UnknownSet e

  pub dat_ready : (set : Ident) (l : TextLiteral)
      → first_of (dat_decl_found places es k nested t set n l v) ≡ None
      → IsReady k.mesh (or_zero (set_of (means k.names set.name))) (count_of n) (or_none given)
  dat_ready set l none =
      let p = place_found places k nested t ++ found_over InOrder max_dats (suc (dat_count k.mesh)) t counted.Dats in
      let a = set_found places k set in
      let d = dim_found places n in
      let y = type_found places l in
      let f = data_found places given (awaited k.mesh (set_of (means k.names set.name)) (count_of n)) v in
      let c = cells_found places t (k.filled + length (or_none given)) in
      let all : p ++ (a ++ d ++ y ++ f ++ c) ≡ [] = nothing_found (p ++ (a ++ d ++ y ++ f ++ c)) none in
      let m4 : a ++ d ++ y ++ f ≡ [] = left_nil (a ++ d ++ y ++ f) c (right_nil p (a ++ d ++ y ++ f ++ c) all) in
      let m2 : a ++ d ≡ [] = left_nil (a ++ d) y (left_nil (a ++ d ++ y) f m4) in
      is_ready places v k.mesh (set_of (means k.names set.name)) (count_of n) given (set_there k set.name h) (set_is_there set (left_nil a d m2))
      (dim_fits places n (right_nil a d m2)) (right_nil (a ++ d ++ y) f m4)

  pub map_ready : (from to : Ident)
      → first_of (shape_decl_found places es k nested t from to n v) ≡ None
      → IsReady k.mesh (or_zero (set_of (means k.names from.name))) (count_of n) (or_none given) × (or_zero (set_of (means k.names to.name)) < set_count k.mesh)
  map_ready from to none =
      let p = place_found places k nested t ++ found_over InOrder max_maps (suc (map_count k.mesh)) t counted.Maps in
      let a = set_found places k from in
      let b = set_found places k to in
      let d = dim_found places n in
      let f = data_found places given (awaited k.mesh (set_of (means k.names from.name)) (count_of n)) v in
      let c = cells_found places t (k.filled + length (or_none given)) in
      let all : p ++ (a ++ b ++ d ++ f ++ c) ≡ [] = nothing_found (p ++ (a ++ b ++ d ++ f ++ c)) none in
      let m3 : a ++ b ++ d ++ f ≡ [] = left_nil (a ++ b ++ d ++ f) c (right_nil p (a ++ b ++ d ++ f ++ c) all) in
      let m2 : a ++ b ++ d ≡ [] = left_nil (a ++ b ++ d) f m3 in
      let m1 : a ++ b ≡ [] = left_nil (a ++ b) d m2 in (
        is_ready places v k.mesh (set_of (means k.names from.name)) (count_of n) given (set_there k from.name h) (set_is_there from (left_nil a b m1))
            (dim_fits places n (right_nil (a ++ b) d m2)) (right_nil (a ++ b ++ d) f m3),
        known_below (set_count k.mesh) (set_of (means k.names to.name)) (set_there k to.name h) (set_is_there to (right_nil a b m1)),
      )
