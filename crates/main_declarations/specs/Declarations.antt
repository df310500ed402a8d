-- Declarations of sets, maps and dats (`op_decl_set`, `op_decl_map` and `op_decl_dat` of the OP2 C API).
use Rattle.std.specs.Prelude.{ℕ, suc, ℤ, pos, negsuc, ◌+◌, ◌*◌, ◌/◌, ◌%◌, Bool, true, not, ◌&&◌, ◌||◌, List, [], ◌∷◌, ◌++◌, length, codes, Option, Some, None, Ok, Err, is_none, nat_eq, nat_lt, bytes_eq, unsigned_abs, if◌then◌else◌}
use Rattle.c_tree.specs.declared.lexer.tokens.Pos.{Pos}
use Rattle.c_tree.specs.declared.expressions.Ident.{Ident}
use Rattle.c_tree.specs.declared.expressions.NumberLiteral.{NumberLiteral}
use Rattle.c_tree.specs.declared.expressions.TextLiteral.{TextLiteral}
use Rattle.c_tree.specs.Tree.{ExprTree}
use Rattle.kernel_model.specs.Numbers.{Value}
use Rattle.mesh_decl.specs.Mesh.{MeshValue, set_count, map_count, dat_count, set_size, is_element}
use Rattle.bound_program.specs.declared.refusals.refusals.BindRefusal.TheVariants as refusal
use Rattle.bound_program.specs.declared.refusals.refusals.Counted.TheVariants as counted
use Rattle.main_declarations.specs.declared.names.scopes.Meaning.TheVariants.{Set, Map, Dat}
use Rattle.mesh_decl.specs.Spelling.{Named}
use Rattle.main_declarations.specs.Names.{means, declare}
use Rattle.bound_program.specs.HostExpr.{value, is_static}
use Rattle.bound_program.specs.Refusals.{place, Judged, unless_found, found_in, found_over, found_if}
use Rattle.main_declarations.specs.Expressions.{first_token, resolved}
use Rattle.bound_program.specs.declared.refusals.founds.Turn.TheVariants.{InOrder, SizeValue, MeshCells}
use Rattle.bound_program.specs.declared.refusals.founds.Found.{Found}
use Rattle.bound_program.specs.Limits.{max_sets, max_maps, max_dats, max_size, max_dim, max_cells}
use Rattle.main_declarations.specs.Meanings.{array_of, count_of, or_none, or_zero, set_of}
use Rattle.main_declarations.specs.SoFar.{Declared}

-- ---- sizes

-- a dim that a map or a dat can have
abbrev pub is_dim : ℕ → Bool
is_dim n = nat_lt 0 n && not (nat_lt max_dim n)

-- how many values are awaited; none where the set or the dim is refused
abbrev pub awaited : MeshValue → Option ℕ → ℕ → Option ℕ
awaited g None dim = None
awaited g (Some s) dim = if is_dim dim then Some (set_size g s * dim) else None

-- there are as many values as are awaited
abbrev pub are_awaited : Option ℕ → List ℤ → Bool
are_awaited None zs = true
are_awaited (Some n) zs = nat_eq (length zs) n

-- the index of the first value that is no element of a set of this size
abbrev pub first_stray : ℕ → ℕ → List ℤ → Option ℕ
first_stray size i [] = None
first_stray size i (z ∷ zs) = if is_element size z then first_stray size (suc i) zs else Some i

-- ---- the mesh with one declaration more

-- the mesh with one set more
abbrev pub with_set : List ℕ → ℕ → MeshValue → MeshValue
with_set x size g = record g { sets = g.sets ++ (record { name = x; size = size }) ∷ [] }

-- the mesh with one map more
abbrev pub with_map : List ℕ → (from to dim : ℕ) → List ℤ → MeshValue → MeshValue
with_map x from to dim zs g = record g { maps = g.maps ++ (record { name = x; from = from; to = to; dim = dim; targets = zs }) ∷ [] }

-- the mesh with one dat more
abbrev pub with_dat : List ℕ → (set dim : ℕ) → List ℤ → MeshValue → MeshValue
with_dat x set dim zs g = record g { dats = g.dats ++ (record { name = x; set = set; dim = dim; values = zs }) ∷ [] }

-- ---- what is wrong with a declaration

module _ (places : List Pos) where
  -- a declaration stands in a block, `if` or `for`, or behind a loop; its word is at the token t
  abbrev pub place_found : Declared → Bool → ℕ → List Found
  place_found k nested t = found_if places (nested || nat_lt 0 (length k.sites)) t refusal.DeclarationPlace

  -- no set is meant
  abbrev pub set_found : Declared → Ident → List Found
  set_found k x = found_if places (is_none (set_of (means k.names x.name))) x.at refusal.UnknownSet

  -- the dim is 0 or above its limit
  abbrev pub dim_found : NumberLiteral → List Found
  dim_found n = found_if places (nat_eq (count_of n) 0) n.at refusal.DimMismatch ++ found_over InOrder max_dim (count_of n) n.at counted.Dim

  -- the type isn't `int`
  abbrev pub type_found : TextLiteral → List Found
  type_found l = found_if places (not (bytes_eq l.text (codes "int"))) l.at refusal.TypeMismatch

  -- no extern array is meant, or it hasn't as many values as are awaited
  abbrev pub data_found : Option (List ℤ) → Option ℕ → Ident → List Found
  data_found None n x = found_if places true x.at refusal.UnknownEntry
  data_found (Some zs) n x = found_if places (not (are_awaited n zs)) x.at refusal.DimMismatch

  -- the first value that is no element of the map's target set
  abbrev pub stray_found : ℕ → ℕ → Ident → Option ℕ → List Found
  stray_found m dim x None = []
  stray_found m dim x (Some i) = found_if places true x.at (λ at. refusal.MapTarget at m (i / dim) (i % dim))

  -- the first value that is no element, where the values are those that are awaited and the target set is known
  abbrev pub target_found : MeshValue → ℕ → Ident → Option (List ℤ) → Option ℕ → Option ℕ → List Found
  target_found g dim x (Some zs) (Some n) (Some to) =
      if nat_eq (length zs) n then stray_found (map_count g) dim x (first_stray (set_size g to) 0 zs) else []
  target_found g dim x _ _ _ = []

  -- the mesh with this declaration has too many cells
  abbrev pub cells_found : ℕ → ℕ → List Found
  cells_found t n = found_over MeshCells max_cells n t counted.MeshCells

  -- ---- sets

  -- the value of a size is negative or above its limit, or has a fault
  abbrev pub value_found : Declared → (t first : ℕ) → Value → List Found
  value_found k t first (Err f) = found_if places true first refusal.ControlNotStatic
  value_found k t first (Ok (negsuc n)) = found_in SizeValue true first (refusal.DimMismatch (place places first))
  value_found k t first (Ok (pos n)) = found_over SizeValue max_size n t counted.SetSize ++ cells_found t (k.filled + n)

  -- the size isn't known before the run, or its value is wrong
  abbrev pub size_found : Declared → ℕ → ExprTree → List Found
  size_found k t e =
      if is_static (resolved places k.names e) then value_found k t (first_token e) (value [] [] (resolved places k.names e))
      else found_if places true (first_token e) refusal.ControlNotStatic

  -- the size as a number; 0 where it is refused
  abbrev pub size_of : Value → ℕ
  size_of (Err f) = 0
  size_of (Ok z) = unsigned_abs z

  -- what is wrong with the declaration of a set
  abbrev pub set_decl_found : Declared → Bool → ℕ → ExprTree → List Found
  set_decl_found k nested t e =
      place_found k nested t ++ found_over InOrder max_sets (suc (set_count k.mesh)) t counted.Sets ++ size_found k t e

  -- `op_set x = op_decl_set(e, "..");`, its word at the token t
  abbrev pub judged_set : Declared → Bool → ℕ → Ident → ExprTree → Judged Declared
  judged_set k nested t x e =
      unless_found
      (set_decl_found k nested t e)
      (record k {
        filled = k.filled + size_of (value [] [] (resolved places k.names e));
        mesh = with_set x.name (size_of (value [] [] (resolved places k.names e))) k.mesh;
        names = declare x.name (Set (set_count k.mesh)) k.names;
      })

  module _ (entries : List Named) where
    -- ---- maps

    -- what is wrong with a map between these sets, with these values
    abbrev pub map_found : Declared → ℕ → Ident → Ident → NumberLiteral → Ident → List Found
    map_found k t from to n data_name =
        set_found k from ++ set_found k to ++ dim_found n
        ++ data_found zs awaits data_name
        ++ target_found k.mesh (count_of n) data_name zs awaits to_set
        ++ cells_found t (k.filled + length (or_none zs))
      where
        zs : Option (List ℤ)
        zs = array_of entries data_name.name (means k.names data_name.name)

        awaits : Option ℕ
        awaits = awaited k.mesh (set_of (means k.names from.name)) (count_of n)

        to_set : Option ℕ
        to_set = set_of (means k.names to.name)

    -- what is wrong with the declaration of a map
    abbrev pub map_decl_found : Declared → Bool → ℕ → Ident → Ident → NumberLiteral → Ident → List Found
    map_decl_found k nested t from to n data_name =
        place_found k nested t ++ found_over InOrder max_maps (suc (map_count k.mesh)) t counted.Maps ++ map_found k t from to n data_name

    -- `op_map x = op_decl_map(from, to, n, data_name, "..");`
    abbrev pub judged_map : Declared → Bool → ℕ → (x from to : Ident) → NumberLiteral → Ident → Judged Declared
    judged_map k nested t x from to n data_name =
        unless_found
        (map_decl_found k nested t from to n data_name)
        (record k {
          filled = k.filled + length (or_none (array_of entries data_name.name (means k.names data_name.name)));
          mesh = with_map x.name (number from) (number to) (count_of n)
              (or_none (array_of entries data_name.name (means k.names data_name.name))) k.mesh;
          names = declare x.name (Map (map_count k.mesh)) k.names;
        })
      where
        number : Ident → ℕ
        number y = or_zero (set_of (means k.names y.name))

    -- ---- dats

    -- what is wrong with a dat on this set, with these values
    abbrev pub dat_found : Declared → ℕ → Ident → NumberLiteral → TextLiteral → Ident → List Found
    dat_found k t set n l data_name =
        set_found k set ++ dim_found n ++ type_found l
        ++ data_found zs (awaited k.mesh (set_of (means k.names set.name)) (count_of n)) data_name
        ++ cells_found t (k.filled + length (or_none zs))
      where
        zs : Option (List ℤ)
        zs = array_of entries data_name.name (means k.names data_name.name)

    -- what is wrong with the declaration of a dat
    abbrev pub dat_decl_found : Declared → Bool → ℕ → Ident → NumberLiteral → TextLiteral → Ident → List Found
    dat_decl_found k nested t set n l data_name =
        place_found k nested t ++ found_over InOrder max_dats (suc (dat_count k.mesh)) t counted.Dats ++ dat_found k t set n l data_name

    -- `op_dat x = op_decl_dat(set, n, l, data_name, "..");`
    abbrev pub judged_dat : Declared → Bool → ℕ → (x set : Ident) → NumberLiteral → TextLiteral → Ident → Judged Declared
    judged_dat k nested t x set n l data_name =
        unless_found
        (dat_decl_found k nested t set n l data_name)
        (record k {
          filled = k.filled + length (or_none (array_of entries data_name.name (means k.names data_name.name)));
          mesh = with_dat x.name (or_zero (set_of (means k.names set.name))) (count_of n)
              (or_none (array_of entries data_name.name (means k.names data_name.name))) k.mesh;
          names = declare x.name (Dat (dat_count k.mesh)) k.names;
        })
