-- What the names that a declaration or a loop takes stand for.
use Rattle.std.specs.Prelude.{ℕ, ℤ, Bool, true, false, List, [], Option, Some, None, unsigned_abs}
use Rattle.std.specs.Map.{lookup}
use Rattle.std.specs.Str.{bytes_eq}
use Rattle.c_tree.specs.declared.expressions.NumberLiteral.{NumberLiteral}
use Rattle.mesh_decl.specs.declared.text.entry.Entry.{Entry}
use Rattle.mesh_decl.specs.declared.text.entry.Entry.TheVariants.{Many}
use Rattle.mesh_decl.specs.Spelling.{Named}
use Rattle.main_declarations.specs.declared.names.scopes.Meaning.{Meaning}
use Rattle.main_declarations.specs.declared.names.scopes.Meaning.TheVariants.{ExternArray, Set, Map, Dat}

-- the number of a set
abbrev pub set_of : Option Meaning → Option ℕ
set_of (Some (Set s)) = Some s
set_of _ = None

-- the number of a map
abbrev pub map_of : Option Meaning → Option ℕ
map_of (Some (Map m)) = Some m
map_of _ = None

-- the number of a dat
abbrev pub dat_of : Option Meaning → Option ℕ
dat_of (Some (Dat d)) = Some d
dat_of _ = None

-- the values of an entry
abbrev pub entry_values : Option Entry → List ℤ
entry_values (Some (Many zs)) = zs
entry_values _ = []

-- the values of the entry with this name
abbrev pub values_named : List Named → List ℕ → List ℤ
values_named es x = entry_values (lookup (bytes_eq x) es)

-- whether the meaning is an extern array
abbrev pub is_extern_array : Option Meaning → Bool
is_extern_array (Some ExternArray) = true
is_extern_array _ = false

-- the values where the test holds
abbrev pub array_if : Bool → List ℤ → Option (List ℤ)
array_if true zs = Some zs
array_if false zs = None

-- the values of an extern array
abbrev pub array_of : List Named → List ℕ → Option Meaning → Option (List ℤ)
array_of es x m = array_if (is_extern_array m) (values_named es x)

-- the number, or 0 where there is none
abbrev pub or_zero : Option ℕ → ℕ
or_zero None = 0
or_zero (Some n) = n

-- no values where there are none
abbrev pub or_none : Option (List ℤ) → List ℤ
or_none None = []
or_none (Some zs) = zs

-- a number literal, which has no sign
abbrev pub count_of : NumberLiteral → ℕ
count_of n = unsigned_abs n.value
