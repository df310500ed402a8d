-- What a name means where it stands, and the rules that its use there breaks.
use Rattle.std.specs.Prelude.{ℕ, Bool, true, false, not, ◌&&◌, ◌||◌, List, [], ◌∷◌, ◌++◌, Option, Some, None, is_some, if◌then◌else◌}
use Rattle.std.specs.Map.{lookup}
use Rattle.std.specs.Str.{bytes_eq}
use Rattle.c_tree.specs.declared.expressions.Ident.{Ident}
use Rattle.name_resolution.specs.declared.breaches.TypeRule.TheVariants.{UnknownName, DuplicateName, NotAnArray, NotAScalar, AssignsCounter, AssignsConst}
use Rattle.name_resolution.specs.declared.breaches.Breach.{Breach}
use Rattle.name_resolution.specs.declared.decls.Sort.{Sort}
use Rattle.name_resolution.specs.declared.decls.Sort.TheVariants as sort
use Rattle.name_resolution.specs.declared.decls.Decl.{Decl}
use Rattle.name_resolution.specs.declared.decls.Use.{Use}
use Rattle.name_resolution.specs.First.{breach_if}

-- declared names, in order
abbrev pub Names : Type 0
Names = List (List ℕ × Decl)

-- the names that are known at a place: those of the file, and the function's own
pub record Scope : Type 0 where
  pub file : Names
  pub own : Names

-- the scope of these names of the file and of the function
abbrev pub scope : Names → Names → Scope
scope file own = record { file = file; own = own }

-- the declaration of a name among these, if there is one
abbrev pub decl_in : Names → List ℕ → Option Decl
decl_in names x = lookup (bytes_eq x) names

-- the first of two declarations that is there
abbrev pub or_else : Option Decl → Option Decl → Option Decl
or_else None other = other
or_else (Some d) other = Some d

-- a function's own name hides one of the file
abbrev pub means : Scope → List ℕ → Option Decl
means s x = or_else (decl_in s.own x) (decl_in s.file x)

-- a name that is declared again keeps its meaning
abbrev pub declared : List ℕ → Decl → Names → Names
declared x d names = if is_some (decl_in names x) then names else (names ++ (x, d) ∷ [])

-- a name that is declared while it is known among these breaks a rule
abbrev pub repeated : Ident → Names → List Breach
repeated x names = breach_if (is_some (decl_in names x.name)) DuplicateName x.at

-- what has no index
abbrev pub takes_no_index : Sort → Bool
takes_no_index sort.ExternArray = false
takes_no_index sort.Array = false
takes_no_index sort.Param = false
takes_no_index _ = true

-- what has to have an index
abbrev pub needs_index : Sort → Bool
needs_index sort.Array = true
needs_index sort.Param = true
needs_index _ = false

-- what is no value at all
abbrev pub is_no_value : Sort → Bool
is_no_value sort.ExternArray = true
is_no_value sort.Kernel = true
is_no_value sort.Set = true
is_no_value sort.Map = true
is_no_value sort.Dat = true
is_no_value _ = false

-- a variable, as an array or not
abbrev pub is_variable : Sort → Bool
is_variable sort.Scalar = true
is_variable sort.Array = true
is_variable _ = false

-- what is declared `extern`
abbrev pub is_extern : Sort → Bool
is_extern sort.Extern = true
is_extern sort.ExternArray = true
is_extern _ = false

-- the counter of a `for`
abbrev pub is_counter : Sort → Bool
is_counter sort.Counter = true
is_counter _ = false

-- what a kernel can't read: an extern scalar, and a variable of the file that is no constant
abbrev pub is_out_of_reach : Decl → Bool
is_out_of_reach d = by_sort d.sort
  where
    by_sort : Sort → Bool
    by_sort sort.Extern = true
    by_sort sort.Scalar = d.of_file && not d.is_constant
    by_sort sort.Array = d.of_file && not d.is_constant
    by_sort _ = false

-- what can't be assigned, where `fixed` says whether an `op_decl_const` before names it
abbrev pub is_read_only : (in_kernel fixed : Bool) → Decl → Bool
is_read_only in_kernel fixed d =
    d.is_const || (is_extern d.sort || (fixed || (in_kernel && (d.of_file && is_variable d.sort))))

-- the rules that the use of a name breaks at its token
abbrev pub use_breaches : Use → ℕ → Option Decl → List Breach
use_breaches how t None = breach_if true UnknownName t
use_breaches how t (Some d) =
    breach_if (how.in_kernel && is_out_of_reach d) UnknownName t
    ++ (breach_if (how.is_indexed && takes_no_index d.sort) NotAnArray t
    ++ (breach_if (is_no_value d.sort || (not how.is_indexed && needs_index d.sort)) NotAScalar t
    ++ (breach_if (how.is_target && is_counter d.sort) AssignsCounter t
    ++ breach_if (how.is_target && is_read_only how.in_kernel how.is_fixed d) AssignsConst t)))

-- the meaning of a name that isn't known, which is a breach
abbrev pub unknown : Decl
unknown = record { at = 0; sort = sort.Scalar; is_const = false; of_file = false; is_constant = false; from = 0; count = 0 }

-- what a name means, or the meaning of one that is not known
abbrev pub decl_or : Option Decl → Decl
decl_or None = unknown
decl_or (Some d) = d
