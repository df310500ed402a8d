-- What a loop's arguments reach for an element, by numbers: the element of a dat, or the variable.
use Rattle.std.specs.Prelude.{◌≡◌, ◌<◌, ◌≤◌, ℕ, Bool, false, ◌&&◌, nat_eq, List, length, get_or, Option, Some, None}
use Rattle.mesh_decl.specs.declared.access.Via.{Via}
use Rattle.mesh_decl.specs.Mesh.{map_count, map_from, map_dim, set_size, dat_count}
use Rattle.bound_program.specs.declared.sites.Arg.{Arg}
use Rattle.bound_program.specs.declared.sites.Arg.TheVariants.{Dat, Global}
use Rattle.bound_program.specs.Values.{BoundValue}
use Rattle.bound_program.specs.Limits.{max_dim}
use Rattle.run_model.specs.Windows.{Reached, Element, Whole, reached}
use Rattle.run_model.specs.Arguments.{no_arg, arg_width}

-- its number
abbrev pub number_of : Reached → ℕ
number_of (Element d x) = x
number_of (Whole v) = v

-- two arguments reach one thing, whose numbers are n and m
abbrev pub is_one : Arg → ℕ → Arg → ℕ → Bool
is_one (Dat d v a) n (Dat e w c) m = nat_eq d e && nat_eq n m
is_one (Dat d v a) n (Global w c) m = false
is_one (Global v a) n (Dat e w c) m = false
is_one (Global v a) n (Global w c) m = nat_eq v w

-- arguments k and i reach one thing
abbrev pub is_one_at : List Arg → List ℕ → ℕ → ℕ → Bool
is_one_at args numbers k i = is_one (get_or args k no_arg) (get_or numbers k 0) (get_or args i no_arg) (get_or numbers i 0)

-- what an argument names is there, and has at most 64 cells
abbrev pub ArgNamed : BoundValue → Arg → Type 0
ArgNamed b (Dat d v a) = (d < dat_count b.mesh) × (arg_width b (Dat d v a) ≤ max_dim)
ArgNamed b (Global v a) = (v < length b.vars) × (arg_width b (Global v a) ≤ max_dim)

module _ (b : BoundValue) (e : ℕ) where
  -- element e has what a map leads to
  abbrev pub ViaThere : Option Via → Type 0
  ViaThere None = Unit {0}
  ViaThere (Some v) = (v.map < map_count b.mesh) × (e < set_size b.mesh (map_from b.mesh v.map)) × (v.index < map_dim b.mesh v.map)

  -- what element e reaches by the argument is there
  abbrev pub ArgThere : Arg → Type 0
  ArgThere (Dat d v a) = ArgNamed b (Dat d v a) × ViaThere v
  ArgThere (Global v a) = ArgNamed b (Global v a) × Unit {0}

  -- the numbers of what element e reaches by the arguments
  abbrev pub AreNumbers : List Arg → List ℕ → Type 0
  AreNumbers args numbers = (k : ℕ) → k < length args → get_or numbers k 0 ≡ number_of (reached b e (get_or args k no_arg))
