-- Which arguments of a loop reach elements alike.
use Rattle.std.specs.Prelude.{◌≡◌, ◌<◌, ◌≤◌, ◌⊎◌, ℕ, Bool, true, false, not, ◌&&◌, List, get_or, Option, Some, None, nat_eq}
use Rattle.mesh_decl.specs.declared.access.Via.{Via}
use Rattle.bound_program.specs.declared.sites.Arg.{Arg}
use Rattle.bound_program.specs.declared.sites.Arg.TheVariants.{Dat}
use Rattle.bound_program.specs.Classes.{is_read}
use Rattle.run_model.specs.Arguments.{no_arg}

-- an argument by its number
abbrev pub arg_in : List Arg → ℕ → Arg
arg_in args a = get_or args a no_arg

-- both lead by no map, or by one map and one index
abbrev pub same_via : Option Via → Option Via → Bool
same_via None None = true
same_via (Some v) (Some w) = nat_eq v.map w.map && nat_eq v.index w.index
same_via v w = false

-- both are on dats, which they reach in one way
abbrev pub same_way : Arg → Arg → Bool
same_way (Dat d v a) (Dat e w b) = same_via v w
same_way x y = false

-- both are on one dat, which they reach in one way
abbrev pub same_column : Arg → Arg → Bool
same_column (Dat d v a) (Dat e w b) = nat_eq d e && same_via v w
same_column x y = false

-- both are on one dat, which one of them may modify, and reach it in different ways
abbrev pub may_meet : Arg → Arg → Bool
may_meet (Dat d v a) (Dat e w b) = nat_eq d e && not (same_via v w) && not (is_read a && is_read b)
may_meet x y = false

-- the first of the arguments that are like argument a, which is one of them
pub record IsFirst (like : Arg → Arg → Bool) (args : List Arg) (a first : ℕ) : Type 0 where
  pub upto : first ≤ a
  pub alike : (first ≡ a) ⊎ (like (arg_in args first) (arg_in args a) ≡ true)
  pub least : (b : ℕ) → b < first → like (arg_in args b) (arg_in args a) ≡ false
