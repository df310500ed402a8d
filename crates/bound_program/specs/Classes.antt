-- How a loop reaches its dats, and whether the order of its elements may matter.
use Rattle.std.specs.Prelude.{ℕ, Bool, true, false, not, ◌&&◌, ◌||◌, List, Option, is_some, is_none, nat_eq, if◌then◌else◌}
use Rattle.std.specs.List.{list_all, list_any}
use Rattle.op_num.specs.declared.reductions.access.Access.{Access}
use Rattle.op_num.specs.declared.reductions.access.Access.TheVariants as access
use Rattle.mesh_decl.specs.declared.access.Via.{Via}
use Rattle.bound_program.specs.declared.sites.Arg.{Arg}
use Rattle.bound_program.specs.declared.sites.Arg.TheVariants.{Dat, Global}
use Rattle.bound_program.specs.declared.sites.Class.{Class}
use Rattle.bound_program.specs.declared.sites.Class.TheVariants.{Free, Ordered}

-- an access is this one, which is OP_READ or merges amounts
abbrev pub is_access : (wanted a : Access) → Bool
is_access access.Read access.Read = true
is_access access.Inc access.Inc = true
is_access access.Min access.Min = true
is_access access.Max access.Max = true
is_access w a = false

-- an access is OP_READ
abbrev pub is_read : Access → Bool
is_read a = is_access access.Read a

-- an access is OP_INC
abbrev pub is_inc : Access → Bool
is_inc a = is_access access.Inc a

-- an access is OP_MIN
abbrev pub is_min : Access → Bool
is_min a = is_access access.Min a

-- an access is OP_MAX
abbrev pub is_max : Access → Bool
is_max a = is_access access.Max a

-- an access merges amounts into what it reaches
abbrev pub is_reducing : Access → Bool
is_reducing a = is_inc a || is_min a || is_max a

-- the argument is on another dat, or passes the test, which sees how it is reached and its access
abbrev pub passes : ℕ → (Option Via → Access → Bool) → Arg → Bool
passes d test (Dat e v a) = not (nat_eq e d) || test v a
passes d test (Global v a) = true

-- all arguments on the dat pass the test
abbrev pub all_on : ℕ → (Option Via → Access → Bool) → List Arg → Bool
all_on d test args = list_all (passes d test) args

-- the loop modifies the dat: an argument on it isn't OP_READ
abbrev pub modifies : List Arg → ℕ → Bool
modifies args d = not (all_on d (λ v a. is_read a) args)

-- the dat has direct arguments alone, or arguments of one reducing access alone
abbrev pub is_orderly : List Arg → ℕ → Bool
is_orderly args d =
    all_on d (λ v a. is_none v) args || all_on d (λ v a. is_inc a) args || all_on d (λ v a. is_min a) args
    || all_on d (λ v a. is_max a) args

-- the argument's dat is only read or orderly
abbrev pub is_orderly_arg : List Arg → Arg → Bool
is_orderly_arg args (Dat d v a) = all_on d (λ w b. is_read b) args || is_orderly args d
is_orderly_arg args (Global v a) = true

-- Free where each dat that the loop modifies is orderly, so that the order of elements can't matter
abbrev pub class_of : List Arg → Class
class_of args = if list_all (is_orderly_arg args) args then Free else Ordered

-- the argument merges amounts into what its map leads to
abbrev pub is_scattered : Arg → Bool
is_scattered (Dat d v a) = is_some v && is_reducing a
is_scattered (Global v a) = false

-- the loop merges amounts into what its maps lead to
abbrev pub scatters : List Arg → Bool
scatters args = list_any is_scattered args

-- the argument is a global that merges amounts
abbrev pub is_reduced : Arg → Bool
is_reduced (Dat d v a) = false
is_reduced (Global v a) = is_reducing a

-- a global merges amounts
abbrev pub reduces : List Arg → Bool
reduces args = list_any is_reduced args
