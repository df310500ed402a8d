-- The argument that a loop gives the parameter at a place.
use Rattle.std.specs.Prelude.{ℕ, Bool, false, ◌&&◌, nat_eq, List, Option, Some, None, option_and_then}
use Rattle.std.specs.List.{find, position}
use Rattle.std.specs.Str.{bytes_eq}
use Rattle.c_tree.specs.declared.lexer.tokens.Pos.{Pos}
use Rattle.c_tree.specs.declared.lexer.tokens.Token.{Token}
use Rattle.c_tree.specs.declared.lexer.tokens.Kind.{Kind}
use Rattle.c_tree.specs.declared.lexer.tokens.Kind.TheVariants as kind
use Rattle.c_tree.specs.declared.hosts.LoopArg.{LoopArg}
use Rattle.c_tree.specs.declared.hosts.LoopArg.TheVariants as arg
use Rattle.kernel_model.specs.declared.types.kernels.RKernel.{RKernel}
use Rattle.explanations.specs.declared.places.Place.{Place}
use Rattle.explanations.specs.Placed.{place_of}

-- a token stands at this place
abbrev pub stands_at : Place → Token → Bool
stands_at at t = nat_eq t.at.line at.line && nat_eq t.at.column at.column

-- the name of a kind of token, if it is one
abbrev pub name_in : Kind → Option (List ℕ)
name_in (kind.Name name) = Some name
name_in k = None

-- the name that a token is, if it is one
abbrev pub name_of : Token → Option (List ℕ)
name_of t = name_in t.kind

-- the name that stands at a place, if one does
abbrev pub name_at : List Token → Place → Option (List ℕ)
name_at tokens at = option_and_then name_of (find (stands_at at) tokens)

-- it is this name
abbrev pub is_same : (name : List ℕ) → Option (List ℕ) → Bool
is_same name None = false
is_same name (Some other) = bytes_eq other name

-- this name stands at a place
abbrev pub is_named : List Token → (name : List ℕ) → Pos → Bool
is_named tokens name at = is_same name (name_at tokens (place_of at))

-- the number of the kernel's parameter, from 0, whose name stands at this place
abbrev pub parameter_at : List Token → RKernel → Place → Option ℕ
parameter_at tokens k at =
    option_and_then (λ name. position (is_named tokens name) k.body.param_places.items) (name_at tokens at)

-- the number of the first token of an argument
abbrev pub token_of : LoopArg → ℕ
token_of (arg.Dat at dat index via dim text word word_at) = at
token_of (arg.Global at global dim text word word_at) = at
