-- What a loop hands to its kernel for an element, where a program begins.
use Rattle.std.specs.Prelude.{ℕ, suc, ℤ, ◌*◌, List, [], ◌∷◌, ◌++◌, take, drop, nat_lt, Option, Some, None, slice_get, codes, option_and_then, if◌then◌else◌}
use Rattle.std.specs.Fmt.{decimal, signed_decimal}
use Rattle.std.specs.List.{flat_map}
use Rattle.mesh_decl.specs.declared.access.Via.{Via}
use Rattle.mesh_decl.specs.Mesh.{MeshValue, set_size, target, dat_dim, dat_name, dat_values}
use Rattle.bound_program.specs.declared.sites.Arg.{Arg}
use Rattle.bound_program.specs.declared.sites.Arg.TheVariants.{Dat, Global}
use Rattle.bound_program.specs.Values.{BoundValue, SiteValue, ItemValue, Free, Reduce, Ordered, Host}
use Rattle.bound_program.specs.Fits.{var_at}
use Rattle.explanations.specs.Words.{line_words, number_at}
use Rattle.explanations.specs.Faults.{item_in}

-- the element that the line of a fault names, `op2: fault item K element E ..`
abbrev pub element_in : (line : List ℕ) → Option ℕ
element_in line = number_at (line_words line) 5

-- the loop that an item runs, where that is a Free one
abbrev pub free_loop_of : ItemValue → Option ℕ
free_loop_of (Free s) = Some s
free_loop_of (Reduce s) = None
free_loop_of (Ordered s) = None
free_loop_of (Host a) = None

-- the Free loop that the line of a fault names by its item
abbrev pub free_loop_in : BoundValue → (line : List ℕ) → Option ℕ
free_loop_in b line = option_and_then (λ item. option_and_then free_loop_of (slice_get b.trace item)) (item_in line)

-- numbers, each behind a space
abbrev pub spaced : List ℤ → List ℕ
spaced numbers = flat_map (λ z. 32 ∷ signed_decimal z) numbers

-- the values of a dat at an element
abbrev pub row_of : MeshValue → (dat element : ℕ) → List ℤ
row_of g dat element = take (dat_dim g dat) (drop (element * dat_dim g dat) (dat_values g dat))

-- the element to which an argument leads from one of the loop's set
abbrev pub reached : MeshValue → (element : ℕ) → Option Via → ℕ
reached g element None = element
reached g element (Some via) = target g via.map element via.index

-- an argument: the dat, the element and its values there, or the variable and its values
abbrev pub shown_value : BoundValue → (element : ℕ) → Arg → List ℕ
shown_value b element (Dat d via access) =
    dat_name b.mesh d ++ codes " at " ++ decimal (reached b.mesh element via) ++ codes ":"
    ++ spaced (row_of b.mesh d (reached b.mesh element via))
shown_value b element (Global v access) = (var_at b v).name ++ codes ":" ++ spaced (var_at b v).start

-- arguments, a line each, of which the first has this number
abbrev pub shown_values : BoundValue → (element number : ℕ) → List Arg → List ℕ
shown_values b element number [] = []
shown_values b element number (x ∷ xs) =
    codes "argument " ++ decimal number ++ codes ", " ++ shown_value b element x ++ codes "\n" ++ shown_values b element (suc number) xs

-- those of a loop, for an element of its set
abbrev pub shown_at_site : BoundValue → (element : ℕ) → Option SiteValue → List ℕ
shown_at_site b element None = []
shown_at_site b element (Some s) = if nat_lt element (set_size b.mesh s.set) then shown_values b element 1 s.args else []

-- those for an element, if one is told
abbrev pub shown_for : BoundValue → Option ℕ → Option SiteValue → List ℕ
shown_for b None site = []
shown_for b (Some element) site = shown_at_site b element site

-- those of the loop of this number, for the element that a line names
abbrev pub shown_arguments : BoundValue → (line : List ℕ) → (site : ℕ) → List ℕ
shown_arguments b line site = shown_for b (element_in line) (slice_get b.sites site)
