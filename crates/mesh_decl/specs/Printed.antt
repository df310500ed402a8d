-- The bytes that a program prints.
use Rattle.std.specs.Prelude.{ℕ, zero, suc, ℤ, ◌+◌, ◌&&◌, nat_eq, List, [], ◌∷◌, ◌++◌, map, take, drop, Option, Some, None, codes, if◌then◌else◌}
use Rattle.std.specs.List.{flat_map}
use Rattle.std.specs.Fmt.{decimal, signed_decimal}
use Rattle.op_num.specs.Lines.{line_of}
use Rattle.mesh_decl.specs.Mesh.{MeshValue, set_size, set_name, dat_set, dat_dim, dat_name}

-- the values of the elements, one list each
abbrev pub rows : ℕ → ℕ → List ℤ → List (List ℤ)
rows dim zero zs = []
rows dim (suc n) zs = take dim zs ∷ rows dim n (drop dim zs)

-- an element's values between single spaces, and LF
abbrev pub row_text : List ℤ → List ℕ
row_text zs = line_of (map signed_decimal zs)

-- the parts of the first line: `F: D SET SIZE DIM` and LF
abbrev pub dat_header : List ℕ → MeshValue → ℕ → List (List ℕ)
dat_header file g d = file ∷ codes ": " ∷ dat_name g d ∷ codes " " ∷ set_name g (dat_set g d) ∷ codes " "
    ∷ decimal (set_size g (dat_set g d)) ∷ codes " " ∷ decimal (dat_dim g d) ∷ codes "\n" ∷ []

-- what `op_print_dat_to_txtfile` prints of a dat that has these values
unfoldable pub printed_dat : List ℕ → MeshValue → ℕ → List ℤ → List ℕ
printed_dat file g d zs = flat_map (λ part. part) (dat_header file g d)
    ++ flat_map row_text (rows (dat_dim g d) (set_size g (dat_set g d)) zs)

-- one more, where there is a count
abbrev pub one_more : Option ℕ → Option ℕ
one_more None = None
one_more (Some n) = Some (n + 1)

-- how many values a text of `op_printf` takes, one for each `%d`; none where a `%` is neither in `%d` nor in `%%`
abbrev pub conversions : List ℕ → Option ℕ
conversions [] = Some 0
conversions (c ∷ []) = if nat_eq c 37 then None else Some 0
conversions (c ∷ d ∷ ds) =
    if nat_eq c 37
    then (if nat_eq d 100 then one_more (conversions ds) else (if nat_eq d 37 then conversions ds else None))
    else conversions (d ∷ ds)

-- the next value, where there is one
abbrev pub shown : List ℤ → List ℕ
shown [] = []
shown (z ∷ zs) = signed_decimal z

-- what `op_printf` prints of a text and its values: `%d` is the next value, `%%` is `%`
unfoldable pub printed_line : List ℕ → List ℤ → List ℕ
printed_line [] zs = []
printed_line (c ∷ []) zs = c ∷ []
printed_line (c ∷ d ∷ ds) zs =
    if nat_eq c 37 && nat_eq d 100 then shown zs
    ++ printed_line ds (drop 1 zs) else (if nat_eq c 37 && nat_eq d 37 then 37 ∷ printed_line ds zs else c ∷ printed_line (d ∷ ds) zs)
