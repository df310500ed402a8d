-- What a program prints at most, under its limit, and the values that were told to its variables.
use Rattle.std.specs.Prelude.{ℕ, zero, suc, ℤ, ◌+◌, ◌*◌, List, [], ◌∷◌, length, sum_by, Ok, Err, nat_lt, if◌then◌else◌}
use Rattle.mesh_decl.specs.Mesh.{MeshValue, set_size, set_name, dat_set, dat_dim, dat_name}
use Rattle.mesh_decl.specs.Printed.{conversions}
use Rattle.bound_program.specs.declared.refusals.refusals.BindRefusal.TheVariants as refusal
use Rattle.bound_program.specs.declared.refusals.refusals.Counted.TheVariants as counted
use Rattle.bound_program.specs.Values.{Line, Print, ItemValue, Host, VarValue}
use Rattle.bound_program.specs.Refusals.{Judged, ◌>>=◌}
use Rattle.bound_program.specs.Limits.{max_trace, max_weight}
use Rattle.main_declarations.specs.Meanings.{or_zero}
use Rattle.bound_program.specs.Trace.{Event}
use Rattle.bound_program.specs.Limited.{ToldValue, UnrolledValue, unrolled}

-- ---- what is printed

-- what `op_printf` prints at most: the text, and 12 bytes for each value
abbrev pub line_weight : List ℕ → ℕ
line_weight l = length l + 12 * or_zero (conversions l)

-- what `op_print_dat_to_txtfile` prints at most: the three names, 64 bytes for the first line, and 12 for each value
abbrev pub print_weight : MeshValue → ℕ → List ℕ → ℕ
print_weight g d file =
    length file + (length (dat_name g d) + length (set_name g (dat_set g d))) + 64 + 12 * (set_size g (dat_set g d) * dat_dim g d)

-- what an item prints at most
abbrev pub weight : MeshValue → ItemValue → ℕ
weight g (Host (Line l es)) = line_weight l
weight g (Host (Print d file)) = print_weight g d file
weight g _ = 0

-- what all items print at most
abbrev pub weight_of_all : MeshValue → List ItemValue → ℕ
weight_of_all g items = sum_by (weight g) items

-- so much may be printed, or is refused
abbrev pub within_weight : ℕ → Judged (Unit {0})
within_weight n = if nat_lt max_weight n then Err (refusal.Limit counted.PrintWeight n) else Ok tt

-- what was unrolled, where the items print no more than the limit
abbrev pub weighed : MeshValue → UnrolledValue → Judged UnrolledValue
weighed g u = within_weight (weight_of_all g u.items) >>= λ _. Ok u

-- what the events are under both limits
abbrev pub trace : MeshValue → List Event → Judged UnrolledValue
trace g es = unrolled max_trace es >>= weighed g

-- ---- `const` variables of blocks

-- the variable of this number starts with the value
abbrev pub started : ℕ → ℤ → List VarValue → List VarValue
started v z [] = []
started zero z (x ∷ xs) = (record x { start = z ∷ [] }) ∷ xs
started (suc v) z (x ∷ xs) = x ∷ started v z xs

-- the variables with the values that were told
abbrev pub with_told : List ToldValue → List VarValue → List VarValue
with_told [] vs = vs
with_told (t ∷ ts) vs = with_told ts (started t.var t.value vs)
