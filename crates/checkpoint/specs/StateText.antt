-- The text of a state, and what a text reads as.
use Rattle.std.specs.Prelude.{ℕ, suc, ℤ, List, [], ◌∷◌, ◌++◌, length, codes}
use Rattle.std.specs.Fmt.{decimal}
use Rattle.mesh_decl.specs.Mesh.{MeshValue}
use Rattle.mesh_decl.specs.Printed.{row_text, printed_dat}
use Rattle.bound_program.specs.Values.{BoundValue}
use Rattle.checkpoint.specs.Cut.{StateValue}

-- ---- the text of a state

-- the values between single spaces, and LF
abbrev pub values_text : List ℤ → List ℕ
values_text [] = codes "\n"
values_text (z ∷ zs) = row_text (z ∷ zs)

-- a variable
abbrev pub var_text : ℕ → List ℤ → List ℕ
var_text n zs = codes "var " ++ decimal n ++ codes " " ++ decimal (length zs) ++ codes "\n" ++ values_text zs

-- variables, from this number on
abbrev pub vars_text : ℕ → List (List ℤ) → List ℕ
vars_text n [] = []
vars_text n (z ∷ zs) = var_text n z ++ vars_text (suc n) zs

-- dats, from this number on
abbrev pub dats_text : MeshValue → ℕ → List (List ℤ) → List ℕ
dats_text g d [] = []
dats_text g d (z ∷ zs) = printed_dat (codes "dat") g d z ++ dats_text g (suc d) zs

-- the text that is written for a state, from the LF before its first line
abbrev pub state_text : BoundValue → StateValue → List ℕ
state_text b s =
    (codes "\nop2state 1\nitem " ++ decimal s.item ++ codes "\n")
    ++ vars_text 0 s.vars ++ dats_text b.mesh 0 s.dats ++ codes "done\n"
