-- The pieces of an `op_printf` text.
use Rattle.std.specs.Prelude.{ℕ, ℤ, Bool, false, ◌&&◌, nat_eq, List, [], ◌∷◌}
use Rattle.mesh_decl.specs.Printed.{shown}
use Rattle.run_model.specs.declared.gather.lines.Piece.{Piece}
use Rattle.run_model.specs.declared.gather.lines.Piece.TheVariants.{Value, Percent, Byte}

-- the text begins with `%` and this byte
abbrev pub begins : ℕ → List ℕ → Bool
begins b [] = false
begins b (c ∷ []) = false
begins b (c ∷ d ∷ ds) = nat_eq c 37 && nat_eq d b

-- what a piece prints, where these values are left
abbrev pub piece_text : Piece → List ℤ → List ℕ
piece_text Value zs = shown zs
piece_text Percent zs = 37 ∷ []
piece_text (Byte c) zs = c ∷ []

-- how many bytes of the text it is
abbrev pub piece_len : Piece → ℕ
piece_len Value = 2
piece_len Percent = 2
piece_len (Byte c) = 1

-- how many values it takes
abbrev pub piece_values : Piece → ℕ
piece_values Value = 1
piece_values Percent = 0
piece_values (Byte c) = 0
