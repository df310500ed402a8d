-- The text of owners.
use Rattle.std.specs.Prelude.{◌≡◌, ℕ, suc, ◌<◌, List, [], ◌∷◌, ◌++◌, map, codes}
use Rattle.std.specs.Fmt.{decimal}
use Rattle.op_num.specs.Lines.{IsToken, text_of_lines}
use Rattle.mesh_decl.specs.Mesh.{MeshValue, set_count, set_size, set_name}
use Rattle.partition.specs.Spelling.{IsNamed}

-- a line: its tokens
abbrev pub Line : Type 0
Line = List (List ℕ)

-- the lines of the set of this number: its name and its size, and the ranks of its elements
abbrev pub set_lines : MeshValue → ℕ → List ℕ → List Line
set_lines g s ranks = (codes "set" ∷ set_name g s ∷ decimal (set_size g s) ∷ []) ∷ map decimal ranks ∷ []

-- those of the sets from this number on
abbrev pub lines_from : MeshValue → ℕ → List (List ℕ) → List Line
lines_from g s [] = []
lines_from g s (ranks ∷ rest) = set_lines g s ranks ++ lines_from g (suc s) rest

-- the text: the header, the sets in order of declaration, and `done`; a set without elements has no line of ranks
abbrev pub partition_text : MeshValue → (owners : List (List ℕ)) → List ℕ
partition_text g owners =
    text_of_lines ((codes "op2part" ∷ codes "1" ∷ []) ∷ (lines_from g 0 owners ++ (codes "done" ∷ []) ∷ []))

-- A text can name the set: its name is a token, and no later set has it.
pub record HasName (g : MeshValue) (s : ℕ) : Type 0 where
  pub token : IsToken (set_name g s)
  pub named : IsNamed g (set_name g s) s

-- a text can name each set
abbrev pub HaveNames : MeshValue → Type 0
HaveNames g = (s : ℕ) → s < set_count g → HasName g s
