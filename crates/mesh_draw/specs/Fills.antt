-- What the colours of a picture stand for.
use Rattle.std.specs.Prelude.{ℕ, ◌+◌, nat_eq, List, [], ◌∷◌, ◌++◌, map, max, codes, if◌then◌else◌}
use Rattle.std.specs.List.{range_with_len}
use Rattle.std.specs.Fmt.{decimal}
use Rattle.mesh_draw.specs.declared.picture.legend.Label.{Label}
use Rattle.cell_numbers.specs.declared.types.Shown.{Shown}
use Rattle.cell_numbers.specs.declared.types.Shown.TheVariants as shown

-- the number of the colour of a cell with this number: the same, but of cells that a rank hasn't the grey one
abbrev pub fill_of : Shown → ℕ → ℕ
fill_of (shown.Halos r) n = if nat_eq n 3 then 63 else n
fill_of w n = n

-- the colours of cells with these numbers
abbrev pub fills_of : Shown → List ℕ → List ℕ
fills_of w numbers = map (fill_of w) numbers

-- ---- legends

-- a colour, and what it stands for
abbrev pub label : ℕ → List ℕ → Label
label fill text = record { fill = fill; text = text }

-- a colour that stands for what a word and its number name
abbrev pub numbered : List ℕ → ℕ → Label
numbered word k = label k (word ++ codes " " ++ decimal k)

-- one more than the greatest number, or 0
abbrev pub past_all : List ℕ → ℕ
past_all [] = 0
past_all (k ∷ ks) = max (k + 1) (past_all ks)

-- what the colours of one rank's cells stand for
abbrev pub part_labels : List Label
part_labels =
    label 0 (codes "owned") ∷ label 1 (codes "import execute") ∷ label 2 (codes "import non-execute") ∷ label 63 (codes "other") ∷ []

-- what the colours stand for, where there are so many ranks
abbrev pub labels_of : Shown → (ranks : ℕ) → (fills : List ℕ) → List Label
labels_of shown.Owners ranks fills = map (numbered (codes "rank")) (range_with_len 0 ranks)
labels_of (shown.Halos r) ranks fills = part_labels
labels_of (shown.Colours site) ranks fills = map (numbered (codes "colour")) (range_with_len 0 (past_all fills))
