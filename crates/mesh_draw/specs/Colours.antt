-- The colours of cells.
use Rattle.std.specs.Prelude.{ℕ, ◌*◌, List, take, drop}
use Rattle.mesh_draw.specs.declared.picture.palette.TheConstants.{COLOURS}

-- the text of a colour: `#` and six digits
unfoldable pub colour : ℕ → List ℕ
colour k = take 7 (drop (k * 7) COLOURS.now)
