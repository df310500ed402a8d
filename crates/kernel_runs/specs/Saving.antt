-- The cells that a memory has at marked places.
use Rattle.std.specs.Prelude.{◌≡◌, ◌<◌, ◌+◌, ℕ, ℤ, pos, Bool, true, List, [], ◌∷◌, length, get_or}
use Rattle.kernel_model.specs.declared.types.views.frame.Place.{Place}
use Rattle.rank_state.specs.declared.spans.Span.{Span}
use Rattle.rank_state.specs.Spans.{total}
use Rattle.kernel_runs.specs.Standing.{stands_at, is_written, IsUnwritten}

-- how many cells they have, one after another
abbrev pub place_cells : List Place → ℕ
place_cells [] = 0
place_cells (p ∷ ps) = p.count + place_cells ps

-- the places as spans, of which the marked ones are written
abbrev pub place_spans : List Place → List Bool → List Span
place_spans [] marks = []
place_spans (p ∷ ps) [] = []
place_spans (p ∷ ps) (w ∷ ws) = record { at = p.from; dim = p.count; writes = w } ∷ place_spans ps ws

-- the list has the written spans' cells of the memory, each where it stands among the gathered ones
abbrev pub AreSaved : List Span → (memory saved : List ℤ) → Type 0
AreSaved spans memory saved =
    (j : ℕ) → j < total spans → is_written spans j ≡ true → get_or saved j (pos 0) ≡ get_or memory (stands_at spans j) (pos 0)

-- the memory has its length still, and its cells but for those of written spans
pub record AreKept (spans : List Span) (old new : List ℤ) : Type 0 where
  pub count : length new ≡ length old
  pub cells : (i : ℕ) → IsUnwritten spans i → get_or new i (pos 0) ≡ get_or old i (pos 0)
