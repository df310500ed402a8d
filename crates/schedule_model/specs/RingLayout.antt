-- The ring on flat buffers: a rank's own node first, then the imported one, x before r; edges likewise by places.
use Rattle.std.specs.Prelude.{ℕ, zero, suc, ℤ, pos, ◌+◌, ◌*◌, ◌+ℤ◌, Bool, true, false, cond, ◌==◌, List, [], ◌∷◌, None}
use Rattle.std.specs.Int.{int_wrap, w32}
use Rattle.schedule_model.specs.Cells.{Cell, DatCell}
use Rattle.schedule_steps.specs.declared.step.Step.{Step}
use Rattle.schedule_steps.specs.Standard.{standard}
use Rattle.schedule_model.specs.Layout.{Core, Faults, Leaves, Layout, by_place}
use Rattle.schedule_model.specs.Flat.{Flat, Shut_pane}
use Rattle.schedule_model.specs.Ring.{ring, other, x_cell, r_cell, one_cell, x, r, sum, base}

-- the windows of a kernel
abbrev pub cells : ℕ → ℕ → List Cell
cells zero e = x e ∷ base ∷ []
cells (suc zero) e = x 0 ∷ x 1 ∷ r 0 ∷ r 1 ∷ sum ∷ []
cells (suc (suc n)) e = x e ∷ r e ∷ []

-- in a faulty run each edge faults, with its number
abbrev pub unless_core : Bool → ℕ → List ℤ → Core ℕ
unless_core true e ws = Faults e
unless_core false e ws = Leaves ws

-- the one constant
abbrev pub constant_of : List ℤ → ℤ
constant_of [] = pos 0
constant_of (u ∷ cs) = u

-- the kernels on constants and windows
abbrev pub core_run : Bool → ℕ → ℕ → List ℤ → List ℤ → Core ℕ
core_run faulty zero e cs (a ∷ b ∷ []) = Leaves (int_wrap w32 (pos (suc e) +ℤ (b +ℤ b)) ∷ b ∷ [])
core_run faulty (suc zero) e cs (a ∷ b ∷ c ∷ d ∷ s ∷ []) =
    unless_core faulty e (a ∷ b ∷ int_wrap w32 (c +ℤ b) ∷ int_wrap w32 (d +ℤ a) ∷ int_wrap w32 (s +ℤ constant_of cs) ∷ [])
core_run faulty (suc (suc n)) e cs (a ∷ b ∷ []) = Leaves (int_wrap w32 (a +ℤ b) ∷ b ∷ [])
core_run faulty k e cs ws = Leaves ws

-- 0 for a rank's own, 1 for the other's
abbrev pub side : ℕ → ℕ → ℕ
side t n = cond (n == t) 0 1

-- the one with this side
abbrev pub of_side : ℕ → ℕ → ℕ
of_side t zero = t
of_side t (suc n) = other t

-- the cell at an index of rank t's buffer
abbrev pub cell_at : ℕ → ℕ → DatCell
cell_at t zero = x_cell t
cell_at t (suc zero) = x_cell (other t)
cell_at t (suc (suc zero)) = r_cell t
cell_at t (suc (suc (suc n))) = r_cell (other t)

-- in item 1 each rank sends its x
abbrev pub exports : ℕ → ℕ → ℕ → List Cell
exports zero s t = []
exports (suc zero) s t = x s ∷ []
exports (suc (suc n)) s t = []

-- the places of a rank: its node in item 0, both edges in item 1
abbrev pub count : ℕ → ℕ → ℕ
count zero t = 1
count (suc zero) t = 2
count (suc (suc n)) t = 0

-- where the ring's cells and elements stand, in a run without faults or a faulty one
abbrev pub ring_layout : Bool → Layout ℕ
ring_layout faulty = record {
  cells = cells;
  constants = one_cell ∷ [];
  core = core_run faulty;
  dats = 2;
  dim = λ d. 1;
  width = λ t. 4;
  place = λ t c. 2 * c.dat + side t c.element;
  cell_at = cell_at;
  variables = 3;
  index_of = λ v. v.variable;
  variable_at = λ i. record { variable = i; component = 0 };
  exports = exports;
  count = count;
  original = λ k t p. of_side t p;
  local = λ k t e. side t e;
}

-- the machine's first state
abbrev pub ring_start : Flat ℕ
ring_start = record {
  memories = (pos 0 ∷ pos 0 ∷ pos 0 ∷ pos 0 ∷ []) ∷ (pos 0 ∷ pos 0 ∷ pos 0 ∷ pos 0 ∷ []) ∷ [];
  variables = pos 0 ∷ pos 1 ∷ pos 0 ∷ [];
  partials = λ t s v. pos 0;
  mail = λ s t. [];
  panes = λ k t p. Shut_pane;
  faults = [];
  output = [];
  stop = None;
}

-- the standard order by places, with groups of 2
abbrev pub ring_places : List Step
ring_places = standard (by_place (ring false) (ring_layout false)) 2
