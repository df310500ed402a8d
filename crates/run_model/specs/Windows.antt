-- What a loop's arguments reach for an element: the cells of the different targets, one window after another.
use Rattle.std.specs.Prelude.{ℕ, Bool, false, ◌+◌, ◌&&◌, List, [], ◌∷◌, length, map, Option, Some, None, nat_eq, if◌then◌else◌}
use Rattle.std.specs.List.{flat_map, range_with_len}
use Rattle.kernel_model.specs.Meaning as kernel
use Rattle.mesh_decl.specs.declared.access.Via.{Via}
use Rattle.mesh_decl.specs.Mesh.{target, dat_dim}
use Rattle.schedule_model.specs.Cells.{Cell, Data, Variable}
use Rattle.bound_program.specs.declared.sites.Arg.{Arg}
use Rattle.bound_program.specs.declared.sites.Arg.TheVariants.{Dat, Global}
use Rattle.bound_program.specs.Values.{BoundValue}
use Rattle.bound_program.specs.Fits.{var_at}

-- the numbers below n
abbrev pub numbers : ℕ → List ℕ
numbers n = range_with_len 0 n

-- what an argument reaches: an element of a dat, or a whole variable
pub data Reached : Type 0 where
  Element : (dat element : ℕ) → Reached
  Whole : (var : ℕ) → Reached

-- both are one
abbrev pub is_same : Reached → Reached → Bool
is_same (Element d x) (Element e y) = nat_eq d e && nat_eq x y
is_same (Whole v) (Whole w) = nat_eq v w
is_same _ _ = false

-- the list without this one
abbrev pub without : Reached → List Reached → List Reached
without r [] = []
without r (x ∷ xs) = if is_same x r then without r xs else x ∷ without r xs

-- each once, where it stands first
abbrev pub different : List Reached → List Reached
different [] = []
different (x ∷ xs) = x ∷ without x (different xs)

-- one of its cells
abbrev pub cell_in : Reached → ℕ → Cell
cell_in (Element d x) i = Data (record { dat = d; element = x; component = i })
cell_in (Whole v) i = Variable (record { variable = v; component = i })

module _ (b : BoundValue) where
  -- the element of the dat that element e of the loop reaches directly, or by a map
  abbrev pub element_by : Option Via → ℕ → ℕ
  element_by None e = e
  element_by (Some v) e = target b.mesh v.map e v.index

  -- what element e of the loop reaches by the argument
  abbrev pub reached : ℕ → Arg → Reached
  reached e (Dat d v a) = Element d (element_by v e)
  reached e (Global v a) = Whole v

  -- how many cells that has
  abbrev pub width : Reached → ℕ
  width (Element d x) = dat_dim b.mesh d
  width (Whole v) = length (var_at b v).start

  -- the cells of a target in order
  abbrev pub cells_in : Reached → List Cell
  cells_in r = map (cell_in r) (numbers (width r))

  -- the different targets of element e, in the order in which arguments first reach them
  abbrev pub targets : List Arg → ℕ → List Reached
  targets args e = different (map (reached e) args)

  -- the cells of its windows
  abbrev pub window_cells : List Arg → ℕ → List Cell
  window_cells args e = flat_map cells_in (targets args e)

  -- where the window of a target starts among these
  abbrev pub window_start : List Reached → Reached → ℕ
  window_start [] r = 0
  window_start (x ∷ xs) r = if is_same x r then 0 else width x + window_start xs r

  -- the window of an argument, in one array
  abbrev pub window_of : List Reached → Reached → kernel.Target
  window_of all r = record { array = 0; from = window_start all r; count = width r }

  -- the windows of a kernel's arguments: those with one target have one window
  abbrev pub windows : List Arg → ℕ → List kernel.Target
  windows args e = map (λ a. window_of (targets args e) (reached e a)) args
