-- The run of a loop's kernel for one element.
use Rattle.std.specs.Prelude.{ℕ, zero, suc, ℤ, ◌+◌, ◌-◌, Bool, not, ◌&&◌, List, [], ◌∷◌, map, length, sum_by, Option, Some, None, nat_lt, if◌then◌else◌}
use Rattle.kernel_model.specs.declared.types.faults.KernelFault.{KernelFault}
use Rattle.kernel_model.specs.declared.types.kernels.RKernel.{RKernel}
use Rattle.kernel_model.specs.Meaning.{kernel_meaning}
use Rattle.schedule_model.specs.Cells.{Variable, VarCell, Store}
use Rattle.schedule_model.specs.Effects.{Ran, Finished}
use Rattle.schedule_model.specs.Layout.{of_core}
use Rattle.run_model.specs.OnWindows.{core_of}
use Rattle.bound_program.specs.Values.{BoundValue, SiteValue, VarValue}
use Rattle.bound_program.specs.Fits.{constant_cells}
use Rattle.run_model.specs.Windows.{numbers, window_cells, windows}

-- number j is one of n from the first on
abbrev pub is_among : ℕ → ℕ → ℕ → Bool
is_among first n j = not (nat_lt j first) && nat_lt j (first + n)

-- the cell of constant j in variable v, which has n cells, where it is one of them; else the other cell
abbrev pub constant_or : Option ℕ → (n v j : ℕ) → VarCell → VarCell
constant_or None n v j other = other
constant_or (Some first) n v j other = if is_among first n j then record { variable = v; component = j - first } else other

-- the cell of the constant with this number, among the variables from number v on
abbrev pub constant_in : List VarValue → ℕ → ℕ → VarCell
constant_in [] v j = record { variable = v; component = 0 }
constant_in (x ∷ xs) v j = constant_or x.constant (length x.start) v j (constant_in xs (suc v) j)

-- a kernel by its number, where it is there
abbrev pub kernel_at : List RKernel → ℕ → Option RKernel
kernel_at [] k = None
kernel_at (x ∷ xs) zero = Some x
kernel_at (x ∷ xs) (suc k) = kernel_at xs k

module _ (b : BoundValue) where
  -- the cells of the constants that kernels read, by their numbers
  abbrev pub constants : List VarCell
  constants = map (constant_in b.vars 0) (numbers (sum_by constant_cells b.vars))

  -- the values of the constants that kernels read
  abbrev pub constant_values : Store → List ℤ
  constant_values s = map (λ v. s (Variable v)) constants

  -- the kernel's run on the values of the element's windows; all other cells stay
  abbrev pub run_of : Option RKernel → SiteValue → ℕ → Store → Ran KernelFault
  run_of None site e s = Finished s
  run_of (Some k) site e s =
      of_core
      (window_cells b site.args e)
      s
      (core_of (kernel_meaning (windows b site.args e) (constant_values s) k (map s (window_cells b site.args e) ∷ [])))

  -- the run of the loop's kernel for element e
  abbrev pub element_run : SiteValue → ℕ → Store → Ran KernelFault
  element_run site e s = run_of (kernel_at b.kernels site.kernel) site e s
