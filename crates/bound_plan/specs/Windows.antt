-- The windows of an element's frame: those on dats first, and then those on variables.
use Rattle.std.specs.Prelude.{ℕ, ℤ, List, [], ◌∷◌, ◌++◌, map, Option, Some, None}
use Rattle.kernel_model.specs.declared.types.faults.KernelFault.{KernelFault}
use Rattle.kernel_model.specs.declared.types.kernels.RKernel.{RKernel}
use Rattle.kernel_model.specs.Meaning.{kernel_meaning}
use Rattle.kernel_model.specs.Meaning as kernel
use Rattle.schedule_model.specs.Cells.{Cell}
use Rattle.schedule_model.specs.Layout.{Core, Leaves}
use Rattle.run_model.specs.OnWindows.{core_of}
use Rattle.bound_program.specs.declared.sites.Arg.{Arg}
use Rattle.bound_program.specs.declared.sites.Arg.TheVariants.{Dat, Global}
use Rattle.bound_program.specs.Values.{BoundValue, SiteValue}
use Rattle.run_model.specs.Windows.{reached, targets, window_cells, window_of}
use Rattle.run_model.specs.Kernels.{kernel_at}

-- the arguments on dats
abbrev pub on_dats : List Arg → List Arg
on_dats [] = []
on_dats (Dat d v a ∷ xs) = Dat d v a ∷ on_dats xs
on_dats (Global v a ∷ xs) = on_dats xs

-- the arguments on variables
abbrev pub on_variables : List Arg → List Arg
on_variables [] = []
on_variables (Dat d v a ∷ xs) = on_variables xs
on_variables (Global v a ∷ xs) = Global v a ∷ on_variables xs

-- the arguments on dats, and then those on variables
abbrev pub dats_first : List Arg → List Arg
dats_first xs = on_dats xs ++ on_variables xs

module _ (b : BoundValue) where
  -- the cells of an element's frame
  abbrev pub frame_cells : List Arg → ℕ → List Cell
  frame_cells args e = window_cells b (dats_first args) e

  -- the windows of a kernel's arguments in the frame
  abbrev pub frame_windows : List Arg → ℕ → List kernel.Target
  frame_windows args e = map (λ a. window_of b (targets b (dats_first args) e) (reached b e a)) args

  -- a kernel's run for an element, on the constants and the values of the frame's cells
  abbrev pub core_with : Option RKernel → SiteValue → ℕ → List ℤ → List ℤ → Core KernelFault
  core_with None site e cs ws = Leaves ws
  core_with (Some f) site e cs ws = core_of (kernel_meaning (frame_windows site.args e) cs f (ws ∷ []))

  -- the run of a loop's kernel
  abbrev pub site_core : SiteValue → ℕ → List ℤ → List ℤ → Core KernelFault
  site_core site e cs ws = core_with (kernel_at b.kernels site.kernel) site e cs ws
