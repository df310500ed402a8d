-- The sequential run of a bound program: the items of `main` in order, each loop one element after another in its set's original
-- order, on whole arrays, up to the first fault.
use Rattle.std.specs.Prelude.{ℕ, zero, suc, List, [], map, length, Option, Some, None, slice_get, slice_index_or}
use Rattle.kernel_model.specs.declared.types.faults.KernelFault.{KernelFault}
use Rattle.kernel_model.specs.declared.types.kernels.RKernel.{RKernel}
use Rattle.kernel_model.specs.Meaning.{kernel_meaning}
use Rattle.kernel_model.specs.Meaning as kernel
use Rattle.mesh_decl.specs.Mesh.{set_size}
use Rattle.schedule_model.specs.Sequential.{Stop}
use Rattle.bound_program.specs.Values.{BoundValue, SiteValue, ItemValue, Free, Reduce, Ordered, Host, Exit}
use Rattle.bound_program.specs.Fits.{site_at}
use Rattle.run_model.specs.Arrays.{Arrays, first_arrays, target_of, constants_in}
use Rattle.run_model.specs.Runs.{Run, Going, stops, go_on, printed_by, stop_of}
use Rattle.run_model.specs.Statements.{after_statement}

-- how the run stands where a kernel ended so, for element e in item k: a fault stops it
abbrev pub ended : (k e : ℕ) (printed : List ℕ) → kernel.Ran → Run
ended k e o (kernel.Finished arrays) = Going arrays o
ended k e o (kernel.Stopped arrays f) = stops k (Some e) o f

module _ (b : BoundValue) where
  -- a kernel, where it is there, on the cells that the loop's arguments name for element e; arguments that name one cell share it
  abbrev pub kernel_run : Option RKernel → SiteValue → ℕ → Arrays → kernel.Ran
  kernel_run None site e arrays = kernel.Finished arrays
  kernel_run (Some f) site e arrays = kernel_meaning (map (target_of b e) site.args) (constants_in b arrays) f arrays

  -- element e of a loop: the loop's kernel
  abbrev pub element_run : SiteValue → ℕ → Arrays → kernel.Ran
  element_run site e arrays = kernel_run (slice_get b.kernels site.kernel) site e arrays

  -- the run with element e of the loop of item k
  abbrev pub after_element : (k : ℕ) → SiteValue → (e : ℕ) → Run → Run
  after_element k site e r = go_on (λ arrays o. ended k e o (element_run site e arrays)) r

  -- with its first n elements, one after another
  abbrev pub after_elements : (k : ℕ) → SiteValue → (n : ℕ) → Run → Run
  after_elements k site zero r = r
  after_elements k site (suc n) r = after_element k site n (after_elements k site n r)

  -- with all elements of the loop's set, in its original order
  abbrev pub after_loop : (k : ℕ) → SiteValue → Run → Run
  after_loop k site r = after_elements k site (set_size b.mesh site.set) r

  -- with item k; a Reduce does nothing, since kernels reduce into the variables themselves
  abbrev pub after_item : (k : ℕ) → ItemValue → Run → Run
  after_item k (Free s) r = after_loop k (site_at b s) r
  after_item k (Ordered s) r = after_loop k (site_at b s) r
  after_item k (Reduce s) r = r
  after_item k (Host act) r = go_on (after_statement b k act) r

  -- the run before item k
  abbrev pub before : ℕ → Run
  before zero = Going (first_arrays b) []
  before (suc k) = after_item k (slice_index_or b.trace k (Host Exit)) (before k)

  -- the whole run
  abbrev pub run : Run
  run = before (length b.trace)

  -- the bytes that the program prints
  abbrev pub printed : List ℕ
  printed = printed_by run

  -- the program's first fault, if it has one
  abbrev pub first_fault : Option (Stop KernelFault)
  first_fault = stop_of run
