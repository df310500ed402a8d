-- The runs of a kernel for tasks, each on a window of a buffer.
use Rattle.std.specs.Prelude.{◌≡◌, ◌<◌, ◌≤◌, ◌+◌, ◌-◌, ℕ, ℤ, pos, List, [], ◌∷◌, ◌++◌, map, length, take, replicate, get_or, slice_set, slice_index_or}
use Rattle.kernel_model.specs.declared.types.faults.KernelFault.{KernelFault}
use Rattle.kernel_model.specs.declared.types.kernels.RKernel.{RKernel}
use Rattle.kernel_model.specs.Resolved.{IsResolved}
use Rattle.kernel_model.specs.Meaning.{kernel_meaning}
use Rattle.kernel_model.specs.Meaning as kernel
use Rattle.kernel_code.specs.Coded.{IsCode}
use Rattle.kernel_model.specs.declared.types.views.frame.Place.{Place}
use Rattle.kernel_model.specs.Framed.{target_of, PlacesIn}
use Rattle.schedule_model.specs.Layout.{Core, Faults, Leaves}
use Rattle.run_model.specs.OnWindows.{core_of}
use Rattle.par_exec.specs.Windows as par
use Rattle.rank_program.specs.declared.tasks.Task.{Task}
use Rattle.rank_program.specs.declared.tasks.Targets.{Targets}
use Rattle.rank_program.specs.declared.kernel_job.KernelJob.{KernelJob}

-- the task that stands for one that is not there
abbrev pub no_task : Task
no_task = record { element = 0; place = 0; cells = 0 }

-- the task at a place of a list
abbrev pub task_at : List Task → ℕ → Task
task_at tasks i = get_or tasks i no_task

-- no targets
abbrev pub no_targets : Targets
no_targets = record { places = record { items = []; capacity = 0 } }

-- the places of one task's targets, one for each argument
abbrev pub places_in : List Targets → ℕ → List Place
places_in targets i = (get_or targets i no_targets).places.items

-- window i of a buffer of windows of so many cells
abbrev pub part : ℕ → ℕ → List ℤ → List ℤ
part w i staging = par.window w i staging

-- what a kernel's run leaves of a window: its first n cells with a 0 behind them, or, after a fault, a 1 there
abbrev pub RanIn : {F : Type 0} → Core F → ℕ → List ℤ → Type 0
RanIn (Leaves ws) n w = (take n w ≡ ws) × (get_or w n (pos 0) ≡ pos 0)
RanIn (Faults f) n w = get_or w n (pos 0) ≡ pos 1

-- so many cells, the first with a value and the others 0
abbrev pub flagged : ℤ → ℕ → List ℤ
flagged v n = slice_set (replicate n (pos 0)) 0 v

-- what a run leaves of a window: its cells, and behind them a 0, or a 1 after a fault, and zeros
abbrev pub left_after : kernel.Ran → ℕ → List ℤ
left_after (kernel.Finished l) n = slice_index_or l 0 [] ++ flagged (pos 0) n
left_after (kernel.Stopped l f) n = slice_index_or l 0 [] ++ flagged (pos 1) n

-- the window after a kernel's run on its first n cells
abbrev pub window_after : List Place → List ℤ → RKernel → ℕ → List ℤ → List ℤ
window_after places consts k n w = left_after (kernel_meaning (map target_of places) consts k (take n w ∷ [])) (length w - n)

-- the run for a task on the values of its cells
abbrev pub job_core : KernelJob → ℕ → List ℤ → Core KernelFault
job_core j i ws =
    core_of (kernel_meaning (map target_of (places_in j.targets.now i)) j.constants.now j.code.now.kernel.now (ws ∷ []))

-- the window after the run for its task
abbrev pub job_window : KernelJob → ℕ → List ℤ → List ℤ
job_window j i w = window_after (places_in j.targets.now i) j.constants.now j.code.now.kernel.now (task_at j.tasks.now i).cells w

-- a window of so many cells has room for the run of its task
pub record Accepts (j : KernelJob) (i n : ℕ) : Type 0 where
  pub task : i < length j.tasks.now
  pub targets : length j.targets.now ≡ length j.tasks.now
  pub code : IsCode j.code.now
  pub params : length (places_in j.targets.now i) ≡ j.code.now.kernel.now.params
  pub resolved : IsResolved (length j.constants.now) j.code.now.kernel.now
  pub fits : PlacesIn (task_at j.tasks.now i).cells (places_in j.targets.now i)
  pub room : (task_at j.tasks.now i).cells + j.code.now.slots < n
