-- Where the windows of tasks' arguments stand.
use Rattle.std.specs.Prelude.{◌≡◌, ◌<◌, ℕ, List, map, length}
use Rattle.kernel_model.specs.declared.types.views.frame.Place.{Place}
use Rattle.kernel_model.specs.Framed.{target_of, PlacesIn}
use Rattle.bound_program.specs.declared.sites.Arg.{Arg}
use Rattle.bound_program.specs.Values.{BoundValue}
use Rattle.bound_plan.specs.Windows.{frame_cells, frame_windows}
use Rattle.rank_program.specs.declared.tasks.Task.{Task}
use Rattle.rank_program.specs.declared.tasks.Targets.{Targets}
use Rattle.rank_program.specs.Jobs.{task_at, places_in}

module _ (b : BoundValue) (args : List Arg) where
  -- the places are those of the windows of the loop's arguments for the task's element
  pub record AreTargets (task : Task) (places : List Place) : Type 0 where
    pub places_are : map target_of places ≡ frame_windows b args task.element
    pub within : PlacesIn (length (frame_cells b args task.element)) places
    pub count : length places ≡ length args

  -- so for each of the tasks
  pub record AllTargets (tasks : List Task) (targets : List Targets) : Type 0 where
    pub each : (i : ℕ) → i < length tasks → AreTargets (task_at tasks i) (places_in targets i)
    pub count : length targets ≡ length tasks
