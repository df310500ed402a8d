-- The begins of a group, done on the windows of one buffer.
use Rattle.std.specs.Prelude.{◌≡◌, ◌<◌, ◌≤◌, ◌+◌, ◌*◌, ℕ, ℤ, pos, List, take, length, get_or, vec_capacity}
use Rattle.schedule_model.specs.Layout.{Layout, Leaves}
use Rattle.schedule_model.specs.Setup.{Setup}
use Rattle.rank_state.specs.declared.spans.Span.{Span}
use Rattle.rank_state.specs.declared.scalars.Scalar.{Scalar}
use Rattle.rank_state.specs.Spans.{total}
use Rattle.rank_state.specs.Indices.{values_at}
use Rattle.rank_state.specs.Machine.{State, windows_of}
use Rattle.rank_state.specs.Shows.{Tables, AreWindows}
use Rattle.rank_program.specs.declared.tasks.Task.{Task}
use Rattle.rank_exec.specs.declared.group_room.GroupRoom.{GroupRoom}

module _ {F : Type 0} (p : Setup F) (l : Layout F) (t : Tables) where
  -- the task is the begin at the place, and its element's windows are the first cells of w
  pub record IsLoaded (k r x : ℕ) (st : State F) (task : Task) (w : List ℤ) : Type 0 where
    pub spans : List Span
    pub scalars : List Scalar
    pub are : AreWindows p l t k r x spans scalars
    pub element : task.element ≡ l.original k r x
    pub cells : task.cells ≡ total spans + length scalars
    pub values : take task.cells w ≡ windows_of st r spans scalars

  -- unless a 1 stands behind them, the first n cells of w are what the kernel leaves of the windows of the element at the place
  pub record IsRun (k r x : ℕ) (st : State F) (n : ℕ) (w : List ℤ) : Type 0 where
    pub spans : List Span
    pub scalars : List Scalar
    pub are : AreWindows p l t k r x spans scalars
    pub left : get_or w n (pos 0) ≡ pos 0
        → l.core k (l.original k r x) (values_at st.variables t.constants) (windows_of st r spans scalars) ≡ Leaves (take n w)

-- enough room for a group of so many begins, whose windows have at most `stride` cells, with locals of so many cells
pub record HasGroupRoom (most stride locals : ℕ) (room : GroupRoom) : Type 0 where
  pub tasks_fit : most ≤ vec_capacity room.tasks
  pub targets_fit : most ≤ vec_capacity room.targets
  pub window_fits : stride + locals < room.window
  pub staging_fits : most * room.window ≤ length room.staging.items

-- room that is as large as that before
pub record KeepsGroupRoom (old new : GroupRoom) : Type 0 where
  pub tasks : vec_capacity new.tasks ≡ vec_capacity old.tasks
  pub targets : vec_capacity new.targets ≡ vec_capacity old.targets
  pub window : new.window ≡ old.window
  pub staging : length new.staging.items ≡ length old.staging.items
