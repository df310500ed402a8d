-- What a machine has room for, and what a run leaves there.
use Rattle.std.specs.Prelude.{◌≡◌, ℕ, ℤ, List, Vec, All, take, vec_len, Result, Ok, Err}
use Rattle.schedule_model.specs.Layout.{Core, Faults, Leaves}
use Rattle.std.specs.declared.alloc.Global.{Global}
use Rattle.rank_state.specs.Spare.{HasSpare}

-- where an element's windows have at most `stride` cells: each memory can take as many in behind its own, and the window holds as many
pub record IsMachine (stride : ℕ) (memories : List (Vec ℤ Global)) (window : Vec ℤ Global) : Type 0 where
  pub spare : All (HasSpare stride) memories
  pub window_fits : vec_len window ≡ stride

-- what a kernel's run leaves of its windows, the first cells of a frame
abbrev pub ran_in : {F : Type 0} → List ℤ → Result ℕ F → Core F
ran_in frame (Ok n) = Leaves (take n frame)
ran_in frame (Err f) = Faults f
