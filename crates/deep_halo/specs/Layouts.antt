-- The tables of where dats and variables begin in a block.
use Rattle.std.specs.Prelude.{◌≡◌, ◌<◌, ℕ, List, length, slice_index}
use Rattle.mesh_decl.specs.Mesh.{dat_count}
use Rattle.bound_program.specs.Values.{BoundValue}
use Rattle.run_model.specs.Memory.{memory_length, dat_start}
use Rattle.run_model.specs.Variables.{VarsBegin}
use Rattle.deep_halo.specs.declared.chain_memory.layouts.Layout.{Layout}

-- where the first n dats begin, and where they end
pub record AreDatStarts (b : BoundValue) (n : ℕ) (starts : List ℕ) (end : ℕ) : Type 0 where
  pub count : length starts ≡ n
  pub each : (d : ℕ) → d < n → slice_index starts d ≡ dat_start b d
  pub ends : end ≡ dat_start b n

-- the tables of a program
pub record IsLayout (b : BoundValue) (l : Layout) : Type 0 where
  pub dats : AreDatStarts b (dat_count b.mesh) l.dats.items l.dats_end
  pub vars : VarsBegin b.vars l.vars.items
  pub cells : l.cells ≡ memory_length b
