-- Where cells stand in a memory of blocks.
use Rattle.std.specs.Prelude.{◌<◌, ℕ, ◌+◌, ◌*◌, suc, Option, Some, None}
use Rattle.mesh_decl.specs.declared.owners.Owners.{Owners}
use Rattle.mesh_decl.specs.Mesh.{dat_set}
use Rattle.mesh_decl.specs.Owners.{owner_of}
use Rattle.schedule_model.specs.Cells.{Cell, Data, Variable}
use Rattle.bound_program.specs.Values.{BoundValue}
use Rattle.run_model.specs.Memory.{memory_length, place_of}

module _ (b : BoundValue) where
  -- where a cell stands in block n
  abbrev pub in_block : ℕ → Cell → ℕ
  in_block n c = n * memory_length b + place_of b c

  -- how many cells there are in the blocks of so many ranks and one more
  abbrev pub all_cells : ℕ → ℕ
  all_cells ranks = suc ranks * memory_length b

  -- the block in which kernels find a cell: those that run in a rank's block, and those that run on the owners' pairs, with the
  -- variables behind the ranks' blocks
  abbrev pub block_at : Owners → Option ℕ → Cell → ℕ
  block_at o (Some r) c = r
  block_at o None (Data c) = owner_of o (dat_set b.mesh c.dat) c.element
  block_at o None (Variable v) = o.ranks

  -- where kernels find a cell
  abbrev pub stands_at : Owners → Option ℕ → Cell → ℕ
  stands_at o at c = in_block (block_at o at c) c

-- the rank is there, where there is one
abbrev pub AtRank : ℕ → Option ℕ → Type 0
AtRank ranks None = Unit {0}
AtRank ranks (Some r) = r < ranks
