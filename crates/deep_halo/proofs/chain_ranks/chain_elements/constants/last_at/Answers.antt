use Rattle.std.proofs.Common.{◌≡◌, ◌≤◌, ◌+◌, ◌*◌, ℕ, ap, arith}
use Rattle.run_model.specs.Windows.{Whole, cell_in}
use Rattle.run_model.specs.Arguments.{var_width}
use Rattle.run_model.specs.Memory.{memory_length, var_start}
use Rattle.deep_halo.specs.Places.{in_block, all_cells}
use Rattle.deep_halo.specs.Sound.{program_in, ranks_in}
use Rattle.deep_halo.proofs.chain_memory.Within.{variable_read, variable_in_blocks}
use Rattle.deep_halo.proofs.chain_ranks.chain_elements.constants.last_at.Goals as goal

is : (c : goal.After-row_known-2-1) → c.args.blocks.now.owners.now.ranks * c.args.blocks.now.layout.now.cells + c.args.blocks.now.layout.now.dats_end + c.index.result.now
    ≡ in_block (program_in c.args.blocks.now) (ranks_in c.args.blocks.now) (cell_in (Whole c.args.var) 0)
is c =
    let l = c.args.blocks.now.layout.now in
    variable_read (program_in c.args.blocks.now) l.vars.items (ranks_in c.args.blocks.now) c.args.var l.dats_end c.index.result.now l.cells
    c.requires.sound.layout.vars c.requires.var c.index.ensures c.requires.sound.layout.cells c.requires.sound.layout.dats.ends

within : (c : goal.After-row_known-2-1) → c.args.blocks.now.owners.now.ranks * c.args.blocks.now.layout.now.cells + c.args.blocks.now.layout.now.dats_end + c.index.result.now
    + var_width (program_in c.args.blocks.now) c.args.var ≤ all_cells (program_in c.args.blocks.now) (ranks_in c.args.blocks.now)
within c = omega (
  arith,
  is c,
  variable_in_blocks (program_in c.args.blocks.now) (ranks_in c.args.blocks.now) (ranks_in c.args.blocks.now)
      c.args.var (let q : ranks_in c.args.blocks.now ≤ ranks_in c.args.blocks.now = omega arith in q) c.requires.var,
)

pub overflow_add-result : goal.overflow_add-result
overflow_add-result c =
    let b = program_in c.args.blocks.now in
    let l = c.args.blocks.now.layout.now in
    let n : ℕ = ranks_in c.args.blocks.now in
    let all : c.args.blocks.now.owners.now.ranks * l.cells ≡ c.args.blocks.now.owners.now.ranks * memory_length b = ap (λ k. c.args.blocks.now.owners.now.ranks * k) c.requires.sound.layout.cells in
    let last : l.dats_end ≡ var_start b 0 = c.requires.sound.layout.dats.ends in
    let less : var_start b 0 ≤ var_start b c.args.var = (c.memory_holds.ensures.order b).behind c.args.var in
    omega (
      arith,
      all,
      last,
      less,
      variable_in_blocks b (ranks_in c.args.blocks.now) (ranks_in c.args.blocks.now) c.args.var
          (let q : ranks_in c.args.blocks.now ≤ ranks_in c.args.blocks.now = omega arith in q) c.requires.var,
      c.requires.sound.room,
    )

pub overflow_add-result-2 : goal.overflow_add-result-2
overflow_add-result-2 c = omega (arith, within c, c.requires.sound.room)

pub returns-clause-is : goal.returns-clause-is
returns-clause-is c = is c

pub returns-clause-within : goal.returns-clause-within
returns-clause-within c = within c
