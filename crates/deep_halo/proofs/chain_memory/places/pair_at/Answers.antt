use Rattle.std.proofs.Common.{◌≡◌, ◌≤◌, ◌+◌, ◌*◌, ℕ, ap, arith}
use Rattle.run_model.specs.Windows.{Element, cell_in}
use Rattle.run_model.specs.Arguments.{dat_width}
use Rattle.deep_halo.specs.Places.{in_block, all_cells}
use Rattle.deep_halo.specs.Sound.{program_in, ranks_in}
use Rattle.deep_halo.proofs.chain_memory.Within.{pair_read, pair_in_blocks}
use Rattle.deep_halo.proofs.chain_memory.places.pair_at.Goals as goal

is : (c : goal.After-row_known-1) → c.args.block * c.args.blocks.now.layout.now.cells + c.index.result.now + c.args.element * c.dat_shape-dim.result.1
    ≡ in_block (program_in c.args.blocks.now) c.args.block (cell_in (Element c.args.dat c.args.element) 0)
is c =
    let l = c.args.blocks.now.layout.now in
    pair_read (program_in c.args.blocks.now) l.dats.items l.dats_end c.args.block c.args.dat c.args.element c.index.result.now l.cells c.dat_shape-dim.result.1
    c.requires.sound.layout.dats c.requires.dat c.index.ensures c.requires.sound.layout.cells (ap (λ (p : ℕ × ℕ). p.1) c.dat_shape-dim.ensures)

within : (c : goal.After-row_known-1) → c.args.block * c.args.blocks.now.layout.now.cells + c.index.result.now + c.args.element * c.dat_shape-dim.result.1
    + dat_width (program_in c.args.blocks.now) c.args.dat ≤ all_cells (program_in c.args.blocks.now) (ranks_in c.args.blocks.now)
within c = omega (arith, is c, pair_in_blocks (program_in c.args.blocks.now) (ranks_in c.args.blocks.now) c.args.block c.args.dat c.args.element c.requires.block c.requires.dat c.requires.element)

pub overflow_add-result : goal.overflow_add-result
overflow_add-result c = omega (arith, within c, c.requires.sound.room)

pub overflow_add-result-2 : goal.overflow_add-result-2
overflow_add-result-2 c = omega (arith, within c, c.requires.sound.room)

pub returns-clause-is : goal.returns-clause-is
returns-clause-is c = is c

pub returns-clause-within : goal.returns-clause-within
returns-clause-within c = within c
