use Rattle.std.proofs.Common.{◌≡◌, ◌≤◌, ◌+◌, ◌-◌, ◌*◌, arith}
use Rattle.run_model.specs.Windows.{Whole, cell_in}
use Rattle.run_model.specs.Arguments.{var_width}
use Rattle.run_model.specs.Variables.{of_vars}
use Rattle.deep_halo.specs.Places.{in_block, all_cells}
use Rattle.deep_halo.specs.Sound.{program_in, ranks_in}
use Rattle.deep_halo.proofs.chain_ranks.chain_elements.Partials.{dats_before, partial_read, partial_within, fewer}
use Rattle.deep_halo.proofs.chain_ranks.chain_elements.merging.partial_at.Goals as goal

pub overflow_sub-result : goal.overflow_sub-result
overflow_sub-result c =
    let l = c.args.blocks.now.layout.now in
    (dats_before (program_in c.args.blocks.now) l.cells l.dats_end c.requires.sound.layout.cells c.requires.sound.layout.dats.ends).0

is : (c : goal.After-row_known-1) → c.args.rank * (c.args.blocks.now.layout.now.cells - c.args.blocks.now.layout.now.dats_end) + c.index.result.now
    ≡ in_block (of_vars (program_in c.args.blocks.now).vars) c.args.rank (cell_in (Whole c.args.var) 0)
is c =
    let l = c.args.blocks.now.layout.now in
    partial_read (program_in c.args.blocks.now) l.vars.items c.args.rank c.args.var c.index.result.now l.cells l.dats_end
    c.requires.sound.layout.vars c.requires.var c.index.ensures c.requires.sound.layout.cells c.requires.sound.layout.dats.ends

within : (c : goal.After-row_known-1) → c.args.rank * (c.args.blocks.now.layout.now.cells - c.args.blocks.now.layout.now.dats_end) + c.index.result.now
    + var_width (program_in c.args.blocks.now) c.args.var ≤ all_cells (of_vars (program_in c.args.blocks.now).vars) (ranks_in c.args.blocks.now)
within c = omega (arith, is c, partial_within (program_in c.args.blocks.now) (ranks_in c.args.blocks.now) c.args.rank c.args.var c.requires.rank c.requires.var)

pub overflow_add-result : goal.overflow_add-result
overflow_add-result c = omega (arith, within c, fewer (program_in c.args.blocks.now) (ranks_in c.args.blocks.now), c.requires.sound.room)

pub returns-clause-is : goal.returns-clause-is
returns-clause-is c = is c

pub returns-clause-within : goal.returns-clause-within
returns-clause-within c = within c
