use Rattle.run_model.specs.Windows.{Whole}
use Rattle.deep_halo.specs.Sound.{program_in, ranks_in}
use Rattle.deep_halo.proofs.chain_memory.chain_stores.Writing.{copied, beside}
use Rattle.deep_halo.proofs.chain_memory.chain_stores.variables.copy_variable.Goals as goal

pub copy_cells-requires-clause-apart : goal.copy_cells-requires-clause-apart
copy_cells-requires-clause-apart c =
    beside (program_in c.args.blocks.now) c.args.from c.args.to (Whole c.args.var) c.variable_at.result c.variable_at-2.result c.width_of.result
    c.requires.var c.requires.apart c.variable_at.ensures.is c.variable_at-2.ensures.is c.width_of.ensures

pub returns : goal.returns
returns c f holds =
    copied (program_in c.args.blocks.now) (ranks_in c.args.blocks.now) c.args.from c.args.to (Whole c.args.var) c.args.memory.now c.copy_cells.new.memory f
    c.variable_at.result c.variable_at-2.result c.width_of.result c.requires.var c.requires.from c.copy_cells.auto.memory
    c.variable_at.ensures.is c.variable_at-2.ensures.is c.width_of.ensures c.copy_cells.ensures.copied c.copy_cells.ensures.others holds
