use Rattle.std.proofs.Common.{◌∙◌}
use Rattle.run_model.specs.Windows.{Whole}
use Rattle.deep_halo.specs.Sound.{program_in, ranks_in}
use Rattle.deep_halo.proofs.chain_memory.chain_stores.Writing.{filled, same_number}
use Rattle.deep_halo.proofs.chain_memory.chain_stores.variables.fill_variable.Goals as goal

pub returns : goal.returns
returns c f holds =
    filled (program_in c.args.blocks.now) (ranks_in c.args.blocks.now) c.args.block (Whole c.args.var) c.args.value c.args.memory.now c.fill_cells.new.memory f
    c.variable_at.result c.width_of.result c.requires.var c.fill_cells.auto.memory c.variable_at.ensures.is c.width_of.ensures
    (λ i lt. c.fill_cells.ensures.values i lt ∙ same_number c.args.value c.ranges.value) c.fill_cells.ensures.others holds
