use Rattle.std.proofs.Common.{ℕ, pos, ap}
use Rattle.run_model.specs.Windows.{Element}
use Rattle.deep_halo.specs.Sound.{program_in, ranks_in}
use Rattle.deep_halo.proofs.chain_memory.chain_stores.Writing.{filled}
use Rattle.deep_halo.proofs.chain_memory.chain_stores.pairs.clear_pair.Goals as goal

pub returns : goal.returns
returns c f holds =
    filled (program_in c.args.blocks.now) (ranks_in c.args.blocks.now) c.args.block (Element c.args.dat c.args.element) (pos 0) c.args.memory.now c.fill_cells.new.memory f
    c.pair_at.result c.dat_shape-dim.result.1 (c.requires.dat, c.requires.element) c.fill_cells.auto.memory c.pair_at.ensures.is (ap (λ (p : ℕ × ℕ). p.1) c.dat_shape-dim.ensures)
    c.fill_cells.ensures.values c.fill_cells.ensures.others holds
