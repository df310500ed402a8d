use Rattle.std.proofs.Common.{ℕ, ap}
use Rattle.run_model.specs.Windows.{Element}
use Rattle.deep_halo.specs.Sound.{program_in, ranks_in}
use Rattle.deep_halo.proofs.chain_memory.chain_stores.Writing.{copied, beside}
use Rattle.deep_halo.proofs.chain_memory.chain_stores.pairs.copy_pair.Goals as goal

pub copy_cells-requires-clause-apart : goal.copy_cells-requires-clause-apart
copy_cells-requires-clause-apart c =
    beside (program_in c.args.blocks.now) c.args.from c.args.to (Element c.args.dat c.args.element) c.pair_at.result c.pair_at-2.result c.dat_shape-dim.result.1
    (c.requires.dat, c.requires.element) c.requires.apart c.pair_at.ensures.is c.pair_at-2.ensures.is (ap (λ (p : ℕ × ℕ). p.1) c.dat_shape-dim.ensures)

pub returns : goal.returns
returns c f holds =
    copied (program_in c.args.blocks.now) (ranks_in c.args.blocks.now) c.args.from c.args.to (Element c.args.dat c.args.element) c.args.memory.now c.copy_cells.new.memory f
    c.pair_at.result c.pair_at-2.result c.dat_shape-dim.result.1 (c.requires.dat, c.requires.element) c.requires.from c.copy_cells.auto.memory
    c.pair_at.ensures.is c.pair_at-2.ensures.is (ap (λ (p : ℕ × ℕ). p.1) c.dat_shape-dim.ensures) c.copy_cells.ensures.copied c.copy_cells.ensures.others holds
