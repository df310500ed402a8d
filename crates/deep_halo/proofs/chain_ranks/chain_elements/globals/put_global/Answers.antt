use Rattle.std.proofs.Common.{sym, subst}
use Rattle.bound_program.specs.declared.sites.Arg.{Arg}
use Rattle.deep_halo.specs.Sound.{ranks_in}
use Rattle.deep_halo.specs.Cells.{Hold}
use Rattle.deep_halo.specs.Globals.{with_global}
use Rattle.deep_halo.proofs.chain_ranks.chain_elements.globals.put_global.Goals as goal

pub returns-in-Global : goal.returns-in-Global
returns-in-Global c f holds =
    subst (λ (x : Arg). Hold c.args.blocks.now c.put_variable.new.memory (with_global (ranks_in c.args.blocks.now) c.args.rank x f)) (sym c.in-Global.is)
    (c.put_variable.ensures f holds)
