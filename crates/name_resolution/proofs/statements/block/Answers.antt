use Rattle.std.proofs.Common.{sym, subst}
use Rattle.name_resolution.specs.Numbers.{StmtFits}
use Rattle.name_resolution.proofs.Steps.{rstmt_block}
use Rattle.name_resolution.proofs.statements.block.Goals as goal

pub returns-clause-value : goal.returns-clause-value
returns-clause-value c = rstmt_block c.args.steps

pub returns-clause-fits : goal.returns-clause-fits
returns-clause-fits c = subst StmtFits (sym (rstmt_block c.args.steps)) c.requires
