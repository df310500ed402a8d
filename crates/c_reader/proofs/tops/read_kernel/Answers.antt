use Rattle.std.proofs.Common.{rules, arith}
use Rattle.std.proofs.lemmas.Grind.{common_steps}
use Rattle.c_reader.specs.Whole.{kernel_at}
use Rattle.c_reader.proofs.StmtTurns.{trees_are}
use Rattle.c_reader.proofs.tops.read_kernel.Goals as goal

pub returns : goal.returns
unfolding kernel_at
returns c = rw (trees_are c.in_ok-body.body.items) (first_of (search rules, grind (arith, common_steps)))
