use Rattle.std.proofs.Common.{rules, arith}
use Rattle.std.proofs.lemmas.Grind.{common_steps}
use Rattle.c_tree.specs.View.{program_of}
use Rattle.c_show.proofs.Shown.{program_is}
use Rattle.c_show.proofs.showing.show.Goals as goal

pub returns : goal.returns
returns c = rw (← program_is (program_of c.args.program.now)) (first_of (search rules, grind (arith, common_steps)))
