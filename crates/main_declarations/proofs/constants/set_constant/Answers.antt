use Rattle.std.proofs.Common.{sym, rules, arith}
use Rattle.std.proofs.lemmas.Grind.{common_steps}
use Rattle.main_declarations.proofs.WalkTurns.{constant_past, constant_set}
use Rattle.main_declarations.proofs.constants.set_constant.Goals as goal

pub returns-then-var-len : goal.returns-then-var-len
returns-then-var-len c = constant_set c.args.source.now.places.now c.args.vars.now.items c.args.var c.args.constant c.index_mut.result.now
    (first_of (search rules, grind (arith, common_steps))) (first_of (search rules, grind (arith, common_steps)))

pub returns-else-var-len : goal.returns-else-var-len
returns-else-var-len c = sym (constant_past c.args.source.now.places.now c.args.vars.now.items c.args.var c.args.constant (first_of (search rules, grind (arith, common_steps))))
