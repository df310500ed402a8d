use Rattle.std.proofs.Common.{◌∙◌, sym}
use Rattle.name_resolution.proofs.FileTurns.{constants_turn}
use Rattle.name_resolution.proofs.files.constants.Goals as goal

pub loop-number-preserved : goal.loop-number-preserved
loop-number-preserved c =
    constants_turn c.args.names.now.entries c.loop-number.number c.in-Some.name.now c.in-Some.decl.now c.loop-number.constants.items _
    (sym c.in-Some.ensures.entry) c.in_ok-add_constant.ensures ∙ c.loop-number.invariant
