use Rattle.std.proofs.Common.{◌∙◌, sym}
use Rattle.explanations.specs.Held.{held as held_by}
use Rattle.tool_command.proofs.explain.Holding.{held_before}
use Rattle.tool_command.proofs.explain.held.hold.Goals as goal

pub returns-then-is_some-clause-ok : goal.returns-then-is_some-clause-ok
returns-then-is_some-clause-ok g c =
    held_before (g.F.Shelf.told c.args.shelf.now) (held_by c.args.held.now) c.args.earlier.now c.args.name c.place_of.result c.place_of.ensures
    (sym c.if-is_some.true ∙ c.is_some.ensures) c.requires.held
