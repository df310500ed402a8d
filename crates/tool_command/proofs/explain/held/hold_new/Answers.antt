use Rattle.std.proofs.Common.{◌≡◌, ◌∙◌, Some, map, subst}
use Rattle.explanations.specs.Held.{held as held_by}
use Rattle.tool_command.proofs.explain.Holding.{held_more}
use Rattle.tool_command.proofs.explain.held.hold_new.Goals as goal

pub returns-clause-ok : goal.returns-clause-ok
returns-clause-ok g c =
    let named = c.in_ok-from_str.ensures.ok in
    held_more (g.F.Shelf.told c.args.shelf.now) (held_by c.args.held.now) (held_by c.hold.new.self) c.args.name.now c.in_ok-bytes.bytes.items
    (subst (λ n. held_by c.hold.new.self n ≡ Some c.in_ok-bytes.bytes.items) named c.in_ok-hold.ensures.ok)
    c.in_ok-bytes.ensures.ok
    (λ other differs. c.in_ok-hold.ensures.others other (λ e. differs (e ∙ named)))
    (map (λ n. n.now) c.args.earlier.now) c.requires.held
