use Rattle.colouring.proofs.Filling.{filled_one, kept_twice}
use Rattle.colouring.proofs.masks.Masks.pass_some.Goals as goal

pub returns-then-fill-clause-filled : goal.returns-then-fill-clause-filled
returns-then-fill-clause-filled c =
    let k = kept_twice c.args.self.now c.pass_one.new.self c.pass_one-2.new.self c.in_ok-end.ensures.kept c.in_ok-end-2.ensures.kept in
    filled_one c.args.self.now c.pass_one-2.new.self k c.args.a c.args.b c.args.number (c.fill.ensures c.if-fill.true)
