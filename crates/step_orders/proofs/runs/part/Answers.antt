use Rattle.std.proofs.Common.{◌-◌, take, drop, get_or, sym, ap, ◌∙◌, arith}
use Rattle.step_orders.proofs.Cuts.{cut_at, ends_rise, ends_within}
use Rattle.step_orders.proofs.runs.part.Goals as goal

pub between-requires-clause-order : goal.between-requires-clause-order
between-requires-clause-order c = omega (arith, c.start-from.ensures, ends_rise 0 c.args.elements.now c.args.ends.now c.args.run c.requires.ends c.requires.run)

pub between-requires-clause-within : goal.between-requires-clause-within
between-requires-clause-within c = ends_within 0 c.args.elements.now c.args.ends.now c.args.run c.requires.ends c.requires.run

pub returns : goal.returns
returns c =
    c.between.ensures
    ∙ (ap (λ z. take (get_or c.args.ends.now c.args.run 0 - z) (drop z c.args.elements.now)) c.start-from.ensures
    ∙ sym (cut_at 0 c.args.elements.now c.args.ends.now c.args.run c.requires.run))
