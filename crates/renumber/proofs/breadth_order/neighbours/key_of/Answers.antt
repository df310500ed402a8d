use Rattle.std.proofs.Common.{◌≡◌, ◌+◌, ◌*◌, rules, get_or, ap}
use Rattle.renumber.specs.Keys.{keyed}
use Rattle.renumber.proofs.breadth_order.neighbours.key_of.Goals as goal

pub returns : goal.returns
unfolding keyed
returns c =
    let e : c.unwrap_or-key.result ≡ get_or c.args.keys.now c.args.number 0 = search rules in
    ap (λ z. z * 4294967296 + c.args.number) e
