use Rattle.std.proofs.Common.{◌≡◌, ◌+◌, max, sym, subst, ⊎_elim, arith}
use Rattle.colouring.specs.Masks.{Has}
use Rattle.colouring.proofs.masks.Masks.next_word.Goals as goal

pub returns-clause-covered : goal.returns-clause-covered
returns-clause-covered c v b lo lt bl =
    let m = c.args.self.now in
    let s = c.largest-a.ensures.first in
    let t = c.largest-a.ensures.second in
    let e : c.max.result ≡ max c.in_ok-next.next (c.args.number + 1) = c.max.ensures in
    ⊎_elim
    (λ (g : Has m c.largest-a.result.0 v b). (s.0, s.1, s.2, subst (λ z. Has m z v b) (let f = s.3 in sym f) g))
    (λ (g : Has m c.largest-a.result.1 v b). (t.0, t.1, t.2, subst (λ z. Has m z v b) (let f = t.3 in sym f) g))
    (c.in_ok-next.ensures.filled v (omega arith) (omega arith) b bl)
