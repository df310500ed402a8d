use Rattle.std.proofs.Common.{ℕ, List, length, drop, arith, ap}
use Rattle.renumber.proofs.rows.Reading.{length_parts, length_later}
use Rattle.renumber.proofs.rows.compressed.Rows.len.Goals as goal

pub returns : goal.returns
returns c =
    let i = c.self.inside in
    let n = length_later i.starts.items in
    let p = length_parts i.starts.items (drop 1 i.starts.items) i.items.items (omega (arith, n)) in
    let v = ap (length {A = List ℕ}) c.self.view_is in
    omega (arith, n, p, v, c.len.ensures, i.starts.ok.0)
