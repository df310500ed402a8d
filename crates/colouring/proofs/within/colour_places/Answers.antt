use Rattle.std.proofs.Common.{◌≡◌, ◌≤◌, ◌<◌, ◌∙◌, ◌-◌, ◌*◌, length, arith, take, drop, ⊎_elim, mul-le-mul_right}
use Rattle.std.proofs.lemmas.Bool.{cases_lt}
use Rattle.std.proofs.lemmas.List.{get_or-take, get_or-drop}
use Rattle.colouring.proofs.Parts.{in_mid, before_mid, after_mid, mid_length, part_least}
use Rattle.colouring.proofs.within.colour_places.Goals as goal

pub returns-clause-least : goal.returns-clause-least
returns-clause-least c =
    let first = c.args.first in
    let last = c.args.last in
    let w = c.args.width in
    let table = c.args.table.now in
    let here = take (last * w - first * w) (drop (first * w) table) in
    let fits : last * w ≤ length table = rw c.requires.table (mul-le-mul_right w c.requires.last) in
    let starts : first * w ≤ last * w = mul-le-mul_right w c.requires.first in
    let size : length c.colour_rows.new.colours ≡ last - first = c.colour_rows.auto.colours
    ∙ mid_length first (last - first) c.args.inner.now
    (let l : first ≤ last = c.requires.first in let m : last ≤ length c.args.inner.now = c.requires.last in omega arith) in
    let long : length here ≡ last * w - first * w = mid_length (first * w) (last * w - first * w) table (omega arith) in
    part_least table here w first last long (λ k l. get_or-take (last * w - first * w) (drop (first * w) table) k 0 (omega arith) ∙ get_or-drop (first * w) table k 0) fits c.colour_rows.new.colours _
    (λ r l. in_mid first (last - first) c.args.inner.now c.colour_rows.new.colours r
    (let a : first ≤ last = c.requires.first in let m : last ≤ length c.args.inner.now = c.requires.last in omega arith) size l)
    (λ r l. c.in_ok-colour_rows.ensures.least r
    (omega (
      arith,
      mid_length first (last - first) c.args.inner.now
          (let a : first ≤ last = c.requires.first in let m : last ≤ length c.args.inner.now = c.requires.last in omega arith),
    )))

pub returns-clause-others : goal.returns-clause-others
returns-clause-others c =
    let first = c.args.first in
    let last = c.args.last in
    let a : first ≤ last = c.requires.first in
    let m : last ≤ length c.args.inner.now = c.requires.last in
    let size : length c.colour_rows.new.colours ≡ last - first = c.colour_rows.auto.colours ∙ mid_length first (last - first) c.args.inner.now (omega arith) in
    λ q no. ⊎_elim
    (λ (l : q < first). before_mid first (last - first) c.args.inner.now c.colour_rows.new.colours q (omega arith) l)
    (λ (l : first ≤ q). ⊎_elim
    (λ (n : q < last). absurd (no l n))
    (λ (n : last ≤ q). after_mid first (last - first) c.args.inner.now c.colour_rows.new.colours q (omega arith) size (omega arith))
    (cases_lt q last))
    (cases_lt q first)
