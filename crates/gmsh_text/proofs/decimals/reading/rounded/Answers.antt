use Rattle.std.proofs.Common.{◌+◌, ◌^◌, ◌++◌, length, sym, ap, ◌∙◌}
use Rattle.gmsh_text.specs.Bounded.{left, right}
use Rattle.gmsh_text.specs.Decimal.{number_from}
use Rattle.gmsh_text.specs.Nearest.{fitted, signed}
use Rattle.gmsh_text.proofs.decimals.Bounds.{ten-pos}
use Rattle.gmsh_text.proofs.decimals.Rounding.{rounded-some, rounded-none, too-large}
use Rattle.gmsh_text.proofs.decimals.reading.rounded.Goals as goal

pub returns-in-Some : goal.returns-in-Some
returns-in-Some c =
    let down = left c.args.shift + length c.args.fraction.now in
    let n = number_from 0 (c.args.whole.now ++ c.args.fraction.now) in
    c.with_sign.ensures ∙ ap (λ x. fitted (signed c.args.minus x)) (c.div_ceil.ensures
    ∙ rounded-some c.args.scale c.from.result n (10 ^ right c.args.shift) (10 ^ down) c.in-Some.twice c.from.ensures (ten-pos down) c.in-Some.ensures)

pub returns-in-None : goal.returns-in-None
returns-in-None c =
    let down = left c.args.shift + length c.args.fraction.now in
    let n = number_from 0 (c.args.whole.now ++ c.args.fraction.now) in
    sym (too-large c.args.minus _
    (rounded-none c.args.scale c.from.result n (10 ^ right c.args.shift) (10 ^ down) c.from.ensures (ten-pos down) c.in-None.ensures))
