use Rattle.std.proofs.Common.{◌^◌, arith}
use Rattle.gmsh_text.proofs.decimals.Bounds.{some-same, ten-pos}
use Rattle.gmsh_text.proofs.decimals.shifting.quotient.Goals as goal

pub nonzero_div-result : goal.nonzero_div-result
nonzero_div-result c = omega (arith, ten-pos c.args.by, some-same (10 ^ c.args.by) c.in-Some.power c.in-Some.ensures)
