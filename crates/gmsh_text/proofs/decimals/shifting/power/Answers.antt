use Rattle.std.proofs.Common.{◌^◌, sym}
use Rattle.gmsh_text.proofs.decimals.Bounds.{large-none, ten-large}
use Rattle.gmsh_text.proofs.decimals.shifting.power.Goals as goal

pub returns-then-by-gt19 : goal.returns-then-by-gt19
returns-then-by-gt19 c = sym (large-none (10 ^ c.args.by) (ten-large c.args.by c.if-by-gt19.true))
