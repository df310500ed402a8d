use Rattle.std.proofs.Common.{inr}
use Rattle.tool_command.specs.ToolAnswers.{TextAnswers, ConversionAnswers, conversion_of}
use Rattle.tool_command.proofs.Weaker.{by_weaker}
use Rattle.tool_command.proofs.gmsh.converted.Goals as goal

pub returns-in-Ok : goal.returns-in-Ok
returns-in-Ok g c =
    by_weaker (TextAnswers c.args.writes_source (conversion_of c.in-Ok.conversion)) (ConversionAnswers c.args.dim c.args.scale c.args.writes_source c.args.bytes.now) c.written.result
    (λ a h. inr (conversion_of c.in-Ok.conversion, c.in-Ok.ensures.comes, h)) c.written.ensures
