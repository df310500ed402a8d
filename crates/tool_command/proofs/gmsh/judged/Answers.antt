use Rattle.std.proofs.Common.{option_map, subst}
use Rattle.tool_command.specs.Judged.{IsJudged}
use Rattle.tool_command.proofs.gmsh.judged.Goals as goal

pub returns : goal.returns
returns g c =
    let line = option_map (λ v. v.items) c.in_ok-line.line in
    (line, subst (λ source. IsJudged source c.args.mesh.items line) c.in_ok-text.ensures c.in_ok-line.ensures, c.in_ok-answer.ensures)
