use Rattle.std.proofs.Common.{◌≡◌, ◌++◌, length, rules}
use Rattle.mesh_decl.specs.Printed.{printed_line}
use Rattle.run_model.proofs.gather.Pieces.{line_ends}
use Rattle.run_model.proofs.gather.lines.put_line.Goals as goal

pub returns-clause-ok : goal.returns-clause-ok
returns-clause-ok c =
    let none : length c.loop-rest.rest.now ≡ 0 = search rules in
    line_ends c.loop-rest.out.items (c.args.out.now.items ++ printed_line c.args.text.now c.args.values.now) c.loop-rest.rest.now c.loop-rest.left.now none c.loop-rest.invariant.text
