use Rattle.std.proofs.Common.{map}
use Rattle.std.proofs.lemmas.Result.{IfOk-weaker}
use Rattle.kernel_model.specs.View.{rexpr_of}
use Rattle.bound_program.specs.HostExpr.{closed}
use Rattle.run_model.specs.Acts.{program_of}
use Rattle.run_model.proofs.gather.host_acts.ActSteps.{line_printed}
use Rattle.run_model.proofs.gather.host_acts.acts.put_text.Goals as goal

pub returns : goal.returns
returns c =
    let b = program_of c.args.known.now in
    let m = c.args.cells.now in
    IfOk-weaker c.put_line.result _ _
    (λ r h s holds.
    line_printed b s m holds c.args.text.now c.args.out.now.items c.put_line.new.out.items r m (map (closed c.args.told.now) (map rexpr_of c.args.all.now))
    (c.memory_holds.ensures.variables b m s holds) h)
    c.put_line.ensures
