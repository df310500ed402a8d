use Rattle.run_model.specs.Acts.{program_of}
use Rattle.run_model.proofs.gather.host_acts.ActSteps.{var_cleared}
use Rattle.run_model.proofs.gather.host_acts.acts.clear.Goals as goal

pub returns : goal.returns
returns c =
    var_cleared (program_of c.args.all.now) c.memory_holds.ensures.zeros c.args.cells.now c.clear_cells.new.cells c.args.var c.var_place.result.from c.var_place.result.count
    c.requires.var c.var_place.ensures.from c.var_place.ensures.count c.clear_cells.auto.cells c.clear_cells.ensures.zeros c.clear_cells.ensures.others
