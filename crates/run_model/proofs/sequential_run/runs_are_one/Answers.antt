use Rattle.run_model.proofs.sequential_run.Runs.{Lower, items_agree, runs_are_one}
use Rattle.run_model.proofs.sequential_run.runs_are_one.Goals as goal

lower : goal.After-items_are_there → Lower
lower c = record {
  maps = c.declarations_hold.ensures.maps;
  dats = c.declarations_hold.ensures.dats;
  transport = c.transport.ensures;
  others = c.others_stay.ensures;
  shape = c.shape_stays.ensures;
  windows = c.windows_are_reached.ensures;
  numbered = c.constants_are_read.ensures.numbered;
  loops = c.items_are_there.ensures.loops;
  acts = c.items_are_there.ensures.acts;
}

pub returns-clause-items : goal.returns-clause-items
returns-clause-items c = items_agree (lower c)

pub returns-clause-runs : goal.returns-clause-runs
returns-clause-runs c = runs_are_one (items_agree (lower c))
