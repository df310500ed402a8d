use Rattle.deep_halo.proofs.chain_memory.placed_runs.Placing.{placed_elements_run}
use Rattle.deep_halo.proofs.chain_memory.placed_runs.laws.placed_elements_run.Goals as goal

pub returns : goal.returns
returns c = placed_elements_run c.windows_are_reached.ensures c.shape_stays.ensures
