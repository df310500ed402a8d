use Rattle.kernel_model.proofs.TreeMeaning.{runs_alike}
use Rattle.kernel_model.proofs.TreeWalk.{walks_alike}
use Rattle.kernel_model.proofs.laws.kernels_are_trees.Goals as goal

pub returns-clause-runs : goal.returns-clause-runs
returns-clause-runs c = runs_alike

pub returns-clause-walks : goal.returns-clause-walks
returns-clause-walks c = walks_alike
