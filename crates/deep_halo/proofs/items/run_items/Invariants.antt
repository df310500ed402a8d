use Rattle.chain_model.specs.Slices.{slicing_of}
use Rattle.chain_model.specs.Machine.{chain_items}
use Rattle.deep_halo.specs.Programs.{program_of_run, owners_of_run}
use Rattle.deep_halo.specs.Stands.{Stands}
use Rattle.deep_halo.proofs.items.run_items.Given as goal

abbrev pub invariant-loop-item : goal.invariant-loop-item
invariant-loop-item l =
    Stands (program_of_run l.program) (owners_of_run l.program) l.item l.state (chain_items (slicing_of (program_of_run l.program) (owners_of_run l.program)) l.item)
