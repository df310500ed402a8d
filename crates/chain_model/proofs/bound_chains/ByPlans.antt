-- Chains of a bound program, by a plan that is there.
use Rattle.std.proofs.Common.{◌≡◌, List, append-nil, None, Result, Ok, Err, ◌∙◌, arith}
use Rattle.kernel_model.specs.declared.types.faults.KernelFault.{KernelFault}
use Rattle.mesh_decl.specs.declared.owners.Owners.{Owners}
use Rattle.mesh_decl.specs.declared.owners.Perms.{Perms}
use Rattle.mesh_decl.specs.Owners.{ArePerms}
use Rattle.partition.specs.declared.distribute.types.Distribution.{Distribution}
use Rattle.partition.specs.Parts.{NumbersRefusal}
use Rattle.partition.specs.Judgements.{NumbersAre}
use Rattle.partition.specs.Distributions.{IsDistribution}
use Rattle.local_mesh.specs.declared.types.RankMesh.{RankMesh}
use Rattle.schedule_model.specs.Laws.{Lawful}
use Rattle.schedule_model.specs.Sequential.{Seq, Stopped, Going}
use Rattle.bound_program.specs.Values.{BoundValue}
use Rattle.run_model.specs.Programs.{run_of_program, printed_in, stop_in}
use Rattle.loop_plan.specs.Distributed.{IsDistributed}
use Rattle.loop_plan.specs.Values.{PlanValue}
use Rattle.loop_plan.specs.Proper.{Proper, HasLeastColours}
use Rattle.bound_plan.specs.Setups.{setup_of}
use Rattle.chain_model.specs.Machine.{ChainState, ChainAgrees}
use Rattle.chain_model.specs.ChainLaws.{KeepsNeeds}
use Rattle.chain_model.specs.Slices.{slicing_of, needs, executes}
use Rattle.chain_model.specs.Outcomes.{chains_run}
use Rattle.chain_model.specs.Given.{PlanLaws, ChainLaws}
use Rattle.chain_model.specs.Laws.{Chainable, RunsAsProgram}
use Rattle.chain_model.proofs.bound_chains.Sliced.{are_slices}

-- a setup of the program on these owners' ranks that is lawful
record Setting (b : BoundValue) (o : Owners) : Type 0 where
  meshes : List RankMesh
  plan : PlanValue
  lawful : Lawful (setup_of b o meshes plan)

module _ (plans : PlanLaws) (chains : ChainLaws) (b : BoundValue) (o : Owners) (c : Chainable b o) where
  numbered : (r : Result Perms NumbersRefusal) → NumbersAre b.mesh None r → (n : Perms) × ArePerms b.mesh n
  numbered (Ok n) h = (n, plans.outcomes.numbers b.mesh None n h)
  numbered (Err e) h = absurd h

  numbers : (n : Perms) × ArePerms b.mesh n
  numbers = let w : (r : Result Perms NumbersRefusal) × NumbersAre b.mesh None r = plans.numbers b.mesh None c.fits.mesh in numbered w.0 w.1

  setting : Setting b o
  setting =
      let d : (d : Distribution) × IsDistribution b.mesh o numbers.0 d = plans.distributions b.mesh o numbers.0 c.fits.mesh c.memory c.owners numbers.1 in
      let distributed : IsDistributed b.mesh o numbers.0 d.0.ranks.items = record { are_owners = c.owners; are_perms = numbers.1; are_meshes = d.1.ranks } in
      let l : (l : PlanValue) × (l.block ≡ 1) × Proper b d.0.ranks.items l × HasLeastColours b d.0.ranks.items l = plans.plans b o numbers.0 d.0.ranks.items 1 c.fits distributed (omega arith) in
      record {
        meshes = d.0.ranks.items;
        plan = l.0;
        lawful = plans.lawful b o numbers.0 d.0.ranks.items l.0 (record { planned = record { fits = c.fits; distributed = distributed; proper = l.2 }; obey = c.obey; start = c.start });
      }

  pub agrees : ChainAgrees (slicing_of b o) (run_of_program b) (chains_run b o)
  agrees = chains.agrees (setup_of b o setting.meshes setting.plan) (needs b o) (executes b o) setting.lawful (are_slices b o setting.meshes setting.plan)

  pub kept : KeepsNeeds (slicing_of b o)
  kept = chains.kept (setup_of b o setting.meshes setting.plan) (needs b o) (executes b o) setting.lawful (are_slices b o setting.meshes setting.plan)

  output_by : (s : Seq KernelFault) (m : ChainState KernelFault) → ChainAgrees (slicing_of b o) s m → m.output ≡ printed_in s
  output_by (Stopped x t z) m h = h.1
  output_by (Going t z) m h = h.1

  stop_by : (s : Seq KernelFault) (m : ChainState KernelFault) → ChainAgrees (slicing_of b o) s m → m.stop ≡ stop_in s
  stop_by (Stopped x t z) m h = h.0
  stop_by (Going t z) m h = h.0

  pub runs : RunsAsProgram b o
  runs = record {
    output = append-nil (chains_run b o).output ∙ output_by (run_of_program b) (chains_run b o) agrees;
    stop = stop_by (run_of_program b) (chains_run b o) agrees;
  }
