-- The setup of a bound program on several ranks: by owners, halos, local meshes and plan.
use Rattle.std.specs.Prelude.{◌/◌, ◌&&◌, List, length}
use Rattle.kernel_model.specs.declared.types.faults.KernelFault.{KernelFault}
use Rattle.mesh_decl.specs.declared.owners.Owners.{Owners}
use Rattle.mesh_decl.specs.Owners.{owner_of}
use Rattle.local_mesh.specs.Halo.{owns, imports_execute, imports_nonexecute, is_core}
use Rattle.local_mesh.specs.declared.types.RankMesh.{RankMesh}
use Rattle.schedule_model.specs.Setup.{Setup}
use Rattle.schedule_model.specs.ByArguments.{touch_with}
use Rattle.bound_program.specs.Values.{BoundValue}
use Rattle.run_model.specs.Programs.{program_of}
use Rattle.run_model.specs.Arguments.{argument_at, entries, dat_width, var_width, is_constant}
use Rattle.run_model.specs.Laws.{site_of}
use Rattle.loop_plan.specs.Values.{PlanValue, item_plan, block_colour_in, inner_colour_in}
use Rattle.loop_plan.specs.Needs.{item_modifies, item_needs, item_scatters, exchanges}
use Rattle.loop_plan.specs.Pairs.{passes}
use Rattle.loop_plan.specs.StepOutline.{loop_at}
use Rattle.bound_plan.specs.Places.{local_at}
use Rattle.bound_plan.specs.Variables.{reduces_at}

-- the program on ranks as the theorem on schedules takes it
abbrev pub setup_of : BoundValue → Owners → List RankMesh → PlanValue → Setup KernelFault
setup_of b o meshes p = record {
  program = program_of b;
  touch = λ k e.
      touch_with (entries b) (dat_width b) (var_width b) (argument_at (site_of b k)) (length (site_of b k).args) e (is_constant b);
  reduces = reduces_at b;
  modifies = item_modifies b;
  scatters = item_scatters b;
  ranks = o.ranks;
  owner = owner_of o;
  import_execute = λ r s e. imports_execute b.mesh o s e r;
  import_nonexecute = λ r s e. imports_nonexecute b.mesh o s e r;
  core = λ r s e. owns o s e r && is_core b.mesh o s e;
  needs = item_needs b;
  exchanged = exchanges b p;
  sends = λ k s r. passes b.mesh meshes (item_plan p k).exchange s r;
  block = λ k r e. local_at meshes r (site_of b k).set e / p.block;
  block_colour = λ k r c. block_colour_in p (loop_at b meshes p k) r c;
  colour = λ k r e. inner_colour_in p (loop_at b meshes p k) r (local_at meshes r (site_of b k).set e);
}
