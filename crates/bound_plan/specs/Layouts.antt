-- Where the cells and elements of a bound program stand on several ranks.
use Rattle.std.specs.Prelude.{ℕ, ◌&&◌, List, length}
use Rattle.std.specs.List.{flat_map}
use Rattle.kernel_model.specs.declared.types.faults.KernelFault.{KernelFault}
use Rattle.mesh_decl.specs.declared.owners.Owners.{Owners}
use Rattle.mesh_decl.specs.Mesh.{MeshValue, set_size, dat_count, dat_set, dat_dim}
use Rattle.lemmas.specs.Below.{listed}
use Rattle.local_mesh.specs.Halo.{owns, imports}
use Rattle.local_mesh.specs.declared.types.RankMesh.{RankMesh}
use Rattle.schedule_model.specs.Cells.{Cell}
use Rattle.schedule_model.specs.Layout.{Layout}
use Rattle.bound_program.specs.Values.{BoundValue}
use Rattle.run_model.specs.Windows.{Element, cells_in}
use Rattle.run_model.specs.Kernels.{constants}
use Rattle.run_model.specs.Hosts.{variable_cells}
use Rattle.run_model.specs.Laws.{site_of}
use Rattle.loop_plan.specs.Values.{PlanValue, item_plan, places_in}
use Rattle.loop_plan.specs.StepOutline.{loop_at}
use Rattle.bound_plan.specs.Places.{original_at, local_at, cells_of, place_of, cell_at}
use Rattle.bound_plan.specs.Windows.{frame_cells, site_core}
use Rattle.bound_plan.specs.Variables.{variable_index, variable_at}

-- set, sender, receiver: the sender's elements that the receiver imports, by original number
abbrev pub exported : MeshValue → Owners → ℕ → ℕ → ℕ → List ℕ
exported g o t s r = listed (set_size g t) (λ x. imports g o t x r && owns o t x s)

-- the cells of these dats that the sender exports to the receiver, dat by dat
abbrev pub exported_cells : BoundValue → Owners → List ℕ → ℕ → ℕ → List Cell
exported_cells b o dats s r = flat_map (λ d. flat_map (λ x. cells_in b (Element d x)) (exported b.mesh o (dat_set b.mesh d) s r)) dats

-- where the machine finds the cells of windows, messages and elements, by local meshes and plan
abbrev pub layout_of : BoundValue → Owners → List RankMesh → PlanValue → Layout KernelFault
layout_of b o meshes p = record {
  cells = λ k e. frame_cells b (site_of b k).args e;
  constants = constants b;
  core = λ k e. site_core b (site_of b k) e;
  dats = dat_count b.mesh;
  dim = dat_dim b.mesh;
  width = cells_of meshes;
  place = place_of meshes b.mesh;
  cell_at = cell_at meshes b.mesh;
  variables = length (variable_cells b);
  index_of = variable_index b;
  variable_at = variable_at b;
  exports = λ k s r. exported_cells b o (item_plan p k).exchange s r;
  count = λ k r. places_in p (loop_at b meshes p k) r;
  original = λ k r x. original_at meshes r (site_of b k).set x;
  local = λ k r e. local_at meshes r (site_of b k).set e;
}
