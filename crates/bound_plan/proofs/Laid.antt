-- The layout is that of the setup.
use Rattle.std.proofs.Common.{List}
use Rattle.mesh_decl.specs.declared.owners.Owners.{Owners}
use Rattle.mesh_decl.specs.declared.owners.Perms.{Perms}
use Rattle.local_mesh.specs.declared.types.RankMesh.{RankMesh}
use Rattle.schedule_model.specs.Layout.{IsLayout}
use Rattle.bound_program.specs.Values.{BoundValue}
use Rattle.run_model.specs.Programs.{item_at, act_in}
use Rattle.run_model.specs.Laws.{site_of}
use Rattle.loop_plan.specs.Values.{PlanValue}
use Rattle.bound_plan.specs.Setups.{setup_of}
use Rattle.bound_plan.specs.Layouts.{layout_of}
use Rattle.bound_plan.specs.Laws.{Planned}
use Rattle.bound_plan.specs.Given.{NumberLaws, ItemLaws, HaloLaws, KernelLaws, FrameLaws}
use Rattle.bound_plan.proofs.KernelsHold.{loop_fits}
use Rattle.bound_plan.proofs.Placed.{site_fits}
use Rattle.bound_plan.proofs.Sides.{inside, outside}
use Rattle.bound_plan.proofs.FrameFacts.{exist, held}
use Rattle.bound_plan.proofs.Modified.{modified_is, reduced_held}
use Rattle.bound_plan.proofs.Cores.{run_is, same_length}
use Rattle.bound_plan.proofs.ConstantCells.{constants_are}
use Rattle.bound_plan.proofs.Buffers.{placed, real}
use Rattle.bound_plan.proofs.Exports.{arrive, exports_own}
use Rattle.bound_plan.proofs.HostSees.{act_alike}

module _ (numbers : NumberLaws) (items : ItemLaws) (halos : HaloLaws) (kernels : KernelLaws) (frames : FrameLaws) (b : BoundValue)
    (o : Owners) (n : Perms) (meshes : List RankMesh) (p : PlanValue) (pl : Planned b o n meshes p) where
  pub is_layout : IsLayout (setup_of b o meshes p) (layout_of b o meshes p)
  is_layout = record {
    run_is = λ k e s loops le. run_is kernels items frames.windows frames.on_windows frames.shape b pl.fits k loops e s;
    same_length = λ k e cs ws us loops le l h. same_length kernels items frames.windows frames.on_windows frames.shape b pl.fits k loops e cs ws us l h;
    constants_are = constants_are numbers items frames.constants b o n meshes p pl;
    exist = λ k e c loops le h. exist halos b o meshes p pl.fits (site_of b k) e c frames.windows (loop_fits kernels items b pl.fits k loops) le h;
    held = λ k q e c free lr le ex h. held numbers items halos b o n meshes p pl k free q lr frames.windows (site_fits numbers items b o n meshes p pl k free) e c le ex h;
    modified_is = λ k e c free le. modified_is numbers items halos kernels frames.windows frames.modified b o n meshes p pl k free e c le;
    reduced_held = λ k e v q free le h. reduced_held numbers items halos kernels frames.windows frames.modified b o n meshes p pl k free e v q h;
    placed = λ q c lr h has. placed numbers halos b o n meshes p pl q lr c h has;
    real = λ q i lr l. real numbers halos b o n meshes p pl q lr i l;
    host_sees = λ k s t host agree. act_alike halos b o meshes p pl.fits s t agree (act_in (item_at b k)) (frames.acts b k pl.fits);
    exported = λ k s q c lr h a. arrive halos b o n meshes p pl k s q c h a;
    exports_own = λ k s q c ls h. exports_own halos b o n meshes p pl k s q c h;
    inside = λ k q e free lr le ex. inside numbers items b o n meshes p pl k free q lr e le ex;
    outside = λ k q x free lr l. outside numbers items b o n meshes p pl k free q lr x l;
  }
