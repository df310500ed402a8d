-- The items of the setup.
use Rattle.std.proofs.Common.{List, None}
use Rattle.mesh_decl.specs.declared.owners.Owners.{Owners}
use Rattle.mesh_decl.specs.declared.owners.Perms.{Perms}
use Rattle.local_mesh.specs.declared.types.RankMesh.{RankMesh}
use Rattle.schedule_model.specs.Laws.{Items}
use Rattle.bound_program.specs.Values.{BoundValue}
use Rattle.run_model.specs.Programs.{loop_of, item_at}
use Rattle.run_model.specs.Laws.{site_of}
use Rattle.loop_plan.specs.Values.{PlanValue}
use Rattle.bound_plan.specs.Setups.{setup_of}
use Rattle.bound_plan.specs.Laws.{Planned}
use Rattle.bound_plan.specs.Given.{NumberLaws, ItemLaws, HaloLaws}
use Rattle.bound_plan.proofs.Loops.{needs_free}
use Rattle.bound_plan.proofs.Trace.{first_item, reduce_after, reduce_next, last_item}
use Rattle.bound_plan.proofs.Globals.{reduces_is}
use Rattle.bound_plan.proofs.Halos.{owners}
use Rattle.bound_plan.proofs.Placed.{site_fits}
use Rattle.bound_plan.proofs.Touched.{merges}

module _ (numbers : NumberLaws) (items : ItemLaws) (halos : HaloLaws) (b : BoundValue) (o : Owners) (n : Perms) (meshes : List RankMesh) (p : PlanValue) (pl : Planned b o n meshes p) where
  pub item_laws : Items (setup_of b o meshes p)
  item_laws = record {
    first_item = λ h. first_item b b.trace pl.fits.items h;
    reduce_after = λ k h. reduce_after b None b.trace k pl.fits.items h;
    reduce_next = λ k v r f h.
        reduce_next b None b.trace k pl.fits.items f
        (reduces_is (site_of b k).args v.variable r (merges b (loop_of (item_at b k)) (site_fits numbers items b o n meshes p pl k f) v r h).argument);
    last_item = λ m l h. last_item b b.trace m pl.fits.last l h;
    exchanges = pl.proper.exchanges.history;
    needs_free = λ k d h. needs_free b k d h;
    some_rank = pl.distributed.are_owners.some_rank;
    owners = λ s e l. owners halos b.mesh pl.fits.mesh o pl.distributed.are_owners s e l;
  }
