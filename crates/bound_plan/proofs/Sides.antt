-- Each element that a rank executes has a place, and each place has such an element.
use Rattle.std.proofs.Common.{◌≡◌, ℕ, ◌<◌, true, List, length, ap, ◌∙◌, ⊎_elim}
use Rattle.std.specs.Prelude.{◌&&◌, ◌||◌, ◌==◌}
use Rattle.std.proofs.lemmas.Bool.{or_cases, or_left, or_right, and_parts}
use Rattle.mesh_decl.specs.declared.owners.Owners.{Owners}
use Rattle.mesh_decl.specs.declared.owners.Perms.{Perms}
use Rattle.mesh_decl.specs.Mesh.{set_size}
use Rattle.mesh_decl.specs.Owners.{owner_of}
use Rattle.local_mesh.specs.Halo.{owns, imports_execute, imports_nonexecute, has_copy}
use Rattle.local_mesh.specs.declared.types.RankMesh.{RankMesh}
use Rattle.schedule_model.specs.Program.{Free}
use Rattle.schedule_model.specs.Setup.{executes}
use Rattle.bound_program.specs.Values.{BoundValue}
use Rattle.run_model.specs.Programs.{kind_of, item_at}
use Rattle.run_model.specs.Laws.{site_of}
use Rattle.loop_plan.specs.Values.{PlanValue, places_in}
use Rattle.loop_plan.specs.Needs.{item_scatters}
use Rattle.loop_plan.specs.StepOutline.{loop_at}
use Rattle.bound_plan.specs.Places.{originals, original_at, local_at}
use Rattle.bound_plan.specs.Setups.{setup_of}
use Rattle.bound_plan.specs.Laws.{Planned}
use Rattle.bound_plan.specs.Given.{NumberLaws, ItemLaws}
use Rattle.bound_plan.proofs.Locals.{stands, is_copy, local_is}
use Rattle.bound_plan.proofs.Placed.{site_fits, count_executes, place_there}

module _ (laws : NumberLaws) (items : ItemLaws) (b : BoundValue) (o : Owners) (n : Perms) (meshes : List RankMesh) (p : PlanValue)
    (pl : Planned b o n meshes p) (k : ℕ) (free : kind_of (item_at b k) ≡ Free) (r : ℕ) (lr : r < o.ranks) where
  -- a rank has a copy of what it executes
  pub executed_copy : (e : ℕ) → executes (setup_of b o meshes p) k r e ≡ true → has_copy b.mesh o (site_of b k).set e r ≡ true
  unfolding owns
  executed_copy e h = ⊎_elim
      (λ t. or_left (owner_of o (site_of b k).set e == r) (imports_execute b.mesh o (site_of b k).set e r || imports_nonexecute b.mesh o (site_of b k).set e r) t)
      (λ t. or_right (owner_of o (site_of b k).set e == r) (imports_execute b.mesh o (site_of b k).set e r || imports_nonexecute b.mesh o (site_of b k).set e r)
      (or_left (imports_execute b.mesh o (site_of b k).set e r) (imports_nonexecute b.mesh o (site_of b k).set e r)
      (and_parts (item_scatters b k) (imports_execute b.mesh o (site_of b k).set e r) t).1))
      (or_cases (owner_of o (site_of b k).set e == r) (item_scatters b k && imports_execute b.mesh o (site_of b k).set e r) h)

  pub inside : (e : ℕ) → e < set_size b.mesh (site_of b k).set → executes (setup_of b o meshes p) k r e ≡ true
      → (local_at meshes r (site_of b k).set e < places_in p (loop_at b meshes p k) r) × (original_at meshes r (site_of b k).set (local_at meshes r (site_of b k).set e) ≡ e)
  inside e le h =
      let w : (local_at meshes r (site_of b k).set e < length (originals meshes r (site_of b k).set)) × (original_at meshes r (site_of b k).set (local_at meshes r (site_of b k).set e) ≡ e)
      = stands laws b.mesh o n meshes pl.distributed r lr (site_of b k).set (site_fits laws items b o n meshes p pl k free).set e le (executed_copy e h) in
      ((count_executes laws items b o n meshes p pl k free r lr (local_at meshes r (site_of b k).set e) w.0).1 (ap (executes (setup_of b o meshes p) k r) w.1 ∙ h), w.1)

  pub outside : (x : ℕ) → x < places_in p (loop_at b meshes p k) r
      → (original_at meshes r (site_of b k).set x < set_size b.mesh (site_of b k).set)
      × (executes (setup_of b o meshes p) k r (original_at meshes r (site_of b k).set x) ≡ true)
      × (local_at meshes r (site_of b k).set (original_at meshes r (site_of b k).set x) ≡ x)
  outside x l =
      let t : x < length (originals meshes r (site_of b k).set) = place_there laws items b o n meshes p pl k free r lr x l in
      let s = (site_fits laws items b o n meshes p pl k free).set in (
        (is_copy laws b.mesh o n meshes pl.distributed r lr (site_of b k).set s x t).0,
        (count_executes laws items b o n meshes p pl k free r lr x t).0 l,
        local_is laws b.mesh o n meshes pl.distributed r lr (site_of b k).set s x t,
      )
