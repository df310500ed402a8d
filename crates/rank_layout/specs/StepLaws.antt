-- What the steps of a schedule say of items, ranks and places.
use Rattle.std.specs.Prelude.{◌≡◌, ◌<◌, ℕ, true, List, length}
use Rattle.mesh_decl.specs.declared.owners.Owners.{Owners}
use Rattle.mesh_decl.specs.declared.owners.Perms.{Perms}
use Rattle.mesh_decl.specs.Mesh.{set_count, set_size}
use Rattle.local_mesh.specs.declared.types.RankMesh.{RankMesh}
use Rattle.local_mesh.specs.LocalMesh.{executed_in}
use Rattle.local_mesh.specs.Lists.{sets_of, originals_of}
use Rattle.schedule_steps.specs.declared.step.Step.TheVariants.{Send, Recv, Begin}
use Rattle.schedule_steps.specs.Outline.{Outline}
use Rattle.schedule_steps.specs.Steps.{IsStep}
use Rattle.schedule_model.specs.Program.{Free}
use Rattle.schedule_model.specs.Layout.{by_place}
use Rattle.bound_program.specs.Values.{BoundValue}
use Rattle.run_model.specs.Programs.{item_at, kind_of, loop_of}
use Rattle.run_model.specs.Laws.{site_of}
use Rattle.loop_plan.specs.Values.{PlanValue, item_plan, places_in}
use Rattle.loop_plan.specs.Pairs.{passes}
use Rattle.bound_plan.specs.Places.{original_at}
use Rattle.bound_plan.specs.Laws.{Planned}
use Rattle.bound_plan.specs.Setups.{setup_of}
use Rattle.bound_plan.specs.Layouts.{layout_of}

module _ (b : BoundValue) (o : Owners) (meshes : List RankMesh) (p : PlanValue) where
  -- rank r executes item k, a Free loop, for the element at its place x
  pub record IsBegin (k r x : ℕ) : Type 0 where
    pub item : k < length b.trace
    pub free : kind_of (item_at b k) ≡ Free
    pub loop : loop_of (item_at b k) < length b.sites
    pub set : (site_of b k).set < set_count b.mesh
    pub rank : r < o.ranks
    pub here : r < length meshes
    pub sets : (site_of b k).set < length (sets_of meshes r)
    pub place : x < places_in p (loop_of (item_at b k)) r
    pub executed : x < executed_in (sets_of meshes r) (site_of b k).set
    pub held : x < length (originals_of meshes r (site_of b k).set)
    pub element : original_at meshes r (site_of b k).set x < set_size b.mesh (site_of b k).set

  -- a message of item k, a Free loop, goes from rank s to rank r
  pub record IsMessage (k s r : ℕ) : Type 0 where
    pub item : k < length b.trace
    pub free : kind_of (item_at b k) ≡ Free
    pub from : s < o.ranks
    pub to : r < o.ranks
    pub sent : passes b.mesh meshes (item_plan p k).exchange s r ≡ true

  abbrev pub places : Outline
  places = by_place (setup_of b o meshes p) (layout_of b o meshes p)

  -- what a step by places is about is there
  pub record StepsAre : Type 0 where
    pub begins : (k r x : ℕ) → IsStep places (Begin k r x) → IsBegin k r x
    pub sends : (k s r : ℕ) → IsStep places (Send k s r) → IsMessage k s r
    pub receives : (k r s : ℕ) → IsStep places (Recv k r s) → IsMessage k s r

-- whatever the plan, what its steps are about is there
abbrev pub StepsStand : Type 0
StepsStand =
    (b : BoundValue) (o : Owners) (n : Perms) (meshes : List RankMesh) (p : PlanValue)
    → Planned b o n meshes p
    → StepsAre b o meshes p
