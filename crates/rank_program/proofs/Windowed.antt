-- Each element that begins on a rank has windows there.
use Rattle.std.proofs.Common.{ℕ, List, [], get_or}
use Rattle.std.proofs.lemmas.List.{get_or_default}
use Rattle.mesh_decl.specs.declared.owners.Owners.{Owners}
use Rattle.mesh_decl.specs.declared.owners.Perms.{Perms}
use Rattle.local_mesh.specs.declared.types.RankMesh.{RankMesh}
use Rattle.local_mesh.specs.declared.lists.LocalLists.{LocalLists}
use Rattle.schedule_steps.specs.declared.step.Step.TheVariants.{Begin}
use Rattle.schedule_steps.specs.Steps.{IsStep}
use Rattle.schedule_model.specs.Layout.{by_place}
use Rattle.bound_program.specs.Values.{BoundValue}
use Rattle.bound_program.specs.Classes.{modifies}
use Rattle.run_model.specs.Programs.{item_at, loop_of}
use Rattle.run_model.specs.Laws as the
use Rattle.loop_plan.specs.Values.{PlanValue}
use Rattle.bound_plan.specs.Laws.{Planned}
use Rattle.bound_plan.specs.Setups.{setup_of}
use Rattle.bound_plan.specs.Layouts.{layout_of}
use Rattle.rank_state.specs.declared.spans.Span.{Span}
use Rattle.rank_state.specs.declared.scalars.Scalar.{Scalar}
use Rattle.rank_state.specs.Shows.{AreWindows}
use Rattle.rank_layout.specs.declared.tables.MachineTables.{MachineTables}
use Rattle.rank_layout.specs.DatWindows.{spans_after}
use Rattle.rank_layout.specs.Made.{AreMade, row_of}
use Rattle.rank_layout.specs.StepLaws.{StepsStand}
use Rattle.rank_layout.specs.Tables.{tables_of}
use Rattle.rank_layout.specs.WindowLaws.{arg_span, ElementWindowsStand}
use Rattle.rank_layout.proofs.Public.{some_at}

module _ (b : BoundValue) (o : Owners) (n : Perms) (meshes : List RankMesh) (p : PlanValue) (planned : Planned b o n meshes p)
    (lists : List LocalLists) (t : MachineTables) (made : AreMade b o p lists t) (stand : StepsStand) (windows : ElementWindowsStand) where
  pub windowed : (k r x : ℕ) → IsStep (by_place (setup_of b o meshes p) (layout_of b o meshes p)) (Begin k r x)
      → (spans : List Span) × (scalars : List Scalar) × AreWindows (setup_of b o meshes p) (layout_of b o meshes p) (tables_of b p) k r x spans scalars
  windowed k r x step =
      let begun = (stand b o n meshes p planned).begins k r x step in
      let m = get_or meshes r (some_at meshes r begun.here) in
      let args = (the.site_of b k).args in
      let scalars = row_of t.scalars.items (loop_of (item_at b k)) in (
        spans_after (arg_span b.mesh m x (modifies args)) args [],
        scalars,
        windows b o n meshes p planned k r x m scalars begun (get_or_default meshes r (some_at meshes r begun.here) m begun.here) (made.scalars (loop_of (item_at b k)) begun.loop),
      )
