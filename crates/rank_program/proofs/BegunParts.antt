-- The element at a place, as it is read in a distributed program.
use Rattle.std.proofs.Common.{◌≡◌, ◌<◌, ℕ, Bool, List, [], All, map, length, get_or, refl, sym, ap, ◌∙◌, subst, arith}
use Rattle.std.specs.Prelude.{◌↔◌, ◌==◌, true, nat_lt, slice_index}
use Rattle.std.proofs.lemmas.Bool.Decides.{same_from_decides, Decides-ltb}
use Rattle.std.proofs.lemmas.List.{get_or_default}
use Rattle.mesh_decl.specs.Owners.{owner_of}
use Rattle.local_mesh.specs.Halo.{owns}
use Rattle.local_mesh.specs.LocalMesh.{originals_in}
use Rattle.local_mesh.specs.Numbers.{OwnedComeFirst, own_in}
use Rattle.rank_layout.proofs.Public.{rank_mesh, sets_at, some_at}
use Rattle.local_mesh.specs.declared.types.RankMesh.{RankMesh}
use Rattle.local_mesh.specs.Lists.{sets_of, originals_of}
use Rattle.schedule_steps.specs.declared.step.Step.TheVariants.{Begin}
use Rattle.schedule_steps.specs.Steps.{IsStep}
use Rattle.schedule_model.specs.Layout.{by_place}
use Rattle.bound_program.specs.declared.sites.Arg.{Arg}
use Rattle.bound_program.specs.declared.sites.Site.{Site}
use Rattle.bound_program.specs.Values as value
use Rattle.bound_program.specs.Values.{SiteValue}
use Rattle.bound_program.specs.Fits.{site_at}
use Rattle.bound_program.specs.Classes.{modifies}
use Rattle.run_model.specs.Programs.{item_at, loop_of}
use Rattle.run_model.specs.Laws as the
use Rattle.bound_plan.specs.Places.{original_at}
use Rattle.rank_state.specs.declared.spans.Span.{Span}
use Rattle.rank_state.specs.declared.scalars.Scalar.{Scalar}
use Rattle.rank_state.specs.Shows.{AreWindows}
use Rattle.rank_program.specs.declared.program.DistributedProgram.{DistributedProgram}
use Rattle.rank_layout.specs.DatWindows.{spans_after, ArgHere}
use Rattle.rank_layout.specs.Made.{row_of, writes_by, AreSiteScalars}
use Rattle.rank_layout.specs.StepLaws.{IsBegin, StepsStand}
use Rattle.rank_program.specs.Sound.{Sound, program_in, plan_in, setup_in, layout_in, tables_in}
use Rattle.rank_layout.specs.WindowLaws.{arg_span, ArgsAreHere, ElementWindowsStand}

module _ (c : DistributedProgram) (sound : Sound c) (stand : StepsStand) (k r x : ℕ) (step : IsStep (by_place (setup_in c) (layout_in c)) (Begin k r x)) where
  pub begins : IsBegin (program_in c) c.owners.now c.meshes.now (plan_in c) k r x
  begins = (stand (program_in c) c.owners.now sound.numbers c.meshes.now (plan_in c) sound.planned).begins k r x step

  -- a table with a row for each loop has one for the item's
  pub row_there : (n rows : ℕ) → n ≡ loop_of (item_at (program_in c) k) → rows ≡ length (program_in c).sites → n < rows
  row_there n rows loop count = let lt = begins.loop in omega (arith, loop, count, lt)

  -- the item's loop, as it is read
  module _ (site : Site) (is : value.site_of site ≡ the.site_of (program_in c) k) where
    set_is : site.set ≡ (the.site_of (program_in c) k).set
    set_is = ap (λ (s : SiteValue). s.set) is

    pub set_there : site.set < length (sets_of c.meshes.now r)
    set_there = let lt = begins.sets in omega (arith, set_is, lt)

    pub place_there : x < length (originals_of c.meshes.now r site.set)
    place_there = subst (λ s. x < length (originals_of c.meshes.now r s)) (sym set_is) begins.held

    -- the rank owns it exactly where its local number is below the count of what the rank owns
    pub place_owned : OwnedComeFirst → nat_lt x (own_in (sets_of c.meshes.now r) site.set)
        ≡ (owner_of c.owners.now (the.site_of (program_in c) k).set (original_at c.meshes.now r (the.site_of (program_in c) k).set x) == r)
    unfolding owns
    place_owned first =
        let set = (the.site_of (program_in c) k).set in
        let m = get_or c.meshes.now r (some_at c.meshes.now r begins.here) in
        let part : m ≡ get_or c.meshes.now r m = get_or_default c.meshes.now r (some_at c.meshes.now r begins.here) m begins.here in
        let same : m.sets.items ≡ sets_of c.meshes.now r = sets_at c.meshes.now r m begins.here part in
        let mesh = rank_mesh (program_in c) c.owners.now sound.numbers c.meshes.now (plan_in c) sound.planned r begins.rank m part in
        let held : x < length (originals_in m.sets.items set) = subst (λ z. x < length (originals_in z set)) (sym same) begins.held in
        let own : (x < own_in (sets_of c.meshes.now r) set) ↔ (owns c.owners.now set (original_at c.meshes.now r set x) r ≡ true) =
        subst (λ z. (x < own_in z set) ↔ (owns c.owners.now set (slice_index (originals_in z set) x) r ≡ true)) same
        (first (program_in c).mesh c.owners.now sound.numbers r m mesh set x begins.set held) in
        ap (λ s. nat_lt x (own_in (sets_of c.meshes.now r) s)) set_is
        ∙ same_from_decides (nat_lt x (own_in (sets_of c.meshes.now r) set)) (owner_of c.owners.now set (original_at c.meshes.now r set x) == r)
        (Decides-ltb x (own_in (sets_of c.meshes.now r) set)) (own.1, own.0)

    -- its arguments, its number, and the rank's local mesh
    module _ (args : List Arg) (all : args ≡ site.args.items) (n : ℕ) (loop : n ≡ loop_of (item_at (program_in c) k))
        (m : RankMesh) (part : m ≡ get_or c.meshes.now r m) where
      args_are : args ≡ (the.site_of (program_in c) k).args
      args_are = all ∙ ap (λ (s : SiteValue). s.args) is

      pub args_stand : ArgsAreHere → All (ArgHere (program_in c).mesh m x) args
      args_stand here =
          subst (All (ArgHere (program_in c).mesh m x)) (sym args_are)
          (here (program_in c) c.owners.now sound.numbers c.meshes.now (plan_in c) sound.planned (loop_of (item_at (program_in c) k)) r x m
          (record { loop = begins.loop; rank = begins.rank; place = begins.executed; part = part }))

      pub writes_are : (row : List Bool) → row ≡ row_of c.tables.writes.items n → row ≡ map (writes_by args) args
      writes_are row at =
          at ∙ sound.made.writes n (row_there n (length (program_in c).sites) loop refl) ∙ ap (λ s. map (writes_by (site_at (program_in c) s).args) (site_at (program_in c) s).args) loop
          ∙ sym (ap (λ l. map (writes_by l) l) args_are)

      pub windows_stand : ElementWindowsStand → (spans : List Span) (scalars : List Scalar)
          → spans ≡ spans_after (arg_span (program_in c).mesh m x (modifies args)) args []
          → scalars ≡ row_of c.tables.scalars.items n
          → AreWindows (setup_in c) (layout_in c) (tables_in c) k r x spans scalars
      windows_stand windows spans scalars pushed read =
          let are : AreSiteScalars (program_in c) (loop_of (item_at (program_in c) k)) scalars =
          subst (AreSiteScalars (program_in c) (loop_of (item_at (program_in c) k)))
          (ap (row_of c.tables.scalars.items) (sym loop) ∙ sym read) (sound.made.scalars (loop_of (item_at (program_in c) k)) begins.loop) in
          subst (λ l. AreWindows (setup_in c) (layout_in c) (tables_in c) k r x l scalars)
          (sym (pushed ∙ ap (λ l. spans_after (arg_span (program_in c).mesh m x (modifies l)) l []) args_are))
          (windows (program_in c) c.owners.now sound.numbers c.meshes.now (plan_in c) sound.planned k r x m scalars begins part are)
