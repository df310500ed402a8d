-- Elements that a rank executes and that merge amounts into one element are ordered by the colours of the plan.
use Rattle.std.proofs.Common.{◌≡◌, ◌≢◌, ◌/◌, ◌<◌, ◌≤◌, ℕ, Bool, true, ◌⊎◌, inl, inr, List, [], length, get_or, map, refl, sym, ap, subst, ◌∙◌, ⊎_elim}
use Rattle.std.specs.Prelude.{◌&&◌, ◌||◌, ◌==◌, nat_lt, Contains}
use Rattle.std.proofs.lemmas.List.{get_or-map}
use Rattle.op_num.specs.Reduction.{Reduction}
use Rattle.op_num.specs.Access.{OpReduce}
use Rattle.mesh_decl.specs.declared.owners.Owners.{Owners}
use Rattle.mesh_decl.specs.declared.owners.Perms.{Perms}
use Rattle.mesh_decl.specs.Mesh.{set_size}
use Rattle.bound_plan.proofs.Places.{one_of}
use Rattle.local_mesh.specs.declared.types.RankMesh.{RankMesh}
use Rattle.local_mesh.specs.LocalMesh.{originals_in, executed_in}
use Rattle.colouring.specs.declared.types.IncArg.{IncArg}
use Rattle.colouring.specs.declared.types.Colours.{Colours}
use Rattle.colouring.specs.Colours.{Conflict, AreArgs, goes_before, reached_by}
use Rattle.schedule_model.specs.Program.{Free}
use Rattle.schedule_model.specs.Setup.{executes, outline}
use Rattle.schedule_steps.specs.Outline.{by_colour}
use Rattle.schedule_model.specs.Arguments.{is_on}
use Rattle.schedule_model.specs.Arguments as theorem
use Rattle.bound_program.specs.Values.{BoundValue}
use Rattle.run_model.specs.Programs.{kind_of, loop_of, item_at}
use Rattle.run_model.specs.Laws.{site_of}
use Rattle.run_model.specs.Arguments.{no_arg, argument_of, entries}
use Rattle.loop_plan.specs.Values.{PlanValue, SitePlanValue, site_plan}
use Rattle.loop_plan.specs.Pairs.{sets_of}
use Rattle.loop_plan.specs.Places.{maps_of, places_of, reducing}
use Rattle.loop_plan.specs.Proper.{IsSitePlan, Separate}
use Rattle.loop_plan.specs.StepOutline.{loop_at}
use Rattle.bound_plan.specs.Places.{local_at}
use Rattle.bound_plan.specs.Setups.{setup_of}
use Rattle.bound_plan.specs.Laws.{Planned}
use Rattle.bound_plan.specs.Given.{NumberLaws, ItemLaws, HaloLaws}
use Rattle.bound_plan.proofs.Loops.{loop_is, runs}
use Rattle.bound_plan.proofs.Globals.{is_reducing_is}
use Rattle.bound_plan.proofs.DatArgs.{OnDat, on_dat}
use Rattle.bound_plan.proofs.Locals.{rank_there, mesh, is_mesh, sets_are}
use Rattle.bound_plan.proofs.Placed.{site_there, site_fits, count_is, count_few}
use Rattle.bound_plan.proofs.Sides.{inside}
use Rattle.bound_plan.proofs.Separated.{places_are_ordered}
use Rattle.bound_plan.proofs.ReducingArgs.{inc_arg, is_among, are_args, target_is}

-- by these colours of blocks and places, one place goes before another
abbrev before : List ℕ → List ℕ → ℕ → ℕ → ℕ → Bool
before blocks inner size x y =
    nat_lt (get_or blocks (x / size) 0) (get_or blocks (y / size) 0)
    || ((x / size == y / size) && nat_lt (get_or inner x 0) (get_or inner y 0))

module _ (laws : NumberLaws) (items : ItemLaws) (halos : HaloLaws) (b : BoundValue) (o : Owners) (n : Perms) (meshes : List RankMesh)
    (p : PlanValue) (pl : Planned b o n meshes p) (k : ℕ) (free : kind_of (item_at b k) ≡ Free) (r : ℕ) (lr : r < o.ranks) where
  abbrev plan : SitePlanValue
  plan = site_plan p (loop_of (item_at b k))

  is_plan : IsSitePlan b meshes p.block (loop_of (item_at b k)) plan
  is_plan = pl.proper.loops (loop_of (item_at b k)) (site_there laws items b o n meshes p pl k free) (runs b k free)

  there : r < length meshes
  there = rank_there laws b.mesh o n meshes pl.distributed r lr

  colours_there : r < length plan.colours
  colours_there = subst (λ z. r < z) (sym is_plan.colours_count) there

  abbrev colours : Colours
  colours = get_or plan.colours r (one_of plan.colours r colours_there)

  abbrev args : List IncArg
  args = reducing (site_of b k).args

  abbrev places : ℕ
  places = places_of meshes (site_of b k) r

  separate : Separate b.mesh (maps_of meshes r) args places p.block colours
  separate = is_plan.colours r (one_of plan.colours r colours_there) there

  blocks_are : get_or (map (λ (c : Colours). c.blocks.items) (site_plan p (loop_at b meshes p k)).colours) r [] ≡ colours.blocks.items
  blocks_are =
      ap (λ s. get_or (map (λ (c : Colours). c.blocks.items) (site_plan p s).colours) r []) (loop_is b k)
      ∙ get_or-map (λ (c : Colours). c.blocks.items) plan.colours r (one_of plan.colours r colours_there) [] colours_there

  inner_are : get_or (map (λ (c : Colours). c.inner.items) (site_plan p (loop_at b meshes p k)).colours) r [] ≡ colours.inner.items
  inner_are =
      ap (λ s. get_or (map (λ (c : Colours). c.inner.items) (site_plan p s).colours) r []) (loop_is b k)
      ∙ get_or-map (λ (c : Colours). c.inner.items) plan.colours r (one_of plan.colours r colours_there) [] colours_there

  by_colours : (x y : ℕ) → by_colour (outline (setup_of b o meshes p)) k r x y ≡ goes_before colours p.block (local_at meshes r (site_of b k).set x) (local_at meshes r (site_of b k).set y)
  by_colours x y =
      ap (λ z. before z (get_or (map (λ (c : Colours). c.inner.items) (site_plan p (loop_at b meshes p k)).colours) r []) p.block
      (local_at meshes r (site_of b k).set x) (local_at meshes r (site_of b k).set y)) blocks_are
      ∙ ap (λ z. before colours.blocks.items z p.block (local_at meshes r (site_of b k).set x) (local_at meshes r (site_of b k).set y)) inner_are

  maps_are : (mesh laws b.mesh o n meshes pl.distributed r lr).maps.items ≡ maps_of meshes r
  unfolding maps_of
  maps_are = sym (get_or-map (λ (x : RankMesh). x.maps.items) meshes r
      (one_of meshes r (rank_there laws b.mesh o n meshes pl.distributed r lr)) [] (rank_there laws b.mesh o n meshes pl.distributed r lr))

  are : AreArgs b.mesh (mesh laws b.mesh o n meshes pl.distributed r lr).sets.items places args
  are = record {
    set = (site_of b k).set;
    each = λ a d l. are_args b (site_of b k).set (site_of b k).args (site_fits laws items b o n meshes p pl k free).args a d l;
    executed = λ l.
        subst (λ z. places ≤ executed_in z (site_of b k).set) (sym (sets_are laws b.mesh o n meshes pl.distributed r lr))
        (subst (λ z. z ≤ executed_in (sets_of meshes r) (site_of b k).set) (count_is laws items b o n meshes p pl k free r lr) (count_few laws items b o n meshes p pl k free r lr));
  }

  module _ (x : ℕ) (lx : x < set_size b.mesh (site_of b k).set) (ex : executes (setup_of b o meshes p) k r x ≡ true) where
    at_place : local_at meshes r (site_of b k).set x < places
    at_place = subst (λ z. local_at meshes r (site_of b k).set x < z) (count_is laws items b o n meshes p pl k free r lr) (inside laws items b o n meshes p pl k free r lr x lx ex).0

    is_element : get_or (originals_in (mesh laws b.mesh o n meshes pl.distributed r lr).sets.items (site_of b k).set) (local_at meshes r (site_of b k).set x) 0 ≡ x
    is_element =
        ap (λ z. get_or (originals_in z (site_of b k).set) (local_at meshes r (site_of b k).set x) 0) (sets_are laws b.mesh o n meshes pl.distributed r lr)
        ∙ (inside laws items b o n meshes p pl k free r lr x lx ex).1

  -- an argument that merges amounts into the dat
  among : (a d : ℕ) (q : Reduction) → a < length (site_of b k).args → (w : OnDat (get_or (site_of b k).args a no_arg) d)
      → theorem.access_of (argument_of (get_or (site_of b k).args a no_arg)) ≡ OpReduce q → Contains args (inc_arg d w.via)
  among a d q l w h = is_among (site_of b k).args a d w.via w.access l w.is (is_reducing_is w.access q (sym w.how ∙ h))

  reaches : (a d x : ℕ) → (w : OnDat (get_or (site_of b k).args a no_arg) d) → theorem.target (entries b) x (argument_of (get_or (site_of b k).args a no_arg)) ≡ reached_by b.mesh x w.via
  reaches a d x w = ap (λ z. theorem.target (entries b) x (argument_of z)) w.is ∙ target_is b x d w.via w.access

  pub coloured : (x y a c d : ℕ)
      → x < set_size b.mesh (site_of b k).set
      → y < set_size b.mesh (site_of b k).set
      → executes (setup_of b o meshes p) k r x ≡ true
      → executes (setup_of b o meshes p) k r y ≡ true
      → x ≢ y
      → a < length (site_of b k).args
      → c < length (site_of b k).args
      → is_on d (argument_of (get_or (site_of b k).args a no_arg)) ≡ true
      → is_on d (argument_of (get_or (site_of b k).args c no_arg)) ≡ true
      → (q s : Reduction)
      → theorem.access_of (argument_of (get_or (site_of b k).args a no_arg)) ≡ OpReduce q
      → theorem.access_of (argument_of (get_or (site_of b k).args c no_arg)) ≡ OpReduce s
      → theorem.target (entries b) x (argument_of (get_or (site_of b k).args a no_arg)) ≡ theorem.target (entries b) y (argument_of (get_or (site_of b k).args c no_arg))
      → (by_colour (outline (setup_of b o meshes p)) k r x y ≡ true) ⊎ (by_colour (outline (setup_of b o meshes p)) k r y x ≡ true)
  unfolding are
  coloured x y a c d lx ly ex ey ne la lc oa oc q s qa sc same =
      let wa : OnDat (get_or (site_of b k).args a no_arg) d = on_dat (get_or (site_of b k).args a no_arg) d oa in
      let wc : OnDat (get_or (site_of b k).args c no_arg) d = on_dat (get_or (site_of b k).args c no_arg) d oc in
      let lpx : ℕ = local_at meshes r (site_of b k).set x in
      let lpy : ℕ = local_at meshes r (site_of b k).set y in
      let meet : Conflict b.mesh (maps_of meshes r) args lpx lpy =
      subst (λ z. Conflict b.mesh z args lpx lpy) maps_are
      (halos.conflicts b.mesh o n r (mesh laws b.mesh o n meshes pl.distributed r lr) args places (halos.dats b.mesh pl.fits.mesh)
      pl.distributed.are_perms (is_mesh laws b.mesh o n meshes pl.distributed r lr) are
      (inc_arg d wa.via) (inc_arg d wc.via) lpx lpy (among a d q la wa qa) (among c d s lc wc sc) refl (at_place x lx ex) (at_place y ly ey)
      (ap (λ z. reached_by b.mesh z wa.via) (is_element x lx ex) ∙ sym (reaches a d x wa) ∙ same ∙ reaches c d y wc ∙ ap (λ z. reached_by b.mesh z wc.via) (sym (is_element y ly ey)))) in
      let apart : lpx ≢ lpy = λ e. ne
      (sym (is_element x lx ex) ∙ ap (λ z. get_or
      (originals_in (mesh laws b.mesh o n meshes pl.distributed r lr).sets.items (site_of b k).set) z 0) e ∙ is_element y ly ey) in
      ⊎_elim
      (λ t. inl (by_colours x y ∙ t))
      (λ t. inr (by_colours y x ∙ t))
      (places_are_ordered b.mesh (maps_of meshes r) args places p.block colours pl.proper.block separate lpx lpy (at_place x lx ex) (at_place y ly ey) apart meet)
