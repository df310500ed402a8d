-- Two runs that are alike have one setup and one layout, and so one dump.
use Rattle.std.proofs.Common.{◌≡◌, ◌+◌, ◌-◌, ◌*◌, ◌/◌, ◌%◌, ℕ, ℤ, Bool, true, false, nat_eq, List, [], get_or, map, refl, sym, ap, ap₂, subst, ◌∙◌}
use Rattle.std.specs.List.{list_any}
use Rattle.std.specs.declared.alloc.Global.{Global}
use Rattle.std.specs.declared.vec.Vec.{ok-type}
use Rattle.std.proofs.lemmas.Simd.{map-map}
use Rattle.std.proofs.Math.Path.{fun_ext}
use Rattle.kernel_model.specs.declared.types.faults.KernelFault.{KernelFault}
use Rattle.kernel_model.specs.declared.types.kernels.RKernel.{RKernel}
use Rattle.kernel_model.specs.View.{rkernel_of}
use Rattle.kernel_model.specs.Trees.{RunsAlike}
use Rattle.mesh_decl.specs.declared.owners.Owners.{Owners}
use Rattle.mesh_decl.specs.Mesh.{MeshValue, dat_count, dat_set, dat_dim}
use Rattle.mesh_decl.specs.Owners.{owners_in, owner_of}
use Rattle.local_mesh.specs.Halo.{reaches, owns, imports_execute, executes, named_from, imports_nonexecute, imports, is_core}
use Rattle.local_mesh.specs.declared.types.RankMesh.{RankMesh}
use Rattle.local_mesh.specs.Values.{RankMeshValue, rank_mesh_value}
use Rattle.schedule_steps.specs.Outline.{Outline}
use Rattle.schedule_steps.specs.declared.step.Step.{Step}
use Rattle.schedule_model.specs.Cells.{Cell, DatCell}
use Rattle.schedule_model.specs.Program.{Program}
use Rattle.schedule_model.specs.Setup.{Setup}
use Rattle.schedule_model.specs.Layout.{Layout, Core}
use Rattle.schedule_model.specs.Flat.{flat_from}
use Rattle.run_model.specs.Dump.{dump_text}
use Rattle.bound_program.specs.Values.{BoundValue}
use Rattle.run_model.specs.Kernels.{kernel_at}
use Rattle.run_model.specs.Laws.{site_of}
use Rattle.loop_plan.specs.Values.{PlanValue, item_plan, places_in, block_colour_in, inner_colour_in}
use Rattle.loop_plan.specs.Needs.{item_at, exchanges}
use Rattle.loop_plan.specs.Pairs.{passes}
use Rattle.loop_plan.specs.StepOutline.{loop_at}
use Rattle.loop_plan.specs.OnePlan.{AreAlike, ReadAlike, PlansAreOne}
use Rattle.bound_plan.specs.Places.{first_place, last_upto, originals, original_at, local_at, bases_of, cells_of, place_of, cell_at}
use Rattle.bound_plan.specs.Windows.{core_with}
use Rattle.bound_plan.specs.Setups.{setup_of}
use Rattle.bound_plan.specs.Layouts.{exported_cells, layout_of}
use Rattle.bound_plan.specs.Starts.{first_flat}
use Rattle.bound_plan.specs.Memories.{memories_after, dump_of}
use Rattle.bound_plan.specs.OneRun.{with_kernels, SameRuns}
use Rattle.bound_plan.proofs.SameKernels.{same_at, programs_same, core_same}
use Rattle.bound_plan.proofs.AlikeDumps.{dumps_same}

-- ---- where things stand on a rank

module _ (meshes others : List RankMesh) (same : map rank_mesh_value meshes ≡ map rank_mesh_value others) where
  bases_same : (r : ℕ) → bases_of meshes r ≡ bases_of others r
  unfolding bases_of rank_mesh_value
  bases_same r =
      ap (λ (zs : List (List ℕ)). get_or zs r [])
      (sym (map-map (λ (v : RankMeshValue). v.bases) rank_mesh_value meshes)
      ∙ (ap (λ zs. map (λ (v : RankMeshValue). v.bases) zs) same ∙ map-map (λ (v : RankMeshValue). v.bases) rank_mesh_value others))

  cells_same : (r : ℕ) → cells_of meshes r ≡ cells_of others r
  unfolding cells_of rank_mesh_value
  cells_same r =
      ap (λ (zs : List ℕ). get_or zs r 0)
      (sym (map-map (λ (v : RankMeshValue). v.cells) rank_mesh_value meshes)
      ∙ (ap (λ zs. map (λ (v : RankMeshValue). v.cells) zs) same ∙ map-map (λ (v : RankMeshValue). v.cells) rank_mesh_value others))

-- ---- owners

module _ (b : BoundValue) (meshes : List RankMesh) (p : PlanValue) (o u : Owners) (ranks : o.ranks ≡ u.ranks) (owners : o.sets.items ≡ u.sets.items) where
  abbrev IsWhole : List (List ℕ) → Type 0
  IsWhole xs = ok-type (List ℕ) Global u.sets.ptr u.sets.len u.sets.cap u.sets.alloc xs

  abbrev owned_by : ℕ → (xs : List (List ℕ)) → IsWhole xs → Owners
  owned_by n xs ok = record { ranks = n; sets = record u.sets { items = xs; ok = ok } }

  whole : IsWhole o.sets.items
  whole = subst IsWhole (sym owners) u.sets.ok

  setup_by_owners : setup_of b o meshes p ≡ setup_of b u meshes p
  unfolding owners_in owner_of reaches owns imports_execute executes named_from imports_nonexecute is_core
  setup_by_owners =
      ap (λ n. setup_of b (owned_by n o.sets.items whole) meshes p) ranks
      ∙ subst (λ xs. (ok : IsWhole xs) → setup_of b (owned_by u.ranks xs ok) meshes p ≡ setup_of b u meshes p) (sym owners) (λ ok. refl) whole

  layout_by_owners : layout_of b o meshes p ≡ layout_of b u meshes p
  unfolding owners_in owner_of reaches owns imports_execute executes named_from imports_nonexecute imports
  layout_by_owners = subst (λ xs. (ok : IsWhole xs) → layout_of b (owned_by u.ranks xs ok) meshes p ≡ layout_of b u meshes p) (sym owners) (λ ok. refl) whole

-- ---- local meshes and plans

-- a cell's index by where the dats begin and by the elements of its dat's set
abbrev place_by : MeshValue → List ℕ → (ℕ → List ℕ) → DatCell → ℕ
place_by g bases elements c = get_or bases c.dat 0 + first_place (elements (dat_set g c.dat)) c.element * dat_dim g c.dat + c.component

-- the cell at an index, by the same
abbrev cell_by : MeshValue → List ℕ → (ℕ → List ℕ) → ℕ → DatCell
cell_by g bases elements i =
    let d = last_upto bases (dat_count g) i in
    record {
      dat = d;
      element = get_or (elements (dat_set g d)) ((i - get_or bases d 0) / dat_dim g d) 0;
      component = (i - get_or bases d 0) % dat_dim g d;
    }

module _ (b : BoundValue) (u : Owners) (meshes others : List RankMesh) (p q : PlanValue) (h : AreAlike b meshes others p q) (read : ReadAlike b meshes others p q) where
  local_same : (r s e : ℕ) → local_at meshes r s e ≡ local_at others r s e
  local_same r s e = ap (λ (xs : List ℕ). first_place xs e) (read.originals r s)

  elements_same : (r : ℕ) → originals meshes r ≡ originals others r
  elements_same r = fun_ext (λ s. read.originals r s)

  -- the setup with other exchanges, messages and colours
  abbrev setup_with : (ℕ → ℕ → Bool) → (ℕ → ℕ → ℕ → Bool) → (ℕ → ℕ → ℕ → ℕ) → (ℕ → ℕ → ℕ → ℕ) → (ℕ → ℕ → ℕ → ℕ) → Setup KernelFault
  setup_with exchanged sends block block_colour colour =
      record (setup_of b u meshes p) { exchanged = exchanged; sends = sends; block = block; block_colour = block_colour; colour = colour }

  abbrev sends_by : List RankMesh → PlanValue → ℕ → ℕ → ℕ → Bool
  sends_by ms v k s r = passes b.mesh ms (item_plan v k).exchange s r

  abbrev block_by : List RankMesh → PlanValue → ℕ → ℕ → ℕ → ℕ
  block_by ms v k r e = local_at ms r (site_of b k).set e / v.block

  abbrev block_colour_by : List RankMesh → PlanValue → ℕ → ℕ → ℕ → ℕ
  block_colour_by ms v k r c = block_colour_in v (loop_at b ms v k) r c

  abbrev colour_by : List RankMesh → PlanValue → ℕ → ℕ → ℕ → ℕ
  colour_by ms v k r e = inner_colour_in v (loop_at b ms v k) r (local_at ms r (site_of b k).set e)

  exchanged_same : exchanges b p ≡ exchanges b q
  exchanged_same = fun_ext (λ k. fun_ext (λ d. ap (λ (xs : List ℕ). list_any (nat_eq d) xs) (read.exchange k)))

  sends_same : sends_by meshes p ≡ sends_by others q
  sends_same = ap (λ (x : Outline). x.sends) read.outline

  block_same : block_by meshes p ≡ block_by others q
  block_same = fun_ext (λ k. fun_ext (λ r. fun_ext (λ e. ap₂ (λ (x n : ℕ). x / n) (local_same r (site_of b k).set e) h.block)))

  block_colour_same : block_colour_by meshes p ≡ block_colour_by others q
  block_colour_same = fun_ext (λ k. fun_ext (λ r. fun_ext (λ c. read.block_colours (loop_at b meshes p k) r c)))

  colour_same : colour_by meshes p ≡ colour_by others q
  colour_same = fun_ext (λ k. fun_ext (λ r. fun_ext (λ e.
      read.colours (loop_at b meshes p k) r (local_at meshes r (site_of b k).set e)
      ∙ ap (λ (x : ℕ). inner_colour_in q (loop_at b meshes p k) r x) (local_same r (site_of b k).set e))))

  setup_by_plans : setup_of b u meshes p ≡ setup_of b u others q
  setup_by_plans =
      ap (λ z. setup_with z (sends_by meshes p) (block_by meshes p) (block_colour_by meshes p) (colour_by meshes p)) exchanged_same
      ∙ (ap (λ z. setup_with (exchanges b q) z (block_by meshes p) (block_colour_by meshes p) (colour_by meshes p)) sends_same
      ∙ (ap (λ z. setup_with (exchanges b q) (sends_by others q) z (block_colour_by meshes p) (colour_by meshes p)) block_same
      ∙ (ap (λ z. setup_with (exchanges b q) (sends_by others q) (block_by others q) z (colour_by meshes p)) block_colour_same
      ∙ ap (λ z. setup_with (exchanges b q) (sends_by others q) (block_by others q) (block_colour_by others q) z) colour_same)))

  -- the layout with other buffers, messages and places
  abbrev layout_with : (ℕ → ℕ) → (ℕ → DatCell → ℕ) → (ℕ → ℕ → DatCell) → (ℕ → ℕ → ℕ → List Cell) → (ℕ → ℕ → ℕ) → (ℕ → ℕ → ℕ → ℕ) → (ℕ → ℕ → ℕ → ℕ) → Layout KernelFault
  layout_with width place cell_at exports count original local =
      record (layout_of b u meshes p) { width = width; place = place; cell_at = cell_at; exports = exports; count = count; original = original; local = local }

  abbrev exports_by : PlanValue → ℕ → ℕ → ℕ → List Cell
  exports_by v k s r = exported_cells b u (item_plan v k).exchange s r

  abbrev count_by : List RankMesh → PlanValue → ℕ → ℕ → ℕ
  count_by ms v k r = places_in v (loop_at b ms v k) r

  abbrev original_by : List RankMesh → ℕ → ℕ → ℕ → ℕ
  original_by ms k r x = original_at ms r (site_of b k).set x

  abbrev local_by : List RankMesh → ℕ → ℕ → ℕ → ℕ
  local_by ms k r e = local_at ms r (site_of b k).set e

  width_same : cells_of meshes ≡ cells_of others
  width_same = fun_ext (cells_same meshes others h.alike)

  place_same : place_of meshes b.mesh ≡ place_of others b.mesh
  place_same = fun_ext (λ r. ap₂ (place_by b.mesh) (bases_same meshes others h.alike r) (elements_same r))

  cell_same : cell_at meshes b.mesh ≡ cell_at others b.mesh
  cell_same = fun_ext (λ r. ap₂ (cell_by b.mesh) (bases_same meshes others h.alike r) (elements_same r))

  exports_same : exports_by p ≡ exports_by q
  exports_same = fun_ext (λ k. fun_ext (λ s. fun_ext (λ r. ap (λ (xs : List ℕ). exported_cells b u xs s r) (read.exchange k))))

  count_same : count_by meshes p ≡ count_by others q
  count_same = ap (λ (x : Outline). x.count) read.outline

  original_same : original_by meshes ≡ original_by others
  original_same = fun_ext (λ k. fun_ext (λ r. fun_ext (λ x. ap (λ (xs : List ℕ). get_or xs x 0) (read.originals r (site_of b k).set))))

  locals_same : local_by meshes ≡ local_by others
  locals_same = fun_ext (λ k. fun_ext (λ r. fun_ext (λ e. local_same r (site_of b k).set e)))

  layout_by_plans : layout_of b u meshes p ≡ layout_of b u others q
  layout_by_plans =
      ap (λ z. layout_with z (place_of meshes b.mesh) (cell_at meshes b.mesh) (exports_by p) (count_by meshes p) (original_by meshes) (local_by meshes)) width_same
      ∙ (ap (λ z. layout_with (cells_of others) z (cell_at meshes b.mesh) (exports_by p) (count_by meshes p) (original_by meshes) (local_by meshes)) place_same
      ∙ (ap (λ z. layout_with (cells_of others) (place_of others b.mesh) z (exports_by p) (count_by meshes p) (original_by meshes) (local_by meshes)) cell_same
      ∙ (ap (λ z. layout_with (cells_of others) (place_of others b.mesh) (cell_at others b.mesh) z (count_by meshes p) (original_by meshes) (local_by meshes)) exports_same
      ∙ (ap (λ z. layout_with (cells_of others) (place_of others b.mesh) (cell_at others b.mesh) (exports_by q) z (original_by meshes) (local_by meshes)) count_same
      ∙ (ap (λ z. layout_with (cells_of others) (place_of others b.mesh) (cell_at others b.mesh) (exports_by q) (count_by others q) z (local_by meshes)) original_same
      ∙ ap (λ z. layout_with (cells_of others) (place_of others b.mesh) (cell_at others b.mesh) (exports_by q) (count_by others q) (original_by others) z) locals_same)))))

-- ---- kernels

module _ (runs_alike : RunsAlike) (b : BoundValue) (ks : List RKernel) (same : map rkernel_of b.kernels ≡ map rkernel_of ks) (u : Owners) (meshes : List RankMesh) (p : PlanValue) where
  setup_by_kernels : setup_of b u meshes p ≡ setup_of (with_kernels b ks) u meshes p
  unfolding item_at
  setup_by_kernels = ap (λ (z : Program KernelFault). record (setup_of b u meshes p) { program = z }) (programs_same runs_alike b ks same)

  abbrev core_by : List RKernel → ℕ → ℕ → List ℤ → List ℤ → Core KernelFault
  core_by ls k e cs ws = core_with b (kernel_at ls (site_of b k).kernel) (site_of b k) e cs ws

  cores_same : core_by b.kernels ≡ core_by ks
  cores_same = fun_ext (λ k. fun_ext (λ e. fun_ext (λ cs. fun_ext (λ ws.
      core_same runs_alike b (kernel_at b.kernels (site_of b k).kernel) (kernel_at ks (site_of b k).kernel) (same_at b.kernels ks same (site_of b k).kernel) (site_of b k) e cs ws))))

  layout_by_kernels : layout_of b u meshes p ≡ layout_of (with_kernels b ks) u meshes p
  unfolding item_at
  layout_by_kernels = ap (λ z. record (layout_of b u meshes p) { core = z }) cores_same

-- ---- the dump

abbrev memories_by : Setup KernelFault → Layout KernelFault → List Step → List (List ℤ)
memories_by s l steps = (flat_from s l steps (first_flat s l)).memories

module _ (runs_alike : RunsAlike) (one_plan : PlansAreOne) (b : BoundValue) (ks : List RKernel) (o u : Owners)
    (meshes others : List RankMesh) (p q : PlanValue) (h : SameRuns b ks o u meshes others p q) where
  read : ReadAlike b meshes others p q
  read = one_plan b meshes others p q h.plans

  setups_same : setup_of b o meshes p ≡ setup_of (with_kernels b ks) u others q
  setups_same =
      setup_by_owners b meshes p o u h.ranks h.owners
      ∙ (setup_by_plans b u meshes others p q h.plans read ∙ setup_by_kernels runs_alike b ks h.kernels u others q)

  layouts_same : layout_of b o meshes p ≡ layout_of (with_kernels b ks) u others q
  layouts_same =
      layout_by_owners b meshes p o u h.ranks h.owners
      ∙ (layout_by_plans b u meshes others p q h.plans read ∙ layout_by_kernels runs_alike b ks h.kernels u others q)

  memories_same : (steps : List Step) → memories_after b o meshes p steps ≡ memories_after (with_kernels b ks) u others q steps
  memories_same steps = ap₂ (λ s l. memories_by s l steps) setups_same layouts_same

  pub one_dump : (dumps : Bool) (steps : List Step) → dump_of dumps b o meshes p steps ≡ dump_of dumps (with_kernels b ks) u others q steps
  one_dump false steps = refl
  one_dump true steps =
      ap (dump_text b.mesh meshes) (memories_same steps)
      ∙ dumps_same b.mesh meshes others h.plans.alike (memories_after (with_kernels b ks) u others q steps)
