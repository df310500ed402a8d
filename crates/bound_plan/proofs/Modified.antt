-- What elements modify are the cells of their windows on the dats that the loop modifies.
use Rattle.std.proofs.Common.{◌≡◌, ◌<◌, ℕ, true, List, length, Some, sym, ap, subst, ◌∙◌}
use Rattle.std.specs.Prelude.{◌&&◌}
use Rattle.std.proofs.lemmas.Bool.{and_parts, and_from}
use Rattle.op_num.specs.Reduction.{Reduction}
use Rattle.kernel_model.specs.Obeys.{Mode, mode_at}
use Rattle.mesh_decl.specs.declared.owners.Owners.{Owners}
use Rattle.mesh_decl.specs.declared.owners.Perms.{Perms}
use Rattle.mesh_decl.specs.Mesh.{set_size}
use Rattle.local_mesh.specs.declared.types.RankMesh.{RankMesh}
use Rattle.schedule_model.specs.Cells.{Data, Variable, DatCell, VarCell}
use Rattle.schedule_model.specs.Effects.{is_modified}
use Rattle.schedule_model.specs.Program.{Free, is_loop}
use Rattle.schedule_model.specs.Arguments.{reaches}
use Rattle.schedule_model.specs.Layout.{among}
use Rattle.run_model.specs.ElementRun.{IsElementRun}
use Rattle.kernel_model.specs.declared.types.kernels.RKernel.{RKernel}
use Rattle.bound_program.specs.Values.{BoundValue}
use Rattle.run_model.specs.Windows.{reached, cell_in}
use Rattle.run_model.specs.Programs.{kind_of, loop_of, item_at, program_of}
use Rattle.run_model.specs.Arguments.{arg_width, argument_at, entries, dat_width, var_width, modes_of, cell_of, is_constant}
use Rattle.run_model.specs.Laws.{site_of, WindowsAreReached}
use Rattle.loop_plan.specs.Values.{PlanValue}
use Rattle.loop_plan.specs.Needs.{item_modifies}
use Rattle.bound_plan.specs.Windows.{frame_cells}
use Rattle.bound_plan.specs.Variables.{reduces_at}
use Rattle.bound_plan.specs.Setups.{setup_of}
use Rattle.bound_plan.specs.Laws.{Planned}
use Rattle.bound_plan.specs.Given.{NumberLaws, ItemLaws, HaloLaws, KernelLaws, ExactlyModified}
use Rattle.bound_plan.proofs.KernelsHold.{kernel, is_loop_of}
use Rattle.bound_plan.proofs.Placed.{site_fits}
use Rattle.bound_plan.proofs.Touched.{Merges, merges}
use Rattle.bound_plan.proofs.Parts.{parts}
use Rattle.run_model.proofs.Public.{mode_is, is_argument}
use Rattle.bound_plan.proofs.FrameFacts.{among_arg, arg_among}
use Rattle.lemmas.proofs.Truth.{iff_eq}

module _ (numbers : NumberLaws) (items : ItemLaws) (halos : HaloLaws) (kernels : KernelLaws) (windows : WindowsAreReached)
    (law : ExactlyModified) (b : BoundValue) (o : Owners) (n : Perms) (meshes : List RankMesh) (p : PlanValue) (pl : Planned b o n meshes p)
    (k : ℕ) (free : kind_of (item_at b k) ≡ Free) (e : ℕ) where
  abbrev f : RKernel
  f = (kernel kernels items b pl.fits k (ap is_loop free)).0

  is_run : IsElementRun (entries b) (dat_width b) (var_width b) (argument_at (site_of b k)) (length (site_of b k).args) e
      (modes_of b (site_of b k)) (cell_of b (site_of b k) e) f (is_constant b) ((program_of b).run k e)
  is_run = (kernels.runs b k e f pl.fits (is_loop_of kernels items b pl.fits k (ap is_loop free))).is_run

  -- a cell that an argument reaches is one of the frame's
  reached_among : (c : DatCell) (a : ℕ) → a < length (site_of b k).args → reaches (entries b) (dat_width b) (var_width b) e (argument_at (site_of b k) a) (Data c) ≡ true
      → among (frame_cells b (site_of b k).args e) (Data c) ≡ true
  reached_among c a l h =
      let w = is_run.reached a (Data c) l h in
      subst (λ z. among (frame_cells b (site_of b k).args e) z ≡ true) (sym w.2) (among_arg windows b (site_of b k) e a w.0 w.1)

  among_reached : (c : DatCell) → among (frame_cells b (site_of b k).args e) (Data c) ≡ true
      → (a : ℕ) × (a < length (site_of b k).args) × (reaches (entries b) (dat_width b) (var_width b) e (argument_at (site_of b k) a) (Data c) ≡ true)
  among_reached c h =
      let w = arg_among windows b (site_of b k) e (Data c) h in
      (w.0, there w.0 w.1 w.2, subst (λ z. reaches (entries b) (dat_width b) (var_width b) e (argument_at (site_of b k) w.0) z ≡ true) w.3 (is_run.reach w.0 w.1 w.2))
    where
      there : (a i : ℕ) → i < (mode_at (modes_of b (site_of b k)) a).dim → a < length (site_of b k).args
      there a i l = is_argument b (site_of b k) a i l

  pub modified_is : (c : DatCell) → e < set_size b.mesh (site_of b k).set
      → is_modified ((setup_of b o meshes p).touch k e (Data c)) ≡ (item_modifies b k c.dat && among (frame_cells b (site_of b k).args e) (Data c))
  unfolding parts
  modified_is c le =
      let both = law (setup_of b o meshes p) (parts numbers items halos b o n meshes p pl) k e c free le in
      iff_eq (is_modified ((setup_of b o meshes p).touch k e (Data c))) (item_modifies b k c.dat && among (frame_cells b (site_of b k).args e) (Data c))
      (λ h. let w = both.0 h in and_from (item_modifies b k c.dat) (among (frame_cells b (site_of b k).args e) (Data c)) w.0 (reached_among c w.1 w.2 w.3))
      (λ h.
      let w : (item_modifies b k c.dat ≡ true) × (among (frame_cells b (site_of b k).args e) (Data c) ≡ true) =
      and_parts (item_modifies b k c.dat) (among (frame_cells b (site_of b k).args e) (Data c)) h in
      let u = among_reached c w.1 in
      both.1 (w.0, u.0, u.1, u.2))

  pub reduced_held : (v : VarCell) (q : Reduction) → reduces_at b (loop_of (item_at b k)) v ≡ Some q → among (frame_cells b (site_of b k).args e) (Variable v) ≡ true
  reduced_held v q h =
      let m : Merges b (loop_of (item_at b k)) (site_fits numbers items b o n meshes p pl k free) v q = merges b (loop_of (item_at b k)) (site_fits numbers items b o n meshes p pl k free) v q h in
      let a : ℕ = m.argument.number in
      let dim : (mode_at (modes_of b (site_of b k)) a).dim ≡ var_width b v.variable =
      ap (λ (x : Mode). x.dim) (mode_is b (site_of b k) a m.argument.there) ∙ ap (arg_width b) m.argument.is in
      subst (λ z. among (frame_cells b (site_of b k).args e) z ≡ true) (ap (λ y. cell_in (reached b e y) v.component) m.argument.is)
      (among_arg windows b (site_of b k) e a v.component (subst (λ z. v.component < z) (sym dim) m.component))
