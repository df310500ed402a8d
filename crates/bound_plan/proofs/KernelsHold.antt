-- The kernels of the setup.
use Rattle.std.proofs.Common.{◌≡◌, ◌<◌, ℕ, zero, suc, true, false, List, [], ◌∷◌, length, get_or, Some, refl, sym, ap, ◌∙◌, ⊎_elim}
use Rattle.std.specs.Prelude.{◌&&◌, ◌==◌, nat_lt}
use Rattle.std.proofs.lemmas.Bool.{cases_Bool, false≢true, and_parts}
use Rattle.op_num.specs.Access as laws
use Rattle.op_num.specs.Access.{OpRead, OpWrite, OpRw, OpReduce}
use Rattle.kernel_model.specs.declared.types.kernels.RKernel.{RKernel}
use Rattle.kernel_model.specs.Obeys.{KernelObeys}
use Rattle.mesh_decl.specs.declared.owners.Owners.{Owners}
use Rattle.mesh_decl.specs.declared.owners.Perms.{Perms}
use Rattle.local_mesh.specs.declared.types.RankMesh.{RankMesh}
use Rattle.schedule_model.specs.Cells.{Data, DatCell}
use Rattle.schedule_model.specs.Program.{is_loop}
use Rattle.schedule_model.specs.Laws.{Kernels}
use Rattle.schedule_model.specs.Arguments.{Argument, Direct, Indirect, Global, access_of, modifying, is_on, reaches}
use Rattle.schedule_model.specs.Tells.{All}
use Rattle.bound_program.specs.Values.{BoundValue, no_site}
use Rattle.bound_program.specs.Classes.{modifies}
use Rattle.bound_program.specs.Fits.{Fits, SiteFits, TakesArgs}
use Rattle.run_model.specs.Programs.{kind_of, loop_of, item_at, program_of}
use Rattle.run_model.specs.Kernels.{kernel_at}
use Rattle.run_model.specs.Arguments.{no_arg, argument_at, entries, dat_width, var_width, modes_of, cell_of, is_constant}
use Rattle.run_model.specs.Laws.{site_of, IsLoopOf}
use Rattle.loop_plan.specs.Values.{PlanValue}
use Rattle.bound_plan.specs.Setups.{setup_of}
use Rattle.bound_plan.specs.Laws.{Runnable}
use Rattle.bound_plan.specs.Given.{ItemLaws, KernelLaws}
use Rattle.bound_plan.proofs.Loops.{args_are}
use Rattle.bound_plan.proofs.DatArgs as args

kernel_there : (xs : List RKernel) (n m : ℕ) → TakesArgs xs n m → (f : RKernel) × (kernel_at xs n ≡ Some f)
kernel_there [] n m h = absurd h
kernel_there (x ∷ xs) zero m h = (x, refl)
kernel_there (x ∷ xs) (suc n) m h = kernel_there xs n m h

-- an argument that reaches a dat's cell is on the dat
on_reached : (b : BoundValue) (e : ℕ) (y : Argument) (c : DatCell) → reaches (entries b) (dat_width b) (var_width b) e y (Data c) ≡ true → is_on c.dat y ≡ true
on_reached b e (Direct d x) c h = (and_parts (d == c.dat) ((e == c.element) && nat_lt c.component (dat_width b d)) h).0
on_reached b e (Indirect d m i x) c h = (and_parts (d == c.dat) ((entries b m e i == c.element) && nat_lt c.component (dat_width b d)) h).0
on_reached b e (Global v x) c h = absurd (false≢true h)

only_reads : (x : laws.Access) → modifying x ≡ false → x ≡ OpRead
only_reads OpRead h = refl
only_reads OpWrite h = absurd (false≢true (sym h))
only_reads OpRw h = absurd (false≢true (sym h))
only_reads (OpReduce r) h = absurd (false≢true (sym h))

module _ (kernels : KernelLaws) (items : ItemLaws) (b : BoundValue) (fits : Fits b) (k : ℕ) (loops : is_loop (kind_of (item_at b k)) ≡ true) where
  pub loop_there : loop_of (item_at b k) < length b.sites
  loop_there = items.loops b k fits loops

  pub loop_fits : SiteFits b (site_of b k)
  loop_fits = fits.sites (loop_of (item_at b k)) no_site loop_there

  pub kernel : (f : RKernel) × (kernel_at b.kernels (site_of b k).kernel ≡ Some f)
  kernel = kernel_there b.kernels (site_of b k).kernel (length (site_of b k).args) loop_fits.kernel

  pub is_loop_of : IsLoopOf b k kernel.0
  is_loop_of = record { is_loop = loops; kernel = kernel.1 }

  -- a dat that the loop doesn't modify is only read
  unmodified : (e : ℕ) (c : DatCell) → modifies (site_of b k).args c.dat ≡ false
      → All (entries b) (dat_width b) (var_width b) (argument_at (site_of b k)) (length (site_of b k).args) e (Data c) (λ x. x ≡ OpRead)
  unmodified e c h a l r =
      let on : is_on c.dat (argument_at (site_of b k) a) ≡ true = on_reached b e (argument_at (site_of b k) a) c r in
      let w : args.OnDat (get_or (site_of b k).args a no_arg) c.dat = args.on_dat (get_or (site_of b k).args a no_arg) c.dat on in
      ⊎_elim
      (λ m. absurd (false≢true (sym h ∙ args.modifies_is (site_of b k).args c.dat a w.via w.access l w.is (ap modifying (sym w.how) ∙ m))))
      (λ m. only_reads (access_of (argument_at (site_of b k) a)) m)
      (cases_Bool (modifying (access_of (argument_at (site_of b k) a))))

module _ (kernels : KernelLaws) (items : ItemLaws) (b : BoundValue) (o : Owners) (n : Perms) (meshes : List RankMesh) (p : PlanValue) (r : Runnable b o n meshes p) where
  obeys : (k : ℕ) (loops : is_loop (kind_of (item_at b k)) ≡ true) → KernelObeys (kernel kernels items b r.planned.fits k loops).0 (modes_of b (site_of b k))
  obeys k loops =
      let f = kernel kernels items b r.planned.fits k loops in
      r.obey (loop_of (item_at b k)) f.0 (loop_there kernels items b r.planned.fits k loops) f.1

  pub kernel_laws : Kernels (setup_of b o meshes p)
  kernel_laws = record {
    start_in_range = kernels.first b r.start;
    run_in_range = λ k e s t lp le i ran.
        kernels.range b k e (kernel kernels items b r.planned.fits k lp).0 s t r.planned.fits (is_loop_of kernels items b r.planned.fits k lp) i ran;
    host_in_range = λ k s v w i h. kernels.hosts b k s v w r.planned.fits i h;
    independent = λ k e f le.
        kernels.independent (entries b) (dat_width b) (var_width b) (argument_at (site_of b k)) (length (site_of b k).args) e (modes_of b (site_of b k)) (cell_of b (site_of b k) e)
        (kernel kernels items b r.planned.fits k (ap is_loop f)).0 (is_constant b) ((program_of b).run k e)
        (kernels.runs b k e (kernel kernels items b r.planned.fits k (ap is_loop f)).0 r.planned.fits (is_loop_of kernels items b r.planned.fits k (ap is_loop f))).is_run
        (obeys k (ap is_loop f))
        (kernels.read b (site_of b k) e (loop_fits kernels items b r.planned.fits k (ap is_loop f)));
    stays = λ k e s t c q le ran h.
        kernels.reads b k e (kernel kernels items b r.planned.fits k (ap is_loop q)).0 s t (Data c) r.planned.fits
        (is_loop_of kernels items b r.planned.fits k (ap is_loop q)) (obeys k (ap is_loop q)) ran
        (unmodified kernels items b r.planned.fits k (ap is_loop q) e c (ap (λ z. modifies z c.dat) (sym (args_are b k (ap is_loop q))) ∙ h));
  }
