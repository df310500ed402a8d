-- The run of a loop for an element is the kernel's meaning on the memory.
use Rattle.std.proofs.Common.{◌≡◌, ◌<◌, ◌+◌, ℕ, zero, suc, ℤ, true, List, [], ◌∷◌, map, length, Some, None, refl, sym, ap, ◌∙◌, subst, arith}
use Rattle.std.specs.Prelude.{slice_index_or}
use Rattle.std.proofs.lemmas.List.{get_or-map}
use Rattle.kernel_model.specs.declared.types.faults.KernelFault.{KernelFault}
use Rattle.kernel_model.specs.declared.types.kernels.RKernel.{RKernel}
use Rattle.kernel_model.specs.Meaning.{Target, no_target, target_at, kernel_meaning}
use Rattle.kernel_model.specs.Meaning as kernel
use Rattle.kernel_model.specs.Obeys.{mode_at}
use Rattle.kernel_model.specs.Independence.{Fits as InStore, store_after, ShapeStays}
use Rattle.mesh_decl.specs.Mesh.{target, map_count, map_from, set_size, dat_set, IsMapAt}
use Rattle.schedule_model.specs.Cells.{Store}
use Rattle.schedule_model.specs.Effects.{Ran, Faulted, Finished}
use Rattle.run_model.specs.ElementRun.{OnArrays, ElementRunsOnArrays}
use Rattle.run_model.specs.ElementRun as laws
use Rattle.bound_program.specs.declared.sites.Arg.{Arg}
use Rattle.bound_program.specs.declared.sites.Arg.TheVariants.{Dat, Global}
use Rattle.bound_program.specs.Values.{BoundValue, SiteValue, no_site}
use Rattle.bound_program.specs.Fits.{ArgFits, SiteFits}
use Rattle.run_model.specs.Windows.{reached, cell_in}
use Rattle.run_model.specs.Kernels.{constant_values}
use Rattle.run_model.specs.Programs.{loop_of, item_at, program_of}
use Rattle.run_model.specs.Arguments.{no_arg, arg_at, argument_at, entries, dat_width, var_width, arg_width, mode_of, modes_of, cell_of, is_constant}
use Rattle.run_model.specs.Laws.{site_of, RunsKernel, ElementsRunKernels}
use Rattle.run_model.specs.Memory.{memory_length, place_of, has_cell, Holds, span_of, spans, EndsHolding, ElementsRunOnMemory}
use Rattle.run_model.proofs.Windows.{wide, is_argument, below}
use Rattle.run_model.proofs.Memory.{has_dat, has_var, inside, apart, follow}
use Rattle.run_model.proofs.Items.{loop_there}

module _ (b : BoundValue) (maps : (n : ℕ) → n < map_count b.mesh → IsMapAt b.mesh n) where
  -- what an argument reaches is there
  there : (set e : ℕ) (x : Arg) (i : ℕ) → ArgFits b set x → e < set_size b.mesh set → i < arg_width b x → has_cell b (cell_in (reached b e x) i) ≡ true
  there set e (Dat d None a) i fit le li = has_dat b d e i fit.0 (subst (λ s. e < set_size b.mesh s) (sym fit.2) le) li
  there set e (Dat d (Some v) a) i fit le li =
      let via = fit.2 in
      let from : e < set_size b.mesh (map_from b.mesh v.map) = subst (λ s. e < set_size b.mesh s) (sym via.1) le in
      let to : target b.mesh v.map e v.index < set_size b.mesh (dat_set b.mesh d) =
      subst (λ s. target b.mesh v.map e v.index < set_size b.mesh s) via.2 ((maps v.map via.0).within e v.index from via.3) in
      has_dat b d (target b.mesh v.map e v.index) i fit.0 to li
  there set e (Global v a) i fit le li = has_var b v i fit.0 li

  module _ (site : SiteValue) (fits : SiteFits b site) (e : ℕ) (le : e < set_size b.mesh site.set) where
    counted : (xs : List Arg) (a : ℕ) → (target_at (map (λ x. span_of b (reached b e x)) xs) a).count ≡ (mode_at (map (mode_of b) xs) a).dim
    counted [] a = refl
    counted (x ∷ xs) zero = wide b e x
    counted (x ∷ xs) (suc a) = counted xs a

    first : (xs : List Arg) (a : ℕ) → (target_at (map (λ x. span_of b (reached b e x)) xs) a).array ≡ 0
    first [] a = refl
    first (x ∷ xs) zero = refl
    first (x ∷ xs) (suc a) = first xs a

    has : (a i : ℕ) → i < (mode_at (modes_of b site) a).dim → has_cell b (cell_of b site e a i) ≡ true
    has a i lt = there site.set e (arg_at site a) i (fits.args a no_arg (is_argument b site a i lt)) le (below b site a i lt)

    places : (a i : ℕ) → i < (mode_at (modes_of b site) a).dim → (target_at (spans b site.args e) a).from + i ≡ place_of b (cell_of b site e a i)
    places a i lt =
        ap (λ (t : Target). t.from + i) (get_or-map (λ x. span_of b (reached b e x)) site.args a no_arg no_target (is_argument b site a i lt))
        ∙ follow b (reached b e (arg_at site a)) i

    on_memory : OnArrays (entries b) (dat_width b) (var_width b) (argument_at site) (length site.args) e (modes_of b site) (cell_of b site e) (has_cell b) (λ c. 0) (place_of b) (spans b site.args e)
    on_memory = record {
      counts = counted site.args;
      there = has;
      arrays = λ a i lt. first site.args a;
      indices = places;
      apart = λ c d hc hd same place. apart b c d hc hd place;
    }

    in_memory : (m : List ℤ) → length m ≡ memory_length b → InStore (spans b site.args e) (m ∷ [])
    in_memory m long = record {
      arrays = λ a i lt. subst (λ x. x < 1) (sym (first site.args a)) (omega arith);
      cells = λ a i lt.
          let l : i < (mode_at (modes_of b site) a).dim = subst (λ n. i < n) (counted site.args a) lt in
          subst (λ x. (target_at (spans b site.args e) a).from + i < length (slice_index_or (m ∷ []) x [])) (sym (first site.args a))
          (let within : place_of b (cell_of b site e a i) < memory_length b = inside b (cell_of b site e a i) (has a i l) in
          omega (arith, places a i l, long, within));
    }

    -- the array that is left has its length still
    held : (x : kernel.Ran) (q : Ran KernelFault) → length (slice_index_or (store_after x) 0 []) ≡ memory_length b
        → laws.EndsHolding (entries b) (dat_width b) (var_width b) (argument_at site) (length site.args) e (modes_of b site) (cell_of b site e) (has_cell b) (λ c. 0) (place_of b) x q
        → EndsHolding b x q
    held (kernel.Finished l) (Finished t) long h = record { length = long; values = h }
    held (kernel.Stopped l f) (Faulted g) long h = h
    held (kernel.Finished l) (Faulted g) long h = absurd h
    held (kernel.Stopped l f) (Finished t) long h = absurd h

    by_meaning : ShapeStays → ElementRunsOnArrays → (k : RKernel) (run : Store → Ran KernelFault) → RunsKernel b site e k run → (m : List ℤ) (s : Store) → Holds b m s
        → EndsHolding b (kernel_meaning (spans b site.args e) (constant_values b s) k (m ∷ [])) (run s)
    by_meaning shape arrays k run runs m s holds =
        held (kernel_meaning (spans b site.args e) (constant_values b s) k (m ∷ [])) (run s)
        ((shape k (spans b site.args e) (constant_values b s) (m ∷ []) (in_memory m holds.length)).1 0 ∙ holds.length)
        (subst
        (λ cs. laws.EndsHolding (entries b) (dat_width b) (var_width b) (argument_at site) (length site.args) e (modes_of b site) (cell_of b site e) (has_cell b) (λ c. 0) (place_of b)
        (kernel_meaning (spans b site.args e) cs k (m ∷ [])) (run s))
        (runs.consts s)
        (arrays (entries b) (dat_width b) (var_width b) (argument_at site) (length site.args) e (modes_of b site) (cell_of b site e) k (is_constant b) run runs.is_run
        (has_cell b) (λ c. 0) (place_of b) (spans b site.args e) on_memory s (m ∷ []) (in_memory m holds.length) holds.values))

pub elements_run_on_memory : ElementsRunKernels → ShapeStays → ElementRunsOnArrays → ElementsRunOnMemory
elements_run_on_memory runs shape arrays b k e f m s maps fits loop le holds =
    by_meaning b maps (site_of b k) (fits.sites (loop_of (item_at b k)) no_site (loop_there b None b.trace k fits.items loop.is_loop)) e le
    shape arrays f ((program_of b).run k e) (runs b k e f fits loop) m s holds
