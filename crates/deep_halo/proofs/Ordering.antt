-- Elements one after another on the owners' pairs and the variables.
use Rattle.std.proofs.Common.{◌≡◌, ◌<◌, ◌+◌, ⊎_elim, ℕ, zero, suc, ℤ, pos, true, false, List, [], ◌∷◌, map, length, get_or, Option, Some, None, refl, sym, ap, ap₂, subst, ◌∙◌, arith}
use Rattle.std.proofs.lemmas.Bool.{false≢true}
use Rattle.std.proofs.lemmas.Option.{none-some}
use Rattle.kernel_model.specs.declared.types.faults.KernelFault.{KernelFault}
use Rattle.mesh_decl.specs.declared.owners.Owners.{Owners}
use Rattle.mesh_decl.specs.Mesh.{IsInRange, set_size}
use Rattle.schedule_model.specs.Cells.{Cell, Data, Variable, VarCell, Store}
use Rattle.schedule_model.specs.Effects.{Ran, Faulted, Finished}
use Rattle.schedule_model.specs.Program.{Program}
use Rattle.schedule_model.specs.Sequential.{Loop, Broke, Ran_through, loop, one_more, after_run}
use Rattle.bound_program.specs.declared.sites.Arg.{Arg}
use Rattle.bound_program.specs.Values.{BoundValue, no_site}
use Rattle.bound_program.specs.Fits.{Fits, site_at}
use Rattle.run_model.specs.Memory.{has_cell}
use Rattle.run_model.specs.Kernels.{constants, constant_values, element_run}
use Rattle.run_model.specs.Constants.{ConstantsAreNumbered, no_constant}
use Rattle.run_model.specs.Laws.{WindowsAreReached}
use Rattle.run_model.proofs.Public.{has_var}
use Rattle.rank_state.specs.declared.rank_memory.stop.Stop.{Stop}
use Rattle.rank_state.specs.Stops.{stop_in}
use Rattle.deep_halo.specs.Placed.{HoldsWindows, LeavesPlaced, EndsPlaced}
use Rattle.deep_halo.specs.Places.{in_block, all_cells, block_at, stands_at}
use Rattle.deep_halo.proofs.chain_memory.Standing.{reached_there, stand_apart}
use Rattle.deep_halo.proofs.chain_memory.chain_stores.Writing.{blocks_apart}
use Rattle.deep_halo.specs.Constants.{constants_in}
use Rattle.deep_halo.proofs.chain_ranks.OneElement.{read}
use Rattle.deep_halo.proofs.chain_ranks.Reached.{is_reached}
use Rattle.deep_halo.specs.Orders.{OwnersStand, OthersStay, LoopEnds}
use Rattle.lemmas.proofs.Truth.{cases_bool}

-- the constants' values, as the owners have them
pub owned_constants : (b : BoundValue) (o : Owners) (law : ConstantsAreNumbered) (fits : Fits b) (memory : List ℤ) (s : Store) → OwnersStand b o memory s
    → constants_in b (λ v. read b memory o.ranks (Variable v)) ≡ constant_values b s
owned_constants b o law fits memory s stand = same (constants b) (λ j lj.
    let is = (law b fits.constants).cells j lj in
    stand.cells (Variable (get_or (constants b) j no_constant)) (has_var b (get_or (constants b) j no_constant).variable (get_or (constants b) j no_constant).component is.variable is.component))
  where
    same : (xs : List VarCell) → ((j : ℕ) → j < length xs → read b memory o.ranks (Variable (get_or xs j no_constant)) ≡ s (Variable (get_or xs j no_constant)))
        → map (λ v. read b memory o.ranks (Variable v)) xs ≡ map (λ v. s (Variable v)) xs
    same [] h = refl
    same (x ∷ xs) h = ap₂ (λ y ys. y ∷ ys) (h 0 (omega arith)) (same xs (λ j lt. h (suc j) (omega arith)))

module _ (b : BoundValue) (o : Owners) (fits : Fits b) (ranges : IsInRange b.mesh) (reach : WindowsAreReached)
    (n e : ℕ) (ls : n < length b.sites) (le : e < set_size b.mesh (site_at b n).set) (old : List ℤ) where
  there : (c : Cell) → is_reached b (site_at b n).args e c ≡ true → has_cell b c ≡ true
  there c h = reached_there b ranges (site_at b n) e (fits.sites n no_site ls) le (reach b (site_at b n) e) c h

  pub owned_windows : (s : Store) → OwnersStand b o old s → HoldsWindows b (site_at b n).args e (stands_at b o None) old s
  owned_windows s stand c h = stand.cells c (there c h)

  others_left : (new : List ℤ) (s t : Store) → LeavesPlaced b (site_at b n).args e (stands_at b o None) old new s t → OthersStay b o old new
  others_left new s t leaves r c lr h ne = leaves.others (in_block b r (Data c)) (λ d rd q.
      let p = blocks_apart b (block_at b o None d) r d (Data c) (there d rd) h q in
      ne (ap (block_at b o None) (sym p.1) ∙ p.0))

  owners_left : (new : List ℤ) (s t : Store) → OwnersStand b o old s → LeavesPlaced b (site_at b n).args e (stands_at b o None) old new s t → OwnersStand b o new t
  owners_left new s t stand leaves = record {
    count = leaves.count ∙ stand.count;
    cells = λ c h. ⊎_elim
        (λ (y : is_reached b (site_at b n).args e c ≡ true). leaves.cells c y)
        (λ (z : is_reached b (site_at b n).args e c ≡ false).
        leaves.others (stands_at b o None c) (λ d rd q.
        let same : d ≡ c = stand_apart b o None d c (there d rd) h q in
        false≢true (sym z ∙ subst (λ x. is_reached b (site_at b n).args e x ≡ true) same rd))
        ∙ stand.cells c h ∙ sym (leaves.stay c z))
        (cases_bool (is_reached b (site_at b n).args e c));
  }

  -- after the run of the element
  pub owned_ends : (k : ℕ) (new : List ℤ) (s : Store) (broken : Option KernelFault) (x : Ran KernelFault) (stop : Option Stop) → OwnersStand b o old s
      → EndsPlaced b (site_at b n).args e (stands_at b o None) old new s broken x
      → ((f : KernelFault) → broken ≡ Some f → stop_in stop ≡ Some (record { item = k; element = Some e; fault = f }))
      → (broken ≡ None → stop_in stop ≡ None)
      → LoopEnds b o k new stop (after_run e s x)
  owned_ends k new s broken (Faulted f) stop stand ends some none = (some f ends.0, subst (λ (l : List ℤ). OwnersStand b o l s) (sym ends.1) stand)
  owned_ends k new s broken (Finished t) stop stand ends some none = (none ends.0, owners_left new s t stand ends.1)

  pub owned_others : (new : List ℤ) (s : Store) (broken : Option KernelFault) (x : Ran KernelFault) → EndsPlaced b (site_at b n).args e (stands_at b o None) old new s broken x → OthersStay b o old new
  owned_others new s broken (Faulted f) ends = subst (λ (l : List ℤ). OthersStay b o old l) (sym ends.1) (λ r c lr h ne. refl)
  owned_others new s broken (Finished t) ends = others_left new s t ends.1

  -- as it is told
  pub owned_told : (law : ConstantsAreNumbered) (args : List Arg) (values new : List ℤ) (broken : Option KernelFault) → args ≡ (site_at b n).args
      → values ≡ constants_in b (λ v. read b old o.ranks (Variable v))
      → ((s : Store) → HoldsWindows b args e (stands_at b o None) old s → values ≡ constant_values b s → EndsPlaced b args e (stands_at b o None) old new s broken (element_run b (site_at b n) e s))
      → (s : Store) → OwnersStand b o old s → EndsPlaced b (site_at b n).args e (stands_at b o None) old new s broken (element_run b (site_at b n) e s)
  owned_told law args values new broken is vals told s stand =
      subst (λ (xs : List Arg). EndsPlaced b xs e (stands_at b o None) old new s broken (element_run b (site_at b n) e s)) is
      (told s (subst (λ (xs : List Arg). HoldsWindows b xs e (stands_at b o None) old s) (sym is) (owned_windows s stand)) (vals ∙ owned_constants b o law fits old s stand))

-- what a memory has of the owners' pairs and the variables
pub as_owned : BoundValue → Owners → List ℤ → Store
as_owned b o memory c = get_or memory (stands_at b o None c) (pos 0)

pub as_owned_stands : (b : BoundValue) (o : Owners) (memory : List ℤ) → length memory ≡ all_cells b o.ranks → OwnersStand b o memory (as_owned b o memory)
unfolding as_owned
as_owned_stands b o memory count = record { count = count; cells = λ c h. refl }

-- ---- the loop

module _ (b : BoundValue) (o : Owners) (p : Program KernelFault) (k : ℕ) where
  -- with one element more
  pub goes_on : (n : ℕ) (old new : List ℤ) (stop : Option Stop) (x : Loop KernelFault) → LoopEnds b o k old None x
      → ((t : Store) → OwnersStand b o old t → LoopEnds b o k new stop (after_run n t (p.run k n t)))
      → LoopEnds b o k new stop (one_more p k n x)
  goes_on n old new stop (Broke e f s) ends next = absurd (none-some (record { item = k; element = Some e; fault = f }) ends.0)
  goes_on n old new stop (Ran_through t) ends next = next t ends.1

  -- once it broke it stays so
  still : (memory : List ℤ) (stop : Stop) (n : ℕ) (x : Loop KernelFault) → LoopEnds b o k memory (Some stop) x → LoopEnds b o k memory (Some stop) (one_more p k n x)
  still memory stop n (Broke e f s) ends = ends
  still memory stop n (Ran_through t) ends = absurd (none-some _ (sym ends.0))

  pub stays_broken : (memory : List ℤ) (stop : Stop) (s : Store) (n d : ℕ) → LoopEnds b o k memory (Some stop) (loop p k n s) → LoopEnds b o k memory (Some stop) (loop p k (n + d) s)
  stays_broken memory stop s n zero ends = subst (λ m. LoopEnds b o k memory (Some stop) (loop p k m s)) (let q : n ≡ n + zero = omega arith in q) ends
  stays_broken memory stop s n (suc d) ends = subst (λ m. LoopEnds b o k memory (Some stop) (loop p k m s)) (let q : suc (n + d) ≡ n + suc d = omega arith in q)
      (still memory stop (n + d) (loop p k (n + d) s) (stays_broken memory stop s n d ends))
