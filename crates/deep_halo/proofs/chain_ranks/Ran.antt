-- The state after an element on a rank.
use Rattle.std.proofs.Common.{◌≡◌, ◌≢◌, ◌<◌, ⊎_elim, ℕ, ℤ, pos, Bool, true, false, cond, ◌&&◌, nat_eq, List, [], ◌∷◌, ◌++◌, length, get_or, Option, Some, None, is_some, refl, sym, ap, subst, ◌∙◌, arith}
use Rattle.std.specs.Prelude.{◌==◌}
use Rattle.std.proofs.lemmas.Bool.{eq-eqb, eqb-true, ne_eqb, cases_eq}
use Rattle.std.proofs.lemmas.Option.{same_Some}
use Rattle.kernel_model.specs.declared.types.faults.KernelFault.{KernelFault}
use Rattle.mesh_decl.specs.declared.owners.Owners.{Owners}
use Rattle.mesh_decl.specs.Mesh.{IsInRange, set_size, dat_set, dat_count}
use Rattle.mesh_decl.specs.Owners.{AreOwners, owner_of}
use Rattle.schedule_model.specs.Cells.{Variable, VarCell, Store}
use Rattle.schedule_model.specs.Effects.{Ran, Faulted, Finished}
use Rattle.schedule_model.specs.Sequential.{Stop}
use Rattle.schedule_model.specs.Machine.{merge_at}
use Rattle.schedule_model.specs.Kept.{kept, kept_of}
use Rattle.bound_program.specs.Values.{BoundValue}
use Rattle.bound_program.specs.Fits.{Fits, site_at}
use Rattle.run_model.specs.Memory.{has_cell}
use Rattle.run_model.specs.Programs.{item_at, loop_of}
use Rattle.run_model.specs.Laws.{WindowsAreReached}
use Rattle.run_model.specs.Variables.{of_vars}
use Rattle.rank_state.specs.Machine.{noted}
use Rattle.rank_state.specs.declared.rank_memory.stop.Stop.{Stop as Told}
use Rattle.rank_state.specs.Stops.{stop_in}
use Rattle.bound_plan.specs.Variables.{reduces_at}
use Rattle.chain_model.specs.Machine.{ChainState, replaced, left_in, pair_values, view, ran}
use Rattle.chain_model.specs.Slices.{needs, slicing_of}
use Rattle.deep_halo.specs.Placed.{LeavesPlaced, EndsPlaced}
use Rattle.deep_halo.specs.Places.{in_block, stands_at}
use Rattle.deep_halo.specs.Cells.{BlocksHold}
use Rattle.deep_halo.specs.Globals.{with_globals}
use Rattle.deep_halo.specs.Dropping.{dropped}
use Rattle.deep_halo.specs.Merging.{merged_all}
use Rattle.deep_halo.specs.Running.{StoresStand, Runs}
use Rattle.deep_halo.proofs.chain_ranks.OneElement.{read, given_dat, given_variable, pair_after, variable_after, amount_after}
use Rattle.lemmas.proofs.Truth.{cases_bool}

-- one fault more is kept
pub kept_more : {F : Type 0} (o : Option (Stop F)) (xs : List (Stop F)) (x : Stop F) → kept_of o (xs ++ x ∷ []) ≡ kept (kept_of o xs) x
kept_more o [] x = refl
kept_more o (y ∷ ys) x = kept_more (kept o y) ys x

held_still : (u : ℕ → ℤ) (x : Option (ℕ → ℤ)) → is_some (replaced u x) ≡ is_some x
held_still u None = refl
held_still u (Some v) = refl

module _ (b : BoundValue) (o : Owners) (fits : Fits b) (owners : AreOwners b.mesh o) (ranges : IsInRange b.mesh) (reach : WindowsAreReached)
    (k s e r j : ℕ) (ls : s < length b.sites) (at : loop_of (item_at b k) ≡ s) (le : e < set_size b.mesh (site_at b s).set) (lr : r < o.ranks)
    (st : ChainState KernelFault) (first given partials : List ℤ) (fault : Option Told) (runs : Runs b o j s first partials fault st)
    (put : BlocksHold b o.ranks given (with_globals o.ranks r (site_at b s).args (site_at b s).args (read b first))) where
  -- the blocks are those of the stores still
  pub given_stand : StoresStand b o given st
  given_stand = record {
    count = put.count;
    pairs = λ m c lm h. given_dat b o fits owners ranges reach k s e r ls at le lr st first given runs.stores put m c (omega (arith, lm)) h ∙ runs.stores.pairs m c lm h;
    variables = λ v h. given_variable b o fits owners ranges reach k s e r ls at le lr st first given runs.stores put v h ∙ runs.stores.variables v h;
  }

  -- ---- after a fault

  abbrev noted_as : KernelFault → Stop KernelFault
  noted_as f = record { item = k; element = Some e; fault = f }

  with_fault : (own : Bool) (f : KernelFault) (told : Option Told) → stop_in told ≡ cond own (noted k e (Some f) (stop_in fault)) (stop_in fault)
      → Runs b o j s given partials told (cond own (record st { faults = st.faults ++ (noted_as f ∷ []) }) st)
  with_fault true f told is = record {
    stores = record { count = given_stand.count; pairs = given_stand.pairs; variables = given_stand.variables };
    held = runs.held;
    amounts = record { count = runs.amounts.count; cells = runs.amounts.cells };
    kept = is ∙ ap (λ x. kept x (noted_as f)) runs.kept ∙ sym (kept_more None st.faults (noted_as f));
  }
  with_fault false f told is = record {
    stores = given_stand;
    held = runs.held;
    amounts = runs.amounts;
    kept = is ∙ runs.kept;
  }

  pub ran_faulted : (f : KernelFault) (told : Option Told)
      → stop_in told ≡ cond (nat_eq (owner_of o (site_at b s).set e) r) (noted k e (Some f) (stop_in fault)) (stop_in fault)
      → Runs b o j s given partials told (ran (slicing_of b o) k r e (Faulted f) st)
  ran_faulted f told is =
      subst (λ n. Runs b o j s given partials told (cond (owner_of o (site_at b n).set e == r) (record st { faults = st.faults ++ (noted_as f ∷ []) }) st)) (sym at)
      (with_fault (nat_eq (owner_of o (site_at b s).set e) r) f told is)

  -- ---- without one

  module _ (left last sums : List ℤ) (t : Store) (leaves : LeavesPlaced b (site_at b s).args e (stands_at b o (Some r)) given left (view (slicing_of b o) k r st) t)
      (drop : BlocksHold b o.ranks last (dropped b o j r e (site_at b s).args (read b left)))
      (merge : BlocksHold (of_vars b.vars) o.ranks sums (cond (nat_eq (owner_of o (site_at b s).set e) r)
      (merged_all r (site_at b s).args (site_at b s).args (read b left) (read (of_vars b.vars) partials)) (read (of_vars b.vars) partials))) where
    held_after : (m d y : ℕ) → m < o.ranks → d < dat_count b.mesh → y < set_size b.mesh (dat_set b.mesh d)
        → is_some (cond (nat_eq m r) (left_in t (st.stores r)) (st.stores m) d y) ≡ needs b o j m d y
    held_after m d y lm ld ly = ⊎_elim
        (λ (q : m ≡ r).
        ap (λ (z : Bool). is_some (cond z (left_in t (st.stores r)) (st.stores m) d y)) (eq-eqb m r q) ∙ held_still (pair_values t d y) (st.stores r d y)
        ∙ ap (λ x. is_some (st.stores x d y)) (sym q) ∙ runs.held m d y lm ld ly)
        (λ (q : m ≢ r). ap (λ (z : Bool). is_some (cond z (left_in t (st.stores r)) (st.stores m) d y)) (ne_eqb m r q) ∙ runs.held m d y lm ld ly)
        (cases_eq m r)

    -- what the machine makes of a partial, where the loop's number is n
    abbrev amount : ℕ → ℕ → VarCell → ℤ
    amount n m v = cond (nat_eq m r && nat_eq s n)
        (λ (x : VarCell). cond (nat_eq (owner_of o (site_at b n).set e) r) (merge_at (reduces_at b n x) (st.partials r n x) (t (Variable x))) (st.partials r n x))
        (st.partials m s) v

    amounts_are : (own : Bool) → BlocksHold (of_vars b.vars) o.ranks sums (cond own
        (merged_all r (site_at b s).args (site_at b s).args (read b left) (read (of_vars b.vars) partials)) (read (of_vars b.vars) partials))
        → (m : ℕ) (v : VarCell) → m < o.ranks → has_cell b (Variable v) ≡ true → is_some (reduces_at b s v) ≡ true
        → get_or sums (in_block (of_vars b.vars) m (Variable v)) (pos 0)
        ≡ cond (nat_eq m r) (λ (x : VarCell). cond own (merge_at (reduces_at b s x) (st.partials r s x) (t (Variable x))) (st.partials r s x)) (st.partials m s) v
    amounts_are true holds m v lm h some =
        holds.cells m (Variable v) (omega (arith, lm)) h
        ∙ amount_after b o fits owners ranges reach k s e r ls at le lr st first given runs.stores put left t leaves (read (of_vars b.vars) partials) m v h some
        ∙ ⊎_elim
        (λ (q : nat_eq m r ≡ true).
        ap (λ z. cond z (merge_at (reduces_at b s v) (read (of_vars b.vars) partials m (Variable v)) (t (Variable v))) (read (of_vars b.vars) partials m (Variable v))) q
        ∙ ap (λ z. merge_at (reduces_at b s v) z (t (Variable v))) (runs.amounts.cells m v lm h some ∙ ap (λ x. st.partials x s v) (eqb-true m r q))
        ∙ sym (ap (λ (z : Bool). cond z (λ (x : VarCell). merge_at (reduces_at b s x) (st.partials r s x) (t (Variable x))) (st.partials m s) v) q))
        (λ (q : nat_eq m r ≡ false).
        ap (λ z. cond z (merge_at (reduces_at b s v) (read (of_vars b.vars) partials m (Variable v)) (t (Variable v))) (read (of_vars b.vars) partials m (Variable v))) q
        ∙ runs.amounts.cells m v lm h some
        ∙ sym (ap (λ (z : Bool). cond z (λ (x : VarCell). merge_at (reduces_at b s x) (st.partials r s x) (t (Variable x))) (st.partials m s) v) q))
        (cases_bool (nat_eq m r))
    amounts_are false holds m v lm h some =
        holds.cells m (Variable v) (omega (arith, lm)) h ∙ runs.amounts.cells m v lm h some
        ∙ ⊎_elim
        (λ (q : nat_eq m r ≡ true).
        ap (λ x. st.partials x s v) (eqb-true m r q) ∙ sym (ap (λ (z : Bool). cond z (λ (x : VarCell). st.partials r s x) (st.partials m s) v) q))
        (λ (q : nat_eq m r ≡ false). sym (ap (λ (z : Bool). cond z (λ (x : VarCell). st.partials r s x) (st.partials m s) v) q))
        (cases_bool (nat_eq m r))

    amount_is : (m : ℕ) (v : VarCell) → m < o.ranks → has_cell b (Variable v) ≡ true → is_some (reduces_at b s v) ≡ true
        → get_or sums (in_block (of_vars b.vars) m (Variable v)) (pos 0) ≡ amount (loop_of (item_at b k)) m v
    amount_is m v lm h some =
        amounts_are (nat_eq (owner_of o (site_at b s).set e) r) merge m v lm h some
        ∙ ap (λ (z : Bool). cond z (λ (x : VarCell). cond (nat_eq (owner_of o (site_at b s).set e) r)
        (merge_at (reduces_at b s x) (st.partials r s x) (t (Variable x))) (st.partials r s x)) (st.partials m s) v)
        (sym (ap (λ z. nat_eq m r && z) (eq-eqb s s refl) ∙ and_yes (nat_eq m r)))
        ∙ ap (λ n. amount n m v) (sym at)
      where
        and_yes : (x : Bool) → (x && true) ≡ x
        and_yes true = refl
        and_yes false = refl

    pub ran_finished : Runs b o j s last sums fault (ran (slicing_of b o) k r e (Finished t) st)
    ran_finished = record {
      stores = record {
        count = drop.count;
        pairs = λ m c lm h. pair_after b o fits owners ranges reach k s e r ls at le lr st first given runs.stores put left t leaves j runs.held last drop m c lm h;
        variables = λ v h. variable_after b o fits owners ranges reach k s e r ls at le lr st first given runs.stores put left t leaves j runs.held last drop v h;
      };
      held = held_after;
      amounts = record { count = merge.count; cells = amount_is };
      kept = runs.kept;
    }

  -- ---- as the run ends

  pub as_faulted : (x : Ran KernelFault) (left : List ℤ) (broken : Option KernelFault) (f : KernelFault) (told : Option Told)
      → EndsPlaced b (site_at b s).args e (stands_at b o (Some r)) given left (view (slicing_of b o) k r st) broken x → broken ≡ Some f
      → stop_in told ≡ cond (nat_eq (owner_of o (site_at b s).set e) r) (noted k e (Some f) (stop_in fault)) (stop_in fault)
      → Runs b o j s left partials told (ran (slicing_of b o) k r e x st)
  as_faulted (Faulted g) left broken f told ends some is =
      let same : f ≡ g = same_Some f g (sym some ∙ ends.0) in
      subst (λ (y : KernelFault). Runs b o j s left partials told (ran (slicing_of b o) k r e (Faulted y) st)) same
      (subst (λ (l : List ℤ). Runs b o j s l partials told (ran (slicing_of b o) k r e (Faulted f) st)) (sym ends.1) (ran_faulted f told is))
  as_faulted (Finished t) left broken f told ends some is = let z : ⊥ = (let q : None ≡ Some f = sym ends.0 ∙ some in cc) in absurd z

  pub as_finished : (x : Ran KernelFault) (left last sums : List ℤ) (broken : Option KernelFault)
      → EndsPlaced b (site_at b s).args e (stands_at b o (Some r)) given left (view (slicing_of b o) k r st) broken x → broken ≡ None
      → BlocksHold b o.ranks last (dropped b o j r e (site_at b s).args (read b left))
      → BlocksHold (of_vars b.vars) o.ranks sums (cond (nat_eq (owner_of o (site_at b s).set e) r)
      (merged_all r (site_at b s).args (site_at b s).args (read b left) (read (of_vars b.vars) partials)) (read (of_vars b.vars) partials))
      → Runs b o j s last sums fault (ran (slicing_of b o) k r e x st)
  as_finished (Finished t) left last sums broken ends none drop merge = ran_finished left last sums t ends.1 drop merge
  as_finished (Faulted g) left last sums broken ends none drop merge = let z : ⊥ = (let q : None ≡ Some g = sym none ∙ ends.0 in cc) in absurd z
