-- A Free loop on all ranks: what it leaves of the partials, the faults, the output and the stop.
use Rattle.std.proofs.Common.{◌≡◌, ◌≢◌, ◌<◌, ⊎_elim, ℕ, zero, suc, ℤ, pos, Bool, true, false, cond, ◌&&◌, ◌==◌, List, [], ◌∷◌, ◌++◌, map, length, get_or, Option, Some, None, IfSome, is_some, refl, sym, ap, ap₂, subst, ◌∙◌, arith}
use Rattle.std.proofs.lemmas.Bool.{ne_eqb, cases_eq, false≢true}
use Rattle.kernel_model.specs.declared.types.faults.KernelFault.{KernelFault}
use Rattle.mesh_decl.specs.declared.owners.Owners.{Owners}
use Rattle.op_num.specs.Reduction.{Reduction, unit_of}
use Rattle.schedule_model.specs.Cells.{Variable, VarCell, Store}
use Rattle.schedule_model.specs.Effects.{Ran, Faulted, Finished}
use Rattle.schedule_model.specs.Kept.{kept, kept_of, OfElements}
use Rattle.schedule_model.specs.Machine.{unit_at, merge_at, is_less}
use Rattle.schedule_model.specs.Program as program
use Rattle.schedule_model.specs.Program.{elements}
use Rattle.schedule_model.specs.Sequential.{Stop}
use Rattle.bound_program.specs.Values.{BoundValue, Free}
use Rattle.bound_program.specs.Fits.{Fits}
use Rattle.run_model.specs.Constants.{ConstantsAreNumbered, no_constant}
use Rattle.run_model.specs.Kernels.{constants}
use Rattle.run_model.specs.Memory.{has_cell}
use Rattle.run_model.specs.Laws.{LoopsAreThere}
use Rattle.run_model.specs.Programs.{item_at, kind_of, loop_of, program_of}
use Rattle.run_model.proofs.Public.{has_var}
use Rattle.run_model.specs.Variables.{of_vars}
use Rattle.bound_plan.specs.Variables.{reduces_at}
use Rattle.rank_state.specs.declared.rank_memory.stop.Stop.{Stop as Recorded}
use Rattle.rank_state.specs.Stops.{stop_in}
use Rattle.chain_model.specs.Chains.{begins}
use Rattle.chain_model.specs.Machine.{ChainState, supplied, exchanged, view, ran, one_run, rank_run, ranks_run}
use Rattle.chain_model.specs.Slices.{slicing_of}
use Rattle.deep_halo.specs.Places.{in_block, all_cells}
use Rattle.deep_halo.specs.Constants.{constants_in}
use Rattle.deep_halo.specs.Running.{StoresStand, AreHeld, Runs}
use Rattle.deep_halo.specs.Loops.{HasConstants}
use Rattle.deep_halo.proofs.chain_ranks.OneElement.{read}
use Rattle.deep_halo.proofs.chain_ranks.Ran.{kept_more}
use Rattle.deep_halo.specs.Stands.{recent}
use Rattle.deep_halo.proofs.Units.{units_before}

-- the loop of a Free item is there
pub free_there : (b : BoundValue) → Fits b → LoopsAreThere → (k s : ℕ) → item_at b k ≡ Free s → s < length b.sites
free_there b fits law k s is = subst (λ n. n < length b.sites) (ap loop_of is) (law b k fits (ap (λ i. program.is_loop (kind_of i)) is))

-- the values of the constants
pub free_constants : (b : BoundValue) (o : Owners) → ConstantsAreNumbered → Fits b → (memory values : List ℤ) (st : ChainState KernelFault) → StoresStand b o memory st
    → values ≡ constants_in b (λ v. read b memory o.ranks (Variable v)) → HasConstants b values st
free_constants b o law fits memory values st stand is = is ∙ same (constants b) (λ j lj.
    let at = (law b fits.constants).cells j lj in
    stand.variables (get_or (constants b) j no_constant) (has_var b (get_or (constants b) j no_constant).variable (get_or (constants b) j no_constant).component at.variable at.component))
  where
    same : (xs : List VarCell) → ((j : ℕ) → j < length xs → read b memory o.ranks (Variable (get_or xs j no_constant)) ≡ st.variables (get_or xs j no_constant))
        → map (λ v. read b memory o.ranks (Variable v)) xs ≡ map st.variables xs
    same [] h = refl
    same (x ∷ xs) h = ap₂ (λ y ys. y ∷ ys) (h 0 (omega arith)) (same xs (λ j lt. h (suc j) (omega arith)))

-- ---- units before the loop

free_reduce : program.Free ≡ program.Reduce → ⊥
free_reduce e = false≢true (sym (ap program.is_free e))

-- all partials are units before a Free item
pub all_units : (b : BoundValue) → Fits b → LoopsAreThere → (k s : ℕ) → item_at b k ≡ Free s → (st : ChainState KernelFault)
    → ((r n : ℕ) (v : VarCell) → recent b k ≢ Some n → st.partials r n v ≡ unit_at (reduces_at b n v))
    → ((r n : ℕ) (v : VarCell) → reduces_at b n v ≡ None → st.partials r n v ≡ pos 0)
    → (r n : ℕ) (v : VarCell) → st.partials r n v ≡ unit_at (reduces_at b n v)
all_units b fits law k s is st others none = units_before b fits law k (λ q. free_reduce (sym (ap kind_of is) ∙ q)) st others none

-- ---- what stays

-- the kept fault is of an item before the next
abbrev pub IsEarly : ℕ → List (Stop KernelFault) → Type 0
IsEarly k faults = IfSome (kept_of None faults) (λ f. f.item < suc k)

early_kept : (k : ℕ) (o : Option (Stop KernelFault)) (x : Stop KernelFault) → IfSome o (λ f. f.item < suc k) → x.item ≡ k → IfSome (kept o x) (λ f. f.item < suc k)
early_kept k None x h e = omega (arith, e)
early_kept k (Some y) x h e = lesser (is_less x y)
  where
    lesser : (t : Bool) → (cond t x y).item < suc k
    lesser true = omega (arith, e)
    lesser false = h

early_push : (k : ℕ) (xs : List (Stop KernelFault)) (x : Stop KernelFault) → IsEarly k xs → x.item ≡ k → IsEarly k (xs ++ x ∷ [])
early_push k xs x h e = subst (λ (o : Option (Stop KernelFault)). IfSome o (λ f. f.item < suc k)) (sym (kept_more None xs x)) (early_kept k (kept_of None xs) x h e)

-- of the fault that is kept and of those that are recorded
pub early_recorded : (k : ℕ) (x : Option Recorded) (faults : List (Stop KernelFault)) → stop_in x ≡ kept_of None faults → IfSome x (λ f. f.item < k) → IsEarly k faults
early_recorded k x faults is h = subst (λ (y : Option (Stop KernelFault)). IfSome y (λ f. f.item < suc k)) is (in_stop x h)
  where
    in_stop : (x : Option Recorded) → IfSome x (λ f. f.item < k) → IfSome (stop_in x) (λ f. f.item < suc k)
    in_stop None h = h
    in_stop (Some f) h = omega (arith, h)

pub early_fault : (k : ℕ) (x : Option Recorded) (faults : List (Stop KernelFault)) → stop_in x ≡ kept_of None faults → IsEarly k faults → IfSome x (λ f. f.item < suc k)
early_fault k x faults is h = in_fault x (subst (λ (y : Option (Stop KernelFault)). IfSome y (λ f. f.item < suc k)) (sym is) h)
  where
    in_fault : (x : Option Recorded) → IfSome (stop_in x) (λ f. f.item < suc k) → IfSome x (λ f. f.item < suc k)
    in_fault None h = h
    in_fault (Some f) h = h

elements_push : (xs : List (Stop KernelFault)) (x : Stop KernelFault) → OfElements xs → (e : ℕ) × (x.element ≡ Some e) → OfElements (xs ++ x ∷ [])
elements_push [] x h e = (e, tt)
elements_push (y ∷ ys) x h e = (h.0, elements_push ys x h.1 e)

either : (P : ChainState KernelFault → Type 0) (t : Bool) (x y : ChainState KernelFault) → P x → P y → P (cond t x y)
either P true x y px py = px
either P false x y px py = py

-- before the loop, with units in the partials
pub started : (b : BoundValue) (o : Owners) (k j s : ℕ) (memory partials : List ℤ) (fault : Option Recorded) (st : ChainState KernelFault)
    → StoresStand b o memory (supplied (slicing_of b o) k st)
    → AreHeld b o j (supplied (slicing_of b o) k st)
    → length partials ≡ all_cells (of_vars b.vars) o.ranks
    → ((r : ℕ) (v : VarCell) (q : Reduction) → r < o.ranks → has_cell b (Variable v) ≡ true → reduces_at b s v ≡ Some q
    → get_or partials (in_block (of_vars b.vars) r (Variable v)) (pos 0) ≡ unit_of q)
    → ((r n : ℕ) (v : VarCell) → st.partials r n v ≡ unit_at (reduces_at b n v))
    → stop_in fault ≡ kept_of None st.faults
    → Runs b o j s memory partials fault (supplied (slicing_of b o) k st)
started b o k j s memory partials fault st stores held count put units kept = record {
  stores = stores;
  held = held;
  amounts = record { count = count; cells = λ r v lr h some. cell r v lr h some (reduces_at b s v) refl };
  kept = either (λ x. stop_in fault ≡ kept_of None x.faults) (begins (program_of b).kind k) (exchanged (slicing_of b o) k st) st kept kept;
}
  where
    cell : (r : ℕ) (v : VarCell) → r < o.ranks → has_cell b (Variable v) ≡ true → is_some (reduces_at b s v) ≡ true → (w : Option Reduction) → reduces_at b s v ≡ w
        → get_or partials (in_block (of_vars b.vars) r (Variable v)) (pos 0) ≡ (supplied (slicing_of b o) k st).partials r s v
    cell r v lr h some None e = absurd (false≢true (sym (ap is_some e) ∙ some))
    cell r v lr h some (Some q) e =
        put r v q lr h e ∙ sym (ap unit_at e)
        ∙ sym (either (λ x. x.partials r s v ≡ unit_at (reduces_at b s v)) (begins (program_of b).kind k) (exchanged (slicing_of b o) k st) st (units r s v) (units r s v))

module _ (b : BoundValue) (o : Owners) (k s : ℕ) (out : List ℕ) where
  -- in the loop s of item k
  pub record IsUnderWay (st : ChainState KernelFault) : Type 0 where
    pub others : (r n : ℕ) (v : VarCell) → n ≢ s → st.partials r n v ≡ unit_at (reduces_at b n v)
    pub none : (r n : ℕ) (v : VarCell) → reduces_at b n v ≡ None → st.partials r n v ≡ pos 0
    pub early : IsEarly k st.faults
    pub elements : OfElements st.faults
    pub output : st.output ≡ out
    pub going : st.stop ≡ None

  pub supplied_stays : (st : ChainState KernelFault) → IsUnderWay st → IsUnderWay (supplied (slicing_of b o) k st)
  supplied_stays st u = either IsUnderWay (begins (program_of b).kind k) (exchanged (slicing_of b o) k st) st
      (record { others = u.others; none = u.none; early = u.early; elements = u.elements; output = u.output; going = u.going }) u

  module _ (is : item_at b k ≡ Free s) where
    at : loop_of (item_at b k) ≡ s
    at = ap loop_of is

    second_false : (t : Bool) (z : Bool) → z ≡ false → (t && z) ≡ false
    second_false true z e = e
    second_false false z e = refl

    keeps_none : (t : Bool) (w : Option Reduction) (x y : ℤ) → w ≡ None → x ≡ pos 0 → cond t (merge_at w x y) x ≡ pos 0
    keeps_none true w x y e h = ap (λ z. merge_at z x y) e ∙ h
    keeps_none false w x y e h = h

    -- the partials after the run of an element
    abbrev merged : (r e m n : ℕ) (t : Store) (st : ChainState KernelFault) → Bool → VarCell → ℤ
    merged r e m n t st z v = cond z
        (λ (x : VarCell). cond ((slicing_of b o).owner ((program_of b).set k) e == r)
        (merge_at (reduces_at b (loop_of (item_at b k)) x) (st.partials r (loop_of (item_at b k)) x) (t (Variable x)))
        (st.partials r (loop_of (item_at b k)) x))
        (st.partials m n) v

    zero_either : (z : Bool) (f g : VarCell → ℤ) (v : VarCell) → f v ≡ pos 0 → g v ≡ pos 0 → cond z f g v ≡ pos 0
    zero_either true f g v hf hg = hf
    zero_either false f g v hf hg = hg

    ran_stays : (r e : ℕ) (x : Ran KernelFault) (st : ChainState KernelFault) → IsUnderWay st → IsUnderWay (ran (slicing_of b o) k r e x st)
    ran_stays r e (Faulted f) st u = either IsUnderWay ((slicing_of b o).owner ((program_of b).set k) e == r)
        (record st { faults = st.faults ++ (record { item = k; element = Some e; fault = f } ∷ []) }) st
        (record {
          others = u.others;
          none = u.none;
          early = early_push k st.faults (record { item = k; element = Some e; fault = f }) u.early refl;
          elements = elements_push st.faults (record { item = k; element = Some e; fault = f }) u.elements (e, refl);
          output = u.output;
          going = u.going;
        }) u
    ran_stays r e (Finished t) st u = record {
      others = λ m n v ne. ap (λ (z : Bool). merged r e m n t st z v)
          (second_false (m == r) (n == loop_of (item_at b k)) (ne_eqb n (loop_of (item_at b k)) (λ q. ne (q ∙ at))))
          ∙ u.others m n v ne;
      none = λ m n v h. ⊎_elim
          (λ (q : n ≡ loop_of (item_at b k)).
          let here : reduces_at b (loop_of (item_at b k)) v ≡ None = ap (λ j. reduces_at b j v) (sym q) ∙ h in
          zero_either ((m == r) && (n == loop_of (item_at b k)))
          (λ (x : VarCell). cond ((slicing_of b o).owner ((program_of b).set k) e == r)
          (merge_at (reduces_at b (loop_of (item_at b k)) x) (st.partials r (loop_of (item_at b k)) x) (t (Variable x)))
          (st.partials r (loop_of (item_at b k)) x))
          (st.partials m n) v
          (keeps_none ((slicing_of b o).owner ((program_of b).set k) e == r) (reduces_at b (loop_of (item_at b k)) v)
          (st.partials r (loop_of (item_at b k)) v) (t (Variable v)) here (u.none r (loop_of (item_at b k)) v here))
          (u.none m n v h))
          (λ (ne : n ≢ loop_of (item_at b k)). ap (λ (z : Bool). merged r e m n t st z v)
          (second_false (m == r) (n == loop_of (item_at b k)) (ne_eqb n (loop_of (item_at b k)) ne))
          ∙ u.none m n v h)
          (cases_eq n (loop_of (item_at b k)));
      early = u.early;
      elements = u.elements;
      output = u.output;
      going = u.going;
    }

    one_stays : (r e : ℕ) (st : ChainState KernelFault) → IsUnderWay st → IsUnderWay (one_run (slicing_of b o) k r e st)
    one_stays r e st u = either IsUnderWay ((slicing_of b o).executes k r e)
        (ran (slicing_of b o) k r e ((program_of b).run k e (view (slicing_of b o) k r st)) st) st
        (ran_stays r e ((program_of b).run k e (view (slicing_of b o) k r st)) st u) u

    rank_stays : (r n : ℕ) (st : ChainState KernelFault) → IsUnderWay st → IsUnderWay (rank_run (slicing_of b o) k r n st)
    rank_stays r zero st u = u
    rank_stays r (suc n) st u = one_stays r n (rank_run (slicing_of b o) k r n st) (rank_stays r n st u)

    pub ranks_stay : (n : ℕ) (st : ChainState KernelFault) → IsUnderWay st → IsUnderWay (ranks_run (slicing_of b o) k n st)
    ranks_stay zero st u = u
    ranks_stay (suc n) st u = rank_stays n (elements (program_of b) k) (ranks_run (slicing_of b o) k n st) (ranks_stay n st u)
