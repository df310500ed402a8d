-- The partials of a loop go into the variables, as the machine of chains has it.
use Rattle.std.proofs.Common.{◌≡◌, ◌≢◌, ◌<◌, ◌≤◌, ⊎_elim, ℕ, zero, suc, ℤ, Bool, true, false, cond, ◌&&◌, nat_eq, List, length, Option, Some, None, IfSome, is_some, refl, sym, ap, ap₂, subst, ◌∙◌, arith}
use Rattle.std.specs.List.{list_any}
use Rattle.std.proofs.lemmas.Bool.{eq-eqb, ne_eqb, cases_eq, lt-ltb}
use Rattle.kernel_model.specs.declared.types.faults.KernelFault.{KernelFault}
use Rattle.mesh_decl.specs.declared.owners.Owners.{Owners}
use Rattle.op_num.specs.Reduction.{Reduction}
use Rattle.schedule_model.specs.Cells.{Data, Variable, VarCell}
use Rattle.schedule_model.specs.Machine.{unit_at, merge_at}
use Rattle.schedule_model.specs.Program as program
use Rattle.bound_program.specs.Values.{BoundValue, ItemValue, Free, Reduce, Ordered, Host}
use Rattle.bound_program.specs.Fits.{Fits, site_at}
use Rattle.run_model.specs.Memory.{has_cell}
use Rattle.run_model.specs.Arguments.{var_width}
use Rattle.run_model.specs.Programs.{item_at, kind_of, loop_of}
use Rattle.run_model.specs.Laws.{LoopsAreThere}
use Rattle.run_model.proofs.Public.{var_there}
use Rattle.run_model.specs.Variables.{of_vars}
use Rattle.bound_plan.specs.Variables.{reduced_by, reduces_at}
use Rattle.bound_plan.proofs.Public.{reduce_after, first_item}
use Rattle.rank_state.specs.declared.rank_memory.stop.Stop.{Stop}
use Rattle.chain_model.specs.Machine.{ChainState, merged_over, reduced}
use Rattle.chain_model.specs.Slices.{slicing_of}
use Rattle.deep_halo.specs.Cells.{BlocksHold}
use Rattle.deep_halo.specs.Globals.{is_on}
use Rattle.deep_halo.specs.Merging.{changed_all}
use Rattle.deep_halo.specs.Running.{StoresStand, PartialsStand}
use Rattle.deep_halo.specs.Partials.{sums_of}
use Rattle.deep_halo.proofs.chain_ranks.OneElement.{read}
use Rattle.deep_halo.proofs.chain_ranks.Summing.{merged_plain, on_argument}
use Rattle.deep_halo.specs.Stands.{free_loop, recent}

-- the loop of a Reduce is that of the Free item before it
free_is : (x : ItemValue) → kind_of x ≡ program.Free → free_loop x ≡ Some (loop_of x)
free_is (Free s) h = refl
free_is (Reduce s) h = let z : ⊥ = cc in absurd z
free_is (Ordered s) h = let z : ⊥ = cc in absurd z
free_is (Host a) h = let z : ⊥ = cc in absurd z

pub loop_before : (b : BoundValue) → Fits b → (k s : ℕ) → item_at b k ≡ Reduce s → recent b k ≡ Some s
loop_before b fits zero s is = absurd (first_item b b.trace fits.items (ap kind_of is))
loop_before b fits (suc k) s is =
    let w = reduce_after b None b.trace k fits.items (ap kind_of is) in
    free_is (item_at b k) w.0 ∙ ap Some (sym w.1 ∙ ap loop_of is)

-- so it is there
pub loop_there : (b : BoundValue) → Fits b → LoopsAreThere → (k s : ℕ) → item_at b k ≡ Reduce s → s < length b.sites
loop_there b fits law zero s is = absurd (first_item b b.trace fits.items (ap kind_of is))
loop_there b fits law (suc k) s is =
    let w = reduce_after b None b.trace k fits.items (ap kind_of is) in
    subst (λ n. n < length b.sites) (sym w.1 ∙ ap loop_of is) (law b k fits (ap program.is_loop w.0))

-- partials that are the same merge the same
merged_same : (how : Option Reduction) (p q : ℕ → ℤ) (n : ℕ) (z : ℤ) → ((r : ℕ) → r < n → p r ≡ q r) → merged_over how p n z ≡ merged_over how q n z
merged_same how p q zero z h = refl
merged_same how p q (suc n) z h = ap₂ (merge_at how) (merged_same how p q n z (λ r lt. h r (omega arith))) (h n (omega arith))

module _ (b : BoundValue) (o : Owners) (fits : Fits b) (k s : ℕ) (is : item_at b k ≡ Reduce s) (ls : s < length b.sites) (st : ChainState KernelFault)
    (old new partials : List ℤ) (stand : StoresStand b o old st) (amounts : PartialsStand b o s partials st)
    (sums : BlocksHold b o.ranks new (changed_all (sums_of o.ranks (read (of_vars b.vars) partials)) o.ranks (site_at b s).args (site_at b s).args (read b old))) where
  at : loop_of (item_at b k) ≡ s
  at = ap loop_of is

  reduces_there : (v : VarCell) → has_cell b (Variable v) ≡ true → reduces_at b s v ≡ reduced_by (site_at b s).args v.variable
  reduces_there v h = ap (λ t. cond t (reduced_by (site_at b s).args v.variable) None) (lt-ltb v.component (var_width b v.variable) (var_there b v h).component)

  same_cond : (t : Bool) (z : ℤ) → cond t z z ≡ z
  same_cond true z = refl
  same_cond false z = refl

  variable : (v : VarCell) → has_cell b (Variable v) ≡ true → (x : Option Reduction) → reduces_at b s v ≡ x
      → read b new o.ranks (Variable v) ≡ merged_over x (λ r. st.partials r s v) o.ranks (st.variables v)
  variable v h None e =
      let none : reduced_by (site_at b s).args v.variable ≡ None = sym (reduces_there v h) ∙ e in
      let old_value = read b old o.ranks (Variable v) in
      sums.cells o.ranks (Variable v) (let q : o.ranks ≤ o.ranks = omega arith in q) h
      ∙ ap (λ t. cond (nat_eq o.ranks o.ranks && list_any (is_on v.variable) (site_at b s).args) (merged_over t (λ r. read (of_vars b.vars) partials r (Variable v)) o.ranks old_value) old_value) none
      ∙ ap (λ t. cond (nat_eq o.ranks o.ranks && list_any (is_on v.variable) (site_at b s).args) t old_value) (merged_plain (λ r. read (of_vars b.vars) partials r (Variable v)) o.ranks old_value)
      ∙ same_cond (nat_eq o.ranks o.ranks && list_any (is_on v.variable) (site_at b s).args) old_value
      ∙ stand.variables v h ∙ sym (merged_plain (λ r. st.partials r s v) o.ranks (st.variables v))
  variable v h (Some q) e =
      let w = on_argument b fits s ls v q e in
      let old_value = read b old o.ranks (Variable v) in
      sums.cells o.ranks (Variable v) (let z : o.ranks ≤ o.ranks = omega arith in z) h
      ∙ ap (λ t. cond t (merged_over (reduced_by (site_at b s).args v.variable) (λ r. read (of_vars b.vars) partials r (Variable v)) o.ranks old_value) old_value)
      (ap₂ (λ x y. x && y) (eq-eqb o.ranks o.ranks refl) w.0)
      ∙ ap₂ (λ t z. merged_over t (λ r. read (of_vars b.vars) partials r (Variable v)) o.ranks z) w.1 (stand.variables v h)
      ∙ merged_same (Some q) (λ r. read (of_vars b.vars) partials r (Variable v)) (λ r. st.partials r s v) o.ranks (st.variables v)
      (λ r lr. amounts.cells r v lr h (ap is_some e))

  pub reduced_stores : StoresStand b o new (reduced (slicing_of b o) k st)
  reduced_stores = record {
    count = sums.count;
    pairs = λ r c lr h. sums.cells r (Data c) (omega (arith, lr)) h ∙ stand.pairs r c lr h;
    variables = λ v h. variable v h (reduces_at b s v) refl
        ∙ ap (λ n. merged_over (reduces_at b n v) (λ r. st.partials r n v) o.ranks (st.variables v)) (sym at);
  }

  -- afterwards there are units
  pub reduced_units : ((r n : ℕ) (v : VarCell) → n ≢ s → st.partials r n v ≡ unit_at (reduces_at b n v))
      → (r n : ℕ) (v : VarCell) → (reduced (slicing_of b o) k st).partials r n v ≡ unit_at (reduces_at b n v)
  reduced_units others r n v = ⊎_elim
      (λ (e : n ≡ loop_of (item_at b k)). ap (λ (t : Bool). cond t (unit_at (reduces_at b n v)) (st.partials r n v)) (eq-eqb n (loop_of (item_at b k)) e))
      (λ (e : n ≢ loop_of (item_at b k)). ap (λ (t : Bool). cond t (unit_at (reduces_at b n v)) (st.partials r n v)) (ne_eqb n (loop_of (item_at b k)) e)
      ∙ others r n v (λ q. e (q ∙ sym at)))
      (cases_eq n (loop_of (item_at b k)))

-- faults of items before one are of items before the next
pub early_more : (k : ℕ) (x : Option Stop) → IfSome x (λ f. f.item < k) → IfSome x (λ f. f.item < suc k)
early_more k None h = h
early_more k (Some f) h = omega (arith, h)
