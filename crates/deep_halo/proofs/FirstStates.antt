-- The state before the first item, as the machine of chains has it.
use Rattle.std.proofs.Common.{◌≡◌, ◌<◌, ◌≤◌, ◌+◌, ◌-◌, ◌*◌, ℕ, suc, ℤ, pos, Bool, true, false, cond, ◌&&◌, nat_eq, nat_lt, List, [], length, Some, None, is_some, refl, sym, ap, ap₂, ◌∙◌, ◌⊎◌, inl, inr, ◌≢◌, Vec, Global, arith}
use Rattle.std.proofs.Math.Nat.{mul_comm}
use Rattle.std.specs.Prelude.{◌==◌}
use Rattle.std.proofs.lemmas.Bool.{eq-eqb, ne_eqb, cases_eq, lt-ltb, false≢true}
use Rattle.std.proofs.lemmas.Option.{none-some}
use Rattle.mesh_decl.specs.declared.owners.Owners.{Owners}
use Rattle.mesh_decl.specs.Mesh.{dat_count, dat_set, set_size}
use Rattle.mesh_decl.specs.Owners.{owner_of}
use Rattle.schedule_model.specs.Cells.{Data, Variable, DatCell}
use Rattle.schedule_model.specs.Machine.{unit_at}
use Rattle.bound_program.specs.Values.{BoundValue}
use Rattle.run_model.specs.Memory.{has_cell, memory_length}
use Rattle.run_model.specs.Programs.{first_values}
use Rattle.run_model.proofs.Public.{dat_there}
use Rattle.run_model.specs.Variables.{of_vars}
use Rattle.chain_model.specs.Slicing.{pair_owner}
use Rattle.chain_model.specs.Machine.{value_in, pair_values, chain_start}
use Rattle.chain_model.specs.Slices.{slicing_of}
use Rattle.deep_halo.specs.Places.{all_cells}
use Rattle.deep_halo.specs.Layouts.{IsLayout}
use Rattle.deep_halo.specs.declared.chain_memory.layouts.Layout.{Layout}
use Rattle.deep_halo.specs.Cells.{BlocksHold, first_in_last, taken_by_owners, is_earlier}
use Rattle.deep_halo.specs.Running.{StoresStand}
use Rattle.deep_halo.specs.Stands.{Stands}
use Rattle.deep_halo.proofs.HostVariables.{variables_long}

-- a pair is there where it passes a test, and has zeros elsewhere
is_there : (t : Bool) (u : ℕ → ℤ) → is_some (cond t (Some u) None) ≡ t
is_there true u = refl
is_there false u = refl

module _ (b : BoundValue) (o : Owners) where
  -- a rank's partials are as many as the variables' cells
  width_is : (l : Layout) → IsLayout b l → l.cells - l.dats_end ≡ memory_length (of_vars b.vars)
  width_is l is = omega (arith, is.cells, is.dats.ends, variables_long b o)

  -- the dats end within a block
  pub dats_first : (l : Layout) → IsLayout b l → l.dats_end ≤ l.cells
  dats_first l is = omega (arith, is.cells, is.dats.ends, variables_long b o)

  -- how many cells the partials have
  pub partials_long : (l : Layout) (count : ℕ) → IsLayout b l → count ≡ (l.cells - l.dats_end) * (o.ranks + 1) → count ≡ all_cells (of_vars b.vars) o.ranks
  partials_long l count is all =
      all ∙ ap (λ w. w * (o.ranks + 1)) (width_is l is) ∙ mul_comm (memory_length (of_vars b.vars)) (o.ranks + 1)
      ∙ ap (λ k. k * memory_length (of_vars b.vars)) (let q : o.ranks + 1 ≡ suc o.ranks = omega arith in q)

  module _ (memory : List ℤ) (holds : BlocksHold b o.ranks memory (taken_by_owners b o (is_earlier (dat_count b.mesh)) (first_in_last b o.ranks))) where
    -- each owner has the first values of its pairs, and there are zeros elsewhere
    first_pair : (r : ℕ) (c : DatCell) → r < o.ranks → has_cell b (Data c) ≡ true
        → taken_by_owners b o (is_earlier (dat_count b.mesh)) (first_in_last b o.ranks) r (Data c) ≡ value_in
        (cond (pair_owner (slicing_of b o) c.dat c.element == r) (Some (pair_values (first_values b) c.dat c.element)) None) c.component
    first_pair r c lr h =
        let d = dat_there b c h in
        let w = owner_of o (dat_set b.mesh c.dat) c.element in
        let owner : pair_owner (slicing_of b o) c.dat c.element ≡ w = ap (λ t. cond t w 0) (lt-ltb c.element (set_size b.mesh (dat_set b.mesh c.dat)) d.element) in
        let other : first_in_last b o.ranks r (Data c) ≡ pos 0 = ap (λ t. cond t (first_values b (Data c)) (pos 0)) (ne_eqb r o.ranks (λ q. let z : ⊥ = omega (arith, q, lr) in z)) in
        let last : first_in_last b o.ranks o.ranks (Data c) ≡ first_values b (Data c) = ap (λ t. cond t (first_values b (Data c)) (pos 0)) (eq-eqb o.ranks o.ranks refl) in
        ap₂ (λ x y. cond (nat_eq r w && nat_lt c.dat (dat_count b.mesh)) x y) last other
        ∙ ap (λ t. cond (nat_eq r w && t) (first_values b (Data c)) (pos 0)) (lt-ltb c.dat (dat_count b.mesh) d.dat)
        ∙ by w (cases_eq r w)
        ∙ sym (ap (λ k. value_in (cond (k == r) (Some (pair_values (first_values b) c.dat c.element)) None) c.component) owner)
      where
        by : (w : ℕ) → (r ≡ w) ⊎ (r ≢ w) → cond (nat_eq r w && true) (first_values b (Data c)) (pos 0) ≡ value_in (cond (w == r) (Some (pair_values (first_values b) c.dat c.element)) None) c.component
        by w (inl e) =
            ap (λ t. cond (t && true) (first_values b (Data c)) (pos 0)) (eq-eqb r w e)
            ∙ sym (ap (λ (t : Bool). value_in (cond t (Some (pair_values (first_values b) c.dat c.element)) None) c.component) (eq-eqb w r (sym e)))
        by w (inr n) =
            ap (λ t. cond (t && true) (first_values b (Data c)) (pos 0)) (ne_eqb r w n)
            ∙ sym (ap (λ (t : Bool). value_in (cond t (Some (pair_values (first_values b) c.dat c.element)) None) c.component) (ne_eqb w r (λ q. n (sym q))))

    pub first_stores : StoresStand b o memory (chain_start (slicing_of b o))
    first_stores = record {
      count = holds.count;
      pairs = λ r c lr h. holds.cells r (Data c) (omega (arith, lr)) h ∙ first_pair r c lr h;
      variables = λ v h. holds.cells o.ranks (Variable v) (let q : o.ranks ≤ o.ranks = omega arith in q) h
          ∙ ap (λ t. cond t (first_values b (Variable v)) (pos 0)) (eq-eqb o.ranks o.ranks refl);
    }

  -- the machine stands at its start
  pub first_stands : (memory partials : Vec ℤ Global) (out : Vec ℕ Global) → StoresStand b o memory.items (chain_start (slicing_of b o))
      → length partials.items ≡ all_cells (of_vars b.vars) o.ranks → out.items ≡ []
      → Stands b o 0 (record { memory = memory; partials = partials; fault = None; begun = None; out = out }) (chain_start (slicing_of b o))
  first_stands memory partials out stores count empty = record {
    stores = stores;
    held = λ r lr d y ld ly. is_there (pair_owner (slicing_of b o) d y == r) (pair_values (first_values b) d y);
    begun = tt;
    chain = λ h. absurd (false≢true h);
    count = count;
    amounts = λ s h. absurd (none-some s h);
    others = λ r s v ne. refl;
    none = λ r s v e. ap unit_at e;
    kept = refl;
    early = tt;
    elements = tt;
    output = sym empty;
    going = refl;
  }
