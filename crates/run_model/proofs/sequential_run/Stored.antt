-- Arrays with other values in a variable's array hold the store with those values in the variable.
use Rattle.std.proofs.Common.{◌≡◌, ◌<◌, ℕ, ℤ, pos, Bool, true, false, List, [], length, get_or, set, replicate, refl, sym, ap, ◌∙◌, subst, ⊎_elim, arith}
use Rattle.std.specs.Prelude.{◌&&◌, nat_eq}
use Rattle.std.proofs.lemmas.Bool.{cases_eq, cases_Bool, cond-true, cond-false, eq-eqb, eqb-true, and_parts, and_from}
use Rattle.std.proofs.lemmas.List.{length-set, length-replicate, get_or-set_same, get_or-set_other, get_or-replicate}
use Rattle.kernel_model.specs.Meaning.{cell}
use Rattle.schedule_model.specs.Cells.{Cell, Data, Variable, VarCell, Store}
use Rattle.schedule_model.specs.Sequential.{with_variables}
use Rattle.bound_program.specs.Values.{BoundValue}
use Rattle.bound_program.specs.Fits.{var_at}
use Rattle.run_model.specs.Hosts.{with_cell, with_zeros, variables_of}
use Rattle.run_model.specs.Arrays.{Arrays, array_of}
use Rattle.run_model.specs.Holds.{IsCell, array_with, index_of, Holds}

-- ---- another array of a variable

module _ (b : BoundValue) (l : Arrays) (s : Store) (h : Holds b l s) (v : ℕ) (lv : v < length b.vars)
    (new : List ℤ) (long : length new ≡ length (var_at b v).start) (vars : VarCell → ℤ)
    (own : (i : ℕ) → i < length (var_at b v).start → get_or new i (pos 0) ≡ vars (record { variable = v; component = i }))
    (others : (w : VarCell) → (w.variable ≡ v → ⊥) → vars w ≡ s (Variable w)) where
  same_array : get_or (set l (array_of b v) new) (array_of b v) [] ≡ new
  same_array = get_or-set_same l (array_of b v) new [] (omega (arith, lv, h.count))

  other_array : (k : ℕ) → (k ≡ array_of b v → ⊥) → get_or (set l (array_of b v) new) k [] ≡ get_or l k []
  other_array k other = get_or-set_other l (array_of b v) k new [] other

  value_now : (c : Cell) → IsCell b c → cell (set l (array_of b v) new) (array_with b c) (index_of b c) ≡ with_variables vars s c
  value_now (Data c) here =
      ap (λ k. get_or k (index_of b (Data c)) (pos 0)) (other_array c.dat (λ e. omega (arith, e, here.0))) ∙ h.values (Data c) here
  value_now (Variable w) here = ⊎_elim
      (λ (e : w.variable ≡ v).
      ap (λ k. get_or (get_or (set l (array_of b v) new) (array_of b k) []) w.component (pos 0)) e ∙ ap (λ k. get_or k w.component (pos 0)) same_array
      ∙ own w.component (subst (λ k. w.component < length (var_at b k).start) e here.1)
      ∙ ap (λ k. vars (record { variable = k; component = w.component })) (sym e))
      (λ (other : w.variable ≡ v → ⊥).
      ap (λ k. get_or k w.component (pos 0)) (other_array (array_of b w.variable) (λ e. other (omega (arith, e))))
      ∙ h.values (Variable w) here ∙ sym (others w other))
      (cases_eq w.variable v)

  pub put : Holds b (set l (array_of b v) new) (with_variables vars s)
  put = record {
    count = length-set l (array_of b v) new ∙ h.count;
    dats = λ d lt. ap length (other_array d (λ e. omega (arith, e, lt))) ∙ h.dats d lt;
    vars = λ w lw. ⊎_elim
        (λ (e : w ≡ v). ap (λ k. length (get_or (set l (array_of b v) new) (array_of b k) [])) e ∙ ap length same_array ∙ long ∙ ap (λ k. length (var_at b k).start) (sym e))
        (λ (other : w ≡ v → ⊥). ap length (other_array (array_of b w) (λ e. other (omega (arith, e)))) ∙ h.vars w lw)
        (cases_eq w v);
    values = value_now;
  }

module _ (b : BoundValue) (l : Arrays) (s : Store) (h : Holds b l s) where
  pub zeros : (v : ℕ) → v < length b.vars → Holds b (set l (array_of b v) (replicate (length (var_at b v).start) (pos 0))) (with_variables (with_zeros v (variables_of s)) s)
  zeros v lv = put b l s h v lv (replicate (length (var_at b v).start) (pos 0)) (length-replicate (length (var_at b v).start) (pos 0)) (with_zeros v (variables_of s))
      (λ i lt. get_or-replicate (length (var_at b v).start) i (pos 0) (pos 0) lt
      ∙ sym (cond-true (nat_eq v v) (pos 0) (s (Variable (record { variable = v; component = i }))) (eq-eqb v v refl)))
      (λ w other. ⊎_elim
      (λ (t : nat_eq w.variable v ≡ true). absurd (other (eqb-true w.variable v t)))
      (λ (t : nat_eq w.variable v ≡ false). cond-false (nat_eq w.variable v) (pos 0) (s (Variable w)) t)
      (cases_Bool (nat_eq w.variable v)))

  module _ (v i : ℕ) (z : ℤ) (lv : v < length b.vars) (li : i < length (var_at b v).start) where
    abbrev old : List ℤ
    old = get_or l (array_of b v) []

    abbrev assigned : VarCell
    assigned = record { variable = v; component = i }

    -- whether a cell is the one that is assigned
    abbrev is_assigned : VarCell → Bool
    is_assigned w = nat_eq w.variable v && nat_eq w.component i

    one_component : (j : ℕ) → j < length (var_at b v).start → get_or (set old i z) j (pos 0) ≡ with_cell assigned z (variables_of s) (record { variable = v; component = j })
    one_component j lj = ⊎_elim
        (λ (e : j ≡ i).
        ap (λ k. get_or (set old i z) k (pos 0)) e ∙ get_or-set_same old i z (pos 0) (omega (arith, li, h.vars v lv))
        ∙ sym (cond-true (nat_eq v v && nat_eq j i) z (s (Variable (record { variable = v; component = j }))) (and_from (nat_eq v v) (nat_eq j i) (eq-eqb v v refl) (eq-eqb j i e))))
        (λ (other : j ≡ i → ⊥).
        get_or-set_other old i j z (pos 0) other ∙ h.values (Variable (record { variable = v; component = j })) (lv, lj)
        ∙ sym (unassigned j other))
        (cases_eq j i)
      where
        unassigned : (k : ℕ) → (k ≡ i → ⊥) → with_cell assigned z (variables_of s) (record { variable = v; component = k }) ≡ s (Variable (record { variable = v; component = k }))
        unassigned k other = ⊎_elim
            (λ (t : (nat_eq v v && nat_eq k i) ≡ true). absurd (other (eqb-true k i (and_parts (nat_eq v v) (nat_eq k i) t).1)))
            (λ (t : (nat_eq v v && nat_eq k i) ≡ false). cond-false (nat_eq v v && nat_eq k i) z (s (Variable (record { variable = v; component = k }))) t)
            (cases_Bool (nat_eq v v && nat_eq k i))

    other_variable : (w : VarCell) → (w.variable ≡ v → ⊥) → with_cell assigned z (variables_of s) w ≡ s (Variable w)
    other_variable w other = ⊎_elim
        (λ (t : is_assigned w ≡ true). absurd (other (eqb-true w.variable v (and_parts (nat_eq w.variable v) (nat_eq w.component i) t).0)))
        (λ (t : is_assigned w ≡ false). cond-false (is_assigned w) z (s (Variable w)) t)
        (cases_Bool (is_assigned w))

    pub one_value : Holds b (set l (array_of b v) (set old i z)) (with_variables (with_cell assigned z (variables_of s)) s)
    one_value = put b l s h v lv (set old i z) (length-set old i z ∙ h.vars v lv) (with_cell assigned z (variables_of s)) one_component other_variable
