-- A memory with other values in the places of a variable's cells.
use Rattle.std.proofs.Common.{◌≡◌, ◌<◌, ◌≤◌, ◌+◌, ◌⊎◌, inl, inr, ℕ, ℤ, pos, true, false, List, length, get_or, set, sym, ap, ap₂, ◌∙◌, subst, ⊎_elim, arith, eqb-true}
use Rattle.std.specs.Prelude.{◌&&◌, nat_eq}
use Rattle.std.proofs.lemmas.Bool.{cases_Bool, cases_lt, and_parts, and_from, eq-eqb, cond-true, cond-false, false≢true}
use Rattle.std.proofs.lemmas.List.{length-set, get_or-set_same, get_or-set_other}
use Rattle.schedule_model.specs.Cells.{Cell, Data, Variable, VarCell, Store}
use Rattle.schedule_model.specs.Sequential.{with_variables}
use Rattle.bound_program.specs.Values.{BoundValue}
use Rattle.run_model.specs.Hosts.{variables_of, with_cell, with_zeros}
use Rattle.run_model.specs.Arguments.{var_width}
use Rattle.run_model.specs.Memory.{var_start, place_of, has_cell, Holds, MemoryTakesAssignments, MemoryTakesZeros}
use Rattle.run_model.proofs.Memory.{has_var, inside, apart, dat_there, before_vars, VarThere, var_there, vars_follow}

module _ (b : BoundValue) (m : List ℤ) (s : Store) (v i : ℕ) (z : ℤ) (holds : Holds b m s) (lv : v < length b.vars) (li : i < var_width b v) where
  abbrev target : VarCell
  target = record { variable = v; component = i }

  abbrev after : Store
  after = with_variables (with_cell target z (variables_of s)) s

  target_there : has_cell b (Variable target) ≡ true
  target_there = has_var b v i lv li

  others : (c : Cell) → has_cell b c ≡ true → (c ≡ Variable target → ⊥) → get_or (set m (var_start b v + i) z) (place_of b c) (pos 0) ≡ s c
  others c h ne = get_or-set_other m (var_start b v + i) (place_of b c) z (pos 0) (λ e. ne (apart b c (Variable target) h target_there e)) ∙ holds.values c h

  now : (c : Cell) → has_cell b c ≡ true → get_or (set m (var_start b v + i) z) (place_of b c) (pos 0) ≡ after c
  now (Data c) h = others (Data c) h (λ e. let f : ⊥ = cc in f)
  now (Variable w) h = ⊎_elim
      (λ (t : (nat_eq w.variable v && nat_eq w.component i) ≡ true).
      let p = and_parts (nat_eq w.variable v) (nat_eq w.component i) t in
      let same : w ≡ target = ap₂ (λ x y. record { variable = x; component = y }) (eqb-true w.variable v p.0) (eqb-true w.component i p.1) in
      ap (λ (x : VarCell). get_or (set m (var_start b v + i) z) (place_of b (Variable x)) (pos 0)) same
      ∙ get_or-set_same m (var_start b v + i) z (pos 0) (omega (arith, inside b (Variable target) target_there, holds.length))
      ∙ sym (cond-true (nat_eq w.variable v && nat_eq w.component i) z (s (Variable w)) t))
      (λ (t : (nat_eq w.variable v && nat_eq w.component i) ≡ false).
      others (Variable w) h (λ e. false≢true (sym t ∙ is_target w e)) ∙ sym (cond-false (nat_eq w.variable v && nat_eq w.component i) z (s (Variable w)) t))
      (cases_Bool (nat_eq w.variable v && nat_eq w.component i))
    where
      variable_in : Cell → ℕ
      variable_in (Data c) = 0
      variable_in (Variable x) = x.variable

      component_in : Cell → ℕ
      component_in (Data c) = 0
      component_in (Variable x) = x.component

      is_target : (w : VarCell) → Variable w ≡ Variable target → (nat_eq w.variable v && nat_eq w.component i) ≡ true
      is_target w e = and_from (nat_eq w.variable v) (nat_eq w.component i) (eq-eqb w.variable v (ap variable_in e)) (eq-eqb w.component i (ap component_in e))

pub memory_takes_assignments : MemoryTakesAssignments
memory_takes_assignments b m s v i z holds lv li = record {
  length = length-set m (var_start b v + i) z ∙ holds.length;
  values = now b m s v i z holds lv li;
}

module _ (b : BoundValue) (m u : List ℤ) (s : Store) (v : ℕ) (holds : Holds b m s)
    (zeros : (i : ℕ) → i < var_width b v → get_or u (var_start b v + i) (pos 0) ≡ pos 0)
    (kept : (k : ℕ) → (k < var_start b v) ⊎ (var_start b v + var_width b v ≤ k) → get_or u k (pos 0) ≡ get_or m k (pos 0)) where
  abbrev cleared : Store
  cleared = with_variables (with_zeros v (variables_of s)) s

  outside : (w : VarCell) → VarThere b w → (w.variable ≡ v → ⊥) → (place_of b (Variable w) < var_start b v) ⊎ (var_start b v + var_width b v ≤ place_of b (Variable w))
  outside w t ne = ⊎_elim
      (λ (l : w.variable < v). inl (let lt : place_of b (Variable w) < var_start b v = omega (arith, t.component, vars_follow b w.variable v l) in lt))
      (λ (l : v ≤ w.variable). ⊎_elim
      (λ (k : v < w.variable). inr (let le : var_start b v + var_width b v ≤ place_of b (Variable w) = omega (arith, vars_follow b v w.variable k) in le))
      (λ (k : w.variable ≤ v). absurd (ne (omega arith)))
      (cases_lt v w.variable))
      (cases_lt w.variable v)

  then : (c : Cell) → has_cell b c ≡ true → get_or u (place_of b c) (pos 0) ≡ cleared c
  then (Data c) h = kept (place_of b (Data c)) (inl (before_vars b c v (dat_there b c h))) ∙ holds.values (Data c) h
  then (Variable w) h = ⊎_elim
      (λ (t : nat_eq w.variable v ≡ true).
      let same : w.variable ≡ v = eqb-true w.variable v t in
      let place : place_of b (Variable w) ≡ var_start b v + w.component = ap (λ n. var_start b n + w.component) same in
      ap (λ k. get_or u k (pos 0)) place
      ∙ zeros w.component (subst (λ n. w.component < var_width b n) same (var_there b w h).component)
      ∙ sym (cond-true (nat_eq w.variable v) (pos 0) (s (Variable w)) t))
      (λ (t : nat_eq w.variable v ≡ false).
      kept (place_of b (Variable w)) (outside w (var_there b w h) (λ e. false≢true (sym t ∙ eq-eqb w.variable v e)))
      ∙ holds.values (Variable w) h ∙ sym (cond-false (nat_eq w.variable v) (pos 0) (s (Variable w)) t))
      (cases_Bool (nat_eq w.variable v))

pub memory_takes_zeros : MemoryTakesZeros
memory_takes_zeros b m u s v holds lv long zeros kept = record { length = long ∙ holds.length; values = then b m u s v holds zeros kept }
