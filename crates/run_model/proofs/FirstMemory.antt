-- The memory before the run holds the values that the program begins with.
use Rattle.std.proofs.Common.{◌≡◌, ◌<◌, ◌≤◌, ◌+◌, ◌*◌, ℕ, zero, suc, ℤ, pos, true, List, length, get_or, take, flat_map, refl, sym, ap, ◌∙◌, subst, arith, get_or-append-add}
use Rattle.std.specs.Prelude.{slice_index_or}
use Rattle.std.proofs.lemmas.Nat.{mul-add-lt}
use Rattle.std.proofs.lemmas.List.{length-append, take_all, get_or_append_left}
use Rattle.std.proofs.lemmas.List.Concat.{get_or-flat_map}
use Rattle.std.proofs.lemmas.List.FromFn.{length-range_with_len, get_or-range_with_len}
use Rattle.mesh_decl.specs.Mesh.{dat_count, dat_values, set_size, dat_set, IsDatAt}
use Rattle.schedule_model.specs.Cells.{Cell, Data, Variable}
use Rattle.bound_program.specs.Values.{BoundValue, VarValue, no_var}
use Rattle.run_model.specs.Windows.{numbers}
use Rattle.run_model.specs.Programs.{program_of}
use Rattle.run_model.specs.Arguments.{dat_width}
use Rattle.run_model.specs.Memory.{dat_start, var_start, memory_length, place_of, has_cell, first_memory, FirstMemoryHolds}
use Rattle.run_model.proofs.Memory.{dat_there, var_there, dat_below, dats_follow}
use Rattle.lemmas.proofs.Lists.{one_piece}

module _ (b : BoundValue) (dats : (d : ℕ) → d < dat_count b.mesh → IsDatAt b.mesh d) where
  abbrev of_dats : List ℤ
  of_dats = flat_map (dat_values b.mesh) (numbers (dat_count b.mesh))

  abbrev of_vars : List ℤ
  of_vars = flat_map (λ (v : VarValue). v.start) b.vars

  count_long : length (numbers (dat_count b.mesh)) ≡ dat_count b.mesh
  count_long = length-range_with_len 0 (dat_count b.mesh)

  number_is : (d : ℕ) → d < dat_count b.mesh → get_or (numbers (dat_count b.mesh)) d 0 ≡ d
  number_is d lt = get_or-range_with_len 0 (dat_count b.mesh) d 0 lt ∙ omega arith

  dats_before : (d : ℕ) → d ≤ dat_count b.mesh → length (flat_map (dat_values b.mesh) (take d (numbers (dat_count b.mesh)))) ≡ dat_start b d
  dats_before zero le = refl
  dats_before (suc d) le =
      let lt : d < dat_count b.mesh = omega arith in
      let own : length (dat_values b.mesh (get_or (numbers (dat_count b.mesh)) d 0)) ≡ set_size b.mesh (dat_set b.mesh d) * dat_width b d =
      ap (λ k. length (dat_values b.mesh k)) (number_is d lt) ∙ (dats d lt).length in
      omega (arith, one_piece (dat_values b.mesh) (numbers (dat_count b.mesh)) d 0 (omega (arith, count_long)), own, dats_before d (omega arith))

  all_dats : length of_dats ≡ dat_start b (dat_count b.mesh)
  all_dats =
      ap (λ l. length (flat_map (dat_values b.mesh) l)) (sym (take_all (dat_count b.mesh) (numbers (dat_count b.mesh)) (omega (arith, count_long))))
      ∙ dats_before (dat_count b.mesh) (omega arith)

  vars_before : (v : ℕ) → v ≤ length b.vars → length of_dats + length (flat_map (λ (x : VarValue). x.start) (take v b.vars)) ≡ var_start b v
  vars_before zero le = omega (arith, all_dats)
  vars_before (suc v) le = omega (arith, one_piece (λ (x : VarValue). x.start) b.vars v no_var (omega arith), vars_before v (omega arith))

  all_long : length (first_memory b) ≡ memory_length b
  all_long =
      length-append of_dats of_vars
      ∙ ap (λ l. length of_dats + length (flat_map (λ (x : VarValue). x.start) l)) (sym (take_all (length b.vars) b.vars (omega arith)))
      ∙ vars_before (length b.vars) (omega arith)

  begins : (c : Cell) → has_cell b c ≡ true → slice_index_or (first_memory b) (place_of b c) (pos 0) ≡ (program_of b).start c
  begins (Data c) h =
      let t = dat_there b c h in
      let k : ℕ = c.element * dat_width b c.dat + c.component in
      let within : place_of b (Data c) < length of_dats = omega (arith, all_dats, dat_below b c t, dats_follow b c.dat (dat_count b.mesh) t.dat) in
      let own : k < length (dat_values b.mesh (get_or (numbers (dat_count b.mesh)) c.dat 0)) =
      subst (λ d. k < length (dat_values b.mesh d)) (sym (number_is c.dat t.dat))
      (omega (arith, (dats c.dat t.dat).length, mul-add-lt c.element (dat_width b c.dat) c.component (set_size b.mesh (dat_set b.mesh c.dat)) t.element t.component)) in
      get_or_append_left of_dats of_vars (pos 0) (place_of b (Data c)) within
      ∙ ap (λ p. get_or of_dats (p + k) (pos 0)) (sym (dats_before c.dat (omega (arith, t.dat))))
      ∙ get_or-flat_map (dat_values b.mesh) (numbers (dat_count b.mesh)) c.dat k 0 (pos 0) (omega (arith, count_long, t.dat)) own
      ∙ ap (λ d. get_or (dat_values b.mesh d) k (pos 0)) (number_is c.dat t.dat)
  begins (Variable v) h =
      let t = var_there b v h in
      let before : ℕ = length (flat_map (λ (x : VarValue). x.start) (take v.variable b.vars)) in
      let at : var_start b v.variable + v.component ≡ length of_dats + (before + v.component) = omega (arith, vars_before v.variable (omega (arith, t.variable))) in
      ap (λ p. get_or (first_memory b) p (pos 0)) at
      ∙ get_or-append-add of_dats of_vars (before + v.component) (pos 0)
      ∙ get_or-flat_map (λ (x : VarValue). x.start) b.vars v.variable v.component no_var (pos 0) t.variable t.component

pub first_memory_holds : FirstMemoryHolds
first_memory_holds b dats = record { length = all_long b dats; values = begins b dats }
