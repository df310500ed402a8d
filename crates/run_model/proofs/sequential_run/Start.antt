-- The arrays before the run hold the values that the program begins with.
use Rattle.std.proofs.Common.{◌≡◌, ◌<◌, ◌+◌, ℕ, ℤ, pos, List, [], map, length, get_or, sym, ap, ◌∙◌, arith, get_or-append-add}
use Rattle.std.proofs.lemmas.List.{length-append, length-map, get_or-map, get_or_append_left}
use Rattle.mesh_decl.specs.declared.decl.DatDecl.{DatDecl}
use Rattle.mesh_decl.specs.Mesh.{dat_count, dat_values, IsDatAt}
use Rattle.schedule_model.specs.Cells.{Cell, Data, Variable}
use Rattle.bound_program.specs.Values.{BoundValue, VarValue, no_var}
use Rattle.bound_program.specs.Fits.{var_at}
use Rattle.run_model.specs.Programs.{first_values}
use Rattle.run_model.specs.Arrays.{array_of, first_arrays}
use Rattle.run_model.specs.Holds.{IsCell, array_with, index_of, Holds}
use Rattle.kernel_model.specs.Meaning.{cell}

module _ (b : BoundValue) where
  abbrev of_dats : List (List ℤ)
  of_dats = map (λ (d : DatDecl). d.values) b.mesh.dats

  abbrev of_vars : List (List ℤ)
  of_vars = map (λ (v : VarValue). v.start) b.vars

  dats_long : length of_dats ≡ dat_count b.mesh
  dats_long = length-map b.mesh.dats (λ (d : DatDecl). d.values)

  dat_array : (d : ℕ) → d < dat_count b.mesh → get_or (first_arrays b) d [] ≡ dat_values b.mesh d
  unfolding dat_values
  dat_array d lt = get_or_append_left of_dats of_vars [] d (omega (arith, lt, dats_long))

  var_array : (v : ℕ) → v < length b.vars → get_or (first_arrays b) (array_of b v) [] ≡ (var_at b v).start
  var_array v lt =
      ap (λ n. get_or (first_arrays b) (n + v) []) (sym dats_long) ∙ get_or-append-add of_dats of_vars v []
      ∙ get_or-map (λ (x : VarValue). x.start) b.vars v no_var [] lt

  first_value : (c : Cell) → IsCell b c → cell (first_arrays b) (array_with b c) (index_of b c) ≡ first_values b c
  first_value (Data c) here = ap (λ k. get_or k (index_of b (Data c)) (pos 0)) (dat_array c.dat here.0)
  first_value (Variable v) here = ap (λ k. get_or k v.component (pos 0)) (var_array v.variable here.0)

  pub first_arrays_hold : ((d : ℕ) → d < dat_count b.mesh → IsDatAt b.mesh d) → Holds b (first_arrays b) (first_values b)
  first_arrays_hold dats = record {
    count = omega (arith, length-append of_dats of_vars, dats_long, length-map b.vars (λ (v : VarValue). v.start));
    dats = λ d lt. ap length (dat_array d lt) ∙ (dats d lt).length;
    vars = λ v lt. ap length (var_array v lt);
    values = first_value;
  }
