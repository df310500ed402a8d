use Rattle.std.proofs.Common.{ℕ, sym}
use Rattle.std.proofs.lemmas.List.Sorted.{IsNonDecreasingBy-from_sort, sum_by-IsPermutation}
use Rattle.gmsh_mesh.proofs.cell_faces.ordering.sort_row.Goals as goal

pub returns-clause-order : goal.returns-clause-order
returns-clause-order c = record {
  rises = IsNonDecreasingBy-from_sort (λ (x : ℕ). x) c.sort_unstable.new.self c.sort_unstable.ensures.sorted;
  same = λ x. sym (sum_by-IsPermutation _ c.args.row.now c.sort_unstable.new.self c.sort_unstable.ensures.permutation);
}
