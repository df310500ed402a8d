use Rattle.std.proofs.Common.{◌≡◌, ◌≤◌, ◌+◌, All, map, take, vec_len, vec_capacity}
use Rattle.rank_layout.specs.First.{first_cells}
use Rattle.rank_layout.proofs.first.first_memories.Given as goal

abbrev pub invariant-loop-part : goal.invariant-loop-part
invariant-loop-part l = record {
  cells : map (λ v. v.items) l.memories.items ≡ map (first_cells l.mesh) (take l.part-index l.parts);
  spare : All (λ v. vec_len v + l.spare ≤ vec_capacity v) l.memories.items;
}
