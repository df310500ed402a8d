-- At the start the pointers stand at the first item.
use Rattle.std.proofs.Common.{◌≤◌, sym, subst, arith, length, replicate}
use Rattle.std.proofs.lemmas.List.{length-replicate, get_or-replicate}
use Rattle.step_judge.specs.Marked.{Marked, Stands}
use Rattle.step_judge.specs.Kept.{Whole, LaidOut}

pub start : (v : Marked) → LaidOut v → Whole v (replicate v.ranks 0)
start v f = record {
  laid = f;
  each_rank = length-replicate v.ranks 0;
  at_in = λ x lt. subst (λ z. z ≤ length v.items) (sym (get_or-replicate v.ranks x 0 0 lt)) (omega arith);
  at_stands = λ x lt. subst (λ z. Stands v x z) (sym (get_or-replicate v.ranks x 0 0 lt)) (λ i il. absurd (omega arith));
}
