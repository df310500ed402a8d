use Rattle.std.proofs.Common.{ℕ, arith, ltb, rules}
use Rattle.std.proofs.lemmas.Bool.{ltb-true, ltb-false}
use Rattle.std.proofs.lemmas.List.Sorted.{IsPartitionPoint-from_clause, IsPartitionedBy-ltb}
use Rattle.step_judge.proofs.marks.colour_ranks.lower_count.Goals as goal

pub returns : goal.returns
returns c =
    let parted = IsPartitionedBy-ltb (λ (x : ℕ). x) c.args.sorted.now c.args.colour c.requires in
    let point = IsPartitionPoint-from_clause (λ x. ltb x c.args.colour) _ _ c.partition_point.ensures.partitioned parted (λ a r q k. search rules) in
    record {
      within = c.partition_point.ensures.bound;
      below = λ k lt. ltb-true _ _ (point.0 k 0 (omega arith) lt);
      above = λ k le lt. ltb-false _ _ (point.1 k 0 le lt);
    }
