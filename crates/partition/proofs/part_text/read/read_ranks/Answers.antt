use Rattle.std.proofs.Common.{◌-◌, ◌<◌, Err, ap, sym, ◌∙◌, inr, arith}
use Rattle.partition.specs.declared.part_text.refusals.PartRefusal.TheVariants.{OutOfMemory}
use Rattle.partition.specs.Reading.{Count, filled, run_from, step, finish}
use Rattle.op_num.proofs.Public.{run_end, passes_on, fewer}
use Rattle.partition.proofs.part_text.Running.{counted, count_refused, rank_given, rank_refused, rank_missing}
use Rattle.partition.proofs.part_text.read.read_ranks.Goals as goal

pub returns-in_err-next_in_set-clause-leads : goal.returns-in_err-next_in_set-clause-leads
returns-in_err-next_in_set-clause-leads c t =
    passes_on (step c.args.mesh.now c.args.ranks) finish OutOfMemory (Count t c.args.set) _ _ _ _ _ c.from_residual.ensures.1
    (inr (run_end (step c.args.mesh.now c.args.ranks) finish (Count t c.args.set) _ _ c.in_err-next_in_set.ensures.none.0 (ap Err (sym c.in_err-next_in_set.ensures.none.1))))

pub returns-in_err-left-clause-leads : goal.returns-in_err-left-clause-leads
returns-in_err-left-clause-leads c t =
    passes_on (step c.args.mesh.now c.args.ranks) finish OutOfMemory (Count t c.args.set) _ _ _ _ _ c.from_residual-in_err-left.ensures.1
    (inr (count_refused c.args.mesh.now c.args.ranks t c.args.set _ _ _ c.in_ok-next_in_set.field-0 _ c.set_size.ensures c.in_ok-next_in_set.ensures.some c.in_err-left.ensures))

pub loop-left-init : goal.loop-left-init
loop-left-init c = record {
  runs = λ t. counted c.args.mesh.now c.args.ranks t c.args.set _ _ _ c.in_ok-next_in_set.field-0 c.in_ok-left.left c.set_size.ensures c.in_ok-next_in_set.ensures.some c.in_ok-left.ensures
      ∙ ap (λ xs. run_from c.args.mesh.now c.args.ranks (filled t c.args.set c.in_ok-left.left xs) c.next_in_set.new.tokens) (sym c.new-owners.ensures.items);
  fewer = let h = fewer _ _ _ c.in_ok-next_in_set.ensures.some in omega arith;
}

pub returns-in_err-next_rank-clause-leads : goal.returns-in_err-next_rank-clause-leads
returns-in_err-next_rank-clause-leads c t =
    passes_on (step c.args.mesh.now c.args.ranks) finish OutOfMemory (Count t c.args.set) _ _ _ _ _ c.from_residual-in_err-next_rank.ensures.1
    (inr (c.loop-left.invariant.runs t ∙ rank_missing c.args.mesh.now c.args.ranks t c.args.set c.loop-left.left c.loop-left.owners.items _
    _ (omega arith) c.in_err-next_rank.ensures.none.0 c.in_err-next_rank.ensures.none.1))

pub returns-in_err-rank-clause-leads : goal.returns-in_err-rank-clause-leads
returns-in_err-rank-clause-leads c t =
    passes_on (step c.args.mesh.now c.args.ranks) finish OutOfMemory (Count t c.args.set) _ _ _ _ _ c.from_residual-in_err-rank.ensures.1
    (inr (c.loop-left.invariant.runs t ∙ rank_refused c.args.mesh.now c.args.ranks t c.args.set c.loop-left.left c.loop-left.owners.items _
    _ c.in_ok-next_rank.field-0 _ (omega arith) c.in_ok-next_rank.ensures.some c.in_err-rank.ensures))

pub loop-left-preserved : goal.loop-left-preserved
loop-left-preserved c =
    let more : 0 < c.loop-left.left = omega arith in
    record {
      runs = λ t. c.loop-left.invariant.runs t
          ∙ rank_given c.args.mesh.now c.args.ranks t c.args.set c.loop-left.left c.loop-left.owners.items _ _ c.in_ok-next_rank.field-0
          c.in_ok-rank.rank more c.in_ok-next_rank.ensures.some c.in_ok-rank.ensures
          ∙ ap (λ xs. run_from c.args.mesh.now c.args.ranks (filled t c.args.set (c.loop-left.left - 1) xs) c.next_rank.new.tokens) (sym c.in_ok-push.ensures.items);
      fewer = let h = fewer _ _ _ c.in_ok-next_rank.ensures.some in omega arith;
    }
