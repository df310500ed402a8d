use Rattle.std.proofs.Common.{sym, ◌∙◌}
use Rattle.bound_program.specs.Values.{bound_of}
use Rattle.chain_model.specs.Counts.{begins_at}
use Rattle.chain_needs.proofs.Tallied.{one_more, no_more}
use Rattle.chain_needs.proofs.counting.chain_count.Goals as goal
use Rattle.chain_needs.proofs.counting.chain_count.Goals.{then-begins_chain, else-begins_chain}

pub loop-item-preserved : goal.loop-item-preserved
loop-item-preserved c = elim c.if-begins_chain.branch [
  | then-begins_chain w ↦
      one_more c.loop-item.item (begins_at (bound_of c.args.bound.now)) c.loop-item.count c.if-begins_chain.count
      (sym c.begins_chain.ensures ∙ w.if-begins_chain.true) c.loop-item.invariant.0 c.loop-item.invariant.1 w.count-is
  | else-begins_chain w ↦
      no_more c.loop-item.item (begins_at (bound_of c.args.bound.now)) c.loop-item.count c.if-begins_chain.count
      (sym c.begins_chain.ensures ∙ w.if-begins_chain.false) c.loop-item.invariant.0 c.loop-item.invariant.1 w.count-is
]
