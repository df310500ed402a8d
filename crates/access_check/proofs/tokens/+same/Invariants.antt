use Rattle.std.proofs.Common.{◌≡◌, ◌≤◌, ◌+◌, ◌*◌}
use Rattle.kernel_model.specs.SameTokens.{same_tokens}
use Rattle.access_check.proofs.Sizes.{size}
use Rattle.access_check.proofs.tokens.+same.Given as goal

abbrev pub decreases-is_same_chain : goal.decreases-is_same_chain
decreases-is_same_chain l = 2 * size l.a.now + 1

abbrev pub decreases-is_same : goal.decreases-is_same
decreases-is_same l = 2 * size l.a.now

abbrev pub invariant-is_same_chain-down : goal.invariant-is_same_chain-down
invariant-is_same_chain-down l = record {
  same : same_tokens l.one l.other ≡ same_tokens l.a l.b;
  no_larger : size l.one ≤ size l.a;
}

abbrev pub decreases-is_same_chain-down : goal.decreases-is_same_chain-down
decreases-is_same_chain-down l = size l.one
