use Rattle.std.proofs.Common.{◌≡◌, ap, ◌∙◌, arith}
use Rattle.lemmas.specs.Below.{count_below}
use Rattle.local_mesh.specs.RankSet.{has_at}
use Rattle.bound_program.specs.Values.{bound_of}
use Rattle.chain_model.specs.Counts.{sum_below}
use Rattle.chain_needs.proofs.chain_slices.Counting.{messages_are}
use Rattle.chain_needs.proofs.chain_slices.messages.messages_of.Goals as goal

pub returns-clause-is : goal.returns-clause-is
returns-clause-is c = λ sites h.
    let b = bound_of c.args.bound.now in
    let o = c.args.owners.now in
    let to = c.in_ok-to.to.items in
    let e : c.loop-rank.rank ≡ o.ranks = omega arith in
    c.loop-rank.invariant.1 ∙ (ap (λ n. sum_below n (λ s. count_below o.ranks (has_at to s))) e
    ∙ messages_are b o sites c.args.needed.now to h c.requires.owners.few_ranks c.in_ok-to.ensures.has)
