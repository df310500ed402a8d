use Rattle.std.proofs.Common.{sym}
use Rattle.bound_program.specs.Values.{bound_of}
use Rattle.chain_needs.proofs.ChainLoops.{with_next, without_next, one_there}
use Rattle.chain_needs.proofs.chains.chain_sites.Goals as goal

pub returns-in-None-clause-loops : goal.returns-in-None-clause-loops
returns-in-None-clause-loops c = without_next (bound_of c.args.bound.now) c.loop-k.k c.args.item c.loop-k.sites.items (sym c.in-None.ensures) c.loop-k.invariant.loops

pub loop-k-preserved : goal.loop-k-preserved
loop-k-preserved c =
    let b = bound_of c.args.bound.now in
    rw c.in_ok-push-in-Some.ensures.items (record {
      loops = with_next b c.loop-k.k c.in-Some.site c.args.item c.loop-k.sites.items (sym c.in-Some.ensures) c.loop-k.invariant.loops;
      there = one_there b c.requires.fits c.items_are_there.ensures.loops c.loop-k.k c.in-Some.site c.loop-k.sites.items (sym c.in-Some.ensures) c.loop-k.invariant.there;
    })
