use Rattle.std.proofs.Common.{◌<◌, ℕ, sym, length, arith}
use Rattle.loop_plan.proofs.PlanLines.{sites_more}
use Rattle.loop_plan.proofs.writing.put_sites.Goals as goal

pub loop-rank-preserved : goal.loop-rank-preserved
loop-rank-preserved c =
    let k : ℕ = c.loop-rank.rank in
    let l : k < length c.args.places.now = omega (arith, c.loop-rank-test.true, c.loop-rank.auto.rank-end) in
    sites_more c.args.site k c.args.places.now c.args.colours.now c.index-colours-rank.result c.index-colours-rank.result c.args.out.now.items
    c.loop-rank.out.items c.put_site.new.out.items c.requires.same l (sym c.index-colours-rank.is) c.loop-rank.invariant c.in_ok-put_site.ensures
