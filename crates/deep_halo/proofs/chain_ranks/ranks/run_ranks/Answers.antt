use Rattle.std.proofs.Common.{◌≡◌, ◌+◌, suc, sym, ap, subst, ◌∙◌, arith}
use Rattle.chain_model.specs.Machine.{ranks_run}
use Rattle.chain_model.specs.Slices.{slicing_of}
use Rattle.deep_halo.specs.Constants.{constants_in}
use Rattle.deep_halo.specs.Running.{Runs}
use Rattle.deep_halo.specs.Loops.{HasConstants, program_of_loop, owners_of_loop}
use Rattle.deep_halo.proofs.chain_ranks.InTurn.{ranks_keep}
use Rattle.deep_halo.proofs.chain_ranks.ranks.run_ranks.Goals as goal

pub loop-rank-preserved : goal.loop-rank-preserved
loop-rank-preserved c st consts runs =
    let x = c.args.work.now in
    let b = program_of_loop x in
    let o = owners_of_loop x in
    let now = ranks_run (slicing_of b o) x.item c.loop-rank.rank st in
    let values : HasConstants b x.values.now now = consts ∙ ap (constants_in b) (sym (ranks_keep (slicing_of b o) x.item c.loop-rank.rank st)) in
    subst (λ n. Runs b o x.begun x.all.now.site c.run_rank.new.memory c.run_rank.new.partials c.run_rank.new.fault (ranks_run (slicing_of b o) x.item n st))
    (let q : suc c.loop-rank.rank ≡ c.loop-rank.rank + 1 = omega arith in q)
    (c.run_rank.ensures now values (c.loop-rank.invariant st consts runs))

pub returns : goal.returns
returns c st consts runs =
    let x = c.args.work.now in
    let b = program_of_loop x in
    let o = owners_of_loop x in
    let last : c.loop-rank.rank ≡ o.ranks = omega (arith, c.loop-rank-test.false, c.loop-rank.auto.rank-end) in
    subst (λ n. Runs b o x.begun x.all.now.site c.loop-rank.memory c.loop-rank.partials c.loop-rank.fault (ranks_run (slicing_of b o) x.item n st)) last
    (c.loop-rank.invariant st consts runs)
