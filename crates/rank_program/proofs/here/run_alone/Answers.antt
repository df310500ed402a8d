use Rattle.std.proofs.Common.{◌≡◌, ◌+◌, suc, take, subst, ◌∙◌, arith}
use Rattle.rank_state.specs.Stops.{stop_in}
use Rattle.rank_program.specs.AloneRuns.{Reaches}
use Rattle.rank_program.specs.Batches.{GoesOn}
use Rattle.rank_program.specs.LocalRuns.{share_in}
use Rattle.rank_program.specs.Sound.{setup_in, layout_in, tables_in}
use Rattle.rank_program.proofs.here.run_alone.Goals as goal

pub loop-i-preserved : goal.loop-i-preserved
loop-i-preserved g c =
    let l = c.args.local.now in
    let p = l.program.now in
    let inv = c.loop-i.invariant in
    let next : suc c.loop-i.i ≡ c.loop-i.i + 1 = omega arith in
    record {
      runs = λ start h. subst (λ n. Reaches (setup_in p) (layout_in p) (tables_in p) l.item l.rank l.constants.now l.variables.now l.places.now
          start n (record { cells = take l.part.now.cells c.run_element.new.memory; partials = c.run_element.new.partials; fault = stop_in c.run_element.new.kept })) next
          (share_in l c.loop-i.share, inv.runs start h, c.run_element.ensures.runs);
      below = (let lt = c.loop-i-test.true in omega (arith, lt));
      lent = record {
        memory = inv.lent.memory;
        partials = inv.lent.partials;
        cells = c.run_element.auto.memory ∙ inv.lent.cells;
        slots = c.run_element.auto.partials ∙ inv.lent.slots;
      };
      room = c.run_element.ensures.room;
    }

pub returns-clause-runs : goal.returns-clause-runs
returns-clause-runs g c =
    let l = c.args.local.now in
    let below = c.loop-i.invariant.below in
    let past = c.loop-i-test.false in
    let last : c.loop-i.i ≡ c.args.to = omega (arith, below, past) in
    subst (λ n. GoesOn l c.args.from n (share_in l c.args.share.now) (share_in l c.loop-i.share)) last c.loop-i.invariant.runs
