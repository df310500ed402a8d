use Rattle.std.proofs.Common.{◌≡◌, ◌+◌, subst, arith}
use Rattle.rank_program.specs.Batches.{GoesOn}
use Rattle.rank_program.specs.LocalRuns.{share_in}
use Rattle.rank_program.proofs.BatchRuns.{goes_further, stays_lent, still_lent}
use Rattle.rank_program.proofs.batches.run_all.Goals as goal
use Rattle.rank_program.proofs.batches.run_all.Goals.{then-ran-gt0, else-ran-gt0}

pub run_many-many-requires-clause-lent : goal.run_many-many-requires-clause-lent
run_many-many-requires-clause-lent g c κs within = still_lent c.args.run.now.local.now c.args.share.now c.loop-at.share c.loop-at.invariant.lent c.requires.lent

pub run_rows-ran-requires-clause-lent : goal.run_rows-ran-requires-clause-lent
run_rows-ran-requires-clause-lent g c =
    still_lent c.args.run.now.local.now c.args.share.now c.run_many-many.new.share
    (stays_lent c.args.share.now c.loop-at.share c.run_many-many.new.share c.loop-at.invariant.lent c.run_many-many.ensures.lent) c.requires.lent

pub run_alone-requires-clause-lent : goal.run_alone-requires-clause-lent
run_alone-requires-clause-lent g c =
    still_lent c.args.run.now.local.now c.args.share.now c.run_rows-ran.new.share
    (stays_lent c.args.share.now c.run_many-many.new.share c.run_rows-ran.new.share
    (stays_lent c.args.share.now c.loop-at.share c.run_many-many.new.share c.loop-at.invariant.lent c.run_many-many.ensures.lent)
    c.run_rows-ran.ensures.lent) c.requires.lent

pub loop-at-preserved-then-many-gt0 : goal.loop-at-preserved-then-many-gt0
loop-at-preserved-then-many-gt0 g c =
    let l = c.args.run.now.local.now in
    let inv = c.loop-at.invariant in
    record {
      runs = goes_further l 0 c.loop-at.at (c.loop-at.at + c.run_many-many.result)
          (share_in l c.args.share.now) (share_in l c.loop-at.share) (share_in l c.run_many-many.new.share)
          inv.runs c.run_many-many.ensures.runs;
      count = c.run_many-many.ensures.few;
      lent = stays_lent c.args.share.now c.loop-at.share c.run_many-many.new.share inv.lent c.run_many-many.ensures.lent;
      pause = inv.pause;
      room = record {
        fits = record {
          places_fit = inv.room.fits.places_fit;
          locals_fit = inv.room.fits.locals_fit;
          saved_fits = inv.room.fits.saved_fits;
          rows_fit = inv.room.fits.rows_fit;
        };
        stand = inv.room.stand;
      };
    }

pub loop-at-preserved : goal.loop-at-preserved
loop-at-preserved g c =
    let l = c.args.run.now.local.now in
    let inv = c.loop-at.invariant in
    let at = c.loop-at.at in
    let ran = c.run_rows-ran.result in
    let upto = c.if-ran-gt0.upto in
    let none = c.if-many-gt0.false in
    let here : at + c.run_many-many.result ≡ at = omega (arith, none) in
    let first = share_in l c.args.share.now in
    let begun = share_in l c.run_many-many.new.share in
    let in_rows = share_in l c.run_rows-ran.new.share in
    let left = share_in l c.run_alone.new.share in
    record {
      runs = goes_further l 0 at (at + upto) first begun left
          (goes_further l 0 at at first (share_in l c.loop-at.share) begun inv.runs
          (subst (λ n. GoesOn l at n (share_in l c.loop-at.share) begun) here c.run_many-many.ensures.runs))
          (goes_further l at (at + ran) (at + upto) begun in_rows left c.run_rows-ran.ensures.runs c.run_alone.ensures.runs);
      count = elim c.if-ran-gt0.branch [ then-ran-gt0 w ↦ omega arith | else-ran-gt0 w ↦ omega arith ];
      pause = elim c.if-ran-gt0.branch [ then-ran-gt0 w ↦ omega arith | else-ran-gt0 w ↦ omega arith ];
      lent = stays_lent c.args.share.now c.run_rows-ran.new.share c.run_alone.new.share
          (stays_lent c.args.share.now c.run_many-many.new.share c.run_rows-ran.new.share
          (stays_lent c.args.share.now c.loop-at.share c.run_many-many.new.share inv.lent c.run_many-many.ensures.lent)
          c.run_rows-ran.ensures.lent) c.run_alone.ensures.lent;
      room = c.run_alone.ensures.room;
    }

pub loop-at-smaller : goal.loop-at-smaller
loop-at-smaller g c = elim c.if-ran-gt0.branch [ then-ran-gt0 w ↦ omega arith | else-ran-gt0 w ↦ omega arith ]
