use Rattle.std.proofs.Common.{None, ap, ◌∙◌, arith}
use Rattle.std.proofs.lemmas.List.{take_all}
use Rattle.rank_program.specs.LocalArgs.{places_in}
use Rattle.rank_program.proofs.LocalArgs.{put_next}
use Rattle.rank_program.proofs.local_args.put_places.Goals as goal

pub loop-i-preserved : goal.loop-i-preserved
loop-i-preserved c =
    put_next c.args.place c.args.args.now c.args.places.now c.loop-i.places c.loop-i.i None _ c.put_place.new.stood
    c.loop-i-test.true c.requires.count c.loop-i.invariant c.put_place.ensures

pub returns : goal.returns
returns c =
    let past = c.loop-i-test.false in
    c.loop-i.invariant ∙ ap (λ args. places_in c.args.place args c.args.places.now) (take_all c.loop-i.i c.args.args.now (omega (arith, past)))
