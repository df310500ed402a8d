use Rattle.std.proofs.Common.{◌≡◌, None, refl, length, arith}
use Rattle.std.proofs.lemmas.List.{length_push}
use Rattle.metis_text.proofs.owner_text.metis.Owned.{none_yet, none_more, one_given}
use Rattle.metis_text.proofs.owner_text.metis.owners.given_for.Goals as goal

pub loop-init : goal.loop-init
loop-init c = rw c.new-given.ensures.items (record { count = refl; none = none_yet })

pub loop-preserved : goal.loop-preserved
loop-preserved c =
    rw c.in_ok-push.ensures.items (record {
      count = omega (arith, length_push c.loop.given.items None, c.loop.invariant.count);
      none = none_more c.loop.given.items c.loop.invariant.none;
    })

pub returns : goal.returns
returns c =
    let count : length c.loop.given.items ≡ c.args.sets = omega (arith, c.loop.invariant.count, c.loop-test.false, c.loop.auto.counter-end) in
    one_given c.args.sets c.loop.given.items c.args.set c.args.owners count c.requires c.loop.invariant.none
