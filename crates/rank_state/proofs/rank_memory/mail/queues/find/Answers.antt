use Rattle.std.proofs.Common.{◌≡◌, ◌%◌, length, get_or, false, None, sym, ◌∙◌, arith}
use Rattle.rank_state.specs.Letters.{letter_of, no_letter}
use Rattle.rank_state.proofs.rank_memory.Walking.{no_some, place_first, place_next, some_place, goes_on, is_oldest}
use Rattle.rank_state.proofs.rank_memory.mail.queues.find.Goals as goal

pub loop-later-init : goal.loop-later-init
loop-later-init c = place_first c.args.queues.now c.args.next.now c.args.letters.now c.args.from c.args.to c.in-Some.all c.requires.some c.requires.queued c.requires.has c.in-Some.is

pub loop-later-preserved : goal.loop-later-preserved
loop-later-preserved c =
    let other : letter_of c.args.from c.args.to (get_or c.args.letters.now c.loop-later.at no_letter) ≡ false = sym c.is_of.ensures ∙ c.loop-later-test.true in
    (place_next c.args.queues.now c.args.next.now c.args.letters.now c.args.from c.args.to c.loop-later.at c.in-Some-next.later
    c.in-Some.all c.requires.some c.requires.queued c.requires.has c.in-Some.is c.loop-later.invariant other c.in-Some-next.is).1

pub loop-later-smaller : goal.loop-later-smaller
loop-later-smaller c =
    let other : letter_of c.args.from c.args.to (get_or c.args.letters.now c.loop-later.at no_letter) ≡ false = sym c.is_of.ensures ∙ c.loop-later-test.true in
    let q = place_next c.args.queues.now c.args.next.now c.args.letters.now c.args.from c.args.to c.loop-later.at c.in-Some-next.later
    c.in-Some.all c.requires.some c.requires.queued c.requires.has c.in-Some.is c.loop-later.invariant other c.in-Some-next.is in
    omega (arith, q.0, q.1.inside)

pub unreachable-requires : goal.unreachable-requires
unreachable-requires c =
    some_place c.args.queues.now c.args.next.now c.args.letters.now c.args.from c.args.to c.requires.some c.requires.queued c.requires.has
    (no_some (get_or c.args.queues.now (c.args.to % length c.args.queues.now) None) c.in_default.not-Some)

pub unreachable-requires-in_default-next : goal.unreachable-requires-in_default-next
unreachable-requires-in_default-next c =
    let other : letter_of c.args.from c.args.to (get_or c.args.letters.now c.loop-later.at no_letter) ≡ false = sym c.is_of.ensures ∙ c.loop-later-test.true in
    goes_on c.args.queues.now c.args.next.now c.args.letters.now c.args.from c.args.to c.loop-later.at c.in-Some.all c.requires.some
    c.requires.queued c.requires.has c.in-Some.is c.loop-later.invariant other
    (no_some (get_or c.args.next.now c.loop-later.at None) c.in_default-next.not-Some)

pub returns : goal.returns
returns c =
    is_oldest c.args.queues.now c.args.letters.now c.args.from c.args.to c.loop-later.at c.loop-later.invariant (sym c.is_of.ensures ∙ c.loop-later-test.false)
