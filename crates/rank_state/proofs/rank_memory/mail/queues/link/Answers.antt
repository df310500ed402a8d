use Rattle.std.proofs.Common.{◌<◌, length, get_or, refl, arith}
use Rattle.std.proofs.Math.Nat.{mod-lt}
use Rattle.rank_state.specs.Letters.{no_letter}
use Rattle.rank_state.specs.Queues.{queue_at}
use Rattle.rank_state.proofs.rank_memory.Queued.{linked_first, linked_more}
use Rattle.rank_state.proofs.rank_memory.mail.queues.link.Goals as goal
use Rattle.rank_state.proofs.rank_memory.mail.queues.link.Goals.{in-Some, in-None}

pub returns : goal.returns
returns c =
    let letters = c.args.letters.now in
    let lt : queue_at (length c.args.queues.now) c.args.letters.now c.args.at < length c.args.queues.now = mod-lt (get_or c.args.letters.now c.args.at no_letter).to c.requires.some in
    let room : c.args.at < length c.args.next.now = omega (arith, c.requires.at, c.requires.next) in
    elim c.match-queues-queue.branch [
      | in-Some w ↦ linked_more c.args.queues.now c.args.next.now c.match-queues-queue.next c.args.letters.now c.args.at w.in-Some.all (record { first = c.match-queues-queue.first; last = c.args.at })
          lt w.in-Some.is w.first-is refl room w.next-is c.requires.before
      | in-None w ↦ linked_first c.args.queues.now c.args.next.now c.match-queues-queue.next c.args.letters.now c.args.at (record { first = c.match-queues-queue.first; last = c.args.at })
          lt w.in-None.is w.first-is refl room w.next-is c.requires.before
    ]
