use Rattle.std.proofs.Common.{rules, ◌+◌, sym, subst, length, get_or}
use Rattle.rank_state.specs.Letters.{InOrder, no_letter}
use Rattle.rank_state.proofs.rank_memory.Moving.{placed, ends_inside, order_done, order_rest, behind, unread_done, posts_moved}
use Rattle.rank_state.proofs.rank_memory.mail.letters.move_down.Goals as goal

pub copy_down-requires-clause-inside : goal.copy_down-requires-clause-inside
copy_down-requires-clause-inside c = (ends_inside c.args.from c.args.letters.now c.args.end (length c.args.cells.now) c.requires.from c.requires.rest).1

pub copy_down-requires-clause-down : goal.copy_down-requires-clause-down
copy_down-requires-clause-down c = (ends_inside c.args.from c.args.letters.now c.args.end (length c.args.cells.now) c.requires.from c.requires.rest).0

pub overflow_add-result : goal.overflow_add-result
overflow_add-result c = let e = ends_inside c.args.from c.args.letters.now c.args.end (length c.args.cells.now) c.requires.from c.requires.rest in search (rules, e)

pub returns-clause-done : goal.returns-clause-done
returns-clause-done c = order_done c.args.from c.args.to c.args.end c.args.letters.now (length c.args.cells.now) c.requires.from c.requires.to c.requires.done c.requires.rest

pub returns-clause-after : goal.returns-clause-after
returns-clause-after c = behind c.args.from c.args.to c.args.letters.now (placed c.args.end (get_or c.args.letters.now c.args.from no_letter)) c.requires.to

pub returns-clause-rest : goal.returns-clause-rest
returns-clause-rest c =
    subst (InOrder (c.args.end + (get_or c.args.letters.now c.args.from no_letter).count) (length c.copy_down.new.cells))
    (sym (behind c.args.from c.args.to c.args.letters.now (placed c.args.end (get_or c.args.letters.now c.args.from no_letter))
    c.requires.to))
    (order_rest c.args.from c.args.end (length c.args.cells.now) (length c.copy_down.new.cells) c.args.letters.now c.requires.from (sym c.copy_down.auto.cells) c.requires.rest)

pub returns-clause-unread : goal.returns-clause-unread
returns-clause-unread c = unread_done c.args.from c.args.to c.args.end c.args.letters.now c.requires.from c.requires.to c.requires.unread

pub returns-clause-posts : goal.returns-clause-posts
returns-clause-posts c = posts_moved c.args.from c.args.to c.args.end (length c.args.cells.now) c.args.letters.now c.args.cells.now
    c.copy_down.new.cells c.requires.from c.requires.to c.requires.unread c.requires.done c.requires.rest c.copy_down.ensures.before
    c.copy_down.ensures.here c.copy_down.ensures.behind
