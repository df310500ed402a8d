use Rattle.std.proofs.Common.{◌≡◌, suc, [], ◌∷◌, ◌++◌, length, None, refl, sym, ap, ◌∙◌, arith}
use Rattle.std.specs.Vec.{with_items}
use Rattle.rank_state.proofs.rank_memory.Queued.{alike, more_alike, same_queues}
use Rattle.rank_state.proofs.rank_memory.mail.letters.append.Goals as goal
use Rattle.lemmas.proofs.Lists.{refilled}

pub link-requires-clause-before : goal.link-requires-clause-before
link-requires-clause-before c =
    let letters : c.deref.result.now ≡ c.args.letters.now.items ++ c.args.letter ∷ [] = c.deref.ensures.value ∙ c.push_reserved.ensures.items in
    let next : c.deref_mut.result.now ≡ c.args.next.now.items ++ None ∷ [] = c.deref_mut.ensures.value ∙ c.push_reserved-2.ensures.items in
    let at : c.len-at.result ≡ length c.args.letters.now.items = omega (arith, c.len-at.ensures, c.args.letters.now.ok.0) in
    same_queues c.args.queues.now c.args.queues.now (c.args.next.now.items ++ None ∷ []) c.deref_mut.result.now
    (c.args.letters.now.items ++ c.args.letter ∷ []) c.deref.result.now (length c.args.letters.now.items) c.len-at.result refl
    (sym next) (sym letters) (sym at)
    (alike c.args.queues.now c.args.letters.now.items (c.args.letters.now.items ++ c.args.letter ∷ []) c.args.next.now.items (c.args.next.now.items ++ None ∷ []) (length c.args.letters.now.items)
    (more_alike (length c.args.queues.now) c.args.letters.now.items (c.args.letter ∷ []) c.args.next.now.items (None ∷ []) c.requires.next) c.requires.queued)

pub returns-clause-queued : goal.returns-clause-queued
returns-clause-queued c =
    let next : (with_items c.push_reserved-2.new.self c.link.new.next).items ≡ c.link.new.next =
    refilled c.push_reserved-2.new.self c.link.new.next (c.link.auto.next ∙ ap length c.deref_mut.ensures.value) in
    let all : suc c.len-at.result ≡ length c.push_reserved.new.self.items = omega (arith, c.len-at.ensures, c.push_reserved.ensures.len, c.push_reserved.new.self.ok.0) in
    same_queues c.link.new.queues c.link.new.queues c.link.new.next (with_items c.push_reserved-2.new.self c.link.new.next).items
    c.deref.result.now c.push_reserved.new.self.items (suc c.len-at.result) (length c.push_reserved.new.self.items) refl (sym next)
    c.deref.ensures.value all c.link.ensures
