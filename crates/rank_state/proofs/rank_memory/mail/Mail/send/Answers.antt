use Rattle.std.proofs.Common.{◌≡◌, ℕ, ◌+◌, ◌-◌, ◌<◌, ◌≤◌, false, List, [], ◌∷◌, ◌++◌, length, take, drop, refl, sym, ap, ap₂, ◌∙◌, subst, arith}
use Rattle.std.specs.Vec.{with_items}
use Rattle.rank_state.specs.declared.rank_memory.mail.Letter.{Letter}
use Rattle.rank_state.specs.Spans.{total, gathered}
use Rattle.rank_state.specs.Mail.{Post, Box, sent}
use Rattle.rank_state.specs.Letters.{post_with, posts_in, unread_cells, InOrder}
use Rattle.rank_state.proofs.rank_memory.Letters.{order_append, order_length, unread_append, posts_append, front_same}
use Rattle.rank_state.proofs.rank_memory.Queued.{same_queues}
use Rattle.rank_state.proofs.rank_memory.Panes.{gathered_length}
use Rattle.rank_state.proofs.rank_memory.mail.Mail.send.Goals as goal
use Rattle.rank_state.proofs.rank_memory.mail.Mail.send.Goals.{After-put_at-count, After-append}
use Rattle.lemmas.proofs.Lists.{refilled}

abbrev of_parts : List Post → ℕ → Box
of_parts ps n = record { posts = ps; left = n }

letter_is : (c : After-append) → Letter
letter_is c = record { item = c.args.item; from = c.args.from; to = c.args.to; at = c.make_room-at.result; count = c.put_at-count.result; is_read = false }

-- the buffer after the pass, and after the message
once : (c : After-put_at-count) → (with_items c.self.inside.cells c.make_room-at.new.cells).items ≡ c.make_room-at.new.cells
once c = refilled c.self.inside.cells c.make_room-at.new.cells (c.make_room-at.auto.cells ∙ ap length c.deref_mut-2.ensures.value)

given : (c : After-put_at-count) → c.deref_mut-3.result.now ≡ c.make_room-at.new.cells
given c = c.deref_mut-3.ensures.value ∙ once c

long : (c : After-put_at-count) → length c.put_at-count.new.cells ≡ length c.self.inside.cells.items
long c = c.put_at-count.auto.cells ∙ ap length (given c) ∙ c.make_room-at.auto.cells ∙ ap length c.deref_mut-2.ensures.value

twice : (c : After-put_at-count) → (with_items (with_items c.self.inside.cells c.make_room-at.new.cells) c.put_at-count.new.cells).items ≡ c.put_at-count.new.cells
twice c = refilled (with_items c.self.inside.cells c.make_room-at.new.cells) c.put_at-count.new.cells (c.put_at-count.auto.cells ∙ ap length c.deref_mut-3.ensures.value)

room : (c : After-put_at-count) → total c.args.spans.now ≤ c.self.inside.left
room c = subst (λ (b : Box). total c.args.spans.now ≤ b.left) (sym c.self.view_is) c.requires.room

fits : (c : After-put_at-count) → c.make_room-at.result + c.put_at-count.result ≤ length c.self.inside.cells.items
fits c = (let inv = c.self.invariant in omega (arith, inv.3, c.make_room-at.ensures.room, c.put_at-count.ensures.count, room c))

pub append-requires-clause-room : goal.append-requires-clause-room
append-requires-clause-room c =
    let inv = c.self.invariant in
    let d = (goal.at.append-requires-clause-room c).After-put_at-count in
    omega (
      arith,
      c.make_room-at.new.letters.ok.0,
      order_length 0 c.make_room-at.result c.make_room-at.new.letters.items
          c.make_room-at.ensures.order,
      inv.4,
      fits d,
      c.make_room-at.ensures.capacity,
      c.put_at-count.ensures.count,
      c.requires.some,
    )

pub append-requires-clause-next_room : goal.append-requires-clause-next_room
append-requires-clause-next_room c =
    let inv = c.self.invariant in
    let d = (goal.at.append-requires-clause-next_room c).After-put_at-count in
    omega (
      arith,
      c.make_room-at.new.next.ok.0,
      c.make_room-at.ensures.next,
      order_length 0 c.make_room-at.result c.make_room-at.new.letters.items c.make_room-at.ensures.order,
      inv.5,
      fits d,
      c.make_room-at.ensures.next_capacity,
      c.put_at-count.ensures.count,
      c.requires.some,
    )

queues_twice : (c : After-append) → (with_items (with_items c.self.inside.queues c.make_room-at.new.queues) c.append.new.queues).items ≡ c.append.new.queues
queues_twice c = refilled (with_items c.self.inside.queues c.make_room-at.new.queues) c.append.new.queues (c.append.auto.queues ∙ ap length c.deref_mut-4.ensures.value)

queues_once : (c : After-append) → (with_items c.self.inside.queues c.make_room-at.new.queues).items ≡ c.make_room-at.new.queues
queues_once c = refilled c.self.inside.queues c.make_room-at.new.queues (c.make_room-at.auto.queues ∙ ap length c.deref_mut.ensures.value)

queues_long : (c : After-append) → length c.append.new.queues ≡ length c.self.inside.queues.items
queues_long c = c.append.auto.queues ∙ ap length c.deref_mut-4.ensures.value ∙ ap length (queues_once c) ∙ c.make_room-at.auto.queues ∙ ap length c.deref_mut.ensures.value

pub invariant_of-self : goal.invariant_of-self
unfolding letter_is
invariant_of-self c =
    let inv = c.self.invariant in
    let d = (goal.at.invariant_of-self c).After-put_at-count in
    let all : length (with_items (with_items c.self.inside.cells c.make_room-at.new.cells) c.put_at-count.new.cells).items ≡ length c.self.inside.cells.items = ap length (twice d) ∙ long d in
    let e = (goal.at.invariant_of-self c).After-append in
    let same : length (with_items (with_items c.self.inside.queues c.make_room-at.new.queues) c.append.new.queues).items ≡ length
    c.self.inside.queues.items = ap length (queues_twice e) ∙ queues_long e in
    let some_queue : 0 < length (with_items (with_items c.self.inside.queues c.make_room-at.new.queues) c.append.new.queues).items = omega (arith, inv.7) in
    let some : 0 < c.put_at-count.result = omega (arith, c.put_at-count.ensures.count, c.requires.some) in
    let end : InOrder c.make_room-at.result (c.make_room-at.result + c.put_at-count.result) (letter_is (goal.at.invariant_of-self c).After-append ∷ []) = (omega arith, some, omega arith) in
    let order : InOrder 0 (c.make_room-at.result + c.put_at-count.result) (c.make_room-at.new.letters.items ++ letter_is (goal.at.invariant_of-self c).After-append ∷ []) =
    order_append 0 c.make_room-at.result (c.make_room-at.result + c.put_at-count.result) c.make_room-at.new.letters.items
    (letter_is (goal.at.invariant_of-self c).After-append ∷ []) c.make_room-at.ensures.order end in
    let sum : unread_cells c.append.new.letters.items ≡ unread_cells c.make_room-at.new.letters.items + (c.put_at-count.result + 0) =
    ap unread_cells c.append.ensures.letters ∙ unread_append c.make_room-at.new.letters.items (letter_is (goal.at.invariant_of-self c).After-append ∷ []) in (
      subst (InOrder 0 (c.make_room-at.result + c.put_at-count.result)) (sym c.append.ensures.letters) order,
      omega (arith, fits d),
      omega (arith, c.make_room-at.ensures.unread),
      omega (arith, inv.3, room d, c.put_at-count.ensures.count),
      omega (arith, inv.4, c.append.ensures.capacity, c.make_room-at.ensures.capacity),
      omega (arith, inv.5, c.append.ensures.next_capacity, c.make_room-at.ensures.next_capacity),
      c.append.ensures.next,
      some_queue,
      same_queues c.append.new.queues (with_items (with_items c.self.inside.queues c.make_room-at.new.queues) c.append.new.queues).items
          c.append.new.next.items c.append.new.next.items c.append.new.letters.items c.append.new.letters.items
          (length c.append.new.letters.items) (length c.append.new.letters.items) (sym (queues_twice e)) refl refl refl c.append.ensures.queued,
    )

pub returns : goal.returns
unfolding letter_is
returns c =
    let d = (goal.at.returns c).After-put_at-count in
    let before : take c.make_room-at.result c.put_at-count.new.cells ≡ take c.make_room-at.result c.make_room-at.new.cells =
    c.put_at-count.ensures.before ∙ ap (take c.make_room-at.result) (given d) in
    let values : take c.put_at-count.result (drop c.make_room-at.result c.put_at-count.new.cells) ≡ gathered c.args.memory.now c.args.spans.now =
    ap (λ n. take n (drop c.make_room-at.result c.put_at-count.new.cells)) c.put_at-count.ensures.count ∙ c.put_at-count.ensures.here in
    let posts : posts_in c.append.new.letters.items (with_items (with_items c.self.inside.cells c.make_room-at.new.cells) c.put_at-count.new.cells).items
    ≡ posts_in c.self.inside.letters.items c.self.inside.cells.items ++ post_with (letter_is (goal.at.returns c).After-append) (gathered c.args.memory.now c.args.spans.now) ∷ [] =
    ap₂ posts_in c.append.ensures.letters (twice d)
    ∙ posts_append c.make_room-at.new.letters.items (letter_is (goal.at.returns c).After-append ∷ []) c.put_at-count.new.cells
    ∙ ap₂ (λ ps vs. ps ++ post_with (letter_is (goal.at.returns c).After-append) vs ∷ [])
    (front_same c.make_room-at.result c.make_room-at.new.letters.items c.put_at-count.new.cells c.make_room-at.new.cells c.make_room-at.ensures.order before
    ∙ c.make_room-at.ensures.posts ∙ ap (posts_in c.self.inside.letters.items) c.deref_mut-2.ensures.value) values in
    let left : c.self.inside.left - c.put_at-count.result ≡ c.self.inside.left - length (gathered c.args.memory.now c.args.spans.now) =
    omega (arith, gathered_length c.args.memory.now c.args.spans.now c.requires.inside, c.put_at-count.ensures.count) in
    subst (λ (b : Box). of_parts (posts_in c.append.new.letters.items
    (with_items (with_items c.self.inside.cells c.make_room-at.new.cells) c.put_at-count.new.cells).items)
    (c.self.inside.left - c.put_at-count.result)
    ≡ sent c.args.item c.args.from c.args.to (gathered c.args.memory.now c.args.spans.now) b) c.self.view_is
    (ap₂ of_parts posts left)
