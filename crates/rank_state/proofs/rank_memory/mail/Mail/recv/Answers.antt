use Rattle.std.proofs.Common.{rules, ◌≡◌, ℕ, ◌+◌, ◌<◌, ◌≤◌, List, length, get_or, set, refl, sym, ap, ap₂, ◌∙◌, subst, arith, length-set}
use Rattle.std.specs.Vec.{with_items}
use Rattle.rank_state.specs.declared.rank_memory.mail.Letter.{Letter}
use Rattle.rank_state.specs.Spans.{total, scattered, cells_at}
use Rattle.rank_state.specs.Mail.{Post, Box, Carries, first_post, without_first, received, arrived}
use Rattle.rank_state.specs.Letters.{posts_in, unread_cells, InOrder, index_of, found, no_letter, read_of}
use Rattle.rank_state.proofs.rank_memory.Letters.{order_at}
use Rattle.rank_state.proofs.rank_memory.Finding.{has_letter, whole_message, first_found, rest_read, unread_read, order_read}
use Rattle.rank_state.specs.Queues.{Queued}
use Rattle.rank_state.proofs.rank_memory.Queued.{alike, read_alike, same_queues}
use Rattle.rank_state.proofs.rank_memory.mail.Mail.recv.Goals as goal
use Rattle.rank_state.proofs.rank_memory.mail.Mail.recv.Goals.{After-deref-5, After-read-count}
use Rattle.lemmas.proofs.Lists.{refilled}

abbrev of_parts : List Post → ℕ → Box
of_parts ps n = record { posts = ps; left = n }

carries : (c : After-deref-5) → Carries c.args.item c.args.from c.args.to (total c.args.spans.now) (of_parts (posts_in c.self.inside.letters.items c.self.inside.cells.items) c.self.inside.left)
carries c = subst (λ (b : Box). Carries c.args.item c.args.from c.args.to (total c.args.spans.now) b) (sym c.self.view_is) c.requires.oldest

-- the message is there, whole
has : (c : After-deref-5) → index_of c.args.from c.args.to c.self.inside.letters.items < length c.self.inside.letters.items
has c = has_letter c.args.from c.args.to c.args.item (total c.args.spans.now) c.self.inside.letters.items c.self.inside.cells.items (carries c)

whole : (c : After-deref-5) → total c.args.spans.now ≡ (found c.args.from c.args.to c.self.inside.letters.items).count
whole c = whole_message c.args.from c.args.to c.args.item (total c.args.spans.now) c.self.inside.filled c.self.inside.letters.items
    c.self.inside.cells.items (carries c) c.self.invariant.0 c.self.invariant.1

pub find-index-requires-clause-has : goal.find-index-requires-clause-has
find-index-requires-clause-has c = subst (λ ls. index_of c.args.from c.args.to ls < length ls) (sym c.deref-5.ensures.value) (has (goal.at.find-index-requires-clause-has c).After-deref-5)

-- what the call of `read` is given
index_is : (c : After-read-count) → c.find-index.result ≡ index_of c.args.from c.args.to c.self.inside.letters.items
index_is c = c.find-index.ensures ∙ ap (index_of c.args.from c.args.to) c.deref-5.ensures.value

pub read-count-requires-clause-index : goal.read-count-requires-clause-index
read-count-requires-clause-index c =
    let e : c.find-index.result ≡ index_of c.args.from c.args.to c.self.inside.letters.items = c.find-index.ensures ∙ ap (index_of c.args.from c.args.to) c.deref-5.ensures.value in
    let n : length c.deref_mut-2.result.now ≡ length c.self.inside.letters.items = ap length c.deref_mut-2.ensures.value in
    omega (arith, has (goal.at.read-count-requires-clause-index c).After-deref-5)

pub read-count-requires-clause-part : goal.read-count-requires-clause-part
read-count-requires-clause-part c =
    let e : c.find-index.result ≡ index_of c.args.from c.args.to c.self.inside.letters.items = c.find-index.ensures ∙ ap (index_of c.args.from c.args.to) c.deref-5.ensures.value in
    let h = has (goal.at.read-count-requires-clause-part c).After-deref-5 in
    let n : length c.deref-6.result.now ≡ length c.self.inside.cells.items = ap length c.deref-6.ensures.value in
    let inside : (get_or c.self.inside.letters.items c.find-index.result no_letter).at + (get_or c.self.inside.letters.items c.find-index.result no_letter).count ≤ c.self.inside.filled =
    order_at 0 c.self.inside.filled c.find-index.result c.self.inside.letters.items c.self.invariant.0 (omega arith) in
    let same : (get_or c.deref_mut-2.result.now c.find-index.result no_letter).at + (get_or c.deref_mut-2.result.now c.find-index.result no_letter).count
    ≡ (get_or c.self.inside.letters.items c.find-index.result no_letter).at + (get_or c.self.inside.letters.items c.find-index.result no_letter).count =
    ap (λ ls. (get_or ls c.find-index.result no_letter).at + (get_or ls c.find-index.result no_letter).count) c.deref_mut-2.ensures.value in
    omega (arith, c.self.invariant.1)

pub read-count-requires-clause-room : goal.read-count-requires-clause-room
read-count-requires-clause-room c =
    let e : c.find-index.result ≡ index_of c.args.from c.args.to c.self.inside.letters.items = c.find-index.ensures ∙ ap (index_of c.args.from c.args.to) c.deref-5.ensures.value in
    let same : (get_or c.deref_mut-2.result.now c.find-index.result no_letter).count ≡ (found c.args.from c.args.to c.self.inside.letters.items).count =
    ap₂ (λ ls i. (get_or ls i no_letter).count) c.deref_mut-2.ensures.value e in
    omega (arith, whole (goal.at.read-count-requires-clause-room c).After-deref-5)

-- what it answers
letter_is : (c : After-read-count) → get_or c.deref_mut-2.result.now c.find-index.result no_letter ≡ found c.args.from c.args.to c.self.inside.letters.items
letter_is c = ap₂ (λ ls i. get_or ls i no_letter) c.deref_mut-2.ensures.value (index_is c)

count_is : (c : After-read-count) → c.read-count.result ≡ (found c.args.from c.args.to c.self.inside.letters.items).count
count_is c = c.read-count.ensures.count ∙ ap (λ (l : Letter). l.count) (letter_is c)

letters_are : (c : After-read-count) → (with_items c.self.inside.letters c.read-count.new.letters).items
    ≡ set c.self.inside.letters.items (index_of c.args.from c.args.to c.self.inside.letters.items) (read_of (found c.args.from c.args.to c.self.inside.letters.items))
letters_are c =
    refilled c.self.inside.letters c.read-count.new.letters (c.read-count.auto.letters ∙ ap length c.deref_mut-2.ensures.value)
    ∙ c.read-count.ensures.letters
    ∙ ap₂ (λ ls l. set ls c.find-index.result (read_of l)) c.deref_mut-2.ensures.value (letter_is c)
    ∙ ap (λ i. set c.self.inside.letters.items i (read_of (found c.args.from c.args.to c.self.inside.letters.items))) (index_is c)

fewer : (c : After-read-count) → index_of c.args.from c.args.to c.self.inside.letters.items < length c.self.inside.letters.items
    → unread_cells (set c.self.inside.letters.items (index_of c.args.from c.args.to c.self.inside.letters.items)
    (read_of (found c.args.from c.args.to c.self.inside.letters.items))) + c.read-count.result ≡ c.self.inside.unread
fewer c h = (let e = unread_read c.args.from c.args.to c.self.inside.letters.items h in omega (arith, count_is c, c.self.invariant.2))

pub overflow_sub-self : goal.overflow_sub-self
overflow_sub-self c = omega (arith, fewer (goal.at.overflow_sub-self c).After-read-count (has (goal.at.overflow_sub-self c).After-deref-5))

pub overflow_add-self : goal.overflow_add-self
overflow_add-self c = (let e = fewer (goal.at.overflow_add-self c).After-read-count (has (goal.at.overflow_add-self c).After-deref-5) in
    let inv = c.self.invariant in let n = c.self.inside.cells.ok.0 in search rules)

-- the queues, with the letter read
queues_are : (c : After-read-count) → (with_items c.self.inside.queues c.pass_read.new.queues).items ≡ c.pass_read.new.queues
queues_are c = refilled c.self.inside.queues c.pass_read.new.queues (c.pass_read.auto.queues ∙ ap length c.deref_mut.ensures.value)

queued : (c : After-read-count) → index_of c.args.from c.args.to c.self.inside.letters.items < length c.self.inside.letters.items
    → Queued (with_items c.self.inside.queues c.pass_read.new.queues).items c.self.inside.next.items
    (with_items c.self.inside.letters c.read-count.new.letters).items
    (length (with_items c.self.inside.letters c.read-count.new.letters).items)
queued c h =
    let i = index_of c.args.from c.args.to c.self.inside.letters.items in
    let ls = c.self.inside.letters.items in
    let passed : Queued c.pass_read.new.queues c.self.inside.next.items c.self.inside.letters.items (length c.self.inside.letters.items) =
    same_queues c.pass_read.new.queues c.pass_read.new.queues c.deref.result.now c.self.inside.next.items c.deref-2.result.now
    c.self.inside.letters.items (length c.deref-2.result.now) (length c.self.inside.letters.items)
    refl c.deref.ensures.value c.deref-2.ensures.value (ap length c.deref-2.ensures.value) c.pass_read.ensures in
    let marked : List Letter = set c.self.inside.letters.items (index_of c.args.from c.args.to c.self.inside.letters.items) (read_of (found c.args.from c.args.to c.self.inside.letters.items)) in
    let read : Queued c.pass_read.new.queues c.self.inside.next.items
    (set c.self.inside.letters.items (index_of c.args.from c.args.to c.self.inside.letters.items)
    (read_of (found c.args.from c.args.to c.self.inside.letters.items))) (length c.self.inside.letters.items) =
    alike c.pass_read.new.queues c.self.inside.letters.items
    (set c.self.inside.letters.items (index_of c.args.from c.args.to c.self.inside.letters.items)
    (read_of (found c.args.from c.args.to c.self.inside.letters.items))) c.self.inside.next.items c.self.inside.next.items
    (length c.self.inside.letters.items)
    (read_alike (length c.pass_read.new.queues) (index_of c.args.from c.args.to c.self.inside.letters.items)
    (length c.self.inside.letters.items) c.self.inside.letters.items c.self.inside.next.items h) passed in
    let long : length c.self.inside.letters.items ≡ length (with_items c.self.inside.letters c.read-count.new.letters).items =
    sym (ap length (letters_are c) ∙ length-set c.self.inside.letters.items (index_of c.args.from c.args.to c.self.inside.letters.items)
    (read_of (found c.args.from c.args.to c.self.inside.letters.items))) in
    same_queues c.pass_read.new.queues (with_items c.self.inside.queues c.pass_read.new.queues).items c.self.inside.next.items c.self.inside.next.items
    (set c.self.inside.letters.items (index_of c.args.from c.args.to c.self.inside.letters.items)
    (read_of (found c.args.from c.args.to c.self.inside.letters.items)))
    (with_items c.self.inside.letters c.read-count.new.letters).items
    (length c.self.inside.letters.items) (length (with_items c.self.inside.letters c.read-count.new.letters).items) (sym (queues_are c)) refl (sym (letters_are c)) long read

pub invariant_of-self : goal.invariant_of-self
invariant_of-self c =
    let d = (goal.at.invariant_of-self c).After-read-count in
    let inv = c.self.invariant in
    let same : length (with_items c.self.inside.queues c.pass_read.new.queues).items ≡ length c.self.inside.queues.items =
    ap length (queues_are d) ∙ c.pass_read.auto.queues ∙ ap length c.deref_mut.ensures.value in
    let some_queue : 0 < length (with_items c.self.inside.queues c.pass_read.new.queues).items = omega (arith, inv.7) in
    let less : unread_cells (with_items c.self.inside.letters c.read-count.new.letters).items + c.read-count.result ≡ c.self.inside.unread =
    ap (λ ls. unread_cells ls + c.read-count.result) (letters_are d) ∙ fewer d (has (goal.at.invariant_of-self c).After-deref-5) in (
      subst (InOrder 0 c.self.inside.filled) (sym (letters_are d)) (order_read 0 c.self.inside.filled (index_of c.args.from c.args.to c.self.inside.letters.items) c.self.inside.letters.items inv.0),
      inv.1,
      omega arith,
      omega (arith, inv.3),
      inv.4,
      inv.5,
      inv.6 ∙ sym (ap length (letters_are d) ∙ length-set c.self.inside.letters.items
          (index_of c.args.from c.args.to c.self.inside.letters.items) (read_of (found c.args.from c.args.to c.self.inside.letters.items))),
      some_queue,
      queued d (has (goal.at.invariant_of-self c).After-deref-5),
    )

pub returns-clause-mail : goal.returns-clause-mail
returns-clause-mail c =
    let d = (goal.at.returns-clause-mail c).After-read-count in
    let posts : posts_in (with_items c.self.inside.letters c.read-count.new.letters).items c.self.inside.cells.items ≡ without_first
    c.args.from c.args.to (posts_in c.self.inside.letters.items c.self.inside.cells.items) =
    ap (λ ls. posts_in ls c.self.inside.cells.items) (letters_are d)
    ∙ rest_read c.args.from c.args.to c.self.inside.letters.items c.self.inside.cells.items
    (has (goal.at.returns-clause-mail c).After-deref-5) in
    let left : c.self.inside.left + c.read-count.result ≡ c.self.inside.left + total c.args.spans.now = omega (arith, count_is d, whole (goal.at.returns-clause-mail c).After-deref-5) in
    subst (λ (b : Box). of_parts (posts_in (with_items c.self.inside.letters c.read-count.new.letters).items c.self.inside.cells.items)
    (c.self.inside.left + c.read-count.result) ≡ received c.args.from c.args.to (total c.args.spans.now) b) c.self.view_is
    (ap₂ of_parts posts left)

pub returns-clause-memory : goal.returns-clause-memory
returns-clause-memory c =
    let d = (goal.at.returns-clause-memory c).After-read-count in
    c.read-count.ensures.memory
    ∙ ap₂ (λ (l : Letter) cs. scattered 0 (cells_at l.at l.count cs) c.args.spans.now c.args.memory.now) (letter_is d) c.deref-6.ensures.value
    ∙ ap (λ o. arrived c.args.spans.now o c.args.memory.now)
    (sym (first_found c.args.from c.args.to c.self.inside.letters.items c.self.inside.cells.items
    (has (goal.at.returns-clause-memory c).After-deref-5)))
    ∙ ap (λ (b : Box). arrived c.args.spans.now (first_post c.args.from c.args.to b.posts) c.args.memory.now) c.self.view_is
