-- Queues of letters: letters that change, and letters that are appended.
use Rattle.std.proofs.Common.{◌≡◌, ◌≢◌, ℕ, suc, ◌%◌, ◌<◌, ◌≤◌, true, false, List, ◌++◌, length, get_or, set, Option, Some, None, refl, sym, ap, ◌∙◌, subst, arith, ⊎_elim, get_or-set_other, get_or-set_same, length-set}
use Rattle.std.proofs.lemmas.Bool.{cases_eq, true≢false}
use Rattle.std.proofs.Math.ListN.{get_or-append}
use Rattle.rank_state.specs.declared.rank_memory.mail.Letter.{Letter}
use Rattle.rank_state.specs.declared.rank_memory.mail.queues.Queue.{Queue}
use Rattle.rank_state.specs.Letters.{no_letter, read_of}
use Rattle.rank_state.specs.Queues.{queue_at, IsNext, Waits, Links, IsQueue, Queued}

-- letters that change keep their queues, where none of them becomes unread
pub record Alike (n : ℕ) (ls ks : List Letter) (next after : List (Option ℕ)) (c : ℕ) : Type 0 where
  pub queues : (m : ℕ) → m < c → queue_at n ks m ≡ queue_at n ls m
  pub unread : (m : ℕ) → m < c → (get_or ks m no_letter).is_read ≡ false → (get_or ls m no_letter).is_read ≡ false
  pub steps : (m : ℕ) → m < c → get_or after m None ≡ get_or next m None

alike_next : (n c i : ℕ) (ls ks : List Letter) → ((m : ℕ) → m < c → queue_at n ks m ≡ queue_at n ls m) → i < c → (o : Option ℕ) → IsNext n ls c i o → IsNext n ks c i o
alike_next n c i ls ks same h None q = λ m a b e. q m a b (sym (same m b) ∙ e ∙ same i h)
alike_next n c i ls ks same h (Some j) q = (q.0, q.1, same j q.1 ∙ q.2 ∙ sym (same i h), λ m a b e. q.3 m a b (sym (same m (omega (arith, q.1))) ∙ e ∙ same i h))

alike_waits : (n c k m : ℕ) (ls ks : List Letter) (next after : List (Option ℕ)) → Alike n ls ks next after c → m < c → Waits n ks k m → Waits n ls k m
alike_waits n c k m ls ks next after a h w = (sym (a.queues m h) ∙ w.0, a.unread m h w.1)

alike_queue : (n c k : ℕ) (ls ks : List Letter) (next after : List (Option ℕ)) → Alike n ls ks next after c → (o : Option Queue) → IsQueue n ls next c k o → IsQueue n ks after c k o
alike_queue n c k ls ks next after a None q = λ m h w. q m h (alike_waits n c k m ls ks next after a h w)
alike_queue n c k ls ks next after a (Some w) q = record {
  first_in = q.first_in;
  first_of = a.queues w.first q.first_in ∙ q.first_of;
  last_in = q.last_in;
  last_of = a.queues w.last q.last_in ∙ q.last_of;
  unread = λ m h u. q.unread m h (alike_waits n c k m ls ks next after a h u);
  all = λ m h e. q.all m h (sym (a.queues m h) ∙ e);
  steps = λ i low h e. subst (IsNext n ks c i) (sym (a.steps i h)) (alike_next n c i ls ks a.queues h (get_or next i None) (q.steps i low h (sym (a.queues i h) ∙ e)));
}

pub alike : (queues : List (Option Queue)) (ls ks : List Letter) (next after : List (Option ℕ)) (c : ℕ) → Alike (length queues) ls ks next after c → Queued queues next ls c → Queued queues after ks c
alike queues ls ks next after c a q = λ k h. alike_queue (length queues) c k ls ks next after a (get_or queues k None) (q k h)

-- one more letter, of another queue
other_next : (n c i : ℕ) (ls : List Letter) → queue_at n ls c ≢ queue_at n ls i → (o : Option ℕ) → IsNext n ls c i o → IsNext n ls (suc c) i o
other_next n c i ls ne None q = λ m a b. ⊎_elim (λ (e : m ≡ c). subst (λ j. queue_at n ls j ≢ queue_at n ls i) (sym e) ne) (λ (d : m ≢ c). q m a (omega arith)) (cases_eq m c)
other_next n c i ls ne (Some j) q = (q.0, omega (arith, q.1), q.2, q.3)

other_queue : (n c k : ℕ) (ls : List Letter) (next after : List (Option ℕ)) → queue_at n ls c ≢ k → ((m : ℕ) → m < c → queue_at n ls m ≡ k → get_or after m None ≡ get_or next m None)
    → (o : Option Queue) → IsQueue n ls next c k o → IsQueue n ls after (suc c) k o
other_queue n c k ls next after ne same None q = λ m h w. ⊎_elim (λ (e : m ≡ c). ne (subst (λ j. queue_at n ls j ≡ k) e w.0)) (λ (d : m ≢ c). q m (omega arith) w) (cases_eq m c)
other_queue n c k ls next after ne same (Some w) q = record {
  first_in = omega (arith, q.first_in);
  first_of = q.first_of;
  last_in = omega (arith, q.last_in);
  last_of = q.last_of;
  unread = λ m h u. ⊎_elim (λ (e : m ≡ c). absurd (ne (subst (λ j. queue_at n ls j ≡ k) e u.0))) (λ (d : m ≢ c). q.unread m (omega arith) u) (cases_eq m c);
  all = λ m h e. ⊎_elim (λ (s : m ≡ c). absurd (ne (subst (λ j. queue_at n ls j ≡ k) s e))) (λ (d : m ≢ c). q.all m (omega arith) e) (cases_eq m c);
  steps = λ i low h e. ⊎_elim
      (λ (s : i ≡ c). absurd (ne (subst (λ j. queue_at n ls j ≡ k) s e)))
      (λ (d : i ≢ c).
      let lt : i < c = omega arith in
      let apart : queue_at n ls c ≢ queue_at n ls i = λ t. ne (t ∙ e) in
      subst (IsNext n ls (suc c) i) (sym (same i lt e)) (other_next n c i ls apart (get_or next i None) (q.steps i low lt e)))
      (cases_eq i c);
}

-- one more letter, of this queue
first_link : (n c k : ℕ) (ls : List Letter) (next after : List (Option ℕ)) (w : Queue) → queue_at n ls c ≡ k → w.first ≡ c → w.last ≡ c → get_or after c None ≡ None
    → IsQueue n ls next c k None → Links n ls after (suc c) k w
first_link n c k ls next after w here f l nothing q = record {
  first_in = omega arith;
  first_of = ap (queue_at n ls) f ∙ here;
  last_in = omega arith;
  last_of = ap (queue_at n ls) l ∙ here;
  unread = λ m h u. ⊎_elim (λ (e : m ≡ c). omega arith) (λ (d : m ≢ c). absurd (q m (omega arith) u)) (cases_eq m c);
  all = λ m h e. omega arith;
  steps = λ i low h e.
      let s : i ≡ c = omega arith in
      subst (IsNext n ls (suc c) i) (sym (ap (λ j. get_or after j None) s ∙ nothing)) (λ m a b. absurd (omega arith));
}

earlier_next : (n c i j k : ℕ) (ls : List Letter) → i < j → j < c → queue_at n ls i ≡ k → queue_at n ls j ≡ k → (o : Option ℕ) → IsNext n ls c i o → IsNext n ls (suc c) i o
earlier_next n c i j k ls lt h e f None q = absurd (q j lt h (f ∙ sym e))
earlier_next n c i j k ls lt h e f (Some t) q = (q.0, omega (arith, q.1), q.2, q.3)

more_links : (n c k : ℕ) (ls : List Letter) (next after : List (Option ℕ)) (w v : Queue) → queue_at n ls c ≡ k → v.first ≡ w.first → v.last ≡ c → get_or after c None ≡ None
    → get_or after w.last None ≡ Some c → ((m : ℕ) → m < w.last → get_or after m None ≡ get_or next m None)
    → Links n ls next c k w → Links n ls after (suc c) k v
more_links n c k ls next after w v here f l nothing joined same q = record {
  first_in = omega (arith, q.first_in);
  first_of = ap (queue_at n ls) f ∙ q.first_of;
  last_in = omega arith;
  last_of = ap (queue_at n ls) l ∙ here;
  unread = λ m h u. ⊎_elim (λ (e : m ≡ c). omega (arith, q.first_in)) (λ (d : m ≢ c). omega (arith, q.unread m (omega arith) u)) (cases_eq m c);
  all = λ m h e. omega arith;
  steps = λ i low h e. ⊎_elim
      (λ (s : i ≡ c). subst (IsNext n ls (suc c) i) (sym (ap (λ j. get_or after j None) s ∙ nothing)) (λ m a b. absurd (omega arith)))
      (λ (d : i ≢ c).
      let lt : i < c = omega arith in
      let le = q.all i lt e in
      ⊎_elim
      (λ (s : i ≡ w.last). subst (IsNext n ls (suc c) i) (sym (ap (λ j. get_or after j None) s ∙ joined))
      (lt, omega arith, here ∙ sym e, λ m a b t. let far = q.all m b (t ∙ e) in absurd (omega arith)))
      (λ (d' : i ≢ w.last).
      let before : i < w.last = omega arith in
      subst (IsNext n ls (suc c) i) (sym (same i before)) (earlier_next n c i w.last k ls before q.last_in e q.last_of (get_or next i None) (q.steps i (omega arith) lt e)))
      (cases_eq i w.last))
      (cases_eq i c);
}

-- one queue is put, the others stay
put_queue : (queues : List (Option Queue)) (after : List (Option ℕ)) (ls : List Letter) (c k : ℕ) (o : Option Queue) → k < length queues → IsQueue (length queues) ls after c k o
    → ((i : ℕ) → i < length queues → i ≢ k → IsQueue (length queues) ls after c i (get_or queues i None)) → Queued (set queues k o) after ls c
put_queue queues after ls c k o h here others =
    let n : length (set queues k o) ≡ length queues = length-set queues k o in
    subst (λ m. (i : ℕ) → i < m → IsQueue m ls after c i (get_or (set queues k o) i None)) (sym n)
    (λ i lt. ⊎_elim
    (λ (e : i ≡ k). subst (λ j. IsQueue (length queues) ls after c j (get_or (set queues k o) j None)) (sym e)
    (subst (IsQueue (length queues) ls after c k) (sym (get_or-set_same queues k o None h)) here))
    (λ (d : i ≢ k). subst (IsQueue (length queues) ls after c i) (sym (get_or-set_other queues k i o None d)) (others i lt d))
    (cases_eq i k))

-- a letter is linked as the first of its queue, or behind the last
pub linked_first : (queues : List (Option Queue)) (next after : List (Option ℕ)) (ls : List Letter) (c : ℕ) (w : Queue) → queue_at (length queues) ls c < length queues
    → get_or queues (queue_at (length queues) ls c) None ≡ None → w.first ≡ c → w.last ≡ c → c < length next → after ≡ set next c None
    → Queued queues next ls c → Queued (set queues (queue_at (length queues) ls c) (Some w)) after ls (suc c)
linked_first queues next after ls c w lt nothing f l room e q =
    let n = length queues in
    let k = queue_at (length queues) ls c in
    let alone : get_or after c None ≡ None = ap (λ ps. get_or ps c None) e ∙ get_or-set_same next c None None room in
    let empty : IsQueue (length queues) ls next c (queue_at (length queues) ls c) None =
    subst (IsQueue (length queues) ls next c (queue_at (length queues) ls c)) nothing (q (queue_at (length queues) ls c) lt) in
    put_queue queues after ls (suc c) (queue_at (length queues) ls c) (Some w) lt
    (first_link (length queues) c (queue_at (length queues) ls c) ls next after w refl f l alone empty)
    (λ i h d. other_queue (length queues) c i ls next after (λ t. d (sym t))
    (λ m b s. let ne : m ≢ c = omega arith in ap (λ ps. get_or ps m None) e ∙ get_or-set_other next c m None None ne)
    (get_or queues i None) (q i h))

pub linked_more : (queues : List (Option Queue)) (next after : List (Option ℕ)) (ls : List Letter) (c : ℕ) (v w : Queue) → queue_at (length queues) ls c < length queues
    → get_or queues (queue_at (length queues) ls c) None ≡ Some v → w.first ≡ v.first → w.last ≡ c → c < length next → after ≡ set (set next c None) v.last (Some c)
    → Queued queues next ls c → Queued (set queues (queue_at (length queues) ls c) (Some w)) after ls (suc c)
linked_more queues next after ls c v w lt there f l room e q =
    let old : Links (length queues) ls next c (queue_at (length queues) ls c) v =
    subst (IsQueue (length queues) ls next c (queue_at (length queues) ls c)) there (q (queue_at (length queues) ls c) lt) in
    let before = old.last_in in
    let ne : c ≢ v.last = omega arith in
    let wide : v.last < length (set next c None) = (let s = length-set next c None in omega arith) in
    let alone : get_or after c None ≡ None = ap (λ ps. get_or ps c None) e ∙ get_or-set_other (set next c None) v.last c (Some c) None ne ∙ get_or-set_same next c None None room in
    let joined : get_or after v.last None ≡ Some c = ap (λ ps. get_or ps v.last None) e ∙ get_or-set_same (set next c None) v.last (Some c) None wide in
    let same : (m : ℕ) → m < c → m ≢ v.last → get_or after m None ≡ get_or next m None =
    (λ m b d. let far : m ≢ c = omega arith in ap (λ ps. get_or ps m None) e ∙ get_or-set_other (set next c None) v.last m (Some c) None d ∙ get_or-set_other next c m None None far) in
    put_queue queues after ls (suc c) (queue_at (length queues) ls c) (Some w) lt
    (more_links (length queues) c (queue_at (length queues) ls c) ls next after v w refl f l alone joined (λ m b. same m (omega arith) (omega arith)) old)
    (λ i h d. other_queue (length queues) c i ls next after (λ t. d (sym t))
    (λ m b s. same m b (λ t. d (sym s ∙ ap (queue_at (length queues) ls) t ∙ old.last_of)))
    (get_or queues i None) (q i h))

-- queues that are let go: those whose first letter comes behind a place are left
abbrev pub Ahead : ℕ → List Letter → ℕ → ℕ → Option Queue → Type 0
Ahead n ls i k None = Unit {0}
Ahead n ls i k (Some w) = (i ≤ w.first) × (w.first < length ls) × (queue_at n ls w.first ≡ k)

-- a letter that is read stays in its queue
pub read_alike : (n i c : ℕ) (ls : List Letter) (next : List (Option ℕ)) → i < length ls → Alike n ls (set ls i (read_of (get_or ls i no_letter))) next next c
read_alike n i c ls next h = record {
  queues = λ m b. ⊎_elim
      (λ (e : m ≡ i). ap (queue_at n (set ls i (read_of (get_or ls i no_letter)))) e
      ∙ ap (λ (l : Letter). l.to % n) (get_or-set_same ls i (read_of (get_or ls i no_letter)) no_letter h) ∙ ap (queue_at n ls) (sym e))
      (λ (d : m ≢ i). ap (λ (l : Letter). l.to % n) (get_or-set_other ls i m (read_of (get_or ls i no_letter)) no_letter d))
      (cases_eq m i);
  unread = λ m b u. ⊎_elim
      (λ (e : m ≡ i). let r : (get_or (set ls i (read_of (get_or ls i no_letter))) m no_letter).is_read ≡ true =
      ap (λ j. (get_or (set ls i (read_of (get_or ls i no_letter))) j no_letter).is_read) e
      ∙ ap (λ (l : Letter). l.is_read) (get_or-set_same ls i (read_of (get_or ls i no_letter)) no_letter h) in
      absurd (true≢false (sym r ∙ u)))
      (λ (d : m ≢ i). ap (λ (l : Letter). l.is_read) (sym (get_or-set_other ls i m (read_of (get_or ls i no_letter)) no_letter d)) ∙ u)
      (cases_eq m i);
  steps = λ m b. refl;
}

-- a letter behind the others leaves their queues as they are
pub more_alike : (n : ℕ) (ls more : List Letter) (next ends : List (Option ℕ)) → length next ≡ length ls → Alike n ls (ls ++ more) next (next ++ ends) (length ls)
more_alike n ls more next ends h = record {
  queues = λ m b. ap (λ (l : Letter). l.to % n) (get_or-append ls more no_letter m b);
  unread = λ m b u. ap (λ (l : Letter). l.is_read) (sym (get_or-append ls more no_letter m b)) ∙ u;
  steps = λ m b. get_or-append next ends None m (omega arith);
}

-- the same lists by other names
pub same_queues : (queues tables : List (Option Queue)) (next after : List (Option ℕ)) (ls ks : List Letter) (c d : ℕ) → queues ≡ tables
    → next ≡ after → ls ≡ ks → c ≡ d → Queued queues next ls c → Queued tables after ks d
same_queues queues tables next after ls ks c d e f g h q =
    subst (λ n. Queued tables after ks n) h (subst (λ l. Queued tables after l c) g (subst (λ p. Queued tables p ls c) f (subst (λ t. Queued t next ls c) e q)))
