-- A walk along a queue.
use Rattle.std.proofs.Common.{◌≡◌, ◌≢◌, ℕ, zero, suc, ◌%◌, ◌<◌, ◌≤◌, Bool, true, false, cond, ◌==◌, ◌&&◌, List, [], ◌∷◌, length, get_or, Option, Some, None, refl, sym, ap, ◌∙◌, subst, arith, ⊎_elim}
use Rattle.std.proofs.lemmas.Bool.{cases_eq, cases_lt, and_parts, eqb-true, false≢true, true≢false}
use Rattle.std.proofs.Math.Nat.{mod-lt}
use Rattle.rank_state.specs.declared.rank_memory.mail.Letter.{Letter}
use Rattle.rank_state.specs.declared.rank_memory.mail.queues.Queue.{Queue}
use Rattle.rank_state.specs.Letters.{letter_of, index_of, no_letter}
use Rattle.rank_state.specs.Queues.{queue_at, IsNext, Waits, Links, IsQueue, Queued}

-- the next letter is one of the queue, and none that waits is passed
next_waits : (n c i j k m : ℕ) (ls : List Letter) (next : List (Option ℕ)) → queue_at n ls i ≡ k → get_or next i None ≡ Some j → IsNext n ls c i (get_or next i None)
    → i < m → Waits n ls k m → j ≤ m
next_waits n c i j k m ls next here e q lt w =
    let step : IsNext n ls c i (Some j) = subst (IsNext n ls c i) e q in
    ⊎_elim (λ (h : m < j). absurd (step.3 m lt h (w.0 ∙ sym here))) (λ (h : j ≤ m). h) (cases_lt m j)

next_in : (n c i j k : ℕ) (ls : List Letter) (next : List (Option ℕ)) → queue_at n ls i ≡ k → get_or next i None ≡ Some j → IsNext n ls c i (get_or next i None)
    → (i < j) × (j < c) × (queue_at n ls j ≡ k)
next_in n c i j k ls next here e q =
    let step : IsNext n ls c i (Some j) = subst (IsNext n ls c i) e q in (step.0, step.1, step.2 ∙ here)

none_waits : (n c i k m : ℕ) (ls : List Letter) (next : List (Option ℕ)) → queue_at n ls i ≡ k → get_or next i None ≡ None → IsNext n ls c i (get_or next i None)
    → i < m → m < c → Waits n ls k m → ⊥
none_waits n c i k m ls next here e q lt h w =
    let step : IsNext n ls c i None = subst (IsNext n ls c i) e q in step m lt h (w.0 ∙ sym here)

of_both : (b e : Bool) → cond b false e ≡ true → (b ≡ false) × (e ≡ true)
of_both true e h = absurd (false≢true h)
of_both false e h = (refl, h)

-- a letter of the pair waits in the receiver's queue
pair_waits : (n s r i : ℕ) (ls : List Letter) → letter_of s r (get_or ls i no_letter) ≡ true → Waits n ls (r % n) i
pair_waits n s r i ls h =
    let l = get_or ls i no_letter in
    let both = of_both (get_or ls i no_letter).is_read (((get_or ls i no_letter).from == s) && ((get_or ls i no_letter).to == r)) h in
    let to : (get_or ls i no_letter).to ≡ r = eqb-true (get_or ls i no_letter).to r (and_parts ((get_or ls i no_letter).from == s) ((get_or ls i no_letter).to == r) both.1).1 in
    (ap (λ t. t % n) to, both.0)

pub oldest : (s r : ℕ) (ls : List Letter) → index_of s r ls < length ls → letter_of s r (get_or ls (index_of s r ls) no_letter) ≡ true
oldest s r [] h = absurd (omega arith)
oldest s r (l ∷ ls) h = by (letter_of s r l) refl (oldest s r ls) h
  where
    by : (b : Bool) → letter_of s r l ≡ b → (index_of s r ls < length ls → letter_of s r (get_or ls (index_of s r ls) no_letter) ≡ true) → cond b 0 (suc (index_of s r ls)) < suc (length ls)
        → letter_of s r (get_or (l ∷ ls) (cond b 0 (suc (index_of s r ls))) no_letter) ≡ true
    by true e ih h = e
    by false e ih h = ih (omega arith)

least : (s r i : ℕ) (ls : List Letter) → letter_of s r (get_or ls i no_letter) ≡ true → index_of s r ls ≤ i
least s r i [] h = omega arith
least s r zero (l ∷ ls) h = by (letter_of s r l) h
  where
    by : (b : Bool) → b ≡ true → cond b 0 (suc (index_of s r ls)) ≤ 0
    by true e = omega arith
    by false e = absurd (false≢true e)
least s r (suc i) (l ∷ ls) h = by (letter_of s r l) (least s r i ls h)
  where
    by : (b : Bool) → index_of s r ls ≤ i → cond b 0 (suc (index_of s r ls)) ≤ suc i
    by true ih = omega arith
    by false ih = omega arith

-- a letter of the receiver's queue, not behind the oldest of the pair
pub record Place (queues : List (Option Queue)) (ls : List Letter) (s r at : ℕ) : Type 0 where
  pub low : (w : Queue) → get_or queues (r % length queues) None ≡ Some w → w.first ≤ at
  pub inside : at < length ls
  pub here : queue_at (length queues) ls at ≡ r % length queues
  pub before : at ≤ index_of s r ls

same_queue : (v w : Queue) → Some v ≡ Some w → v ≡ w
same_queue v w e = cc

queue_is : (queues : List (Option Queue)) (next : List (Option ℕ)) (ls : List Letter) (r : ℕ) (o : Option Queue) → 0 < length queues
    → Queued queues next ls (length ls) → get_or queues (r % length queues) None ≡ o
    → IsQueue (length queues) ls next (length ls) (r % length queues) o
queue_is queues next ls r o some q e = subst (IsQueue (length queues) ls next (length ls) (r % length queues)) e (q (r % length queues) (mod-lt r some))

waits : (n s r : ℕ) (ls : List Letter) → index_of s r ls < length ls → Waits n ls (r % n) (index_of s r ls)
waits n s r ls h = pair_waits n s r (index_of s r ls) ls (oldest s r ls h)

pub some_place : (queues : List (Option Queue)) (next : List (Option ℕ)) (ls : List Letter) (s r : ℕ) → 0 < length queues → Queued queues next ls (length ls) → index_of s r ls < length ls
    → get_or queues (r % length queues) None ≡ None → ⊥
some_place queues next ls s r some q h e = queue_is queues next ls r None some q e (index_of s r ls) h (waits (length queues) s r ls h)

pub place_first : (queues : List (Option Queue)) (next : List (Option ℕ)) (ls : List Letter) (s r : ℕ) (all : Queue) → 0 < length queues
    → Queued queues next ls (length ls) → index_of s r ls < length ls
    → get_or queues (r % length queues) None ≡ Some all → Place queues ls s r all.first
place_first queues next ls s r all some q h e =
    let links : Links (length queues) ls next (length ls) (r % length queues) all = queue_is queues next ls r (Some all) some q e in
    record {
      low = λ w f. (let same : all ≡ w = same_queue all w (sym e ∙ f) in let t : all.first ≡ w.first = ap (λ (v : Queue). v.first) same in omega arith);
      inside = links.first_in;
      here = links.first_of;
      before = links.unread (index_of s r ls) h (waits (length queues) s r ls h);
    }

later_than : (s r at : ℕ) (ls : List Letter) → index_of s r ls < length ls → at ≤ index_of s r ls → letter_of s r (get_or ls at no_letter) ≡ false → at < index_of s r ls
later_than s r at ls h le f = ⊎_elim
    (λ (e : at ≡ index_of s r ls). let clash : true ≡ false = sym (oldest s r ls h) ∙ ap (λ i. letter_of s r (get_or ls i no_letter)) (sym e) ∙ f in absurd (true≢false clash))
    (λ (d : at ≢ index_of s r ls). omega arith)
    (cases_eq at (index_of s r ls))

pub place_next : (queues : List (Option Queue)) (next : List (Option ℕ)) (ls : List Letter) (s r at j : ℕ) (all : Queue) → 0 < length queues
    → Queued queues next ls (length ls) → index_of s r ls < length ls
    → get_or queues (r % length queues) None ≡ Some all → Place queues ls s r at → letter_of s r (get_or ls at no_letter) ≡ false → get_or next at None ≡ Some j
    → (at < j) × Place queues ls s r j
place_next queues next ls s r at j all some q h e p f g =
    let links : Links (length queues) ls next (length ls) (r % length queues) all = queue_is queues next ls r (Some all) some q e in
    let step = links.steps at (p.low all e) p.inside p.here in
    let lt = later_than s r at ls h p.before f in
    let n = next_in (length queues) (length ls) at j (r % length queues) ls next p.here g step in (
      n.0,
      record {
        low = λ w t. omega (arith, p.low w t, n.0);
        inside = n.1;
        here = n.2;
        before = next_waits (length queues) (length ls) at j (r % length queues) (index_of s r ls) ls next p.here g step lt (waits (length queues) s r ls h);
      },
    )

pub goes_on : (queues : List (Option Queue)) (next : List (Option ℕ)) (ls : List Letter) (s r at : ℕ) (all : Queue) → 0 < length queues
    → Queued queues next ls (length ls) → index_of s r ls < length ls
    → get_or queues (r % length queues) None ≡ Some all → Place queues ls s r at → letter_of s r (get_or ls at no_letter) ≡ false → get_or next at None ≡ None → ⊥
goes_on queues next ls s r at all some q h e p f g =
    let links : Links (length queues) ls next (length ls) (r % length queues) all = queue_is queues next ls r (Some all) some q e in
    none_waits (length queues) (length ls) at (r % length queues) (index_of s r ls) ls next p.here g (links.steps at (p.low all e) p.inside p.here)
    (later_than s r at ls h p.before f) h (waits (length queues) s r ls h)

pub is_oldest : (queues : List (Option Queue)) (ls : List Letter) (s r at : ℕ) → Place queues ls s r at → letter_of s r (get_or ls at no_letter) ≡ true → at ≡ index_of s r ls
is_oldest queues ls s r at p e = omega (arith, p.before, least s r at ls e)

pub no_some : {A : Type 0} (o : Option A) → ((x : A) → o ≡ Some x → ⊥) → o ≡ None
no_some None h = refl
no_some (Some x) h = absurd (h x refl)
