-- Elements that are gathered into lists of places by rank.
use Rattle.std.proofs.Common.{◌≡◌, ℕ, Bool, zero, suc, ◌<◌, ◌≤◌, refl, sym, ap, ap₂, subst, ◌∙◌, ⊎_elim, arith, List, [], ◌∷◌, ◌++◌, length, map, set, get_or, get_or-set_same, get_or-set_other, append_assoc, append-nil, Vec, Global}
use Rattle.std.proofs.lemmas.List.{get_or-map, length-map, length-set, map-set}
use Rattle.std.proofs.lemmas.Bool.{cases_lt}
use Rattle.schedule_steps.specs.declared.step.Step.{Step}
use Rattle.step_orders.specs.Alone.{alone}
use Rattle.rank_exec.specs.Closed.{closed, RankGroup, all_closed, all_alone}
use Rattle.rank_machine.specs.OnRanks.{places_on}
use Rattle.rank_exec.specs.Rounds.{round, elements}
use Rattle.rank_exec.proofs.Grouping.{alone_append}
use Rattle.rank_exec.proofs.Telling.{groups_of, elements_closed, elements_alone, some_elements}

-- ---- rounds

-- no elements
pub round_none : (k : ℕ) (f : ℕ → List ℕ) (n : ℕ) → ((r : ℕ) → f r ≡ []) → round k f n ≡ []
round_none k f zero h = refl
round_none k f (suc n) h = ap₂ (λ a b. a ++ alone k n b) (round_none k f n h) (h n)

-- the ranks below
round_same : (k : ℕ) (f g : ℕ → List ℕ) (n : ℕ) → ((r : ℕ) → r < n → g r ≡ f r) → round k g n ≡ round k f n
round_same k f g zero h = refl
round_same k f g (suc n) h = ap₂ (λ a b. a ++ alone k n b) (round_same k f g n (λ r lt. h r (omega (arith, lt)))) (h n (omega arith))

-- more elements on the last rank that has any
pub round_more : (k : ℕ) (f g : ℕ → List ℕ) (r : ℕ) (xs : List ℕ) → g r ≡ f r ++ xs → ((s : ℕ) → (s ≡ r → ⊥) → g s ≡ f s) →
    ((s : ℕ) → r < s → f s ≡ [])
    → (n : ℕ) → r < n → round k g n ≡ round k f n ++ alone k r xs
round_more k f g r xs here others above zero lt = absurd (omega (arith, lt))
round_more k f g r xs here others above (suc n) lt = ⊎_elim (λ m. before m (round_more k f g r xs here others above n m)) last
    (cases_lt r n)
  where
    before : r < n → round k g n ≡ round k f n ++ alone k r xs → round k g n ++ alone k n (g n) ≡ (round k f n ++ alone k n (f n)) ++ alone
        k r xs
    before m fewer =
        let empty : f n ≡ [] = above n m in
        let same : g n ≡ [] = others n (λ (q : n ≡ r). absurd (omega (arith, m, q))) ∙ empty in
        ap (λ z. round k g n ++ alone k n z) same
        ∙ (append-nil (round k g n)
        ∙ (fewer ∙ ap (λ z. z ++ alone k r xs) (sym (ap (λ z. round k f n ++ alone k n z) empty ∙ append-nil (round k f n)))))

    last : n ≤ r → round k g n ++ alone k n (g n) ≡ (round k f n ++ alone k n (f n)) ++ alone k r xs
    last m =
        let at : n ≡ r = omega (arith, m, lt) in
        let more : g n ≡ f n ++ xs = ap g at ∙ (here ∙ ap (λ z. f z ++ xs) (sym at)) in
        let below : round k g n ≡ round k f n = round_same k f g n (λ s h. others s (λ (q : s ≡ r). absurd (omega (arith, h, q, at)))) in
        ap₂ (λ a b. a ++ alone k n b) below more
        ∙ (ap (λ z. round k f n ++ z) (alone_append k n (f n) xs)
        ∙ (sym (append_assoc (round k f n) (alone k n (f n)) (alone k n xs)) ∙ ap (λ z. (round k f n ++ alone k n (f n)) ++ alone k z xs)
        at))

-- ---- groups

closed_append : (k : ℕ) (gs hs : List RankGroup) → all_closed k (gs ++ hs) ≡ all_closed k gs ++ all_closed k hs
closed_append k [] hs = refl
closed_append k (g ∷ gs) hs =
    ap (λ z. closed k g.rank g.places ++ z) (closed_append k gs hs) ∙ sym
    (append_assoc (closed k g.rank g.places) (all_closed k gs) (all_closed k hs))

alone_groups : (k : ℕ) (gs hs : List RankGroup) → all_alone k (gs ++ hs) ≡ all_alone k gs ++ all_alone k hs
alone_groups k [] hs = refl
alone_groups k (g ∷ gs) hs =
    ap (λ z. alone k g.rank g.places ++ z) (alone_groups k gs hs) ∙ sym
    (append_assoc (alone k g.rank g.places) (all_alone k gs) (all_alone k hs))

-- behind groups the elements that were told
closed_told : (b : Bool) (k r : ℕ) (xs : List ℕ) (gs : List RankGroup) → all_closed k (gs ++ groups_of b r xs) ≡ all_closed k gs ++ elements
    b k r xs
closed_told b k r xs gs = closed_append k gs (groups_of b r xs) ∙ ap (λ z. all_closed k gs ++ z) (elements_closed b k r xs)

alone_told : (b : Bool) (k r : ℕ) (xs : List ℕ) (gs : List RankGroup) → all_alone k (gs ++ groups_of b r xs) ≡ all_alone k gs ++ alone k r
    xs
alone_told b k r xs gs = alone_groups k gs (groups_of b r xs) ∙ ap (λ z. all_alone k gs ++ z) (elements_alone b k r xs)

-- ---- lists of places

abbrev pub Lists : Type 0
Lists = List (Vec ℕ Global)

items : Lists → List (List ℕ)
items ls = map (λ (v : Vec ℕ Global). v.items) ls

pub placed : (ls : Lists) (r : ℕ) (v : Vec ℕ Global) → r < length ls → places_on (set ls r v) r ≡ v.items
placed ls r v lt =
    ap (λ z. get_or z r []) (map-set (λ (w : Vec ℕ Global). w.items) ls r v)
    ∙ get_or-set_same (map (λ (w : Vec ℕ Global). w.items) ls) r v.items []
    (let n = length-map ls (λ (w : Vec ℕ Global). w.items) in omega (arith, lt, n))

pub other_place : (ls : Lists) (r s : ℕ) (v : Vec ℕ Global) → (s ≡ r → ⊥) → places_on (set ls r v) s ≡ places_on ls s
other_place ls r s v ne =
    ap (λ z. get_or z s []) (map-set (λ (w : Vec ℕ Global). w.items) ls r v)
    ∙ get_or-set_other (map (λ (w : Vec ℕ Global). w.items) ls) r s v.items [] ne

pub place_is : (ls : Lists) (r : ℕ) (d : Vec ℕ Global) → r < length ls → places_on ls r ≡ (get_or ls r d).items
place_is ls r d lt = get_or-map (λ (w : Vec ℕ Global). w.items) ls r d [] lt

-- lists that are all empty
pub all_empty : (ls : Lists) → ((r : ℕ) (d : Vec ℕ Global) → r < length ls → (get_or ls r d).items ≡ []) → (r : ℕ) → places_on ls r ≡ []
all_empty [] h r = refl
all_empty (v ∷ ls) h zero = h 0 v (omega arith)
all_empty (v ∷ ls) h (suc r) = all_empty ls (λ s d lt. h (suc s) d (omega (arith, lt))) r

-- the groups are gathered in the lists, and the last of them is on this rank
pub record Gathered (k last : ℕ) (gs : List RankGroup) (ls : Lists) : Type 0 where
  pub same : all_alone k gs ≡ round k (places_on ls) (length ls)
  pub above : (s : ℕ) → last < s → places_on ls s ≡ []

pub gathered_none : (k last : ℕ) (ls : Lists) → ((r : ℕ) → places_on ls r ≡ []) → Gathered k last [] ls
gathered_none k last ls empty = record {
  same = sym (round_none k (places_on ls) (length ls) empty);
  above = λ s lt. empty s;
}

-- the elements that were told more
pub gathered_more : (b : Bool) (k last rank : ℕ) (xs : List ℕ) (gs : List RankGroup) (ls : Lists) (v : Vec ℕ Global) → last ≤ rank → rank <
    length ls
    → v.items ≡ places_on ls rank ++ xs → Gathered k last gs ls
    → Gathered k rank (gs ++ groups_of b rank xs) (set ls rank v)
gathered_more b k last rank xs gs ls v le lt is h =
    let more = round_more k (places_on ls) (places_on (set ls rank v)) rank xs (placed ls rank v lt ∙ is)
    (λ s ne. other_place ls rank s v ne) (λ s a. h.above s (omega (arith, a, le))) (length ls) lt in
    record {
      same = alone_told b k rank xs gs
          ∙ (ap (λ z. z ++ alone k rank xs) h.same ∙ (sym more ∙ ap (round k (places_on (set ls rank v))) (sym (length-set ls rank v))));
      above = λ s a. other_place ls rank s v (λ (q : s ≡ rank). absurd (omega (arith, a, q))) ∙ h.above s (omega (arith, a, le));
    }

-- a later rank may be the last
pub gathered_later : (k last rank : ℕ) (gs : List RankGroup) (ls : Lists) → last ≤ rank → Gathered k last gs ls → Gathered k rank gs ls
gathered_later k last rank gs ls le h = record {
  same = h.same;
  above = λ s a. h.above s (omega (arith, a, le));
}

-- ---- what came

pub split_more : (b : Bool) (k r : ℕ) (xs : List ℕ) (gs : List RankGroup) (come left rest : List Step)
    → come ≡ all_closed k gs ++ (elements b k r xs ++ left) → left ≡ rest
    → come ≡ all_closed k (gs ++ groups_of b r xs) ++ rest
split_more b k r xs gs come left rest e i =
    e
    ∙ (sym (append_assoc (all_closed k gs) (elements b k r xs) left)
    ∙ (ap (λ z. z ++ left) (sym (closed_told b k r xs gs)) ∙ ap (λ z. all_closed k (gs ++ groups_of b r xs) ++ z) i))

length_back : (ss ts : List Step) → length ts ≤ length (ss ++ ts)
length_back [] ts = omega arith
length_back (s ∷ ss) ts = let h = length_back ss ts in omega (arith, h)

pub some_closed : (b : Bool) (k r : ℕ) (xs : List ℕ) (gs : List RankGroup) → 0 < length xs → 0 < length
    (all_closed k (gs ++ groups_of b r xs))
some_closed b k r xs gs lt =
    subst (λ (z : List Step). 0 < length z) (sym (closed_told b k r xs gs))
    (let a = some_elements b k r xs lt in let c = length_back (all_closed k gs) (elements b k r xs) in omega (arith, a, c))
