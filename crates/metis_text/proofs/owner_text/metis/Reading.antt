-- The ranks of a text, token by token.
use Rattle.std.proofs.Common.{◌≡◌, ◌<◌, ◌+◌, ◌-◌, ℕ, zero, suc, Bool, true, false, nat_lt, List, [], ◌∷◌, ◌++◌, length, get_or, Option, Some, None, Result, Ok, Err, IsErrAnd, if◌then◌else◌, refl, sym, ap, subst, ◌∙◌, inr, arith, append_assoc}
use Rattle.std.proofs.lemmas.Bool.{ltb-true}
use Rattle.std.proofs.lemmas.Result.{err_from_is_err_and}
use Rattle.op_num.specs.Spelling.{number_of}
use Rattle.op_num.specs.Cut.{Word, Uncut, first_of, rest_of}
use Rattle.op_num.specs.Automaton.{after, onto, Answers}
use Rattle.metis_text.specs.declared.owner_text.metis.refusals.MetisRefusal.{MetisRefusal}
use Rattle.metis_text.specs.declared.owner_text.metis.refusals.MetisRefusal.TheVariants.{Many, NoRank}
use Rattle.metis_text.specs.Numbers.{ranked, rank_on, judged}

-- one more in front of those to come, and these behind what was found
onto_onto : (x : Result (List ℕ) MetisRefusal) (r : ℕ) (found : List ℕ)
    → onto x (λ rs. (found ++ r ∷ []) ++ rs) ≡ onto (onto x (λ rs. r ∷ rs)) (λ rs. found ++ rs)
onto_onto (Ok xs) r found = ap Ok (append_assoc found (r ∷ []) xs)
onto_onto (Err e) r found = refl

module _ (ranks : ℕ) (all : Result (List ℕ) MetisRefusal) where
  -- with those of so many elements that are left, the first of which stands on this line, what was found is all
  abbrev pub Is : (left line : ℕ) → Uncut → List ℕ → Type 0
  Is left line u found = onto (judged ranks left line u.words) (λ rs. found ++ rs) ≡ all

  unranked_at : (n line : ℕ) (u : Uncut) (found : List ℕ) (w : Word) (e : MetisRefusal) → first_of u ≡ Some w → rank_on ranks line w ≡ Err e
      → Is (suc n) line u found
      → all ≡ Err e
  unranked_at n line u found w e first r h = by u.words first h
    where
      by : (ws : List Word) → first_of (record { last = u.last; words = ws }) ≡ Some w → onto (judged ranks (suc n) line ws) (λ rs. found ++ rs) ≡ all → all ≡ Err e
      by [] first h = absurd (let bad : ⊥ = cc in bad)
      by (x ∷ ws) first h =
          let same : x ≡ w = cc in
          let r' : rank_on ranks line x ≡ Err e = subst (λ z. rank_on ranks line z ≡ Err e) (sym same) r in
          sym h ∙ ap (λ z. onto (after z (λ y. onto (judged ranks n (suc line) ws) (λ rs. y ∷ rs))) (λ rs. found ++ rs)) r'

  taken_at : (n line : ℕ) (u : Uncut) (found : List ℕ) (w : Word) (r : ℕ) → first_of u ≡ Some w → rank_on ranks line w ≡ Ok r
      → Is (suc n) line u found
      → Is n (suc line) (rest_of u) (found ++ r ∷ [])
  taken_at n line u found w r first e h = by u.words first h
    where
      by : (ws : List Word) → first_of (record { last = u.last; words = ws }) ≡ Some w → onto (judged ranks (suc n) line ws) (λ rs. found ++ rs) ≡ all
          → Is n (suc line) (rest_of (record { last = u.last; words = ws })) (found ++ r ∷ [])
      by [] first h = absurd (let bad : ⊥ = cc in bad)
      by (x ∷ ws) first h =
          let same : x ≡ w = cc in
          let e' : rank_on ranks line x ≡ Ok r = subst (λ z. rank_on ranks line z ≡ Ok r) (sym same) e in
          onto_onto (judged ranks n (suc line) ws) r found
          ∙ ap (λ z. onto (after z (λ y. onto (judged ranks n (suc line) ws) (λ rs. y ∷ rs))) (λ rs. found ++ rs)) (sym e')
          ∙ h

  -- before the element of this number, of so many
  abbrev pub Before : (elements element : ℕ) → Uncut → List ℕ → Type 0
  Before elements element u found = Is (elements - element) (element + 1) u found

  one_left : (elements element : ℕ) → element < elements → elements - element ≡ suc (elements - (element + 1))
  one_left elements element lt = omega (arith, lt)

  one_more : (k : ℕ) → suc k ≡ k + 1
  one_more k = omega arith

  more_left : (elements element : ℕ) (u : Uncut) (found : List ℕ) → element < elements → Before elements element u found
      → Is (suc (elements - (element + 1))) (element + 1) u found
  more_left elements element u found lt h = subst (λ k. Is k (element + 1) u found) (one_left elements element lt) h

  pub unranked : (elements element : ℕ) (u : Uncut) (found : List ℕ) (w : Word) (e : MetisRefusal) → element < elements → first_of u ≡ Some w
      → rank_on ranks (element + 1) w ≡ Err e
      → Before elements element u found
      → all ≡ Err e
  unranked elements element u found w e lt first r h =
      unranked_at (elements - (element + 1)) (element + 1) u found w e first r (more_left elements element u found lt h)

  pub taken : (elements element : ℕ) (u : Uncut) (found : List ℕ) (w : Word) (r : ℕ) → element < elements → first_of u ≡ Some w
      → rank_on ranks (element + 1) w ≡ Ok r
      → Before elements element u found
      → Before elements (element + 1) (rest_of u) (found ++ r ∷ [])
  taken elements element u found w r lt first e h =
      subst (λ k. Is (elements - (element + 1)) k (rest_of u) (found ++ r ∷ [])) (one_more (element + 1))
      (taken_at (elements - (element + 1)) (element + 1) u found w r first e (more_left elements element u found lt h))

-- a refusal that `?` passes on
pub refused_on : {M : Type 0} (lost e : MetisRefusal) (r : Result M MetisRefusal) (view : M → List ℕ) (all : Result (List ℕ) MetisRefusal)
    → IsErrAnd r (λ y. y ≡ e)
    → all ≡ Err e
    → Answers lost r view all
refused_on lost e r view all h k = let g = err_from_is_err_and r h in rw (g.1, g.2) (inr k)

-- ---- what the ranks are

below_by : (ranks n line r : ℕ) (t : Bool) → nat_lt n ranks ≡ t → (if t then Ok n else ranked ranks line None) ≡ Ok r → r < ranks
below_by ranks n line r true t e = (let same : n ≡ r = cc in subst (λ k. k < ranks) same (ltb-true n ranks t))
below_by ranks n line r false t e = absurd (let bad : ⊥ = cc in bad)

ranked_below : (ranks line r : ℕ) (o : Option ℕ) → ranked ranks line o ≡ Ok r → r < ranks
ranked_below ranks line r None e = absurd (let bad : ⊥ = cc in bad)
ranked_below ranks line r (Some n) e = below_by ranks n line r (nat_lt n ranks) refl e

below : (ranks line r : ℕ) (w : Word) → rank_on ranks line w ≡ Ok r → r < ranks
below ranks line r w e = by (nat_lt w.line line) (nat_lt line w.line) e
  where
    by : (before behind : Bool)
        → (if before then Err (Many w.line) else if behind then Err (NoRank line) else ranked ranks line (number_of w.text)) ≡ Ok r
        → r < ranks
    by true behind e = absurd (let bad : ⊥ = cc in bad)
    by false true e = absurd (let bad : ⊥ = cc in bad)
    by false false e = ranked_below ranks line r (number_of w.text) e

-- so many ranks, each below the number of ranks
pub record AreRanks (ranks n : ℕ) (rs : List ℕ) : Type 0 where
  pub count : length rs ≡ n
  pub below : (k : ℕ) → k < length rs → get_or rs k 0 < ranks

add_rank : (ranks n r : ℕ) (rs : List ℕ) → r < ranks → AreRanks ranks n rs → AreRanks ranks (suc n) (r ∷ rs)
add_rank ranks n r rs low h = record { count = ap suc h.count; below = each }
  where
    each : (k : ℕ) → k < length (r ∷ rs) → get_or (r ∷ rs) k 0 < ranks
    each zero lt = low
    each (suc k) lt = h.below k (omega (arith, lt))

rest_ranks : (ranks n r : ℕ) (rs : List ℕ) (x : Result (List ℕ) MetisRefusal) → r < ranks
    → ((xs : List ℕ) → x ≡ Ok xs → AreRanks ranks n xs)
    → onto x (λ xs. r ∷ xs) ≡ Ok rs
    → AreRanks ranks (suc n) rs
rest_ranks ranks n r rs (Ok xs) low later e =
    (let same : r ∷ xs ≡ rs = cc in subst (AreRanks ranks (suc n)) same (add_rank ranks n r xs low (later xs refl)))
rest_ranks ranks n r rs (Err x) low later e = absurd (let bad : ⊥ = cc in bad)

first_rank : (ranks n line : ℕ) (w : Word) (rs : List ℕ) (y : Result ℕ MetisRefusal) (x : Result (List ℕ) MetisRefusal)
    → rank_on ranks line w ≡ y
    → ((xs : List ℕ) → x ≡ Ok xs → AreRanks ranks n xs)
    → after y (λ r. onto x (λ xs. r ∷ xs)) ≡ Ok rs
    → AreRanks ranks (suc n) rs
first_rank ranks n line w rs (Ok r) x is later e = rest_ranks ranks n r rs x (below ranks line r w is) later e
first_rank ranks n line w rs (Err z) x is later e = absurd (let bad : ⊥ = cc in bad)

pub are_ranks : (ranks n line : ℕ) (ws : List Word) (rs : List ℕ) → judged ranks n line ws ≡ Ok rs → AreRanks ranks n rs
are_ranks ranks zero line [] rs e =
    (let none : [] ≡ rs = cc in subst (AreRanks ranks 0) none (record { count = refl; below = λ k lt. absurd (omega (arith, lt)) }))
are_ranks ranks zero line (w ∷ ws) rs e = absurd (let bad : ⊥ = cc in bad)
are_ranks ranks (suc n) line [] rs e = absurd (let bad : ⊥ = cc in bad)
are_ranks ranks (suc n) line (w ∷ ws) rs e =
    first_rank ranks n line w rs (rank_on ranks line w) (judged ranks n (suc line) ws) refl (are_ranks ranks n (suc line) ws) e
