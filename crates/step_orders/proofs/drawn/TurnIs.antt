-- A turn is known by the next join and the sends that are taken.
use Rattle.std.proofs.Common.{◌≡◌, ℕ, zero, suc, ◌<◌, ◌≤◌, Bool, true, false, cond, refl, sym, ap, ◌∙◌, arith, ⊎_elim, List, [], ◌∷◌}
use Rattle.std.specs.Prelude.{nat_lt, not, ◌&&◌}
use Rattle.std.proofs.lemmas.Bool.{lt-ltb, le-ltb, cases_eq}
use Rattle.schedule_steps.specs.Outline.{Outline}
use Rattle.schedule_steps.specs.declared.step.Step.{Step}
use Rattle.schedule_steps.specs.declared.step.Step.TheVariants.{Join}
use Rattle.schedule_steps.specs.Steps.{has}
use Rattle.schedule_steps.specs.Drawn as drawn
use Rattle.schedule_steps.specs.Drawn.{first_below, next_join, is_early, waits, numbers, drawn_number, picked, turn, turn_by}
use Rattle.step_orders.specs.declared.drawn.turns.Turn.{Turn}
use Rattle.step_orders.specs.declared.drawn.turns.Turn.TheVariants as t
use Rattle.step_orders.specs.Rests.{is_sent, can_go}
use Rattle.step_orders.specs.TurnOf.{turn_among, turn_of}
use Rattle.step_orders.specs.UnderWay.{IsUnderWay}
use Rattle.step_orders.proofs.drawn.Masks.{numbers_same, waits_same}

first_is : (t : ℕ → Bool) (n k : ℕ) → k ≤ n → ((i : ℕ) → i < k → t i ≡ false) → (k < n → t k ≡ true) → first_below t n ≡ k
first_is t zero k le low hit = omega arith
first_is t (suc n) k le low hit = ⊎_elim
    (λ (e : k ≡ suc n).
    let f : first_below t n ≡ n = first_is t n n (omega arith) (λ i lt. low i (omega arith)) (λ lt. absurd (omega arith)) in
    ap (λ z. cond (nat_lt z n) z (cond (t n) n (suc n))) f
    ∙ (ap (λ b. cond b n (cond (t n) n (suc n))) (le-ltb n n (omega arith))
    ∙ (ap (λ b. cond b n (suc n)) (low n (omega arith)) ∙ sym e)))
    (λ (ne : k ≡ suc n → ⊥).
    let f : first_below t n ≡ k = first_is t n k (omega arith) low (λ lt. hit (omega arith)) in
    ap (λ z. cond (nat_lt z n) z (cond (t n) n (suc n))) f
    ∙ ⊎_elim
    (λ (e : k ≡ n).
    ap (λ b. cond b k (cond (t n) n (suc n))) (le-ltb k n (omega arith))
    ∙ (ap (λ b. cond b n (suc n)) (sym (ap t e) ∙ hit (omega arith)) ∙ sym e))
    (λ (d : k ≡ n → ⊥). ap (λ b. cond b k (cond (t n) n (suc n))) (lt-ltb k n (omega arith)))
    (cases_eq k n))
    (cases_eq k (suc n))

-- the turn with the item of its join
abbrev pub to_turn : ℕ → Turn → drawn.Turn
to_turn join t.Over = drawn.Over
to_turn join t.Join = drawn.JoinOf join
to_turn join (t.Rank r) = drawn.StepOf r

module _ (o : Outline) (list coming : List Step) (rest : ℕ → List Step) (x join : ℕ) (below : ℕ → ℕ → ℕ) (u : IsUnderWay o list coming rest x join below) where
  next_is : next_join o (has list) ≡ join
  next_is = first_is (λ j. not (o.is_free j) && not (has list (Join j))) o.items join u.within
      (λ j lt. low j lt (o.is_free j) refl)
      (λ lt. ap (λ b. not b && not (has list (Join join))) (u.at lt) ∙ ap (λ b. not b) (u.joins join lt (u.at lt) ∙ le-ltb join join (omega arith)))
    where
      low : (j : ℕ) → j < join → (b : Bool) → o.is_free j ≡ b → (not (o.is_free j) && not (has list (Join j))) ≡ false
      low j lt true e = ap (λ b. not b && not (has list (Join j))) e
      low j lt false e =
          let w : join ≤ o.items = u.within in
          ap (λ b. not b && not (has list (Join j))) e ∙ ap (λ b. not b) (u.joins j (omega arith) e ∙ lt-ltb j join lt)

  going_same : numbers (λ r. is_early join (rest r) && not (waits (has list) (rest r))) o.ranks ≡ numbers (λ r. can_go (is_sent below) join (rest r)) o.ranks
  going_same = numbers_same _ _ o.ranks (λ r lt. ap (λ b. is_early join (rest r) && not b) (waits_same o (has list) (is_sent below) u.sends (rest r) (λ s h. (u.planned r lt s h).0)))

  by_early : (early : List ℕ)
      → turn_by o rest (has list) x join early
      ≡ to_turn join (turn_among early (numbers (λ r. can_go (is_sent below) join (rest r)) o.ranks) (drawn_number x) join o.items)
  by_early [] = by (nat_lt join o.items)
    where
      by : (b : Bool) → cond b (drawn.JoinOf join) drawn.Over ≡ to_turn join (cond b t.Join t.Over)
      by true = refl
      by false = refl
  by_early (r ∷ early) = ap (λ z. drawn.StepOf (picked (drawn_number x) z)) going_same

  pub turn_is : turn o rest (has list) x ≡ to_turn join (turn_of rest (is_sent below) (drawn_number x) join o.items o.ranks)
  turn_is =
      ap (λ k. turn_by o rest (has list) x k (numbers (λ r. is_early k (rest r)) o.ranks)) next_is
      ∙ by_early (numbers (λ r. is_early join (rest r)) o.ranks)
