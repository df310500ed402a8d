-- The step that a turn takes, as the code takes it.
use Rattle.std.proofs.Common.{◌≡◌, ℕ, ◌+◌, ◌<◌, ◌^◌, cond, sym, ap, subst, ◌∙◌, arith, ⊎_elim, List, [], ◌∷◌, ◌++◌, get_or, length, Vec, Option, Some, None}
use Rattle.std.specs.Prelude.{◌==◌}
use Rattle.std.specs.declared.alloc.Global.{Global}
use Rattle.std.proofs.lemmas.Bool.{cases_eq, eq-eqb, ne_eqb, cond-true, cond-false}
use Rattle.schedule_steps.specs.Outline.{Outline}
use Rattle.schedule_steps.specs.declared.step.Step.{Step}
use Rattle.schedule_steps.specs.declared.step.Step.TheVariants.{Send, Recv, Begin, End, Join}
use Rattle.schedule_steps.specs.Steps.{IsStep, Accepted, has}
use Rattle.schedule_steps.specs.Peaks.{step_count}
use Rattle.schedule_steps.specs.Drawn.{drawn_number, turn, put_left, Over, JoinOf, StepOf}
use Rattle.step_orders.specs.Rests.{rest_of, rests, sent_below}
use Rattle.step_orders.specs.UnderWay.{IsTable, HasRoom, IsNextJoin, sent_after, IsUnderWay, IsKept, left_in}
use Rattle.step_orders.proofs.drawn.ToCome.{left_is}
use Rattle.step_orders.proofs.drawn.Begin.{rank_below}
use Rattle.step_orders.proofs.drawn.Onward.{IsNext, stepped, joined, mine, after_join, after_step}
use Rattle.step_orders.proofs.drawn.Onward as onward

module _ (o : Outline) (all : (l : List Step) → Accepted o l → length l ≡ step_count o)
    (heads : List (Option Step)) (tails : List (List Step)) (rows : List (Vec ℕ Global)) (space x join : ℕ) (kept : IsKept o heads tails rows space x join) where
  abbrev rest : ℕ → List Step
  rest = rests heads tails

  abbrev list : List Step
  list = kept.list

  abbrev coming : List Step
  coming = kept.coming

  abbrev u : IsUnderWay o list coming rest x join (sent_below rows)
  u = kept.way

  -- what is left is what is coming
  here : left_in o heads tails rows x join ≡ coming
  here = left_is o list coming rest x join (sent_below rows) all u

  -- nothing is left
  pub over : turn o rest (has list) x ≡ Over → left_in o heads tails rows x join ≡ []
  over e = here ∙ onward.over o rest (has list) x coming u.turns e

  -- a join that is taken is one of the plan
  pub join_planned : turn o rest (has list) x ≡ JoinOf join → join < o.items
  join_planned e =
      let d = joined o rest (has list) x join coming u.turns e in
      (u.accepted.steps list (Join join) d.0 (ap (λ z. list ++ z) d.1)).0

  pub join_onward : turn o rest (has list) x ≡ JoinOf join
      → (room next : ℕ)
      → room ≡ space
      → IsNextJoin o (join + 1) next
      → IsKept o heads tails rows room x next × (left_in o heads tails rows x join ≡ Join join ∷ left_in o heads tails rows x next)
  join_onward e room next same j =
      let d = joined o rest (has list) x join coming u.turns e in
      let way : IsUnderWay o (list ++ (Join join ∷ [])) d.0 rest x next (sent_below rows) =
      after_join o list coming rest x join (sent_below rows) u next d.0 d.1 d.2 j in (
        record {
          few = kept.few;
          head_count = kept.head_count;
          tail_count = kept.tail_count;
          table = kept.table;
          room_count = same ∙ kept.room_count;
          list = list ++ (Join join ∷ []);
          coming = d.0;
          way = way;
        },
        here ∙ (d.1 ∙ ap (λ z. Join join ∷ z) (sym (left_is o (list ++ (Join join ∷ [])) d.0 rest x next (sent_below rows) all way))),
      )

  module _ (r : ℕ) (e : turn o rest (has list) x ≡ StepOf r) where
    pub in_ranks : r < o.ranks
    in_ranks = rank_below o rest (has list) x r e

    next : IsNext o rest (has list) x r coming
    next = stepped o rest (has list) x r coming u.turns e

    -- the rank has a step left
    pub has_head : get_or heads r None ≡ None → ⊥
    has_head n = (let f : [] ≡ next.step ∷ next.left = sym (ap (λ z. rest_of z (get_or tails r [])) n) ∙ next.of_rank in cc)

    module _ (s : Step) (h : get_or heads r None ≡ Some s) where
      cut : s ∷ get_or tails r [] ≡ next.step ∷ next.left
      cut = sym (ap (λ z. rest_of z (get_or tails r [])) h) ∙ next.of_rank

      is_it : next.step ≡ s
      is_it = (let f : s ∷ get_or tails r [] ≡ next.step ∷ next.left = cut in cc)

      behind : get_or tails r [] ≡ next.left
      behind = (let f : s ∷ get_or tails r [] ≡ next.step ∷ next.left = cut in cc)

      planned : IsStep o s
      planned = subst (IsStep o) is_it (mine o list coming rest x join (sent_below rows) u r next in_ranks).0

      pub room : IsTable o.ranks rows → o.items < 2 ^ 32 → HasRoom rows s
      room t few = by s planned
        where
          by : (q : Step) → IsStep o q → HasRoom rows q
          by (Send k a b) p =
              let lk : k < o.items = p.0 in
              let la : a < o.ranks = p.2 in
              let lb : b < o.ranks = p.3 in
              (omega (arith, t.count), omega (arith, t.wide a la), omega arith)
          by (Recv k a b) p = tt
          by (Begin k a b) p = tt
          by (End k a b) p = tt
          by (Join k) p = tt

      module _ (hs : List (Option Step)) (ts : List (List Step)) (rs : List (Vec ℕ Global)) (room y : ℕ)
          (heads_kept : length hs ≡ length heads)
          (tails_kept : length ts ≡ length tails)
          (left : (k : ℕ) → rests hs ts k ≡ cond (k == r) (get_or tails k []) (rests heads tails k))
          (table : IsTable o.ranks rs)
          (sent : (a b : ℕ) → sent_below rs a b ≡ sent_after (sent_below rows) s a b)
          (room_kept : room ≡ space)
          (number : y ≡ drawn_number x) where
        same : (k : ℕ) → put_left r next.left rest k ≡ rests hs ts k
        same k = ⊎_elim
            (λ (i : k ≡ r).
            cond-true (k == r) next.left (rest k) (eq-eqb k r i)
            ∙ (sym behind
            ∙ (ap (λ z. get_or tails z []) (sym i)
            ∙ (sym (cond-true (k == r) (get_or tails k []) (rest k) (eq-eqb k r i)) ∙ sym (left k)))))
            (λ (ne : k ≡ r → ⊥).
            cond-false (k == r) next.left (rest k) (ne_eqb k r ne)
            ∙ (sym (cond-false (k == r) (get_or tails k []) (rest k) (ne_eqb k r ne)) ∙ sym (left k)))
            (cases_eq k r)

        way : IsUnderWay o (list ++ (s ∷ [])) next.later (rests hs ts) y join (sent_below rs)
        way =
            subst (λ z. IsUnderWay o (list ++ (s ∷ [])) next.later (rests hs ts) y join z) (λ i a b. sym (sent a b) i)
            (subst (λ z. IsUnderWay o (list ++ (s ∷ [])) next.later (rests hs ts) z join (sent_after (sent_below rows) s)) (sym number)
            (subst (λ z. IsUnderWay o (list ++ (s ∷ [])) next.later z (drawn_number x) join (sent_after (sent_below rows) s)) (λ i k. same k i)
            (subst (λ q. IsUnderWay o (list ++ (q ∷ [])) next.later (put_left r next.left rest) (drawn_number x) join (sent_after (sent_below rows) q)) is_it
            (after_step o list coming rest x join (sent_below rows) u r next in_ranks))))

        pub step_kept : IsKept o hs ts rs room y join
        step_kept = record {
          few = kept.few;
          head_count = heads_kept ∙ kept.head_count;
          tail_count = tails_kept ∙ kept.tail_count;
          table = table;
          room_count = room_kept ∙ kept.room_count;
          list = list ++ (s ∷ []);
          coming = next.later;
          way = way;
        }

        pub step_left : left_in o heads tails rows x join ≡ s ∷ left_in o hs ts rs y join
        step_left =
            here
            ∙ (next.first
            ∙ (ap (λ z. z ∷ next.later) is_it
            ∙ ap (λ z. s ∷ z) (sym (left_is o (list ++ (s ∷ [])) next.later (rests hs ts) y join (sent_below rs) all way))))
