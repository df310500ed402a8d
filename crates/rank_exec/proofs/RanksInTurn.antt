-- Ranks whose elements ran from no fault on, each by itself: all of them were begun and ended, rank after rank.
use Rattle.std.proofs.Common.{◌≡◌, ℕ, zero, suc, ◌+◌, ◌<◌, ◌≤◌, ℤ, refl, sym, ap, ap₂, subst, ◌∙◌, arith, List, [], ◌++◌, length, get_or-set_other, append_assoc, append-nil, ◌-◌, Option}
use Rattle.std.proofs.lemmas.List.{take_all, length-set}
use Rattle.schedule_steps.specs.declared.step.Step.{Step}
use Rattle.schedule_model.specs.Sequential.{Stop}
use Rattle.step_orders.specs.Alone.{alone}
use Rattle.schedule_model.specs.Setup.{Setup}
use Rattle.schedule_model.specs.Layout.{Layout}
use Rattle.rank_state.specs.Indices.{values_at}
use Rattle.rank_state.specs.Machine.{State, row}
use Rattle.rank_state.specs.Shows.{Tables}
use Rattle.rank_program.specs.AloneRuns.{Share, Reaches, share_of, with_share}
use Rattle.rank_program.specs.FromNone.{kept_both, OfElement, with_fault}
use Rattle.rank_program.proofs.Public.{PairsShow, of_reach, from_none, of_both}
use Rattle.rank_state.specs.Frames.{Panes}
use Rattle.rank_machine.specs.OnRanks.{RanOnRanks}
use Rattle.rank_exec.specs.Driving.{Done}
use Rattle.rank_exec.specs.Rounds.{round, after_ranks, CanBegin}
use Rattle.rank_exec.proofs.Driving.{done_none, done_more}
use Rattle.rank_exec.proofs.Beginning.{can_front, can_back}
use Rattle.rank_exec.proofs.AloneRuns.{runs_done}

module _ {F : Type 0} (old : State F) (new : ℕ → Share F) where
  -- variables, and the lengths of the lists, are as before
  same_variables : (n : ℕ) → (after_ranks old new n).variables ≡ old.variables
  same_variables zero = refl
  same_variables (suc n) = same_variables n

  same_frames : (n : ℕ) → (after_ranks old new n).frames ≡ old.frames
  same_frames zero = refl
  same_frames (suc n) = same_frames n

  pub same_memories : (n : ℕ) → length (after_ranks old new n).memories ≡ length old.memories
  same_memories zero = refl
  same_memories (suc n) = length-set (after_ranks old new n).memories n (new n).cells ∙ same_memories n

  pub same_partials : (n : ℕ) → length (after_ranks old new n).partials ≡ length old.partials
  same_partials zero = refl
  same_partials (suc n) = length-set (after_ranks old new n).partials n (new n).partials ∙ same_partials n

  -- all but memories, partials and fault is as before
  pub same_rest : (n : ℕ) (ms ps : List (List ℤ)) (x : Option (Stop F)) → (after_ranks old new n).memories ≡ ms → (after_ranks old new n).partials ≡ ps → (after_ranks old new n).fault ≡ x
      → after_ranks old new n ≡ record old { memories = ms; partials = ps; fault = x }
  same_rest n ms ps x a b c = as_old n ∙
      (ap₂ (λ m q. record old { memories = m; partials = q; fault = (after_ranks old new n).fault }) a b
      ∙ ap (λ o. record old { memories = ms; partials = ps; fault = o }) c)
    where
      as_old : (n : ℕ) → after_ranks old new n ≡ record old { memories = (after_ranks old new n).memories; partials = (after_ranks old new n).partials; fault = (after_ranks old new n).fault }
      as_old zero = refl
      as_old (suc n) = ap (with_share n (with_fault (kept_both (after_ranks old new n).fault (new n).fault) (new n))) (as_old n)

  -- so are the cells and the partials of the other ranks
  cells_stay : (n r : ℕ) → n ≤ r → row (after_ranks old new n).memories r ≡ row old.memories r
  cells_stay zero r le = refl
  cells_stay (suc n) r le =
      get_or-set_other (after_ranks old new n).memories n r (new n).cells [] (λ (q : r ≡ n). absurd (omega (arith, le, q)))
      ∙ cells_stay n r (omega (arith, le))

  partials_stay : (n r : ℕ) → n ≤ r → row (after_ranks old new n).partials r ≡ row old.partials r
  partials_stay zero r le = refl
  partials_stay (suc n) r le =
      get_or-set_other (after_ranks old new n).partials n r (new n).partials [] (λ (q : r ≡ n). absurd (omega (arith, le, q)))
      ∙ partials_stay n r (omega (arith, le))

  -- a rank's share before its turn
  share_waits : (n : ℕ) → with_fault (after_ranks old new n).fault (share_of n old) ≡ share_of n (after_ranks old new n)
  share_waits n = ap₂ (λ (a b : List ℤ). share_with a b) (sym (cells_stay n n (omega arith))) (sym (partials_stay n n (omega arith)))
    where
      share_with : List ℤ → List ℤ → Share F
      share_with a b = record { cells = a; partials = b; fault = (after_ranks old new n).fault }

module _ {F : Type 0} (p : Setup F) (l : Layout F) (t : Tables) (k : ℕ) (places : ℕ → List ℕ) (old : State F) (new : ℕ → Share F) (ranks : ℕ)
    (law : (r : ℕ) → PairsShow p l t k r)
    (kept : OfElement old.fault)
    (here : ranks ≤ length old.memories) (there : ranks ≤ length old.partials)
    (ran : RanOnRanks p l t k (values_at old.variables t.constants) old.variables places old new ranks) where
  kept_of_element : (n : ℕ) → n ≤ ranks → OfElement (after_ranks old new n).fault
  kept_of_element zero le = kept
  kept_of_element (suc n) le =
      of_both (after_ranks old new n).fault (new n).fault (kept_of_element n (omega (arith, le)))
      (of_reach p l t k n (values_at old.variables t.constants) old.variables (places n) (share_of n old) (length (places n)) (new n) (ran n (omega (arith, le))))

  -- the steps of the ranks that follow
  rest_of : (n d : ℕ) → (rest : List Step) × (round k places (d + n) ≡ round k places n ++ rest)
  rest_of n zero = let e : 0 + n ≡ n = omega arith in ([], ap (round k places) e ∙ sym (append-nil (round k places n)))
  rest_of n (suc d) =
      let e : suc d + n ≡ suc (d + n) = omega arith in
      let before = rest_of n d in (
        before.0 ++ alone k (d + n) (places (d + n)),
        ap (round k places) e ∙ (ap (λ z. z ++ alone k (d + n) (places (d + n))) before.1 ∙ append_assoc (round k places n) before.0 (alone k (d + n) (places (d + n)))),
      )

  pub at_rank : (n : ℕ) → n < ranks → (rest : List Step) × (round k places ranks ≡ round k places n ++ (alone k n (places n) ++ rest))
  at_rank n lt =
      let e : ranks - suc n + suc n ≡ ranks = omega (arith, lt) in
      let rest = rest_of (suc n) (ranks - suc n) in
      (rest.0, ap (round k places) (sym e) ∙ (rest.1 ∙ append_assoc (round k places n) (alone k n (places n)) rest.0))

  -- one rank more
  rank_done : CanBegin p l old.frames (round k places ranks) → (n : ℕ) → n < ranks → Done p l t (round k places n) old (after_ranks old new n)
      → Done p l t (alone k n (places n)) (after_ranks old new n) (after_ranks old new (suc n))
  rank_done ready n lt done =
      let st = after_ranks old new n in
      let at = at_rank n lt in
      let count = length (places n) in
      let share : Share F = with_fault (kept_both st.fault (new n).fault) (new n) in
      let can : CanBegin p l st.frames (alone k n (places n)) =
      subst (λ (fs : Panes). CanBegin p l fs (alone k n (places n))) (sym (same_frames old new n))
      (can_front p l old.frames (alone k n (places n)) at.0
      (can_back p l old.frames (round k places n) (alone k n (places n) ++ at.0) (subst (CanBegin p l old.frames) at.1 ready))) in
      let reach : Reaches p l t k n (values_at old.variables t.constants) old.variables (places n) (with_fault st.fault (share_of n old)) count share =
      from_none p l t k n (values_at old.variables t.constants) old.variables (places n) (share_of n old) st.fault (kept_of_element n (omega (arith, lt))) count (new n) (ran n lt) in
      let there_now : Reaches p l t k n (values_at st.variables t.constants) st.variables (places n) (share_of n st) count share =
      subst (λ (vs : List ℤ). Reaches p l t k n (values_at vs t.constants) vs (places n) (share_of n st) count share) (sym (same_variables old new n))
      (subst (λ (m : Share F). Reaches p l t k n (values_at old.variables t.constants) old.variables (places n) m count share) (share_waits old new n) reach) in
      let m : length st.memories ≡ length old.memories = same_memories old new n in
      let q : length st.partials ≡ length old.partials = same_partials old new n in
      subst (λ z. Done p l t (alone k n z) st (after_ranks old new (suc n))) (take_all count (places n) (omega arith))
      (runs_done p l t k n st (omega (arith, m, here, lt)) (omega (arith, q, there, lt)) (law n) (places n) can count (omega arith) share there_now)

  pub round_done : CanBegin p l old.frames (round k places ranks) → (n : ℕ) → n ≤ ranks → Done p l t (round k places n) old (after_ranks old new n)
  round_done ready zero le = done_none p l t old
  round_done ready (suc n) le =
      let before : Done p l t (round k places n) old (after_ranks old new n) = round_done ready n (omega (arith, le)) in
      done_more p l t (round k places n) (alone k n (places n)) old (after_ranks old new n) (after_ranks old new (suc n)) before (rank_done ready n (omega (arith, le)) before)
