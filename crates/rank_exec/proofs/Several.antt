-- Closed groups of an item that come next, one behind another: their elements can begin, and the groups are done by them.
use Rattle.std.proofs.Common.{◌≡◌, ℕ, zero, suc, ◌+◌, ◌<◌, ◌≤◌, refl, sym, ap, subst, ◌∙◌, arith, None, Option, Some, List, [], ◌∷◌, ◌++◌, length, get_or, append-nil, ⊎_elim}
use Rattle.std.proofs.lemmas.List.{take_all}
use Rattle.std.proofs.lemmas.Bool.{cond_both, cases_lt}
use Rattle.schedule_steps.specs.Peaks.{open_step, mail_step, count_after}
use Rattle.step_orders.specs.Alone.{alone}
use Rattle.step_orders.specs.Left.{ends}
use Rattle.schedule_model.specs.Sequential.{Stop}
use Rattle.schedule_model.specs.Machine.{is_less}
use Rattle.schedule_model.specs.Kept.{kept, kept_of, OfElements}
use Rattle.schedule_model.specs.Setup.{Setup}
use Rattle.schedule_model.specs.Layout.{Layout, IsLayout, by_place, message_cells}
use Rattle.schedule_model.specs.Flat.{Flat, flat_from}
use Rattle.rank_exec.specs.Closed.{closed, GroupsAreAlone, RankGroup, all_closed, all_alone, SeveralAreAlone}
use Rattle.rank_state.specs.Frames.{Pane, Panes, Shut, pane_at}
use Rattle.rank_state.specs.Groups.{AllShut}
use Rattle.rank_state.specs.Machine.{State}
use Rattle.rank_state.specs.Indices.{values_at}
use Rattle.rank_state.specs.Shows.{Tables, Indexed, Shows}
use Rattle.rank_program.proofs.Public.{PairsShow}
use Rattle.rank_program.specs.AloneRuns.{Share}
use Rattle.rank_program.specs.FromNone.{OfElement}
use Rattle.rank_exec.specs.Driving.{Done, ComeReady}
use Rattle.rank_machine.specs.OnRanks.{RanOnRanks, share_at, with_shares}
use Rattle.rank_exec.specs.Rounds.{round, CanBegin, RanksComeInTurn, SharesAreSet}
use Rattle.rank_exec.proofs.Driving.{count_append, done_none, ready_after, ready_front}
use Rattle.rank_exec.proofs.Tasking.{planned_at}
use Rattle.rank_exec.proofs.Beginning.{can_both, can_front, can_back, can_alone}
use Rattle.rank_exec.proofs.AloneRuns.{AreWindowed, can_be_done}
use Rattle.rank_exec.proofs.Closing.{begins_same, shows_alike, StayShut, closed_ready, closed_done, groups_after, groups_front, open_closed, open_alone, mail_closed, mail_alone}

-- ---- counts

open_all_closed : (k n : ℕ) (gs : List RankGroup) → count_after open_step n (all_closed k gs) ≡ n
open_all_closed k n [] = refl
open_all_closed k n (x ∷ gs) =
    count_append open_step n (closed k x.rank x.places) (all_closed k gs)
    ∙ (ap (λ m. count_after open_step m (all_closed k gs)) (open_closed k x.rank n x.places) ∙ open_all_closed k n gs)

open_all_alone : (k n : ℕ) (gs : List RankGroup) → count_after open_step n (all_alone k gs) ≡ n
open_all_alone k n [] = refl
open_all_alone k n (x ∷ gs) =
    count_append open_step n (alone k x.rank x.places) (all_alone k gs)
    ∙ (ap (λ m. count_after open_step m (all_alone k gs)) (open_alone k x.rank n x.places) ∙ open_all_alone k n gs)

mail_all_closed : (cells : ℕ → ℕ → ℕ → ℕ) (k n : ℕ) (gs : List RankGroup) → count_after (mail_step cells) n (all_closed k gs) ≡ n
mail_all_closed cells k n [] = refl
mail_all_closed cells k n (x ∷ gs) =
    count_append (mail_step cells) n (closed k x.rank x.places) (all_closed k gs)
    ∙ (ap (λ m. count_after (mail_step cells) m (all_closed k gs)) (mail_closed cells k x.rank n x.places) ∙ mail_all_closed cells k n gs)

mail_all_alone : (cells : ℕ → ℕ → ℕ → ℕ) (k n : ℕ) (gs : List RankGroup) → count_after (mail_step cells) n (all_alone k gs) ≡ n
mail_all_alone cells k n [] = refl
mail_all_alone cells k n (x ∷ gs) =
    count_append (mail_step cells) n (alone k x.rank x.places) (all_alone k gs)
    ∙ (ap (λ m. count_after (mail_step cells) m (all_alone k gs)) (mail_alone cells k x.rank n x.places) ∙ mail_all_alone cells k n gs)

-- ---- the places of a group

shut_get : (ps : List (List Pane)) (r : ℕ) (xs : List ℕ) → AllShut ps r xs → (i : ℕ) → i < length xs → pane_at ps r (get_or xs i 0) ≡ Shut
shut_get ps r [] h i lt = absurd (omega (arith, lt))
shut_get ps r (x ∷ xs) h zero lt = h.0
shut_get ps r (x ∷ xs) h (suc i) lt = shut_get ps r xs h.1 i (omega (arith, lt))

module _ {F : Type 0} (p : Setup F) (l : Layout F) (t : Tables) where
  -- the elements of each group can begin before all of them
  pub all_can : ((k r : ℕ) → PairsShow p l t k r) → ((k r : ℕ) → AreWindowed p l t k r) → StayShut p l t
      → (k : ℕ) (gs : List RankGroup) (st : State F) (f : Flat F) → Shows p l t st f → GroupsAreAlone p l (all_closed k gs) → ComeReady p l t (all_closed k gs) st
      → CanBegin p l st.frames (all_alone k gs)
  all_can law have stay k [] st f shows groups ready = tt
  all_can law have stay k (x ∷ gs) st f shows groups ready =
      let r = x.rank in
      let xs = x.places in
      let first : ComeReady p l t (closed k r xs) st = ready_front p l t (closed k r xs ++ all_closed k gs) (closed k r xs) (all_closed k gs) st ready refl in
      let all = first [] k r xs (ends k r xs) (ap (λ z. z ++ ends k r xs) (sym (begins_same k r xs))) st (done_none p l t st) in
      let left : length xs ≤ st.frames.left = all.3 in
      let can : CanBegin p l st.frames (alone k r xs) =
      can_alone p l st.frames k r xs (λ i lt. (planned_at (by_place p l) k r xs all.0 i lt, shut_get st.frames.panes r xs all.1 i lt, omega (arith, lt, left))) in
      let alone_ready : ComeReady p l t (alone k r xs) st = closed_ready p l t stay k r xs st f shows first in
      let after = can_be_done p l t k r (law k r) (have k r) xs st alone_ready (length xs) (omega arith) in
      let done : Done p l t (alone k r xs) st after.0 = subst (λ z. Done p l t (alone k r z) st after.0) (take_all (length xs) xs (omega arith)) after.1 in
      let whole : Done p l t (closed k r xs) st after.0 =
      closed_done p l t k r xs st after.0 (groups_front p l (closed k r xs ++ all_closed k gs) (closed k r xs) (all_closed k gs) groups refl) done in
      let rest : CanBegin p l after.0.frames (all_alone k gs) =
      all_can law have stay k gs after.0 (flat_from p l (closed k r xs) f) (whole.shows f shows)
      (groups_after p l (closed k r xs ++ all_closed k gs) (closed k r xs) (all_closed k gs) groups refl)
      (ready_after p l t (closed k r xs ++ all_closed k gs) (closed k r xs) (all_closed k gs) st after.0 ready refl whole) in
      can_both p l st.frames (alone k r xs) (all_alone k gs) can (subst (λ (fs : Panes). CanBegin p l fs (all_alone k gs)) after.2 rest)

  -- the groups are done by their elements
  pub all_done : (k : ℕ) (gs : List RankGroup) (old new : State F) → SeveralAreAlone p l (all_closed k gs) → Done p l t (all_alone k gs) old new → Done p l t (all_closed k gs) old new
  all_done k gs old new law d = record {
    shows = λ f h. shows_alike p l t new (flat_from p l (all_alone k gs) f) (flat_from p l (all_closed k gs) f) (d.shows f h)
        (law [] k gs [] (sym (append-nil (all_closed k gs))) f h.stop);
    mail = λ n. ap (λ m. new.mail.left + m) (mail_all_closed (message_cells l) k n gs ∙ sym (mail_all_alone (message_cells l) k n gs)) ∙ d.mail n;
    frames = λ n. ap (λ m. new.frames.left + m) (open_all_closed k n gs ∙ sym (open_all_alone k n gs)) ∙ d.frames n;
  }

  -- of a round the elements of one rank
  pub can_rank : (fs : Panes) (k : ℕ) (places : ℕ → List ℕ) (n : ℕ) → CanBegin p l fs (round k places n) → (r : ℕ) → r < n → CanBegin p l fs (alone k r (places r))
  can_rank fs k places zero h r lt = absurd (omega (arith, lt))
  can_rank fs k places (suc n) h r lt = ⊎_elim
      (λ (m : r < n). can_rank fs k places n (can_front p l fs (round k places n) (alone k n (places n)) h) r m)
      (λ (m : n ≤ r).
      let e : n ≡ r = omega (arith, m, lt) in
      subst (λ z. CanBegin p l fs (alone k z (places z))) e (can_back p l fs (round k places n) (alone k n (places n)) h))
      (cases_lt r n)

-- the fault that is kept of those of elements is of an element
kept_element : {F : Type 0} (o : Option (Stop F)) (x : Stop F) → OfElement o → (e : ℕ) × (x.element ≡ Some e) → OfElement (kept o x)
kept_element None x a b = b
kept_element {F = F} (Some y) x a b = cond_both (is_less x y) x y (λ (w : Stop F). (i : ℕ) × (w.element ≡ Some i)) (λ t. b) (λ t. a)

pub kept_elements : {F : Type 0} (o : Option (Stop F)) (xs : List (Stop F)) → OfElement o → OfElements xs → OfElement (kept_of o xs)
kept_elements o [] a h = a
kept_elements o (x ∷ xs) a h = kept_elements (kept o x) xs (kept_element o x a h.0) h.1

-- a round is done once the elements of each rank ran on what was lent of it
pub ran_round : {F : Type 0} (p : Setup F) (l : Layout F) (t : Tables) → RanksComeInTurn p l t → Indexed p l t → IsLayout p l
    → (k : ℕ) (places : ℕ → List ℕ) (n : ℕ) (old new : State F) (f : Flat F) → Shows p l t old f → CanBegin p l old.frames (round k places n)
    → (news : List (Share F)) → length news ≡ n → n ≡ length old.memories
    → RanOnRanks p l t k (values_at old.variables t.constants) old.variables places old (share_at news) (length news)
    → SharesAreSet old news → new ≡ with_shares news old
    → Done p l t (round k places n) old new
ran_round {F = F} p l t turns indexed layout k places n old new f shows can news many ranks ran set is =
    let cells : length old.memories ≡ length news = omega (arith, many, ranks) in
    let amounts : length old.partials ≡ length news = omega (arith, cells, shows.sized.ranks, shows.sized.partials) in
    let kept : OfElement old.fault = subst OfElement (sym shows.fault) (kept_elements None f.faults tt shows.elements) in
    let done = turns indexed layout k places old (share_at news) (length news) kept (omega (arith, cells)) (omega (arith, amounts)) ran
    (subst (λ m. CanBegin p l old.frames (round k places m)) (sym many) can) in
    subst (λ m. Done p l t (round k places m) old new) many
    (subst (λ (s : State F). Done p l t (round k places (length news)) old s) (set cells amounts ∙ sym is) done)
