-- Elements that run one after another on their rank were each begun and ended.
use Rattle.std.proofs.Common.{◌≡◌, ℕ, zero, suc, ◌+◌, ◌<◌, ◌≤◌, refl, sym, ap, subst, ◌∙◌, arith, List, [], ◌∷◌, length, take, drop, get_or}
use Rattle.std.specs.Prelude.{◌==◌}
use Rattle.schedule_steps.specs.declared.step.Step.TheVariants.{Begin, End}
use Rattle.schedule_steps.specs.Steps.{IsStep}
use Rattle.step_orders.specs.Alone.{alone}
use Rattle.schedule_model.specs.Setup.{Setup}
use Rattle.schedule_model.specs.Layout.{Layout, by_place}
use Rattle.schedule_model.specs.Flat.{Flat, flat_step}
use Rattle.rank_state.specs.declared.spans.Span.{Span}
use Rattle.rank_state.specs.declared.scalars.Scalar.{Scalar}
use Rattle.rank_state.specs.Indices.{values_at}
use Rattle.rank_state.specs.Groups.{Planned, AllShut, Distinct}
use Rattle.rank_state.specs.Machine.{State, passed, windows_of}
use Rattle.rank_state.specs.Shows.{Tables, AreWindows, Shows}
use Rattle.rank_program.specs.AloneRuns.{AllBegin, Share, Reaches, share_of, with_share}
use Rattle.rank_program.proofs.Public.{PairsShow, unchanged, run_passes}
use Rattle.rank_state.specs.Frames.{Panes}
use Rattle.rank_exec.specs.Driving.{Done, ComeReady}
use Rattle.rank_exec.specs.Rounds.{CanBegin}
use Rattle.rank_exec.proofs.Beginning.{BeginsAt, can_alone, can_at}
use Rattle.rank_exec.proofs.Driving.{done_none, done_more, done_pair}
use Rattle.rank_exec.proofs.Grouping.{alone_at, alone_next, alone_none}

module _ {F : Type 0} (p : Setup F) (l : Layout F) (t : Tables) (k r : ℕ) where
  -- after those at the places before it, an element can begin
  pub next_ready : (places : List ℕ) (old : State F) → ComeReady p l t (alone k r places) old
      → (i : ℕ) → i < length places → (now : State F) → Done p l t (alone k r (take i places)) old now
      → Planned (by_place p l) k r (get_or places i 0 ∷ []) × AllShut now.frames.panes r (get_or places i 0 ∷ [])
      × Distinct (get_or places i 0 ∷ []) × (1 ≤ now.frames.left)
  next_ready places old ready i lt now done =
      ready (alone k r (take i places)) k r (get_or places i 0 ∷ []) (End k r (get_or places i 0) ∷ alone k r (drop (suc i) places)) (alone_at k r places i lt) now done

  pub none_done : (places : List ℕ) (st : State F) → Done p l t (alone k r (take 0 places)) st st
  none_done places st = subst (λ z. Done p l t z st st) (sym (alone_none k r places)) (done_none p l t st)

  -- one more is done
  pair_done : (places : List ℕ) (i : ℕ) → i < length places → (old st new : State F) → Done p l t (alone k r (take i places)) old st
      → ((f : Flat F) → Shows p l t st f → Shows p l t new (flat_step p l (End k r (get_or places i 0)) (flat_step p l (Begin k r (get_or places i 0)) f)))
      → new.mail.left ≡ st.mail.left → new.frames.left ≡ st.frames.left → Done p l t (alone k r (take (suc i) places)) old new
  pair_done places i lt old st new before shows mail frames =
      let next : i + 1 ≡ suc i = omega arith in
      subst (λ z. Done p l t z old new) (sym (alone_next k r places i lt) ∙ ap (λ n. alone k r (take n places)) next)
      (done_more p l t (alone k r (take i places)) (Begin k r (get_or places i 0) ∷ End k r (get_or places i 0) ∷ []) old st new before
      (done_pair p l t k r (get_or places i 0) st new shows mail frames))

  -- each element that begins has windows
  abbrev pub AreWindowed : Type 0
  AreWindowed =
      (x : ℕ) → IsStep (by_place p l) (Begin k r x) → (spans : List Span) × (scalars : List Scalar) × AreWindows p l t k r x spans scalars

  -- elements that come one after another can be taken
  pub can_be_done : PairsShow p l t k r → AreWindowed → (places : List ℕ) (old : State F) → ComeReady p l t (alone k r places) old → (i : ℕ) → i ≤ length places
      → (st : State F) × Done p l t (alone k r (take i places)) old st × (st.frames ≡ old.frames)
  can_be_done law have places old ready zero le = (old, none_done places old, refl)
  can_be_done law have places old ready (suc i) le =
      let lt : i < length places = omega (arith, le) in
      let before = can_be_done law have places old ready i (omega (arith, le)) in
      let st = before.0 in
      let x = get_or places i 0 in
      let now = next_ready places old ready i lt st before.1 in
      let left : 1 ≤ st.frames.left = now.3 in
      let are = have x now.0.0 in
      let new : State F = passed (p.owner (p.program.set k) (l.original k r x) == r) k r (l.original k r x) are.0 are.1
      (l.core k (l.original k r x) (values_at st.variables t.constants) (windows_of st r are.0 are.1)) st in (
        new,
        pair_done places i lt old st new before.1 (λ f shows. law x now.0.0 are.0 are.1 are.2 st f shows now.1.0 (omega (arith, left)))
            (refl {a = st.mail.left}) (refl {a = st.frames.left}),
        before.2,
      )

  -- so each of them is a step
  pub all_begin : PairsShow p l t k r → AreWindowed → (places : List ℕ) (old : State F) → ComeReady p l t (alone k r places) old → AllBegin p l t k r places
  all_begin law have places old ready i lt =
      let before = can_be_done law have places old ready i (omega (arith, lt)) in
      (next_ready places old ready i lt before.0 before.1).0.0

  -- and has no frame before all of them
  pub alone_can : PairsShow p l t k r → AreWindowed → (places : List ℕ) (old : State F) → ComeReady p l t (alone k r places) old → CanBegin p l old.frames (alone k r places)
  alone_can law have places old ready = can_alone p l old.frames k r places one
    where
      one : (i : ℕ) → i < length places → BeginsAt p l old.frames k r (get_or places i 0)
      one i lt =
          let before = can_be_done law have places old ready i (omega (arith, lt)) in
          let now = next_ready places old ready i lt before.0 before.1 in
          let left : 1 ≤ before.0.frames.left = now.3 in
          subst (λ (fs : Panes). BeginsAt p l fs k r (get_or places i 0)) before.2 (now.0.0, now.1.0, omega (arith, left))

  module _ (old : State F) (here : r < length old.memories) (there : r < length old.partials) where
    -- the runs are the steps
    pub runs_done : PairsShow p l t k r → (places : List ℕ) → CanBegin p l old.frames (alone k r places) → (i : ℕ) → i ≤ length places → (new : Share F)
        → Reaches p l t k r (values_at old.variables t.constants) old.variables places (share_of r old) i new
        → Done p l t (alone k r (take i places)) old (with_share r new old)
    runs_done law places can zero le new h =
        subst (λ st. Done p l t (alone k r (take 0 places)) old st) (unchanged p l t k r old here there new h) (none_done places old)
    runs_done law places can (suc i) le new h =
        let lt : i < length places = omega (arith, le) in
        let before : Done p l t (alone k r (take i places)) old (with_share r h.0 old) = runs_done law places can i (omega (arith, le)) h.0 h.1 in
        let x = get_or places i 0 in
        let now : BeginsAt p l old.frames k r x = can_at p l old.frames k r places can i lt in
        pair_done places i lt old (with_share r h.0 old) (with_share r new old) before
        (λ f shows. subst (λ st. Shows p l t st (flat_step p l (End k r x) (flat_step p l (Begin k r x) f))) (run_passes p l t k r old here there x h.0 new h.2)
        (law x now.0 h.2.spans h.2.scalars h.2.are (with_share r h.0 old) f shows now.1 now.2)) (refl {a = old.mail.left}) (refl {a = old.frames.left})
