-- What comes next in an accepted list is ready.
use Rattle.std.proofs.Common.{◌≡◌, ℕ, ◌+◌, ◌<◌, ◌≤◌, refl, sym, subst, ◌∙◌, arith, List, ◌∷◌, ◌++◌, length, append_assoc}
use Rattle.schedule_steps.specs.Outline.{Outline}
use Rattle.schedule_steps.specs.declared.step.Step.{Step}
use Rattle.schedule_steps.specs.declared.step.Step.TheVariants.{Send, Recv, Begin, End, Join}
use Rattle.schedule_steps.specs.Steps.{Accepted}
use Rattle.schedule_steps.specs.Peaks.{open_step, mail_step, count_after, greatest}
use Rattle.schedule_model.specs.Setup.{Setup}
use Rattle.schedule_model.specs.Layout.{Layout, by_place, message_cells}
use Rattle.schedule_model.specs.Flat.{Flat, flat_step, flat_from, StartsFlat}
use Rattle.rank_state.specs.Groups.{begins, Planned, AllShut, Distinct}
use Rattle.rank_state.specs.Machine.{State}
use Rattle.rank_state.specs.Shows.{Tables, Shows}
use Rattle.rank_exec.specs.Driving.{ComeReady, Reached, posts, takes, opens, shuts}
use Rattle.rank_exec.proofs.Driving.{reached_more, reached_step, count_append, count_below}
use Rattle.rank_exec.proofs.Grouping.{opened_by}

-- in an accepted list an element is open before its end, and a message is under way before its receive
abbrev pub EndsOpen : Type 0
EndsOpen =
    (o : Outline) (l : List Step) → Accepted o l → (pre post : List Step) (k r e : ℕ) → l ≡ pre ++ (End k r e ∷ post) → 0 < count_after open_step 0 pre

abbrev pub ReceivesSent : Type 0
ReceivesSent =
    (o : Outline) (l : List Step) → Accepted o l → (cells : ℕ → ℕ → ℕ → ℕ) (pre post : List Step) (k r s : ℕ) → l ≡ pre ++ (Recv k r s ∷ post)
    → cells k s r ≤ count_after (mail_step cells) 0 pre

module _ {F : Type 0} (p : Setup F) (l : Layout F) (t : Tables) where
  -- before begins of an accepted list nothing is open at their places
  abbrev pub BeginsShut : Type 0
  BeginsShut =
      (all : List Step) → Accepted (by_place p l) all → (start : Flat F) → StartsFlat p l start
      → (front left : List Step) (k r : ℕ) (places : List ℕ) → all ≡ front ++ (begins k r places ++ left)
      → (st : State F) → Shows p l t st (flat_from p l front start)
      → Planned (by_place p l) k r places × AllShut st.frames.panes r places × Distinct places

  pub come_ready : BeginsShut → (all come : List Step) → Accepted (by_place p l) all → (start : Flat F) → StartsFlat p l start
      → (old st : State F) → Shows p l t old start → greatest open_step 0 all ≤ old.frames.left → Reached p l t all come old st → ComeReady p l t come st
  come_ready law all come acc start starts old st shows peak r done k b places rest e at d =
      let q = reached_more p l t all come (begins k b places ++ rest) done old st at r e d in
      let split : all ≡ q.front ++ (begins k b places ++ rest) = q.split in
      let ready = law all acc start starts q.front rest k b places split at (q.shows start starts shows) in
      let below : count_after open_step 0 (q.front ++ begins k b places) ≤ greatest open_step 0 all =
      subst (λ z. count_after open_step 0 (q.front ++ begins k b places) ≤ greatest open_step 0 z) (append_assoc q.front (begins k b places) rest ∙ sym split)
      (count_below open_step 0 (q.front ++ begins k b places) rest) in
      let count = count_append open_step 0 q.front (begins k b places) in
      let opened = opened_by k b (count_after open_step 0 q.front) places in
      let frames = q.frames in
      let room : length places ≤ at.frames.left = omega (arith, below, count, opened, frames, peak) in
      (ready.0, ready.1, ready.2, room)

  -- the next step is taken
  pub reached_taken : EndsOpen → ReceivesSent → (all left : List Step) (s : Step) → Accepted (by_place p l) all → (old st new : State F)
      → Reached p l t all (s ∷ left) old st → ((f : Flat F) → Shows p l t st f → Shows p l t new (flat_step p l s f))
      → new.mail.left + posts l s ≡ st.mail.left + takes l s → new.frames.left + opens s ≡ st.frames.left + shuts s
      → Reached p l t all left old new
  reached_taken ends receives all left s acc old st new r step mails frames =
      reached_step p l t all left left s old st new r refl step mails frames (by_recv s r.split) (by_end s r.split)
    where
      by_end : (u : Step) → all ≡ r.front ++ (u ∷ left) → shuts u ≤ count_after open_step 0 r.front
      by_end (Send k a b) e = omega arith
      by_end (Recv k a b) e = omega arith
      by_end (Begin k a b) e = omega arith
      by_end (End k a b) e = ends (by_place p l) all acc r.front left k a b e
      by_end (Join k) e = omega arith

      by_recv : (u : Step) → all ≡ r.front ++ (u ∷ left) → takes l u ≤ count_after (mail_step (message_cells l)) 0 r.front
      by_recv (Send k a b) e = omega arith
      by_recv (Recv k a b) e = receives (by_place p l) all acc (message_cells l) r.front left k a b e
      by_recv (Begin k a b) e = omega arith
      by_recv (End k a b) e = omega arith
      by_recv (Join k) e = omega arith
