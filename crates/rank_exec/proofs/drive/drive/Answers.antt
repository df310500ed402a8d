use Rattle.std.proofs.Common.{◌≡◌, [], ◌∷◌, ◌++◌, None, Some, ap, sym, subst, ◌∙◌, arith, append_assoc}
use Rattle.schedule_model.specs.Sequential.{sequential}
use Rattle.schedule_steps.specs.declared.step.Step.{Step}
use Rattle.schedule_steps.specs.declared.step.Step.TheVariants.{Send, Recv, Begin, End, Join}
use Rattle.schedule_model.specs.Layout.{message_cells}
use Rattle.schedule_model.specs.Flat.{flat_step, flat_from}
use Rattle.rank_state.specs.Stops.{stop_of, stop_in}
use Rattle.rank_exec.specs.Driving.{Ready, After, Reached, to_come, behind}
use Rattle.rank_exec.specs.declared.begins.Begun.TheVariants.{Group}
use Rattle.rank_exec.proofs.Driving.{as_sequential, at_end, stops_at, reached_none, reached_at, reached_more, front_taken}
use Rattle.rank_exec.proofs.Closing.{groups_after}
use Rattle.rank_exec.proofs.Coming.{come_ready, reached_taken}
use Rattle.rank_program.specs.Sound.{setup_in, layout_in, tables_in}
use Rattle.rank_exec.proofs.drive.drive.Goals as goal

pub loop-next-init : goal.loop-next-init
loop-next-init g c = record {
  reached = reached_none (setup_in c.args.program.now) (layout_in c.args.program.now) (tables_in c.args.program.now)
      (g.S.Steps.left c.args.steps.now) (to_come c.next_of-next.result (g.S.Steps.left c.next_of-next.new.steps)) c.args.machine.now
      c.next_of-next.ensures.next;
  space = c.requires.space;
  over = c.next_of-next.ensures.over;
}

pub run_begins-requires-clause-ready : goal.run_begins-requires-clause-ready
run_begins-requires-clause-ready g c κs within =
    come_ready (setup_in c.args.program.now) (layout_in c.args.program.now) (tables_in c.args.program.now)
    (c.steps_are_ready.ensures.begin (setup_in c.args.program.now) (layout_in c.args.program.now) (tables_in c.args.program.now))
    (g.S.Steps.left c.args.steps.now) (Begin c.in-Begin.item c.in-Begin.rank c.in-Begin.place ∷ g.S.Steps.left c.loop-next.steps)
    c.requires.accepted c.requires.starts.0 c.requires.starts.1 c.args.machine.now c.loop-next.machine c.requires.starts.2
    c.requires.peak.opened r
  where
    r : Reached (setup_in c.args.program.now) (layout_in c.args.program.now) (tables_in c.args.program.now)
        (g.S.Steps.left c.args.steps.now) (Begin c.in-Begin.item c.in-Begin.rank c.in-Begin.place ∷ g.S.Steps.left c.loop-next.steps)
        c.args.machine.now c.loop-next.machine
    r = reached_at (setup_in c.args.program.now) (layout_in c.args.program.now) (tables_in c.args.program.now)
        (g.S.Steps.left c.args.steps.now) (g.S.Steps.left c.loop-next.steps) c.args.machine.now c.loop-next.machine c.loop-next.next
        (Begin c.in-Begin.item c.in-Begin.rank c.in-Begin.place) (c.in-Some.is ∙ ap Some c.in-Begin.is) c.loop-next.invariant.reached

pub loop-next-preserved-in-Group : goal.loop-next-preserved-in-Group
loop-next-preserved-in-Group g c =
    let done = c.run_begins.ensures.done in
    record {
      reached = reached_more (setup_in c.args.program.now) (layout_in c.args.program.now) (tables_in c.args.program.now)
          (g.S.Steps.left c.args.steps.now) (Begin c.in-Begin.item c.in-Begin.rank c.in-Begin.place ∷ g.S.Steps.left c.loop-next.steps)
          (to_come c.in-Group.behind (g.S.Steps.left c.run_begins.new.steps)) done.0 c.args.machine.now c.loop-next.machine
          c.run_begins.new.machine r
          (subst (λ b. Begin c.in-Begin.item c.in-Begin.rank c.in-Begin.place ∷ g.S.Steps.left c.loop-next.steps ≡ done.0 ++ behind b
          (g.S.Steps.left c.run_begins.new.steps)) c.in-Group.is done.1) done.3;
      space = c.run_begins.ensures.space;
      over = λ e. c.run_begins.ensures.over (c.in-Group.is ∙ ap Group e);
    }
  where
    r : Reached (setup_in c.args.program.now) (layout_in c.args.program.now) (tables_in c.args.program.now)
        (g.S.Steps.left c.args.steps.now) (Begin c.in-Begin.item c.in-Begin.rank c.in-Begin.place ∷ g.S.Steps.left c.loop-next.steps)
        c.args.machine.now c.loop-next.machine
    r = reached_at (setup_in c.args.program.now) (layout_in c.args.program.now) (tables_in c.args.program.now)
        (g.S.Steps.left c.args.steps.now) (g.S.Steps.left c.loop-next.steps) c.args.machine.now c.loop-next.machine c.loop-next.next
        (Begin c.in-Begin.item c.in-Begin.rank c.in-Begin.place) (c.in-Some.is ∙ ap Some c.in-Begin.is) c.loop-next.invariant.reached

pub run_behind-requires-clause-shows : goal.run_behind-requires-clause-shows
run_behind-requires-clause-shows g c κs within = (
  flat_from (setup_in c.args.program.now) (layout_in c.args.program.now) taken.front c.requires.starts.0,
  taken.shows c.requires.starts.0
      c.requires.starts.1 c.requires.starts.2,
)
  where
    r : Reached (setup_in c.args.program.now) (layout_in c.args.program.now) (tables_in c.args.program.now)
        (g.S.Steps.left c.args.steps.now) (Begin c.in-Begin.item c.in-Begin.rank c.in-Begin.place ∷ g.S.Steps.left c.loop-next.steps)
        c.args.machine.now c.loop-next.machine
    r = reached_at (setup_in c.args.program.now) (layout_in c.args.program.now) (tables_in c.args.program.now)
        (g.S.Steps.left c.args.steps.now) (g.S.Steps.left c.loop-next.steps) c.args.machine.now c.loop-next.machine c.loop-next.next
        (Begin c.in-Begin.item c.in-Begin.rank c.in-Begin.place) (c.in-Some.is ∙ ap Some c.in-Begin.is) c.loop-next.invariant.reached

    taken : Reached (setup_in c.args.program.now) (layout_in c.args.program.now) (tables_in c.args.program.now)
        (g.S.Steps.left c.args.steps.now) (g.S.Steps.left c.run_begins.new.steps) c.args.machine.now c.run_begins.new.machine
    taken = reached_more (setup_in c.args.program.now) (layout_in c.args.program.now) (tables_in c.args.program.now)
        (g.S.Steps.left c.args.steps.now) (Begin c.in-Begin.item c.in-Begin.rank c.in-Begin.place ∷ g.S.Steps.left c.loop-next.steps)
        (g.S.Steps.left c.run_begins.new.steps) c.run_begins.ensures.done.0 c.args.machine.now c.loop-next.machine c.run_begins.new.machine
        r
        (subst (λ b. Begin c.in-Begin.item c.in-Begin.rank c.in-Begin.place ∷ g.S.Steps.left c.loop-next.steps ≡ c.run_begins.ensures.done.0
        ++ behind b (g.S.Steps.left c.run_begins.new.steps)) c.in-InPlace.is c.run_begins.ensures.done.1)
        c.run_begins.ensures.done.3

pub run_behind-requires-clause-ready : goal.run_behind-requires-clause-ready
run_behind-requires-clause-ready g c κs within =
    come_ready (setup_in c.args.program.now) (layout_in c.args.program.now) (tables_in c.args.program.now)
    (c.steps_are_ready.ensures.begin (setup_in c.args.program.now) (layout_in c.args.program.now) (tables_in c.args.program.now))
    (g.S.Steps.left c.args.steps.now) (g.S.Steps.left c.run_begins.new.steps) c.requires.accepted c.requires.starts.0
    c.requires.starts.1 c.args.machine.now c.run_begins.new.machine c.requires.starts.2 c.requires.peak.opened taken
  where
    r : Reached (setup_in c.args.program.now) (layout_in c.args.program.now) (tables_in c.args.program.now)
        (g.S.Steps.left c.args.steps.now) (Begin c.in-Begin.item c.in-Begin.rank c.in-Begin.place ∷ g.S.Steps.left c.loop-next.steps)
        c.args.machine.now c.loop-next.machine
    r = reached_at (setup_in c.args.program.now) (layout_in c.args.program.now) (tables_in c.args.program.now)
        (g.S.Steps.left c.args.steps.now) (g.S.Steps.left c.loop-next.steps) c.args.machine.now c.loop-next.machine c.loop-next.next
        (Begin c.in-Begin.item c.in-Begin.rank c.in-Begin.place) (c.in-Some.is ∙ ap Some c.in-Begin.is) c.loop-next.invariant.reached

    taken : Reached (setup_in c.args.program.now) (layout_in c.args.program.now) (tables_in c.args.program.now)
        (g.S.Steps.left c.args.steps.now) (g.S.Steps.left c.run_begins.new.steps) c.args.machine.now c.run_begins.new.machine
    taken = reached_more (setup_in c.args.program.now) (layout_in c.args.program.now) (tables_in c.args.program.now)
        (g.S.Steps.left c.args.steps.now) (Begin c.in-Begin.item c.in-Begin.rank c.in-Begin.place ∷ g.S.Steps.left c.loop-next.steps)
        (g.S.Steps.left c.run_begins.new.steps) c.run_begins.ensures.done.0 c.args.machine.now c.loop-next.machine c.run_begins.new.machine
        r
        (subst (λ b. Begin c.in-Begin.item c.in-Begin.rank c.in-Begin.place ∷ g.S.Steps.left c.loop-next.steps ≡ c.run_begins.ensures.done.0
        ++ behind b (g.S.Steps.left c.run_begins.new.steps)) c.in-InPlace.is c.run_begins.ensures.done.1)
        c.run_begins.ensures.done.3

pub run_behind-requires-clause-alone : goal.run_behind-requires-clause-alone
run_behind-requires-clause-alone g c κs within =
    groups_after (setup_in c.args.program.now) (layout_in c.args.program.now) (g.S.Steps.left c.args.steps.now) taken.front
    (g.S.Steps.left c.run_begins.new.steps)
    (c.closed_groups_are_alone.ensures (setup_in c.args.program.now) c.requires.coloured (layout_in c.args.program.now)
    c.is_sound.ensures.layout (g.S.Steps.left c.args.steps.now) c.requires.accepted) taken.split
  where
    r : Reached (setup_in c.args.program.now) (layout_in c.args.program.now) (tables_in c.args.program.now)
        (g.S.Steps.left c.args.steps.now) (Begin c.in-Begin.item c.in-Begin.rank c.in-Begin.place ∷ g.S.Steps.left c.loop-next.steps)
        c.args.machine.now c.loop-next.machine
    r = reached_at (setup_in c.args.program.now) (layout_in c.args.program.now) (tables_in c.args.program.now)
        (g.S.Steps.left c.args.steps.now) (g.S.Steps.left c.loop-next.steps) c.args.machine.now c.loop-next.machine c.loop-next.next
        (Begin c.in-Begin.item c.in-Begin.rank c.in-Begin.place) (c.in-Some.is ∙ ap Some c.in-Begin.is) c.loop-next.invariant.reached

    taken : Reached (setup_in c.args.program.now) (layout_in c.args.program.now) (tables_in c.args.program.now)
        (g.S.Steps.left c.args.steps.now) (g.S.Steps.left c.run_begins.new.steps) c.args.machine.now c.run_begins.new.machine
    taken = reached_more (setup_in c.args.program.now) (layout_in c.args.program.now) (tables_in c.args.program.now)
        (g.S.Steps.left c.args.steps.now) (Begin c.in-Begin.item c.in-Begin.rank c.in-Begin.place ∷ g.S.Steps.left c.loop-next.steps)
        (g.S.Steps.left c.run_begins.new.steps) c.run_begins.ensures.done.0 c.args.machine.now c.loop-next.machine c.run_begins.new.machine
        r
        (subst (λ b. Begin c.in-Begin.item c.in-Begin.rank c.in-Begin.place ∷ g.S.Steps.left c.loop-next.steps ≡ c.run_begins.ensures.done.0
        ++ behind b (g.S.Steps.left c.run_begins.new.steps)) c.in-InPlace.is c.run_begins.ensures.done.1)
        c.run_begins.ensures.done.3

pub loop-next-preserved-in-InPlace : goal.loop-next-preserved-in-InPlace
loop-next-preserved-in-InPlace g c =
    let done = c.in_ok-run_behind-in-InPlace.ensures.done in
    record {
      reached = reached_more (setup_in c.args.program.now) (layout_in c.args.program.now) (tables_in c.args.program.now)
          (g.S.Steps.left c.args.steps.now) (g.S.Steps.left c.run_begins.new.steps)
          (to_come c.next_of-next-in-InPlace.result (g.S.Steps.left c.next_of-next-in-InPlace.new.steps)) done.0 c.args.machine.now
          c.run_begins.new.machine c.run_behind.new.machine taken
          (done.1 ∙ ap (λ z. done.0 ++ z) c.next_of-next-in-InPlace.ensures.next) done.2;
      space = c.in_ok-run_behind-in-InPlace.ensures.space;
      over = c.next_of-next-in-InPlace.ensures.over;
    }
  where
    r : Reached (setup_in c.args.program.now) (layout_in c.args.program.now) (tables_in c.args.program.now)
        (g.S.Steps.left c.args.steps.now) (Begin c.in-Begin.item c.in-Begin.rank c.in-Begin.place ∷ g.S.Steps.left c.loop-next.steps)
        c.args.machine.now c.loop-next.machine
    r = reached_at (setup_in c.args.program.now) (layout_in c.args.program.now) (tables_in c.args.program.now)
        (g.S.Steps.left c.args.steps.now) (g.S.Steps.left c.loop-next.steps) c.args.machine.now c.loop-next.machine c.loop-next.next
        (Begin c.in-Begin.item c.in-Begin.rank c.in-Begin.place) (c.in-Some.is ∙ ap Some c.in-Begin.is) c.loop-next.invariant.reached

    taken : Reached (setup_in c.args.program.now) (layout_in c.args.program.now) (tables_in c.args.program.now)
        (g.S.Steps.left c.args.steps.now) (g.S.Steps.left c.run_begins.new.steps) c.args.machine.now c.run_begins.new.machine
    taken = reached_more (setup_in c.args.program.now) (layout_in c.args.program.now) (tables_in c.args.program.now)
        (g.S.Steps.left c.args.steps.now) (Begin c.in-Begin.item c.in-Begin.rank c.in-Begin.place ∷ g.S.Steps.left c.loop-next.steps)
        (g.S.Steps.left c.run_begins.new.steps) c.run_begins.ensures.done.0 c.args.machine.now c.loop-next.machine c.run_begins.new.machine
        r
        (subst (λ b. Begin c.in-Begin.item c.in-Begin.rank c.in-Begin.place ∷ g.S.Steps.left c.loop-next.steps ≡ c.run_begins.ensures.done.0
        ++ behind b (g.S.Steps.left c.run_begins.new.steps)) c.in-InPlace.is c.run_begins.ensures.done.1)
        c.run_begins.ensures.done.3

pub returns-in_err-run_behind-in-InPlace-clause-suffix : goal.returns-in_err-run_behind-in-InPlace-clause-suffix
returns-in_err-run_behind-in-InPlace-clause-suffix g c =
    let more = c.run_behind.ensures.suffix in (
      taken.front ++ more.0,
      taken.split ∙
          (ap (λ z. taken.front ++ z) more.1 ∙ sym (append_assoc taken.front more.0 (g.S.Steps.left c.run_behind.new.steps))),
    )
  where
    r : Reached (setup_in c.args.program.now) (layout_in c.args.program.now) (tables_in c.args.program.now)
        (g.S.Steps.left c.args.steps.now) (Begin c.in-Begin.item c.in-Begin.rank c.in-Begin.place ∷ g.S.Steps.left c.loop-next.steps)
        c.args.machine.now c.loop-next.machine
    r = reached_at (setup_in c.args.program.now) (layout_in c.args.program.now) (tables_in c.args.program.now)
        (g.S.Steps.left c.args.steps.now) (g.S.Steps.left c.loop-next.steps) c.args.machine.now c.loop-next.machine c.loop-next.next
        (Begin c.in-Begin.item c.in-Begin.rank c.in-Begin.place) (c.in-Some.is ∙ ap Some c.in-Begin.is) c.loop-next.invariant.reached

    taken : Reached (setup_in c.args.program.now) (layout_in c.args.program.now) (tables_in c.args.program.now)
        (g.S.Steps.left c.args.steps.now) (g.S.Steps.left c.run_begins.new.steps) c.args.machine.now c.run_begins.new.machine
    taken = reached_more (setup_in c.args.program.now) (layout_in c.args.program.now) (tables_in c.args.program.now)
        (g.S.Steps.left c.args.steps.now) (Begin c.in-Begin.item c.in-Begin.rank c.in-Begin.place ∷ g.S.Steps.left c.loop-next.steps)
        (g.S.Steps.left c.run_begins.new.steps) c.run_begins.ensures.done.0 c.args.machine.now c.loop-next.machine c.run_begins.new.machine
        r
        (subst (λ b. Begin c.in-Begin.item c.in-Begin.rank c.in-Begin.place ∷ g.S.Steps.left c.loop-next.steps ≡ c.run_begins.ensures.done.0
        ++ behind b (g.S.Steps.left c.run_begins.new.steps)) c.in-InPlace.is c.run_begins.ensures.done.1)
        c.run_begins.ensures.done.3

pub run_begins-requires-clause-shows : goal.run_begins-requires-clause-shows
run_begins-requires-clause-shows g c κs within = (
  flat_from (setup_in c.args.program.now) (layout_in c.args.program.now) r.front c.requires.starts.0,
  r.shows c.requires.starts.0
      c.requires.starts.1 c.requires.starts.2,
)
  where
    r : Reached (setup_in c.args.program.now) (layout_in c.args.program.now) (tables_in c.args.program.now)
        (g.S.Steps.left c.args.steps.now) (Begin c.in-Begin.item c.in-Begin.rank c.in-Begin.place ∷ g.S.Steps.left c.loop-next.steps)
        c.args.machine.now c.loop-next.machine
    r = reached_at (setup_in c.args.program.now) (layout_in c.args.program.now) (tables_in c.args.program.now)
        (g.S.Steps.left c.args.steps.now) (g.S.Steps.left c.loop-next.steps) c.args.machine.now c.loop-next.machine c.loop-next.next
        (Begin c.in-Begin.item c.in-Begin.rank c.in-Begin.place) (c.in-Some.is ∙ ap Some c.in-Begin.is) c.loop-next.invariant.reached

pub run_begins-requires-clause-alone : goal.run_begins-requires-clause-alone
run_begins-requires-clause-alone g c κs within =
    groups_after (setup_in c.args.program.now) (layout_in c.args.program.now) (g.S.Steps.left c.args.steps.now) r.front
    (Begin c.in-Begin.item c.in-Begin.rank c.in-Begin.place ∷ g.S.Steps.left c.loop-next.steps)
    (c.closed_groups_are_alone.ensures (setup_in c.args.program.now) c.requires.coloured (layout_in c.args.program.now)
    c.is_sound.ensures.layout (g.S.Steps.left c.args.steps.now) c.requires.accepted) r.split
  where
    r : Reached (setup_in c.args.program.now) (layout_in c.args.program.now) (tables_in c.args.program.now)
        (g.S.Steps.left c.args.steps.now) (Begin c.in-Begin.item c.in-Begin.rank c.in-Begin.place ∷ g.S.Steps.left c.loop-next.steps)
        c.args.machine.now c.loop-next.machine
    r = reached_at (setup_in c.args.program.now) (layout_in c.args.program.now) (tables_in c.args.program.now)
        (g.S.Steps.left c.args.steps.now) (g.S.Steps.left c.loop-next.steps) c.args.machine.now c.loop-next.machine c.loop-next.next
        (Begin c.in-Begin.item c.in-Begin.rank c.in-Begin.place) (c.in-Some.is ∙ ap Some c.in-Begin.is) c.loop-next.invariant.reached

pub take-requires-clause-planned : goal.take-requires-clause-planned
take-requires-clause-planned g c κs within = c.requires.accepted.steps r.front c.in-Some.step (g.S.Steps.left c.loop-next.steps) r.split
  where
    r : Reached (setup_in c.args.program.now) (layout_in c.args.program.now) (tables_in c.args.program.now)
        (g.S.Steps.left c.args.steps.now) (c.in-Some.step ∷ g.S.Steps.left c.loop-next.steps) c.args.machine.now c.loop-next.machine
    r = reached_at (setup_in c.args.program.now) (layout_in c.args.program.now) (tables_in c.args.program.now)
        (g.S.Steps.left c.args.steps.now) (g.S.Steps.left c.loop-next.steps) c.args.machine.now c.loop-next.machine c.loop-next.next
        (c.in-Some.step) (c.in-Some.is) c.loop-next.invariant.reached

pub take-requires-clause-shows : goal.take-requires-clause-shows
take-requires-clause-shows g c κs within = (
  flat_from (setup_in c.args.program.now) (layout_in c.args.program.now) r.front c.requires.starts.0,
  r.shows c.requires.starts.0
      c.requires.starts.1 c.requires.starts.2,
)
  where
    r : Reached (setup_in c.args.program.now) (layout_in c.args.program.now) (tables_in c.args.program.now)
        (g.S.Steps.left c.args.steps.now) (c.in-Some.step ∷ g.S.Steps.left c.loop-next.steps) c.args.machine.now c.loop-next.machine
    r = reached_at (setup_in c.args.program.now) (layout_in c.args.program.now) (tables_in c.args.program.now)
        (g.S.Steps.left c.args.steps.now) (g.S.Steps.left c.loop-next.steps) c.args.machine.now c.loop-next.machine c.loop-next.next
        (c.in-Some.step) (c.in-Some.is) c.loop-next.invariant.reached

pub take-requires-clause-ready : goal.take-requires-clause-ready
take-requires-clause-ready g c κs within = by_step c.in-Some.step r.split
  where
    r : Reached (setup_in c.args.program.now) (layout_in c.args.program.now) (tables_in c.args.program.now)
        (g.S.Steps.left c.args.steps.now) (c.in-Some.step ∷ g.S.Steps.left c.loop-next.steps) c.args.machine.now c.loop-next.machine
    r = reached_at (setup_in c.args.program.now) (layout_in c.args.program.now) (tables_in c.args.program.now)
        (g.S.Steps.left c.args.steps.now) (g.S.Steps.left c.loop-next.steps) c.args.machine.now c.loop-next.machine c.loop-next.next
        (c.in-Some.step) (c.in-Some.is) c.loop-next.invariant.reached

    by_step : (s : Step) → g.S.Steps.left c.args.steps.now ≡ r.front ++ (s ∷ g.S.Steps.left c.loop-next.steps) → Ready
        (setup_in c.args.program.now) (layout_in c.args.program.now) (tables_in c.args.program.now) s c.loop-next.machine
    by_step (Send k a b) e =
        let room = c.peak_is_room.ensures.sends (message_cells (layout_in c.args.program.now)) (g.S.Steps.left c.args.steps.now) r.front
        (g.S.Steps.left c.loop-next.steps) k a b e in
        let mail = r.mail in
        omega (arith, room, mail, c.requires.peak.mails)
    by_step (Recv k b a) e = c.steps_are_ready.ensures.recv (setup_in c.args.program.now) (layout_in c.args.program.now)
        (tables_in c.args.program.now) (g.S.Steps.left c.args.steps.now) c.requires.accepted c.requires.starts.0 c.requires.starts.1 r.front
        (g.S.Steps.left c.loop-next.steps) k b a e c.loop-next.machine (r.shows c.requires.starts.0 c.requires.starts.1 c.requires.starts.2)
    by_step (Begin k b x) e =
        let ready = c.steps_are_ready.ensures.begin (setup_in c.args.program.now) (layout_in c.args.program.now)
        (tables_in c.args.program.now) (g.S.Steps.left c.args.steps.now) c.requires.accepted c.requires.starts.0 c.requires.starts.1
        r.front (g.S.Steps.left c.loop-next.steps) k b (x ∷ []) e c.loop-next.machine
        (r.shows c.requires.starts.0 c.requires.starts.1 c.requires.starts.2) in
        let room = c.peak_is_room.ensures.begins (g.S.Steps.left c.args.steps.now) r.front (g.S.Steps.left c.loop-next.steps) k b x e in
        let frames = r.frames in
        (ready.1.0, omega (arith, room, frames, c.requires.peak.opened))
    by_step (End k b x) e = c.steps_are_ready.ensures.end (setup_in c.args.program.now) (layout_in c.args.program.now)
        (tables_in c.args.program.now) (g.S.Steps.left c.args.steps.now) c.requires.accepted c.requires.starts.0 c.requires.starts.1 r.front
        (g.S.Steps.left c.loop-next.steps) k b x e c.loop-next.machine (r.shows c.requires.starts.0 c.requires.starts.1 c.requires.starts.2)
    by_step (Join k) e = tt

pub returns-in-Some-2-clause-same : goal.returns-in-Some-2-clause-same
returns-in-Some-2-clause-same g c =
    as_sequential (setup_in c.args.program.now) (layout_in c.args.program.now) (tables_in c.args.program.now)
    (sequential (setup_in c.args.program.now).program) (Some (stop_of c.in-Some-2.stop)) c.take.new.machine
    (flat_from (setup_in c.args.program.now) (layout_in c.args.program.now) (g.S.Steps.left c.args.steps.now) c.requires.starts.0)
    (c.flat_runs_as_sequential.ensures (setup_in c.args.program.now) c.requires.lawful c.requires.coloured (layout_in c.args.program.now)
    c.is_sound.ensures.layout c.requires.starts.0 c.requires.starts.1 (g.S.Steps.left c.args.steps.now) c.requires.accepted)
    (stops_at (setup_in c.args.program.now) (layout_in c.args.program.now) (tables_in c.args.program.now) (g.S.Steps.left c.args.steps.now)
    (g.S.Steps.left c.loop-next.steps) c.in-Some.step c.args.machine.now c.loop-next.machine c.take.new.machine r
    (stop_of c.in-Some-2.stop)
    (λ f h. subst (λ o. After (setup_in c.args.program.now) (layout_in c.args.program.now) (tables_in c.args.program.now) (stop_in o)
    c.take.new.machine (flat_step (setup_in c.args.program.now) (layout_in c.args.program.now) c.in-Some.step f)) c.in-Some-2.is
    (c.in_ok-stop.ensures.after f h))
    c.requires.starts.0 c.requires.starts.1 c.requires.starts.2)
  where
    r : Reached (setup_in c.args.program.now) (layout_in c.args.program.now) (tables_in c.args.program.now)
        (g.S.Steps.left c.args.steps.now) (c.in-Some.step ∷ g.S.Steps.left c.loop-next.steps) c.args.machine.now c.loop-next.machine
    r = reached_at (setup_in c.args.program.now) (layout_in c.args.program.now) (tables_in c.args.program.now)
        (g.S.Steps.left c.args.steps.now) (g.S.Steps.left c.loop-next.steps) c.args.machine.now c.loop-next.machine c.loop-next.next
        (c.in-Some.step) (c.in-Some.is) c.loop-next.invariant.reached

pub returns-clause-same : goal.returns-clause-same
returns-clause-same g c =
    as_sequential (setup_in c.args.program.now) (layout_in c.args.program.now) (tables_in c.args.program.now)
    (sequential (setup_in c.args.program.now).program) None c.loop-next.machine
    (flat_from (setup_in c.args.program.now) (layout_in c.args.program.now) (g.S.Steps.left c.args.steps.now) c.requires.starts.0)
    (c.flat_runs_as_sequential.ensures (setup_in c.args.program.now) c.requires.lawful c.requires.coloured (layout_in c.args.program.now)
    c.is_sound.ensures.layout c.requires.starts.0 c.requires.starts.1 (g.S.Steps.left c.args.steps.now) c.requires.accepted)
    (at_end (setup_in c.args.program.now) (layout_in c.args.program.now) (tables_in c.args.program.now) (g.S.Steps.left c.args.steps.now)
    (g.S.Steps.left c.loop-next.steps) c.args.machine.now c.loop-next.machine c.loop-next.next c.in_default.is
    (c.loop-next.invariant.over c.in_default.is) c.loop-next.invariant.reached
    c.requires.starts.0 c.requires.starts.1 c.requires.starts.2)

pub returns-clause-shows : goal.returns-clause-shows
returns-clause-shows g c none =
    at_end (setup_in c.args.program.now) (layout_in c.args.program.now) (tables_in c.args.program.now) (g.S.Steps.left c.args.steps.now)
    (g.S.Steps.left c.loop-next.steps) c.args.machine.now c.loop-next.machine c.loop-next.next c.in_default.is
    (c.loop-next.invariant.over c.in_default.is) c.loop-next.invariant.reached

pub returns-in-Some-2-clause-suffix : goal.returns-in-Some-2-clause-suffix
returns-in-Some-2-clause-suffix g c = front_taken (setup_in c.args.program.now) (layout_in c.args.program.now)
    (tables_in c.args.program.now) (g.S.Steps.left c.args.steps.now) (g.S.Steps.left c.loop-next.steps) c.in-Some.step c.args.machine.now
    c.loop-next.machine r
  where
    r : Reached (setup_in c.args.program.now) (layout_in c.args.program.now) (tables_in c.args.program.now)
        (g.S.Steps.left c.args.steps.now) (c.in-Some.step ∷ g.S.Steps.left c.loop-next.steps) c.args.machine.now c.loop-next.machine
    r = reached_at (setup_in c.args.program.now) (layout_in c.args.program.now) (tables_in c.args.program.now)
        (g.S.Steps.left c.args.steps.now) (g.S.Steps.left c.loop-next.steps) c.args.machine.now c.loop-next.machine c.loop-next.next
        (c.in-Some.step) (c.in-Some.is) c.loop-next.invariant.reached

pub returns-in_err-stop-clause-suffix : goal.returns-in_err-stop-clause-suffix
returns-in_err-stop-clause-suffix g c = front_taken (setup_in c.args.program.now) (layout_in c.args.program.now)
    (tables_in c.args.program.now) (g.S.Steps.left c.args.steps.now) (g.S.Steps.left c.loop-next.steps) c.in-Some.step c.args.machine.now
    c.loop-next.machine r
  where
    r : Reached (setup_in c.args.program.now) (layout_in c.args.program.now) (tables_in c.args.program.now)
        (g.S.Steps.left c.args.steps.now) (c.in-Some.step ∷ g.S.Steps.left c.loop-next.steps) c.args.machine.now c.loop-next.machine
    r = reached_at (setup_in c.args.program.now) (layout_in c.args.program.now) (tables_in c.args.program.now)
        (g.S.Steps.left c.args.steps.now) (g.S.Steps.left c.loop-next.steps) c.args.machine.now c.loop-next.machine c.loop-next.next
        (c.in-Some.step) (c.in-Some.is) c.loop-next.invariant.reached

pub run_behind-requires-in_default-step-clause-shows : goal.run_behind-requires-in_default-step-clause-shows
run_behind-requires-in_default-step-clause-shows g c κs within = (
  flat_from (setup_in c.args.program.now) (layout_in c.args.program.now) taken.front c.requires.starts.0,
  taken.shows c.requires.starts.0
      c.requires.starts.1 c.requires.starts.2,
)
  where
    r : Reached (setup_in c.args.program.now) (layout_in c.args.program.now) (tables_in c.args.program.now)
        (g.S.Steps.left c.args.steps.now) (c.in-Some.step ∷ g.S.Steps.left c.loop-next.steps) c.args.machine.now c.loop-next.machine
    r = reached_at (setup_in c.args.program.now) (layout_in c.args.program.now) (tables_in c.args.program.now)
        (g.S.Steps.left c.args.steps.now) (g.S.Steps.left c.loop-next.steps) c.args.machine.now c.loop-next.machine c.loop-next.next
        (c.in-Some.step) (c.in-Some.is) c.loop-next.invariant.reached

    taken : Reached (setup_in c.args.program.now) (layout_in c.args.program.now) (tables_in c.args.program.now)
        (g.S.Steps.left c.args.steps.now) (g.S.Steps.left c.loop-next.steps) c.args.machine.now c.take.new.machine
    taken = reached_taken (setup_in c.args.program.now) (layout_in c.args.program.now) (tables_in c.args.program.now)
        c.peak_is_room.ensures.ends c.peak_is_room.ensures.receives (g.S.Steps.left c.args.steps.now) (g.S.Steps.left c.loop-next.steps)
        c.in-Some.step c.requires.accepted c.args.machine.now c.loop-next.machine c.take.new.machine r
        (λ f h. subst (λ o. After (setup_in c.args.program.now) (layout_in c.args.program.now) (tables_in c.args.program.now) (stop_in o)
        c.take.new.machine (flat_step (setup_in c.args.program.now) (layout_in c.args.program.now) c.in-Some.step f)) c.in_default-2.is
        (c.in_ok-stop.ensures.after f h))
        c.take.ensures.mail c.take.ensures.frames

pub run_behind-requires-in_default-step-clause-ready : goal.run_behind-requires-in_default-step-clause-ready
run_behind-requires-in_default-step-clause-ready g c κs within =
    come_ready (setup_in c.args.program.now) (layout_in c.args.program.now) (tables_in c.args.program.now)
    (c.steps_are_ready.ensures.begin (setup_in c.args.program.now) (layout_in c.args.program.now) (tables_in c.args.program.now))
    (g.S.Steps.left c.args.steps.now) (g.S.Steps.left c.loop-next.steps) c.requires.accepted c.requires.starts.0 c.requires.starts.1
    c.args.machine.now c.take.new.machine c.requires.starts.2 c.requires.peak.opened taken
  where
    r : Reached (setup_in c.args.program.now) (layout_in c.args.program.now) (tables_in c.args.program.now)
        (g.S.Steps.left c.args.steps.now) (c.in-Some.step ∷ g.S.Steps.left c.loop-next.steps) c.args.machine.now c.loop-next.machine
    r = reached_at (setup_in c.args.program.now) (layout_in c.args.program.now) (tables_in c.args.program.now)
        (g.S.Steps.left c.args.steps.now) (g.S.Steps.left c.loop-next.steps) c.args.machine.now c.loop-next.machine c.loop-next.next
        (c.in-Some.step) (c.in-Some.is) c.loop-next.invariant.reached

    taken : Reached (setup_in c.args.program.now) (layout_in c.args.program.now) (tables_in c.args.program.now)
        (g.S.Steps.left c.args.steps.now) (g.S.Steps.left c.loop-next.steps) c.args.machine.now c.take.new.machine
    taken = reached_taken (setup_in c.args.program.now) (layout_in c.args.program.now) (tables_in c.args.program.now)
        c.peak_is_room.ensures.ends c.peak_is_room.ensures.receives (g.S.Steps.left c.args.steps.now) (g.S.Steps.left c.loop-next.steps)
        c.in-Some.step c.requires.accepted c.args.machine.now c.loop-next.machine c.take.new.machine r
        (λ f h. subst (λ o. After (setup_in c.args.program.now) (layout_in c.args.program.now) (tables_in c.args.program.now) (stop_in o)
        c.take.new.machine (flat_step (setup_in c.args.program.now) (layout_in c.args.program.now) c.in-Some.step f)) c.in_default-2.is
        (c.in_ok-stop.ensures.after f h))
        c.take.ensures.mail c.take.ensures.frames

pub run_behind-requires-in_default-step-clause-alone : goal.run_behind-requires-in_default-step-clause-alone
run_behind-requires-in_default-step-clause-alone g c κs within =
    groups_after (setup_in c.args.program.now) (layout_in c.args.program.now) (g.S.Steps.left c.args.steps.now) taken.front
    (g.S.Steps.left c.loop-next.steps)
    (c.closed_groups_are_alone.ensures (setup_in c.args.program.now) c.requires.coloured (layout_in c.args.program.now)
    c.is_sound.ensures.layout (g.S.Steps.left c.args.steps.now) c.requires.accepted) taken.split
  where
    r : Reached (setup_in c.args.program.now) (layout_in c.args.program.now) (tables_in c.args.program.now)
        (g.S.Steps.left c.args.steps.now) (c.in-Some.step ∷ g.S.Steps.left c.loop-next.steps) c.args.machine.now c.loop-next.machine
    r = reached_at (setup_in c.args.program.now) (layout_in c.args.program.now) (tables_in c.args.program.now)
        (g.S.Steps.left c.args.steps.now) (g.S.Steps.left c.loop-next.steps) c.args.machine.now c.loop-next.machine c.loop-next.next
        (c.in-Some.step) (c.in-Some.is) c.loop-next.invariant.reached

    taken : Reached (setup_in c.args.program.now) (layout_in c.args.program.now) (tables_in c.args.program.now)
        (g.S.Steps.left c.args.steps.now) (g.S.Steps.left c.loop-next.steps) c.args.machine.now c.take.new.machine
    taken = reached_taken (setup_in c.args.program.now) (layout_in c.args.program.now) (tables_in c.args.program.now)
        c.peak_is_room.ensures.ends c.peak_is_room.ensures.receives (g.S.Steps.left c.args.steps.now) (g.S.Steps.left c.loop-next.steps)
        c.in-Some.step c.requires.accepted c.args.machine.now c.loop-next.machine c.take.new.machine r
        (λ f h. subst (λ o. After (setup_in c.args.program.now) (layout_in c.args.program.now) (tables_in c.args.program.now) (stop_in o)
        c.take.new.machine (flat_step (setup_in c.args.program.now) (layout_in c.args.program.now) c.in-Some.step f)) c.in_default-2.is
        (c.in_ok-stop.ensures.after f h))
        c.take.ensures.mail c.take.ensures.frames

pub loop-next-preserved : goal.loop-next-preserved
loop-next-preserved g c =
    let done = c.in_ok-run_behind.ensures.done in
    record {
      reached = reached_more (setup_in c.args.program.now) (layout_in c.args.program.now) (tables_in c.args.program.now)
          (g.S.Steps.left c.args.steps.now) (g.S.Steps.left c.loop-next.steps)
          (to_come c.next_of-next-in_default-step.result (g.S.Steps.left c.next_of-next-in_default-step.new.steps)) done.0
          c.args.machine.now c.take.new.machine c.run_behind-in_default-step.new.machine taken
          (done.1 ∙ ap (λ z. done.0 ++ z) c.next_of-next-in_default-step.ensures.next) done.2;
      space = c.in_ok-run_behind.ensures.space;
      over = c.next_of-next-in_default-step.ensures.over;
    }
  where
    r : Reached (setup_in c.args.program.now) (layout_in c.args.program.now) (tables_in c.args.program.now)
        (g.S.Steps.left c.args.steps.now) (c.in-Some.step ∷ g.S.Steps.left c.loop-next.steps) c.args.machine.now c.loop-next.machine
    r = reached_at (setup_in c.args.program.now) (layout_in c.args.program.now) (tables_in c.args.program.now)
        (g.S.Steps.left c.args.steps.now) (g.S.Steps.left c.loop-next.steps) c.args.machine.now c.loop-next.machine c.loop-next.next
        (c.in-Some.step) (c.in-Some.is) c.loop-next.invariant.reached

    taken : Reached (setup_in c.args.program.now) (layout_in c.args.program.now) (tables_in c.args.program.now)
        (g.S.Steps.left c.args.steps.now) (g.S.Steps.left c.loop-next.steps) c.args.machine.now c.take.new.machine
    taken = reached_taken (setup_in c.args.program.now) (layout_in c.args.program.now) (tables_in c.args.program.now)
        c.peak_is_room.ensures.ends c.peak_is_room.ensures.receives (g.S.Steps.left c.args.steps.now) (g.S.Steps.left c.loop-next.steps)
        c.in-Some.step c.requires.accepted c.args.machine.now c.loop-next.machine c.take.new.machine r
        (λ f h. subst (λ o. After (setup_in c.args.program.now) (layout_in c.args.program.now) (tables_in c.args.program.now) (stop_in o)
        c.take.new.machine (flat_step (setup_in c.args.program.now) (layout_in c.args.program.now) c.in-Some.step f)) c.in_default-2.is
        (c.in_ok-stop.ensures.after f h))
        c.take.ensures.mail c.take.ensures.frames

pub returns-in_err-run_behind-clause-suffix : goal.returns-in_err-run_behind-clause-suffix
returns-in_err-run_behind-clause-suffix g c =
    let more = c.run_behind-in_default-step.ensures.suffix in (
      taken.front ++ more.0,
      taken.split ∙
          (ap (λ z. taken.front ++ z) more.1 ∙ sym (append_assoc taken.front more.0 (g.S.Steps.left c.run_behind-in_default-step.new.steps))),
    )
  where
    r : Reached (setup_in c.args.program.now) (layout_in c.args.program.now) (tables_in c.args.program.now)
        (g.S.Steps.left c.args.steps.now) (c.in-Some.step ∷ g.S.Steps.left c.loop-next.steps) c.args.machine.now c.loop-next.machine
    r = reached_at (setup_in c.args.program.now) (layout_in c.args.program.now) (tables_in c.args.program.now)
        (g.S.Steps.left c.args.steps.now) (g.S.Steps.left c.loop-next.steps) c.args.machine.now c.loop-next.machine c.loop-next.next
        (c.in-Some.step) (c.in-Some.is) c.loop-next.invariant.reached

    taken : Reached (setup_in c.args.program.now) (layout_in c.args.program.now) (tables_in c.args.program.now)
        (g.S.Steps.left c.args.steps.now) (g.S.Steps.left c.loop-next.steps) c.args.machine.now c.take.new.machine
    taken = reached_taken (setup_in c.args.program.now) (layout_in c.args.program.now) (tables_in c.args.program.now)
        c.peak_is_room.ensures.ends c.peak_is_room.ensures.receives (g.S.Steps.left c.args.steps.now) (g.S.Steps.left c.loop-next.steps)
        c.in-Some.step c.requires.accepted c.args.machine.now c.loop-next.machine c.take.new.machine r
        (λ f h. subst (λ o. After (setup_in c.args.program.now) (layout_in c.args.program.now) (tables_in c.args.program.now) (stop_in o)
        c.take.new.machine (flat_step (setup_in c.args.program.now) (layout_in c.args.program.now) c.in-Some.step f)) c.in_default-2.is
        (c.in_ok-stop.ensures.after f h))
        c.take.ensures.mail c.take.ensures.frames
