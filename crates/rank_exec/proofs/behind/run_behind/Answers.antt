use Rattle.std.proofs.Common.{◌≡◌, ◌<◌, ◌≤◌, ◌^◌, ℕ, [], ◌++◌, ◌∙◌, List, refl, sym, ap, subst, length, append_assoc}
use Rattle.std.specs.Prelude.{IfSome}
use Rattle.schedule_steps.specs.declared.step.Step.{Step}
use Rattle.schedule_model.specs.Flat.{flat_from}
use Rattle.rank_exec.specs.Closed.{GroupsAreAlone}
use Rattle.rank_exec.specs.RunRooms.{most_begins}
use Rattle.rank_exec.specs.Driving.{Done, ComeReady}
use Rattle.rank_exec.specs.Rounds.{elements, told}
use Rattle.rank_exec.proofs.Driving.{done_none, done_more, ready_after, ready_front}
use Rattle.rank_exec.proofs.Closing.{groups_after, groups_front}
use Rattle.rank_exec.proofs.Telling.{told_is, told_fewer, some_elements}
use Rattle.rank_program.specs.Sound.{setup_in, layout_in, tables_in}
use Rattle.rank_exec.proofs.behind.run_behind.Goals as goal

pub loop-next-init : goal.loop-next-init
loop-next-init g c = record {
  done = (
    [],
    told_is c.next_told-next.result c.next_told-next.new.places.items (g.S.Steps.left c.args.steps.now)
        (g.S.Steps.left c.next_told-next.new.steps) c.next_told-next.ensures.some c.next_told-next.ensures.none,
    done_none (setup_in c.args.program.now) (layout_in c.args.program.now) (tables_in c.args.program.now) c.args.machine.now,
  );
  space = record {
    step_fits = c.requires.space.step_fits;
    places_fit = subst (λ n. most_begins ≤ n) (sym c.next_told-next.ensures.room) c.requires.space.places_fit;
    group_fits = c.requires.space.group_fits;
    parts_fit = c.requires.space.parts_fit;
  };
  some = c.next_told-next.ensures.more;
  lists = refl;
  parts = refl;
}

pub run_round-requires-clause-shows : goal.run_round-requires-clause-shows
run_round-requires-clause-shows g c κs within =
    let h = c.loop-next.invariant.done in (
      flat_from (setup_in c.args.program.now) (layout_in c.args.program.now) h.0 c.requires.shows.0,
      h.2.shows c.requires.shows.0
          c.requires.shows.1,
    )

pub run_round-requires-clause-ready : goal.run_round-requires-clause-ready
run_round-requires-clause-ready g c κs within =
    let p = setup_in c.args.program.now in
    let l = layout_in c.args.program.now in
    let t = tables_in c.args.program.now in
    let h = c.loop-next.invariant.done in
    subst (λ o. ComeReady p l t (told o c.loop-next.room.places.items ++ g.S.Steps.left c.loop-next.steps) c.loop-next.machine) c.in-Some.is
    (ready_after p l t (g.S.Steps.left c.args.steps.now) h.0
    (told c.loop-next.next c.loop-next.room.places.items ++ g.S.Steps.left c.loop-next.steps) c.args.machine.now c.loop-next.machine
    c.requires.ready h.1 h.2)

pub run_round-requires-clause-alone : goal.run_round-requires-clause-alone
run_round-requires-clause-alone g c κs within =
    let p = setup_in c.args.program.now in
    let l = layout_in c.args.program.now in
    let h = c.loop-next.invariant.done in
    subst (λ o. GroupsAreAlone p l (told o c.loop-next.room.places.items ++ g.S.Steps.left c.loop-next.steps)) c.in-Some.is
    (groups_after p l (g.S.Steps.left c.args.steps.now) h.0
    (told c.loop-next.next c.loop-next.room.places.items ++ g.S.Steps.left c.loop-next.steps) c.requires.alone h.1)

pub run_round-requires-clause-some : goal.run_round-requires-clause-some
run_round-requires-clause-some g c κs within =
    subst (λ o. IfSome o (λ x. 0 < length c.loop-next.room.places.items)) c.in-Some.is c.loop-next.invariant.some

pub run_round-requires-clause-listed : goal.run_round-requires-clause-listed
run_round-requires-clause-listed g c κs within =
    let on = c.comes_in_round.ensures.rounds c.if-comes_in_round.true in
    c.loop-next.invariant.lists ∙ (c.rounds_may_come-rounds.ensures.listed on ∙ sym c.loop-next.invariant.parts)

pub run_round-requires-clause-ranks : goal.run_round-requires-clause-ranks
run_round-requires-clause-ranks g c κs within =
    let on = c.comes_in_round.ensures.rounds c.if-comes_in_round.true in
    let now = c.loop-next.invariant.done.2.shows c.requires.shows.0 c.requires.shows.1 in
    c.loop-next.invariant.parts ∙ (c.rounds_may_come-rounds.ensures.ranks on ∙ (c.requires.shows.1.sized.ranks ∙ sym now.sized.ranks))

pub run_round-requires-clause-few : goal.run_round-requires-clause-few
run_round-requires-clause-few g c κs within =
    let on = c.comes_in_round.ensures.rounds c.if-comes_in_round.true in
    subst (λ n. n < 2 ^ 32) (sym c.loop-next.invariant.parts) (c.rounds_may_come-rounds.ensures.few on)

pub run_told-requires-clause-ready : goal.run_told-requires-clause-ready
run_told-requires-clause-ready g c κs within =
    let p = setup_in c.args.program.now in
    let l = layout_in c.args.program.now in
    let t = tables_in c.args.program.now in
    let h = c.loop-next.invariant.done in
    let come = subst (λ o. ComeReady p l t (told o c.loop-next.room.places.items ++ g.S.Steps.left c.loop-next.steps) c.loop-next.machine)
    c.in-Some.is
    (ready_after p l t (g.S.Steps.left c.args.steps.now) h.0
    (told c.loop-next.next c.loop-next.room.places.items ++ g.S.Steps.left c.loop-next.steps) c.args.machine.now c.loop-next.machine
    c.requires.ready h.1 h.2) in
    subst (λ xs. ComeReady p l t (elements c.in-Some.of.alone c.in-Some.of.item c.in-Some.of.rank xs) c.loop-next.machine)
    (sym c.deref.ensures.value)
    (ready_front p l t (elements c.in-Some.of.alone c.in-Some.of.item c.in-Some.of.rank c.loop-next.room.places.items ++ g.S.Steps.left
    c.loop-next.steps) (elements c.in-Some.of.alone c.in-Some.of.item c.in-Some.of.rank c.loop-next.room.places.items)
    (g.S.Steps.left c.loop-next.steps) c.loop-next.machine come refl)

pub run_told-requires-clause-alone : goal.run_told-requires-clause-alone
run_told-requires-clause-alone g c κs within =
    let p = setup_in c.args.program.now in
    let l = layout_in c.args.program.now in
    let h = c.loop-next.invariant.done in
    let come = subst (λ o. GroupsAreAlone p l (told o c.loop-next.room.places.items ++ g.S.Steps.left c.loop-next.steps)) c.in-Some.is
    (groups_after p l (g.S.Steps.left c.args.steps.now) h.0
    (told c.loop-next.next c.loop-next.room.places.items ++ g.S.Steps.left c.loop-next.steps) c.requires.alone h.1) in
    subst (λ xs. GroupsAreAlone p l (elements c.in-Some.of.alone c.in-Some.of.item c.in-Some.of.rank xs)) (sym c.deref.ensures.value)
    (groups_front p l (elements c.in-Some.of.alone c.in-Some.of.item c.in-Some.of.rank c.loop-next.room.places.items ++ g.S.Steps.left
    c.loop-next.steps) (elements c.in-Some.of.alone c.in-Some.of.item c.in-Some.of.rank c.loop-next.room.places.items)
    (g.S.Steps.left c.loop-next.steps) come refl)

pub run_told-requires-clause-some : goal.run_told-requires-clause-some
run_told-requires-clause-some g c κs within =
    subst (λ (xs : List ℕ). 0 < length xs) (sym c.deref.ensures.value)
    (subst (λ o. IfSome o (λ x. 0 < length c.loop-next.room.places.items)) c.in-Some.is c.loop-next.invariant.some)

pub loop-next-preserved : goal.loop-next-preserved
loop-next-preserved g c =
    let p = setup_in c.args.program.now in
    let l = layout_in c.args.program.now in
    let t = tables_in c.args.program.now in
    let h = c.loop-next.invariant.done in
    let group : List Step = elements c.in-Some.of.alone c.in-Some.of.item c.in-Some.of.rank c.loop-next.room.places.items in
    let come : g.S.Steps.left c.args.steps.now ≡ h.0 ++ (group ++ g.S.Steps.left c.loop-next.steps) =
    subst (λ o. g.S.Steps.left c.args.steps.now ≡ h.0 ++ (told o c.loop-next.room.places.items ++ g.S.Steps.left c.loop-next.steps))
    c.in-Some.is h.1 in
    let done : Done p l t group c.loop-next.machine c.run_told.new.machine =
    subst (λ xs. Done p l t (elements c.in-Some.of.alone c.in-Some.of.item c.in-Some.of.rank xs) c.loop-next.machine c.run_told.new.machine)
    c.deref.ensures.value c.run_told.ensures.done in
    let next = c.next_told-next-else-comes_in_round in
    record {
      done = (
        h.0 ++ group,
        come ∙ (sym (append_assoc h.0 group (g.S.Steps.left c.loop-next.steps))
            ∙ ap (λ z. (h.0 ++ group) ++ z)
            (told_is next.result next.new.places.items (g.S.Steps.left c.loop-next.steps) (g.S.Steps.left next.new.steps)
            next.ensures.some next.ensures.none)),
        done_more p l t h.0 group c.args.machine.now c.loop-next.machine c.run_told.new.machine h.2 done,
      );
      space = record {
        step_fits = c.run_told.ensures.space;
        places_fit = subst (λ n. most_begins ≤ n) (sym next.ensures.room) c.loop-next.invariant.space.places_fit;
        group_fits = c.loop-next.invariant.space.group_fits;
        parts_fit = c.loop-next.invariant.space.parts_fit;
      };
      some = next.ensures.more;
      lists = c.loop-next.invariant.lists;
      parts = c.loop-next.invariant.parts;
    }

pub returns-in_err-next-clause-suffix : goal.returns-in_err-next-clause-suffix
returns-in_err-next-clause-suffix g c =
    let p = setup_in c.args.program.now in
    let l = layout_in c.args.program.now in
    let t = tables_in c.args.program.now in
    let h = c.loop-next.invariant.done in
    let group : List Step = elements c.in-Some.of.alone c.in-Some.of.item c.in-Some.of.rank c.loop-next.room.places.items in
    let come : g.S.Steps.left c.args.steps.now ≡ h.0 ++ (group ++ g.S.Steps.left c.loop-next.steps) =
    subst (λ o. g.S.Steps.left c.args.steps.now ≡ h.0 ++ (told o c.loop-next.room.places.items ++ g.S.Steps.left c.loop-next.steps))
    c.in-Some.is h.1 in
    let more = c.run_round.ensures.suffix in
    (h.0 ++ more.0, come ∙ (ap (λ z. h.0 ++ z) more.1 ∙ sym (append_assoc h.0 more.0 (g.S.Steps.left c.run_round.new.steps))))

pub loop-next-preserved-then-comes_in_round : goal.loop-next-preserved-then-comes_in_round
loop-next-preserved-then-comes_in_round g c =
    let p = setup_in c.args.program.now in
    let l = layout_in c.args.program.now in
    let t = tables_in c.args.program.now in
    let h = c.loop-next.invariant.done in
    let group : List Step = elements c.in-Some.of.alone c.in-Some.of.item c.in-Some.of.rank c.loop-next.room.places.items in
    let come : g.S.Steps.left c.args.steps.now ≡ h.0 ++ (group ++ g.S.Steps.left c.loop-next.steps) =
    subst (λ o. g.S.Steps.left c.args.steps.now ≡ h.0 ++ (told o c.loop-next.room.places.items ++ g.S.Steps.left c.loop-next.steps))
    c.in-Some.is h.1 in
    let made = c.in_ok-next.ensures.done in
    let rest : List Step = told c.in_ok-next.next c.run_round.new.room.places.items ++ g.S.Steps.left c.run_round.new.steps in
    record {
      done = (
        h.0 ++ made.0,
        come ∙ (ap (λ z. h.0 ++ z) made.1 ∙ sym (append_assoc h.0 made.0 rest)),
        done_more p l t h.0 made.0 c.args.machine.now c.loop-next.machine c.run_round.new.machine h.2 made.3,
      );
      space = c.in_ok-next.ensures.space;
      some = c.in_ok-next.ensures.more;
      lists = c.in_ok-next.ensures.lists ∙ c.loop-next.invariant.lists;
      parts = c.in_ok-next.ensures.parts ∙ c.loop-next.invariant.parts;
    }

pub loop-next-smaller : goal.loop-next-smaller
loop-next-smaller g c =
    let next = c.next_told-next-else-comes_in_round in
    let left : List Step = g.S.Steps.left c.loop-next.steps in
    let xs = c.loop-next.room.places.items in
    let group : List Step = elements c.in-Some.of.alone c.in-Some.of.item c.in-Some.of.rank xs in
    let some = subst (λ o. IfSome o (λ x. 0 < length c.loop-next.room.places.items)) c.in-Some.is c.loop-next.invariant.some in
    let is = told_is next.result next.new.places.items left (g.S.Steps.left next.new.steps) next.ensures.some next.ensures.none in
    subst (λ o. length (told next.result next.new.places.items ++ g.S.Steps.left next.new.steps) < length (told o xs ++ left))
    (sym c.in-Some.is)
    (subst (λ (z : List Step). length z < length (group ++ left)) is
    (told_fewer group left (group ++ left) refl (some_elements c.in-Some.of.alone c.in-Some.of.item c.in-Some.of.rank xs some)))
