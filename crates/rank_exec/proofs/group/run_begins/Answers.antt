use Rattle.std.proofs.Common.{◌≡◌, ◌<◌, ◌≤◌, ◌+◌, List, ◌∷◌, ◌++◌, [], sym, ap, ap₂, subst, ◌∙◌, arith, length, get_or, take, Vec, Global}
use Rattle.schedule_steps.specs.declared.step.Step.{Step}
use Rattle.schedule_steps.specs.declared.step.Step.TheVariants.{Begin, End}
use Rattle.step_orders.specs.Alone.{alone}
use Rattle.schedule_model.specs.Program.{is_loop}
use Rattle.schedule_model.specs.Layout.{by_place, message_cells}
use Rattle.schedule_model.specs.Flat.{flat_from}
use Rattle.rank_state.specs.Shows.{Shows}
use Rattle.rank_state.specs.Groups.{begins, Planned, AllShut, Distinct}
use Rattle.rank_program.specs.declared.tasks.Task.{Task}
use Rattle.rank_program.specs.Jobs.{part, task_at}
use Rattle.rank_program.specs.Sound.{Takes, setup_in, layout_in, tables_in}
use Rattle.rank_program.specs.ProgramLaws.{each_runs}
use Rattle.rank_exec.specs.Closed.{GroupsAreAlone}
use Rattle.rank_exec.specs.Driving.{Done, ComeReady, to_come}
use Rattle.rank_exec.specs.RunRooms.{most_begins}
use Rattle.rank_exec.specs.Tasks.{IsRun, HasGroupRoom}
use Rattle.rank_exec.proofs.Driving.{begins_ready, ready_front}
use Rattle.rank_exec.proofs.Closing.{groups_front}
use Rattle.rank_exec.proofs.Grouping.{after_one, one_place, begins_length, opened_by, no_mail_by}
use Rattle.rank_exec.proofs.Tasking.{planned_at, ran_well, still_enough, fewer}
use Rattle.rank_exec.proofs.group.run_begins.Goals as goal

pub run_told-requires-clause-some : goal.run_told-requires-clause-some
run_told-requires-clause-some g c κs within =
    let n : length c.collect-next.new.places.items ≡ 1 = omega (arith, c.if-len-eq1.true, c.len.ensures) in
    let same = ap length c.deref.ensures.value in
    omega (arith, n, same)

pub run_told-requires-clause-ready : goal.run_told-requires-clause-ready
run_told-requires-clause-ready g c κs within =
    let p = setup_in c.args.program.now in
    let l = layout_in c.args.program.now in
    let t = tables_in c.args.program.now in
    let k = c.args.begin.item in
    let r = c.args.begin.rank in
    let x = c.args.begin.place in
    let left : List Step = g.S.Steps.left c.args.steps.now in
    let rest : List Step = g.S.Steps.left c.collect-next.new.steps in
    let xs = c.collect-next.new.places.items in
    let one : c.push_reserved.new.self.items ≡ x ∷ [] = c.push_reserved.ensures.items ∙ ap (λ ys. ys ++ (x ∷ [])) c.clear.ensures.items in
    let all : begins k r xs ++ to_come c.collect-next.result rest ≡ Begin k r x ∷ left = c.collect-next.ensures.all ∙ ap
    (λ ys. begins k r ys ++ left) one in
    let n : length c.collect-next.new.places.items ≡ 1 = omega (arith, c.if-len-eq1.true, c.len.ensures) in
    let here : left ≡ End k r x ∷ rest = sym (after_one k r x xs (to_come c.collect-next.result rest) left n all) ∙ ap (λ s. to_come s rest)
    (c.is_end.ensures c.if-is_end.true) in
    let place : xs ≡ x ∷ [] = one_place k r x xs (to_come c.collect-next.result rest) left n all in
    let came : Begin k r x ∷ left ≡ alone k r xs ++ rest = ap (λ z. Begin k r x ∷ z) here ∙ ap (λ ys. alone k r ys ++ rest) (sym place) in
    subst (λ ys. ComeReady p l t (alone k r ys) c.args.machine.now) (sym c.deref.ensures.value)
    (ready_front p l t (Begin k r x ∷ left) (alone k r xs) rest c.args.machine.now c.requires.ready came)

pub run_told-requires-clause-alone : goal.run_told-requires-clause-alone
run_told-requires-clause-alone g c κs within =
    let p = setup_in c.args.program.now in
    let l = layout_in c.args.program.now in
    let t = tables_in c.args.program.now in
    let k = c.args.begin.item in
    let r = c.args.begin.rank in
    let x = c.args.begin.place in
    let left : List Step = g.S.Steps.left c.args.steps.now in
    let rest : List Step = g.S.Steps.left c.collect-next.new.steps in
    let xs = c.collect-next.new.places.items in
    let one : c.push_reserved.new.self.items ≡ x ∷ [] = c.push_reserved.ensures.items ∙ ap (λ ys. ys ++ (x ∷ [])) c.clear.ensures.items in
    let all : begins k r xs ++ to_come c.collect-next.result rest ≡ Begin k r x ∷ left = c.collect-next.ensures.all ∙ ap
    (λ ys. begins k r ys ++ left) one in
    let n : length c.collect-next.new.places.items ≡ 1 = omega (arith, c.if-len-eq1.true, c.len.ensures) in
    let here : left ≡ End k r x ∷ rest = sym (after_one k r x xs (to_come c.collect-next.result rest) left n all) ∙ ap (λ s. to_come s rest)
    (c.is_end.ensures c.if-is_end.true) in
    let place : xs ≡ x ∷ [] = one_place k r x xs (to_come c.collect-next.result rest) left n all in
    let came : Begin k r x ∷ left ≡ alone k r xs ++ rest = ap (λ z. Begin k r x ∷ z) here ∙ ap (λ ys. alone k r ys ++ rest) (sym place) in
    subst (λ ys. GroupsAreAlone p l (alone k r ys)) (sym c.deref.ensures.value)
    (groups_front p l (Begin k r x ∷ left) (alone k r xs) rest c.requires.alone came)

pub returns-then-is_end-clause-done : goal.returns-then-is_end-clause-done
returns-then-is_end-clause-done g c =
    let p = setup_in c.args.program.now in
    let l = layout_in c.args.program.now in
    let t = tables_in c.args.program.now in
    let k = c.args.begin.item in
    let r = c.args.begin.rank in
    let x = c.args.begin.place in
    let left : List Step = g.S.Steps.left c.args.steps.now in
    let rest : List Step = g.S.Steps.left c.collect-next.new.steps in
    let xs = c.collect-next.new.places.items in
    let one : c.push_reserved.new.self.items ≡ x ∷ [] = c.push_reserved.ensures.items ∙ ap (λ ys. ys ++ (x ∷ [])) c.clear.ensures.items in
    let all : begins k r xs ++ to_come c.collect-next.result rest ≡ Begin k r x ∷ left = c.collect-next.ensures.all ∙ ap
    (λ ys. begins k r ys ++ left) one in
    let n : length c.collect-next.new.places.items ≡ 1 = omega (arith, c.if-len-eq1.true, c.len.ensures) in
    let here : left ≡ End k r x ∷ rest = sym (after_one k r x xs (to_come c.collect-next.result rest) left n all) ∙ ap (λ s. to_come s rest)
    (c.is_end.ensures c.if-is_end.true) in
    let place : xs ≡ x ∷ [] = one_place k r x xs (to_come c.collect-next.result rest) left n all in
    let came : Begin k r x ∷ left ≡ alone k r xs ++ rest = ap (λ z. Begin k r x ∷ z) here ∙ ap (λ ys. alone k r ys ++ rest) (sym place) in
    let some : 0 < length (alone k r xs) = subst (λ ys. 0 < length (alone k r ys)) (sym place) (omega arith) in (
      alone k r xs,
      came,
      some,
      subst (λ ys. Done p l t (alone k r ys) c.args.machine.now c.run_told.new.machine) c.deref.ensures.value c.run_told.ensures.done,
    )

pub returns-then-is_end-clause-space : goal.returns-then-is_end-clause-space
returns-then-is_end-clause-space g c = record {
  step_fits = c.run_told.ensures.space;
  places_fit = omega (
    arith,
    c.collect-next.ensures.space,
    c.push_reserved.ensures.capacity,
    c.clear.ensures.capacity,
    c.requires.space.places_fit,
  );
  group_fits = c.requires.space.group_fits;
  parts_fit = c.requires.space.parts_fit;
}

pub load_all-requires-clause-planned : goal.load_all-requires-clause-planned
load_all-requires-clause-planned g c =
    let p = setup_in c.args.program.now in
    let l = layout_in c.args.program.now in
    let t = tables_in c.args.program.now in
    let k = c.args.begin.item in
    let r = c.args.begin.rank in
    let xs = c.collect-next.new.places.items in
    let rest : List Step = to_come c.collect-next.result (g.S.Steps.left c.collect-next.new.steps) in
    let come : List Step = Begin k r c.args.begin.place ∷ g.S.Steps.left c.args.steps.now in
    let one : c.push_reserved.new.self.items ≡ c.args.begin.place ∷ [] = c.push_reserved.ensures.items ∙ ap
    (λ ys. ys ++ (c.args.begin.place ∷ [])) c.clear.ensures.items in
    let all : begins k r xs ++ rest ≡ come = c.collect-next.ensures.all ∙ ap (λ ys. begins k r ys ++ g.S.Steps.left c.args.steps.now) one in
    subst (λ ys. Planned (by_place p l) k r ys) (sym c.deref-2.ensures.value)
    (begins_ready p l t come rest c.args.machine.now c.requires.ready k r xs all).0

pub run_all-requires-clause-takes : goal.run_all-requires-clause-takes
run_all-requires-clause-takes g c κs within i lt =
    let q = c.args.program.now in
    let p = setup_in q in
    let l = layout_in q in
    let t = tables_in q in
    let k = c.args.begin.item in
    let r = c.args.begin.rank in
    let xs = c.collect-next.new.places.items in
    let rest : List Step = to_come c.collect-next.result (g.S.Steps.left c.collect-next.new.steps) in
    let come : List Step = Begin k r c.args.begin.place ∷ g.S.Steps.left c.args.steps.now in
    let one : c.push_reserved.new.self.items ≡ c.args.begin.place ∷ [] = c.push_reserved.ensures.items ∙ ap
    (λ ys. ys ++ (c.args.begin.place ∷ [])) c.clear.ensures.items in
    let all : begins k r xs ++ rest ≡ come = c.collect-next.ensures.all ∙ ap (λ ys. begins k r ys ++ g.S.Steps.left c.args.steps.now) one in
    let planned_all = subst (λ ys. Planned (by_place p l) k r ys) (sym c.deref-2.ensures.value)
    (begins_ready p l t come rest c.args.machine.now c.requires.ready k r xs all).0 in
    let here : i < length c.deref-2.result.now = omega (arith, lt, c.load_all.ensures.count) in
    let at = c.load_all.ensures.loaded i here in
    let x = get_or c.deref-2.result.now i 0 in
    let task = task_at c.load_all.new.buffers.tasks.items i in
    let planned = planned_at (by_place p l) k r c.deref-2.result.now planned_all i here in
    let w = c.windows_are_counted.ensures.elements p l c.is_sound.ensures.layout k r x planned in
    let cells = at.cells ∙ c.windows_are_counted.ensures.windows p l t k r x at.spans at.scalars at.are in
    let constants : length c.deref-3.result.now ≡ length (tables_in c.args.program.now).constants = ap length c.deref-3.ensures.value ∙
    c.read_constants.ensures.count in
    subst (λ e. Takes q k e (length c.deref-3.result.now) task.cells) (sym at.element)
    (subst (λ n. Takes q k (l.original k r x) n task.cells) (sym constants)
    (subst (Takes q k (l.original k r x) (length t.constants)) (sym cells)
    (each_runs q k (l.original k r x) (ap is_loop w.0) w.1)))

pub run_all-requires-clause-buffers : goal.run_all-requires-clause-buffers
run_all-requires-clause-buffers g c κs within =
    let few : length c.deref-2.result.now ≤ most_begins = subst (λ ys. length ys ≤ most_begins) (sym c.deref-2.ensures.value)
    c.collect-next.ensures.few in
    let fits = fewer most_begins (length c.deref-2.result.now) (tables_in c.args.program.now).stride c.args.program.now.locals
    c.args.room.now.group few c.requires.space.group_fits in
    let stride = (tables_in c.args.program.now).stride in
    let locals = c.args.program.now.locals in
    subst (λ n. HasGroupRoom n stride locals c.load_all.new.buffers) (sym c.load_all.ensures.count)
    (still_enough (length c.deref-2.result.now) stride locals c.args.room.now.group c.load_all.new.buffers c.load_all.ensures.kept fits)

pub open_all-requires-clause-buffers : goal.open_all-requires-clause-buffers
open_all-requires-clause-buffers g c =
    let few : length c.deref-2.result.now ≤ most_begins = subst (λ ys. length ys ≤ most_begins) (sym c.deref-2.ensures.value)
    c.collect-next.ensures.few in
    let fits = fewer most_begins (length c.deref-2.result.now) (tables_in c.args.program.now).stride c.args.program.now.locals
    c.args.room.now.group few c.requires.space.group_fits in
    let stride = (tables_in c.args.program.now).stride in
    let locals = c.args.program.now.locals in
    let most = length c.deref-2.result.now in
    still_enough most stride locals c.load_all.new.buffers c.run_all.new.buffers c.run_all.ensures.kept
    (still_enough most stride locals c.args.room.now.group c.load_all.new.buffers c.load_all.ensures.kept fits)

pub run_all-requires-clause-some : goal.run_all-requires-clause-some
run_all-requires-clause-some g c κs within =
    let one = ap length c.push_reserved.ensures.items in
    let same = ap length c.deref-2.ensures.value in
    omega (arith, c.collect-next.ensures.more, c.push_reserved.ensures.len, same)

pub run_all-requires-clause-narrow : goal.run_all-requires-clause-narrow
run_all-requires-clause-narrow g c κs within i lt =
    let here : i < length c.deref-2.result.now = omega (arith, lt, c.load_all.ensures.count) in
    let at = c.load_all.ensures.loaded i here in
    omega (arith, at.cells, at.are.fits)

pub open_all-requires-clause-planned : goal.open_all-requires-clause-planned
open_all-requires-clause-planned g c =
    let p = setup_in c.args.program.now in
    let l = layout_in c.args.program.now in
    let t = tables_in c.args.program.now in
    let k = c.args.begin.item in
    let r = c.args.begin.rank in
    let xs = c.collect-next.new.places.items in
    let rest : List Step = to_come c.collect-next.result (g.S.Steps.left c.collect-next.new.steps) in
    let come : List Step = Begin k r c.args.begin.place ∷ g.S.Steps.left c.args.steps.now in
    let one : c.push_reserved.new.self.items ≡ c.args.begin.place ∷ [] = c.push_reserved.ensures.items ∙ ap
    (λ ys. ys ++ (c.args.begin.place ∷ [])) c.clear.ensures.items in
    let all : begins k r xs ++ rest ≡ come = c.collect-next.ensures.all ∙ ap (λ ys. begins k r ys ++ g.S.Steps.left c.args.steps.now) one in
    subst (λ ys. Planned (by_place p l) k r ys) (sym c.deref-2.ensures.value)
    (begins_ready p l t come rest c.args.machine.now c.requires.ready k r xs all).0

pub open_all-requires-clause-shut : goal.open_all-requires-clause-shut
open_all-requires-clause-shut g c =
    let p = setup_in c.args.program.now in
    let l = layout_in c.args.program.now in
    let t = tables_in c.args.program.now in
    let k = c.args.begin.item in
    let r = c.args.begin.rank in
    let xs = c.collect-next.new.places.items in
    let rest : List Step = to_come c.collect-next.result (g.S.Steps.left c.collect-next.new.steps) in
    let come : List Step = Begin k r c.args.begin.place ∷ g.S.Steps.left c.args.steps.now in
    let one : c.push_reserved.new.self.items ≡ c.args.begin.place ∷ [] = c.push_reserved.ensures.items ∙ ap
    (λ ys. ys ++ (c.args.begin.place ∷ [])) c.clear.ensures.items in
    let all : begins k r xs ++ rest ≡ come = c.collect-next.ensures.all ∙ ap (λ ys. begins k r ys ++ g.S.Steps.left c.args.steps.now) one in
    subst (λ ys. AllShut c.args.machine.now.frames.panes r ys) (sym c.deref-2.ensures.value)
    (begins_ready p l t come rest c.args.machine.now c.requires.ready k r xs all).1

pub open_all-requires-clause-distinct : goal.open_all-requires-clause-distinct
open_all-requires-clause-distinct g c =
    let p = setup_in c.args.program.now in
    let l = layout_in c.args.program.now in
    let t = tables_in c.args.program.now in
    let k = c.args.begin.item in
    let r = c.args.begin.rank in
    let xs = c.collect-next.new.places.items in
    let rest : List Step = to_come c.collect-next.result (g.S.Steps.left c.collect-next.new.steps) in
    let come : List Step = Begin k r c.args.begin.place ∷ g.S.Steps.left c.args.steps.now in
    let one : c.push_reserved.new.self.items ≡ c.args.begin.place ∷ [] = c.push_reserved.ensures.items ∙ ap
    (λ ys. ys ++ (c.args.begin.place ∷ [])) c.clear.ensures.items in
    let all : begins k r xs ++ rest ≡ come = c.collect-next.ensures.all ∙ ap (λ ys. begins k r ys ++ g.S.Steps.left c.args.steps.now) one in
    subst (λ ys. Distinct ys) (sym c.deref-2.ensures.value) (begins_ready p l t come rest c.args.machine.now c.requires.ready k r xs all).2

pub open_all-requires-clause-room : goal.open_all-requires-clause-room
open_all-requires-clause-room g c =
    let p = setup_in c.args.program.now in
    let l = layout_in c.args.program.now in
    let t = tables_in c.args.program.now in
    let k = c.args.begin.item in
    let r = c.args.begin.rank in
    let xs = c.collect-next.new.places.items in
    let rest : List Step = to_come c.collect-next.result (g.S.Steps.left c.collect-next.new.steps) in
    let come : List Step = Begin k r c.args.begin.place ∷ g.S.Steps.left c.args.steps.now in
    let one : c.push_reserved.new.self.items ≡ c.args.begin.place ∷ [] = c.push_reserved.ensures.items ∙ ap
    (λ ys. ys ++ (c.args.begin.place ∷ [])) c.clear.ensures.items in
    let all : begins k r xs ++ rest ≡ come = c.collect-next.ensures.all ∙ ap (λ ys. begins k r ys ++ g.S.Steps.left c.args.steps.now) one in
    subst (λ ys. length ys ≤ c.args.machine.now.frames.left) (sym c.deref-2.ensures.value)
    (begins_ready p l t come rest c.args.machine.now c.requires.ready k r xs all).3

pub open_all-requires-clause-count : goal.open_all-requires-clause-count
open_all-requires-clause-count g c = ap (λ (v : Vec Task Global). length v.items) c.run_all.ensures.tasks ∙ c.load_all.ensures.count

pub open_all-requires-clause-narrow : goal.open_all-requires-clause-narrow
open_all-requires-clause-narrow g c i lt =
    let at = c.load_all.ensures.loaded i lt in
    let same : (task_at c.run_all.new.buffers.tasks.items i).cells ≡ (task_at c.load_all.new.buffers.tasks.items i).cells = ap
    (λ (v : Vec Task Global). (task_at v.items i).cells) c.run_all.ensures.tasks in
    omega (arith, same, at.cells, at.are.fits)

pub open_all-requires-clause-ran : goal.open_all-requires-clause-ran
open_all-requires-clause-ran g c i lt =
    let p = c.args.program.now in
    let k = c.args.begin.item in
    let r = c.args.begin.rank in
    let x = get_or c.deref-2.result.now i 0 in
    let task = task_at c.load_all.new.buffers.tasks.items i in
    let before = part c.load_all.new.buffers.window i c.load_all.new.buffers.staging.items in
    let after = part c.run_all.new.buffers.window i c.run_all.new.buffers.staging.items in
    let here : i < length c.load_all.new.buffers.tasks.items = omega (arith, lt, c.load_all.ensures.count) in
    let at = c.load_all.ensures.loaded i lt in
    let same = ap (λ e. (layout_in p).core k e c.deref-3.result.now (take task.cells before)) at.element
    ∙ ap₂ ((layout_in p).core k ((layout_in p).original k r x)) (c.deref-3.ensures.value ∙ c.read_constants.ensures.values) at.values in
    let ran : IsRun (setup_in c.args.program.now) (layout_in c.args.program.now) (tables_in c.args.program.now) c.args.begin.item
    c.args.begin.rank (get_or c.deref-2.result.now i 0) c.args.machine.now (task_at c.load_all.new.buffers.tasks.items i).cells
    (part c.run_all.new.buffers.window i c.run_all.new.buffers.staging.items) = record {
      spans = at.spans;
      scalars = at.scalars;
      are = at.are;
      left = λ z. sym same ∙ ran_well ((layout_in p).core k task.element c.deref-3.result.now (take task.cells before)) task.cells after
          (c.run_all.ensures.ran i here) z;
    } in
    subst (λ (v : Vec Task Global). IsRun (setup_in p) (layout_in p) (tables_in p) k r x c.args.machine.now (task_at v.items i).cells after)
    (sym c.run_all.ensures.tasks) ran

pub returns-clause-done : goal.returns-clause-done
returns-clause-done g c =
    let p = setup_in c.args.program.now in
    let l = layout_in c.args.program.now in
    let t = tables_in c.args.program.now in
    let k = c.args.begin.item in
    let r = c.args.begin.rank in
    let xs = c.collect-next.new.places.items in
    let rest : List Step = to_come c.collect-next.result (g.S.Steps.left c.collect-next.new.steps) in
    let come : List Step = Begin k r c.args.begin.place ∷ g.S.Steps.left c.args.steps.now in
    let one : c.push_reserved.new.self.items ≡ c.args.begin.place ∷ [] = c.push_reserved.ensures.items ∙ ap
    (λ ys. ys ++ (c.args.begin.place ∷ [])) c.clear.ensures.items in
    let all : begins k r xs ++ rest ≡ come = c.collect-next.ensures.all ∙ ap (λ ys. begins k r ys ++ g.S.Steps.left c.args.steps.now) one in
    let some : 0 < length (begins k r xs) =
    (let a = begins_length k r xs in let b = ap length one in omega (arith, a, b, c.collect-next.ensures.more)) in (
      begins k r xs,
      sym all,
      some,
      record {
        shows = λ f h. subst (λ ys. Shows p l t c.open_all.new.machine (flat_from p l (begins k r ys) f)) c.deref-2.ensures.value
            (c.open_all.ensures.shows f h);
        mail = λ n. ap (λ m. c.open_all.new.machine.mail.left + m) (no_mail_by (message_cells l) k r n xs) ∙ ap (λ m. m + n)
            c.open_all.ensures.mail;
        frames = λ n. (let e = opened_by k r n xs in let d = ap length c.deref-2.ensures.value in omega
            (arith, c.open_all.ensures.frames, e, d));
      },
    )

pub returns-clause-space : goal.returns-clause-space
returns-clause-space g c =
    let stride = (tables_in c.args.program.now).stride in
    let locals = c.args.program.now.locals in
    record {
      step_fits = c.open_all.ensures.space;
      places_fit = omega (
        arith,
        c.collect-next.ensures.space,
        c.push_reserved.ensures.capacity,
        c.clear.ensures.capacity,
        c.requires.space.places_fit,
      );
      group_fits = still_enough most_begins stride locals c.load_all.new.buffers c.run_all.new.buffers c.run_all.ensures.kept
          (still_enough most_begins stride locals c.args.room.now.group c.load_all.new.buffers c.load_all.ensures.kept
          c.requires.space.group_fits);
      parts_fit = c.requires.space.parts_fit;
    }

pub returns-clause-over : goal.returns-clause-over
returns-clause-over g c e = c.collect-next.ensures.over cc
