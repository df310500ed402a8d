use Rattle.std.proofs.Common.{◌≡◌, ◌<◌, ◌++◌, List, length, sym, ap, subst, ◌∙◌, arith}
use Rattle.std.specs.Vec.{with_items}
use Rattle.rank_machine.specs.OnRanks.{places_on}
use Rattle.rank_exec.proofs.GatheredGroups.{Lists}
use Rattle.schedule_steps.specs.declared.step.Step.{Step}
use Rattle.rank_exec.specs.Closed.{all_closed, GroupsAreAlone}
use Rattle.rank_program.specs.Sound.{setup_in, layout_in, tables_in}
use Rattle.rank_exec.specs.Driving.{Done}
use Rattle.rank_exec.specs.Rounds.{round, elements, told, CanBegin}
use Rattle.rank_exec.proofs.Driving.{ready_front}
use Rattle.rank_exec.proofs.Beginning.{can_at}
use Rattle.rank_exec.proofs.Closing.{groups_front}
use Rattle.rank_exec.proofs.Several.{can_rank, all_can, all_done, ran_round}
use Rattle.rank_exec.proofs.rounds.run_round.Goals as goal
use Rattle.lemmas.proofs.Lists.{refilled}

pub on_ranks-requires-clause-sized : goal.on_ranks-requires-clause-sized
on_ranks-requires-clause-sized g c κs within = c.requires.shows.1.sized

pub on_ranks-requires-clause-steps : goal.on_ranks-requires-clause-steps
on_ranks-requires-clause-steps g c κs within r lt i li =
    let p = setup_in c.args.program.now in
    let l = layout_in c.args.program.now in
    let t = tables_in c.args.program.now in
    let groups = c.in_ok-next.ensures.groups in
    let gs = groups.0 in
    let come : List Step = elements c.args.of.alone c.args.of.item c.args.of.rank c.args.room.now.places.items ++ g.S.Steps.left
    c.args.steps.now in
    let rest : List Step = told c.in_ok-next.next c.gather.new.places.items ++ g.S.Steps.left c.gather.new.steps in
    let ls : Lists = c.as_slice-lists.result.now in
    let same : c.as_slice-lists.result.now ≡ c.gather.new.lists = c.as_slice-lists.ensures.value ∙ refilled
    (with_items c.args.room.now.round.lists c.clear_all.new.lists) c.gather.new.lists
    (c.gather.auto.lists ∙ ap length c.deref_mut-2.ensures.value) in
    let can : CanBegin p l c.args.machine.now.frames (round c.args.of.item (places_on ls) (length ls)) =
    (subst (λ (ls : Lists). CanBegin p l c.args.machine.now.frames (round c.args.of.item (places_on ls) (length ls))) (sym same)
    (subst (CanBegin p l c.args.machine.now.frames) groups.2
    (all_can p l t (λ k r. c.in_place_shows.ensures p l t c.is_sound.ensures.indexed c.is_sound.ensures.layout k r)
    (λ k r. c.is_sound.ensures.windowed k r)
    (c.places_stay_shut.ensures p l) c.args.of.item gs c.args.machine.now c.requires.shows.0 c.requires.shows.1
    (groups_front p l come (all_closed c.args.of.item gs) rest c.requires.alone groups.1)
    (ready_front p l t come (all_closed c.args.of.item gs) rest c.args.machine.now c.requires.ready groups.1)))) in
    let parts : length c.deref_mut-4.result.now ≡ length c.args.room.now.round.parts.items =
    ap length (c.deref_mut-4.ensures.value ∙ refilled c.args.room.now.round.parts c.read_all.new.parts
    (c.read_all.ensures.count ∙ ap length c.deref_mut-3.ensures.value)) ∙
    (c.read_all.ensures.count ∙ ap length c.deref_mut-3.ensures.value) in
    let cleared : length c.clear_all.new.lists ≡ length c.args.room.now.round.lists.items = c.clear_all.ensures.count ∙ ap length
    c.deref_mut.ensures.value in
    let lists : length c.as_slice-lists.result.now ≡ length c.args.room.now.round.lists.items =
    ap length same ∙ (c.gather.ensures.count ∙
    (ap length (c.deref_mut-2.ensures.value ∙ refilled c.args.room.now.round.lists c.clear_all.new.lists cleared) ∙ cleared)) in
    let here : r < length c.as_slice-lists.result.now = omega (arith, lt, parts, lists, c.requires.listed) in
    (can_at p l c.args.machine.now.frames c.args.of.item r (places_on ls r)
    (can_rank p l t c.args.machine.now.frames c.args.of.item (places_on ls) (length ls) can r here) i li).0

pub returns-clause-done : goal.returns-clause-done
returns-clause-done g c =
    let p = setup_in c.args.program.now in
    let l = layout_in c.args.program.now in
    let t = tables_in c.args.program.now in
    let groups = c.in_ok-next.ensures.groups in
    let gs = groups.0 in
    let come : List Step = elements c.args.of.alone c.args.of.item c.args.of.rank c.args.room.now.places.items ++ g.S.Steps.left
    c.args.steps.now in
    let rest : List Step = told c.in_ok-next.next c.gather.new.places.items ++ g.S.Steps.left c.gather.new.steps in
    let ls : Lists = c.as_slice-lists.result.now in
    let same : c.as_slice-lists.result.now ≡ c.gather.new.lists = c.as_slice-lists.ensures.value ∙ refilled
    (with_items c.args.room.now.round.lists c.clear_all.new.lists) c.gather.new.lists
    (c.gather.auto.lists ∙ ap length c.deref_mut-2.ensures.value) in
    let can : CanBegin p l c.args.machine.now.frames (round c.args.of.item (places_on ls) (length ls)) =
    (subst (λ (ls : Lists). CanBegin p l c.args.machine.now.frames (round c.args.of.item (places_on ls) (length ls))) (sym same)
    (subst (CanBegin p l c.args.machine.now.frames) groups.2
    (all_can p l t (λ k r. c.in_place_shows.ensures p l t c.is_sound.ensures.indexed c.is_sound.ensures.layout k r)
    (λ k r. c.is_sound.ensures.windowed k r)
    (c.places_stay_shut.ensures p l) c.args.of.item gs c.args.machine.now c.requires.shows.0 c.requires.shows.1
    (groups_front p l come (all_closed c.args.of.item gs) rest c.requires.alone groups.1)
    (ready_front p l t come (all_closed c.args.of.item gs) rest c.args.machine.now c.requires.ready groups.1)))) in
    let ran = c.on_ranks.ensures.ran in
    let parts : length c.deref_mut-4.result.now ≡ length c.args.room.now.round.parts.items =
    ap length (c.deref_mut-4.ensures.value ∙ refilled c.args.room.now.round.parts c.read_all.new.parts
    (c.read_all.ensures.count ∙ ap length c.deref_mut-3.ensures.value)) ∙
    (c.read_all.ensures.count ∙ ap length c.deref_mut-3.ensures.value) in
    let cleared : length c.clear_all.new.lists ≡ length c.args.room.now.round.lists.items = c.clear_all.ensures.count ∙ ap length
    c.deref_mut.ensures.value in
    let lists : length c.as_slice-lists.result.now ≡ length c.args.room.now.round.lists.items =
    ap length same ∙ (c.gather.ensures.count ∙
    (ap length (c.deref_mut-2.ensures.value ∙ refilled c.args.room.now.round.lists c.clear_all.new.lists cleared) ∙ cleared)) in
    let many : length ran.0 ≡ length c.as_slice-lists.result.now = omega (arith, ran.1, parts, lists, c.requires.listed) in
    let ranks : length c.as_slice-lists.result.now ≡ length c.args.machine.now.memories = omega
    (arith, lists, c.requires.listed, c.requires.ranks) in
    let done : Done p l t (round c.args.of.item (places_on c.gather.new.lists) (length c.gather.new.lists)) c.args.machine.now
    c.on_ranks.new.self =
    subst (λ (zs : Lists). Done p l t (round c.args.of.item (places_on zs) (length zs)) c.args.machine.now c.on_ranks.new.self) same
    (ran_round p l t (c.ranks_come_in_turn.ensures p l t) c.is_sound.ensures.indexed c.is_sound.ensures.layout c.args.of.item (places_on ls)
    (length ls) c.args.machine.now c.on_ranks.new.self
    c.requires.shows.0 c.requires.shows.1 can ran.0 many ranks ran.2 (c.shares_are_set.ensures c.args.machine.now ran.0) ran.3) in
    let alone : GroupsAreAlone p l (all_closed c.args.of.item gs) = groups_front p l come (all_closed c.args.of.item gs) rest
    c.requires.alone groups.1 in (
      all_closed c.args.of.item gs,
      groups.1,
      groups.3,
      all_done p l t c.args.of.item gs c.args.machine.now c.on_ranks.new.self
          (c.several_are_alone.ensures p l (all_closed c.args.of.item gs) alone)
          (subst (λ z. Done p l t z c.args.machine.now c.on_ranks.new.self) (sym groups.2) done),
    )
