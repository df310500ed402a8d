use Rattle.std.proofs.Common.{Some, None, ◌≡◌, ◌<◌, ◌∙◌, List, length, map, get_or, sym, ap, arith}
use Rattle.std.proofs.lemmas.List.{length-map}
use Rattle.schedule_steps.specs.Outline.{Outline}
use Rattle.schedule_steps.specs.declared.step.Step.{Step}
use Rattle.schedule_steps.specs.Drawn as drawn
use Rattle.schedule_steps.specs.Drawn.{turn}
use Rattle.schedule_steps.specs.Steps.{has}
use Rattle.step_orders.specs.Rests.{rests}
use Rattle.step_orders.proofs.drawn.TurnIs.{to_turn}
use Rattle.step_orders.proofs.drawn.Known.{known}
use Rattle.step_orders.proofs.drawn.Taking.{over, join_planned, join_onward, in_ranks, has_head, room, step_kept, step_left}
use Rattle.step_orders.proofs.drawn.order.take_turn.Goals as goal

pub next_turn-requires-clause-few : goal.next_turn-requires-clause-few
next_turn-requires-clause-few g c = omega (arith, c.requires.kept.few, c.requires.kept.head_count)

pub overflow_add-item : goal.overflow_add-item
overflow_add-item g c =
    let o : Outline = g.S.Shape.outline c.args.shape.now in
    let tails : List (List Step) = map g.T.Steps.left c.args.streams.now in
    let e : turn o (rests c.args.heads.now tails) (has c.requires.kept.list) c.args.number.now ≡ drawn.JoinOf c.args.join.now =
    known o c.args.heads.now tails c.args.sent.now (length c.args.found.now) c.args.number.now c.args.join.now c.drawn_number-drawn.result c.items.result c.next_turn.result
    c.requires.kept c.drawn_number-drawn.ensures c.items.ensures (c.next_turn.ensures.turn tails)
    ∙ ap (λ z. to_turn c.args.join.now z) c.in-Join.is in
    let lt : c.args.join.now < o.items = join_planned o (c.accepted_lists_have_all_steps.ensures o) c.args.heads.now tails c.args.sent.now
    (length c.args.found.now) c.args.number.now c.args.join.now c.requires.kept e in
    omega (arith, c.items.ensures, c.items.type_inv)

pub next_join-requires : goal.next_join-requires
next_join-requires g c =
    let o : Outline = g.S.Shape.outline c.args.shape.now in
    let tails : List (List Step) = map g.T.Steps.left c.args.streams.now in
    let e : turn o (rests c.args.heads.now tails) (has c.requires.kept.list) c.args.number.now ≡ drawn.JoinOf c.args.join.now =
    known o c.args.heads.now tails c.args.sent.now (length c.args.found.now) c.args.number.now c.args.join.now c.drawn_number-drawn.result c.items.result c.next_turn.result
    c.requires.kept c.drawn_number-drawn.ensures c.items.ensures (c.next_turn.ensures.turn tails)
    ∙ ap (λ z. to_turn c.args.join.now z) c.in-Join.is in
    let lt : c.args.join.now < o.items = join_planned o (c.accepted_lists_have_all_steps.ensures o) c.args.heads.now tails c.args.sent.now
    (length c.args.found.now) c.args.number.now c.args.join.now c.requires.kept e in
    omega arith

pub take_step-requires-clause-rank : goal.take_step-requires-clause-rank
take_step-requires-clause-rank g c =
    let o : Outline = g.S.Shape.outline c.args.shape.now in
    let tails : List (List Step) = map g.T.Steps.left c.args.streams.now in
    let e : turn o (rests c.args.heads.now tails) (has c.requires.kept.list) c.args.number.now ≡ drawn.StepOf c.in-Rank.rank =
    known o c.args.heads.now tails c.args.sent.now (length c.args.found.now) c.args.number.now c.args.join.now c.drawn_number-drawn.result c.items.result c.next_turn.result
    c.requires.kept c.drawn_number-drawn.ensures c.items.ensures (c.next_turn.ensures.turn tails)
    ∙ ap (λ z. to_turn c.args.join.now z) c.in-Rank.is in
    let lt : c.in-Rank.rank < o.ranks = in_ranks o (c.accepted_lists_have_all_steps.ensures o) c.args.heads.now tails c.args.sent.now
    (length c.args.found.now) c.args.number.now c.args.join.now c.requires.kept c.in-Rank.rank e in
    omega (arith, c.requires.kept.head_count)

pub unreachable-requires : goal.unreachable-requires
unreachable-requires g c =
    let o : Outline = g.S.Shape.outline c.args.shape.now in
    let tails : List (List Step) = map g.T.Steps.left c.args.streams.now in
    let e : turn o (rests c.args.heads.now tails) (has c.requires.kept.list) c.args.number.now ≡ drawn.StepOf c.in-Rank.rank =
    known o c.args.heads.now tails c.args.sent.now (length c.args.found.now) c.args.number.now c.args.join.now c.drawn_number-drawn.result c.items.result c.next_turn.result
    c.requires.kept c.drawn_number-drawn.ensures c.items.ensures (c.next_turn.ensures.turn tails)
    ∙ ap (λ z. to_turn c.args.join.now z) c.in-Rank.is in
    has_head o (c.accepted_lists_have_all_steps.ensures o) c.args.heads.now tails c.args.sent.now (length c.args.found.now)
    c.args.number.now c.args.join.now c.requires.kept c.in-Rank.rank e (sym c.take_step.ensures.step ∙ c.in_default.is)

pub mark_sent-requires : goal.mark_sent-requires
mark_sent-requires g c =
    let o : Outline = g.S.Shape.outline c.args.shape.now in
    let tails : List (List Step) = map g.T.Steps.left c.args.streams.now in
    let e : turn o (rests c.args.heads.now tails) (has c.requires.kept.list) c.args.number.now ≡ drawn.StepOf c.in-Rank.rank =
    known o c.args.heads.now tails c.args.sent.now (length c.args.found.now) c.args.number.now c.args.join.now c.drawn_number-drawn.result c.items.result c.next_turn.result
    c.requires.kept c.drawn_number-drawn.ensures c.items.ensures (c.next_turn.ensures.turn tails)
    ∙ ap (λ z. to_turn c.args.join.now z) c.in-Rank.is in
    let h : get_or c.args.heads.now c.in-Rank.rank None ≡ Some c.in-Some.step = sym c.take_step.ensures.step ∙ c.in-Some.is in
    room o (c.accepted_lists_have_all_steps.ensures o) c.args.heads.now tails c.args.sent.now (length c.args.found.now) c.args.number.now
    c.args.join.now c.requires.kept c.in-Rank.rank e c.in-Some.step h
    c.requires.kept.table (omega (arith, c.items.ensures, c.items.type_inv))

pub returns-in-Over-clause-first : goal.returns-in-Over-clause-first
returns-in-Over-clause-first g c =
    let o : Outline = g.S.Shape.outline c.args.shape.now in
    let tails : List (List Step) = map g.T.Steps.left c.args.streams.now in
    let e : turn o (rests c.args.heads.now tails) (has c.requires.kept.list) c.args.number.now ≡ drawn.Over =
    known o c.args.heads.now tails c.args.sent.now (length c.args.found.now) c.args.number.now c.args.join.now c.drawn_number-drawn.result c.items.result c.next_turn.result
    c.requires.kept c.drawn_number-drawn.ensures c.items.ensures (c.next_turn.ensures.turn tails)
    ∙ ap (λ z. to_turn c.args.join.now z) c.in-Over.is in
    let none = over o (c.accepted_lists_have_all_steps.ensures o) c.args.heads.now tails c.args.sent.now (length c.args.found.now) c.args.number.now c.args.join.now c.requires.kept e in
    (none, none)

pub returns-in-Join-clause-kept : goal.returns-in-Join-clause-kept
returns-in-Join-clause-kept g c =
    let o : Outline = g.S.Shape.outline c.args.shape.now in
    let tails : List (List Step) = map g.T.Steps.left c.args.streams.now in
    let e : turn o (rests c.args.heads.now tails) (has c.requires.kept.list) c.args.number.now ≡ drawn.JoinOf c.args.join.now =
    known o c.args.heads.now tails c.args.sent.now (length c.args.found.now) c.args.number.now c.args.join.now c.drawn_number-drawn.result c.items.result c.next_turn.result
    c.requires.kept c.drawn_number-drawn.ensures c.items.ensures (c.next_turn.ensures.turn tails)
    ∙ ap (λ z. to_turn c.args.join.now z) c.in-Join.is in
    (join_onward o (c.accepted_lists_have_all_steps.ensures o) c.args.heads.now tails c.args.sent.now (length c.args.found.now)
    c.args.number.now c.args.join.now c.requires.kept e (length c.next_turn.new.found) c.next_join.result
    c.next_turn.ensures.room c.next_join.ensures).0

pub returns-in-Join-clause-first : goal.returns-in-Join-clause-first
returns-in-Join-clause-first g c =
    let o : Outline = g.S.Shape.outline c.args.shape.now in
    let tails : List (List Step) = map g.T.Steps.left c.args.streams.now in
    let e : turn o (rests c.args.heads.now tails) (has c.requires.kept.list) c.args.number.now ≡ drawn.JoinOf c.args.join.now =
    known o c.args.heads.now tails c.args.sent.now (length c.args.found.now) c.args.number.now c.args.join.now c.drawn_number-drawn.result c.items.result c.next_turn.result
    c.requires.kept c.drawn_number-drawn.ensures c.items.ensures (c.next_turn.ensures.turn tails)
    ∙ ap (λ z. to_turn c.args.join.now z) c.in-Join.is in
    (join_onward o (c.accepted_lists_have_all_steps.ensures o) c.args.heads.now tails c.args.sent.now (length c.args.found.now)
    c.args.number.now c.args.join.now c.requires.kept e (length c.next_turn.new.found) c.next_join.result
    c.next_turn.ensures.room c.next_join.ensures).1

pub returns-in-Some-clause-kept : goal.returns-in-Some-clause-kept
returns-in-Some-clause-kept g c =
    let o : Outline = g.S.Shape.outline c.args.shape.now in
    let tails : List (List Step) = map g.T.Steps.left c.args.streams.now in
    let e : turn o (rests c.args.heads.now tails) (has c.requires.kept.list) c.args.number.now ≡ drawn.StepOf c.in-Rank.rank =
    known o c.args.heads.now tails c.args.sent.now (length c.args.found.now) c.args.number.now c.args.join.now c.drawn_number-drawn.result c.items.result c.next_turn.result
    c.requires.kept c.drawn_number-drawn.ensures c.items.ensures (c.next_turn.ensures.turn tails)
    ∙ ap (λ z. to_turn c.args.join.now z) c.in-Rank.is in
    let h : get_or c.args.heads.now c.in-Rank.rank None ≡ Some c.in-Some.step = sym c.take_step.ensures.step ∙ c.in-Some.is in
    step_kept o (c.accepted_lists_have_all_steps.ensures o) c.args.heads.now tails c.args.sent.now (length c.args.found.now)
    c.args.number.now c.args.join.now c.requires.kept c.in-Rank.rank e c.in-Some.step h
    c.take_step.new.heads (map g.T.Steps.left c.take_step.new.streams) c.mark_sent.new.sent (length c.next_turn.new.found) c.drawn_number-drawn.result
    c.take_step.ensures.heads
    (omega (arith, length-map c.take_step.new.streams g.T.Steps.left, length-map c.args.streams.now g.T.Steps.left, c.take_step.ensures.streams))
    c.take_step.ensures.rests (c.mark_sent.ensures.table o.ranks c.requires.kept.table) c.mark_sent.ensures.sent c.next_turn.ensures.room c.drawn_number-drawn.ensures

pub returns-in-Some-clause-first : goal.returns-in-Some-clause-first
returns-in-Some-clause-first g c =
    let o : Outline = g.S.Shape.outline c.args.shape.now in
    let tails : List (List Step) = map g.T.Steps.left c.args.streams.now in
    let e : turn o (rests c.args.heads.now tails) (has c.requires.kept.list) c.args.number.now ≡ drawn.StepOf c.in-Rank.rank =
    known o c.args.heads.now tails c.args.sent.now (length c.args.found.now) c.args.number.now c.args.join.now c.drawn_number-drawn.result c.items.result c.next_turn.result
    c.requires.kept c.drawn_number-drawn.ensures c.items.ensures (c.next_turn.ensures.turn tails)
    ∙ ap (λ z. to_turn c.args.join.now z) c.in-Rank.is in
    let h : get_or c.args.heads.now c.in-Rank.rank None ≡ Some c.in-Some.step = sym c.take_step.ensures.step ∙ c.in-Some.is in
    step_left o (c.accepted_lists_have_all_steps.ensures o) c.args.heads.now tails c.args.sent.now (length c.args.found.now)
    c.args.number.now c.args.join.now c.requires.kept c.in-Rank.rank e c.in-Some.step h
    c.take_step.new.heads (map g.T.Steps.left c.take_step.new.streams) c.mark_sent.new.sent (length c.next_turn.new.found) c.drawn_number-drawn.result
    c.take_step.ensures.heads
    (omega (arith, length-map c.take_step.new.streams g.T.Steps.left, length-map c.args.streams.now g.T.Steps.left, c.take_step.ensures.streams))
    c.take_step.ensures.rests (c.mark_sent.ensures.table o.ranks c.requires.kept.table) c.mark_sent.ensures.sent c.next_turn.ensures.room c.drawn_number-drawn.ensures
