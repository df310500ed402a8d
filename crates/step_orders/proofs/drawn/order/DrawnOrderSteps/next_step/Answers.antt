use Rattle.std.specs.Vec.{with_items}
use Rattle.std.specs.declared.alloc.Global.{Global}
use Rattle.std.proofs.lemmas.List.{with_items_is, length-map}
use Rattle.std.proofs.Common.{Option, ◌∙◌, ℕ, List, Vec, length, map, sym, ap, arith}
use Rattle.schedule_steps.specs.Outline.{Outline}
use Rattle.schedule_steps.specs.declared.step.Step.{Step}
use Rattle.step_orders.specs.declared.own_steps.OwnSteps.{OwnSteps}
use Rattle.step_orders.specs.OwnLeft.{own_left}
use Rattle.step_orders.specs.UnderWay.{left_in}
use Rattle.step_orders.proofs.drawn.Firsts.{left_same, first_there, none_there}
use Rattle.step_orders.proofs.drawn.order.DrawnOrderSteps.next_step.Goals as goal

pub returns-clause-some : goal.returns-clause-some
returns-clause-some g c =
    let o : Outline = g.S.Shape.outline c.self.inside.shape.now in
    let left : OwnSteps g.row.S.Denot g.S.Shape → List Step = λ t. own_left (g.S.Shape.outline t.shape.now) (g.S.Shape.group t.shape.now) t.rank t.here in
    let new = c.take_turn.new in
    let kept = c.take_turn.ensures.kept in
    let was = c.self.invariant in
    let heads = with_items_is c.self.inside.heads new.heads
    (omega (arith, kept.head_count, was.head_count, c.deref_mut-2.ensures.len, ap (λ (z : List (Option Step)). length z) c.deref_mut-2.ensures.value)) in
    let streams = with_items_is c.self.inside.streams new.streams
    (omega (
      arith,
      kept.tail_count,
      was.tail_count,
      length-map new.streams left,
      length-map c.self.inside.streams.items left,
      c.deref_mut.ensures.len,
      ap (λ (z : List (OwnSteps g.row.S.Denot g.S.Shape)). length z) c.deref_mut.ensures.value,
    )) in
    let sent = with_items_is c.self.inside.sent new.sent
    (omega (arith, kept.table.count, was.table.count, c.deref_mut-3.ensures.len, ap (λ (z : List (Vec ℕ Global)). length z) c.deref_mut-3.ensures.value)) in
    first_there
    (left_in o c.deref_mut-2.result.now (map left c.deref_mut.result.now) c.deref_mut-3.result.now c.self.inside.number c.self.inside.join)
    c.args.self.now
    (left_in o new.heads (map left new.streams) new.sent new.number new.join)
    (left_in o (with_items c.self.inside.heads new.heads).items (map left (with_items c.self.inside.streams new.streams).items)
    (with_items c.self.inside.sent new.sent).items new.number new.join)
    c.take_turn.result
    (left_same o c.deref_mut-2.result.now c.self.inside.heads.items (map left c.deref_mut.result.now) (map left c.self.inside.streams.items)
    c.deref_mut-3.result.now c.self.inside.sent.items c.self.inside.number c.self.inside.join
    c.deref_mut-2.ensures.value (ap (λ z. map left z) c.deref_mut.ensures.value) c.deref_mut-3.ensures.value
    ∙ c.self.view_is)
    (left_same o new.heads (with_items c.self.inside.heads new.heads).items (map left new.streams) (map left (with_items c.self.inside.streams new.streams).items)
    new.sent (with_items c.self.inside.sent new.sent).items new.number new.join
    (sym heads) (ap (λ z. map left z) (sym streams)) (sym sent))
    c.take_turn.ensures.first

pub returns-clause-none : goal.returns-clause-none
returns-clause-none g c =
    let o : Outline = g.S.Shape.outline c.self.inside.shape.now in
    let left : OwnSteps g.row.S.Denot g.S.Shape → List Step = λ t. own_left (g.S.Shape.outline t.shape.now) (g.S.Shape.group t.shape.now) t.rank t.here in
    let new = c.take_turn.new in
    let kept = c.take_turn.ensures.kept in
    let was = c.self.invariant in
    let heads = with_items_is c.self.inside.heads new.heads
    (omega (arith, kept.head_count, was.head_count, c.deref_mut-2.ensures.len, ap (λ (z : List (Option Step)). length z) c.deref_mut-2.ensures.value)) in
    let streams = with_items_is c.self.inside.streams new.streams
    (omega (
      arith,
      kept.tail_count,
      was.tail_count,
      length-map new.streams left,
      length-map c.self.inside.streams.items left,
      c.deref_mut.ensures.len,
      ap (λ (z : List (OwnSteps g.row.S.Denot g.S.Shape)). length z) c.deref_mut.ensures.value,
    )) in
    let sent = with_items_is c.self.inside.sent new.sent
    (omega (arith, kept.table.count, was.table.count, c.deref_mut-3.ensures.len, ap (λ (z : List (Vec ℕ Global)). length z) c.deref_mut-3.ensures.value)) in
    none_there
    (left_in o c.deref_mut-2.result.now (map left c.deref_mut.result.now) c.deref_mut-3.result.now c.self.inside.number c.self.inside.join)
    c.args.self.now
    (left_in o new.heads (map left new.streams) new.sent new.number new.join)
    (left_in o (with_items c.self.inside.heads new.heads).items (map left (with_items c.self.inside.streams new.streams).items)
    (with_items c.self.inside.sent new.sent).items new.number new.join)
    c.take_turn.result
    (left_same o c.deref_mut-2.result.now c.self.inside.heads.items (map left c.deref_mut.result.now) (map left c.self.inside.streams.items)
    c.deref_mut-3.result.now c.self.inside.sent.items c.self.inside.number c.self.inside.join
    c.deref_mut-2.ensures.value (ap (λ z. map left z) c.deref_mut.ensures.value) c.deref_mut-3.ensures.value
    ∙ c.self.view_is)
    (left_same o new.heads (with_items c.self.inside.heads new.heads).items (map left new.streams) (map left (with_items c.self.inside.streams new.streams).items)
    new.sent (with_items c.self.inside.sent new.sent).items new.number new.join
    (sym heads) (ap (λ z. map left z) (sym streams)) (sym sent))
    c.take_turn.ensures.first
