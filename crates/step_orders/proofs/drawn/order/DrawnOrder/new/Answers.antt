use Rattle.std.specs.Vec.{with_items}
use Rattle.std.proofs.lemmas.List.{with_items_is, length-map}
use Rattle.std.proofs.Common.{◌≡◌, ◌∙◌, ℕ, List, [], length, map, get_or, ap, subst, arith}
use Rattle.schedule_steps.specs.Outline.{Outline}
use Rattle.schedule_steps.specs.declared.step.Step.{Step}
use Rattle.step_orders.specs.declared.own_steps.OwnSteps.{OwnSteps}
use Rattle.step_orders.specs.OwnLeft.{own_left}
use Rattle.step_orders.specs.Rests.{rests}
use Rattle.step_orders.specs.UnderWay.{IsTable}
use Rattle.step_orders.proofs.drawn.Begin.{kept_first, drawn_first}
use Rattle.step_orders.proofs.drawn.order.DrawnOrder.new.Goals as goal

pub first_heads-requires : goal.first_heads-requires
first_heads-requires g c =
    record { few = omega (arith, c.in_ok-streams.ensures.count, ap (λ (z : List (OwnSteps g.row.S.Denot g.S.Shape)). length z) c.deref_mut.ensures.value, c.ranks.ensures, c.ranks.type_inv) }

pub invariant_of-result : goal.invariant_of-result
invariant_of-result g c =
    let o : Outline = g.S.Shape.outline c.args.shape.now in
    let n : ℕ = g.S.Shape.group c.args.shape.now in
    let left : OwnSteps g.row.S.Denot g.S.Shape → List Step = λ t. own_left (g.S.Shape.outline t.shape.now) (g.S.Shape.group t.shape.now) t.rank t.here in
    let whole = c.drawn_exists.ensures o n c.args.seed in
    let streams = (with_items c.in_ok-streams.streams c.first_heads.new.streams).items in
    let value = c.deref_mut.ensures.value in
    let count : length c.deref_mut.result.now ≡ o.ranks = ap (λ (z : List (OwnSteps g.row.S.Denot g.S.Shape)). length z) value ∙ c.in_ok-streams.ensures.count in
    let same = with_items_is c.in_ok-streams.streams c.first_heads.new.streams (omega (arith, c.in_ok-heads.ensures.streams, c.deref_mut.ensures.len)) in
    kept_first o n c.args.seed (c.accepted_lists_have_all_steps.ensures o) whole.0 whole.1 (c.drawn_is_accepted.ensures o n c.args.seed whole.0 whole.1)
    c.in_ok-heads.heads.items (map left streams) c.in_ok-sent.sent.items (length c.in_ok-found.found.items) c.next_join.result
    (omega (arith, c.ranks.ensures, c.ranks.type_inv))
    (c.in_ok-heads.ensures.heads ∙ count)
    (length-map streams left ∙ (ap (λ (z : List (OwnSteps g.row.S.Denot g.S.Shape)). length z) same ∙ (c.in_ok-heads.ensures.streams ∙ count)))
    (subst (λ z. IsTable z c.in_ok-sent.sent.items) c.ranks.ensures c.in_ok-sent.ensures.table)
    (omega (arith, c.in_ok-found.ensures.len, c.in_ok-found.found.ok, c.ranks-2.ensures))
    c.next_join.ensures
    (λ r lt. ap (λ z. rests c.in_ok-heads.heads.items (map left z) r) same
    ∙ (c.in_ok-heads.ensures.rests r (rw count lt)
    ∙ (ap (λ z. get_or (map left z) r []) value ∙ c.in_ok-streams.ensures.own r lt)))
    c.in_ok-sent.ensures.sent

pub returns-clause-drawn : goal.returns-clause-drawn
returns-clause-drawn g c =
    let o : Outline = g.S.Shape.outline c.args.shape.now in
    let n : ℕ = g.S.Shape.group c.args.shape.now in
    let left : OwnSteps g.row.S.Denot g.S.Shape → List Step = λ t. own_left (g.S.Shape.outline t.shape.now) (g.S.Shape.group t.shape.now) t.rank t.here in
    let whole = c.drawn_exists.ensures o n c.args.seed in
    let streams = (with_items c.in_ok-streams.streams c.first_heads.new.streams).items in
    let value = c.deref_mut.ensures.value in
    let count : length c.deref_mut.result.now ≡ o.ranks = ap (λ (z : List (OwnSteps g.row.S.Denot g.S.Shape)). length z) value ∙ c.in_ok-streams.ensures.count in
    let same = with_items_is c.in_ok-streams.streams c.first_heads.new.streams (omega (arith, c.in_ok-heads.ensures.streams, c.deref_mut.ensures.len)) in
    (drawn_first o n c.args.seed (c.accepted_lists_have_all_steps.ensures o) whole.0 whole.1 (c.drawn_is_accepted.ensures o n c.args.seed whole.0 whole.1)
    c.in_ok-heads.heads.items (map left streams) c.in_ok-sent.sent.items (length c.in_ok-found.found.items) c.next_join.result
    (omega (arith, c.ranks.ensures, c.ranks.type_inv))
    (c.in_ok-heads.ensures.heads ∙ count)
    (length-map streams left ∙ (ap (λ (z : List (OwnSteps g.row.S.Denot g.S.Shape)). length z) same ∙ (c.in_ok-heads.ensures.streams ∙ count)))
    (subst (λ z. IsTable z c.in_ok-sent.sent.items) c.ranks.ensures c.in_ok-sent.ensures.table)
    (omega (arith, c.in_ok-found.ensures.len, c.in_ok-found.found.ok, c.ranks-2.ensures))
    c.next_join.ensures
    (λ r lt. ap (λ z. rests c.in_ok-heads.heads.items (map left z) r) same
    ∙ (c.in_ok-heads.ensures.rests r (rw count lt)
    ∙ (ap (λ z. get_or (map left z) r []) value ∙ c.in_ok-streams.ensures.own r lt)))
    c.in_ok-sent.ensures.sent).0

pub returns-clause-accepted : goal.returns-clause-accepted
returns-clause-accepted g c =
    let o : Outline = g.S.Shape.outline c.args.shape.now in
    let n : ℕ = g.S.Shape.group c.args.shape.now in
    let left : OwnSteps g.row.S.Denot g.S.Shape → List Step = λ t. own_left (g.S.Shape.outline t.shape.now) (g.S.Shape.group t.shape.now) t.rank t.here in
    let whole = c.drawn_exists.ensures o n c.args.seed in
    let streams = (with_items c.in_ok-streams.streams c.first_heads.new.streams).items in
    let value = c.deref_mut.ensures.value in
    let count : length c.deref_mut.result.now ≡ o.ranks = ap (λ (z : List (OwnSteps g.row.S.Denot g.S.Shape)). length z) value ∙ c.in_ok-streams.ensures.count in
    let same = with_items_is c.in_ok-streams.streams c.first_heads.new.streams (omega (arith, c.in_ok-heads.ensures.streams, c.deref_mut.ensures.len)) in
    (drawn_first o n c.args.seed (c.accepted_lists_have_all_steps.ensures o) whole.0 whole.1 (c.drawn_is_accepted.ensures o n c.args.seed whole.0 whole.1)
    c.in_ok-heads.heads.items (map left streams) c.in_ok-sent.sent.items (length c.in_ok-found.found.items) c.next_join.result
    (omega (arith, c.ranks.ensures, c.ranks.type_inv))
    (c.in_ok-heads.ensures.heads ∙ count)
    (length-map streams left ∙ (ap (λ (z : List (OwnSteps g.row.S.Denot g.S.Shape)). length z) same ∙ (c.in_ok-heads.ensures.streams ∙ count)))
    (subst (λ z. IsTable z c.in_ok-sent.sent.items) c.ranks.ensures c.in_ok-sent.ensures.table)
    (omega (arith, c.in_ok-found.ensures.len, c.in_ok-found.found.ok, c.ranks-2.ensures))
    c.next_join.ensures
    (λ r lt. ap (λ z. rests c.in_ok-heads.heads.items (map left z) r) same
    ∙ (c.in_ok-heads.ensures.rests r (rw count lt)
    ∙ (ap (λ z. get_or (map left z) r []) value ∙ c.in_ok-streams.ensures.own r lt)))
    c.in_ok-sent.ensures.sent).1
