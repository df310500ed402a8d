use Rattle.std.proofs.Common.{◌≡◌, ◌<◌, ◌++◌, [], List, Option, refl, sym, ap₂, subst, ◌∙◌, arith, length, set, append_assoc}
use Rattle.std.proofs.lemmas.List.{length-set}
use Rattle.rank_machine.specs.OnRanks.{places_on}
use Rattle.std.specs.Prelude.{IfSome}
use Rattle.schedule_steps.specs.declared.step.Step.{Step}
use Rattle.rank_exec.specs.Closed.{RankGroup, all_closed}
use Rattle.rank_exec.specs.declared.stream.Told.{Told}
use Rattle.rank_exec.specs.Rounds.{elements, told}
use Rattle.rank_exec.proofs.GatheredGroups.{Gathered, gathered_none, gathered_more, gathered_later, split_more, some_closed, place_is}
use Rattle.rank_exec.proofs.Telling.{told_is, groups_of, elements_fewer}
use Rattle.rank_exec.proofs.gathering.gather.Goals as goal

pub loop-steps-init : goal.loop-steps-init
loop-steps-init g c = record {
  gathered = ([], refl, gathered_none c.args.of.item c.args.of.rank c.args.lists.now c.requires.empty);
  item = refl;
  rank = c.requires.rank;
  some = c.requires.some;
  count = refl;
  room = refl;
}

pub bounds-lists-last : goal.bounds-lists-last
bounds-lists-last g c = c.loop-steps.invariant.rank

pub returns-in_err-extend_from_slice-clause-suffix : goal.returns-in_err-extend_from_slice-clause-suffix
returns-in_err-extend_from_slice-clause-suffix g c =
    let h = c.loop-steps.invariant.gathered in
    let k = c.args.of.item in
    let last : List Step = elements c.loop-steps.last.alone k c.loop-steps.last.rank c.loop-steps.places.items in
    (all_closed k h.0 ++ last, h.1 ∙ sym (append_assoc (all_closed k h.0) last (g.S.Steps.left c.loop-steps.steps)))

pub returns-in_err-extend_from_slice-clause-room : goal.returns-in_err-extend_from_slice-clause-room
returns-in_err-extend_from_slice-clause-room g c = c.loop-steps.invariant.room

pub returns-in_default-clause-groups : goal.returns-in_default-clause-groups
returns-in_default-clause-groups g c =
    let k = c.args.of.item in
    let h = c.loop-steps.invariant.gathered in
    let b = c.loop-steps.last.alone in
    let last = c.loop-steps.last.rank in
    let xs = c.loop-steps.places.items in
    let ls = c.loop-steps.lists in
    let v = c.extend_from_slice.new.self in
    let more : v.items ≡ places_on ls last ++ xs =
    c.in_ok-extend_from_slice.ensures.items
    ∙ ap₂ (λ a b. a ++ b) (sym (place_is ls last c.index-lists-last.result c.loop-steps.invariant.rank)) c.deref.ensures.value in
    let gathered : Gathered k last (h.0 ++ groups_of b last xs) (set ls last v) =
    gathered_more b k last last xs h.0 ls v (omega arith) c.loop-steps.invariant.rank more h.2 in
    let come : List Step = elements c.args.of.alone k c.args.of.rank c.args.places.now.items ++ g.S.Steps.left c.args.steps.now in
    let left : List Step = g.S.Steps.left c.loop-steps.steps in
    let next = c.next_told-next in
    let rest : List Step = told next.result next.new.places.items ++ g.S.Steps.left next.new.steps in
    let is : left ≡ rest = told_is next.result next.new.places.items left (g.S.Steps.left next.new.steps) next.ensures.some next.ensures.none in (
      h.0 ++ groups_of b last xs,
      split_more b k last xs h.0 come left rest h.1 is,
      gathered.same,
      some_closed b k last xs h.0 c.loop-steps.invariant.some,
    )

pub returns-in_default-clause-suffix : goal.returns-in_default-clause-suffix
returns-in_default-clause-suffix g c =
    let k = c.args.of.item in
    let h = c.loop-steps.invariant.gathered in
    let b = c.loop-steps.last.alone in
    let last = c.loop-steps.last.rank in
    let xs = c.loop-steps.places.items in
    let gs : List RankGroup = h.0 ++ groups_of b last xs in
    let come : List Step = elements c.args.of.alone k c.args.of.rank c.args.places.now.items ++ g.S.Steps.left c.args.steps.now in
    let left : List Step = g.S.Steps.left c.loop-steps.steps in
    let next = c.next_told-next in
    let told_next : List Step = told next.result next.new.places.items in
    let rest : List Step = told_next ++ g.S.Steps.left next.new.steps in
    let is : left ≡ rest = told_is next.result next.new.places.items left (g.S.Steps.left next.new.steps) next.ensures.some next.ensures.none in
    (all_closed k gs ++ told_next, split_more b k last xs h.0 come left rest h.1 is ∙ sym (append_assoc (all_closed k gs) told_next (g.S.Steps.left next.new.steps)))

pub loop-steps-preserved : goal.loop-steps-preserved
loop-steps-preserved g c =
    let k = c.args.of.item in
    let h = c.loop-steps.invariant.gathered in
    let b = c.loop-steps.last.alone in
    let last = c.loop-steps.last.rank in
    let xs = c.loop-steps.places.items in
    let ls = c.loop-steps.lists in
    let v = c.extend_from_slice.new.self in
    let more : v.items ≡ places_on ls last ++ xs =
    c.in_ok-extend_from_slice.ensures.items
    ∙ ap₂ (λ a b. a ++ b) (sym (place_is ls last c.index-lists-last.result c.loop-steps.invariant.rank)) c.deref.ensures.value in
    let gathered : Gathered k last (h.0 ++ groups_of b last xs) (set ls last v) =
    gathered_more b k last last xs h.0 ls v (omega arith) c.loop-steps.invariant.rank more h.2 in
    let come : List Step = elements c.args.of.alone k c.args.of.rank c.args.places.now.items ++ g.S.Steps.left c.args.steps.now in
    let left : List Step = g.S.Steps.left c.loop-steps.steps in
    let next = c.next_told-next in
    let of = c.in-Some.more in
    let is = c.in-Some.ensures.is of refl in
    let item : of.item ≡ k = c.in-Some.ensures.item of refl ∙ c.loop-steps.invariant.item in
    let rest : List Step = elements of.alone k of.rank next.new.places.items ++ g.S.Steps.left next.new.steps in
    let told_next : left ≡ elements of.alone of.item of.rank next.new.places.items ++ g.S.Steps.left next.new.steps =
    subst (λ (o : Option Told). IfSome o (λ (x : Told). left ≡ elements x.alone x.item x.rank next.new.places.items ++ g.S.Steps.left next.new.steps)) is next.ensures.some in
    let came : left ≡ rest =
    subst (λ i. left ≡ elements of.alone i of.rank next.new.places.items ++ g.S.Steps.left next.new.steps) item told_next in
    let count : length (set ls last v) ≡ length ls = length-set ls last v in
    let within = c.in-Some.ensures.within of refl in
    record {
      gathered = (
        h.0 ++ groups_of b last xs,
        split_more b k last xs h.0 come left rest h.1 came,
        gathered_later k last of.rank (h.0 ++ groups_of b last xs) (set ls last v) (c.in-Some.ensures.order of refl) gathered,
      );
      item = item;
      rank = omega (arith, within, count);
      some = subst (λ (o : Option Told). IfSome o (λ (x : Told). 0 < length next.new.places.items)) is next.ensures.more;
      count = count ∙ c.loop-steps.invariant.count;
      room = next.ensures.room ∙ c.loop-steps.invariant.room;
    }

pub loop-steps-smaller : goal.loop-steps-smaller
loop-steps-smaller g c =
    let left : List Step = g.S.Steps.left c.loop-steps.steps in
    let next = c.next_told-next in
    let of = c.in-Some.more in
    let is = c.in-Some.ensures.is of refl in
    let told_next : left ≡ elements of.alone of.item of.rank next.new.places.items ++ g.S.Steps.left next.new.steps =
    subst (λ (o : Option Told). IfSome o (λ (x : Told). left ≡ elements x.alone x.item x.rank next.new.places.items ++ g.S.Steps.left next.new.steps)) is next.ensures.some in
    elements_fewer of.alone of.item of.rank next.new.places.items left (g.S.Steps.left next.new.steps) told_next
    (subst (λ (o : Option Told). IfSome o (λ (x : Told). 0 < length next.new.places.items)) is next.ensures.more)
