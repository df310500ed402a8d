use Rattle.std.proofs.Common.{rules, ◌≡◌, ◌∙◌, sym, ap, subst, ◌++◌, ◌+◌, ◌+ℤ◌, pos, [], ◌∷◌, Err, inr, take, drop, length, map, List, ℤ, Option, arith}
use Rattle.std.proofs.lemmas.Result.{err_from_is_err_and}
use Rattle.bound_program.specs.Values.{site_of}
use Rattle.bound_program.specs.Limited.{before, unrolled}
use Rattle.bound_program.specs.Trace.{Event, number, turns, turns_left, after, events, all_events}
use Rattle.bound_program.specs.Unrolling.{asked_of, step_of, steps_of, goes_by, seen, Leaves}
use Rattle.bound_program.specs.declared.trace.unroll.Known.{Known}
use Rattle.bound_program.proofs.trace.Leaves.{Becomes, leaves-then, first_done, first_stops}
use Rattle.bound_program.proofs.trace.Rounds.{stopped, ended, full, goes_on}
use Rattle.bound_program.proofs.trace.Blocks.{block_is, block_go, block_end}
use Rattle.bound_program.proofs.trace.ToldValues.{Extends, extends-trans, after-extends, pushed}
use Rattle.bound_program.proofs.trace.unroll.+unroll.Goals as goal

pub unroll-returns-after-loop-inner-clause-leaves :
    goal.unroll-returns-after-loop-inner-clause-leaves
unroll-returns-after-loop-inner-clause-leaves t c = λ rest.
    let sites = map site_of c.args.sites.now in
    ap (λ s. before (seen c.args.out.now) (unrolled c.args.out.now.left (events sites c.args.told.now.items s ++ rest)))
    (block_is c.args.step.now c.in-Block.all c.deref-inner-items.result.now c.in-Block.is c.deref-inner-items.ensures.value)
    ∙ c.loop-inner.invariant.leaves rest
    ∙ ap (λ es. before (seen c.loop-inner.out) (unrolled c.loop-inner.out.left (es ++ rest)))
    (block_end sites c.loop-inner.told.items c.deref-inner-items.result.now c.loop-inner.inner-index c.loop-inner-test.false)

pub unroll-returns-in_err-unroll-in-Block-clause-leaves :
    goal.unroll-returns-in_err-unroll-in-Block-clause-leaves
unroll-returns-in_err-unroll-in-Block-clause-leaves t c =
    let sites = map site_of c.args.sites.now in
    let items = c.deref-inner-items.result.now in
    let x = step_of c.inner-item.result in
    let told = c.loop-inner.told.items in
    let left_over = all_events sites (after told x) (steps_of (drop (c.loop-inner.inner-index + 1) items)) in
    let p = err_from_is_err_and c.from_residual-in_err-unroll-in-Block.result c.from_residual-in_err-unroll-in-Block.ensures.1 in
    let h : Becomes c.args.out.now (events sites c.args.told.now.items (step_of c.args.step.now)) c.loop-inner.out (events sites told x ++ left_over) = λ rest.
    ap (λ s. before (seen c.args.out.now) (unrolled c.args.out.now.left (events sites c.args.told.now.items s ++ rest)))
    (block_is c.args.step.now c.in-Block.all items c.in-Block.is c.deref-inner-items.ensures.value)
    ∙ c.loop-inner.invariant.leaves rest
    ∙ ap (λ es. before (seen c.loop-inner.out) (unrolled c.loop-inner.out.left (es ++ rest)))
    (block_go sites told items c.loop-inner.inner-index c.inner-item.result c.loop-inner-test.true c.inner-item.is) in
    let e = c.in_err-unroll-in-Block.field-0.0 in
    rw (p.1, p.2) (leaves-then {X = Unit {0}} c.args.out.now c.loop-inner.out c.unroll.new.out
    (events sites c.args.told.now.items (step_of c.args.step.now)) (events sites told x ++ left_over) (Err e) h
    (first_stops (Unit {0}) (Unit {0}) c.loop-inner.out c.unroll.new.out c.unroll.new.out (events sites told x) left_over e
    c.in_err-unroll-in-Block.ensures.leaves))

pub unroll_turns-returns-in-Stops-clause-leaves : goal.unroll_turns-returns-in-Stops-clause-leaves
unroll_turns-returns-in-Stops-clause-leaves t c =
    let sites = map site_of c.args.sites.now in
    let to = asked_of c.args.to.now in
    let i = c.turns.now.value in
    let bound : ℤ → Option ℤ = λ j. number (c.args.told.now.items ++ j ∷ []) to in
    let body : ℤ → List Event = λ j. events sites (c.args.told.now.items ++ j ∷ []) (step_of c.args.body.now) in
    let same : number c.deref.result.now to ≡ bound i = ap (λ (ts : List ℤ). number ts to) (c.deref.ensures.value ∙ c.in_ok-know.ensures ∙ ap (λ (ts : List ℤ). ts ++ i ∷ []) c.turns.invariant.told) in
    let p = ap (λ r. goes_by r i) (sym same) ∙ sym c.tested.ensures.is ∙ c.in-Stops.is in
    rw c.not_static.ensures (inr (stopped c.args.out.now c.turns.out
    (turns bound body to.at (turns_left c.args.first.value) c.args.first.value) bound body to.at i c.turns.invariant.leaves
    c.tested.ensures.within p))

pub unroll_turns-returns-in-Ends-clause-leaves : goal.unroll_turns-returns-in-Ends-clause-leaves
unroll_turns-returns-in-Ends-clause-leaves t c =
    let sites = map site_of c.args.sites.now in
    let to = asked_of c.args.to.now in
    let i = c.turns.now.value in
    let bound : ℤ → Option ℤ = λ j. number (c.args.told.now.items ++ j ∷ []) to in
    let body : ℤ → List Event = λ j. events sites (c.args.told.now.items ++ j ∷ []) (step_of c.args.body.now) in
    let same : number c.deref.result.now to ≡ bound i = ap (λ (ts : List ℤ). number ts to) (c.deref.ensures.value ∙ c.in_ok-know.ensures ∙ ap (λ (ts : List ℤ). ts ++ i ∷ []) c.turns.invariant.told) in
    let p = ap (λ r. goes_by r i) (sym same) ∙ sym c.tested.ensures.is ∙ c.in-Ends.is in
    ended c.args.out.now c.turns.out (turns bound body to.at (turns_left c.args.first.value) c.args.first.value) bound body to.at i c.turns.invariant.leaves c.tested.ensures.within p

pub unroll_turns-returns-in_err-turn-in-On-clause-leaves :
    goal.unroll_turns-returns-in_err-turn-in-On-clause-leaves
unroll_turns-returns-in_err-turn-in-On-clause-leaves t c =
    let sites = map site_of c.args.sites.now in
    let to = asked_of c.args.to.now in
    let i = c.turns.now.value in
    let bound : ℤ → Option ℤ = λ j. number (c.args.told.now.items ++ j ∷ []) to in
    let body : ℤ → List Event = λ j. events sites (c.args.told.now.items ++ j ∷ []) (step_of c.args.body.now) in
    let same : number c.deref.result.now to ≡ bound i = ap (λ (ts : List ℤ). number ts to) (c.deref.ensures.value ∙ c.in_ok-know.ensures ∙ ap (λ (ts : List ℤ). ts ++ i ∷ []) c.turns.invariant.told) in
    let g = ap (λ r. goes_by r i) (sym same) ∙ sym c.tested.ensures.is ∙ c.in-On.is in
    let p = err_from_is_err_and c.from_residual-in_err-turn-in-On.result c.from_residual-in_err-turn-in-On.ensures.1 in
    let f = c.in_err-turn-in-On.ensures.full in
    rw (p.1, p.2, f.0) (inr (full c.args.out.now c.turns.out (turns bound body to.at (turns_left c.args.first.value) c.args.first.value)
    bound body to.at i c.turns.invariant.leaves c.tested.ensures.within g f.1))

pub unroll_turns-returns-in_err-unroll-in-On-clause-leaves :
    goal.unroll_turns-returns-in_err-unroll-in-On-clause-leaves
unroll_turns-returns-in_err-unroll-in-On-clause-leaves t c =
    let sites = map site_of c.args.sites.now in
    let to = asked_of c.args.to.now in
    let i = c.turns.now.value in
    let bound : ℤ → Option ℤ = λ j. number (c.args.told.now.items ++ j ∷ []) to in
    let body : ℤ → List Event = λ j. events sites (c.args.told.now.items ++ j ∷ []) (step_of c.args.body.now) in
    let now : c.know.new.told.items ≡ c.args.told.now.items ++ i ∷ [] = c.in_ok-know.ensures ∙ ap (λ (ts : List ℤ). ts ++ i ∷ []) c.turns.invariant.told in
    let same : number c.deref.result.now to ≡ bound i = ap (λ (ts : List ℤ). number ts to) (c.deref.ensures.value ∙ now) in
    let g = ap (λ r. goes_by r i) (sym same) ∙ sym c.tested.ensures.is ∙ c.in-On.is in
    let whole = turns bound body to.at (turns_left c.args.first.value) c.args.first.value in
    let later = turns bound body to.at (turns_left (i +ℤ pos 1)) (i +ℤ pos 1) in
    let p = err_from_is_err_and c.from_residual-in_err-unroll-in-On.result c.from_residual-in_err-unroll-in-On.ensures.1 in
    let e = c.in_err-unroll-in-On.field-0.0 in
    let h : Becomes c.args.out.now whole c.turn.new.out (body i ++ later) =
    goes_on c.args.out.now c.turns.out whole bound body to.at i c.turns.invariant.leaves c.tested.ensures.within g c.turn.new.out
    c.in_ok-turn-in-On.ensures.ok.0 c.in_ok-turn-in-On.ensures.ok.1 in
    let k : Leaves {X = Unit {0}} c.turn.new.out (body i) (Err e) c.unroll.new.out =
    subst (λ (ts : List ℤ). Leaves {X = Unit {0}} c.turn.new.out (events sites ts (step_of c.args.body.now)) (Err e) c.unroll.new.out)
    now c.in_err-unroll-in-On.ensures.leaves in
    rw (p.1, p.2) (leaves-then {X = Unit {0}} c.args.out.now c.turn.new.out c.unroll.new.out whole (body i ++ later) (Err e) h
    (first_stops (Unit {0}) (Unit {0}) c.turn.new.out c.unroll.new.out c.unroll.new.out (body i) later e k))

pub unroll_turns-turns-preserved : goal.unroll_turns-turns-preserved
unroll_turns-turns-preserved t c =
    let sites = map site_of c.args.sites.now in
    let to = asked_of c.args.to.now in
    let i = c.turns.now.value in
    let bound : ℤ → Option ℤ = λ j. number (c.args.told.now.items ++ j ∷ []) to in
    let body : ℤ → List Event = λ j. events sites (c.args.told.now.items ++ j ∷ []) (step_of c.args.body.now) in
    let now : c.know.new.told.items ≡ c.args.told.now.items ++ i ∷ [] = c.in_ok-know.ensures ∙ ap (λ (ts : List ℤ). ts ++ i ∷ []) c.turns.invariant.told in
    let same : number c.deref.result.now to ≡ bound i = ap (λ (ts : List ℤ). number ts to) (c.deref.ensures.value ∙ now) in
    let g = ap (λ r. goes_by r i) (sym same) ∙ sym c.tested.ensures.is ∙ c.in-On.is in
    let whole = turns bound body to.at (turns_left c.args.first.value) c.args.first.value in
    let later = turns bound body to.at (turns_left (i +ℤ pos 1)) (i +ℤ pos 1) in
    let h : Becomes c.args.out.now whole c.turn.new.out (body i ++ later) =
    goes_on c.args.out.now c.turns.out whole bound body to.at i c.turns.invariant.leaves c.tested.ensures.within g c.turn.new.out
    c.in_ok-turn-in-On.ensures.ok.0 c.in_ok-turn-in-On.ensures.ok.1 in
    let k : (rest : List Event) → before (seen c.turn.new.out) (unrolled c.turn.new.out.left (body i ++ rest)) ≡ before
    (seen c.unroll.new.out) (unrolled c.unroll.new.out.left rest) =
    subst (λ (ts : List ℤ). (rest : List Event) → before (seen c.turn.new.out)
    (unrolled c.turn.new.out.left (events sites ts (step_of c.args.body.now) ++ rest)) ≡ before (seen c.unroll.new.out)
    (unrolled c.unroll.new.out.left rest)) now c.in_ok-unroll-in-On.ensures.leaves in
    let known : c.len-known.result ≡ length c.args.told.now.items = search rules in
    let back : Extends c.args.told.now.items c.unroll.new.told.items =
    extends-trans c.args.told.now.items c.know.new.told.items c.unroll.new.told.items (rw now (pushed c.args.told.now.items i))
    (subst (Extends c.know.new.told.items) (sym c.in_ok-unroll-in-On.ensures.told)
    (after-extends c.know.new.told.items (step_of c.args.body.now))) in
    record {
      leaves = λ rest. h rest ∙ first_done c.turn.new.out c.unroll.new.out (body i) later k rest
          ∙ ap (λ (v : Known). before (seen c.unroll.new.out)
          (unrolled c.unroll.new.out.left (turns bound body to.at (turns_left v.value) v.value ++ rest))) (sym c.next-now.ensures);
      told = c.truncate-in-On.ensures.items ∙ ap (λ n. take n c.unroll.new.told.items) known ∙ back.front;
      fewer = omega (arith, c.in_ok-unroll-in-On.ensures.fewer, c.in_ok-turn-in-On.ensures.ok.0, c.turns.invariant.fewer);
    }
