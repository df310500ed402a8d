use Rattle.std.proofs.Common.{◌≡◌, ◌∙◌, sym, ℕ, true, false, Some}
use Rattle.schedule_steps.specs.Outline.{runs, by_colour}
use Rattle.step_judge.specs.Wanted.{wanted, FirstBelow}
use Rattle.step_judge.proofs.FirstPlaces.{kept, lower, stays, runs_here, colours_here}
use Rattle.step_judge.proofs.elements.with_place.Goals as goal

pub returns-then-not-is_place_wanted-clause-first : goal.returns-then-not-is_place_wanted-clause-first
returns-then-not-is_place_wanted-clause-first c o m h =
    kept o (wanted c.args.marks.now c.args.later) c.args.item c.args.rank c.args.place c.args.best
    (sym c.is_place_wanted.ensures ∙ c.if-not-is_place_wanted.true) h

pub returns-then-is_lower-clause-first : goal.returns-then-is_lower-clause-first
returns-then-is_lower-clause-first c o m h =
    let k : ℕ = c.args.item in
    let r : ℕ = c.args.rank in
    let n : ℕ = c.args.place in
    let x : ℕ = c.in-Some.first in
    let run : runs o k r n ≡ true = runs_here c.args.marks.now o m k r n c.requires.place in
    let before : by_colour o k r n x ≡ true = sym (colours_here c.args.marks.now o m k r n x c.requires.place (rw c.in-Some.is at c.requires.best)) ∙ (sym c.is_lower.ensures ∙ c.if-is_lower.true) in
    lower o (wanted c.args.marks.now c.args.later) k r n x run (sym c.is_place_wanted.ensures ∙ c.if-not-is_place_wanted.false)
    (c.elements_are_ordered.ensures.lower o k r n x before)
    (λ y a b. c.elements_are_ordered.ensures.on o k r n x y a b)
    (rw c.in-Some.is at h)

pub returns-else-is_lower-clause-first : goal.returns-else-is_lower-clause-first
returns-else-is_lower-clause-first c o m h =
    let k : ℕ = c.args.item in
    let r : ℕ = c.args.rank in
    let n : ℕ = c.args.place in
    let x : ℕ = c.in-Some.first in
    let first : FirstBelow o (wanted c.args.marks.now c.args.later) k r n (Some x) = rw c.in-Some.is at h in
    let before : by_colour o k r n x ≡ false = sym (colours_here c.args.marks.now o m k r n x c.requires.place (rw c.in-Some.is at c.requires.best)) ∙ (sym c.is_lower.ensures ∙ c.if-is_lower.false) in
    stays o (wanted c.args.marks.now c.args.later) k r n x
    (c.elements_are_ordered.ensures.others o k r n x (m.in_order k r) first.0 before)
    first
