use Rattle.std.proofs.Common.{◌∙◌, sym}
use Rattle.step_judge.specs.Wanted.{wanted}
use Rattle.step_judge.proofs.FirstPlaces.{none_meets, first_is, begin_first, end_first}
use Rattle.step_judge.proofs.elements.first_of_elements.Goals as goal

pub returns-in-None : goal.returns-in-None
returns-in-None c o m = sym (c.first_step_is_of_first_element.ensures.none o (wanted c.args.marks.now c.args.later) c.args.item c.args.rank
    (none_meets c.args.marks.now o m c.args.item c.args.rank (wanted c.args.marks.now c.args.later) c.requires.item c.requires.free c.requires.rank (c.in-None.ensures.first o m)))

pub returns-then-is_wanted : goal.returns-then-is_wanted
returns-then-is_wanted c o m =
    let first = first_is c.args.marks.now o m c.args.item c.args.rank (wanted c.args.marks.now c.args.later) c.requires.item c.requires.free
    c.requires.rank c.in-Some.place (c.in-Some.ensures.first o m) in
    sym (c.first_step_is_of_first_element.ensures.some o (wanted c.args.marks.now c.args.later) c.args.item c.args.rank c.in-Some.place first
    ∙ begin_first (wanted c.args.marks.now c.args.later) c.args.item c.args.rank c.in-Some.place (sym c.is_wanted.ensures ∙ c.if-is_wanted.true))

pub returns-else-is_wanted : goal.returns-else-is_wanted
returns-else-is_wanted c o m =
    let first = first_is c.args.marks.now o m c.args.item c.args.rank (wanted c.args.marks.now c.args.later) c.requires.item c.requires.free
    c.requires.rank c.in-Some.place (c.in-Some.ensures.first o m) in
    sym (c.first_step_is_of_first_element.ensures.some o (wanted c.args.marks.now c.args.later) c.args.item c.args.rank c.in-Some.place first
    ∙ end_first (wanted c.args.marks.now c.args.later) c.args.item c.args.rank c.in-Some.place first.is_met (sym c.is_wanted.ensures ∙ c.if-is_wanted.false))
