use Rattle.std.proofs.Common.{◌∙◌, sym, refl, ◌++◌, Some}
use Rattle.schedule_steps.specs.Standard.{below, sends_of, receives_of, element_steps}
use Rattle.step_judge.specs.Wanted.{wanted}
use Rattle.step_judge.proofs.Firsts.{append_some, append_none}
use Rattle.step_judge.proofs.search.first_of_free.Goals as goal

pub returns-in-Some : goal.returns-in-Some
returns-in-Some c o m = sym (append_some (wanted c.args.marks.now c.args.later)
    (below (sends_of o c.args.item) o.ranks)
    (below (receives_of o c.args.item) o.ranks ++ below (element_steps o 1 c.args.item) o.ranks)
    (Some c.in-Some.step) c.in-Some.step refl (sym (c.in-Some.ensures o m)))

pub returns-in-Some-first_of_receives : goal.returns-in-Some-first_of_receives
returns-in-Some-first_of_receives c o m = sym (append_none (wanted c.args.marks.now c.args.later)
    (below (sends_of o c.args.item) o.ranks)
    (below (receives_of o c.args.item) o.ranks ++ below (element_steps o 1 c.args.item) o.ranks)
    (sym (c.in_default.ensures o m))
    ∙ append_some (wanted c.args.marks.now c.args.later)
    (below (receives_of o c.args.item) o.ranks)
    (below (element_steps o 1 c.args.item) o.ranks)
    (Some c.in-Some-first_of_receives.step) c.in-Some-first_of_receives.step refl (sym (c.in-Some-first_of_receives.ensures o m)))

pub returns : goal.returns
returns c o m = c.first_element.ensures o m ∙ sym (append_none (wanted c.args.marks.now c.args.later)
    (below (sends_of o c.args.item) o.ranks)
    (below (receives_of o c.args.item) o.ranks ++ below (element_steps o 1 c.args.item) o.ranks)
    (sym (c.in_default.ensures o m))
    ∙ append_none (wanted c.args.marks.now c.args.later)
    (below (receives_of o c.args.item) o.ranks)
    (below (element_steps o 1 c.args.item) o.ranks)
    (sym (c.in_default-first_of_receives.ensures o m)))
