use Rattle.std.proofs.Common.{◌∙◌}
use Rattle.bound_program.specs.Values.{bound_of}
use Rattle.rank_layout.proofs.Putting.{windows_are, windows_within, windows_counted}
use Rattle.rank_layout.proofs.windows.put_windows.Goals as goal

pub returns-clause-places : goal.returns-clause-places
returns-clause-places c =
    let all = c.put_variables.ensures c.args.element c.put_numbers.ensures (c.put_dats-next.ensures.put c.args.element c.put_numbers.ensures) in
    windows_are (bound_of c.args.bound.now) c.args.element c.args.args.now c.put_variables.new.places c.put_variables.result
    (c.put_variables.auto.places ∙ c.put_dats-next.auto.places ∙ c.requires.count) all

pub returns-clause-within : goal.returns-clause-within
returns-clause-within c =
    let all = c.put_variables.ensures c.args.element c.put_numbers.ensures (c.put_dats-next.ensures.put c.args.element c.put_numbers.ensures) in
    windows_within (bound_of c.args.bound.now) c.args.element c.args.args.now c.put_variables.new.places c.put_variables.result
    (c.put_variables.auto.places ∙ c.put_dats-next.auto.places ∙ c.requires.count) all

pub returns-clause-count : goal.returns-clause-count
returns-clause-count c =
    let all = c.put_variables.ensures c.args.element c.put_numbers.ensures (c.put_dats-next.ensures.put c.args.element c.put_numbers.ensures) in
    windows_counted (bound_of c.args.bound.now) c.args.element c.args.args.now c.put_variables.new.places c.put_variables.result all
