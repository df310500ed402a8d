use Rattle.std.proofs.Common.{◌∙◌, ap, sym}
use Rattle.std.specs.Prelude.{nat_lt}
use Rattle.rank_program.proofs.BegunParts.{set_there, place_owned}
use Rattle.rank_program.proofs.begun.own_places.Goals as goal

pub own_count-requires-clause-set : goal.own_count-requires-clause-set
own_count-requires-clause-set c =
    set_there c.args.program.now c.requires.sound c.steps_stand.ensures c.args.item c.args.rank c.requires.step.0 c.requires.step.1 c.site_of-site.result.now c.site_of-site.ensures

pub returns : goal.returns
returns c = λ x step.
    sym (ap (nat_lt x) c.own_count.ensures
    ∙ place_owned c.args.program.now c.requires.sound c.steps_stand.ensures c.args.item c.args.rank x step c.site_of-site.result.now c.site_of-site.ensures
    c.owned_come_first.ensures)
