use Rattle.std.proofs.Common.{◌∙◌}
use Rattle.rank_program.proofs.BegunParts.{set_there, place_owned}
use Rattle.rank_program.proofs.begun.owns_in.Goals as goal

pub is_own-requires-clause-set : goal.is_own-requires-clause-set
is_own-requires-clause-set c =
    set_there c.args.program.now c.requires.sound c.steps_stand.ensures c.args.item c.args.rank c.args.place c.requires.step c.site_of-site.result.now c.site_of-site.ensures

pub returns : goal.returns
returns c =
    c.is_own.ensures
    ∙ place_owned c.args.program.now c.requires.sound c.steps_stand.ensures c.args.item c.args.rank c.args.place c.requires.step c.site_of-site.result.now c.site_of-site.ensures
    c.owned_come_first.ensures
