use Rattle.rank_program.proofs.BegunParts.{set_there, place_there}
use Rattle.rank_program.proofs.begun.original_in.Goals as goal

pub original_of-requires-clause-set : goal.original_of-requires-clause-set
original_of-requires-clause-set c =
    set_there c.args.program.now c.requires.sound c.steps_stand.ensures c.args.item c.args.rank c.args.place c.requires.step c.site_of-site.result.now c.site_of-site.ensures

pub original_of-requires-clause-place : goal.original_of-requires-clause-place
original_of-requires-clause-place c =
    place_there c.args.program.now c.requires.sound c.steps_stand.ensures c.args.item c.args.rank c.args.place c.requires.step c.site_of-site.result.now c.site_of-site.ensures
