use Rattle.std.proofs.Common.{refl, sym, arith}
use Rattle.bound_program.specs.Values.{bound_of}
use Rattle.rank_program.proofs.ProgramRun.{site_there, site_same}
use Rattle.rank_program.proofs.items.site_of.Goals as goal

pub index-requires : goal.index-requires
index-requires c =
    let lt = site_there (bound_of c.args.bound.now) c.requires.fits c.items_are_there.ensures.loops c.args.item c.loop_of.result c.requires.is_loop c.loop_of.ensures
    c.args.bound.now.sites.items refl in
    omega (arith, lt)

pub returns : goal.returns
returns c =
    sym (site_same (bound_of c.args.bound.now) c.requires.fits c.items_are_there.ensures.loops c.args.item c.loop_of.result c.requires.is_loop c.loop_of.ensures
    c.args.bound.now.sites.items refl c.index.result.now c.index.ensures)
