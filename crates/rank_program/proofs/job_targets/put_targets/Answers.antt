use Rattle.std.proofs.Common.{◌<◌, refl, sym, subst, arith}
use Rattle.mesh_decl.specs.Mesh.{set_size}
use Rattle.bound_program.specs.Values.{SiteValue, bound_of}
use Rattle.rank_program.specs.Jobs.{task_at}
use Rattle.rank_program.specs.Targets.{AllTargets}
use Rattle.rank_program.proofs.ProgramParts.{takes_of}
use Rattle.rank_program.proofs.ProgramRun.{site_there, site_same, site_fit}
use Rattle.rank_program.proofs.job_targets.put_targets.Goals as goal

pub index-site-requires : goal.index-site-requires
index-site-requires c =
    let b = bound_of c.parts-program.result.now.bound.now in
    let t = takes_of c.parts-program.ensures.are (c.requires.takes.1 0 c.requires.some) in
    let lt = site_there b c.parts-program.ensures.sound.planned.fits c.items_are_there.ensures.loops c.args.item c.loop_of.result t.is_loop c.loop_of.ensures
    c.parts-program.result.now.bound.now.sites.items refl in
    omega (arith, lt)

pub push_all-requires-clause-site : goal.push_all-requires-clause-site
push_all-requires-clause-site c =
    let b = bound_of c.parts-program.result.now.bound.now in
    let t = takes_of c.parts-program.ensures.are (c.requires.takes.1 0 c.requires.some) in
    site_fit b c.parts-program.ensures.sound.planned.fits c.items_are_there.ensures.loops c.args.item c.loop_of.result t.is_loop c.loop_of.ensures
    c.parts-program.result.now.bound.now.sites.items refl c.index-site.result.now c.index-site.ensures

pub push_all-requires-clause-elements : goal.push_all-requires-clause-elements
push_all-requires-clause-elements c i lt =
    let b = bound_of c.parts-program.result.now.bound.now in
    let t = takes_of c.parts-program.ensures.are (c.requires.takes.1 0 c.requires.some) in
    let same = site_same b c.parts-program.ensures.sound.planned.fits c.items_are_there.ensures.loops c.args.item c.loop_of.result t.is_loop c.loop_of.ensures
    c.parts-program.result.now.bound.now.sites.items refl c.index-site.result.now c.index-site.ensures in
    let at = takes_of c.parts-program.ensures.are (c.requires.takes.1 i lt) in
    subst (λ (s : SiteValue). (task_at c.args.tasks.now i).element < set_size b.mesh s.set) same at.element

pub returns-clause-targeted : goal.returns-clause-targeted
returns-clause-targeted c =
    rw (sym c.parts-program.ensures.are) (
    let b = bound_of c.parts-program.result.now.bound.now in
    let t = takes_of c.parts-program.ensures.are (c.requires.takes.1 0 c.requires.some) in
    let same = site_same b c.parts-program.ensures.sound.planned.fits c.items_are_there.ensures.loops c.args.item c.loop_of.result t.is_loop c.loop_of.ensures
    c.parts-program.result.now.bound.now.sites.items refl c.index-site.result.now c.index-site.ensures in
    subst (λ (s : SiteValue). AllTargets b s.args c.args.tasks.now c.push_all.new.targets.items) (sym same) c.push_all.ensures.all)

pub loop_of-requires : goal.loop_of-requires
loop_of-requires c = (takes_of c.parts-program.ensures.are (c.requires.takes.1 0 c.requires.some)).is_loop
