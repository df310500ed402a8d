use Rattle.std.proofs.Common.{◌<◌, length, ap, sym, subst, ◌∙◌, refl, arith, ◌≡◌}
use Rattle.std.proofs.lemmas.List.{length-map}
use Rattle.schedule_model.specs.Program.{is_loop, elements}
use Rattle.mesh_decl.specs.Mesh.{set_size}
use Rattle.bound_program.specs.Values.{SiteValue, Ordered, site_of}
use Rattle.bound_program.specs.Fits.{site_at}
use Rattle.run_model.specs.Programs.{item_at, kind_of, loop_of}
use Rattle.rank_exec.proofs.Hosting.{site_facts}
use Rattle.rank_program.specs.declared.program.DistributedProgram.{DistributedProgram}
use Rattle.rank_program.specs.Sound.{program_in, setup_in}
use Rattle.rank_exec.proofs.joins.elements_of.Goals as goal

pub set_size-requires : goal.set_size-requires
set_size-requires c =
    let p = c.parts.result.now in
    let b = program_in p in
    let item : item_at b c.args.item ≡ Ordered c.args.site =
    subst (λ (d : DistributedProgram). item_at (program_in d) c.args.item ≡ Ordered c.args.site) (sym c.parts.ensures.are) c.requires in
    (site_facts b c.parts.ensures.sound.planned.fits c.items_are_there.ensures.loops c.args.item c.args.site
    item p.bound.now.sites.items c.index.result.now refl c.index.ensures).0

pub returns : goal.returns
returns c =
    let p = c.parts.result.now in
    let b = program_in p in
    let item : item_at b c.args.item ≡ Ordered c.args.site =
    subst (λ (d : DistributedProgram). item_at (program_in d) c.args.item ≡ Ordered c.args.site) (sym c.parts.ensures.are) c.requires in
    let same = (site_facts b c.parts.ensures.sound.planned.fits c.items_are_there.ensures.loops c.args.item c.args.site
    item p.bound.now.sites.items c.index.result.now refl c.index.ensures).1 in
    subst (λ (d : DistributedProgram). c.set_size.result ≡ elements (setup_in d).program c.args.item) c.parts.ensures.are
    (c.set_size.ensures
    ∙ ap (λ (s : SiteValue). set_size b.mesh s.set) (sym same)
    ∙ ap (λ n. set_size b.mesh (site_at b n).set) (sym (ap loop_of item)))

pub index-requires : goal.index-requires
index-requires c =
    let p = c.parts.result.now in
    let b = program_in p in
    let xs = p.bound.now.sites in
    let item : item_at b c.args.item ≡ Ordered c.args.site =
    subst (λ (d : DistributedProgram). item_at (program_in d) c.args.item ≡ Ordered c.args.site) (sym c.parts.ensures.are) c.requires in
    let there : c.args.site < length b.sites = subst (λ m. m < length b.sites) (ap loop_of item)
    (c.items_are_there.ensures.loops b c.args.item c.parts.ensures.sound.planned.fits (ap (λ i. is_loop (kind_of i)) item)) in
    omega (arith, there, length-map xs.items site_of, xs.ok.0)
