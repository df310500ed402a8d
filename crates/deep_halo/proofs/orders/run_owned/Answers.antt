use Rattle.std.proofs.Common.{◌<◌, Some, None, refl, sym, ap, subst, ◌∙◌}
use Rattle.std.proofs.lemmas.Option.{none-some, same_Some}
use Rattle.kernel_model.specs.declared.types.faults.KernelFault.{KernelFault}
use Rattle.mesh_decl.specs.Mesh.{set_size}
use Rattle.schedule_model.specs.Sequential.{after_run}
use Rattle.bound_program.specs.Fits.{site_at}
use Rattle.run_model.specs.Kernels.{element_run}
use Rattle.rank_state.specs.declared.rank_memory.stop.Stop.{Stop}
use Rattle.deep_halo.proofs.chain_ranks.OneElement.{read, has_read}
use Rattle.deep_halo.specs.Programs.{program_of_run, owners_of_run}
use Rattle.deep_halo.specs.Orders.{LoopEnds}
use Rattle.deep_halo.proofs.Ordering.{owned_told, owned_ends, owned_others, as_owned, as_owned_stands}
use Rattle.deep_halo.proofs.orders.run_owned.Goals as goal

pub returns-in-Some-clause-ends : goal.returns-in-Some-clause-ends
returns-in-Some-clause-ends c s stand =
    let x = c.args.program.now in
    let b = program_of_run x in
    let o = owners_of_run x in
    let n = c.args.all.now.site in
    let e = c.args.element in
    let old = c.args.memory.now in
    let new = c.run_element-broken.new.memory in
    let broken = c.run_element-broken.result in
    let fits = c.requires.is.sound.fits in
    let ranges = c.is_in_range.ensures in
    let reach = c.windows_are_reached.ensures in
    let ls = c.requires.of.there in
    let le : e < set_size b.mesh (site_at b n).set = subst (λ m. e < set_size b.mesh m) c.requires.of.set c.requires.element in
    let told = owned_told b o fits ranges reach n e ls le old c.constants_are_read.ensures.numbered c.args.all.now.args.now c.read_constants.new.values new broken c.requires.of.args
    (c.read_constants.ensures (read b old) (has_read b o.ranks old c.requires.memory)) c.run_element-broken.ensures in
    let stop : Stop = record { item = c.args.item; element = Some e; fault = c.in-Some.fault } in
    subst (λ m. LoopEnds b o c.args.item new (Some stop) (after_run e s (element_run b (site_at b m) e s))) c.requires.site
    (owned_ends b o fits ranges reach n e ls le old c.args.item new s broken (element_run b (site_at b n) e s) (Some stop) stand (told s stand)
    (λ f is. ap (λ (g : KernelFault). Some (record { item = c.args.item; element = Some e; fault = g })) (same_Some c.in-Some.fault f (sym c.in-Some.is ∙ is)))
    (λ is. absurd (none-some c.in-Some.fault (sym is ∙ c.in-Some.is))))

pub returns-in-Some-clause-others : goal.returns-in-Some-clause-others
returns-in-Some-clause-others c =
    let x = c.args.program.now in
    let b = program_of_run x in
    let o = owners_of_run x in
    let n = c.args.all.now.site in
    let e = c.args.element in
    let old = c.args.memory.now in
    let new = c.run_element-broken.new.memory in
    let broken = c.run_element-broken.result in
    let fits = c.requires.is.sound.fits in
    let ranges = c.is_in_range.ensures in
    let reach = c.windows_are_reached.ensures in
    let ls = c.requires.of.there in
    let le : e < set_size b.mesh (site_at b n).set = subst (λ m. e < set_size b.mesh m) c.requires.of.set c.requires.element in
    let told = owned_told b o fits ranges reach n e ls le old c.constants_are_read.ensures.numbered c.args.all.now.args.now c.read_constants.new.values new broken c.requires.of.args
    (c.read_constants.ensures (read b old) (has_read b o.ranks old c.requires.memory)) c.run_element-broken.ensures in
    let s = as_owned b o old in
    owned_others b o fits ranges reach n e ls le old new s broken (element_run b (site_at b n) e s) (told s (as_owned_stands b o old c.requires.memory))

pub returns-in-None-clause-ends : goal.returns-in-None-clause-ends
returns-in-None-clause-ends c s stand =
    let x = c.args.program.now in
    let b = program_of_run x in
    let o = owners_of_run x in
    let n = c.args.all.now.site in
    let e = c.args.element in
    let old = c.args.memory.now in
    let new = c.run_element-broken.new.memory in
    let broken = c.run_element-broken.result in
    let fits = c.requires.is.sound.fits in
    let ranges = c.is_in_range.ensures in
    let reach = c.windows_are_reached.ensures in
    let ls = c.requires.of.there in
    let le : e < set_size b.mesh (site_at b n).set = subst (λ m. e < set_size b.mesh m) c.requires.of.set c.requires.element in
    let told = owned_told b o fits ranges reach n e ls le old c.constants_are_read.ensures.numbered c.args.all.now.args.now c.read_constants.new.values new broken c.requires.of.args
    (c.read_constants.ensures (read b old) (has_read b o.ranks old c.requires.memory)) c.run_element-broken.ensures in
    subst (λ m. LoopEnds b o c.args.item new None (after_run e s (element_run b (site_at b m) e s))) c.requires.site
    (owned_ends b o fits ranges reach n e ls le old c.args.item new s broken (element_run b (site_at b n) e s) None stand (told s stand)
    (λ f is. absurd (none-some f (sym c.in-None.is ∙ is)))
    (λ is. refl))

pub returns-in-None-clause-others : goal.returns-in-None-clause-others
returns-in-None-clause-others c =
    let x = c.args.program.now in
    let b = program_of_run x in
    let o = owners_of_run x in
    let n = c.args.all.now.site in
    let e = c.args.element in
    let old = c.args.memory.now in
    let new = c.run_element-broken.new.memory in
    let broken = c.run_element-broken.result in
    let fits = c.requires.is.sound.fits in
    let ranges = c.is_in_range.ensures in
    let reach = c.windows_are_reached.ensures in
    let ls = c.requires.of.there in
    let le : e < set_size b.mesh (site_at b n).set = subst (λ m. e < set_size b.mesh m) c.requires.of.set c.requires.element in
    let told = owned_told b o fits ranges reach n e ls le old c.constants_are_read.ensures.numbered c.args.all.now.args.now c.read_constants.new.values new broken c.requires.of.args
    (c.read_constants.ensures (read b old) (has_read b o.ranks old c.requires.memory)) c.run_element-broken.ensures in
    let s = as_owned b o old in
    owned_others b o fits ranges reach n e ls le old new s broken (element_run b (site_at b n) e s) (told s (as_owned_stands b o old c.requires.memory))
