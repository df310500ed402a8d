use Rattle.std.proofs.Common.{◌≡◌, ◌<◌, ◌≤◌, [], ◌∷◌, length, get_or, refl, sym, ap, subst, ◌∙◌, arith}
use Rattle.std.proofs.lemmas.List.{length-take-le}
use Rattle.kernel_model.specs.Framed.{PlacesIn}
use Rattle.kernel_model.specs.Meaning.{kernel_meaning}
use Rattle.mesh_decl.specs.Mesh.{set_size}
use Rattle.run_model.specs.OnWindows.{core_of}
use Rattle.bound_program.specs.Values.{SiteValue, bound_of, site_of}
use Rattle.bound_plan.specs.Windows.{frame_cells, core_with, site_core}
use Rattle.rank_program.specs.declared.program.DistributedProgram.{DistributedProgram}
use Rattle.rank_program.proofs.ItemParts.{takes, kernel_of, resolved}
use Rattle.rank_program.proofs.KernelRun.{as_core}
use Rattle.rank_program.proofs.ProgramParts.{takes_of}
use Rattle.rank_program.proofs.ProgramRun.{site_there, site_same, site_fit, code_there}
use Rattle.rank_program.proofs.kernel_run.run_kernel.Goals as goal

pub index-site-requires : goal.index-site-requires
index-site-requires c =
    let b = bound_of c.parts-program.result.now.bound.now in
    let t = takes_of c.parts-program.ensures.are c.requires.takes in
    let lt = site_there b c.parts-program.ensures.sound.planned.fits c.items_are_there.ensures.loops c.args.item c.loop_of-number.result t.is_loop c.loop_of-number.ensures
    c.parts-program.result.now.bound.now.sites.items refl in
    omega (arith, lt)

pub bounds-program-site : goal.bounds-program-site
bounds-program-site c =
    let b = bound_of c.parts-program.result.now.bound.now in
    let t = takes_of c.parts-program.ensures.are c.requires.takes in
    code_there b c.parts-program.ensures.sound.planned.fits c.items_are_there.ensures.loops c.args.item c.loop_of-number.result t.is_loop c.loop_of-number.ensures
    c.parts-program.result.now.bound.now.sites.items refl c.index-site.result.now c.index-site.ensures c.parts-program.result.now.codes.now c.parts-program.ensures.sound.codes

pub open_places-requires : goal.open_places-requires
open_places-requires c =
    let b = bound_of c.parts-program.result.now.bound.now in
    let t = takes_of c.parts-program.ensures.are c.requires.takes in
    let few : length c.index-site.result.now.args.items ≤ 16 =
    (site_fit b c.parts-program.ensures.sound.planned.fits c.items_are_there.ensures.loops c.args.item c.loop_of-number.result t.is_loop c.loop_of-number.ensures
    c.parts-program.result.now.bound.now.sites.items refl c.index-site.result.now c.index-site.ensures).few in
    let fits = c.requires.room.places_fit in
    omega (arith, few, c.len.ensures, fits)

pub put_frame-requires-clause-count : goal.put_frame-requires-clause-count
put_frame-requires-clause-count c =
    let long : c.len.result ≡ length c.index-site.result.now.args.items = omega (arith, c.len.ensures) in
    ap length c.as_mut_slice-places.ensures.value ∙ c.open_places.ensures.count ∙ long

pub put_frame-requires-clause-site : goal.put_frame-requires-clause-site
put_frame-requires-clause-site c =
    let b = bound_of c.parts-program.result.now.bound.now in
    let t = takes_of c.parts-program.ensures.are c.requires.takes in
    site_fit b c.parts-program.ensures.sound.planned.fits c.items_are_there.ensures.loops c.args.item c.loop_of-number.result t.is_loop c.loop_of-number.ensures
    c.parts-program.result.now.bound.now.sites.items refl c.index-site.result.now c.index-site.ensures

pub put_frame-requires-clause-element : goal.put_frame-requires-clause-element
put_frame-requires-clause-element c =
    let b = bound_of c.parts-program.result.now.bound.now in
    let t = takes_of c.parts-program.ensures.are c.requires.takes in
    let same = site_same b c.parts-program.ensures.sound.planned.fits c.items_are_there.ensures.loops c.args.item c.loop_of-number.result t.is_loop c.loop_of-number.ensures
    c.parts-program.result.now.bound.now.sites.items refl c.index-site.result.now c.index-site.ensures in
    subst (λ (s : SiteValue). c.args.element < set_size b.mesh s.set) same t.element

pub run_on-requires-clause-code : goal.run_on-requires-clause-code
run_on-requires-clause-code c =
    let b = bound_of c.parts-program.result.now.bound.now in
    let t = takes_of c.parts-program.ensures.are c.requires.takes in
    let lt = code_there b c.parts-program.ensures.sound.planned.fits c.items_are_there.ensures.loops c.args.item c.loop_of-number.result t.is_loop c.loop_of-number.ensures
    c.parts-program.result.now.bound.now.sites.items refl c.index-site.result.now c.index-site.ensures c.parts-program.result.now.codes.now c.parts-program.ensures.sound.codes in
    c.parts-program.ensures.sound.codes.each c.index-site.result.now.kernel c.index-program-site.result lt

pub run_on-requires-clause-params : goal.run_on-requires-clause-params
run_on-requires-clause-params c =
    let b = bound_of c.parts-program.result.now.bound.now in
    let t = takes_of c.parts-program.ensures.are c.requires.takes in
    let x = c.index-site.result.now in
    let fit = site_fit b c.parts-program.ensures.sound.planned.fits c.items_are_there.ensures.loops c.args.item c.loop_of-number.result t.is_loop c.loop_of-number.ensures
    c.parts-program.result.now.bound.now.sites.items refl x c.index-site.ensures in
    let lt = code_there b c.parts-program.ensures.sound.planned.fits c.items_are_there.ensures.loops c.args.item c.loop_of-number.result t.is_loop c.loop_of-number.ensures
    c.parts-program.result.now.bound.now.sites.items refl x c.index-site.ensures c.parts-program.result.now.codes.now c.parts-program.ensures.sound.codes in
    let f = (get_or c.parts-program.result.now.codes.now x.kernel c.index-program-site.result).kernel.now in
    c.put_frame.ensures.count ∙ takes b c.parts-program.ensures.sound.planned.fits (site_of x) fit f (c.parts-program.ensures.sound.codes.of_kernel x.kernel c.index-program-site.result f lt)

pub run_on-requires-clause-resolved : goal.run_on-requires-clause-resolved
run_on-requires-clause-resolved c =
    let b = bound_of c.parts-program.result.now.bound.now in
    let t = takes_of c.parts-program.ensures.are c.requires.takes in
    let x = c.index-site.result.now in
    let fit = site_fit b c.parts-program.ensures.sound.planned.fits c.items_are_there.ensures.loops c.args.item c.loop_of-number.result t.is_loop c.loop_of-number.ensures
    c.parts-program.result.now.bound.now.sites.items refl x c.index-site.ensures in
    let lt = code_there b c.parts-program.ensures.sound.planned.fits c.items_are_there.ensures.loops c.args.item c.loop_of-number.result t.is_loop c.loop_of-number.ensures
    c.parts-program.result.now.bound.now.sites.items refl x c.index-site.ensures c.parts-program.result.now.codes.now c.parts-program.ensures.sound.codes in
    let f = (get_or c.parts-program.result.now.codes.now x.kernel c.index-program-site.result).kernel.now in
    resolved b c.parts-program.ensures.sound.planned.fits (site_of x) fit f (c.parts-program.ensures.sound.codes.of_kernel x.kernel c.index-program-site.result f lt)
    (c.constants_are_read.ensures.numbered b c.parts-program.ensures.sound.planned.fits.constants) (length c.args.constants.now) t.constants

pub run_on-requires-clause-fits : goal.run_on-requires-clause-fits
run_on-requires-clause-fits c =
    let b = bound_of c.parts-program.result.now.bound.now in
    let t = takes_of c.parts-program.ensures.are c.requires.takes in
    let same = site_same b c.parts-program.ensures.sound.planned.fits c.items_are_there.ensures.loops c.args.item c.loop_of-number.result t.is_loop c.loop_of-number.ensures
    c.parts-program.result.now.bound.now.sites.items refl c.index-site.result.now c.index-site.ensures in
    subst (λ n. PlacesIn n c.put_frame.new.places) (sym (t.windows ∙ ap (λ (s : SiteValue). length (frame_cells b s.args c.args.element)) same))
    c.put_frame.ensures.within

pub run_on-requires-clause-scratch : goal.run_on-requires-clause-scratch
run_on-requires-clause-scratch c =
    let b = bound_of c.parts-program.result.now.bound.now in
    let t = takes_of c.parts-program.ensures.are c.requires.takes in
    let lt = code_there b c.parts-program.ensures.sound.planned.fits c.items_are_there.ensures.loops c.args.item c.loop_of-number.result t.is_loop c.loop_of-number.ensures
    c.parts-program.result.now.bound.now.sites.items refl c.index-site.result.now c.index-site.ensures c.parts-program.result.now.codes.now c.parts-program.ensures.sound.codes in
    let room = c.parts-program.ensures.sound.room c.index-site.result.now.kernel c.index-program-site.result lt in
    let fits = c.requires.room.locals_fit in
    omega (arith, room, fits, ap (λ (z : DistributedProgram). z.locals) c.parts-program.ensures.are)

pub returns-clause-ran : goal.returns-clause-ran
returns-clause-ran c =
    rw (sym c.parts-program.ensures.are) (
    let b = bound_of c.parts-program.result.now.bound.now in
    let t = takes_of c.parts-program.ensures.are c.requires.takes in
    let x = c.index-site.result.now in
    let fit = site_fit b c.parts-program.ensures.sound.planned.fits c.items_are_there.ensures.loops c.args.item c.loop_of-number.result t.is_loop c.loop_of-number.ensures
    c.parts-program.result.now.bound.now.sites.items refl x c.index-site.ensures in
    let same = site_same b c.parts-program.ensures.sound.planned.fits c.items_are_there.ensures.loops c.args.item c.loop_of-number.result t.is_loop c.loop_of-number.ensures
    c.parts-program.result.now.bound.now.sites.items refl x c.index-site.ensures in
    let lt = code_there b c.parts-program.ensures.sound.planned.fits c.items_are_there.ensures.loops c.args.item c.loop_of-number.result t.is_loop c.loop_of-number.ensures
    c.parts-program.result.now.bound.now.sites.items refl x c.index-site.ensures c.parts-program.result.now.codes.now c.parts-program.ensures.sound.codes in
    let f = (get_or c.parts-program.result.now.codes.now x.kernel c.index-program-site.result).kernel.now in
    as_core c.run_on.new.memory c.run_on.result ∙ ap core_of c.run_on.ensures.ran
    ∙ ap (λ ts. core_of (kernel_meaning ts c.args.constants.now f (c.args.windows.now ∷ []))) c.put_frame.ensures.windows
    ∙ sym (ap (λ (s : SiteValue). site_core b s c.args.element c.args.constants.now c.args.windows.now) same
    ∙ ap (λ o. core_with b o (site_of x) c.args.element c.args.constants.now c.args.windows.now)
    (kernel_of b c.parts-program.ensures.sound.planned.fits (site_of x) fit f (c.parts-program.ensures.sound.codes.of_kernel x.kernel c.index-program-site.result f lt))))
