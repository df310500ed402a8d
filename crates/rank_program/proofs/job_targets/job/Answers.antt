use Rattle.std.proofs.Common.{◌≡◌, ◌≤◌, [], ◌∷◌, map, length, get_or, refl, sym, ap, subst, ◌∙◌, arith}
use Rattle.kernel_model.specs.Meaning.{kernel_meaning}
use Rattle.run_model.specs.OnWindows.{core_of}
use Rattle.kernel_model.specs.Framed.{target_of, PlacesIn}
use Rattle.bound_program.specs.Values.{SiteValue, bound_of, site_of}
use Rattle.bound_program.specs.Fits.{site_at}
use Rattle.run_model.specs.Laws as the
use Rattle.bound_plan.specs.Windows.{frame_windows, core_with, site_core}
use Rattle.rank_program.specs.declared.program.DistributedProgram.{DistributedProgram}
use Rattle.rank_program.specs.Jobs.{task_at, places_in}
use Rattle.rank_program.proofs.ItemParts.{takes, kernel_of, resolved}
use Rattle.rank_program.proofs.ProgramParts.{takes_of, targeted_of}
use Rattle.rank_program.proofs.ProgramRun.{site_there, site_same, site_fit, code_there}
use Rattle.rank_program.proofs.job_targets.job.Goals as goal

pub index-site-requires : goal.index-site-requires
index-site-requires c =
    let b = bound_of c.parts-program.result.now.bound.now in
    let t = takes_of c.parts-program.ensures.are (c.requires.takes 0 c.requires.some) in
    let lt = site_there b c.parts-program.ensures.sound.planned.fits c.items_are_there.ensures.loops c.args.item c.loop_of-number.result t.is_loop c.loop_of-number.ensures
    c.parts-program.result.now.bound.now.sites.items refl in
    omega (arith, lt)

pub bounds-program-site : goal.bounds-program-site
bounds-program-site c =
    let b = bound_of c.parts-program.result.now.bound.now in
    let t = takes_of c.parts-program.ensures.are (c.requires.takes 0 c.requires.some) in
    code_there b c.parts-program.ensures.sound.planned.fits c.items_are_there.ensures.loops c.args.item c.loop_of-number.result t.is_loop c.loop_of-number.ensures
    c.parts-program.result.now.bound.now.sites.items refl c.index-site.result.now c.index-site.ensures c.parts-program.result.now.codes.now c.parts-program.ensures.sound.codes

pub returns-clause-accepts : goal.returns-clause-accepts
returns-clause-accepts c i n lt room =
    let b = bound_of c.parts-program.result.now.bound.now in
    let t = takes_of c.parts-program.ensures.are (c.requires.takes 0 c.requires.some) in
    let at = takes_of c.parts-program.ensures.are (c.requires.takes i lt) in
    let same = site_same b c.parts-program.ensures.sound.planned.fits c.items_are_there.ensures.loops c.args.item c.loop_of-number.result t.is_loop c.loop_of-number.ensures
    c.parts-program.result.now.bound.now.sites.items refl c.index-site.result.now c.index-site.ensures in
    let fit = site_fit b c.parts-program.ensures.sound.planned.fits c.items_are_there.ensures.loops c.args.item c.loop_of-number.result t.is_loop c.loop_of-number.ensures
    c.parts-program.result.now.bound.now.sites.items refl c.index-site.result.now c.index-site.ensures in
    let there = code_there b c.parts-program.ensures.sound.planned.fits c.items_are_there.ensures.loops c.args.item c.loop_of-number.result t.is_loop c.loop_of-number.ensures
    c.parts-program.result.now.bound.now.sites.items refl c.index-site.result.now c.index-site.ensures c.parts-program.result.now.codes.now c.parts-program.ensures.sound.codes in
    let slots = c.parts-program.ensures.sound.room c.index-site.result.now.kernel c.index-program-site.result there in
    record {
      task = lt;
      targets = (targeted_of c.parts-program.ensures.are c.args.item c.args.tasks.now c.args.targets.now c.requires.targeted).count;
      code = c.parts-program.ensures.sound.codes.each c.index-site.result.now.kernel c.index-program-site.result there;
      params = ((targeted_of c.parts-program.ensures.are c.args.item c.args.tasks.now c.args.targets.now c.requires.targeted).each i lt).count ∙ ap (λ (s : SiteValue). length s.args) same ∙ takes b c.parts-program.ensures.sound.planned.fits (site_of c.index-site.result.now) fit
          (get_or c.parts-program.result.now.codes.now c.index-site.result.now.kernel c.index-program-site.result).kernel.now
          (c.parts-program.ensures.sound.codes.of_kernel c.index-site.result.now.kernel c.index-program-site.result
          (get_or c.parts-program.result.now.codes.now c.index-site.result.now.kernel c.index-program-site.result).kernel.now there);
      resolved = resolved b c.parts-program.ensures.sound.planned.fits (site_of c.index-site.result.now) fit
          (get_or c.parts-program.result.now.codes.now c.index-site.result.now.kernel c.index-program-site.result).kernel.now
          (c.parts-program.ensures.sound.codes.of_kernel c.index-site.result.now.kernel c.index-program-site.result
          (get_or c.parts-program.result.now.codes.now c.index-site.result.now.kernel c.index-program-site.result).kernel.now there)
          (c.constants_are_read.ensures.numbered b c.parts-program.ensures.sound.planned.fits.constants) (length c.args.constants.now) t.constants;
      fits = subst (λ m. PlacesIn m (places_in c.args.targets.now i)) (sym at.windows) ((targeted_of c.parts-program.ensures.are c.args.item c.args.tasks.now c.args.targets.now c.requires.targeted).each i lt).within;
      room = omega (arith, slots, room, ap (λ (z : DistributedProgram). z.locals) c.parts-program.ensures.are);
    }

pub returns-clause-core : goal.returns-clause-core
returns-clause-core c i ws lt len =
    rw (sym c.parts-program.ensures.are) (
    let b = bound_of c.parts-program.result.now.bound.now in
    let t = takes_of c.parts-program.ensures.are (c.requires.takes 0 c.requires.some) in
    let same = site_same b c.parts-program.ensures.sound.planned.fits c.items_are_there.ensures.loops c.args.item c.loop_of-number.result t.is_loop c.loop_of-number.ensures
    c.parts-program.result.now.bound.now.sites.items refl c.index-site.result.now c.index-site.ensures in
    let fit = site_fit b c.parts-program.ensures.sound.planned.fits c.items_are_there.ensures.loops c.args.item c.loop_of-number.result t.is_loop c.loop_of-number.ensures
    c.parts-program.result.now.bound.now.sites.items refl c.index-site.result.now c.index-site.ensures in
    let there = code_there b c.parts-program.ensures.sound.planned.fits c.items_are_there.ensures.loops c.args.item c.loop_of-number.result t.is_loop c.loop_of-number.ensures
    c.parts-program.result.now.bound.now.sites.items refl c.index-site.result.now c.index-site.ensures c.parts-program.result.now.codes.now c.parts-program.ensures.sound.codes in
    let kernel = kernel_of b c.parts-program.ensures.sound.planned.fits (site_of c.index-site.result.now) fit
    (get_or c.parts-program.result.now.codes.now c.index-site.result.now.kernel c.index-program-site.result).kernel.now
    (c.parts-program.ensures.sound.codes.of_kernel c.index-site.result.now.kernel c.index-program-site.result
    (get_or c.parts-program.result.now.codes.now c.index-site.result.now.kernel c.index-program-site.result).kernel.now there) in
    (ap (λ ts. core_of (kernel_meaning ts c.args.constants.now
    (get_or c.parts-program.result.now.codes.now c.index-site.result.now.kernel c.index-program-site.result).kernel.now (ws ∷ [])))
    ((targeted_of c.parts-program.ensures.are c.args.item c.args.tasks.now c.args.targets.now c.requires.targeted).each i lt).places_are
    ∙ (ap (λ (s : SiteValue). core_of
    (kernel_meaning (frame_windows b s.args (task_at c.args.tasks.now i).element) c.args.constants.now
    (get_or c.parts-program.result.now.codes.now c.index-site.result.now.kernel c.index-program-site.result).kernel.now (ws ∷ []))) same
    ∙ sym (ap (λ (s : SiteValue). site_core b s (task_at c.args.tasks.now i).element c.args.constants.now ws) same
    ∙ ap (λ o. core_with b o (site_of c.index-site.result.now) (task_at c.args.tasks.now i).element c.args.constants.now ws) kernel))))

pub loop_of-number-requires : goal.loop_of-number-requires
loop_of-number-requires c = (takes_of c.parts-program.ensures.are (c.requires.takes 0 c.requires.some)).is_loop
