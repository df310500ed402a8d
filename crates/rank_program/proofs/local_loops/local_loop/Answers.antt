use Rattle.std.proofs.Common.{◌≡◌, refl, ap, sym, subst, get_or, length, ◌∙◌, arith}
use Rattle.std.proofs.lemmas.List.{length-map}
use Rattle.bound_program.specs.Values.{SiteValue}
use Rattle.run_model.specs.Kernels.{constants}
use Rattle.run_model.specs.Laws as the
use Rattle.bound_plan.specs.Variables.{variable_index}
use Rattle.rank_program.specs.LocalArgs.{AreArgs}
use Rattle.schedule_steps.specs.declared.step.Step.TheVariants.{Begin}
use Rattle.rank_program.specs.Sound.{HasStep, program_in, tables_in}
use Rattle.rank_program.proofs.BegunParts.{row_there, args_stand}
use Rattle.rank_program.proofs.HereParts.{site_fits}
use Rattle.rank_program.proofs.LocalLoops.{marks_are, scalars_are, faults_are, variables_are, partials_are, stride_is, width_is, code_there, kernel_read, kernel_is, params_are, resolved_in}
use Rattle.rank_program.proofs.local_loops.local_loop.Goals as goal

pub put_local_args-requires-clause-here : goal.put_local_args-requires-clause-here
put_local_args-requires-clause-here c =
    let a = c.args.elements.now in
    let x = c.requires.step.0 in (
      x,
      args_stand c.parts-program.result.now c.parts-program.ensures.sound c.steps_stand.ensures a.item a.rank x (rw c.parts-program.ensures.are c.requires.step.1) c.site_of-site.result.now c.site_of-site.ensures
          c.deref.result.now c.deref.ensures.value c.loop_of-number.result c.loop_of-number.ensures
          (get_or c.parts-program.result.now.meshes.now a.rank c.index-program-elements.result) (ap (get_or c.parts-program.result.now.meshes.now a.rank) c.index-program-elements.is) c.windows_stand.ensures.here,
    )

pub bounds-program-site : goal.bounds-program-site
bounds-program-site c =
    code_there c.parts-program.result.now c.parts-program.ensures.sound c.steps_stand.ensures c.args.elements.now.item c.args.elements.now.rank
    c.requires.step.0 (rw c.parts-program.ensures.are c.requires.step.1) c.site_of-site.result.now c.site_of-site.ensures

pub faults_first-requires : goal.faults_first-requires
faults_first-requires c =
    let p = c.parts-program.result.now in
    row_there p c.parts-program.ensures.sound c.steps_stand.ensures c.args.elements.now.item c.args.elements.now.rank c.requires.step.0 (rw c.parts-program.ensures.are c.requires.step.1) c.loop_of-number.result
    (length p.tables.faults_first.items) c.loop_of-number.ensures c.parts-program.ensures.sound.made.fault_count

pub row_of-requires : goal.row_of-requires
row_of-requires c =
    row_there c.parts-program.result.now c.parts-program.ensures.sound c.steps_stand.ensures c.args.elements.now.item c.args.elements.now.rank c.requires.step.0 (rw c.parts-program.ensures.are c.requires.step.1) c.loop_of-number.result
    (length c.deref-2.result.now) c.loop_of-number.ensures (ap length c.deref-2.ensures.value ∙ c.parts-program.ensures.sound.made.write_count)

pub row_of-requires-2 : goal.row_of-requires-2
row_of-requires-2 c =
    row_there c.parts-program.result.now c.parts-program.ensures.sound c.steps_stand.ensures c.args.elements.now.item c.args.elements.now.rank c.requires.step.0 (rw c.parts-program.ensures.are c.requires.step.1) c.loop_of-number.result
    (length c.deref-3.result.now) c.loop_of-number.ensures (ap length c.deref-3.ensures.value ∙ c.parts-program.ensures.sound.made.scalar_count)

pub returns-clause-is : goal.returns-clause-is
returns-clause-is c =
    let p = c.parts-program.result.now in
    let k = c.args.elements.now.item in
    let r = c.args.elements.now.rank in
    let sound = c.parts-program.ensures.sound in
    let stand = c.steps_stand.ensures in
    let x = c.requires.step.0 in
    let step = subst (λ d. HasStep d (Begin k r x)) (sym c.parts-program.ensures.are) c.requires.step.1 in
    let read = c.site_of-site.result.now in
    let is = c.site_of-site.ensures in
    let code = c.index-program-site.result in
    let m = get_or p.meshes.now r c.index-program-elements.result in
    let part : m ≡ get_or p.meshes.now r m = ap (get_or p.meshes.now r) c.index-program-elements.is in
    let n = c.loop_of-number.result in
    let loop = c.loop_of-number.ensures in
    let there = code_there p sound stand k r x step read is in
    let kernel = kernel_is p sound stand k r x step read is code in
    let scalars = scalars_are p sound stand k r x step n loop c.deref-3.result.now c.deref-3.ensures.value c.row_of-2.result.now c.row_of-2.ensures in
    let windows = c.element_windows_stand.ensures in
    let long : length c.args.constants.now ≡ length (constants (program_in p)) = subst (λ d. length c.args.constants.now ≡ length (tables_in d).constants) (sym c.parts-program.ensures.are) c.requires.constants ∙ length-map (constants (program_in p)) (variable_index (program_in p)) in
    let args : c.deref.result.now ≡ (the.site_of (program_in p) k).args = c.deref.ensures.value ∙ ap (λ (s : SiteValue). s.args) is in
    record {
      sound = sound;
      part = part;
      width = width_is p sound stand k r x step m part;
      code = sound.codes.each read.kernel code there;
      slots = sound.room read.kernel code there;
      kernel = kernel;
      params = params_are p sound stand k r x step read is code;
      clean = faults_are p sound stand k r x step n loop (kernel_read p sound stand k r x step read is code) kernel c.faults_first.result c.faults_first.ensures;
      marks = marks_are p sound stand k r x step n loop c.deref-2.result.now c.deref-2.ensures.value c.row_of.result.now c.row_of.ensures;
      scalars = scalars;
      constants = rw c.parts-program.ensures.are c.requires.constants;
      resolved = resolved_in p sound stand k r x step read is code (c.constants_are_read.ensures.numbered (program_in p) sound.planned.fits.constants) (length c.args.constants.now) long;
      variables = variables_are p sound stand k r x step windows m part c.row_of-2.result.now scalars (length c.args.elements.now.variables.now) (rw c.parts-program.ensures.are c.requires.variables);
      partials = partials_are p sound stand k r x step windows m part c.row_of-2.result.now scalars;
      stride = stride_is p sound stand k r x step windows m part c.row_of-2.result.now scalars;
      few = (let few = (site_fits p sound stand k r x step).few in let same = ap length args in let count = c.put_local_args.ensures.0 in omega (arith, few, same, count));
      args = subst (λ l. AreArgs (program_in p).mesh m l c.put_local_args.new.locals) args c.put_local_args.ensures;
    }

pub returns-clause-of : goal.returns-clause-of
returns-clause-of c = record {
  program = c.parts-program.ensures.are;
  item = refl;
  rank = refl;
  places = refl;
  constants = refl;
  variables = refl;
}
