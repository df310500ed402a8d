use Rattle.std.proofs.Common.{Vec, Global, ℤ, ◌≡◌, ◌+◌, ◌<◌, ◌≤◌, suc, Some, sym, ap, subst, ◌∙◌, arith, length}
use Rattle.kernel_model.specs.declared.types.faults.KernelFault.{KernelFault}
use Rattle.schedule_steps.specs.declared.step.Step.TheVariants.{Join}
use Rattle.schedule_model.specs.Program.{elements}
use Rattle.schedule_model.specs.Layout.{Faults}
use Rattle.schedule_model.specs.Flat.{Flat, flat_step, loop_flat}
use Rattle.rank_state.specs.Machine.{State}
use Rattle.rank_state.specs.Shows.{Shows}
use Rattle.rank_state.specs.Ordered.{run_of}
use Rattle.rank_exec.proofs.Kernels.{no_fault, a_fault}
use Rattle.rank_program.specs.Sound.{setup_in, layout_in, tables_in}
use Rattle.run_model.specs.Programs.{loop_of}
use Rattle.rank_program.specs.Constants.{ConstantsStay}
use Rattle.rank_exec.proofs.joins.run_ordered.Goals as goal

pub returns-in-Some-clause-after : goal.returns-in-Some-clause-after
returns-in-Some-clause-after c f h =
    let fault : run_of (layout_in c.args.program.now) (tables_in c.args.program.now) c.args.item c.loop-element.element
    c.run_one.ensures.ran.spans c.run_one.ensures.ran.indices c.loop-element.machine ≡ Faults c.in-Some.fault =
    a_fault (run_of (layout_in c.args.program.now) (tables_in c.args.program.now) c.args.item c.loop-element.element
    c.run_one.ensures.ran.spans c.run_one.ensures.ran.indices c.loop-element.machine) c.in-Some.fault
    (sym c.run_one.ensures.ran.fault_is ∙ c.in-Some.is) in
    let shows = c.loop-element.invariant.reached f h in
    let stopped = c.loop_shows.ensures.breaks (setup_in c.args.program.now) (layout_in c.args.program.now) (tables_in c.args.program.now)
    c.is_sound.ensures.indexed c.is_sound.ensures.layout c.args.item f c.loop-element.element c.loop-element.machine shows
    c.run_one.ensures.ran.spans c.run_one.ensures.ran.indices c.run_one.ensures.ran.are c.in-Some.fault fault in
    let last : suc c.loop-element.element ≤ elements (setup_in c.args.program.now).program c.args.item = (let e = c.elements_of-element-end.ensures in omega (arith, c.loop-element-test.true)) in
    let whole : flat_step (setup_in c.args.program.now) (layout_in c.args.program.now) (Join c.args.item) f ≡ record
    (loop_flat (setup_in c.args.program.now) (layout_in c.args.program.now) c.args.item c.loop-element.element f)
    { stop = Some (record { item = c.args.item; element = Some c.loop-element.element; fault = c.in-Some.fault }) } =
    c.loop_shows.ensures.join (setup_in c.args.program.now) (layout_in c.args.program.now) (tables_in c.args.program.now) c.args.machine.now f h c.args.item c.requires.going c.requires.kind
    ∙ (c.loop_shows.ensures.ended (setup_in c.args.program.now) (layout_in c.args.program.now) c.args.item f (suc c.loop-element.element)
    (elements (setup_in c.args.program.now).program c.args.item) last
    (record { item = c.args.item; element = Some c.loop-element.element; fault = c.in-Some.fault })
    (ap (λ (z : Flat KernelFault). z.stop) stopped) ∙ stopped) in
    (ap (λ (z : Flat KernelFault). z.stop) whole, ap (λ (z : Flat KernelFault). z.output) whole ∙ (sym shows.output ∙ sym (ap (λ (s : State KernelFault). s.output) c.run_one.ensures.ran.state_is)))

pub loop-element-preserved : goal.loop-element-preserved
loop-element-preserved c =
    let left = no_fault (run_of (layout_in c.args.program.now) (tables_in c.args.program.now) c.args.item c.loop-element.element
    c.run_one.ensures.ran.spans c.run_one.ensures.ran.indices c.loop-element.machine)
    (sym c.run_one.ensures.ran.fault_is ∙ c.in_default.is) in
    let in_loop : c.loop-element.element < elements (setup_in c.args.program.now).program c.args.item = (let e = c.elements_of-element-end.ensures in omega (arith, c.loop-element-test.true)) in
    let next : suc c.loop-element.element ≡ c.loop-element.element + 1 = omega arith in
    record {
      reached = λ f h.
          subst (λ i. Shows (setup_in c.args.program.now) (layout_in c.args.program.now) (tables_in c.args.program.now)
          c.run_one.new.machine (loop_flat (setup_in c.args.program.now) (layout_in c.args.program.now) c.args.item i f)) next
          (subst (λ (s : State KernelFault). Shows (setup_in c.args.program.now) (layout_in c.args.program.now)
          (tables_in c.args.program.now) s
          (loop_flat (setup_in c.args.program.now) (layout_in c.args.program.now) c.args.item (suc c.loop-element.element) f))
          (sym c.run_one.ensures.ran.state_is)
          (c.loop_shows.ensures.goes (setup_in c.args.program.now) (layout_in c.args.program.now) (tables_in c.args.program.now)
          c.is_sound.ensures.indexed c.is_sound.ensures.layout c.args.item f c.loop-element.element c.loop-element.machine
          (c.loop-element.invariant.reached f h) c.requires.kind in_loop c.run_one.ensures.ran.spans c.run_one.ensures.ran.indices
          c.run_one.ensures.ran.are left.0 left.1));
      space = record {
        spans_fit = c.run_one.ensures.space.spans_fit;
        owned_fit = c.run_one.ensures.space.owned_fit;
        kernels_fit = c.run_one.ensures.space.kernels_fit;
        constants_fit = c.read_again.ensures.count;
      };
      values = c.read_again.ensures.values;
      mail = ap (λ (s : State KernelFault). s.mail.left) c.run_one.ensures.ran.state_is ∙ c.loop-element.invariant.mail;
      frames = ap (λ (s : State KernelFault). s.frames.left) c.run_one.ensures.ran.state_is ∙ c.loop-element.invariant.frames;
    }

pub returns-clause-after : goal.returns-clause-after
returns-clause-after c f h =
    let done : c.loop-element.element ≡ elements (setup_in c.args.program.now).program c.args.item =
    (let e = c.elements_of-element-end.ensures in omega (arith, c.loop-element-test.false, c.loop-element.auto.element-end)) in
    subst (Shows (setup_in c.args.program.now) (layout_in c.args.program.now) (tables_in c.args.program.now) c.loop-element.machine)
    (ap (λ i. loop_flat (setup_in c.args.program.now) (layout_in c.args.program.now) c.args.item i f) done
    ∙ sym (c.loop_shows.ensures.join (setup_in c.args.program.now) (layout_in c.args.program.now) (tables_in c.args.program.now)
    c.args.machine.now f h c.args.item c.requires.going c.requires.kind))
    (c.loop-element.invariant.reached f h)

pub read_again-requires-clause-kept : goal.read_again-requires-clause-kept
read_again-requires-clause-kept c stay =
    ap (λ (v : Vec ℤ Global). v.items) c.run_one.ensures.constants
    ∙ c.loop-element.invariant.values
    ∙ sym (c.run_one.ensures.stay (subst (ConstantsStay c.args.program.now) (sym (ap loop_of c.requires.site)) (c.constants_stay-stay.ensures stay)))

pub read_again-requires-clause-shows : goal.read_again-requires-clause-shows
read_again-requires-clause-shows c =
    let p = setup_in c.args.program.now in
    let l = layout_in c.args.program.now in
    let t = tables_in c.args.program.now in
    let f = c.requires.shows.0 in
    let left = no_fault (run_of l t c.args.item c.loop-element.element c.run_one.ensures.ran.spans c.run_one.ensures.ran.indices c.loop-element.machine)
    (sym c.run_one.ensures.ran.fault_is ∙ c.in_default.is) in
    let in_loop : c.loop-element.element < elements p.program c.args.item = (let e = c.elements_of-element-end.ensures in omega (arith, c.loop-element-test.true)) in (
      loop_flat p l c.args.item (suc c.loop-element.element) f,
      subst (λ (s : State KernelFault). Shows p l t s (loop_flat p l c.args.item (suc c.loop-element.element) f)) (sym c.run_one.ensures.ran.state_is)
          (c.loop_shows.ensures.goes p l t c.is_sound.ensures.indexed c.is_sound.ensures.layout c.args.item f c.loop-element.element c.loop-element.machine
          (c.loop-element.invariant.reached f c.requires.shows.1) c.requires.kind in_loop c.run_one.ensures.ran.spans c.run_one.ensures.ran.indices
          c.run_one.ensures.ran.are left.0 left.1),
    )
