use Rattle.std.proofs.Common.{◌≡◌, ◌≤◌, ◌+◌, ◌-◌, suc, Option, Some, None, ap, subst, ◌∙◌, arith}
use Rattle.mesh_decl.specs.Mesh.{set_size}
use Rattle.schedule_model.specs.Program.{elements}
use Rattle.schedule_model.specs.Sequential.{loop, after_run}
use Rattle.bound_program.specs.Fits.{site_at}
use Rattle.run_model.specs.Programs.{program_of}
use Rattle.rank_state.specs.declared.rank_memory.stop.Stop.{Stop}
use Rattle.deep_halo.specs.Programs.{program_of_run, owners_of_run}
use Rattle.deep_halo.specs.Orders.{LoopEnds}
use Rattle.deep_halo.proofs.Ordering.{goes_on, stays_broken}
use Rattle.deep_halo.proofs.orders.run_ordered.Goals as goal

pub returns-in-Some-clause-ends : goal.returns-in-Some-clause-ends
returns-in-Some-clause-ends c s stand =
    let b = program_of_run c.args.program.now in
    let o = owners_of_run c.args.program.now in
    let p = program_of b in
    let k = c.args.item in
    let e = c.loop-element.element in
    let size : c.set_size-element-end.result ≡ elements p k = c.set_size-element-end.ensures ∙ ap (set_size b.mesh) (c.requires.of.set ∙ ap (λ n. (site_at b n).set) c.requires.site) in
    let lt : suc e ≤ elements p k = omega (arith, size, c.loop-element-test.true) in
    let now : LoopEnds b o k c.run_owned.new.memory (Some c.in-Some.stop) (loop p k (suc e) s) =
    goes_on b o p k e c.loop-element.memory c.run_owned.new.memory (Some c.in-Some.stop) (loop p k e s) (c.loop-element.invariant.0 s stand)
    (λ t there. subst (λ (x : Option Stop). LoopEnds b o k c.run_owned.new.memory x (after_run e t (p.run k e t))) c.in-Some.is (c.run_owned.ensures.ends t there)) in
    subst (λ n. LoopEnds b o k c.run_owned.new.memory (Some c.in-Some.stop) (loop p k n s)) (let q : suc e + (elements p k - suc e) ≡ elements p k = omega (arith, lt) in q)
    (stays_broken b o p k c.run_owned.new.memory c.in-Some.stop s (suc e) (elements p k - suc e) now)

pub returns-in-Some-clause-others : goal.returns-in-Some-clause-others
returns-in-Some-clause-others c = λ r d lr h ne. c.run_owned.ensures.others r d lr h ne ∙ c.loop-element.invariant.1 r d lr h ne

pub loop-element-preserved : goal.loop-element-preserved
loop-element-preserved c =
    let b = program_of_run c.args.program.now in
    let o = owners_of_run c.args.program.now in
    let p = program_of b in
    let k = c.args.item in
    let e = c.loop-element.element in (
      (λ s stand. subst (λ n. LoopEnds b o k c.run_owned.new.memory None (loop p k n s)) (let q : suc e ≡ e + 1 = omega arith in q)
          (goes_on b o p k e c.loop-element.memory c.run_owned.new.memory None (loop p k e s) (c.loop-element.invariant.0 s stand)
          (λ t there. subst (λ (x : Option Stop). LoopEnds b o k c.run_owned.new.memory x (after_run e t (p.run k e t))) c.in_default.is (c.run_owned.ensures.ends t there)))),
      (λ r d lr h ne. c.run_owned.ensures.others r d lr h ne ∙ c.loop-element.invariant.1 r d lr h ne),
    )

pub returns-clause-ends : goal.returns-clause-ends
returns-clause-ends c s stand =
    let b = program_of_run c.args.program.now in
    let o = owners_of_run c.args.program.now in
    let p = program_of b in
    let k = c.args.item in
    let size : c.set_size-element-end.result ≡ elements p k = c.set_size-element-end.ensures ∙ ap (set_size b.mesh) (c.requires.of.set ∙ ap (λ n. (site_at b n).set) c.requires.site) in
    let last : c.loop-element.element ≡ elements p k = omega (arith, size, c.loop-element-test.false, c.loop-element.auto.element-end) in
    subst (λ n. LoopEnds b o k c.loop-element.memory None (loop p k n s)) last (c.loop-element.invariant.0 s stand)
