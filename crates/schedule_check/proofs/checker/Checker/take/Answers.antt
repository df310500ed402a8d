use Rattle.bound_program.specs.Values.{bound_of}
use Rattle.loop_plan.specs.Values.{plan_of}
use Rattle.schedule_check.specs.PlanChecking.{PlanChecking, checking}
use Rattle.schedule_check.proofs.OfPlan.{takes_plan, kept_plan}
use Rattle.schedule_check.proofs.checker.Checker.take.Goals as goal

pub returns-clause-ok : goal.returns-clause-ok
returns-clause-ok c =
    let at : PlanChecking = checking (bound_of c.args.self.now.bound.now) c.args.self.now.ranks.now (plan_of c.args.self.now.plan.now) c.args.self.now.steps in
    takes_plan at c.take.new.self c.args.step c.args.self.now.of_plan c.take.result c.take.ensures.answer c.take.ensures.ok

pub returns-clause-err : goal.returns-clause-err
returns-clause-err c =
    let at : PlanChecking = checking (bound_of c.args.self.now.bound.now) c.args.self.now.ranks.now (plan_of c.args.self.now.plan.now) c.args.self.now.steps in
    kept_plan at c.take.new.self c.args.step c.args.self.now.of_plan c.take.result c.take.ensures.err
