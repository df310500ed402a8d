use Rattle.bound_program.specs.Values.{bound_of}
use Rattle.loop_plan.specs.Values.{entries_of}
use Rattle.loop_plan.specs.SitePlans.{AreSitePlans}
use Rattle.plan_cert.specs.Awaited.{awaited_sites}
use Rattle.plan_cert.specs.Certified.{colours_in}
use Rattle.plan_cert.specs.Judged.{FitsAmong}
use Rattle.plan_cert.proofs.sites.take_sites.Given as goal

abbrev pub invariant-loop-site : goal.invariant-loop-site
invariant-loop-site l = record {
  judged : FitsAmong (bound_of l.bound) l.ranks l.size (awaited_sites (bound_of l.bound) l.ranks l.site) l.fn.lines l.lines (colours_in (entries_of l.plans));
  plans : AreSitePlans (bound_of l.bound) l.ranks l.size l.site (entries_of l.plans);
}
