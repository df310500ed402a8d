use Rattle.std.proofs.Common.{rules, refl}
use Rattle.std.proofs.lemmas.Result.{err_from_is_err_and}
use Rattle.bound_program.specs.Values.{bound_of}
use Rattle.job_inputs.proofs.Sites.{site_fits, first_refused, obey_next, all_obey}
use Rattle.job_inputs.proofs.accesses.judge_accesses.Goals as goal

pub judge_site-requires-clause-site : goal.judge_site-requires-clause-site
judge_site-requires-clause-site c =
    site_fits (bound_of c.args.bound.now) c.args.bound.now.sites.items refl c.loop-site.site-index c.site-item.result (search rules) (search rules) c.requires

pub returns-in_err-judge_site-clause-err : goal.returns-in_err-judge_site-clause-err
returns-in_err-judge_site-clause-err c =
    let p = err_from_is_err_and c.from_residual.result c.from_residual.ensures.1 in
    rw (p.1, p.2) (first_refused (bound_of c.args.bound.now) c.args.bound.now.sites.items refl c.loop-site.site-index c.site-item.result
    (search rules) (search rules) c.in_err-judge_site.field-0.0 c.loop-site.invariant.1 c.in_err-judge_site.ensures.err)

pub loop-site-preserved : goal.loop-site-preserved
loop-site-preserved c = (
  search rules,
  obey_next (bound_of c.args.bound.now) c.args.bound.now.sites.items c.loop-site.site-index c.site-item.result
      (search rules) (search rules) c.loop-site.invariant.1 c.in_ok-judge_site.ensures.ok,
)

pub returns-clause-ok : goal.returns-clause-ok
returns-clause-ok c = all_obey (bound_of c.args.bound.now) c.args.bound.now.sites.items c.loop-site.site-index (search rules) c.loop-site.invariant.1

pub judge_site-requires-clause-known : goal.judge_site-requires-clause-known
judge_site-requires-clause-known c = c.loop-site.invariant.0
