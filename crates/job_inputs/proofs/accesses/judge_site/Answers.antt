use Rattle.std.proofs.Common.{rules, List, map, subst}
use Rattle.kernel_model.specs.Obeys.{KernelObeys}
use Rattle.access_check.specs.declared.modes.Mode as code
use Rattle.access_check.specs.Modes.{model_of}
use Rattle.bound_program.specs.Values.{bound_of, site_of}
use Rattle.job_inputs.proofs.Sites.{kernel_there, resolved, takes, small, obeys, refuses, known, noted}
use Rattle.job_inputs.proofs.accesses.judge_site.Goals as goal

pub index-requires : goal.index-requires
index-requires c = let l = kernel_there c.args.bound.now.kernels.items c.args.site.now.kernel _ c.requires.site.kernel in search (rules, l)

pub check-requires-clause-resolved : goal.check-requires-clause-resolved
check-requires-clause-resolved c =
    resolved (bound_of c.args.bound.now) (site_of c.args.site.now) c.requires.site c.index.result.now (search rules) c.requires.fits

pub check-requires-clause-params : goal.check-requires-clause-params
check-requires-clause-params c =
    takes (bound_of c.args.bound.now) (site_of c.args.site.now) c.requires.site c.index.result.now (search rules) c.deref-2.result.now (search rules)

pub check-requires-clause-modes : goal.check-requires-clause-modes
check-requires-clause-modes c = small (bound_of c.args.bound.now) (site_of c.args.site.now) c.deref-2.result.now c.requires.site (search rules)

pub returns-in-Ok-clause-ok : goal.returns-in-Ok-clause-ok
returns-in-Ok-clause-ok c =
    obeys (bound_of c.args.bound.now) (site_of c.args.site.now) c.requires.site c.index.result.now (search rules) c.deref-2.result.now (search rules) c.in-Ok.ensures.accepted

pub returns-clause-err : goal.returns-clause-err
returns-clause-err c =
    refuses (bound_of c.args.bound.now) (site_of c.args.site.now) c.requires.site c.index.result.now (search rules) c.deref-2.result.now
    c.disobeyed.result (search rules) (c.disobeyed.ensures c.index.result.now _ c.in-Err.ensures.refused)

pub returns-then-are_known-clause-ok : goal.returns-then-are_known-clause-ok
returns-then-are_known-clause-ok c =
    known (bound_of c.args.bound.now) (site_of c.args.site.now) c.args.known.now.keys c.deref.result.now c.requires.site (search rules) c.requires.known (c.are_known.ensures (search rules))

pub returns-in-Ok-clause-known : goal.returns-in-Ok-clause-known
returns-in-Ok-clause-known c =
    noted (bound_of c.args.bound.now) (site_of c.args.site.now) c.requires.site c.index.result.now (search rules) c.deref-in-Ok.result.now
    c.args.known.now.keys c.note_uses.new.known.keys (search rules) c.requires.known c.in_ok-note_uses-in-Ok.ensures
    (subst (λ (l : List code.Mode). KernelObeys c.index.result.now (map model_of l)) (search rules) c.in-Ok.ensures.accepted)
