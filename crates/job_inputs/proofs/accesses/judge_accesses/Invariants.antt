use Rattle.std.proofs.Common.{All, map, take}
use Rattle.bound_program.specs.Values.{bound_of, site_of}
use Rattle.answers.specs.Judgements.{SiteObeys}
use Rattle.job_inputs.specs.Known.{AreObeyed}
use Rattle.job_inputs.proofs.accesses.judge_accesses.Given as goal

abbrev pub invariant-loop-site : goal.invariant-loop-site
invariant-loop-site l =
    AreObeyed (bound_of l.bound).kernels l.known.keys
    × All (SiteObeys (bound_of l.bound)) (map site_of (take l.site-index l.bound.sites.items))
