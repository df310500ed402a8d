use Rattle.std.proofs.Common.{◌≡◌, ◌+◌, ◌*◌, ◌≤◌, ◌++◌, length, take, drop, sym, subst, arith}
use Rattle.std.proofs.lemmas.Grind.{common_steps}
use Rattle.rank_program.specs.Jobs.{RanIn, job_core, part, task_at}
use Rattle.rank_exec.proofs.Tasking.{part_ends, part_of_front, part_of_longer}
use Rattle.rank_exec.proofs.group.run_in_front.Goals as goal

pub returns : goal.returns
returns g c i lt =
    let window = c.args.window in
    let cells = (task_at c.args.job.now.tasks.now i).cells in
    let whole = length c.args.job.now.tasks.now * c.args.window in
    let after = c.run_tasks.new.staging in
    let ends : i * c.args.window + c.args.window ≤ length c.args.job.now.tasks.now * c.args.window = part_ends c.args.window i (length c.args.job.now.tasks.now) lt in
    let kept : length c.run_tasks.new.staging ≡ length c.args.job.now.tasks.now * c.args.window = grind (arith, common_steps) in
    subst (λ w. RanIn (job_core c.args.job.now i (take cells w)) cells (part window i (after ++ drop whole c.args.staging.now))) (part_of_front window i whole c.args.staging.now ends)
    (subst (RanIn (job_core c.args.job.now i (take cells (part window i (take whole c.args.staging.now)))) cells)
    (sym (part_of_longer window i after (drop whole c.args.staging.now) (omega (arith, ends, kept))))
    (c.run_tasks.ensures i lt))
