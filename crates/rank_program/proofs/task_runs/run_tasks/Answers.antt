use Rattle.std.proofs.Common.{◌≡◌, ◌+◌, ◌-◌, ◌/◌, ◌<◌, ◌≤◌, ◌%◌, [], ◌∷◌, map, length, take, sym, ap, subst, ◌∙◌, arith}
use Rattle.std.proofs.lemmas.Grind.{common_steps}
use Rattle.std.proofs.Math.Nat.{mul-mod_left}
use Rattle.kernel_model.specs.Meaning.{kernel_meaning}
use Rattle.kernel_model.specs.Independence.{Fits}
use Rattle.kernel_model.specs.Framed.{target_of, PlacesIn}
use Rattle.rank_program.specs.Jobs.{part, task_at, places_in, job_window}
use Rattle.rank_program.proofs.JobWindows.{count_windows, part_length, places_fit, ran_in}
use Rattle.rank_program.proofs.task_runs.run_tasks.Goals as goal

pub run_group-requires-clause-whole : goal.run_group-requires-clause-whole
run_group-requires-clause-whole g c κs within = ap (λ n. n % c.args.window) c.requires.whole ∙ mul-mod_left (length c.args.job.now.tasks.now) c.args.window

pub run_group-requires-clause-accepts : goal.run_group-requires-clause-accepts
run_group-requires-clause-accepts g c κs within i lt =
    c.requires.accepts i (subst (λ n. i < n) (count_windows (length c.args.staging.now) (length c.args.job.now.tasks.now) c.args.window c.requires.wide c.requires.whole) lt)

pub returns : goal.returns
returns g c i lt =
    let here : i < length c.args.staging.now / c.args.window =
    subst (λ n. i < n) (sym (count_windows (length c.args.staging.now) (length c.args.job.now.tasks.now) c.args.window c.requires.wide
    c.requires.whole)) lt in
    let at = c.requires.accepts i lt in
    let whole : length (part c.args.window i c.args.staging.now) ≡ c.args.window = part_length c.args.window i (length c.args.job.now.tasks.now) c.args.staging.now lt c.requires.whole in
    let room = at.room in
    let inside : (task_at c.args.job.now.tasks.now i).cells ≤ length (part c.args.window i c.args.staging.now) = omega (arith, whole, room) in
    let cells : length (take (task_at c.args.job.now.tasks.now i).cells (part c.args.window i c.args.staging.now)) ≡ (task_at c.args.job.now.tasks.now i).cells = grind (arith, common_steps) in
    let behind : 0 < length (part c.args.window i c.args.staging.now) - (task_at c.args.job.now.tasks.now i).cells = omega (arith, whole, room) in
    let fits : Fits (map target_of (places_in c.args.job.now.targets.now i)) (take (task_at c.args.job.now.tasks.now i).cells (part c.args.window i c.args.staging.now) ∷ []) =
    places_fit (places_in c.args.job.now.targets.now i) (take (task_at c.args.job.now.tasks.now i).cells (part c.args.window i c.args.staging.now))
    (subst (λ n. PlacesIn n (places_in c.args.job.now.targets.now i)) (sym cells) at.fits) in
    let kept = (c.shape_stays.ensures c.args.job.now.code.now.kernel.now
    (map target_of (places_in c.args.job.now.targets.now i)) c.args.job.now.constants.now
    (take (task_at c.args.job.now.tasks.now i).cells (part c.args.window i c.args.staging.now) ∷ []) fits).1 0 in
    let number : 0 + i ≡ i = omega arith in
    let left : part c.args.window i c.run_group.new.staging ≡ job_window c.args.job.now i (part c.args.window i c.args.staging.now) =
    c.run_group.ensures.each.became i here ∙ ap (λ n. job_window c.args.job.now n (part c.args.window i c.args.staging.now)) number in
    ran_in (kernel_meaning (map target_of (places_in c.args.job.now.targets.now i)) c.args.job.now.constants.now
    c.args.job.now.code.now.kernel.now (take (task_at c.args.job.now.tasks.now i).cells (part c.args.window i c.args.staging.now) ∷ []))
    (task_at c.args.job.now.tasks.now i).cells
    (length (part c.args.window i c.args.staging.now) - (task_at c.args.job.now.tasks.now i).cells)
    (part c.args.window i c.run_group.new.staging) (kept ∙ cells) behind left
