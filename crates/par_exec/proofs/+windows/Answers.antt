use Rattle.std.proofs.Common.{rules, ◌≡◌, ℕ, ◌+◌, ◌*◌, ◌-◌, ◌/◌, ◌<◌, ◌≤◌, ◌^◌, length, arith, ◌∙◌, sym}
use Rattle.par_exec.specs.Windows.{EachWindow}
use Rattle.par_exec.proofs.Halves.{rest_cells, each-halves}
use Rattle.par_exec.proofs.+windows.Goals as goal

pub run_windows-requires-then-workers-eq1-clause-whole : goal.run_windows-requires-then-workers-eq1-clause-whole
run_windows-requires-then-workers-eq1-clause-whole g t c κs within =
    let e : length c.split_at_mut-front.result.1.now ≡ length c.args.staging.now - c.args.count / 2 * c.args.work.now.stride = omega arith in
    e ∙ rest_cells c.args.count (c.args.count / 2) c.args.work.now.stride (length c.args.staging.now) (omega arith) c.requires.whole

pub join_mut-requires-after_bounds : goal.join_mut-requires-after_bounds
join_mut-requires-after_bounds g t c κs within =
    let e : length c.split_at_mut-front.result.1.now ≡ length c.args.staging.now - c.args.count / 2 * c.args.work.now.stride = omega arith in
    let whole : length c.split_at_mut-front.result.1.now ≡ (c.args.count - c.args.count / 2) * c.args.work.now.stride = e
    ∙ rest_cells c.args.count (c.args.count / 2) c.args.work.now.stride (length c.args.staging.now) (omega arith) c.requires.whole in
    let low : c.args.count / 2 < t = omega arith in
    let high : c.args.count - c.args.count / 2 < t = omega arith in
    let theirs : 0 < c.args.workers / 2 = omega arith in
    let ours : 0 < c.args.workers - c.args.workers / 2 = omega arith in
    let room : c.args.first + c.args.count / 2 < 2 ^ 64 = omega arith in
    let room_back : c.args.first + c.args.count / 2 + (c.args.count - c.args.count / 2) < 2 ^ 64 = omega arith in
    let front : (i : ℕ) → c.args.first ≤ i → i < c.args.first + c.args.count / 2 → g.J.Job.accepts c.args.work.now.jobs.now i c.args.work.now.stride = λ i p q. c.requires.accepts i p (omega arith) in
    let back : (i : ℕ) → c.args.first + c.args.count / 2 ≤ i → i < c.args.first + c.args.count / 2 + (c.args.count - c.args.count / 2)
    → g.J.Job.accepts c.args.work.now.jobs.now i c.args.work.now.stride = λ i p q. c.requires.accepts i (omega arith) (omega arith) in
    search rules

pub returns-then-workers-eq1 : goal.returns-then-workers-eq1
returns-then-workers-eq1 g t c =
    each-halves (g.J.Job.new_window c.args.work.now.jobs.now) c.args.work.now.stride c.args.first c.args.count (c.args.count / 2)
    c.split_at_mut-front.result.0.now c.split_at_mut-front.result.1.now c.run_windows.new.staging
    c.run_windows-then-workers-eq1.new.staging c.args.staging.now (omega arith) c.split_at_mut-front.ensures.front_len (search rules)
    (sym c.split_at_mut-front.ensures.value) c.run_windows.ensures c.run_windows-then-workers-eq1.ensures

pub returns : goal.returns
returns g t c =
    let front : EachWindow (g.J.Job.new_window c.args.work.now.jobs.now) c.args.work.now.stride c.args.first (c.args.count / 2) c.split_at_mut-front.result.0.now c.front-2-1.given.0 = search rules in
    let back : EachWindow (g.J.Job.new_window c.args.work.now.jobs.now) c.args.work.now.stride (c.args.first + c.args.count / 2)
    (c.args.count - c.args.count / 2) c.split_at_mut-front.result.1.now c.back-2-1.given.0 = search rules in
    each-halves (g.J.Job.new_window c.args.work.now.jobs.now) c.args.work.now.stride c.args.first c.args.count (c.args.count / 2)
    c.split_at_mut-front.result.0.now c.split_at_mut-front.result.1.now c.front-2-1.given.0 c.back-2-1.given.0 c.args.staging.now
    (omega arith) c.split_at_mut-front.ensures.front_len (search rules) (sym c.split_at_mut-front.ensures.value) front back
