use Rattle.std.proofs.Common.{rules, ◌≡◌, ◌+◌, ◌<◌, ◌^◌, length, ◌-◌, ◌/◌, ◌++◌, sym, subst, arith}
use Rattle.par_exec.specs.Parts.{TakesEach, MadeEach}
use Rattle.par_exec.proofs.EachPart.{takes_front, takes_back, made_both}
use Rattle.par_exec.proofs.parts.+parts.Goals as goal

pub run_from-requires-clause-takes : goal.run_from-requires-clause-takes
run_from-requires-clause-takes g t c κs within =
    takes_front (g.J.PartJob.takes c.args.jobs.now) c.args.first c.split_at_mut-front.result.0.now c.split_at_mut-front.result.1.now
    (subst (TakesEach (g.J.PartJob.takes c.args.jobs.now) c.args.first) c.split_at_mut-front.ensures.value c.requires.takes)

pub run_from-requires-then-workers-eq1-clause-takes : goal.run_from-requires-then-workers-eq1-clause-takes
run_from-requires-then-workers-eq1-clause-takes g t c κs within =
    let n : length c.split_at_mut-front.result.0.now ≡ length c.args.parts.now / 2 = c.split_at_mut-front.ensures.front_len in
    subst (λ i. TakesEach (g.J.PartJob.takes c.args.jobs.now) (c.args.first + i) c.split_at_mut-front.result.1.now) n
    (takes_back (g.J.PartJob.takes c.args.jobs.now) c.args.first c.split_at_mut-front.result.0.now c.split_at_mut-front.result.1.now
    (subst (TakesEach (g.J.PartJob.takes c.args.jobs.now) c.args.first) c.split_at_mut-front.ensures.value c.requires.takes))

pub join_mut-requires-after_bounds : goal.join_mut-requires-after_bounds
join_mut-requires-after_bounds g t c κs within =
    let low : length c.args.parts.now / 2 < t = omega arith in
    let high : length c.args.parts.now - length c.args.parts.now / 2 < t = omega arith in
    let theirs : 0 < c.args.workers / 2 = omega arith in
    let ours : 0 < c.args.workers - c.args.workers / 2 = omega arith in
    let n : length c.split_at_mut-front.result.0.now ≡ length c.args.parts.now / 2 = c.split_at_mut-front.ensures.front_len in
    let m : length c.split_at_mut-front.result.1.now ≡ length c.args.parts.now - length c.args.parts.now / 2 = omega arith in
    let room : c.args.first + length c.split_at_mut-front.result.0.now < 2 ^ 64 = omega arith in
    let room_back : c.args.first + length c.args.parts.now / 2 + length c.split_at_mut-front.result.1.now < 2 ^ 64 = omega arith in
    let all : TakesEach (g.J.PartJob.takes c.args.jobs.now) c.args.first
    (c.split_at_mut-front.result.0.now ++ c.split_at_mut-front.result.1.now) =
    subst (TakesEach (g.J.PartJob.takes c.args.jobs.now) c.args.first) c.split_at_mut-front.ensures.value c.requires.takes in
    let front : TakesEach (g.J.PartJob.takes c.args.jobs.now) c.args.first c.split_at_mut-front.result.0.now =
    takes_front (g.J.PartJob.takes c.args.jobs.now) c.args.first c.split_at_mut-front.result.0.now c.split_at_mut-front.result.1.now all
    in
    let back : TakesEach (g.J.PartJob.takes c.args.jobs.now) (c.args.first + length c.args.parts.now / 2) c.split_at_mut-front.result.1.now =
    subst (λ i. TakesEach (g.J.PartJob.takes c.args.jobs.now) (c.args.first + i) c.split_at_mut-front.result.1.now) n
    (takes_back (g.J.PartJob.takes c.args.jobs.now) c.args.first c.split_at_mut-front.result.0.now c.split_at_mut-front.result.1.now all) in
    search rules

pub returns-then-workers-eq1 : goal.returns-then-workers-eq1
returns-then-workers-eq1 g t c =
    subst (λ z. MadeEach (g.J.PartJob.makes c.args.jobs.now) c.args.first z (c.run_from.new.parts ++ c.run_from-then-workers-eq1.new.parts)) (sym c.split_at_mut-front.ensures.value)
    (made_both (g.J.PartJob.makes c.args.jobs.now) c.args.first c.split_at_mut-front.result.0.now c.split_at_mut-front.result.1.now
    c.run_from.new.parts c.run_from-then-workers-eq1.new.parts c.run_from.ensures
    (subst (λ i. MadeEach (g.J.PartJob.makes c.args.jobs.now) (c.args.first + i) c.split_at_mut-front.result.1.now
    c.run_from-then-workers-eq1.new.parts) (sym c.split_at_mut-front.ensures.front_len) c.run_from-then-workers-eq1.ensures))

pub returns : goal.returns
returns g t c =
    let front : MadeEach (g.J.PartJob.makes c.args.jobs.now) c.args.first c.split_at_mut-front.result.0.now c.front-2-1.given.0 = search rules in
    let back : MadeEach (g.J.PartJob.makes c.args.jobs.now) (c.args.first + length c.args.parts.now / 2) c.split_at_mut-front.result.1.now c.back-2-1.given.0 = search rules in
    subst (λ z. MadeEach (g.J.PartJob.makes c.args.jobs.now) c.args.first z (c.front-2-1.given.0 ++ c.back-2-1.given.0)) (sym c.split_at_mut-front.ensures.value)
    (made_both (g.J.PartJob.makes c.args.jobs.now) c.args.first c.split_at_mut-front.result.0.now c.split_at_mut-front.result.1.now c.front-2-1.given.0 c.back-2-1.given.0 front
    (subst (λ i. MadeEach (g.J.PartJob.makes c.args.jobs.now) (c.args.first + i) c.split_at_mut-front.result.1.now c.back-2-1.given.0) (sym c.split_at_mut-front.ensures.front_len) back))
