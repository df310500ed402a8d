use denote.Param.Send.{sendable, param_send}
use Rattle.std.proofs.Crossing.{crosses}
use Rattle.rank_machine.proofs.Sharing.{round_sync, part_send}
use Rattle.rank_machine.proofs.ranks.+ranks.Lts-run_from as lts
use Rattle.std.proofs.Common.{rules, ◌≡◌, ◌+◌, ◌<◌, ◌^◌, length, ◌-◌, ◌/◌, ◌++◌, sym, subst, arith}
use Rattle.par_exec.specs.Parts.{TakesEach, MadeEach}
use Rattle.rank_machine.specs.OnRanks.{CanRunOn, RanOn}
use Rattle.par_exec.proofs.Public.{takes_front, takes_back, made_both}
use Rattle.rank_machine.proofs.ranks.+ranks.Goals as goal

pub run_from-requires-clause-can : goal.run_from-requires-clause-can
run_from-requires-clause-can g t c κs within =
    takes_front (CanRunOn c.args.round.now.program.now c.args.round.now.item c.args.round.now.variables.now c.args.round.now.lists.now) c.args.first c.split_at_mut-front.result.0.now c.split_at_mut-front.result.1.now
    (subst (TakesEach (CanRunOn c.args.round.now.program.now c.args.round.now.item c.args.round.now.variables.now c.args.round.now.lists.now) c.args.first) c.split_at_mut-front.ensures.value c.requires.can)

pub run_from-requires-then-workers-eq1-clause-can : goal.run_from-requires-then-workers-eq1-clause-can
run_from-requires-then-workers-eq1-clause-can g t c κs within =
    let n : length c.split_at_mut-front.result.0.now ≡ length c.args.parts.now / 2 = c.split_at_mut-front.ensures.front_len in
    subst (λ i. TakesEach (CanRunOn c.args.round.now.program.now c.args.round.now.item c.args.round.now.variables.now c.args.round.now.lists.now) (c.args.first + i) c.split_at_mut-front.result.1.now) n
    (takes_back (CanRunOn c.args.round.now.program.now c.args.round.now.item c.args.round.now.variables.now c.args.round.now.lists.now) c.args.first c.split_at_mut-front.result.0.now c.split_at_mut-front.result.1.now
    (subst (TakesEach (CanRunOn c.args.round.now.program.now c.args.round.now.item c.args.round.now.variables.now c.args.round.now.lists.now) c.args.first) c.split_at_mut-front.ensures.value c.requires.can))

pub join_mut-requires-after_bounds : goal.join_mut-requires-after_bounds
join_mut-requires-after_bounds g t c κs within =
    let low : length c.args.parts.now / 2 < t = omega arith in
    let high : length c.args.parts.now - length c.args.parts.now / 2 < t = omega arith in
    let theirs : 0 < c.args.workers / 2 = omega arith in
    let ours : 0 < c.args.workers - c.args.workers / 2 = omega arith in
    let n : length c.split_at_mut-front.result.0.now ≡ length c.args.parts.now / 2 = c.split_at_mut-front.ensures.front_len in
    let m : length c.split_at_mut-front.result.1.now ≡ length c.args.parts.now - length c.args.parts.now / 2 = omega arith in
    let room : c.args.first + length c.split_at_mut-front.result.0.now < 2 ^ 64 = omega arith in
    let room_back : c.args.first + length c.args.parts.now / 2 + length c.split_at_mut-front.result.1.now < 2 ^ 64 = omega arith in
    let all : TakesEach (CanRunOn c.args.round.now.program.now c.args.round.now.item c.args.round.now.variables.now c.args.round.now.lists.now) c.args.first
    (c.split_at_mut-front.result.0.now ++ c.split_at_mut-front.result.1.now) =
    subst (TakesEach (CanRunOn c.args.round.now.program.now c.args.round.now.item c.args.round.now.variables.now c.args.round.now.lists.now) c.args.first) c.split_at_mut-front.ensures.value c.requires.can in
    let front : TakesEach (CanRunOn c.args.round.now.program.now c.args.round.now.item c.args.round.now.variables.now c.args.round.now.lists.now) c.args.first c.split_at_mut-front.result.0.now =
    takes_front (CanRunOn c.args.round.now.program.now c.args.round.now.item c.args.round.now.variables.now c.args.round.now.lists.now) c.args.first c.split_at_mut-front.result.0.now c.split_at_mut-front.result.1.now all
    in
    let back : TakesEach (CanRunOn c.args.round.now.program.now c.args.round.now.item c.args.round.now.variables.now c.args.round.now.lists.now) (c.args.first + length c.args.parts.now / 2) c.split_at_mut-front.result.1.now =
    subst (λ i. TakesEach (CanRunOn c.args.round.now.program.now c.args.round.now.item c.args.round.now.variables.now c.args.round.now.lists.now) (c.args.first + i) c.split_at_mut-front.result.1.now) n
    (takes_back (CanRunOn c.args.round.now.program.now c.args.round.now.item c.args.round.now.variables.now c.args.round.now.lists.now) c.args.first c.split_at_mut-front.result.0.now c.split_at_mut-front.result.1.now all) in
    search rules

pub join_mut-requires-send-F : goal.join_mut-requires-send-F
join_mut-requires-send-F g t c κs within = param_send 1 (lts.arg-3-1 g.row.R g.row.G g.R.laws g.G.laws g.R.Threads-dict g.G.Gate-dict κs)
    (search (round_sync, part_send, crosses, sendable) depth 60 fits 20000)

pub returns-then-workers-eq1 : goal.returns-then-workers-eq1
returns-then-workers-eq1 g t c =
    subst (λ z. MadeEach (RanOn c.args.round.now.program.now c.args.round.now.item c.args.round.now.variables.now c.args.round.now.lists.now) c.args.first z (c.run_from.new.parts ++ c.run_from-then-workers-eq1.new.parts)) (sym c.split_at_mut-front.ensures.value)
    (made_both (RanOn c.args.round.now.program.now c.args.round.now.item c.args.round.now.variables.now c.args.round.now.lists.now) c.args.first c.split_at_mut-front.result.0.now c.split_at_mut-front.result.1.now
    c.run_from.new.parts c.run_from-then-workers-eq1.new.parts c.run_from.ensures
    (subst (λ i. MadeEach (RanOn c.args.round.now.program.now c.args.round.now.item c.args.round.now.variables.now c.args.round.now.lists.now) (c.args.first + i) c.split_at_mut-front.result.1.now
    c.run_from-then-workers-eq1.new.parts) (sym c.split_at_mut-front.ensures.front_len) c.run_from-then-workers-eq1.ensures))

pub returns : goal.returns
returns g t c =
    let front : MadeEach (RanOn c.args.round.now.program.now c.args.round.now.item c.args.round.now.variables.now c.args.round.now.lists.now) c.args.first c.split_at_mut-front.result.0.now c.front-2-1.given.0 = search rules in
    let back : MadeEach (RanOn c.args.round.now.program.now c.args.round.now.item c.args.round.now.variables.now c.args.round.now.lists.now) (c.args.first + length c.args.parts.now / 2) c.split_at_mut-front.result.1.now c.back-2-1.given.0 = search rules in
    subst (λ z. MadeEach (RanOn c.args.round.now.program.now c.args.round.now.item c.args.round.now.variables.now c.args.round.now.lists.now) c.args.first z (c.front-2-1.given.0 ++ c.back-2-1.given.0)) (sym c.split_at_mut-front.ensures.value)
    (made_both (RanOn c.args.round.now.program.now c.args.round.now.item c.args.round.now.variables.now c.args.round.now.lists.now) c.args.first c.split_at_mut-front.result.0.now c.split_at_mut-front.result.1.now c.front-2-1.given.0 c.back-2-1.given.0 front
    (subst (λ i. MadeEach (RanOn c.args.round.now.program.now c.args.round.now.item c.args.round.now.variables.now c.args.round.now.lists.now) (c.args.first + i) c.split_at_mut-front.result.1.now c.back-2-1.given.0) (sym c.split_at_mut-front.ensures.front_len) back))
