use Rattle.std.proofs.Common.{◌≡◌, ◌<◌, ◌∙◌, ◌++◌, ◌∷◌, [], ℕ, List, Vec, length, length-set, get_or, ap}
use Rattle.std.specs.declared.alloc.Global.{Global}
use Rattle.std.proofs.lemmas.List.{get_or_default}
use Rattle.lemmas.proofs.Rows.{row_read}
use Rattle.loop_plan.specs.declared.types.Pair.{Pair}
use Rattle.schedule_check.proofs.plan_orders.PairLists.{push_pair}
use Rattle.schedule_check.proofs.plan_orders.messages.receivers.Goals as goal

pub loop-pair-preserved : goal.loop-pair-preserved
loop-pair-preserved c =
    let pairs : List Pair = c.args.pairs.now in
    let i : ℕ = c.loop-pair.pair-index in
    let none : Pair = record { from = 0; to = 0 } in
    let q : Pair = get_or pairs i none in
    let lists : List (Vec ℕ Global) = c.loop-pair.lists.items in
    let n : length lists ≡ c.args.ranks = c.loop-pair.invariant.count in
    let below : q.from < c.args.ranks = c.requires i none c.loop-pair-test.true in
    let within : q.from < length lists = rw n below in
    record {
      count = length-set lists q.from c.push.new.self ∙ n;
      lists = push_pair (λ (z : Pair). z.from) (λ (z : Pair). z.to) pairs i q lists c.push.new.self c.args.ranks
          (λ d lt. get_or_default pairs i d none lt) c.loop-pair-test.true n below
          (c.in_ok-push.ensures.items ∙ ap (λ (z : List ℕ). z ++ (q.to ∷ [])) (row_read lists q.from c.index_mut.result.now within c.index_mut.ensures.value))
          c.loop-pair.invariant.lists;
    }
