use Rattle.std.proofs.Common.{◌≡◌, ◌<◌, ◌∙◌, ℕ, true, get_or, sym, ap, subst, arith}
use Rattle.std.specs.List.{All}
use Rattle.schedule_steps.specs.Drawn.{numbers}
use Rattle.step_orders.specs.Order.{by_key}
use Rattle.step_orders.proofs.order.blocks_in_order.Goals as goal

pub returns : goal.returns
returns c = λ n all.
    let key = λ (b : ℕ). get_or c.args.block_colours.now b 0 in
    let over = c.loop-block-test.false in
    let most = c.loop-block.auto.block-end in
    let all_of : c.loop-block.block ≡ c.args.count = omega (arith, over, most) in
    let is : c.loop-block.blocks.items ≡ numbers (λ b. true) c.args.count = c.loop-block.invariant ∙ ap (numbers (λ b. true)) all_of in
    c.in_ok-sort_by_keys.ensures n (subst (λ xs. All (λ b. key b < n) xs) (sym is) all) ∙ ap (by_key key n) is
