use Rattle.std.proofs.Common.{◌<◌, ◌≤◌, ◌*◌, ◌/◌, ◌∙◌, ℕ, Bool, length, sym, ap, arith, zero-le, ⊎_elim}
use Rattle.std.specs.Prelude.{◌==◌}
use Rattle.std.proofs.lemmas.Bool.{cases_lt}
use Rattle.step_orders.proofs.Blocks.{numbers_stay, before_block, after_block}
use Rattle.step_orders.proofs.order.fill_block.Goals as goal

pub loop-place-init : goal.loop-place-init
loop-place-init c =
    let first : ℕ = c.args.block * c.args.size in
    let p : ℕ → Bool = λ x. x / c.args.size == c.args.block in
    record {
      places = c.clear.ensures.items ∙ sym (numbers_stay p 0 first zero-le (λ x le lt. before_block c.args.size c.args.block c.requires x lt));
      count = (let none = ap length c.clear.ensures.items in omega (arith, none));
      most = omega arith;
    }

pub returns-clause-places : goal.returns-clause-places
returns-clause-places c =
    let first : ℕ = c.args.block * c.args.size in
    let p : ℕ → Bool = λ x. x / c.args.size == c.args.block in
    let past = c.min-past.ensures in
    let most = c.loop-place.invariant.most in
    let over = c.loop-place-test.false in
    c.loop-place.invariant.places
    ∙ ⊎_elim
    (λ (lt : c.loop-place.place < c.args.count).
    sym (numbers_stay p c.loop-place.place c.args.count (omega (arith, lt)) (λ x le less.
    after_block c.args.size c.args.block c.requires x (omega (arith, lt, le, past, over)))))
    (λ (few : c.args.count ≤ c.loop-place.place).
    numbers_stay p c.args.count c.loop-place.place few (λ x le less.
    before_block c.args.size c.args.block c.requires x (omega (arith, le, less, past, most))))
    (cases_lt c.loop-place.place c.args.count)

pub returns-clause-few : goal.returns-clause-few
returns-clause-few c =
    let past = c.min-past.ensures in
    let most = c.loop-place.invariant.most in
    let count = c.loop-place.invariant.count in
    omega (arith, past, most, count)
