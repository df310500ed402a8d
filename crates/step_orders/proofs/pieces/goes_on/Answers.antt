use Rattle.std.proofs.Common.{◌≡◌, ◌<◌, ◌≤◌, ◌∙◌, ◌-◌, sym, ap, arith, get_or, false}
use Rattle.std.specs.Prelude.{◌&&◌, nat_lt}
use Rattle.std.proofs.lemmas.Bool.{lt-ltb, le-ltb}
use Rattle.step_orders.specs.Pieces.{is_alike}
use Rattle.step_orders.proofs.Cutting.{goes_on_is}
use Rattle.step_orders.proofs.pieces.goes_on.Goals as goal

pub returns-then-at-start : goal.returns-then-at-start
returns-then-at-start c =
    let lt : c.args.at - c.args.start < c.args.group = c.if-at-start.true in
    let order : c.args.start < c.args.at = omega (arith, c.requires.order, c.if-start-at.false) in
    let x = get_or c.args.places.now c.args.at 0 in
    c.is_alike.ensures
    ∙ sym (goes_on_is (is_alike c.args.size c.args.colours.now) c.args.group c.args.places.now c.args.start c.args.at x order c.requires.within
    ∙ ap (λ b. b && is_alike c.args.size c.args.colours.now (get_or c.args.places.now c.args.start 0) x) (lt-ltb (c.args.at - c.args.start) c.args.group lt))

pub returns-else-at-start : goal.returns-else-at-start
returns-else-at-start c =
    let le : c.args.group ≤ c.args.at - c.args.start = c.if-at-start.false in
    let order : c.args.start < c.args.at = omega (arith, c.requires.order, c.if-start-at.false) in
    let x = get_or c.args.places.now c.args.at 0 in
    let no : nat_lt (c.args.at - c.args.start) c.args.group ≡ false = le-ltb (c.args.at - c.args.start) c.args.group le in
    no
    ∙ sym (goes_on_is (is_alike c.args.size c.args.colours.now) c.args.group c.args.places.now c.args.start c.args.at x order c.requires.within
    ∙ ap (λ b. b && is_alike c.args.size c.args.colours.now (get_or c.args.places.now c.args.start 0) x) no)
