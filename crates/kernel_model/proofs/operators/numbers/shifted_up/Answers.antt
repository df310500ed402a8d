use Rattle.std.proofs.Common.{◌≡◌, ◌∙◌, w32, to_z, of_z}
use Rattle.std.proofs.lemmas.Int.{to_z-of_z}
use Rattle.kernel_model.specs.Numbers.{shifted_left}
use Rattle.kernel_model.proofs.operators.Faults.{if_shift_of}
use Rattle.kernel_model.proofs.operators.numbers.shifted_up.Goals as goal

pub returns : goal.returns
unfolding shifted_left
returns c =
    let a : to_z w32 (of_z w32 c.args.a) ≡ c.args.a = to_z-of_z w32 c.args.a c.ranges.a in
    let b : to_z w32 (of_z w32 c.args.b) ≡ c.args.b = to_z-of_z w32 c.args.b c.ranges.b in
    let value = rw (a, b) at c.shl.ensures.value in
    let fault = rw b at c.shl.ensures.fault in
    c.at_place.ensures ∙ if_shift_of c.shl.result c.args.b (shifted_left c.args.a c.args.b) c.args.at value fault c.shl.ensures.only
