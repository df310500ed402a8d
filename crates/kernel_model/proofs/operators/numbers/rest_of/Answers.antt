use Rattle.std.proofs.Common.{◌≡◌, ◌∙◌, w32, to_z, of_z}
use Rattle.std.proofs.lemmas.Int.{to_z-of_z}
use Rattle.kernel_model.specs.Numbers.{rest}
use Rattle.kernel_model.proofs.operators.Faults.{unless_zero_of}
use Rattle.kernel_model.proofs.operators.numbers.rest_of.Goals as goal

pub returns : goal.returns
unfolding rest
returns c =
    let a : to_z w32 (of_z w32 c.args.a) ≡ c.args.a = to_z-of_z w32 c.args.a c.ranges.a in
    let b : to_z w32 (of_z w32 c.args.b) ≡ c.args.b = to_z-of_z w32 c.args.b c.ranges.b in
    let value = rw (a, b) at c.rem.ensures.value in
    let fault = rw b at c.rem.ensures.fault in
    c.at_place.ensures ∙ unless_zero_of c.rem.result c.args.b (rest c.args.a c.args.b) c.args.at value fault c.rem.ensures.only
