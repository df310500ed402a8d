use Rattle.std.proofs.Common.{◌≡◌, ◌∙◌, w32, to_z, of_z}
use Rattle.std.proofs.lemmas.Int.{to_z-of_z}
use Rattle.kernel_model.specs.Numbers.{quotient}
use Rattle.kernel_model.proofs.operators.Faults.{unless_zero_of}
use Rattle.kernel_model.proofs.operators.numbers.divided.Goals as goal

pub returns : goal.returns
unfolding quotient
returns c =
    let a : to_z w32 (of_z w32 c.args.a) ≡ c.args.a = to_z-of_z w32 c.args.a c.ranges.a in
    let b : to_z w32 (of_z w32 c.args.b) ≡ c.args.b = to_z-of_z w32 c.args.b c.ranges.b in
    let value = rw (a, b) at c.div.ensures.value in
    let fault = rw b at c.div.ensures.fault in
    c.at_place.ensures ∙ unless_zero_of c.div.result c.args.b (quotient c.args.a c.args.b) c.args.at value fault c.div.ensures.only
