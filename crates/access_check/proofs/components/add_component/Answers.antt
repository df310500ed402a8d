use Rattle.std.proofs.Common.{rules}
use Rattle.access_check.specs.States.{has_component}
use Rattle.access_check.proofs.Bits.{with_bit_of}
use Rattle.access_check.proofs.components.add_component.Goals as goal

pub returns : goal.returns
unfolding has_component
returns c = λ a i. with_bit_of c.args.components.now.words c.args.arg c.args.index a i (search rules) c.requires.index
