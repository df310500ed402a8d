use Rattle.std.proofs.Common.{arith}
use Rattle.std.specs.HashMap.{get}
use Rattle.colouring.specs.Masks.{same_word}
use Rattle.colouring.proofs.Words.{given_first}
use Rattle.colouring.proofs.masks.Masks.give_first.Goals as goal

pub returns-clause-given : goal.returns-clause-given
returns-clause-given c = given_first c.args.self.now.first.items (get same_word c.args.self.now.later) c.args.target 0
    c.args.bit c.index_mut.result.now (omega arith) c.requires.bit c.requires.target c.index_mut.ensures.value
