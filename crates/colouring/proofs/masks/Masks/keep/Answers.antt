use Rattle.std.specs.HashMap.{get}
use Rattle.colouring.specs.Masks.{same_words, AreFilled}
use Rattle.colouring.proofs.Words.{kept_words}
use Rattle.colouring.proofs.masks.Masks.keep.Goals as goal

pub returns-in_ok-insert-clause-sound : goal.returns-in_ok-insert-clause-sound
returns-in_ok-insert-clause-sound c =
    let u = c.in_ok-insert.ensures.updates in
    kept_words (get same_words c.args.self.now.passed) (get same_words c.insert.new.self) c.args.a c.args.b c.args.number c.args.end
    (AreFilled c.args.self.now) u.1 u.2 c.requires.filled c.requires.sound
