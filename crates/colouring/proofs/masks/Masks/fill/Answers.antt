use Rattle.std.proofs.lemmas.Bool.{eqb-true}
use Rattle.std.specs.Prelude.{bit_or}
use Rattle.colouring.proofs.Filling.{full_words}
use Rattle.colouring.proofs.masks.Masks.fill.Goals as goal

pub returns : goal.returns
returns c = λ e. full_words c.args.self.now c.args.a c.args.b c.args.number c.word.result c.word-2.result c.word.ensures c.word-2.ensures (eqb-true (bit_or c.word.result c.word-2.result) 4294967295 e)
