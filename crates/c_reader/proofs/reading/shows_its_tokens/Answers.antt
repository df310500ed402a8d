use Rattle.c_reader.proofs.Programs.{shows_its_tokens}
use Rattle.c_reader.proofs.reading.shows_its_tokens.Goals as goal

pub returns : goal.returns
returns c = λ bytes p ts r l. shows_its_tokens bytes p ts (λ x y m n. c.one_outcome.ensures bytes x y m n) r l
