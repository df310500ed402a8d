use Rattle.metis_text.specs.Numbers.{ranks_in}
use Rattle.metis_text.proofs.owner_text.metis.Reading.{Before}
use Rattle.metis_text.proofs.owner_text.metis.numbers.read_ranks.Given as goal

-- with the tokens that are left it is the whole
abbrev pub invariant-loop-element : goal.invariant-loop-element
invariant-loop-element l = Before l.ranks (ranks_in l.ranks l.elements l.bytes) l.elements l.element l.tokens l.found.items
