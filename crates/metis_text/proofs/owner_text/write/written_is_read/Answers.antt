use Rattle.std.proofs.Common.{arith}
use Rattle.metis_text.proofs.owner_text.Written.{spelled, fit}
use Rattle.metis_text.proofs.owner_text.write.written_is_read.Goals as goal

pub returns : goal.returns
returns c g o names are sizes =
    let few = are.few_ranks in
    spelled g o.ranks c.number_is_read.ensures (omega arith) sizes names c.lines_are_cut.ensures o.sets.items are.sets (fit g o are)
