use Rattle.std.proofs.Common.{arith}
use Rattle.rank_exec.proofs.RanksInTurn.{round_done}
use Rattle.rank_exec.proofs.laws.ranks_come_in_turn.Goals as goal

pub returns : goal.returns
returns g c p l t q z k places old new ranks kept here there ran ready =
    round_done p l t k places old new ranks (λ r. c.in_place_shows.ensures p l t q z k r) kept here there ran ready ranks (omega arith)
