use Rattle.rank_state.proofs.Starting.{starts, starts_from}
use Rattle.rank_state.proofs.laws.start_shows.Goals as goal

pub returns-clause-shows : goal.returns-clause-shows
returns-clause-shows g c = starts

pub returns-clause-lists : goal.returns-clause-lists
returns-clause-lists g c = starts_from
