use Rattle.rank_layout.proofs.Sending.{rooms_stand}
use Rattle.rank_layout.proofs.laws_sent.rooms_stand.Goals as goal

pub returns : goal.returns
returns c = rooms_stand c.messages_have_room.ensures
