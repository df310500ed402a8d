use Rattle.rank_layout.proofs.Sending.{messages_have_room}
use Rattle.rank_layout.proofs.laws_sent.messages_have_room.Goals as goal

pub returns : goal.returns
returns c = messages_have_room
