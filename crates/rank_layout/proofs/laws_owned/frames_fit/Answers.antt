use Rattle.rank_layout.proofs.FrameWidths.{frames_fit}
use Rattle.rank_layout.proofs.laws_owned.frames_fit.Goals as goal

pub returns : goal.returns
returns c = frames_fit
