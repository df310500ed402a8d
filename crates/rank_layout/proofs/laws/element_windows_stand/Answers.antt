use Rattle.rank_layout.proofs.ElementWindows.{windows_are}
use Rattle.rank_layout.proofs.laws.element_windows_stand.Goals as goal

pub returns : goal.returns
returns c = windows_are c.windows_stand.ensures.stand c.frames_have_cells.ensures.dats c.frames_have_cells.ensures.once c.frames_fit.ensures c.scalars_stand.ensures
