use Rattle.std.proofs.Common.{◌∙◌}
use Rattle.lemmas.proofs.Rows.{row_read}
use Rattle.rank_layout.proofs.dat_windows.targets_of.Goals as goal

pub returns : goal.returns
returns c = c.deref.ensures.value ∙ row_read c.args.part.now.maps.items c.args.map c.index.result.now c.requires c.index.ensures
