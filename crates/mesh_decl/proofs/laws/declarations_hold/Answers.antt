use Rattle.mesh_decl.proofs.Declared.{map_at, dat_at}
use Rattle.mesh_decl.proofs.laws.declarations_hold.Goals as goal

pub returns : goal.returns
returns c = record { maps = map_at; dats = dat_at }
