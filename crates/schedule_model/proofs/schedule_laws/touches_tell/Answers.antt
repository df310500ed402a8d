use Rattle.schedule_model.proofs.schedule_laws.Tells.{tells, reader}
use Rattle.schedule_model.proofs.schedule_laws.touches_tell.Goals as goal

pub returns-clause-tells : goal.returns-clause-tells
returns-clause-tells c = tells

pub returns-clause-read : goal.returns-clause-read
returns-clause-read c = reader
