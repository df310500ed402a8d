use Rattle.name_resolution.proofs.Programs.{is_resolved_program}
use Rattle.name_resolution.proofs.resolving.kernels_are_resolved.Goals as goal

pub returns : goal.returns
returns c = λ p r h numbers. is_resolved_program p r h.0 h.1 numbers
