use Rattle.mesh_draw.proofs.output_pieces.Running.{run_has_piece}
use Rattle.mesh_draw.proofs.output_pieces.laws.runs_have_pieces.Goals as goal

pub returns : goal.returns
returns c = run_has_piece (λ b. c.declarations_hold.ensures.dats b.mesh) c.runs_are_one.ensures.items
