use Rattle.bound_program.specs.Values.{bound_of}
use Rattle.mesh_draw.specs.Fields.{AreFields}
use Rattle.mesh_draw.proofs.fields.fields.fields_of.Given as goal

abbrev pub invariant-loop-dat : goal.invariant-loop-dat
invariant-loop-dat l = AreFields (bound_of l.fn.bound) l.fn.output l.fn.set l.dat l.fields.items
