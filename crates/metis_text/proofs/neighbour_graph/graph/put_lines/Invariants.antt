use Rattle.metis_text.specs.Parts.{HasLines}
use Rattle.metis_text.proofs.neighbour_graph.graph.put_lines.Given as goal

abbrev pub invariant-loop-element : goal.invariant-loop-element
invariant-loop-element l = HasLines l.fn.mesh l.fn.map l.element l.fn.out.items l.out.items l.total
