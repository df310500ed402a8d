use Rattle.std.proofs.Common.{◌≡◌, length}
use Rattle.gmsh_text.specs.Sections.{section}
use Rattle.gmsh_text.proofs.format.next_section.Given as goal

abbrev pub invariant-loop-token : goal.invariant-loop-token
invariant-loop-token l = section l.fn.tokens ≡ section l.tokens

abbrev pub decreases-loop-token : goal.decreases-loop-token
decreases-loop-token l = length l.tokens.words
