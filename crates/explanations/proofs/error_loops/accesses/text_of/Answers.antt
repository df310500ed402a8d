use Rattle.std.proofs.Common.{inl}
use Rattle.c_tree.specs.View.{program_of}
use Rattle.explanations.proofs.error_loops.Judging.{weaker}
use Rattle.explanations.proofs.error_loops.accesses.text_of.Goals as goal

pub returns-in-Some : goal.returns-in-Some
returns-in-Some c =
    weaker c.text_over.result _ _
    (λ v h. inl (c.in-Some.read.tokens.items, program_of c.in-Some.read.program, c.in-Some.read.types, rw c.in-Some.is at c.in_ok-read.ensures.some, h))
    c.text_over.ensures
