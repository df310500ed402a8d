use Rattle.std.proofs.Common.{◌≡◌, ◌+◌, false, arith}
use Rattle.std.proofs.lemmas.Grind.{common_steps}
use Rattle.std.proofs.lemmas.Slice.Eq.{ends_is}
use Rattle.std.proofs.lemmas.Bool.Decides.{Decides-eqb}
use Rattle.mesh_draw.specs.Lines.{lines_in}
use Rattle.mesh_draw.proofs.output_pieces.Cutting.{cut_here, uncut_here}
use Rattle.mesh_draw.proofs.output_pieces.pieces.end_of.Goals as goal

pub returns-then-ends_with-clause-ok : goal.returns-then-ends_with-clause-ok
returns-then-ends_with-clause-ok c =
    let line : c.in-Some.line ≡ c.args.before + lines_in c.args.header.now = grind (arith, common_steps) in
    let ends = (ends_is Decides-eqb _ c.args.header.now c.ends_with.result c.ends_with.ensures.value).0 c.if-ends_with.true in
    cut_here c.args.before c.in-Some.line c.in-Some-lines_len.end c.args.header.now c.args.output.now line
    c.in-Some-lines_len.ensures.some c.in-Some-lines_len.ensures.within ends

pub returns-else-ends_with-clause-err : goal.returns-else-ends_with-clause-err
returns-else-ends_with-clause-err c =
    let line : c.in-Some.line ≡ c.args.before + lines_in c.args.header.now = grind (arith, common_steps) in
    let ends = (ends_is Decides-eqb _ c.args.header.now c.ends_with.result c.ends_with.ensures.value).1 in
    uncut_here c.args.before c.in-Some.line c.in-Some-lines_len.end c.args.header.now c.args.output.now c.requires line
    c.in-Some-lines_len.ensures.some (λ front e. let is = ends front e in let isnt : c.ends_with.result ≡ false = c.if-ends_with.false in absurd cc)
