use Rattle.std.proofs.Common.{◌∙◌, ap}
use Rattle.std.proofs.lemmas.Slice.Eq.{strip_prefix_is}
use Rattle.std.proofs.lemmas.Bool.Decides.{Decides-eqb}
use Rattle.op_num.specs.CutLines.{Unread}
use Rattle.op_num.proofs.texts.line_texts.Cutting.{front_there, front_missing, front_taken}
use Rattle.op_num.proofs.texts.line_texts.lines.Lines.take.Goals as goal

pub returns-in-Some-clause-taken : goal.returns-in-Some-clause-taken
returns-in-Some-clause-taken c = λ _.
    front_taken c.args.self.now c.self.inside.taken c.self.inside.rest.now c.args.line.now c.in-Some.rest.now c.self.view_is
    (front_there c.self.inside.rest.now c.args.line.now c.strip_prefix.result c.in-Some.rest (strip_prefix_is Decides-eqb _ _ c.strip_prefix.result c.strip_prefix.ensures.cases) c.in-Some.is)

pub returns-in-None-clause-other : goal.returns-in-None-clause-other
returns-in-None-clause-other c = λ _ more e.
    front_missing c.self.inside.rest.now c.args.line.now c.strip_prefix.result (strip_prefix_is Decides-eqb _ _ c.strip_prefix.result c.strip_prefix.ensures.cases) c.in-None.is
    more (ap (λ (u : Unread). u.rest) c.self.view_is ∙ e)
