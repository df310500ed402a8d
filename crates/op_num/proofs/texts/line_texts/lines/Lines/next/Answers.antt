use Rattle.std.proofs.Common.{sym, ◌∙◌, refl, subst}
use Rattle.op_num.specs.CutLines.{Unread, HasNoLf}
use Rattle.op_num.proofs.texts.line_texts.Cutting.{no_line, line_cut}
use Rattle.op_num.proofs.texts.line_texts.lines.Lines.next.Goals as goal

pub returns-then-len-self : goal.returns-then-len-self
returns-then-len-self c =
    (subst (λ (u : Unread). HasNoLf u.rest) c.self.view_is (no_line c.self.inside.rest.now (sym c.line_len-len.ensures.size ∙ c.if-len-self.true)), refl)

pub returns : goal.returns
returns c =
    line_cut c.args.self.now c.self.inside.taken _ _ _ _ _ c.self.view_is c.line_len-len.ensures.size c.line_len-len.ensures.within
    c.if-len-self.false c.split_at.ensures.front c.split_at.ensures.back c.split_at-2.ensures.back
