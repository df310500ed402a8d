use Rattle.std.proofs.Common.{sym, ◌∙◌}
use Rattle.op_num.proofs.texts.Cutting.{no_token, a_token}
use Rattle.op_num.proofs.texts.cutter.Tokens.next.Goals as goal

pub returns-then-len-eq0-clause-token : goal.returns-then-len-eq0-clause-token
returns-then-len-eq0-clause-token c =
    (no_token c.args.self.now c.self.inside.last c.self.inside.line _ _ _ c.self.view_is c.skip_blanks-line.ensures.words
    c.skip_blanks-line.ensures.dark (sym c.token_len-len.ensures.size ∙ c.if-len-eq0.true)).0

pub returns-then-len-eq0-clause-rest : goal.returns-then-len-eq0-clause-rest
returns-then-len-eq0-clause-rest c =
    (no_token c.args.self.now c.self.inside.last c.self.inside.line _ _ _ c.self.view_is c.skip_blanks-line.ensures.words
    c.skip_blanks-line.ensures.dark (sym c.token_len-len.ensures.size ∙ c.if-len-eq0.true)).1

pub returns-clause-token : goal.returns-clause-token
returns-clause-token c =
    (a_token c.args.self.now c.self.inside.last c.self.inside.line _ _ _ _ _ _ c.self.view_is c.skip_blanks-line.ensures.words
    c.skip_blanks-line.ensures.dark c.token_len-len.ensures.size c.if-len-eq0.false c.split_at.ensures.front c.split_at.ensures.back).0

pub returns-clause-rest : goal.returns-clause-rest
returns-clause-rest c =
    (a_token c.args.self.now c.self.inside.last c.self.inside.line _ _ _ _ _ _ c.self.view_is c.skip_blanks-line.ensures.words
    c.skip_blanks-line.ensures.dark c.token_len-len.ensures.size c.if-len-eq0.false c.split_at.ensures.front c.split_at.ensures.back).1
