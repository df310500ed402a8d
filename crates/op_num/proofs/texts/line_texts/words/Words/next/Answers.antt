use Rattle.std.proofs.Common.{sym, ◌∙◌}
use Rattle.op_num.proofs.texts.line_texts.Cutting.{last_word, word_cut, left_is}
use Rattle.op_num.proofs.texts.line_texts.words.Words.next.Goals as goal

pub returns-then-len-rest : goal.returns-then-len-rest
returns-then-len-rest c =
    sym (left_is _ _ _ c.in_ok-rest.was c.self.view_is) ∙ last_word c.in_ok-rest.rest.now (sym c.word_len-len.ensures.size ∙ c.if-len-rest.true)

pub returns : goal.returns
returns c =
    word_cut c.args.self.now _ _ _ _ _ (left_is _ _ _ c.in_ok-rest.was c.self.view_is) c.word_len-len.ensures.size
    c.word_len-len.ensures.within c.if-len-rest.false c.split_at.ensures.front c.split_at.ensures.back c.split_at-2.ensures.back
