use Rattle.std.proofs.Common.{length}
use Rattle.op_translate.proofs.Spans.{tokens_span, stubs_lie}
use Rattle.op_translate.proofs.translating.translated.Goals as goal

pub put_edited-requires : goal.put_edited-requires
put_edited-requires c =
    let bytes = c.args.bytes.now in
    let tokens = c.args.tokens.now in
    stubs_lie tokens 0 (length bytes) (tokens_span bytes tokens c.requires.lexed)
