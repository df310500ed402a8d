use Rattle.std.proofs.Common.{length, sym, subst}
use Rattle.op_translate.specs.Edits.{edits, LieWithin}
use Rattle.op_translate.specs.Translation.{to_call}
use Rattle.op_translate.proofs.Spans.{tokens_span, calls_lie}
use Rattle.op_translate.proofs.restoring.restored.Goals as goal

pub put_edited-requires : goal.put_edited-requires
put_edited-requires c =
    let bytes = c.args.bytes.now in
    let tokens = c.in_ok-tokens.tokens.items in
    subst (λ z. LieWithin 0 (length bytes) (edits to_call z)) (sym c.deref-2.ensures.value) (calls_lie tokens 0 (length bytes) (tokens_span bytes tokens c.in_ok-tokens.ensures.found))
