use Rattle.std.proofs.Common.{map, ap, ◌∙◌}
use Rattle.c_tree.specs.declared.lexer.spelling.TheConstants.{WORDS}
use Rattle.op_translate.proofs.Answered.{listed}
use Rattle.op_translate.proofs.names.is_reserved.Goals as goal

pub returns : goal.returns
returns c =
    c.contains.ensures ∙ listed c.as_slice.result.now WORDS c.args.bytes.now (ap (map (λ x. x.now)) c.as_slice.ensures)
