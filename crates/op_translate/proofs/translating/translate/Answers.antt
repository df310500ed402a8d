use Rattle.c_tree.specs.View.{program_of}
use Rattle.op_translate.specs.Translation.{Translates}
use Rattle.op_translate.proofs.Answered.{only_answer}
use Rattle.op_translate.proofs.translating.translate.Goals as goal

pub returns-clause-only : goal.returns-clause-only
returns-clause-only c =
    let p = program_of c.args.program.now in
    λ o h. only_answer (Translates c.args.bytes.now p) (c.one_translation.ensures c.args.bytes.now p) c.translated.result o h c.translated.ensures
