use Rattle.std.proofs.Common.{Err, inl, inr, refl}
use Rattle.std.proofs.lemmas.Result.{err_from_is_err_and}
use Rattle.c_tree.specs.View.{program_of}
use Rattle.command_words.specs.Lines.{refused}
use Rattle.command_words.proofs.Public.{stops_weaker}
use Rattle.answers.specs.Judgements.{TreeIs, TranslationIs}
use Rattle.op2_command.specs.Chains.{TextTranslates}
use Rattle.op2_command.proofs.sources.text_translated.Goals as goal

pub returns-in_err-tokens : goal.returns-in_err-tokens
returns-in_err-tokens c =
    let p = err_from_is_err_and c.from_residual.result c.from_residual.ensures.1 in
    rw (p.1, p.2) (stops_weaker (λ r. TreeIs c.args.bytes.now (Err r)) (λ r. TextTranslates c.args.bytes.now (refused r)) c.in_err-tokens.field-0.0
    (λ r j. inl (r, j, refl)) c.in_err-tokens.ensures.err)

pub returns-in_err-program : goal.returns-in_err-program
returns-in_err-program c =
    let p = err_from_is_err_and c.from_residual-in_err-program.result c.from_residual-in_err-program.ensures.1 in
    rw (p.1, p.2) (stops_weaker (λ r. TreeIs c.args.bytes.now (Err r)) (λ r. TextTranslates c.args.bytes.now (refused r)) c.in_err-program.field-0.0
    (λ r j. inl (r, j, refl)) c.in_err-program.ensures.err)

pub returns-in_err-translation : goal.returns-in_err-translation
returns-in_err-translation c =
    let p = err_from_is_err_and c.from_residual-in_err-translation.result c.from_residual-in_err-translation.ensures.1 in
    rw (p.1, p.2) (stops_weaker (λ r. TranslationIs c.args.bytes.now (program_of c.in_ok-program.program) (Err r))
    (λ r. TextTranslates c.args.bytes.now (refused r)) c.in_err-translation.field-0.0
    (λ r j. inr (program_of c.in_ok-program.program, c.in_ok-program.ensures.ok, inl (r, j, refl))) c.in_err-translation.ensures.err)
