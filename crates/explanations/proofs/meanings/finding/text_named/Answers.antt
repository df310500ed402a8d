use Rattle.explanations.specs.declared.meanings.sources.TheConstants.{SOURCES}
use Rattle.explanations.specs.declared.meanings.bindings.TheConstants.{BINDINGS}
use Rattle.explanations.specs.declared.meanings.files.TheConstants.{FILES}
use Rattle.explanations.specs.declared.meanings.limits.TheConstants.{LIMITS}
use Rattle.explanations.specs.declared.meanings.program.TheConstants.{PROGRAM}
use Rattle.explanations.specs.declared.meanings.statuses.TheConstants.{STATUSES}
use Rattle.std.proofs.Common.{◌++◌}
use Rattle.explanations.specs.Texts.{texts_of, all_texts, has_name}
use Rattle.explanations.proofs.meanings.Trying.{found_behind}
use Rattle.explanations.proofs.meanings.finding.text_named.Goals as goal

pub returns : goal.returns
unfolding all_texts
returns c =
    let p = has_name c.args.name.now in
    let one = texts_of SOURCES.now ++ texts_of BINDINGS.now in
    let two = one ++ texts_of FILES.now in
    let three = two ++ texts_of LIMITS.now in
    let four = three ++ texts_of PROGRAM.now in
    let a = found_behind p (texts_of SOURCES.now) (texts_of BINDINGS.now) c.named_in.result c.named_in-2.result c.or.result c.named_in.ensures c.named_in-2.ensures c.or.ensures in
    let b = found_behind p one (texts_of FILES.now) c.or.result c.named_in-3.result c.or-2.result a c.named_in-3.ensures c.or-2.ensures in
    let d = found_behind p two (texts_of LIMITS.now) c.or-2.result c.named_in-4.result c.or-3.result b c.named_in-4.ensures c.or-3.ensures in
    let e = found_behind p three (texts_of PROGRAM.now) c.or-3.result c.named_in-5.result c.or-4.result d c.named_in-5.ensures c.or-4.ensures in
    found_behind p four (texts_of STATUSES.now) c.or-4.result c.named_in-6.result c.or-5.result e c.named_in-6.ensures c.or-5.ensures
