use Rattle.std.proofs.Common.{◌≡◌, ◌∙◌, drop, ap, sym, arith}
use Rattle.explanations.specs.Cuts.{parts, parts_to_come}
use Rattle.explanations.proofs.parts.PartsCut.{part_there, no_part, passed}
use Rattle.explanations.proofs.parts.cutting.part_at.Goals as goal

pub returns-in_default : goal.returns-in_default
returns-in_default c =
    sym (no_part c.loop-passed.passed c.args.place (parts c.args.separator c.args.bytes.now)
    (sym (ap (parts_to_come c.args.separator) c.in_default.is) ∙ c.loop-passed.invariant) (omega (arith, c.loop-passed-test.true)))

pub loop-passed-preserved : goal.loop-passed-preserved
loop-passed-preserved c =
    passed c.loop-passed.passed (parts c.args.separator c.args.bytes.now) c.cut.result.0.now (parts_to_come c.args.separator c.cut.result.1)
    (sym c.cut.ensures.parts ∙ (sym (ap (parts_to_come c.args.separator) c.in-Some.is) ∙ c.loop-passed.invariant))

pub returns-in-Some-rest : goal.returns-in-Some-rest
returns-in-Some-rest c =
    let all = c.loop-passed.auto.passed-end in
    let same : c.loop-passed.passed ≡ c.args.place = omega (arith, all, c.loop-passed-test.false) in
    sym (part_there c.args.place (parts c.args.separator c.args.bytes.now) c.cut-in-Some-rest.result.0.now (parts_to_come c.args.separator c.cut-in-Some-rest.result.1)
    (sym c.cut-in-Some-rest.ensures.parts ∙
    (sym (ap (parts_to_come c.args.separator) c.in-Some-rest.is)
    ∙ (c.loop-passed.invariant ∙ ap (λ k. drop k (parts c.args.separator c.args.bytes.now)) same))))

pub returns-in-None : goal.returns-in-None
returns-in-None c =
    sym (no_part c.loop-passed.passed c.args.place (parts c.args.separator c.args.bytes.now)
    (sym (ap (parts_to_come c.args.separator) c.in-None.is) ∙ c.loop-passed.invariant) c.loop-passed.auto.passed-end)
