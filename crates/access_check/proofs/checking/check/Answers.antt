use Rattle.std.proofs.Common.{rules, ◌≡◌, ◌∙◌, sym, ap, subst, length, map}
use Rattle.kernel_model.specs.Walk.{IsFound}
use Rattle.kernel_model.specs.Resolved.{StmtWithin}
use Rattle.access_check.specs.Modes.{model_of}
use Rattle.access_check.specs.Found.{found_of}
use Rattle.access_check.proofs.Refused.{refused_disobeys}
use Rattle.access_check.proofs.checking.check.Goals as goal

pub found_in-requires-clause-within : goal.found_in-requires-clause-within
found_in-requires-clause-within c =
    let k = c.args.kernel.now in
    let len : length c.deref_mut.result.now ≡ k.scratch = search rules in
    (c.requires.resolved.0, subst (λ n. StmtWithin k.params n c.requires.resolved.0 k.body.statement) (sym len) c.requires.resolved.1.within)

pub returns-clause-refused : goal.returns-clause-refused
returns-clause-refused c =
    let k = c.args.kernel.now in
    let modes = map model_of c.args.modes.now in
    c.refusal_of.ensures k modes (subst (λ f. IsFound f k modes) (sym c.found_in.ensures ∙ ap found_of c.in-Some.is) (c.walk_finds.ensures k modes))

pub returns-clause-disobeys : goal.returns-clause-disobeys
returns-clause-disobeys c =
    let k = c.args.kernel.now in
    let modes = map model_of c.args.modes.now in
    refused_disobeys c.rules_are_broken.ensures.obeys k modes c.refusal_of.result
    (c.refusal_of.ensures k modes (subst (λ f. IsFound f k modes) (sym c.found_in.ensures ∙ ap found_of c.in-Some.is)
    (c.walk_finds.ensures k modes)))
