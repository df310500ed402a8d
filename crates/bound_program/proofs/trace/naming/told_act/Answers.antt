use Rattle.std.proofs.Common.{◌∙◌, ap}
use Rattle.bound_program.specs.Values.{act_of, closed_act}
use Rattle.bound_program.proofs.trace.Renamed.{at_names, closed_renamed_act}
use Rattle.bound_program.proofs.trace.naming.told_act.Goals as goal

pub returns : goal.returns
returns c =
    let named = c.args.named.now in
    let told = c.args.told.now in
    ap (λ x. closed_act c.in_ok-told.told.items (act_of x)) c.in_ok-act.ensures
    ∙ ap (λ ts. closed_act ts (act_of named.act.value)) (c.in_ok-told.ensures ∙ ap (at_names told) c.deref.ensures.value)
    ∙ closed_renamed_act told named.names.items (act_of named.act.value)
