use Rattle.std.proofs.Common.{◌∙◌, ◌&&◌, sym, ap, refl}
use Rattle.kernel_model.specs.Refusals.{WritesRead, ReadsInc, IncNotSum, ReadsUnwritten, WriteIndexNotStatic, LiteralIndexOut, MinMaxForm, index_of, is_read}
use Rattle.kernel_model.specs.Walk.{is_op_write, is_unknown, is_out, is_unwritten}
use Rattle.op_num.specs.Access.{access_of}
use Rattle.access_check.specs.States.{has_component}
use Rattle.access_check.specs.Uses.{event_of}
use Rattle.access_check.proofs.Events.{argument_is, index_is, place_is, noted_same}
use Rattle.access_check.proofs.uses.rules_found.Goals as goal

pub returns : goal.returns
returns c =
    let o = c.args.o in
    let acc = access_of c.args.mode.access in
    let place = sym (place_is o.how o.arg o.index o.at) in
    let ix = sym (index_is o.how o.arg o.index o.at) in
    let arg = sym (argument_is o.how o.arg o.index o.at) in
    let unknown = ap (λ i. is_op_write acc && is_unknown i) ix in
    let out = ap (λ i. is_out c.args.mode.dim i) ix in
    let unwritten = ap (λ i. is_op_write acc && (is_read acc (event_of o) && is_unwritten c.args.mode.dim (has_component c.args.covered.now o.arg) i)) ix
    ∙ ap (λ a. is_op_write acc && (is_read acc (event_of o) && is_unwritten c.args.mode.dim (has_component c.args.covered.now a) (index_of (event_of o)))) arg in
    c.with_rule.ensures ∙ noted_same MinMaxForm _ _ _ _ _ _ c.is_no_extremum.ensures place
    (c.with_rule-f.ensures ∙ noted_same LiteralIndexOut _ _ _ _ _ _ (c.is_beyond.ensures ∙ out) place
    (c.with_rule-e.ensures ∙ noted_same WriteIndexNotStatic _ _ _ _ _ _ (c.is_no_component.ensures ∙ unknown) place
    (c.with_rule-d.ensures ∙ noted_same ReadsUnwritten _ _ _ _ _ _ (c.reads_unwritten.ensures ∙ unwritten) place
    (c.with_rule-c.ensures ∙ noted_same IncNotSum _ _ _ _ _ _ c.is_no_sum.ensures place
    (c.with_rule-b.ensures ∙ noted_same ReadsInc _ _ _ _ _ _ c.reads_reduced.ensures place
    (c.with_rule-a.ensures ∙ noted_same WritesRead _ _ _ _ _ _ c.writes_read.ensures place refl))))))
