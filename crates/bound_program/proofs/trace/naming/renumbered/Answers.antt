use Rattle.std.proofs.Common.{◌∙◌, sym, ap, map, option_map}
use Rattle.kernel_model.specs.View.{rexpr_of}
use Rattle.bound_program.specs.Values.{act_of, Line}
use Rattle.bound_program.proofs.trace.Renamed.{assign_spelt, line_spelt}
use Rattle.bound_program.proofs.trace.naming.renumbered.Goals as goal

pub returns-in_ok-value-in-Assign : goal.returns-in_ok-value-in-Assign
returns-in_ok-value-in-Assign c =
    assign_spelt c.named_index.new.names.items c.named_expr.new.names.items c.in-Assign.var
    (option_map rexpr_of c.in_ok-index-in-Assign.index) (option_map rexpr_of c.in-Assign.index) c.in-Assign.op c.in-Assign.op_at
    (rexpr_of c.in_ok-value-in-Assign.value) (rexpr_of c.in-Assign.value) c.in-Assign.at
    c.in_ok-index-in-Assign.ensures.spells c.named_expr.ensures.grows c.in_ok-value-in-Assign.ensures.spells
    ∙ ap act_of (sym c.in-Assign.is)

pub returns-in_ok-values-in-Line : goal.returns-in_ok-values-in-Line
returns-in_ok-values-in-Line c =
    line_spelt c.named_exprs.new.names.items c.in-Line.text (map rexpr_of c.in_ok-values-in-Line.values.items)
    (map rexpr_of c.deref.result.now) c.in_ok-values-in-Line.ensures.spell
    ∙ ap (λ es. Line c.in-Line.text (map rexpr_of es)) c.deref.ensures.value
    ∙ ap act_of (sym c.in-Line.is)
