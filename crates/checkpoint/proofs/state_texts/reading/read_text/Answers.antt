use Rattle.std.proofs.Common.{◌∙◌, ap, map, length}
use Rattle.bound_program.specs.Values.{var_of, bound_of}
use Rattle.checkpoint.specs.Cut.{starts}
use Rattle.checkpoint.specs.Reading.{awaited_vars}
use Rattle.checkpoint.proofs.state_texts.Judging.{fits_same, refuses_same}
use Rattle.checkpoint.proofs.state_texts.VarLines.{flat}
use Rattle.checkpoint.proofs.state_texts.Whole.{item_passed, vars_passed, dats_passed, end_passed, text_says}
use Rattle.checkpoint.proofs.state_texts.reading.read_text.Goals as goal

pub returns-in_err-item-clause-refused : goal.returns-in_err-item-clause-refused
returns-in_err-item-clause-refused c =
    item_passed (bound_of c.args.bound.now) c.args.text.now c.new-lines.result c.new-lines.ensures 0 c.from_residual.result c.in_err-item.field-0.0 c.from_residual.ensures.1 (c.in_err-item.ensures 0)

pub returns-in_err-vars-clause-refused : goal.returns-in_err-vars-clause-refused
returns-in_err-vars-clause-refused c =
    let b = bound_of c.args.bound.now in
    let k = c.in_ok-item.item in
    let same = ap (λ vs. awaited_vars 0 (starts (map var_of vs))) c.deref.ensures.value in
    vars_passed b c.args.text.now c.new-lines.result c.new-lines.ensures k c.take_item.new.lines c.in_ok-item.ensures
    c.from_residual-in_err-vars.result c.in_err-vars.field-0.0 c.from_residual-in_err-vars.ensures.1
    (refuses_same b k _ _ c.take_item.new.lines c.in_err-vars.field-0.0 same (c.in_err-vars.ensures.judged b k))

pub returns-in_err-dats-clause-refused : goal.returns-in_err-dats-clause-refused
returns-in_err-dats-clause-refused c =
    let b = bound_of c.args.bound.now in
    let k = c.in_ok-item.item in
    let same = ap (λ vs. awaited_vars 0 (starts (map var_of vs))) c.deref.ensures.value in
    dats_passed b c.args.text.now c.new-lines.result c.new-lines.ensures k c.take_item.new.lines c.in_ok-item.ensures
    c.take_vars.new.lines c.in_ok-vars.vars.items (fits_same b k _ _ c.take_item.new.lines c.take_vars.new.lines (flat c.in_ok-vars.vars.items) same (c.in_ok-vars.ensures.judged b k))
    c.from_residual-in_err-dats.result c.in_err-dats.field-0.0 c.from_residual-in_err-dats.ensures.1 (c.in_err-dats.ensures.judged b k)

pub returns-in_err-take_end-clause-refused : goal.returns-in_err-take_end-clause-refused
returns-in_err-take_end-clause-refused c =
    let b = bound_of c.args.bound.now in
    let k = c.in_ok-item.item in
    let same = ap (λ vs. awaited_vars 0 (starts (map var_of vs))) c.deref.ensures.value in
    end_passed b c.args.text.now c.new-lines.result c.new-lines.ensures k c.take_item.new.lines c.in_ok-item.ensures
    c.take_vars.new.lines c.in_ok-vars.vars.items (fits_same b k _ _ c.take_item.new.lines c.take_vars.new.lines (flat c.in_ok-vars.vars.items) same (c.in_ok-vars.ensures.judged b k))
    c.take_dats.new.lines c.in_ok-dats.dats.items (c.in_ok-dats.ensures.judged b k)
    c.from_residual-in_err-take_end.result c.in_err-take_end.field-0.0 c.from_residual-in_err-take_end.ensures.1 (c.in_err-take_end.ensures.judged b k)

pub returns-clause-says : goal.returns-clause-says
returns-clause-says c =
    let b = bound_of c.args.bound.now in
    let k = c.in_ok-item.item in
    let same = ap (λ vs. awaited_vars 0 (starts (map var_of vs))) c.deref.ensures.value in
    text_says b c.args.text.now c.new-lines.result c.new-lines.ensures k c.take_item.new.lines c.in_ok-item.ensures
    c.take_vars.new.lines c.in_ok-vars.vars.items (fits_same b k _ _ c.take_item.new.lines c.take_vars.new.lines (flat c.in_ok-vars.vars.items) same (c.in_ok-vars.ensures.judged b k))
    c.take_dats.new.lines c.in_ok-dats.dats.items (c.in_ok-dats.ensures.judged b k)
    c.take_end.new.lines (c.in_ok-take_end.ensures.judged b k) c.in_ok-take_end.ensures.rest
    (record {
      vars = c.in_ok-vars.ensures.shape ∙ ap (λ vs. map length (starts (map var_of vs))) c.deref.ensures.value;
      dats = c.in_ok-dats.ensures.shape;
    })
