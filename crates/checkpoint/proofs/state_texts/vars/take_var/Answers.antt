use Rattle.std.proofs.Common.{◌++◌, ◌∷◌, ◌∙◌, [], sym, ap, subst, length}
use Rattle.checkpoint.specs.Reading.{Exactly, Values, awaited_var, var_line}
use Rattle.checkpoint.specs.Judged.{FitsAmong}
use Rattle.checkpoint.proofs.state_texts.Judging.{fits_append, fits_same, refused_first, refused_then, refuses_same, passed_on, pushed_alone}
use Rattle.checkpoint.proofs.state_texts.OneLine.{written}
use Rattle.checkpoint.proofs.state_texts.Counting.{no_program, values_counted}
use Rattle.checkpoint.proofs.state_texts.vars.take_var.Goals as goal

pub returns-in_err-take_exactly-clause-judged : goal.returns-in_err-take_exactly-clause-judged
returns-in_err-take_exactly-clause-judged c = λ b k.
    let line = var_line c.args.number c.args.count in
    let is = written line c.write_var_line.new.text.items c.deref.result.now c.in_ok-write_var_line.ensures c.deref.ensures.value in
    passed_on b k (awaited_var c.args.number c.args.count) c.args.lines.now c.take_exactly.new.lines (λ v. v)
    c.from_residual-in_err-take_exactly.result c.in_err-take_exactly.field-0.0 c.from_residual-in_err-take_exactly.ensures.1
    (refused_first b k (Exactly line ∷ []) (Values c.args.count ∷ []) c.args.lines.now c.in_err-take_exactly.field-0.0
    (refuses_same b k (Exactly (c.deref.result.now ++ 10 ∷ []) ∷ []) (Exactly line ∷ []) c.args.lines.now c.in_err-take_exactly.field-0.0
    (ap (λ z. Exactly z ∷ []) is) (c.in_err-take_exactly.ensures b k)))

pub returns-in_err-take_values-clause-judged : goal.returns-in_err-take_values-clause-judged
returns-in_err-take_values-clause-judged c = λ b k.
    let line = var_line c.args.number c.args.count in
    let is = written line c.write_var_line.new.text.items c.deref.result.now c.in_ok-write_var_line.ensures c.deref.ensures.value in
    passed_on b k (awaited_var c.args.number c.args.count) c.args.lines.now c.take_values.new.lines (λ v. v)
    c.from_residual-in_err-take_values.result c.in_err-take_values.field-0.0 c.from_residual-in_err-take_values.ensures.1
    (refused_then b k (Exactly line ∷ []) (Values c.args.count ∷ []) c.args.lines.now c.take_exactly.new.lines [] c.in_err-take_values.field-0.0
    (fits_same b k (Exactly (c.deref.result.now ++ 10 ∷ []) ∷ []) (Exactly line ∷ []) c.args.lines.now c.take_exactly.new.lines [] (ap (λ z. Exactly z ∷ []) is) (c.in_ok-take_exactly.ensures b k))
    (c.in_err-take_values.ensures b k))

pub returns-clause-judged : goal.returns-clause-judged
returns-clause-judged c = λ b k.
    let line = var_line c.args.number c.args.count in
    let is = written line c.write_var_line.new.text.items c.deref.result.now c.in_ok-write_var_line.ensures c.deref.ensures.value in
    subst (FitsAmong b k (awaited_var c.args.number c.args.count) c.args.lines.now c.take_values.new.lines) (sym c.new.ensures)
    (fits_append b k (Exactly line ∷ []) (Values c.args.count ∷ []) c.args.lines.now c.take_exactly.new.lines c.take_values.new.lines [] c.take_values.new.values.items
    (fits_same b k (Exactly (c.deref.result.now ++ 10 ∷ []) ∷ []) (Exactly line ∷ []) c.args.lines.now c.take_exactly.new.lines [] (ap (λ z. Exactly z ∷ []) is) (c.in_ok-take_exactly.ensures b k))
    (pushed_alone b k (Values c.args.count ∷ []) c.take_exactly.new.lines c.take_values.new.lines c.in_ok-values.values.items
    c.take_values.new.values.items (c.in_ok-take_values.ensures b k) c.in_ok-values.ensures.items))

pub returns-clause-count : goal.returns-clause-count
returns-clause-count c =
    let f = pushed_alone no_program 0 (Values c.args.count ∷ []) c.take_exactly.new.lines c.take_values.new.lines
    c.in_ok-values.values.items c.take_values.new.values.items (c.in_ok-take_values.ensures no_program 0) c.in_ok-values.ensures.items
    in
    ap length c.new.ensures ∙ values_counted no_program 0 c.args.count f.lines c.take_values.new.values.items f.fit
