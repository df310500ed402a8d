use Rattle.std.proofs.Common.{◌≡◌, ◌++◌, ◌∷◌, ◌∙◌, [], sym, ap, ap₂, map, take, drop, length, suc}
use Rattle.std.specs.List.{flat_map}
use Rattle.bound_program.specs.Values.{var_of}
use Rattle.checkpoint.specs.Cut.{starts}
use Rattle.checkpoint.specs.Reading.{awaited_var, awaited_vars}
use Rattle.checkpoint.proofs.state_texts.Judging.{passed_on, refuses_same, fits_same}
use Rattle.checkpoint.proofs.state_texts.VarLines.{var_taken, var_passed, var_refused, shape_push, starts_const, vars_next, vars_here}
use Rattle.checkpoint.proofs.state_texts.vars.take_vars.Goals as goal
use Rattle.checkpoint.proofs.state_texts.vars.take_vars.Goals.{then-not-var+in_ok-values+in_ok-push, else-not-var}

pub returns-in_err-values-clause-judged : goal.returns-in_err-values-clause-judged
returns-in_err-values-clause-judged c = λ b k.
    let vs = c.args.vars.now in
    let i = c.loop-var.var-index in
    let x = c.var-item.result in
    let all = vars_here vs i x c.loop-var-test.true c.var-item.is in
    passed_on b k (awaited_vars 0 (starts (map var_of vs))) c.args.lines.now c.take_var.new.lines (λ v. flat_map (λ z. z) v.items)
    c.from_residual.result c.in_err-values.field-0.0 c.from_residual.ensures.1
    (refuses_same b k (awaited_vars 0 (starts (map var_of (take i vs) ++ var_of x ∷ map var_of (drop (suc i) vs)))) (awaited_vars 0 (starts (map var_of vs))) c.args.lines.now c.in_err-values.field-0.0
    (ap (λ l. awaited_vars 0 (starts l)) (sym all))
    (var_refused b k (map var_of (take i vs)) (var_of x) c.loop-var.told.items c.args.lines.now c.loop-var.lines c.loop-var.invariant.shape (c.loop-var.invariant.fits b k)
    (map var_of (drop (suc i) vs)) c.in_err-values.field-0.0 c.if-not-var.true
    (refuses_same b k (awaited_var c.len.result (length c.as_slice-count.result.now)) (awaited_var (length c.loop-var.told.items) (length x.start)) c.loop-var.lines c.in_err-values.field-0.0
    (ap₂ awaited_var (c.len.ensures ∙ c.loop-var.told.ok.0) (ap length c.as_slice-count.ensures)) (c.in_err-values.ensures.judged b k))))

pub loop-var-preserved : goal.loop-var-preserved
loop-var-preserved c =
    let vs = c.args.vars.now in
    let i = c.loop-var.var-index in
    let x = c.var-item.result in
    let next = vars_next vs i x c.loop-var-test.true c.var-item.is in
    let told = c.loop-var.told.items in
    elim c.if-not-var.branch [
      | then-not-var+in_ok-values+in_ok-push w ↦ (
          let z = w.in_ok-values.values in
          let now : c.if-not-var.told.items ≡ told ++ z ∷ [] = ap (λ v. v.items) w.told-is ∙ w.in_ok-push.ensures.items in
          record {
            shape = rw (now, next) (shape_push (map var_of (take i vs)) (var_of x) told z c.loop-var.invariant.shape w.if-not-var.true
                (w.in_ok-values.ensures.count ∙ ap length w.as_slice-count.ensures));
            fits = λ b k. rw (now, next, w.lines-is)
                (var_taken b k (map var_of (take i vs)) (var_of x) told c.args.lines.now c.loop-var.lines c.loop-var.invariant.shape
                (c.loop-var.invariant.fits b k) w.take_var.new.lines z w.if-not-var.true
                (fits_same b k (awaited_var w.len.result (length w.as_slice-count.result.now)) (awaited_var (length told) (length x.start)) c.loop-var.lines w.take_var.new.lines z
                (ap₂ awaited_var (w.len.ensures ∙ c.loop-var.told.ok.0) (ap length w.as_slice-count.ensures)) (w.in_ok-values.ensures.judged b k)));
          })
      | else-not-var w ↦ record {
        shape = rw (w.told-is, next, starts_const (map var_of (take i vs)) (var_of x) w.if-not-var.false) c.loop-var.invariant.shape;
        fits = λ b k. rw (w.told-is, next, w.lines-is)
            (var_passed b k (map var_of (take i vs)) (var_of x) told c.args.lines.now c.loop-var.lines c.loop-var.invariant.shape (c.loop-var.invariant.fits b k) w.if-not-var.false);
      }
    ]
