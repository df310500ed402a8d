use Rattle.std.proofs.Common.{◌≡◌, ◌<◌, ◌+◌, ◌-◌, ℕ, List, take, drop, length, sym, ap, subst, ◌∙◌, take_all, length-drop, arith}
use Rattle.mesh_decl.specs.Mesh.{set_size}
use Rattle.bound_program.specs.Values.{bound_of}
use Rattle.mesh_draw.specs.Lines.{lines_in, AreLines}
use Rattle.mesh_draw.specs.Cuts.{IsClosed, IsBehind}
use Rattle.mesh_draw.specs.Last.{AreLastRows}
use Rattle.mesh_draw.specs.LastFound.{IsFoundLast}
use Rattle.mesh_draw.proofs.output_pieces.Cutting.{header_closed}
use Rattle.mesh_draw.proofs.output_pieces.LastPrints.{rows_found, few_found}
use Rattle.mesh_draw.proofs.output_pieces.last.last_rows.Goals as goal

pub end_of-requires : goal.end_of-requires
end_of-requires c =
    let is = c.deref.ensures.value ∙ c.in_ok-write_header.ensures in
    subst IsClosed (sym is) (header_closed c.in-Some.print.file.now c.args.bound.now.mesh c.args.dat)

-- what is behind a place, as code cuts it
behind_place : (end : ℕ) (output : List ℕ) → take (length output - end) (drop end output) ≡ drop end output
behind_place end output =
    let size : length (drop end output) ≡ length output - end = length-drop end output in
    take_all (length output - end) (drop end output) (omega arith)

pub returns-in_default-lines_len-clause-err : goal.returns-in_default-lines_len-clause-err
returns-in_default-lines_len-clause-err c =
    let b = bound_of c.args.bound.now in
    let found = subst (IsFoundLast b (length b.trace) c.args.dat) c.in-Some.is c.in_ok-print.ensures.ok in
    let is = c.deref.ensures.value ∙ c.in_ok-write_header.ensures in
    let behind = subst (λ h. IsBehind c.in-Some.print.before h c.args.output.now c.in_ok-end.end) is c.in_ok-end.ensures.ok in
    let size = c.set_size.ensures ∙ ap (λ (s : ℕ × ℕ). set_size c.args.bound.now.mesh s.0) c.dat_shape-set.ensures in
    let few = subst (λ l. lines_in l < c.set_size.result) (behind_place c.in_ok-end.end c.args.output.now) c.in_default-lines_len.ensures.none in
    few_found b c.args.dat c.in_ok-end.end c.set_size.result _ c.args.output.now c.in-Some.print found behind few size
    (ap (λ n. n + 1) c.lines_in-line.ensures)

pub returns-clause-ok : goal.returns-clause-ok
returns-clause-ok c =
    let b = bound_of c.args.bound.now in
    let end = c.in_ok-end.end in
    let rows = c.in-Some-lines_len.rows in
    let found = subst (IsFoundLast b (length b.trace) c.args.dat) c.in-Some.is c.in_ok-print.ensures.ok in
    let is = c.deref.ensures.value ∙ c.in_ok-write_header.ensures in
    let behind = subst (λ h. IsBehind c.in-Some.print.before h c.args.output.now end) is c.in_ok-end.ensures.ok in
    let size = c.set_size.ensures ∙ ap (λ (s : ℕ × ℕ). set_size c.args.bound.now.mesh s.0) c.dat_shape-set.ensures in
    let lines = subst (λ l. AreLines c.set_size.result (take rows l)) (behind_place end c.args.output.now) c.in-Some-lines_len.ensures.some in
    let count = c.in_ok-sum.ensures.ok ∙ ap (λ n. c.in-Some.print.before + n) (c.lines_in.ensures ∙ ap lines_in (c.deref-2.ensures.value ∙ c.in_ok-write_header.ensures)) in
    let same : end + rows - end ≡ rows = omega arith in
    subst (λ n. AreLastRows b c.args.dat c.args.output.now (take n (drop end c.args.output.now)) c.in_ok-sum.field-0) (sym same)
    (rows_found b c.args.dat end rows c.in_ok-sum.field-0 c.set_size.result c.args.output.now c.in-Some.print found behind lines size count)
