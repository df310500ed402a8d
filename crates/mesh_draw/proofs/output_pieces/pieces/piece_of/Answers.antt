use Rattle.std.proofs.Common.{◌≡◌, ◌<◌, ◌+◌, ◌-◌, ℕ, List, take, drop, length, sym, ap, subst, ◌∙◌, take_all, length-drop, arith}
use Rattle.mesh_decl.specs.Mesh.{set_size}
use Rattle.bound_program.specs.Values.{bound_of}
use Rattle.mesh_draw.specs.Lines.{lines_in, AreLines}
use Rattle.mesh_draw.specs.Cuts.{IsClosed, IsBehind}
use Rattle.mesh_draw.proofs.output_pieces.Cutting.{header_closed, found_piece, found_few}
use Rattle.mesh_draw.proofs.output_pieces.pieces.piece_of.Goals as goal

pub end_of-requires : goal.end_of-requires
end_of-requires c =
    let is = c.deref.ensures.value ∙ c.in_ok-write_header.ensures in
    subst IsClosed (sym is) (header_closed c.args.file.now c.args.bound.now.mesh c.in_ok-print.print.dat)

-- what is behind a place, as code cuts it
behind_place : (end : ℕ) (output : List ℕ) → take (length output - end) (drop end output) ≡ drop end output
behind_place end output =
    let size : length (drop end output) ≡ length output - end = length-drop end output in
    take_all (length output - end) (drop end output) (omega arith)

pub returns-in_default-clause-err : goal.returns-in_default-clause-err
returns-in_default-clause-err c =
    let found = c.in_ok-print.ensures.ok in
    let is = c.deref.ensures.value ∙ c.in_ok-write_header.ensures in
    let behind = subst (λ h. IsBehind c.in_ok-print.print.before h c.args.output.now c.in_ok-end.end) is c.in_ok-end.ensures.ok in
    let size = c.set_size.ensures ∙ ap (λ (s : ℕ × ℕ). set_size c.args.bound.now.mesh s.0) c.dat_shape-set.ensures in
    let few = subst (λ l. lines_in l < c.set_size.result) (behind_place c.in_ok-end.end c.args.output.now) c.in_default.ensures.none in
    found_few (bound_of c.args.bound.now) c.args.file.now c.args.output.now c.args.earlier c.in_ok-end.end c.set_size.result _ c.in_ok-print.print found behind few size
    (ap (λ n. n + 1) c.lines_in-line.ensures)

pub returns-clause-ok : goal.returns-clause-ok
returns-clause-ok c =
    let found = c.in_ok-print.ensures.ok in
    let is = c.deref.ensures.value ∙ c.in_ok-write_header.ensures in
    let behind = subst (λ h. IsBehind c.in_ok-print.print.before h c.args.output.now c.in_ok-end.end) is c.in_ok-end.ensures.ok in
    let size = c.set_size.ensures ∙ ap (λ (s : ℕ × ℕ). set_size c.args.bound.now.mesh s.0) c.dat_shape-set.ensures in
    let rows = subst (λ l. AreLines c.set_size.result (take c.in-Some.rows l)) (behind_place c.in_ok-end.end c.args.output.now) c.in-Some.ensures.some in
    let len = c.len.ensures ∙ sym c.deref.ensures.len ∙ ap length is in
    found_piece (bound_of c.args.bound.now) c.args.file.now c.args.output.now c.args.earlier c.in_ok-end.end c.in-Some.rows c.len.result c.set_size.result
    c.in_ok-print.print found behind rows size len
