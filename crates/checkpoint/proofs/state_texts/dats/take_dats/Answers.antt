use Rattle.std.proofs.Common.{◌≡◌, ◌+◌, ◌∙◌, sym, ap, subst, map, length, arith}
use Rattle.std.specs.List.{flat_map}
use Rattle.mesh_decl.specs.Mesh.{dat_count, dat_values}
use Rattle.run_model.specs.Windows.{numbers}
use Rattle.checkpoint.specs.Reading.{awaited_dat, awaited_dats}
use Rattle.checkpoint.specs.Judged.{FitsAmong}
use Rattle.checkpoint.proofs.state_texts.Judging.{passed_on}
use Rattle.checkpoint.proofs.state_texts.Below.{below, fits_next, refused_next}
use Rattle.checkpoint.proofs.state_texts.VarLines.{flat, flat_push}
use Rattle.checkpoint.proofs.state_texts.DatLines.{lengths_by_number, lengths_next}
use Rattle.checkpoint.proofs.state_texts.dats.take_dats.Goals as goal

pub returns-in_err-values-clause-judged : goal.returns-in_err-values-clause-judged
returns-in_err-values-clause-judged c = λ b k.
    let g = c.args.mesh.now in
    passed_on b k (awaited_dats g) c.args.lines.now c.take_dat.new.lines (λ v. flat_map (λ z. z) v.items) c.from_residual.result c.in_err-values.field-0.0 c.from_residual.ensures.1
    (refused_next (awaited_dat g) b k c.loop-dat.dat (dat_count g) c.args.lines.now c.loop-dat.lines (flat c.loop-dat.told.items) c.in_err-values.field-0.0
    (omega (arith, c.dat_count-dat-end.ensures.count, c.loop-dat-test.true)) (c.loop-dat.invariant.fits b k) (c.in_err-values.ensures.judged b k))

pub loop-dat-preserved : goal.loop-dat-preserved
loop-dat-preserved c =
    let g = c.args.mesh.now in
    let z = c.in_ok-values.values in
    record {
      shape = ap (map length) c.in_ok-push.ensures.items ∙ lengths_next g c.loop-dat.told.items z c.loop-dat.dat c.loop-dat.invariant.shape c.in_ok-values.ensures.count;
      fits = λ b k.
          subst (FitsAmong b k (below (awaited_dat g) (c.loop-dat.dat + 1)) c.args.lines.now c.take_dat.new.lines)
          (sym (ap flat c.in_ok-push.ensures.items ∙ flat_push c.loop-dat.told.items z))
          (fits_next (awaited_dat g) b k c.loop-dat.dat c.args.lines.now c.loop-dat.lines c.take_dat.new.lines (flat c.loop-dat.told.items)
          z (c.loop-dat.invariant.fits b k) (c.in_ok-values.ensures.judged b k));
    }

pub returns-clause-judged : goal.returns-clause-judged
returns-clause-judged c = λ b k.
    let g = c.args.mesh.now in
    let e : c.loop-dat.dat ≡ dat_count g = (let l = c.loop-dat.auto.dat-end in omega (arith, c.dat_count-dat-end.ensures.count, c.loop-dat-test.false)) in
    subst (λ n. FitsAmong b k (below (awaited_dat g) n) c.args.lines.now c.loop-dat.lines (flat c.loop-dat.told.items)) e (c.loop-dat.invariant.fits b k)

pub returns-clause-shape : goal.returns-clause-shape
returns-clause-shape c =
    let g = c.args.mesh.now in
    let e : c.loop-dat.dat ≡ dat_count g = (let l = c.loop-dat.auto.dat-end in omega (arith, c.dat_count-dat-end.ensures.count, c.loop-dat-test.false)) in
    c.loop-dat.invariant.shape ∙ (ap (λ n. map (λ d. length (dat_values g d)) (numbers n)) e ∙ lengths_by_number g)
