use Rattle.std.proofs.Common.{◌≡◌, ◌+◌, true, false, ap, sym, ◌∙◌, arith}
use Rattle.std.specs.Result.{is_ok}
use Rattle.gmsh_text.specs.Decimal.{decimal_of}
use Rattle.gmsh_text.specs.Nearest.{fits_at}
use Rattle.gmsh_text.proofs.decimals.Growing.{fits-less, fails-more, ok-fits}
use Rattle.gmsh_text.proofs.decimals.largest.largest_scale.Goals as goal

pub loop-low-preserved-then-is_ok : goal.loop-low-preserved-then-is_ok
loop-low-preserved-then-is_ok c =
    let d = decimal_of c.args.text.now in
    let middle = c.loop-low.low + c.div_ceil.result in
    let here : fits_at d middle ≡ true = sym (ok-fits d middle) ∙ ap is_ok (sym c.read_scaled.ensures) ∙ sym c.is_ok.ensures.value ∙ c.if-is_ok.true in
    record {
      order = omega (arith, c.div_ceil.ensures, c.loop-low-test.true);
      fits = λ k p h. fits-less d k middle h here;
      beyond = c.loop-low.invariant.beyond;
    }

pub loop-low-preserved : goal.loop-low-preserved
loop-low-preserved c =
    let d = decimal_of c.args.text.now in
    let middle = c.loop-low.low + c.div_ceil.result in
    let here : fits_at d middle ≡ false = sym (ok-fits d middle) ∙ ap is_ok (sym c.read_scaled.ensures) ∙ sym c.is_ok.ensures.value ∙ c.if-is_ok.false in
    record {
      order = omega (arith, c.div_ceil.ensures, c.loop-low-test.true);
      fits = c.loop-low.invariant.fits;
      beyond = λ k h l. fails-more d middle k (omega (arith, h)) here;
    }
