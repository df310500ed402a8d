use Rattle.std.proofs.Common.{◌∙◌, map}
use Rattle.kernel_model.specs.View.{rkernel_of}
use Rattle.name_resolution.proofs.FileTurns.{tops_names, tops_first, tops_kernels}
use Rattle.name_resolution.proofs.files.tops.Goals as goal

pub loop-part-preserved : goal.loop-part-preserved
loop-part-preserved c =
    let e = c.in_ok-top.ensures in
    let i = c.loop-part.invariant in
    record {
      names = tops_names c.args.named.now.keys c.loop-part.walk.names.entries _ c.args.parts.now c.loop-part.part-index c.part-item.result c.loop-part-test.true c.part-item.is e.names ∙ i.names;
      cells = e.cells;
      fits = e.fits;
      kernels = tops_kernels c.args.named.now.keys c.args.places.now c.loop-part.walk.names.entries _ c.args.parts.now
          c.loop-part.part-index c.part-item.result (map rkernel_of c.loop-part.walk.kernels.items) _ c.loop-part-test.true c.part-item.is
          e.kernels e.names ∙ i.kernels;
      first = tops_first c.args.named.now.keys c.loop-part.walk.names.entries _ c.args.parts.now c.loop-part.part-index c.part-item.result
          c.loop-part.walk.first _ c.loop-part-test.true c.part-item.is e.first e.names ∙ i.first;
    }
