use Rattle.std.proofs.Common.{◌≡◌, ℤ, sym, subst, arith, rules, w32, to_z, of_z}
use Rattle.std.proofs.Math.Facts.{to_z-of_z}
use Rattle.mesh_draw.specs.Frame.{coordinate, IsExtent}
use Rattle.mesh_draw.proofs.picture.frame.extent_of.Goals as goal

pub loop-node-preserved : goal.loop-node-preserved
loop-node-preserved c =
    let low : to_z w32 (of_z w32 c.loop-node.found.low) ≡ c.loop-node.found.low = to_z-of_z c.loop-node.invariant.fits.0 in
    let high : to_z w32 (of_z w32 c.loop-node.found.high) ≡ c.loop-node.found.high = to_z-of_z c.loop-node.invariant.fits.1 in
    record {
      extent = c.wider-found.ensures.extent c.loop-node.node (λ n. coordinate c.args.values.now n c.args.k) (omega arith) (search rules)
          (subst (λ (z : ℤ). IsExtent c.loop-node.node (λ n. coordinate c.args.values.now n c.args.k)
          (record { low = z; high = to_z w32 (of_z w32 c.loop-node.found.high) })) (sym low)
          (subst (λ (z : ℤ). IsExtent c.loop-node.node (λ n. coordinate c.args.values.now n c.args.k)
          (record { low = c.loop-node.found.low; high = z })) (sym high) c.loop-node.invariant.extent));
      fits = c.wider-found.ensures.fits;
    }
