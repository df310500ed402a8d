use Rattle.std.proofs.Common.{arith}
use Rattle.std.specs.Int.{w32}
use Rattle.std.proofs.lemmas.Nat.Bits.{bit_at-trailing_ones}
use Rattle.colouring.proofs.Bits.{full_mask}
use Rattle.colouring.proofs.masks.free_bit.Goals as goal

pub returns-then-mask-eq4294967295 : goal.returns-then-mask-eq4294967295
returns-then-mask-eq4294967295 c = full_mask c.args.mask c.if-mask-eq4294967295.true

pub returns-else-mask-eq4294967295 : goal.returns-else-mask-eq4294967295
returns-else-mask-eq4294967295 c = rw c.trailing_ones.ensures (bit_at-trailing_ones w32 c.args.mask (let f = c.if-mask-eq4294967295.false in let g = c.ranges.mask.fits in omega (arith, f, g)))
