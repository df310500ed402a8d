use Rattle.std.proofs.Common.{◌≡◌, ◌≤ℤ◌, inl, inr, arith, w32, to_z, of_z}
use Rattle.std.proofs.lemmas.Int.{ints}
use Rattle.std.proofs.Math.Facts.{to_z-of_z}
use Rattle.mesh_draw.proofs.picture.Extents.{extent_of_more}
use Rattle.mesh_draw.proofs.picture.frame.wider.Goals as goal

pub returns-then-value-low-clause-extent : goal.returns-then-value-low-clause-extent
returns-then-value-low-clause-extent c n f some is h =
    let below : c.args.low ≤ℤ f 0 = (h.within 0 some).0 in
    let above : f 0 ≤ℤ c.args.high = (h.within 0 some).1 in
    let low : to_z w32 (of_z w32 c.args.low) ≡ c.args.low = to_z-of_z c.ranges.low in
    let high : to_z w32 (of_z w32 c.args.high) ≡ c.args.high = to_z-of_z c.ranges.high in
    let value : to_z w32 (of_z w32 c.args.value) ≡ c.args.value = to_z-of_z c.ranges.value in
    extent_of_more n f (record { low = c.args.low; high = c.args.high })
    (record { low = to_z w32 (of_z w32 c.args.value); high = to_z w32 (of_z w32 c.args.high) })
    c.args.value some is h
    (omega (arith, ints)) (omega (arith, ints)) (omega (arith, ints)) (omega (arith, ints)) (inr value) (inl high)

pub returns-then-high-value-clause-extent : goal.returns-then-high-value-clause-extent
returns-then-high-value-clause-extent c n f some is h =
    let below : c.args.low ≤ℤ f 0 = (h.within 0 some).0 in
    let above : f 0 ≤ℤ c.args.high = (h.within 0 some).1 in
    let low : to_z w32 (of_z w32 c.args.low) ≡ c.args.low = to_z-of_z c.ranges.low in
    let high : to_z w32 (of_z w32 c.args.high) ≡ c.args.high = to_z-of_z c.ranges.high in
    let value : to_z w32 (of_z w32 c.args.value) ≡ c.args.value = to_z-of_z c.ranges.value in
    extent_of_more n f (record { low = c.args.low; high = c.args.high })
    (record { low = to_z w32 (of_z w32 c.args.low); high = to_z w32 (of_z w32 c.args.value) })
    c.args.value some is h
    (omega (arith, ints)) (omega (arith, ints)) (omega (arith, ints)) (omega (arith, ints)) (inl low) (inr value)

pub returns-clause-extent : goal.returns-clause-extent
returns-clause-extent c n f some is h =
    let low : to_z w32 (of_z w32 c.args.low) ≡ c.args.low = to_z-of_z c.ranges.low in
    let high : to_z w32 (of_z w32 c.args.high) ≡ c.args.high = to_z-of_z c.ranges.high in
    let value : to_z w32 (of_z w32 c.args.value) ≡ c.args.value = to_z-of_z c.ranges.value in
    extent_of_more n f (record { low = c.args.low; high = c.args.high })
    (record { low = to_z w32 (of_z w32 c.args.low); high = to_z w32 (of_z w32 c.args.high) })
    c.args.value some is h
    (omega (arith, ints)) (omega (arith, ints)) (omega (arith, ints)) (omega (arith, ints)) (inl low) (inl high)
