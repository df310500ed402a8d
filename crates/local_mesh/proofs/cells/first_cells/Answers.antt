use Rattle.std.proofs.Common.{◌≡◌, ◌*◌, ◌<◌, ◌≤◌, ◌∙◌, ℕ, List, length, get_or, arith, sym, ap}
use Rattle.std.proofs.Math.Nat.{mul-le-mul_right}
use Rattle.std.proofs.lemmas.List.{length_push}
use Rattle.mesh_decl.specs.Mesh.{dat_set, dat_dim, dat_count}
use Rattle.local_mesh.specs.declared.types.LocalSet.{LocalSet}
use Rattle.local_mesh.specs.LocalMesh.{originals_in, cells_before}
use Rattle.local_mesh.proofs.Closing.{originals_at}
use Rattle.local_mesh.proofs.Growing.{number_more}
use Rattle.local_mesh.proofs.Standing.{cells_more}
use Rattle.local_mesh.proofs.cells.first_cells.Goals as goal

read : (sets : List LocalSet) (i s : ℕ) (x : LocalSet) (now : List ℕ) → i ≡ s → s < length sets → now ≡ (get_or sets i x).original → now ≡ originals_in sets s
read sets i s x now e l r = r ∙ (ap (λ z. (get_or sets z x).original) e ∙ sym (originals_at sets s x l))

product : (a b : ℕ) → a < 4294967296 → b < 4294967296 → a * b < 18446744073709551616
product a b l m = let h : a * b ≤ 4294967295 * b = mul-le-mul_right {m = a} {n = 4294967295} b (omega arith) in omega arith

pub overflow_mul-copies : goal.overflow_mul-copies
overflow_mul-copies c =
    let g = c.args.mesh.now in
    let d = c.loop-dat.dat in
    let ld : d < dat_count g = omega (arith, c.dat_count-dat-end.ensures.count) in
    let at = c.dat_count-dat-end.ensures.dats d ld in
    let ls : dat_set g d < length c.args.sets.now = rw c.requires.count at.set in
    let e = read c.args.sets.now c.dat_shape-set.result.0 (dat_set g d) c.index-sets-set.result c.as_slice-copies.result.now (ap (λ z. z.0) c.dat_shape-set.ensures) ls c.as_slice-copies.ensures in
    let q : c.dat_shape-set.result.1 ≡ dat_dim g d = ap (λ z. z.1) c.dat_shape-set.ensures in
    omega (arith, product (length c.as_slice-copies.result.now) c.dat_shape-set.result.1 (rw e (c.requires.few (dat_set g d) at.set)) (rw q at.dim))

pub loop-dat-preserved : goal.loop-dat-preserved
loop-dat-preserved c =
    let g = c.args.mesh.now in
    let sets = c.args.sets.now in
    let d = c.loop-dat.dat in
    let ld : d < dat_count g = omega (arith, c.dat_count-dat-end.ensures.count) in
    let at = c.dat_count-dat-end.ensures.dats d ld in
    let ls : dat_set g d < length c.args.sets.now = rw c.requires.count at.set in
    let e = read c.args.sets.now c.dat_shape-set.result.0 (dat_set g d) c.index-sets-set.result c.as_slice-copies.result.now (ap (λ z. z.0) c.dat_shape-set.ensures) ls c.as_slice-copies.ensures in
    let q : c.dat_shape-set.result.1 ≡ dat_dim g d = ap (λ z. z.1) c.dat_shape-set.ensures in
    let w : length c.as_slice-copies.result.now * c.dat_shape-set.result.1 ≡ length (originals_in sets (dat_set g d)) * dat_dim g d =
    ap (λ (z : List ℕ). length z * c.dat_shape-set.result.1) e ∙ ap (λ z. length (originals_in sets (dat_set g d)) * z) q in
    let s = cells_more g sets d in
    rw c.in_ok-push.ensures.items (
      omega (arith, length_push c.loop-dat.bases.items c.loop-dat.cells, c.loop-dat.invariant.0),
      number_more c.loop-dat.bases.items c.loop-dat.cells d (λ k z. z ≡ cells_before g sets k) c.loop-dat.invariant.0 c.loop-dat.invariant.1 c.loop-dat.invariant.2,
      omega (arith, c.in-Some.ensures, c.loop-dat.invariant.2),
    )
