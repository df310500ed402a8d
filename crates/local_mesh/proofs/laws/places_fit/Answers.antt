use Rattle.std.proofs.Common.{◌+◌, ◌*◌, ◌≤◌, arith}
use Rattle.std.proofs.Math.Nat.{mul-le-mul_right}
use Rattle.mesh_decl.specs.Mesh.{dat_dim, dat_count}
use Rattle.local_mesh.proofs.Standing.{copies, cells_later}
use Rattle.local_mesh.proofs.laws.places_fit.Goals as goal

pub returns : goal.returns
returns c = λ g sets starts total b d l ld ll.
    let a = cells_later g sets d (dat_count g) ld in
    let m : (l + 1) * dat_dim g d ≤ copies g sets d * dat_dim g d = mul-le-mul_right {m = l + 1} {n = copies g sets d} (dat_dim g d) (omega arith) in
    omega (arith, b.bases d ld, b.cells)
