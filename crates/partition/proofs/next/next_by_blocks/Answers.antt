use Rattle.std.proofs.Common.{false, not, get_or, arith, refl}
use Rattle.mesh_decl.specs.Mesh.{set_count}
use Rattle.partition.proofs.Firsts.{first_from}
use Rattle.partition.proofs.next.next_by_blocks.Goals as goal

pub returns-then-not-known-set-clause-some : goal.returns-then-not-known-set-clause-some
returns-then-not-known-set-clause-some c =
    let g = c.args.mesh.now in
    first_from (set_count g) (λ s. not (get_or c.args.known.now s false)) c.loop-set.set
    (omega (arith, c.loop-set-test.true, c.loop-set.auto.set-end, c.set_count-set-end.ensures.count)) (rw c.if-not-known-set.true refl)
    c.loop-set.invariant
