use Rattle.std.proofs.Common.{ℕ, Bool, false, not, get_or, arith, refl}
use Rattle.mesh_decl.specs.Mesh.{set_count, map_count}
use Rattle.lemmas.specs.Below.{any_below}
use Rattle.lemmas.proofs.Below.{any_from}
use Rattle.partition.specs.Derive.{can_follow_targets, leads_to_known}
use Rattle.partition.proofs.Firsts.{first_from}
use Rattle.partition.proofs.next.next_by_targets.Goals as goal
use Rattle.std.proofs.lemmas.Bool.{and_from}

pub returns-in-Some-clause-some : goal.returns-in-Some-clause-some
returns-in-Some-clause-some c =
    let g = c.args.mesh.now in
    let s : ℕ = c.loop-set.set in
    let known : ℕ → Bool = λ t. get_or c.args.known.now t false in
    let first = c.in-Some.ensures.some in (
      first_from (set_count g) (can_follow_targets g known) s (omega (arith, c.loop-set-test.true, c.loop-set.auto.set-end, c.set_count-set-end.ensures.count))
          (and_from (not (known s)) (any_below (map_count g) (leads_to_known g known s)) (rw c.if-not-known-set.true refl)
          (any_from (map_count g) (leads_to_known g known s) c.in-Some.map first.within first.passes)) c.loop-set.invariant,
      first,
    )
