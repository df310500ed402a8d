use Rattle.std.proofs.Common.{◌≡◌, ◌<◌, ℕ, List, length, get_or, arith, refl, subst}
use Rattle.std.specs.List.{Contains}
use Rattle.std.proofs.lemmas.List.{with_items_is}
use Rattle.local_mesh.specs.Lists.{sets_of}
use Rattle.local_mesh.proofs.AtOwners.{owners_step}
use Rattle.local_mesh.proofs.lists.locals_at_owners.Goals as goal

pub loop-rank-preserved : goal.loop-rank-preserved
loop-rank-preserved c =
    let v = c.loop-rank.numbers in
    let n : length c.number_locals.new.numbers ≡ v.len = omega (arith, c.number_locals.auto.numbers, c.deref_mut.ensures.len) in
    let e = with_items_is v c.number_locals.new.numbers n in
    let lr : c.loop-rank.rank < c.args.owners.now.ranks = c.loop-rank-test.true in
    rw e (
      omega (arith, n, v.ok.0, c.loop-rank.invariant.0),
      owners_step c.args.mesh.now c.args.owners.now c.args.meshes.now c.args.set c.loop-rank.rank (sets_of c.args.meshes.now c.loop-rank.rank) v.items c.number_locals.new.numbers c.owned_of.result.now
          (c.requires.held.ranks c.loop-rank.rank lr) refl c.owned_of.ensures c.number_locals.ensures.at
          (subst (λ (z : List ℕ). (y : ℕ) → ¬ Contains c.owned_of.result.now y → get_or c.number_locals.new.numbers y 0 ≡ get_or z y 0) c.deref_mut.ensures.value c.number_locals.ensures.others)
          c.loop-rank.invariant.1,
    )
