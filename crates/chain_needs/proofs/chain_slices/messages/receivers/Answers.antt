use Rattle.std.proofs.Common.{◌≡◌, ◌&&◌, ◌||◌, ℕ, List, length, refl, ap, ◌∙◌, arith}
use Rattle.std.specs.Prelude.{not}
use Rattle.std.proofs.lemmas.List.{with_items_is}
use Rattle.lemmas.specs.Below.{any_below}
use Rattle.local_mesh.specs.RankSet.{has_at}
use Rattle.local_mesh.specs.declared.rank_sets.rank_set.RankSet.{RankSet}
use Rattle.mesh_decl.specs.Mesh.{set_size, dat_set}
use Rattle.bound_program.specs.Values.{bound_of}
use Rattle.chain_model.specs.Slices.{owns_pair}
use Rattle.chain_needs.specs.PairSets.{pairs_of}
use Rattle.chain_needs.proofs.chain_slices.Listing.{received_more}
use Rattle.chain_needs.proofs.chain_slices.messages.receivers.Goals as goal

pub loop-dat-preserved : goal.loop-dat-preserved
loop-dat-preserved c =
    let b = bound_of c.args.bound.now in
    let o = c.args.owners.now in
    let d = c.loop-dat.dat in
    let v = c.loop-dat.to in
    let size = λ (a : ℕ). set_size b.mesh (dat_set b.mesh a) in
    let n : length c.add_dat.new.to ≡ v.len = omega (arith, c.add_dat.auto.to, c.deref_mut.ensures.len) in
    let same : length c.add_dat.new.to ≡ o.ranks = omega (arith, v.ok.0, c.loop-dat.invariant.0) in
    rw (with_items_is v c.add_dat.new.to n) (
      same,
      λ s r lr. received_more (has_at v.items s r) (has_at c.add_dat.new.to s r) d (size d) c.in_ok-others.others.items r
          (λ a y. pairs_of c.args.needed.now r a y && not (owns_pair b o r a y)) (λ a y. owns_pair b o s a y)
          c.in_ok-others.ensures.length (λ y l. c.in_ok-others.ensures.has y r l lr) size refl (c.loop-dat.invariant.1 s r lr)
          (c.add_dat.ensures s r
          ∙ (ap (λ (z : List RankSet). has_at z s r || any_below (length c.deref.result.now) (λ y. has_at c.deref.result.now y r && owns_pair b o s d y)) c.deref_mut.ensures.value
          ∙ ap (λ (z : List RankSet). has_at v.items s r || any_below (length z) (λ y. has_at z y r && owns_pair b o s d y)) c.deref.ensures.value)),
    )
