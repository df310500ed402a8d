use Rattle.std.proofs.Common.{◌&&◌, ℕ, List, length, ap, ◌∙◌, arith}
use Rattle.std.specs.Prelude.{not}
use Rattle.std.proofs.lemmas.List.{length_push}
use Rattle.lemmas.specs.Below.{listed}
use Rattle.local_mesh.specs.RankSet.{has_at}
use Rattle.local_mesh.specs.declared.rank_sets.rank_set.RankSet.{RankSet}
use Rattle.mesh_decl.specs.Mesh.{set_size, dat_set}
use Rattle.bound_program.specs.Values.{bound_of}
use Rattle.chain_model.specs.Slices.{owns_pair}
use Rattle.chain_needs.specs.PairSets.{pairs_of}
use Rattle.local_mesh.proofs.Public.{lengths_more}
use Rattle.chain_needs.proofs.chain_slices.Listing.{listed_others, lists_more}
use Rattle.chain_needs.proofs.chain_slices.lists.copies_of.Goals as goal

pub loop-dat-preserved : goal.loop-dat-preserved
loop-dat-preserved c =
    let b = bound_of c.args.bound.now in
    let o = c.args.owners.now in
    let d = c.loop-dat.dat in
    let size = λ (a : ℕ). set_size b.mesh (dat_set b.mesh a) in
    let p = λ (a y r : ℕ). pairs_of c.args.needed.now r a y && not (owns_pair b o r a y) in
    let xs = c.loop-dat.all.items in
    let v = c.in_ok-places_by_rank.field-0 in
    rw c.in_ok-push.ensures.items (record {
      count = omega (arith, length_push xs v, c.loop-dat.invariant.count);
      ranks = lengths_more xs v d o.ranks c.loop-dat.invariant.count c.in_ok-places_by_rank.ensures.length c.loop-dat.invariant.ranks;
      copies = lists_more xs v d o.ranks (λ a r. listed (size a) (λ y. p a y r)) c.loop-dat.invariant.count
          (λ r l. c.in_ok-places_by_rank.ensures.lists r l
          ∙ (ap (λ (z : List RankSet). listed (length z) (λ x. has_at z x r)) c.deref.ensures.value
          ∙ listed_others c.in_ok-others.others.items (size d) o.ranks r (λ y q. p d y q) c.in_ok-others.ensures.length c.in_ok-others.ensures.has c.requires.owners.few_ranks l))
          c.loop-dat.invariant.copies;
    })
