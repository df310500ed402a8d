use Rattle.std.proofs.Common.{◌≡◌, ◌<◌, ℕ, true, false, arith, length, refl, sym, ap, ◌∙◌}
use Rattle.mesh_decl.specs.Mesh.{set_count}
use Rattle.mesh_decl.specs.Owners.{owner_of}
use Rattle.local_mesh.proofs.halo_lists.fit.owners_fit.Goals as goal

pub returns-then-not-set_fits : goal.returns-then-not-set_fits
unfolding owner_of
returns-then-not-set_fits c = (
  λ h. (let z : false ≡ true = h in cc),
  λ a. (
      let l : c.loop-set.set < set_count c.args.mesh.now = omega (arith, c.set_count-count.ensures.count, c.loop-set-test.true) in
      let n : length c.of_set.result.now ≡ c.set_size.result = ap (length {A = ℕ}) c.of_set.ensures ∙ (a.lengths c.loop-set.set l ∙ sym c.set_size.ensures) in
      let t : c.set_fits.result ≡ true = c.set_fits.ensures.1 (n, λ x lx. rw c.of_set.ensures (a.below c.loop-set.set x l (rw (← c.set_size.ensures) lx))) in
      let f : c.set_fits.result ≡ false = c.if-not-set_fits.true in
      cc),
)

pub returns : goal.returns
unfolding owner_of
returns c = (
  λ h. record {
    some_rank = omega arith;
    few_ranks = omega arith;
    sets = omega (arith, c.set_count-count.ensures.count, c.if-len-count.false, c.len.ensures);
    lengths = λ s l. (c.loop-set.invariant s (omega (arith, c.set_count-count.ensures.count, c.loop-set-test.false))).0;
    below = λ s x l lx. (c.loop-set.invariant s (omega (arith, c.set_count-count.ensures.count, c.loop-set-test.false))).1 x lx;
  },
  λ a. refl,
)
