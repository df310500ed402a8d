use Rattle.std.proofs.Common.{◌≡◌, ◌<◌, ℕ, arith, length, get_or, set, List, sym, ap, ◌∙◌, ⊎_elim}
use Rattle.std.proofs.lemmas.Bool.{cases_eq}
use Rattle.std.proofs.lemmas.List.{length-set, get_or-set_same, get_or-set_other}
use Rattle.partition.proofs.growth.owners_by_places.Goals as goal

pub loop-place-preserved : goal.loop-place-preserved
loop-place-preserved c =
    let order : List ℕ = c.args.order.now in
    let owners : List ℕ = c.loop-place.owners.items in
    let place : ℕ = c.loop-place.place in
    let rank : ℕ = c.block_owner.result in
    let inv = c.loop-place.invariant in
    let lp : place < length order = omega arith in
    let t : ℕ = get_or order place 0 in
    let lt : t < length owners = rw inv.size (c.requires.within place lp) in
    record {
      size = length-set owners t rank ∙ inv.size;
      below = λ x lx. ⊎_elim
          (λ (e : x ≡ t). rw (e, get_or-set_same owners t rank 0 lt) c.block_owner.ensures.within)
          (λ (e : x ≡ t → ⊥). rw (get_or-set_other owners t x rank 0 e) (inv.below x lx))
          (cases_eq x t);
      owners = λ k i lk b. ⊎_elim
          (λ (e : k ≡ place). ap (λ v. get_or (set owners t rank) (get_or order v 0) 0) e ∙ (get_or-set_same owners t rank 0 lt ∙ sym (c.block_owner.ensures.only i (rw (← e) b))))
          (λ (e : k ≡ place → ⊥). let l : k < place = omega (arith, lk, e) in get_or-set_other owners t (get_or order k 0) rank 0 (c.requires.apart k place l lp) ∙ inv.owners k i l b)
          (cases_eq k place);
    }
