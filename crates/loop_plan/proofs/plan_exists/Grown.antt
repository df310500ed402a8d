-- Owners by growth over neighbours.
use Rattle.std.proofs.Common.{◌≡◌, ◌<◌, ℕ, Bool, List, length, get_or, take, drop, refl, sym, ap, ◌∙◌, subst, arith}
use Rattle.std.proofs.lemmas.List.{length-take-le, get_or_default}
use Rattle.renumber.specs.Taken.{earliest}
use Rattle.partition.specs.Block.{block_start}
use Rattle.partition.specs.Grow.{IsNextFree, IsGrown}
use Rattle.renumber.proofs.Public.{numbering_from}
use Rattle.loop_plan.proofs.plan_exists.Built.{table, length_table, table_at}
use Rattle.loop_plan.proofs.plan_exists.Found.{found, found_at}
use Rattle.loop_plan.proofs.plan_exists.Turns.{IsNextOf, IsWhole, whole}
use Rattle.loop_plan.proofs.plan_exists.Blocks.{block_of, only_block, block_below}

module _ (ranks : ℕ) (some : 0 < ranks) (n : ℕ) (near : ℕ → ℕ → Bool) where
  -- the place of y's earliest neighbour among those of rank i
  near_mine : List ℕ → ℕ → ℕ → ℕ
  near_mine taken i y = earliest near (drop (block_start n ranks i) taken) y

  -- the same of the rank that takes an element next
  nearest : List ℕ → ℕ → ℕ
  nearest taken y = near_mine taken (block_of ranks some n (length taken)) y

  itself : ℕ → ℕ
  itself y = y

  order : List ℕ
  order = (whole n nearest itself).0

  is_whole : IsWhole n nearest itself order
  unfolding order
  is_whole = (whole n nearest itself).1

  next : (taken : List ℕ) (z i : ℕ) → block_of ranks some n (length taken) ≡ i → IsNextOf n nearest itself taken z → IsNextFree n near taken (drop (block_start n ranks i) taken) z
  unfolding nearest near_mine itself
  next taken z i e h = subst (λ w. IsNextFree n near taken (drop (block_start n ranks w) taken) z) e (record { within = h.within; new = h.new; least = h.least })

  -- the rank at whose places an element stands
  owner : ℕ → ℕ
  owner y = block_of ranks some n (found y order)

  pub grown_list : List ℕ
  grown_list = table n owner

  pub length_grown : length grown_list ≡ n
  unfolding grown_list
  length_grown = length_table n owner

  place_is : (k : ℕ) → k < n → found (get_or order k 0) order ≡ k
  place_is k l =
      let c = is_whole.count in
      let f = found_at (get_or order k 0) order k (omega arith) refl in
      (numbering_from n order c is_whole.within is_whole.all).distinct (found (get_or order k 0) order) k (let a = f.0 in omega arith) l f.1

  pub grown_below : (x : ℕ) → x < n → get_or grown_list x 0 < ranks
  unfolding grown_list owner
  grown_below x l =
      let c = is_whole.count in
      let h = is_whole.all x l in
      let f = found_at x order h.0 h.1 (get_or_default order h.0 0 x h.1 ∙ h.2) in
      subst (λ z. z < ranks) (sym (table_at n owner x 0 l)) (block_below ranks some n (found x order) (let a = f.0 in omega arith))

  pub is_grown : IsGrown n ranks near (λ y. get_or grown_list y 0)
  unfolding grown_list owner
  is_grown = record {
    order = order;
    all = is_whole.count;
    next = λ k i l b. (
        let t = is_whole.in_turn k l in
        let e = length-take-le k order (omega arith) in
        let c = is_whole.count in
        let same : block_of ranks some n (length (take k order)) ≡ i = ap (block_of ranks some n) e ∙ sym (only_block ranks some n k i (omega arith) b) in
        next (take k order) (get_or order k 0) i same t);
    owners = λ k i l b. (
        let c = is_whole.count in
        table_at n owner (get_or order k 0) 0 (is_whole.within k (omega arith))
        ∙ (ap (block_of ranks some n) (place_is k l) ∙ sym (only_block ranks some n k i l b)));
  }
