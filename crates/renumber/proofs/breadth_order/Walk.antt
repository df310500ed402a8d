-- A breadth-first walk takes, at each place, the next element.
use Rattle.std.proofs.Common.{◌≡◌, ℕ, suc, ◌+◌, ◌<◌, ◌≤◌, Bool, true, false, not, cond, List, [], ◌∷◌, ◌++◌, length, take, get_or, set, sym, ap, ◌∙◌, arith, inl, inr, ⊎_elim, subst, refl}
use Rattle.std.specs.List.{count_by, Contains}
use Rattle.std.proofs.lemmas.Bool.{cases_Bool, cases_eq, cases_lt, false_from_ne_true}
use Rattle.std.proofs.lemmas.List.{length_push, length-set, get_or_push, get_or_append_left, get_or-set_same, get_or-set_other, take-append-le, take_all, get_or_default}
use Rattle.std.proofs.lemmas.List.Elements.{Contains-append_left, Contains-push}
use Rattle.std.proofs.lemmas.List.Sums.{sum_by-set, sum_by-cons, position_or_len_is, passes_at_first}
use Rattle.renumber.specs.Taken.{earliest, IsNext, IsTaken, IsWalk, Rises}
use Rattle.lemmas.proofs.Truth.{not_both}

module _ (n : ℕ) (near : ℕ → ℕ → Bool) where
  -- the place of the earliest neighbour
  pub earliest_is : (taken : List ℕ) (y h : ℕ) → h < length taken → ((j : ℕ) → j < h → near (get_or taken j 0) y ≡ false) → near (get_or taken h 0) y ≡ true → earliest near taken y ≡ h
  unfolding earliest
  earliest_is taken y h l before here = position_or_len_is (λ x. near x y) taken h 0 (omega arith) before (λ _. here)

  pub earliest_none : (taken : List ℕ) (y : ℕ) → ((j : ℕ) → j < length taken → near (get_or taken j 0) y ≡ false) → earliest near taken y ≡ length taken
  unfolding earliest
  earliest_none taken y before = position_or_len_is (λ x. near x y) taken (length taken) 0 (omega arith) before (λ l. absurd (omega arith))

  pub earliest_at : (taken : List ℕ) (y : ℕ) → earliest near taken y < length taken → near (get_or taken (earliest near taken y) 0) y ≡ true
  unfolding earliest
  earliest_at taken y l = passes_at_first (λ x. near x y) taken 0 l

  pub earliest_ge : (taken : List ℕ) (y h : ℕ) → h ≤ length taken → ((j : ℕ) → j < h → near (get_or taken j 0) y ≡ false) → h ≤ earliest near taken y
  earliest_ge taken y h l before = ⊎_elim
      (λ (m : earliest near taken y < h). absurd (not_both (near (get_or taken (earliest near taken y) 0) y) (earliest_at taken y (omega arith)) (before (earliest near taken y) m)))
      (λ (m : h ≤ earliest near taken y). m)
      (cases_lt (earliest near taken y) h)

  -- what isn't marked isn't taken, and is no neighbour of those whose neighbours are all marked
  pub unmarked : (order : List ℕ) (seen : List Bool) (h y : ℕ) → IsWalk n near order seen h → y < n → (Contains order y → ⊥) → get_or seen y false ≡ false
  unmarked order seen h y w l absent = false_from_ne_true (get_or seen y false) (λ t. absent (w.taken y l t))

  pub untaken : (order : List ℕ) (seen : List Bool) (h z : ℕ) → IsWalk n near order seen h → get_or seen z false ≡ false → Contains order z → ⊥
  untaken order seen h z w f c = not_both (get_or seen z false) (subst (λ q. get_or seen q false ≡ true) (slice_is order z c) (w.marked c.0 c.1)) f
    where
      slice_is : (order : List ℕ) (z : ℕ) (c : Contains order z) → get_or order c.0 0 ≡ z
      slice_is order z c = get_or_default order c.0 0 z c.1 ∙ c.2

  far : (order : List ℕ) (seen : List Bool) (h y : ℕ) → IsWalk n near order seen h → h ≤ length order → y < n → get_or seen y false ≡ false → (j : ℕ) → j < h → near (get_or order j 0) y ≡ false
  far order seen h y w lh l f j lj = false_from_ne_true (near (get_or order j 0) y) (λ t. not_both (get_or seen y false) (w.closed j y lj (omega arith) l t) f)

  -- one more element taken
  pub taken_push : (key : ℕ → ℕ) (order : List ℕ) (z : ℕ) → IsTaken n near key order → IsNext n near key order z → IsTaken n near key (order ++ z ∷ [])
  taken_push key order z h next k l = ⊎_elim
      (λ (e : k ≡ length order).
      let a : take k (order ++ z ∷ []) ≡ order = take-append-le k order (z ∷ []) (omega arith) ∙ take_all k order (omega arith) in
      let b : get_or (order ++ z ∷ []) k 0 ≡ z = get_or_push order z 0 k (sym e) in
      subst (λ (q : List ℕ). IsNext n near key q (get_or (order ++ z ∷ []) k 0)) (sym a) (subst (λ q. IsNext n near key order q) (sym b) next))
      (λ (e : k ≡ length order → ⊥).
      let p = length_push order z in
      let lk : k < length order = omega arith in
      let a : take k (order ++ z ∷ []) ≡ take k order = take-append-le k order (z ∷ []) (omega arith) in
      let b : get_or (order ++ z ∷ []) k 0 ≡ get_or order k 0 = get_or_append_left order (z ∷ []) 0 k lk in
      subst (λ (q : List ℕ). IsNext n near key q (get_or (order ++ z ∷ []) k 0)) (sym a) (subst (λ q. IsNext n near key (take k order) q) (sym b) (h k lk)))
      (cases_eq k (length order))

  -- a start that isn't marked comes next where all neighbours of those taken are marked
  pub next_start : (key : ℕ → ℕ) (order : List ℕ) (seen : List Bool) (starts : List ℕ) (i : ℕ) → IsWalk n near order seen (length order)
      → i < length starts → get_or starts i 0 < n → get_or seen (get_or starts i 0) false ≡ false → ((y : ℕ) → y < n → Contains starts y)
      → ((j : ℕ) → j < i → get_or seen (get_or starts j 0) false ≡ true) → Rises key starts → IsNext n near key order (get_or starts i 0)
  next_start key order seen starts i w li lz f all done rises = record {
    within = lz;
    new = untaken order seen (length order) (get_or starts i 0) w f;
    least = λ y ly absent. (
        let g : get_or seen y false ≡ false = unmarked order seen (length order) y w ly absent in
        let c = all y ly in
        let e : get_or starts c.0 0 ≡ y = get_or_default starts c.0 0 y c.1 ∙ c.2 in
        let le : i ≤ c.0 = ⊎_elim (λ (m : c.0 < i). absurd (not_both (get_or seen y false) (subst (λ q. get_or seen q false ≡ true) e (done c.0 m)) g)) (λ (m : i ≤ c.0). m) (cases_lt c.0 i) in
        inr (
          earliest_none order (get_or starts i 0) (far order seen (length order) (get_or starts i 0) w (omega arith) lz f)
              ∙ sym (earliest_none order y (far order seen (length order) y w (omega arith) ly g)),
          subst (λ q. key (get_or starts i 0) ≤ key q) e (rises i c.0 le c.1),
        ));
  }

  -- marks after one more
  marked_more : (seen : List Bool) (z y : ℕ) → z < length seen → get_or seen y false ≡ true → get_or (set seen z true) y false ≡ true
  marked_more seen z y l t = ⊎_elim
      (λ (e : y ≡ z). rw e (get_or-set_same seen z true false l))
      (λ (e : y ≡ z → ⊥). get_or-set_other seen z y true false e ∙ t)
      (cases_eq y z)

  pub walk_push : (order : List ℕ) (seen : List Bool) (h z : ℕ) → IsWalk n near order seen h → h ≤ length order → z < n
      → get_or seen z false ≡ false → IsWalk n near (order ++ z ∷ []) (set seen z true) h
  walk_push order seen h z w lh lz f =
      let lseen : z < length seen = rw w.size lz in
      let p = length_push order z in
      record {
        size = length-set seen z true ∙ w.size;
        count = (
            let v : cond {A = ℕ} (not (get_or seen z false)) 1 0 ≡ 1 = ap (λ b. cond {A = ℕ} (not b) 1 0) f in
            let s : count_by (λ b. not b) (set seen z true) + cond {A = ℕ} (not (get_or seen z false)) 1 0 ≡ count_by (λ b. not b) seen +
            0 = sum_by-set (λ b. cond {A = ℕ} (not b) 1 0) seen z true false lseen in
            omega (arith, w.count));
        within = λ k l. ⊎_elim
            (λ (e : k ≡ length order). rw (get_or_push order z 0 k (sym e)) lz)
            (λ (e : k ≡ length order → ⊥). let lk : k < length order = omega arith in rw (get_or_append_left order (z ∷ []) 0 k lk) (w.within k lk))
            (cases_eq k (length order));
        marked = λ k l. ⊎_elim
            (λ (e : k ≡ length order). rw (get_or_push order z 0 k (sym e)) (get_or-set_same seen z true false lseen))
            (λ (e : k ≡ length order → ⊥). let lk : k < length order = omega arith in rw (get_or_append_left order (z ∷ []) 0 k lk) (marked_more seen z (get_or order k 0) lseen (w.marked k lk)))
            (cases_eq k (length order));
        taken = λ y l t. ⊎_elim
            (λ (e : y ≡ z). subst (λ q. Contains (order ++ z ∷ []) q) (sym e) (Contains-push order z))
            (λ (e : y ≡ z → ⊥). Contains-append_left order (z ∷ []) y (w.taken y l (sym (get_or-set_other seen z y true false e) ∙ t)))
            (cases_eq y z);
        closed = λ j y lj l ly t. (
            let lo : j < length order = omega arith in
            marked_more seen z y lseen (w.closed j y lj lo ly (subst (λ q. near q y ≡ true) (get_or_append_left order (z ∷ []) 0 j lo) t)));
      }

-- what isn't marked now wasn't marked before
pub before : (old new : List Bool) (y : ℕ) → ((y : ℕ) → get_or old y false ≡ true → get_or new y false ≡ true) → get_or new y false ≡ false → get_or old y false ≡ false
before old new y kept f = false_from_ne_true (get_or old y false) (λ t. not_both (get_or new y false) (kept y t) f)

-- the first neighbour of place h that isn't marked comes next, where all neighbours of earlier places are marked
pub next_near : (n : ℕ) (near : ℕ → ℕ → Bool) (key : ℕ → ℕ) (order : List ℕ) (seen : List Bool) (h i : ℕ) (items : List ℕ)
    → IsWalk n near order seen h → h < length order → i < length items → get_or items i 0 < n
    → near (get_or order h 0) (get_or items i 0) ≡ true → get_or seen (get_or items i 0) false ≡ false
    → ((y : ℕ) → near (get_or order h 0) y ≡ true → get_or seen y false ≡ false → Contains items y)
    → ((j : ℕ) → j < i → get_or seen (get_or items j 0) false ≡ true) → Rises key items → IsNext n near key order (get_or items i 0)
next_near n near key order seen h i items w lh li lz nz f all done rises =
    let z : ℕ = get_or items i 0 in
    let ez : earliest near order z ≡ h = earliest_is n near order z h lh (far n near order seen h z w (omega arith) lz f) nz in
    record {
      within = lz;
      new = untaken n near order seen h z w f;
      least = λ y ly absent. (
          let g : get_or seen y false ≡ false = unmarked n near order seen h y w ly absent in
          let ge : h ≤ earliest near order y = earliest_ge n near order y h (omega arith) (far n near order seen h y w (omega arith) ly g) in
          ⊎_elim
          (λ (m : h < earliest near order y). inl (omega arith))
          (λ (m : earliest near order y ≤ h).
          let e : earliest near order y ≡ h = omega arith in
          let t : near (get_or order h 0) y ≡ true = subst (λ q. near (get_or order q 0) y ≡ true) e (earliest_at n near order y (omega arith)) in
          let k = all y t g in
          let at : get_or items k.0 0 ≡ y = get_or_default items k.0 0 y k.1 ∙ k.2 in
          let le : i ≤ k.0 = ⊎_elim (λ (q : k.0 < i). absurd (not_both (get_or seen y false) (subst (λ v. get_or seen v false ≡ true) at (done k.0 q)) g)) (λ (q : i ≤ k.0). q) (cases_lt k.0 i) in
          inr (ez ∙ sym e, subst (λ v. key z ≤ key v) at (rises i k.0 le k.1)))
          (cases_lt h (earliest near order y)));
    }

-- all that weren't marked before and stand in a list are marked
pub all_done : (near : ℕ → Bool) (old new : List Bool) (items : List ℕ)
    → ((y : ℕ) → near y ≡ true → get_or old y false ≡ false → Contains items y)
    → ((y : ℕ) → get_or old y false ≡ true → get_or new y false ≡ true)
    → ((i : ℕ) → i < length items → get_or new (get_or items i 0) false ≡ true) → (y : ℕ) → near y ≡ true → get_or new y false ≡ true
all_done near old new items all kept done y t = ⊎_elim
    (λ (o : get_or old y false ≡ true). kept y o)
    (λ (o : get_or old y false ≡ false).
    let k = all y t o in
    subst (λ v. get_or new v false ≡ true) (get_or_default items k.0 0 y k.1 ∙ k.2) (done k.0 k.1))
    (cases_Bool (get_or old y false))

-- all neighbours of one more place are marked
pub walk_closed : (n : ℕ) (near : ℕ → ℕ → Bool) (order : List ℕ) (seen : List Bool) (h : ℕ) → IsWalk n near order seen h
    → ((y : ℕ) → near (get_or order h 0) y ≡ true → get_or seen y false ≡ true) → IsWalk n near order seen (h + 1)
walk_closed n near order seen h w done = record {
  size = w.size;
  count = w.count;
  within = w.within;
  marked = w.marked;
  taken = w.taken;
  closed = λ j y lj l ly t. ⊎_elim
      (λ (e : j ≡ h). done y (subst (λ q. near (get_or order q 0) y ≡ true) e t))
      (λ (e : j ≡ h → ⊥). w.closed j y (omega arith) l ly t)
      (cases_eq j h);
}

-- marks stay, and one more neighbour is marked
pub marked_set : (seen : List Bool) (z y : ℕ) → z < length seen → get_or seen y false ≡ true → get_or (set seen z true) y false ≡ true
marked_set seen z y l t = ⊎_elim
    (λ (e : y ≡ z). rw e (get_or-set_same seen z true false l))
    (λ (e : y ≡ z → ⊥). get_or-set_other seen z y true false e ∙ t)
    (cases_eq y z)

pub done_set : (seen : List Bool) (items : List ℕ) (i : ℕ) → get_or items i 0 < length seen
    → ((j : ℕ) → j < i → get_or seen (get_or items j 0) false ≡ true) → (j : ℕ) → j < i + 1
    → get_or (set seen (get_or items i 0) true) (get_or items j 0) false ≡ true
done_set seen items i l h j lj = ⊎_elim
    (λ (e : j ≡ i). rw e (get_or-set_same seen (get_or items i 0) true false l))
    (λ (e : j ≡ i → ⊥). marked_set seen (get_or items i 0) (get_or items j 0) l (h j (omega arith)))
    (cases_eq j i)

pub done_more : (seen : List Bool) (items : List ℕ) (i : ℕ) → get_or seen (get_or items i 0) false ≡ true
    → ((j : ℕ) → j < i → get_or seen (get_or items j 0) false ≡ true) → (j : ℕ) → j < i + 1 → get_or seen (get_or items j 0) false ≡ true
done_more seen items i t h j lj = ⊎_elim
    (λ (e : j ≡ i). rw e t)
    (λ (e : j ≡ i → ⊥). h j (omega arith))
    (cases_eq j i)

-- where all are marked, none is left to count
pub none_left : (seen : List Bool) → ((y : ℕ) → y < length seen → get_or seen y false ≡ true) → count_by (λ b. not b) seen ≡ 0
none_left [] h = refl
none_left (b ∷ bs) h =
    let e : b ≡ true = h 0 (omega arith) in
    let v : cond {A = ℕ} (not b) 1 0 ≡ 0 = ap (λ z. cond {A = ℕ} (not z) 1 0) e in
    let r : count_by (λ b. not b) bs ≡ 0 = none_left bs (λ y l. h (suc y) (omega arith)) in
    let s : count_by (λ b. not b) (b ∷ bs) ≡ cond {A = ℕ} (not b) 1 0 + count_by (λ b. not b) bs = sum_by-cons (λ b. cond {A = ℕ} (not b) 1 0) b bs in
    omega arith

-- all are marked once all starts are
pub all_marked : (n : ℕ) (starts : List ℕ) (seen : List Bool) → ((y : ℕ) → y < n → Contains starts y)
    → ((i : ℕ) → i < length starts → get_or seen (get_or starts i 0) false ≡ true) → (y : ℕ) → y < n → get_or seen y false ≡ true
all_marked n starts seen all done y l =
    let c = all y l in
    subst (λ q. get_or seen q false ≡ true) (get_or_default starts c.0 0 y c.1 ∙ c.2) (done c.0 c.1)
