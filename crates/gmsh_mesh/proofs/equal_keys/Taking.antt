-- Taking one key after another.
use Rattle.std.proofs.Common.{◌≡◌, ◌≢◌, ℕ, ◌+◌, ◌<◌, ◌≤◌, ◌∙◌, arith, ⊎_elim, inl, inr, List, length, get_or, set, Option, Some, None, refl, sym, ap, subst, get_or-set_other, get_or-set_same}
use Rattle.std.proofs.lemmas.Bool.{cases_lt, cases_eq}
use Rattle.std.proofs.lemmas.List.{length-set}
use Rattle.gmsh_mesh.specs.Mates.{IsMate, AreMates, AreMatesSoFar, IsSeen, IsThird, IsFirstThird}

-- a key that is not among more keys has the mate that it had
pub mate-more : (keys : List ℕ) (n i m : ℕ) → IsMate keys n i m → (get_or keys n 0 ≡ get_or keys i 0 → ⊥) → IsMate keys (n + 1) i m
mate-more keys n i m h ne = record {
  within = omega (arith, h.within);
  same = h.same;
  others = λ j l e. ⊎_elim
      (λ (a : j < n). h.others j a e)
      (λ (a : n ≤ j). absurd (let s : n ≡ j = omega arith in ne (ap (λ x. get_or keys x 0) s ∙ e)))
      (cases_lt j n);
}

-- a key that was not there has itself
pub mate-self : (keys : List ℕ) (n : ℕ) → IsSeen keys n (get_or keys n 0) None → IsMate keys (n + 1) n n
mate-self keys n ne = record {
  within = omega arith;
  same = refl;
  others = λ j l e. ⊎_elim (λ (a : j < n). absurd (ne j a e)) (λ (a : n ≤ j). inl (omega arith)) (cases_lt j n);
}

-- a key that was there once has that place, and that place has it
pub mate-second : (keys : List ℕ) (n j : ℕ) → IsMate keys n j j → get_or keys j 0 ≡ get_or keys n 0 → IsMate keys (n + 1) n j
mate-second keys n j h same = record {
  within = omega (arith, h.within);
  same = same;
  others = λ i l e. ⊎_elim
      (λ (a : i < n). ⊎_elim (λ (x : i ≡ j). inr x) (λ (x : i ≡ j). inr x) (h.others i a (e ∙ sym same)))
      (λ (a : n ≤ i). inl (omega arith))
      (cases_lt i n);
}

pub mate-first : (keys : List ℕ) (n j : ℕ) → IsMate keys n j j → get_or keys j 0 ≡ get_or keys n 0 → IsMate keys (n + 1) j n
mate-first keys n j h same = record {
  within = omega arith;
  same = sym same;
  others = λ i l e. ⊎_elim
      (λ (a : i < n). ⊎_elim (λ (x : i ≡ j). inl x) (λ (x : i ≡ j). inl x) (h.others i a e))
      (λ (a : n ≤ i). inr (omega arith))
      (cases_lt i n);
}

-- where each key has a mate there is no third
pub no-third : (keys : List ℕ) (n : ℕ) (of : List ℕ) → ((i : ℕ) → i < n → IsMate keys n i (get_or of i 0)) → (k : ℕ) → k < n → IsThird keys k → ⊥
no-third keys n of mates k l t =
    let h = mates k l in
    let a = h.others t.first (omega (arith, t.apart, t.before)) t.first_same in
    let b = h.others t.second (omega (arith, t.before)) t.second_same in
    ⊎_elim
    (λ (x : t.first ≡ k). omega (arith, t.apart, t.before, x))
    (λ (x : t.first ≡ get_or of k 0).
    ⊎_elim
    (λ (y : t.second ≡ k). omega (arith, t.before, y))
    (λ (y : t.second ≡ get_or of k 0). omega (arith, t.apart, x, y))
    b)
    a

-- two places that differ, in front of one with the same key
third-of : (keys : List ℕ) (k i j : ℕ) → k < length keys → i < k → j < k → i ≢ j → get_or keys i 0 ≡ get_or keys k 0 → get_or keys j 0 ≡ get_or keys k 0 → IsThird keys k
third-of keys k i j l li lj ne a b = ⊎_elim
    (λ (x : i < j). record { first = i; second = j; apart = x; before = lj; within = l; first_same = a; second_same = b })
    (λ (x : j ≤ i). record { first = j; second = i; apart = omega arith; before = li; within = l; first_same = b; second_same = a })
    (cases_lt i j)

module _ (keys : List ℕ) (k : ℕ) (seen : List (Option ℕ)) (of : List ℕ) (s : AreMatesSoFar keys k seen of) (l : k < length keys) (small : get_or keys k 0 < length keys) where
  pub take-third : (j : ℕ) → get_or seen (get_or keys k 0) None ≡ Some j → (get_or of j 0 ≡ j → ⊥) → IsFirstThird keys k
  take-third j e ne =
      let found : IsSeen keys k (get_or keys k 0) (Some j) = subst (IsSeen keys k (get_or keys k 0)) e (s.places (get_or keys k 0) small) in
      let h = s.mates j found.0 in
      record {
        third = third-of keys k j (get_or of j 0) l found.0 h.within (λ x. ne (sym x)) found.1 (h.same ∙ found.1);
        none_before = λ i li. no-third keys k of s.mates i li;
      }

  -- what was seen stays seen
  seen-more : (key : ℕ) (o : Option ℕ) → (get_or keys k 0 ≡ key → ⊥) → IsSeen keys k key o → IsSeen keys (k + 1) key o
  seen-more key None ne h = λ i li e. ⊎_elim
      (λ (a : i < k). h i a e)
      (λ (a : k ≤ i). let q : k ≡ i = omega arith in ne (ap (λ x. get_or keys x 0) q ∙ e))
      (cases_lt i k)
  seen-more key (Some j) ne h = (omega (arith, h.0), h.1)

  pub take-new : get_or seen (get_or keys k 0) None ≡ None → AreMatesSoFar keys (k + 1) (set seen (get_or keys k 0) (Some k)) (set of k k)
  take-new e =
      let free : IsSeen keys k (get_or keys k 0) None = subst (IsSeen keys k (get_or keys k 0)) e (s.places (get_or keys k 0) small) in
      let low : get_or keys k 0 < length seen = omega (arith, s.room) in
      let lk : k < length of = omega (arith, s.size) in
      record {
        room = length-set seen (get_or keys k 0) (Some k) ∙ s.room;
        size = length-set of k k ∙ s.size;
        places = λ key h. ⊎_elim
            (λ (a : key ≡ get_or keys k 0).
            subst (IsSeen keys (k + 1) key) (sym (ap (λ x. get_or (set seen (get_or keys k 0) (Some k)) x None) a ∙ get_or-set_same seen (get_or keys k 0) (Some k) None low))
            (omega arith, sym a))
            (λ (a : key ≡ get_or keys k 0 → ⊥).
            subst (IsSeen keys (k + 1) key) (sym (get_or-set_other seen (get_or keys k 0) key (Some k) None a))
            (seen-more key (get_or seen key None) (λ x. a (sym x)) (s.places key h)))
            (cases_eq key (get_or keys k 0));
        mates = λ i h. ⊎_elim
            (λ (a : i ≡ k).
            subst (IsMate keys (k + 1) i) (sym (ap (λ x. get_or (set of k k) x 0) a ∙ get_or-set_same of k k 0 lk))
            (subst (λ x. IsMate keys (k + 1) x k) (sym a) (mate-self keys k free)))
            (λ (a : i ≡ k → ⊥).
            let less : i < k = omega arith in
            subst (IsMate keys (k + 1) i) (sym (get_or-set_other of k i k 0 a))
            (mate-more keys k i (get_or of i 0) (s.mates i less) (λ x. free i less (sym x))))
            (cases_eq i k);
      }

  pub take-second : (j : ℕ) → get_or seen (get_or keys k 0) None ≡ Some j → get_or of j 0 ≡ j → AreMatesSoFar keys (k + 1) seen (set (set of k j) j k)
  take-second j e f =
      let found : IsSeen keys k (get_or keys k 0) (Some j) = subst (IsSeen keys k (get_or keys k 0)) e (s.places (get_or keys k 0) small) in
      let alone : IsMate keys k j j = subst (IsMate keys k j) f (s.mates j found.0) in
      let less : j < k = found.0 in
      let same : get_or keys j 0 ≡ get_or keys k 0 = found.1 in
      let lj : j < length (set of k j) = omega (arith, s.size, length-set of k j) in
      let lk : k < length of = omega (arith, s.size) in
      record {
        room = s.room;
        size = length-set (set of k j) j k ∙ length-set of k j ∙ s.size;
        places = λ key h. ⊎_elim
            (λ (a : key ≡ get_or keys k 0).
            subst (IsSeen keys (k + 1) key) (sym (ap (λ x. get_or seen x None) a ∙ e)) (omega (arith, less), same ∙ sym a))
            (λ (a : key ≡ get_or keys k 0 → ⊥). seen-more key (get_or seen key None) (λ x. a (sym x)) (s.places key h))
            (cases_eq key (get_or keys k 0));
        mates = λ i h. ⊎_elim
            (λ (a : i ≡ j).
            subst (IsMate keys (k + 1) i) (sym (ap (λ x. get_or (set (set of k j) j k) x 0) a ∙ get_or-set_same (set of k j) j k 0 lj))
            (subst (λ x. IsMate keys (k + 1) x k) (sym a) (mate-first keys k j alone same)))
            (λ (a : i ≡ j → ⊥).
            subst (IsMate keys (k + 1) i) (sym (get_or-set_other (set of k j) j i k 0 a))
            (⊎_elim
            (λ (b : i ≡ k).
            subst (IsMate keys (k + 1) i) (sym (ap (λ x. get_or (set of k j) x 0) b ∙ get_or-set_same of k j 0 lk))
            (subst (λ x. IsMate keys (k + 1) x j) (sym b) (mate-second keys k j alone same)))
            (λ (b : i ≡ k → ⊥).
            let li : i < k = omega arith in
            subst (IsMate keys (k + 1) i) (sym (get_or-set_other of k i j 0 b))
            (mate-more keys k i (get_or of i 0) (s.mates i li) (λ x. ⊎_elim a a (alone.others i li (sym x ∙ sym same)))))
            (cases_eq i k)))
            (cases_eq i j);
      }

pub all-taken : (keys : List ℕ) (k : ℕ) (seen : List (Option ℕ)) (of : List ℕ) → k ≡ length keys → AreMatesSoFar keys k seen of → AreMates keys of
all-taken keys k seen of e s = record { size = s.size; mates = λ i l. subst (λ n. IsMate keys n i (get_or of i 0)) e (s.mates i (omega arith)) }
