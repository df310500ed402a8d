-- From lists parted in no stated order to cuts, whose parts are in order.
use Rattle.std.proofs.Common.{◌≡◌, ◌≢◌, ◌∙◌, ℕ, ℤ, zero, suc, ◌+◌, ◌-◌, ◌/◌, ◌<◌, ◌≤◌, nat_eq, List, ◌++◌, length, get_or, take, drop, arith, ap, sym, subst, inl, inr, ⊎_elim}
use Rattle.std.specs.List.{Contains, count_by}
use Rattle.std.specs.List.Sorted.{IsPermutation}
use Rattle.std.proofs.lemmas.Bool.{cases_lt}
use Rattle.std.proofs.lemmas.List.{get_or_default, get_or_append_left, get_or-append-add, get_or-take, get_or-drop, length-append, length-drop, length-take-le, take-append-drop}
use Rattle.std.proofs.lemmas.List.Sorted.{All-permutation, Contains-permutation, length_permutation, IsPermutation-sym, IsPermutation-trans, IsPermutation-append}
use Rattle.partition.specs.Block.{block_start}
use Rattle.partition.specs.Bisect.{height, IsSpread, IsAxis, IsCut, IsHalved}
use Rattle.partition.specs.Parted.{IsParted}
use Rattle.partition.proofs.Parts.{halved_both}
use Rattle.partition.proofs.Sorting.{Before, InOrder, sorted_from}

-- ---- lists with the same elements

each_of : (P : ℕ → Type 0) (xs ys : List ℕ) → IsPermutation xs ys → ((k : ℕ) → k < length xs → P (get_or xs k 0)) → (k : ℕ) → k < length ys → P (get_or ys k 0)
each_of P xs ys perm h k l = All-permutation P xs ys perm (λ j d m. subst P (get_or_default xs j 0 d m) (h j m)) k 0 l

-- they have the same spreads
spread_of : (values : List ℤ) (dim a : ℕ) (xs ys : List ℕ) (d : ℕ) → IsPermutation xs ys → IsSpread values dim a xs d → IsSpread values dim a ys d
spread_of values dim a xs ys d perm s =
    let at : (k : ℕ) → k < length xs → Contains ys (get_or xs k 0) = λ k l. Contains-permutation xs ys (get_or xs k 0) perm (k, l, get_or_default xs k (get_or xs k 0) 0 l) in
    let h = at s.high s.high_in in
    let w = at s.low s.low_in in
    let hi : get_or ys h.0 0 ≡ get_or xs s.high 0 = get_or_default ys h.0 0 (get_or xs s.high 0) h.1 ∙ h.2 in
    let lo : get_or ys w.0 0 ≡ get_or xs s.low 0 = get_or_default ys w.0 0 (get_or xs s.low 0) w.1 ∙ w.2 in
    record {
      most = λ i j li lj. each_of (λ x. height values dim a (get_or ys i 0) ≤ height values dim a x + d) xs ys perm
          (λ k lk. each_of (λ x. height values dim a x ≤ height values dim a (get_or xs k 0) + d) xs ys perm (λ m lm. s.most m k lm lk) i li) j lj;
      high = h.0;
      low = w.0;
      high_in = h.1;
      low_in = w.1;
      reached = ap (height values dim a) hi ∙ (s.reached ∙ ap (λ z. height values dim a z + d) (sym lo));
    }

axis_of : (values : List ℤ) (dim : ℕ) (xs ys : List ℕ) (a : ℕ) → IsPermutation xs ys → IsAxis values dim xs a → IsAxis values dim ys a
axis_of values dim xs ys a perm h =
    let back : IsPermutation ys xs = IsPermutation-sym xs ys perm in
    record {
      within = h.within;
      spread = h.spread;
      is = spread_of values dim a xs ys h.spread perm h.is;
      most = λ b d l s. h.most b d l (spread_of values dim b ys xs d back s);
      first = λ b d l s. h.first b d l (spread_of values dim b ys xs d back s);
    }

cut_of : (values : List ℤ) (dim many : ℕ) (xs ys lower upper : List ℕ) → IsPermutation xs ys → IsCut values dim many xs lower upper → IsCut values dim many ys lower upper
cut_of values dim many xs ys lower upper perm h = record {
  axis = h.axis;
  longest = axis_of values dim xs ys h.axis perm h.longest;
  along = record { same = IsPermutation-trans ys xs (lower ++ upper) (IsPermutation-sym xs ys perm) h.along.same; rises = h.along.rises };
  count = h.count;
}

-- they are halved the same
pub halved_of : (depth n ranks : ℕ) (values : List ℤ) (dim : ℕ) (f : ℕ → ℕ) (lo many : ℕ) (xs ys : List ℕ) → IsPermutation xs ys
    → IsHalved depth n ranks values dim f lo many xs → IsHalved depth n ranks values dim f lo many ys
halved_of zero n ranks values dim f lo many xs ys perm h = h
halved_of (suc depth) n ranks values dim f lo many xs ys perm h = ⊎_elim
    (λ o. inl (o.0, each_of (λ x. f x ≡ lo) xs ys perm o.1))
    (λ r. inr (⊎_elim
    (λ z. inl (length_permutation xs ys perm ∙ z))
    (λ t. inr (t.0, t.1, t.2, cut_of values dim (block_start n ranks (lo + many / 2) - block_start n ranks lo) xs ys t.1 t.2 perm t.3, t.4, t.5))
    r))
    h

-- ---- a parted list

-- its parts in order are a cut
pub parted_cut : (values : List ℤ) (dim many : ℕ) (xs ys : List ℕ) → many ≤ length xs → IsParted values dim many xs ys → (lower : List ℕ)
    × (upper : List ℕ) × IsCut values dim many xs lower upper × IsPermutation (take many ys) lower × IsPermutation (drop many ys) upper
parted_cut values dim many xs ys l h =
    let key : ℕ → ℕ = height values dim h.axis in
    let front : List ℕ = take many ys in
    let back : List ℕ = drop many ys in
    let p = sorted_from key front in
    let q = sorted_from key back in
    let n : length ys ≡ length xs = length_permutation xs ys h.along.same in
    let nf : length front ≡ many = length-take-le many ys (omega (arith, l, n)) in
    let nb = length-drop many ys in
    let nl : length p.0 ≡ many = length_permutation front p.0 p.1 ∙ nf in
    let split : IsPermutation ys (p.0 ++ q.0) = subst (λ (z : List ℕ). IsPermutation z (p.0 ++ q.0)) (take-append-drop many ys) (IsPermutation-append front p.0 back q.0 p.1 q.1) in
    let across : (i : ℕ) → i < length p.0 → (j : ℕ) → j < length q.0 → Before key (get_or p.0 i 0) (get_or q.0 j 0) =
    λ i li. each_of (λ y. Before key (get_or p.0 i 0) y) back q.0 q.1
    (λ j lj. each_of (λ x. Before key x (get_or back j 0)) front p.0 p.1
    (λ k lk. parted_before key many ys h.along.before k (omega (arith, lk, nf)) j (omega (arith, lj, nb))) i li) in (
      p.0,
      q.0,
      record {
        axis = h.axis;
        longest = h.longest;
        along = record { same = IsPermutation-trans xs ys (p.0 ++ q.0) h.along.same split; rises = joined_order key p.0 q.0 p.2 q.2 across };
        count = nl;
      },
      p.1,
      q.1,
    )
  where
    parted_before : (key : ℕ → ℕ) (many : ℕ) (ys : List ℕ)
        → ((i j : ℕ) → i < many → many ≤ j → j < length ys → Before key (get_or ys i 0) (get_or ys j 0)) → (k : ℕ) → k < many → (j : ℕ)
        → j < length ys - many → Before key (get_or (take many ys) k 0) (get_or (drop many ys) j 0)
    parted_before key many ys b k lk j lj = rw (get_or-take many ys k 0 lk, get_or-drop many ys j 0) (b k (many + j) lk (omega arith) (omega arith))

    joined_order : (key : ℕ → ℕ) (lower upper : List ℕ) → InOrder key lower → InOrder key upper
        → ((i : ℕ) → i < length lower → (j : ℕ) → j < length upper → Before key (get_or lower i 0) (get_or upper j 0))
        → InOrder key (lower ++ upper)
    joined_order key lower upper low high across i j l m =
        let n = length-append lower upper in
        ⊎_elim
        (λ (a : j < length lower). let li : i < length lower = omega arith in rw (get_or_append_left lower upper 0 i li, get_or_append_left lower upper 0 j a) (low i j l a))
        (λ (a : length lower ≤ j).
        let sj : length lower + (j - length lower) ≡ j = omega arith in
        let lj : j - length lower < length upper = omega arith in
        let ej : get_or (lower ++ upper) j 0 ≡ get_or upper (j - length lower) 0 = ap (λ z. get_or (lower ++ upper) z 0) (sym sj) ∙ get_or-append-add lower upper (j - length lower) 0 in
        ⊎_elim
        (λ (b : i < length lower). rw (get_or_append_left lower upper 0 i b, ej) (across i b (j - length lower) lj))
        (λ (b : length lower ≤ i).
        let si : length lower + (i - length lower) ≡ i = omega arith in
        let ei : get_or (lower ++ upper) i 0 ≡ get_or upper (i - length lower) 0 = ap (λ z. get_or (lower ++ upper) z 0) (sym si) ∙ get_or-append-add lower upper (i - length lower) 0 in
        rw (ei, ej) (high (i - length lower) (j - length lower) (omega arith) lj))
        (cases_lt i (length lower)))
        (cases_lt j (length lower))

-- its parts in one list
pub parted_parts : (values : List ℤ) (dim many : ℕ) (xs ys lower upper : List ℕ) → IsParted values dim many xs ys → lower ≡ take many ys → upper ≡ drop many ys → IsPermutation xs (lower ++ upper)
parted_parts values dim many xs ys lower upper h p q = rw (p, q, take-append-drop many ys) h.along.same

-- after the lower part has its owners, and then the upper
pub halved_parted : (depth n ranks : ℕ) (values : List ℤ) (dim : ℕ) (f g : ℕ → ℕ) (lo many : ℕ) (xs ys lower upper : List ℕ) → 1 < many
    → block_start n ranks (lo + many / 2) - block_start n ranks lo ≤ length xs
    → IsParted values dim (block_start n ranks (lo + many / 2) - block_start n ranks lo) xs ys
    → lower ≡ take (block_start n ranks (lo + many / 2) - block_start n ranks lo) ys
    → upper ≡ drop (block_start n ranks (lo + many / 2) - block_start n ranks lo) ys → ((x : ℕ) → count_by (λ y. nat_eq y x) xs ≤ 1)
    → ((d : ℕ) → many / 2 ≤ d → IsHalved d n ranks values dim f lo (many / 2) lower)
    → ((x : ℕ) → ((k : ℕ) → k < length upper → get_or upper k 0 ≢ x) → g x ≡ f x)
    → ((d : ℕ) → many - many / 2 ≤ d → IsHalved d n ranks values dim g (lo + many / 2) (many - many / 2) upper) → many ≤ depth
    → IsHalved depth n ranks values dim g lo many xs
halved_parted depth n ranks values dim f g lo many xs ys lower upper o fits h p q once a kept b l =
    let c = parted_cut values dim (block_start n ranks (lo + many / 2) - block_start n ranks lo) xs ys fits h in
    let low : IsPermutation lower c.0 = subst (λ (z : List ℕ). IsPermutation z c.0) (sym p) c.3 in
    let high : IsPermutation upper c.1 = subst (λ (z : List ℕ). IsPermutation z c.1) (sym q) c.4 in
    halved_both depth n ranks values dim f g lo many xs c.0 c.1 o c.2 once
    (λ d m. halved_of d n ranks values dim f lo (many / 2) lower c.0 low (a d m))
    (λ x out. kept x (each_of (λ y. y ≢ x) c.1 upper (IsPermutation-sym upper c.1 high) out))
    (λ d m. halved_of d n ranks values dim g (lo + many / 2) (many - many / 2) upper c.1 high (b d m))
    l
