-- Owners by blocks and derived owners are one.
use Rattle.std.proofs.Common.{◌≡◌, ◌⊎◌, inl, inr, ℕ, zero, suc, ◌+◌, ◌*◌, ◌/◌, ◌<◌, ◌≤◌, not, ◌&&◌, Bool, true, false, nat_eq, nat_lt, List, [], length, get_or, refl, sym, ap, ◌∙◌, arith, ⊎_elim, subst}
use Rattle.std.proofs.lemmas.Bool.{cases_Bool, cases_eq, cases_lt, eqb-true, ltb-true, lt-ltb, le-ltb}
use Rattle.std.proofs.lemmas.List.{ext_get_or, get_or_past}
use Rattle.std.proofs.lemmas.Nat.{le-div}
use Rattle.std.proofs.Math.Nat.{div-mul-le_self, mul-le-mul_right}
use Rattle.mesh_decl.specs.declared.owners.Owners.{Owners}
use Rattle.mesh_decl.specs.Mesh.{MeshValue, IsMapAt, set_count, map_count, set_size, map_from, map_to}
use Rattle.mesh_decl.specs.Owners.{AreOwners, owners_in, owner_of}
use Rattle.lemmas.specs.Below.{any_below}
use Rattle.lemmas.proofs.Below.{any_agree, any_from}
use Rattle.partition.specs.Block.{AreBlocks, InBlock, block_start}
use Rattle.partition.specs.Derive.{AreDerived, IsFirst, IsNextSet, IsByTargets, IsByNames, IsByBlocks, leads_to_known, leads_from_known, can_follow_targets, can_follow_names}
use Rattle.partition.specs.Elected.{IsElected, target_votes, naming_votes, is_named}
use Rattle.partition.proofs.TurnSteps.{next_kept}
use Rattle.lemmas.proofs.Truth.{iff_eq}

-- ---- lists of owners

same_sets : (g : MeshValue) (a b : Owners) → AreOwners g a → AreOwners g b → ((s : ℕ) → s < set_count g → owners_in a s ≡ owners_in b s) → a.sets.items ≡ b.sets.items
unfolding owners_in
same_sets g a b h k e = ext_get_or [] a.sets.items b.sets.items (h.sets ∙ sym k.sets) (λ s l. e s (omega (arith, h.sets)))

same_set : (n : ℕ) (xs ys : List ℕ) → length xs ≡ n → length ys ≡ n → ((x : ℕ) → x < n → get_or xs x 0 ≡ get_or ys x 0) → xs ≡ ys
same_set n xs ys ex ey h = ext_get_or 0 xs ys (ex ∙ sym ey) (λ x l. h x (omega arith))

-- ---- blocks

starts_rise : (n ranks i j : ℕ) → 0 < ranks → i ≤ j → block_start n ranks i ≤ block_start n ranks j
starts_rise n ranks i j p l =
    let e : i * n ≤ j * n = mul-le-mul_right {m = i} {n = j} n l in
    let f : i * n / ranks * ranks ≤ i * n = div-mul-le_self (i * n) ranks in
    le-div (i * n / ranks) (j * n) ranks p (omega arith)

-- an element lies in one block
one_block : (n ranks i j x : ℕ) → 0 < ranks → InBlock n ranks i x → InBlock n ranks j x → i ≡ j
one_block n ranks i j x p h k = ⊎_elim
    (λ (e : i ≡ j). e)
    (λ (ne : i ≡ j → ⊥). ⊎_elim
    (λ (l : i < j). let r = starts_rise n ranks (i + 1) j p (omega arith) in absurd (omega (arith, r, h.1, k.0)))
    (λ (l : j ≤ i). let r = starts_rise n ranks (j + 1) i p (omega arith) in absurd (omega (arith, r, k.1, h.0)))
    (cases_lt i j))
    (cases_eq i j)

pub one_blocks : (g : MeshValue) (ranks : ℕ) (a b : Owners) → AreBlocks g ranks a → AreBlocks g ranks b → a.sets.items ≡ b.sets.items
unfolding owner_of
one_blocks g ranks a b h k = same_sets g a b h.owners k.owners
    (λ s l. same_set (set_size g s) (owners_in a s) (owners_in b s) (h.owners.lengths s l) (k.owners.lengths s l) (λ x lx. k.only s x (owner_of a s x) l lx (h.block s x l lx)))

-- ---- elections

one_elected : (ranks : ℕ) (votes : ℕ → ℕ) (q r : ℕ) → IsElected ranks votes q → IsElected ranks votes r → q ≡ r
one_elected ranks votes q r h k = ⊎_elim
    (λ (e : q ≡ r). e)
    (λ (ne : q ≡ r → ⊥). ⊎_elim
    (λ (l : q < r). absurd (omega (arith, k.first q l, h.most r k.within)))
    (λ (l : r ≤ q). absurd (omega (arith, h.first r (omega arith), k.most q h.within)))
    (cases_lt q r))
    (cases_eq q r)

-- ---- firsts

-- tests that agree below n
abbrev Agree : ℕ → (ℕ → Bool) → (ℕ → Bool) → Type 0
Agree n p q = (k : ℕ) → k < n → p k ≡ q k

first_agrees : (n : ℕ) (p q : ℕ → Bool) (k : ℕ) → Agree n p q → IsFirst n p k → IsFirst n q k
first_agrees n p q k e h = record { within = h.within; passes = sym (e k h.within) ∙ h.passes; before = λ j l. sym (e j (let w = h.within in omega arith)) ∙ h.before j l }

none_agrees : (n : ℕ) (p q : ℕ → Bool) → Agree n p q → any_below n p ≡ false → any_below n q ≡ false
none_agrees n p q e h = sym (any_agree n p q e) ∙ h

one_first : (n : ℕ) (p : ℕ → Bool) (j k : ℕ) → IsFirst n p j → IsFirst n p k → j ≡ k
one_first n p j k a b = ⊎_elim
    (λ (e : j ≡ k). e)
    (λ (ne : j ≡ k → ⊥). ⊎_elim
    (λ (l : j < k). let z : true ≡ false = sym a.passes ∙ b.before j l in cc)
    (λ (l : k ≤ j). let z : true ≡ false = sym b.passes ∙ a.before k (omega arith) in cc)
    (cases_lt j k))
    (cases_eq j k)

-- one that passes, and none
both : {X : Type 0} (n : ℕ) (p : ℕ → Bool) (k : ℕ) → IsFirst n p k → any_below n p ≡ false → X
both n p k a e = let z : true ≡ false = sym (any_from n p k a.within a.passes) ∙ e in absurd (cc)

module _ (g : MeshValue) (ranks : ℕ) (maps : (m : ℕ) → m < map_count g → IsMapAt g m) where
  abbrev n : ℕ
  n = set_count g

  -- ---- the next set stands on what is known of the mesh's sets

  module _ (p q : ℕ → Bool) (agree : Agree n p q) where
    to_agrees : (s : ℕ) → Agree (map_count g) (leads_to_known g p s) (leads_to_known g q s)
    to_agrees s m l = ap (λ z. nat_eq (map_from g m) s && z) (agree (map_to g m) (maps m l).to)

    from_agrees : (s : ℕ) → Agree (map_count g) (leads_from_known g p s) (leads_from_known g q s)
    from_agrees s m l = ap (λ z. nat_eq (map_to g m) s && z) (agree (map_from g m) (maps m l).from)

    targets_agree : Agree n (can_follow_targets g p) (can_follow_targets g q)
    targets_agree s l = rw (agree s l, any_agree (map_count g) (leads_to_known g p s) (leads_to_known g q s) (to_agrees s)) refl

    names_agree : Agree n (can_follow_names g p) (can_follow_names g q)
    names_agree s l = rw (agree s l, any_agree (map_count g) (leads_from_known g p s) (leads_from_known g q s) (from_agrees s)) refl

    next_agrees : (o : ℕ → List ℕ) (s : ℕ) (xs : List ℕ) → IsNextSet g ranks o p s xs → IsNextSet g ranks o q s xs
    next_agrees o s xs h = ⊎_elim
        (λ (r : IsByTargets g ranks o p s xs). inl (record {
          map = r.map;
          next = (
            first_agrees n (can_follow_targets g p) (can_follow_targets g q) s targets_agree r.next.0,
            first_agrees (map_count g) (leads_to_known g p s) (leads_to_known g q s) r.map (to_agrees s) r.next.1,
          );
          elected = r.elected;
        }))
        (λ (k : IsByNames g ranks o p s xs ⊎ IsByBlocks g ranks p s xs). inr (⊎_elim
        (λ (r : IsByNames g ranks o p s xs). inl (record {
          none = none_agrees n (can_follow_targets g p) (can_follow_targets g q) targets_agree r.none;
          map = r.map;
          next = (
            first_agrees n (can_follow_names g p) (can_follow_names g q) s names_agree r.next.0,
            first_agrees (map_count g) (leads_from_known g p s) (leads_from_known g q s) r.map (from_agrees s) r.next.1,
          );
          elected = r.elected;
        }))
        (λ (r : IsByBlocks g ranks p s xs). inr (record {
          none = none_agrees n (can_follow_targets g p) (can_follow_targets g q) targets_agree r.none;
          none_names = none_agrees n (can_follow_names g p) (can_follow_names g q) names_agree r.none_names;
          set = first_agrees n (λ t. not (p t)) (λ t. not (q t)) s (λ t l. ap not (agree t l)) r.set;
          block = r.block;
        }))
        k))
        h

  -- ---- one set comes next

  module _ (p : ℕ → Bool) (o u : ℕ → List ℕ) (s : ℕ) (xs : List ℕ) (t : ℕ) (ys : List ℕ) where
    one_next_set : IsNextSet g ranks o p s xs → IsNextSet g ranks u p t ys → s ≡ t
    one_next_set h k = ⊎_elim
        (λ (a : IsByTargets g ranks o p s xs). ⊎_elim
        (λ (b : IsByTargets g ranks u p t ys). one_first n (can_follow_targets g p) s t a.next.0 b.next.0)
        (λ (c : IsByNames g ranks u p t ys ⊎ IsByBlocks g ranks p t ys). ⊎_elim
        (λ (b : IsByNames g ranks u p t ys). both n (can_follow_targets g p) s a.next.0 b.none)
        (λ (b : IsByBlocks g ranks p t ys). both n (can_follow_targets g p) s a.next.0 b.none)
        c)
        k)
        (λ (d : IsByNames g ranks o p s xs ⊎ IsByBlocks g ranks p s xs). ⊎_elim
        (λ (a : IsByNames g ranks o p s xs). ⊎_elim
        (λ (b : IsByTargets g ranks u p t ys). both n (can_follow_targets g p) t b.next.0 a.none)
        (λ (c : IsByNames g ranks u p t ys ⊎ IsByBlocks g ranks p t ys). ⊎_elim
        (λ (b : IsByNames g ranks u p t ys). one_first n (can_follow_names g p) s t a.next.0 b.next.0)
        (λ (b : IsByBlocks g ranks p t ys). both n (can_follow_names g p) s a.next.0 b.none_names)
        c)
        k)
        (λ (a : IsByBlocks g ranks p s xs). ⊎_elim
        (λ (b : IsByTargets g ranks u p t ys). both n (can_follow_targets g p) t b.next.0 a.none)
        (λ (c : IsByNames g ranks u p t ys ⊎ IsByBlocks g ranks p t ys). ⊎_elim
        (λ (b : IsByNames g ranks u p t ys). both n (can_follow_names g p) t b.next.0 a.none_names)
        (λ (b : IsByBlocks g ranks p t ys). one_first n (λ z. not (p z)) s t a.set b.set)
        c)
        k)
        d)
        h

  -- ---- its owners are one

  module _ (some : 0 < ranks) (p : ℕ → Bool) (o : ℕ → List ℕ) (s : ℕ) (xs ys : List ℕ) where
    by_targets : IsByTargets g ranks o p s xs → IsByTargets g ranks o p s ys → (x : ℕ) → x < set_size g s → get_or xs x 0 ≡ get_or ys x 0
    by_targets a b x l =
        let e : a.map ≡ b.map = one_first (map_count g) (leads_to_known g p s) a.map b.map a.next.1 b.next.1 in
        one_elected ranks (target_votes g (o (map_to g b.map)) b.map x) (get_or xs x 0) (get_or ys x 0)
        (subst (λ m. IsElected ranks (target_votes g (o (map_to g m)) m x) (get_or xs x 0)) e (a.elected x l)) (b.elected x l)

    by_names : IsByNames g ranks o p s xs → IsByNames g ranks o p s ys → (x : ℕ) → x < set_size g s → get_or xs x 0 ≡ get_or ys x 0
    by_names a b x l =
        let e : a.map ≡ b.map = one_first (map_count g) (leads_from_known g p s) a.map b.map a.next.1 b.next.1 in
        ⊎_elim
        (λ (t : is_named g b.map x ≡ true).
        one_elected ranks (naming_votes g (o (map_from g b.map)) b.map x) (get_or xs x 0) (get_or ys x 0)
        (subst (λ m. IsElected ranks (naming_votes g (o (map_from g m)) m x) (get_or xs x 0)) e (a.elected.elected x l (ap (λ m. is_named g m x) e ∙ t))) (b.elected.elected x l t))
        (λ (f : is_named g b.map x ≡ false).
        one_block (set_size g s) ranks (get_or xs x 0) (get_or ys x 0) x some (a.elected.block x l (ap (λ m. is_named g m x) e ∙ f)) (b.elected.block x l f))
        (cases_Bool (is_named g b.map x))

    by_blocks : IsByBlocks g ranks p s xs → IsByBlocks g ranks p s ys → (x : ℕ) → x < set_size g s → get_or xs x 0 ≡ get_or ys x 0
    by_blocks a b x l = one_block (set_size g s) ranks (get_or xs x 0) (get_or ys x 0) x some (a.block x l) (b.block x l)

    one_of_next : IsNextSet g ranks o p s xs → IsNextSet g ranks o p s ys → (x : ℕ) → x < set_size g s → get_or xs x 0 ≡ get_or ys x 0
    one_of_next h k = ⊎_elim
        (λ (a : IsByTargets g ranks o p s xs). ⊎_elim
        (λ (b : IsByTargets g ranks o p s ys). by_targets a b)
        (λ (c : IsByNames g ranks o p s ys ⊎ IsByBlocks g ranks p s ys). ⊎_elim
        (λ (b : IsByNames g ranks o p s ys). both n (can_follow_targets g p) s a.next.0 b.none)
        (λ (b : IsByBlocks g ranks p s ys). both n (can_follow_targets g p) s a.next.0 b.none)
        c)
        k)
        (λ (d : IsByNames g ranks o p s xs ⊎ IsByBlocks g ranks p s xs). ⊎_elim
        (λ (a : IsByNames g ranks o p s xs). ⊎_elim
        (λ (b : IsByTargets g ranks o p s ys). both n (can_follow_targets g p) s b.next.0 a.none)
        (λ (c : IsByNames g ranks o p s ys ⊎ IsByBlocks g ranks p s ys). ⊎_elim
        (λ (b : IsByNames g ranks o p s ys). by_names a b)
        (λ (b : IsByBlocks g ranks p s ys). both n (can_follow_names g p) s a.next.0 b.none_names)
        c)
        k)
        (λ (a : IsByBlocks g ranks p s xs). ⊎_elim
        (λ (b : IsByTargets g ranks o p s ys). both n (can_follow_targets g p) s b.next.0 a.none)
        (λ (c : IsByNames g ranks o p s ys ⊎ IsByBlocks g ranks p s ys). ⊎_elim
        (λ (b : IsByNames g ranks o p s ys). both n (can_follow_names g p) s b.next.0 a.none_names)
        (λ (b : IsByBlocks g ranks p s ys). by_blocks a b)
        c)
        k)
        d)
        h

-- ---- turn by turn

module _
    (g : MeshValue) (a b : Owners) (given : ℕ → Bool) (lists others : ℕ → List ℕ)
    (maps : (m : ℕ) → m < map_count g → IsMapAt g m) (ranks : a.ranks ≡ b.ranks)
    (alike : (s : ℕ) → s < set_count g → given s ≡ true → lists s ≡ others s)
    (h : AreDerived g a given lists) (k : AreDerived g b given others) where
  abbrev known_a : ℕ → ℕ → Bool
  known_a s t = nat_lt (h.turn t) (h.turn s)

  abbrev known_b : ℕ → ℕ → Bool
  known_b s t = nat_lt (k.turn t) (k.turn s)

  -- before set s the same sets have owners
  abbrev Before : ℕ → Type 0
  Before s = (t : ℕ) → t < set_count g → known_a s t ≡ known_b s t

  given_a : (s : ℕ) → s < set_count g → given s ≡ true → h.turn s ≡ 0
  given_a s l e = eqb-true (h.turn s) 0 (sym (h.given_first s l) ∙ e)

  given_b : (s : ℕ) → s < set_count g → given s ≡ true → k.turn s ≡ 0
  given_b s l e = eqb-true (k.turn s) 0 (sym (k.given_first s l) ∙ e)

  not_zero : (n : ℕ) → nat_eq n 0 ≡ false → 0 < n
  not_zero zero e = let z : true ≡ false = e in absurd (cc)
  not_zero (suc n) e = omega arith

  later_a : (s : ℕ) → s < set_count g → given s ≡ false → 0 < h.turn s
  later_a s l e = not_zero (h.turn s) (sym (h.given_first s l) ∙ e)

  later_b : (s : ℕ) → s < set_count g → given s ≡ false → 0 < k.turn s
  later_b s l e = not_zero (k.turn s) (sym (k.given_first s l) ∙ e)

  next_a : (s : ℕ) → s < set_count g → given s ≡ false → IsNextSet g b.ranks (owners_in a) (known_a s) s (owners_in a s)
  next_a s l e = subst (λ n. IsNextSet g n (owners_in a) (known_a s) s (owners_in a s)) ranks (h.next s l e)

  -- two sets before which the same sets have owners, in either derivation, are one
  one_at : (s t : ℕ) (p q : ℕ → Bool) (o u : ℕ → List ℕ) (xs ys : List ℕ)
      → ((z : ℕ) → z < set_count g → p z ≡ q z)
      → IsNextSet g b.ranks o p s xs → IsNextSet g b.ranks u q t ys → s ≡ t
  one_at s t p q o u xs ys e m n = one_next_set g b.ranks maps q o u s xs t ys (next_agrees g b.ranks maps p q e o s xs m) n

  -- before the set the same sets have owners, and it has the same ones
  abbrev Same : ℕ → Type 0
  Same s = Before s × (owners_in a s ≡ owners_in b s)

  module _ (s : ℕ) (l : s < set_count g) (ih : (t : ℕ) → t < set_count g → h.turn t < h.turn s → Same t) where
    same_given : given s ≡ true → Same s
    same_given e =
        let ea = given_a s l e in
        let eb = given_b s l e in (
          (λ t lt. le-ltb (h.turn t) (h.turn s) (omega (arith, ea)) ∙ sym (le-ltb (k.turn t) (k.turn s) (omega (arith, eb)))),
          h.kept s l e ∙ (alike s l e ∙ sym (k.kept s l e)),
        )

    module _ (new : given s ≡ false) where
      up : (t : ℕ) → t < set_count g → h.turn t < h.turn s → k.turn t < k.turn s
      up t lt m = ⊎_elim
          (λ (r : k.turn t < k.turn s). r)
          (λ (r : k.turn s ≤ k.turn t). ⊎_elim
          (λ (e : given t ≡ true). let z = given_b t lt e in let y = later_b s l new in absurd (omega arith))
          (λ (e : given t ≡ false). ⊎_elim
          (λ (q : k.turn s ≡ k.turn t).
          let one : t ≡ s = one_at t s (known_a t) (known_b s) (owners_in a) (owners_in b) (owners_in a t) (owners_in b s)
          (λ z lz. (ih t lt m).0 z lz ∙ ap (λ n. nat_lt (k.turn z) n) (sym q)) (next_a t lt e) (k.next s l new) in
          let same : h.turn t ≡ h.turn s = ap (λ z. h.turn z) one in
          absurd (omega arith))
          (λ (q : k.turn s ≡ k.turn t → ⊥).
          let before : known_a t s ≡ true = (ih t lt m).0 s l ∙ lt-ltb (k.turn s) (k.turn t) (omega arith) in
          let z : h.turn s < h.turn t = ltb-true (h.turn s) (h.turn t) before in
          absurd (omega arith))
          (cases_eq (k.turn s) (k.turn t)))
          (cases_Bool (given t)))
          (cases_lt (k.turn t) (k.turn s))

      -- what has owners before s has them before t, where t stands no earlier than s
      has_before : (t z : ℕ) → t < set_count g → z < set_count g → given t ≡ false → h.turn s ≤ h.turn t → h.turn z < h.turn s → k.turn z < k.turn t
      has_before t z lt lz e r m = ⊎_elim
          (λ (q : k.turn z < k.turn t). q)
          (λ (q : k.turn t ≤ k.turn z). ⊎_elim
          (λ (f : given z ≡ true). let y = given_b z lz f in let x = later_b t lt e in absurd (omega arith))
          (λ (f : given z ≡ false). ⊎_elim
          (λ (w : k.turn t ≡ k.turn z).
          let one : z ≡ t = one_at z t (known_a z) (known_b t) (owners_in a) (owners_in b) (owners_in a z) (owners_in b t)
          (λ y ly. (ih z lz m).0 y ly ∙ ap (λ n. nat_lt (k.turn y) n) (sym w)) (next_a z lz f) (k.next t lt e) in
          let same : h.turn z ≡ h.turn t = ap (λ y. h.turn y) one in
          absurd (omega arith))
          (λ (w : k.turn t ≡ k.turn z → ⊥).
          let before : known_a z t ≡ true = (ih z lz m).0 t lt ∙ lt-ltb (k.turn t) (k.turn z) (omega arith) in
          let y : h.turn t < h.turn z = ltb-true (h.turn t) (h.turn z) before in
          absurd (omega arith))
          (cases_eq (k.turn t) (k.turn z)))
          (cases_Bool (given z)))
          (cases_lt (k.turn z) (k.turn t))

      down : (m t : ℕ) → t < set_count g → k.turn t < m → k.turn t < k.turn s → h.turn t < h.turn s
      down zero t lt lm r = absurd (omega arith)
      down (suc m) t lt lm r = ⊎_elim
          (λ (q : h.turn t < h.turn s). q)
          (λ (q : h.turn s ≤ h.turn t). ⊎_elim
          (λ (e : given t ≡ true). let z = given_a t lt e in let y = later_a s l new in absurd (omega arith))
          (λ (e : given t ≡ false).
          let agree : (z : ℕ) → z < set_count g → known_a s z ≡ known_b t z = λ z lz. iff_eq (known_a s z) (known_b t z)
          (λ x. lt-ltb (k.turn z) (k.turn t) (has_before t z lt lz e q (ltb-true (h.turn z) (h.turn s) x)))
          (λ x. let y : k.turn z < k.turn t = ltb-true (k.turn z) (k.turn t) x in lt-ltb (h.turn z) (h.turn s) (down m z lz (omega arith) (omega arith))) in
          let one : s ≡ t = one_at s t (known_a s) (known_b t) (owners_in a) (owners_in b) (owners_in a s) (owners_in b t) agree (next_a s l new) (k.next t lt e) in
          let same : k.turn s ≡ k.turn t = ap (λ z. k.turn z) one in
          absurd (omega arith))
          (cases_Bool (given t)))
          (cases_lt (h.turn t) (h.turn s))

      before : Before s
      before t lt = iff_eq (known_a s t) (known_b s t)
          (λ x. lt-ltb (k.turn t) (k.turn s) (up t lt (ltb-true (h.turn t) (h.turn s) x)))
          (λ x. lt-ltb (h.turn t) (h.turn s) (down (suc (k.turn t)) t lt (omega arith) (ltb-true (k.turn t) (k.turn s) x)))

      known_owners : (t : ℕ) → known_b s t ≡ true → owners_in a t ≡ owners_in b t
      unfolding owners_in
      known_owners t x = ⊎_elim
          (λ (lt : t < set_count g). (ih t lt (ltb-true (h.turn t) (h.turn s) (before t lt ∙ x))).1)
          (λ (ge : set_count g ≤ t). get_or_past a.sets.items t [] (omega (arith, h.owners.sets)) ∙ sym (get_or_past b.sets.items t [] (omega (arith, k.owners.sets))))
          (cases_lt t (set_count g))

      same_next : Same s
      same_next =
          let there : IsNextSet g b.ranks (owners_in b) (known_b s) s (owners_in a s) =
          next_kept g b.ranks (owners_in a) (owners_in b) (known_b s) s (owners_in a s)
          (next_agrees g b.ranks maps (known_a s) (known_b s) before (owners_in a) s (owners_in a s) (next_a s l new)) known_owners in (
            before,
            same_set (set_size g s) (owners_in a s) (owners_in b s) (h.owners.lengths s l) (k.owners.lengths s l)
                (one_of_next g b.ranks maps k.owners.some_rank (known_b s) (owners_in b) s (owners_in a s) (owners_in b s) there (k.next s l new)),
          )

    same_here : Same s
    same_here = ⊎_elim (λ e. same_given e) (λ e. same_next e) (cases_Bool (given s))

  same_all : (n s : ℕ) → s < set_count g → h.turn s < n → Same s
  same_all zero s l m = absurd (omega arith)
  same_all (suc n) s l m = same_here s l (λ t lt r. same_all n t lt (omega arith))

  pub same_derived : a.sets.items ≡ b.sets.items
  same_derived = same_sets g a b h.owners k.owners (λ s l. (same_all (suc (h.turn s)) s l (omega arith)).1)

pub one_derivation : (g : MeshValue) (a b : Owners) (given : ℕ → Bool) (lists others : ℕ → List ℕ)
    → ((m : ℕ) → m < map_count g → IsMapAt g m) → a.ranks ≡ b.ranks → ((s : ℕ) → s < set_count g → given s ≡ true → lists s ≡ others s)
    → AreDerived g a given lists → AreDerived g b given others → a.sets.items ≡ b.sets.items
one_derivation g a b given lists others maps ranks alike h k = same_derived g a b given lists others maps ranks alike h k
