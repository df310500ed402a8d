-- One turn after another: what is so of the sets that have owners.
use Rattle.std.proofs.Common.{◌≡◌, ◌⊎◌, inl, inr, ℕ, zero, suc, ◌+◌, ◌<◌, ◌≤◌, not, Bool, true, false, cond, nat_eq, nat_lt, List, [], length, get_or, set, refl, sym, ◌∙◌, arith, ⊎_elim, subst}
use Rattle.std.proofs.lemmas.Bool.{cases_Bool, cases_eq, eq-eqb, ne_eqb, and_parts, not-false, not-true}
use Rattle.std.proofs.lemmas.List.{length-set, get_or-set_same, get_or-set_other}
use Rattle.std.proofs.Math.Path.{fun_ext}
use Rattle.mesh_decl.specs.declared.owners.Owners.{Owners}
use Rattle.mesh_decl.specs.Mesh.{MeshValue, set_count, map_count, set_size, map_from, map_to}
use Rattle.mesh_decl.specs.Owners.{owners_in, owner_of}
use Rattle.lemmas.specs.Below.{any_below, count_below}
use Rattle.partition.specs.Derive.{IsNextSet, IsByTargets, IsByNames, IsByBlocks, AreDerived, AreKnown, leads_to_known, leads_from_known}
use Rattle.partition.proofs.Firsts.{none_passes}

-- what is so after some turns, where `at` has each set's turn
pub record IsTurn (g : MeshValue) (ranks turn : ℕ) (known0 : ℕ → Bool) (sets0 : ℕ → List ℕ) (items : List (List ℕ)) (known : List Bool) : Type 0 where
  pub facts : AreKnown g ranks items known
  pub many : turn ≤ count_below (set_count g) (λ s. get_or known s false)
  pub at : ℕ → ℕ
  pub turns : (s : ℕ) → ((at s ≤ turn) × (get_or known s false ≡ true)) ⊎ ((at s ≡ set_count g + 1) × (get_or known s false ≡ false))
  pub first : (s : ℕ) → s < set_count g → known0 s ≡ nat_eq (at s) 0
  pub kept : (s : ℕ) → s < set_count g → known0 s ≡ true → get_or items s [] ≡ sets0 s
  pub next : (s : ℕ) → s < set_count g → known0 s ≡ false → get_or known s false ≡ true → IsNextSet g ranks (λ t. get_or items t []) (λ t. nat_lt (at t) (at s)) s (get_or items s [])

clash : {A : Type 0} (b : Bool) → b ≡ true → b ≡ false → A
clash b p q = let z : true ≡ false = sym p ∙ q in cc

lt_true : (a b : ℕ) → a < b → nat_lt a b ≡ true
lt_true a b l = grind arith

lt_false : (a b : ℕ) → b ≤ a → nat_lt a b ≡ false
lt_false a b l = grind arith

-- one more number passes
count_set : (n k : ℕ) (p q : ℕ → Bool) → k < n → p k ≡ false → q k ≡ true → ((j : ℕ) → (j ≡ k → ⊥) → q j ≡ p j) → count_below n q ≡ count_below n p + 1
count_set zero k p q l a b h = absurd (omega (arith, l))
count_set (suc n) k p q l a b h = ⊎_elim
    (λ (e : k ≡ n).
    let an : p n ≡ false = subst (λ z. p z ≡ false) e a in
    let bn : q n ≡ true = subst (λ z. q z ≡ true) e b in
    let r : count_below n q ≡ count_below n p = same_below n (λ j lj. h j (omega (arith, e, lj))) in
    rw (an, bn, r) (omega arith))
    (λ (m : k ≡ n → ⊥).
    let r : count_below n q ≡ count_below n p + 1 = count_set n k p q (omega (arith, l, m)) a b h in
    let s : q n ≡ p n = h n (λ z. m (sym z)) in
    rw (s, r) (omega arith))
    (cases_eq k n) where
      same_below : (j : ℕ) → ((i : ℕ) → i < j → q i ≡ p i) → count_below j q ≡ count_below j p
      same_below zero f = refl
      same_below (suc j) f = rw (same_below j (λ i li. f i (omega (arith, li))), f j (omega arith)) refl

count_most : (n : ℕ) (p : ℕ → Bool) → count_below n p ≤ n
count_most zero p = omega arith
count_most (suc n) p = let r : count_below n p ≤ n = count_most n p in ⊎_elim (λ (e : p n ≡ true). rw e (omega (arith, r))) (λ (e : p n ≡ false). rw e (omega (arith, r))) (cases_Bool (p n))

count_full : (n : ℕ) (p : ℕ → Bool) → n ≤ count_below n p → (j : ℕ) → j < n → p j ≡ true
count_full zero p h j l = absurd (omega (arith, l))
count_full (suc n) p h j l =
    let r : count_below n p ≤ n = count_most n p in
    ⊎_elim
    (λ (e : p n ≡ true).
    let k : suc n ≤ count_below n p + 1 = rw e at h in
    ⊎_elim (λ (s : j ≡ n). rw s e) (λ (s : j ≡ n → ⊥). count_full n p (omega (arith, k)) j (omega (arith, s, l))) (cases_eq j n))
    (λ (e : p n ≡ false). let k : suc n ≤ count_below n p + 0 = rw e at h in absurd (omega (arith, k, r)))
    (cases_Bool (p n))

count_all : (n : ℕ) (p : ℕ → Bool) → ((j : ℕ) → j < n → p j ≡ true) → count_below n p ≡ n
count_all zero p h = refl
count_all (suc n) p h = rw (h n (omega arith), count_all n p (λ j l. h j (omega (arith, l)))) (omega arith)

-- the set that gets owners next has none yet
pub next_unknown : (g : MeshValue) (ranks : ℕ) (o : ℕ → List ℕ) (known : ℕ → Bool) (s : ℕ) (xs : List ℕ) → IsNextSet g ranks o known s xs → (s < set_count g) × (known s ≡ false)
next_unknown g ranks o known s xs h = ⊎_elim
    (λ (r : IsByTargets g ranks o known s xs). (r.next.0.within, not-true (known s) (and_parts (not (known s)) (any_below (map_count g) (leads_to_known g known s)) r.next.0.passes).0))
    (λ (k : IsByNames g ranks o known s xs ⊎ IsByBlocks g ranks known s xs). ⊎_elim
    (λ (r : IsByNames g ranks o known s xs). (r.next.0.within, not-true (known s) (and_parts (not (known s)) (any_below (map_count g) (leads_from_known g known s)) r.next.0.passes).0))
    (λ (r : IsByBlocks g ranks known s xs). (r.set.within, not-true (known s) r.set.passes))
    k)
    h

-- a rule's choice stands on the owners of the sets that had some
pub next_kept : (g : MeshValue) (ranks : ℕ) (o o' : ℕ → List ℕ) (known : ℕ → Bool) (s : ℕ) (xs : List ℕ) → IsNextSet g ranks o known s xs
    → ((t : ℕ) → known t ≡ true → o t ≡ o' t) → IsNextSet g ranks o' known s xs
next_kept g ranks o o' known s xs h same = ⊎_elim
    (λ (r : IsByTargets g ranks o known s xs).
    let k : known (map_to g r.map) ≡ true = (and_parts (nat_eq (map_from g r.map) s) (known (map_to g r.map)) r.next.1.passes).1 in
    inl (record { map = r.map; next = r.next; elected = rw (sym (same (map_to g r.map) k)) r.elected }))
    (λ (k : IsByNames g ranks o known s xs ⊎ IsByBlocks g ranks known s xs). inr (⊎_elim
    (λ (r : IsByNames g ranks o known s xs).
    let k : known (map_from g r.map) ≡ true = (and_parts (nat_eq (map_to g r.map) s) (known (map_from g r.map)) r.next.1.passes).1 in
    inl (record { none = r.none; map = r.map; next = r.next; elected = rw (sym (same (map_from g r.map) k)) r.elected }))
    (λ (r : IsByBlocks g ranks known s xs). inr r)
    k))
    h

pub turn_init : (g : MeshValue) (ranks : ℕ) (items : List (List ℕ)) (known : List Bool) → AreKnown g ranks items known
    → IsTurn g ranks 0 (λ s. get_or known s false) (λ s. get_or items s []) items known
turn_init g ranks items known h = record {
  facts = h;
  many = omega arith;
  at = λ s. cond (get_or known s false) 0 (set_count g + 1);
  turns = λ s. ⊎_elim (λ (e : get_or known s false ≡ true). rw e (inl (omega arith, refl))) (λ (e : get_or known s false ≡ false). rw e (inr (refl, refl))) (cases_Bool (get_or known s false));
  first = λ s l. ⊎_elim (λ (e : get_or known s false ≡ true). rw e refl)
      (λ (e : get_or known s false ≡ false). rw e (sym (ne_eqb (set_count g + 1) 0 (λ z. omega (arith, z)))))
      (cases_Bool (get_or known s false));
  kept = λ s l k. refl;
  next = λ s l a b. clash (get_or known s false) b a;
}

pub turn_none : (g : MeshValue) (ranks turn : ℕ) (known0 : ℕ → Bool) (sets0 : ℕ → List ℕ) (items : List (List ℕ)) (known : List Bool)
    → turn < set_count g → IsTurn g ranks turn known0 sets0 items known → any_below (set_count g) (λ s. not (get_or known s false)) ≡ false
    → IsTurn g ranks (turn + 1) known0 sets0 items known
turn_none g ranks turn known0 sets0 items known l h none = record {
  facts = h.facts;
  many = (let e : count_below (set_count g) (λ s. get_or known s false) ≡ set_count g =
      count_all (set_count g) (λ s. get_or known s false)
      (λ j lj. not-false (get_or known j false) (none_passes (set_count g) (λ s. not (get_or known s false)) none j lj)) in
      omega (arith, e, l));
  at = h.at;
  turns = λ s. ⊎_elim (λ (k : (h.at s ≤ turn) × (get_or known s false ≡ true)). inl (omega (arith, k.0), k.1)) (λ k. inr k) (h.turns s);
  first = h.first;
  kept = h.kept;
  next = h.next;
}

pub turn_done : (g : MeshValue) (o : Owners) (known0 : ℕ → Bool) (sets0 : ℕ → List ℕ) (known : List Bool) → 0 < o.ranks → o.ranks ≤ 64
    → IsTurn g o.ranks (set_count g) known0 sets0 o.sets.items known → AreDerived g o known0 sets0
unfolding owners_in owner_of
turn_done g o known0 sets0 known some few h =
    let all : (s : ℕ) → s < set_count g → get_or known s false ≡ true = count_full (set_count g) (λ s. get_or known s false) h.many in
    record {
      owners = record {
        some_rank = some;
        few_ranks = few;
        sets = h.facts.each_set;
        lengths = λ s l. h.facts.lengths s l (all s l);
        below = λ s x l lx. h.facts.below s x l (all s l) lx;
      };
      turn = h.at;
      given_first = h.first;
      kept = h.kept;
      next = λ s l k. h.next s l k (all s l);
    }

-- another set gets owners
pub turn_step : (g : MeshValue) (ranks turn : ℕ) (known0 : ℕ → Bool) (sets0 : ℕ → List ℕ) (items : List (List ℕ)) (known : List Bool)
    (s : ℕ) (xs : List ℕ) → turn < set_count g → IsTurn g ranks turn known0 sets0 items known
    → IsNextSet g ranks (λ t. get_or items t []) (λ t. get_or known t false) s xs → length xs ≡ set_size g s
    → ((x : ℕ) → x < set_size g s → get_or xs x 0 < ranks) → IsTurn g ranks (turn + 1) known0 sets0 (set items s xs) (set known s true)
turn_step g ranks turn known0 sets0 items known s xs l h choice len below =
    let unknown = next_unknown g ranks (λ t. get_or items t []) (λ t. get_or known t false) s xs choice in
    let ls : s < length items = rw h.facts.each_set unknown.0 in
    let lk : s < length known = rw h.facts.each_known unknown.0 in
    let was : get_or known s false ≡ false = unknown.1 in
    let here : get_or (set items s xs) s [] ≡ xs = get_or-set_same items s xs [] ls in
    let there : (t : ℕ) → (t ≡ s → ⊥) → get_or (set items s xs) t [] ≡ get_or items t [] = λ t n. get_or-set_other items s t xs [] n in
    let is : get_or (set known s true) s false ≡ true = get_or-set_same known s true false lk in
    let others : (t : ℕ) → (t ≡ s → ⊥) → get_or (set known s true) t false ≡ get_or known t false = λ t n. get_or-set_other known s t true false n in
    let late : h.at s ≡ set_count g + 1 = ⊎_elim
    (λ (k : (h.at s ≤ turn) × (get_or known s false ≡ true)). clash (get_or known s false) k.1 was)
    (λ (k : (h.at s ≡ set_count g + 1) × (get_or known s false ≡ false)). k.0) (h.turns s) in
    let turn' : ℕ → ℕ = λ t. cond (nat_eq t s) (turn + 1) (h.at t) in
    let at_s : turn' s ≡ turn + 1 = rw (eq-eqb s s refl) refl in
    let at_t : (t : ℕ) → (t ≡ s → ⊥) → turn' t ≡ h.at t = λ t n. rw (ne_eqb t s n) refl in
    let given0 : known0 s ≡ false = h.first s unknown.0 ∙ ne_eqb (h.at s) 0 (λ z. omega (arith, z, late)) in
    let old : ℕ → List ℕ = λ t. get_or items t [] in
    let new : ℕ → List ℕ = λ t. get_or (set items s xs) t [] in
    let soon : (t : ℕ) → get_or known t false ≡ true → h.at t ≤ turn =
    λ t k. ⊎_elim (λ (a : (h.at t ≤ turn) × (get_or known t false ≡ true)). a.0)
    (λ (a : (h.at t ≡ set_count g + 1) × (get_or known t false ≡ false)). clash (get_or known t false) k a.1) (h.turns t) in
    let not_self : (t : ℕ) → turn' t ≤ turn + 1 → nat_lt (turn' s) (turn' t) ≡ false = λ t a. lt_false (turn' s) (turn' t) (rw at_s a) in
    let same : (t : ℕ) → turn' t ≤ turn + 1 → (u : ℕ) → nat_lt (turn' u) (turn' t) ≡ true → old u ≡ new u =
    λ t a u b. sym (there u (λ e. clash (nat_lt (turn' u) (turn' t)) b
    (subst (λ z. nat_lt (turn' z) (turn' t) ≡ false) (sym e) (not_self t a)))) in
    let agree_s : (u : ℕ) → get_or known u false ≡ nat_lt (turn' u) (turn' s) = λ u. ⊎_elim
    (λ (e : u ≡ s). subst (λ z. get_or known z false ≡ nat_lt (turn' z) (turn' s)) (sym e) (was ∙ sym (lt_false (turn' s) (turn' s) (omega arith))))
    (λ (n : u ≡ s → ⊥). rw (at_t u n, at_s) (⊎_elim
    (λ (a : (h.at u ≤ turn) × (get_or known u false ≡ true)). a.1 ∙ sym (lt_true (h.at u) (turn + 1) (omega (arith, a.0))))
    (λ (a : (h.at u ≡ set_count g + 1) × (get_or known u false ≡ false)). a.1 ∙ sym (lt_false (h.at u) (turn + 1) (omega (arith, a.0, l))))
    (h.turns u)))
    (cases_eq u s) in
    let next_s : IsNextSet g ranks new (λ u. nat_lt (turn' u) (turn' s)) s (new s) =
    subst (λ (z : List ℕ). IsNextSet g ranks new (λ u. nat_lt (turn' u) (turn' s)) s z) (sym here)
    (next_kept g ranks old new (λ u. nat_lt (turn' u) (turn' s)) s xs (subst (λ (p : ℕ → Bool). IsNextSet g ranks old p s xs) (fun_ext agree_s) choice) (same s (rw at_s (omega arith)))) in
    let agree_t : (t : ℕ) → (t ≡ s → ⊥) → h.at t ≤ turn → (u : ℕ) → nat_lt (h.at u) (h.at t) ≡ nat_lt (turn' u) (turn' t) = λ t n a u. ⊎_elim
    (λ (e : u ≡ s). subst (λ z. nat_lt (h.at z) (h.at t) ≡ nat_lt (turn' z) (turn' t)) (sym e)
    (lt_false (h.at s) (h.at t) (omega (arith, late, a, l)) ∙ sym (not_self t (rw (at_t t n) (omega (arith, a))))))
    (λ (m : u ≡ s → ⊥). rw (at_t u m, at_t t n) refl)
    (cases_eq u s) in
    let next_t : (t : ℕ) → (t ≡ s → ⊥) → IsNextSet g ranks old (λ u. nat_lt (h.at u) (h.at t)) t (old t) → h.at t ≤ turn
    → IsNextSet g ranks new (λ u. nat_lt (turn' u) (turn' t)) t (new t) = λ t n b a.
    subst (λ (z : List ℕ). IsNextSet g ranks new (λ u. nat_lt (turn' u) (turn' t)) t z) (sym (there t n))
    (next_kept g ranks old new (λ u. nat_lt (turn' u) (turn' t)) t (old t)
    (subst (λ (p : ℕ → Bool). IsNextSet g ranks old p t (old t)) (fun_ext (agree_t t n a)) b)
    (same t (rw (at_t t n) (omega (arith, a))))) in
    record {
      facts = record {
        each_set = length-set items s xs ∙ h.facts.each_set;
        each_known = length-set known s true ∙ h.facts.each_known;
        lengths = λ t lt k. ⊎_elim (λ (e : t ≡ s). rw (e, here) len) (λ (n : t ≡ s → ⊥). rw (there t n) (h.facts.lengths t lt (sym (others t n) ∙ k))) (cases_eq t s);
        below = λ t x lt k lx. ⊎_elim (λ (e : t ≡ s). rw (e, here) (below x (rw e at lx))) (λ (n : t ≡ s → ⊥). rw (there t n) (h.facts.below t x lt (sym (others t n) ∙ k) lx)) (cases_eq t s);
      };
      many = (let e : count_below (set_count g) (λ t. get_or (set known s true) t false) ≡ count_below (set_count g)
          (λ t. get_or known t false) + 1 = count_set (set_count g) s (λ t. get_or known t false) (λ t. get_or (set known s true) t false)
          unknown.0 was is others in let m = h.many in omega (arith, e, m));
      at = turn';
      turns = λ t. ⊎_elim
          (λ (e : t ≡ s). inl (subst (λ z. turn' z ≤ turn + 1) (sym e) (rw at_s (omega arith)), subst (λ z. get_or (set known s true) z false ≡ true) (sym e) is))
          (λ (n : t ≡ s → ⊥). rw (at_t t n, others t n) (⊎_elim (λ (k : (h.at t ≤ turn) × (get_or known t false ≡ true)). inl (omega (arith, k.0), k.1)) (λ k. inr k) (h.turns t)))
          (cases_eq t s);
      first = λ t lt. ⊎_elim
          (λ (e : t ≡ s). subst (λ z. known0 z ≡ nat_eq (turn' z) 0) (sym e) (given0 ∙ sym (rw at_s (ne_eqb (turn + 1) 0 (λ z. omega (arith, z))))))
          (λ (n : t ≡ s → ⊥). rw (at_t t n) (h.first t lt))
          (cases_eq t s);
      kept = λ t lt k. ⊎_elim
          (λ (e : t ≡ s). clash (known0 s) (subst (λ z. known0 z ≡ true) e k) given0)
          (λ (n : t ≡ s → ⊥). there t n ∙ h.kept t lt k)
          (cases_eq t s);
      next = λ t lt k0 k. ⊎_elim (λ (e : t ≡ s). subst (λ z. IsNextSet g ranks new (λ u. nat_lt (turn' u) (turn' z)) z (new z)) (sym e)
          next_s) (λ (n : t ≡ s → ⊥). next_t t n (h.next t lt k0 (sym (others t n) ∙ k)) (soon t (sym (others t n) ∙ k))) (cases_eq t s);
    }
