-- Steps sorted by keys, which are lists of numbers in lexicographic order.
use Rattle.std.proofs.Common.{◌≡◌, ℕ, ◌<◌, true, false, ◌⊎◌, inl, inr, refl, sym, ap, subst, arith, ⊎_elim, List, [], ◌∷◌, ◌++◌}
use Rattle.std.specs.Prelude.{◌&&◌, ◌==◌, nat_lt}
use Rattle.std.proofs.lemmas.Bool.{false≢true, false_from_ne_true, or_cases, or_left, and_parts, eqb-true, ltb-true}
use Rattle.schedule_steps.specs.Outline.{Outline, by_colour}
use Rattle.schedule_steps.specs.declared.step.Step.{Step}
use Rattle.schedule_steps.specs.declared.step.Step.TheVariants.{Send, Recv, Begin, End, Join}
use Rattle.schedule_steps.specs.Steps.{item, IsStep, Earlier, by_item, sent, sent_first, received, begun, coloured, same, has, Accepted}
use Rattle.schedule_steps.specs.Members.{same_true, same_refl, has_right, has_parts}
use Rattle.schedule_steps.specs.Standard.{group_of}

-- a comes before b
abbrev pub Less : List ℕ → List ℕ → Type 0
Less [] b = ⊥
Less (x ∷ a) [] = ⊥
Less (x ∷ a) (y ∷ b) = (x < y) ⊎ ((x ≡ y) × Less a b)

pub asym : (a b : List ℕ) → Less a b → Less b a → ⊥
asym [] b h g = h
asym (x ∷ a) [] h g = h
asym (x ∷ a) (y ∷ b) h g = ⊎_elim
    (λ (l : x < y). ⊎_elim (λ (k : y < x). omega arith) (λ (k : (y ≡ x) × Less b a). let e : y ≡ x = k.0 in omega arith) g)
    (λ (l : (x ≡ y) × Less a b). ⊎_elim (λ (k : y < x). let e : x ≡ y = l.0 in omega arith) (λ (k : (y ≡ x) × Less b a). asym a b l.1 k.1) g)
    h

-- after the same beginning, by the next number
pub less_at : (pre : List ℕ) (i j : ℕ) (a b : List ℕ) → i < j → Less (pre ++ (i ∷ a)) (pre ++ (j ∷ b))
less_at [] i j a b lt = inl lt
less_at (x ∷ pre) i j a b lt = inr (refl, less_at pre i j a b lt)

abbrev pub Each : (Step → Type 0) → List Step → Type 0
Each P [] = Unit {0}
Each P (x ∷ xs) = P x × Each P xs

pub each_append : (P : Step → Type 0) (a b : List Step) → Each P a → Each P b → Each P (a ++ b)
each_append P [] b ha hb = hb
each_append P (x ∷ a) b ha hb = (ha.0, each_append P a b ha.1 hb)

pub each_map : (P Q : Step → Type 0) (a : List Step) → ((x : Step) → P x → Q x) → Each P a → Each Q a
each_map P Q [] f h = tt
each_map P Q (x ∷ a) f h = (f x h.0, each_map P Q a f h.1)

pub each_has : (P : Step → Type 0) (l : List Step) (t : Step) → Each P l → has l t ≡ true → P t
each_has P [] t h i = absurd (false≢true i)
each_has P (s ∷ l) t h i = ⊎_elim (λ e. subst P (sym (same_true t s e)) h.0) (λ e. each_has P l t h.1 e) (or_cases (same t s) (has l t) i)

pub each_at : (P : Step → Type 0) (pre : List Step) (s : Step) (post : List Step) → Each P (pre ++ (s ∷ post)) → P s
each_at P [] s post h = h.0
each_at P (u ∷ pre) s post h = each_at P pre s post h.1

module _ (o : Outline) (g : ℕ) where
  -- an element's place in the order of its rank
  abbrev pub place : ℕ → ℕ → ℕ → ℕ → List ℕ
  place k r x half = 2 ∷ r ∷ o.block_colour k r (o.block k r x) ∷ o.block k r x ∷ o.colour k r x ∷ group_of o g k r x ∷ half ∷ x ∷ []

  abbrev pub tail : Step → List ℕ
  tail (Send k s r) = 0 ∷ s ∷ r ∷ []
  tail (Recv k r s) = 1 ∷ r ∷ s ∷ []
  tail (Begin k r x) = place k r x 0
  tail (End k r x) = place k r x 1
  tail (Join k) = 0 ∷ []

  abbrev pub key : Step → List ℕ
  key s = item s ∷ tail s

  -- a lower colour goes first
  by_colours : (k r e f : ℕ) → by_colour o k r e f ≡ true → Less (place k r e 1) (place k r f 0)
  by_colours k r e f h = ⊎_elim
      (λ (l : nat_lt (o.block_colour k r (o.block k r e)) (o.block_colour k r (o.block k r f)) ≡ true).
      inr (refl, inr (refl, inl (ltb-true (o.block_colour k r (o.block k r e)) (o.block_colour k r (o.block k r f)) l))))
      (λ (l : ((o.block k r e == o.block k r f) && nat_lt (o.colour k r e) (o.colour k r f)) ≡ true).
      let p : ((o.block k r e == o.block k r f) ≡ true) × (nat_lt (o.colour k r e) (o.colour k r f) ≡ true) = and_parts (o.block k r e == o.block k r f) (nat_lt (o.colour k r e) (o.colour k r f)) l in
      let b : o.block k r e ≡ o.block k r f = eqb-true (o.block k r e) (o.block k r f) p.0 in
      inr (refl, inr (refl, inr (ap (o.block_colour k r) b, inr (b, inl (ltb-true (o.colour k r e) (o.colour k r f) p.1))))))
      (or_cases (nat_lt (o.block_colour k r (o.block k r e)) (o.block_colour k r (o.block k r f))) ((o.block k r e == o.block k r f) && nat_lt (o.colour k r e) (o.colour k r f)) h)

  -- what is earlier has the lesser key
  pub earlier_less : (t s : Step) → Earlier o t s → Less (key t) (key s)
  earlier_less t s (by_item r a b lt) = inl lt
  earlier_less _ _ sent = inr (refl, inl (omega arith))
  earlier_less _ _ sent_first = inr (refl, inl (omega arith))
  earlier_less _ _ (received h) = inr (refl, inl (omega arith))
  earlier_less _ _ (begun {k} {r} {e}) = inr (refl, inr (refl, inr (refl, inr (refl, inr (refl, inr (refl, inr (refl, inl (omega arith))))))))
  earlier_less _ _ (coloured {k} {r} {e} {f} h) = inr (refl, by_colours k r e f h)

  -- the keys increase
  abbrev pub Sorted : List Step → Type 0
  Sorted [] = Unit {0}
  Sorted (x ∷ xs) = Each (λ y. Less (key x) (key y)) xs × Sorted xs

  pub sorted_pair : (pre : List Step) (s : Step) (post : List Step) → Sorted (pre ++ (s ∷ post)) → (Each (λ y. Less (key y) (key s)) pre) × (Each (λ y. Less (key s) (key y)) post)
  sorted_pair [] s post h = (tt, h.0)
  sorted_pair (u ∷ pre) s post h =
      let r : (Each (λ y. Less (key y) (key s)) pre) × (Each (λ y. Less (key s) (key y)) post) = sorted_pair pre s post h.1 in
      ((each_has (λ y. Less (key u) (key y)) (pre ++ (s ∷ post)) s h.0 (has_right pre (s ∷ post) s (or_left (same s s) (has post s) (same_refl s))), r.0), r.1)

  -- a sorted list has no step twice
  pub sorted_once : (l : List Step) → Sorted l → (pre : List Step) (s : Step) (post : List Step) → l ≡ pre ++ (s ∷ post) → has pre s ≡ false
  sorted_once l h pre s post e = false_from_ne_true (has pre s) (λ i.
      let less : Less (key s) (key s) = each_has (λ y. Less (key y) (key s)) pre s (sorted_pair pre s post (subst Sorted e h)).0 i in asym (key s) (key s) less less)

  -- where a step of it with the lesser key stands
  pub sorted_before : (l : List Step) → Sorted l → (pre : List Step) (s : Step) (post : List Step) → l ≡ pre ++ (s ∷ post) → (t : Step) → has l t ≡ true → Less (key t) (key s) → has pre t ≡ true
  sorted_before l h pre s post e t i less = ⊎_elim
      (λ x. x)
      (λ (x : has (s ∷ post) t ≡ true). absurd (⊎_elim
      (λ (y : same t s ≡ true). let own : Less (key s) (key s) = subst (λ z. Less (key z) (key s)) (same_true t s y) less in asym (key s) (key s) own own)
      (λ (y : has post t ≡ true). asym (key t) (key s) less (each_has (λ y. Less (key s) (key y)) post t (sorted_pair pre s post (subst Sorted e h)).1 y))
      (or_cases (same t s) (has post t) x)))
      (has_parts pre (s ∷ post) t (subst (λ z. has z t ≡ true) e i))

  -- a sorted list of all steps of the plan is accepted
  pub sorted_accepted : (l : List Step) → Sorted l → Each (IsStep o) l → ((s : Step) → IsStep o s → has l s ≡ true) → Accepted o l
  sorted_accepted l sorted planned all = record {
    whole = all;
    steps = λ pre s post e. each_at (IsStep o) pre s post (subst (Each (IsStep o)) e planned);
    once = λ pre s post e. sorted_once l sorted pre s post e;
    order = λ pre s post e t plan early. sorted_before l sorted pre s post e t (all t plan) (earlier_less t s early);
  }
