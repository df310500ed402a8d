-- What a turn of the drawn order takes may be taken, and some rank can always go.
use Rattle.std.proofs.Common.{◌≡◌, ℕ, zero, suc, ◌<◌, ◌≤◌, Bool, true, false, ◌⊎◌, inl, inr, refl, sym, ap, subst, ◌∙◌, arith, ⊎_elim, List, [], ◌∷◌, ◌++◌}
use Rattle.std.specs.Prelude.{◌&&◌, not, nat_lt, ◌/◌, ◌^◌}
use Rattle.std.proofs.lemmas.Bool.{cases_Bool, cases_eq, cases_lt, false≢true, false_from_ne_true, or_cases, and_from, and_parts, not_from_false, not_from_true, lt-ltb, ltb-true, cond-true, cond-false}
use Rattle.schedule_steps.specs.Outline.{Outline}
use Rattle.schedule_steps.specs.declared.step.Step.{Step}
use Rattle.schedule_steps.specs.declared.step.Step.TheVariants.{Send, Recv, Begin, End, Join}
use Rattle.schedule_steps.specs.Steps.{item, IsOf, IsStep, Earlier, by_item, sent, sent_first, received, begun, coloured, same, has}
use Rattle.schedule_steps.specs.Members.{same_true, has_parts}
use Rattle.schedule_steps.specs.Turns.{Takes}
use Rattle.schedule_steps.specs.Drawn.{own, next_join, is_early, waits, numbers, drawn_number, picked, Turn, Over, JoinOf, StepOf, turn_by, turn}
use Rattle.schedule_steps.proofs.Picks.{first_low, first_hit, Among, listed, listed_only, pick_among}
use Rattle.schedule_steps.proofs.Own.{is_join, is_send, own_all, own_mine, own_once, own_order, own_items, own_sends}

ranks_of : (o : Outline) (t : Step) (r : ℕ) → IsStep o t → is_join t ≡ false → IsOf t r → r < o.ranks
ranks_of o (Send k s x) r h j of = subst (λ z. z < o.ranks) of h.2
ranks_of o (Recv k x s) r h j of = subst (λ z. z < o.ranks) of h.3
ranks_of o (Begin k x e) r h j of = subst (λ z. z < o.ranks) of h.2
ranks_of o (End k x e) r h j of = subst (λ z. z < o.ranks) of h.2
ranks_of o (Join k) r h j of = absurd (false≢true (sym j))

pub one_rank : (t : Step) (r x : ℕ) → is_join t ≡ false → IsOf t r → IsOf t x → r ≡ x
one_rank (Send k s y) r x j a b = sym a ∙ b
one_rank (Recv k y s) r x j a b = sym a ∙ b
one_rank (Begin k y e) r x j a b = sym a ∙ b
one_rank (End k y e) r x j a b = sym a ∙ b
one_rank (Join k) r x j a b = absurd (false≢true (sym j))

some_rank_of : (t : Step) → (r : ℕ) × IsOf t r
some_rank_of (Send k s y) = (s, refl)
some_rank_of (Recv k y s) = (y, refl)
some_rank_of (Begin k y e) = (y, refl)
some_rank_of (End k y e) = (y, refl)
some_rank_of (Join k) = (0, tt)

-- where the turns stand: what each rank has done and has left
pub record Stand (o : Outline) (g : ℕ) (rest : ℕ → List Step) (m : Step → Bool) : Type 0 where
  pub past : ℕ → List Step
  pub parts : (r : ℕ) → r < o.ranks → own o g r ≡ past r ++ rest r
  pub marks : (r : ℕ) (t : Step) → r < o.ranks → IsOf t r → is_join t ≡ false → m t ≡ has (past r) t

module _ (o : Outline) (g : ℕ) (rest : ℕ → List Step) (m : Step → Bool) (st : Stand o g rest m) where
  abbrev k : ℕ
  k = next_join o m

  abbrev open_join : ℕ → Bool
  open_join j = not (o.is_free j) && not (m (Join j))

  -- joins before the next are taken
  joined : (j : ℕ) → j < k → IsStep o (Join j) → m (Join j) ≡ true
  joined j lt plan = ⊎_elim
      (λ t. t)
      (λ (f : m (Join j) ≡ false). absurd
      (false≢true (sym (first_low open_join o.items j lt)
      ∙ and_from (not (o.is_free j)) (not (m (Join j))) (not_from_false (o.is_free j) plan.1) (not_from_false (m (Join j)) f))))
      (cases_Bool (m (Join j)))

  early_join : (t : Step) → is_join t ≡ true → IsStep o t → item t < k → m t ≡ true
  early_join (Send a b c) j plan lt = absurd (false≢true j)
  early_join (Recv a b c) j plan lt = absurd (false≢true j)
  early_join (Begin a b c) j plan lt = absurd (false≢true j)
  early_join (End a b c) j plan lt = absurd (false≢true j)
  early_join (Join i) j plan lt = joined i lt plan

  -- an earlier step is the rank's own, a join or the send of the message
  kinds : (r : ℕ) (t s : Step) → Earlier o t s → is_join s ≡ false → IsOf s r → is_join t ≡ false → IsOf t r ⊎ ((i : ℕ) × (x : ℕ) × (s ≡ Recv i r x) × (t ≡ Send i x r))
  kinds r t s (by_item y a b lt) js os jt = inl (subst (IsOf t) (one_rank s y r js b os) a)
  kinds r _ _ (sent {k = i} {s = x}) js os jt = inr (i, x, ap (λ z. Recv i z x) os, ap (Send i x) os)
  kinds r _ _ sent_first js os jt = inl os
  kinds r _ _ (received h) js os jt = inl os
  kinds r _ _ begun js os jt = inl os
  kinds r _ _ (coloured h) js os jt = inl os

  item_less : (t s : Step) → Earlier o t s → is_join t ≡ true → item t < item s
  item_less t s (by_item r a b lt) j = lt
  item_less _ _ sent j = absurd (false≢true j)
  item_less _ _ sent_first j = absurd (false≢true j)
  item_less _ _ (received h) j = absurd (false≢true j)
  item_less _ _ begun j = absurd (false≢true j)
  item_less _ _ (coloured h) j = absurd (false≢true j)

  -- a rank's next step, of an item before the next join, that doesn't wait
  pub step_ready : (r : ℕ) (s : Step) (left : List Step) → r < o.ranks → rest r ≡ s ∷ left → is_early k (rest r) ≡ true → waits m (rest r) ≡ false → Takes o m s
  step_ready r s left lr head early free =
      let cut : own o g r ≡ st.past r ++ (s ∷ left) = st.parts r lr ∙ ap (λ z. st.past r ++ z) head in
      let h : IsStep o s × IsOf s r × (is_join s ≡ false) = own_mine o g r lr (st.past r) s left cut in
      let low : item s < k = ltb-true (item s) k (ap (is_early k) (sym head) ∙ early) in
      record {
        planned = h.0;
        untaken = st.marks r s lr h.1 h.2 ∙ own_once o g r (st.past r) s left cut;
        after = λ t plan earlier. ⊎_elim
            (λ (j : is_join t ≡ true). early_join t j plan (let lt : item t < item s = item_less t s earlier j in omega arith))
            (λ (j : is_join t ≡ false). ⊎_elim
            (λ (of : IsOf t r). st.marks r t lr of j ∙ own_order o g r (st.past r) s left cut t plan j of earlier)
            (λ (i : (i : ℕ) × (x : ℕ) × (s ≡ Recv i r x) × (t ≡ Send i x r)). ap m i.3 ∙ sent_already i.0 i.1 i.2)
            (kinds r t s earlier h.2 h.1 j))
            (cases_Bool (is_join t));
      }
    where
      sent_already : (i x : ℕ) → s ≡ Recv i r x → m (Send i x r) ≡ true
      sent_already i x e = ⊎_elim
          (λ t. t)
          (λ (f : m (Send i x r) ≡ false). absurd (false≢true (sym (ap (waits m) (sym (head ∙ ap (λ z. z ∷ left) e)) ∙ free) ∙ not_from_false (m (Send i x r)) f)))
          (cases_Bool (m (Send i x r)))

  join_before : (t : Step) (i : ℕ) → Earlier o t (Join i) → item t < i
  join_before t i (by_item r a b lt) = lt

  -- what is left of a rank is of items from its next step's on
  left_items : (r : ℕ) → r < o.ranks → (l : List Step) → rest r ≡ l → (t : Step) → has l t ≡ true → (s : Step) × (x : List Step) × (rest r ≡ s ∷ x) × (item s ≤ item t) × ((t ≡ s) ⊎ (has x t ≡ true))
  left_items r lr [] e t h = absurd (false≢true h)
  left_items r lr (s ∷ x) e t h = ⊎_elim
      (λ (i : same t s ≡ true). let j : t ≡ s = same_true t s i in (s, x, e, (let z : item t ≡ item s = ap item j in omega arith), inl j))
      (λ (i : has x t ≡ true). (s, x, e, own_items o g r (st.past r) s x (st.parts r lr ∙ ap (λ z. st.past r ++ z) e) t i, inr i))
      (or_cases (same t s) (has x t) h)

  done_or_left : (r : ℕ) → r < o.ranks → (t : Step) → IsStep o t → is_join t ≡ false → IsOf t r → (m t ≡ true) ⊎ (has (rest r) t ≡ true)
  done_or_left r lr t plan j of = ⊎_elim
      (λ (h : has (st.past r) t ≡ true). inl (st.marks r t lr of j ∙ h))
      (λ h. inr h)
      (has_parts (st.past r) (rest r) t (ap (λ z. has z t) (sym (st.parts r lr)) ∙ own_all o g r t plan j of))

  abbrev pub NoneEarly : Type 0
  NoneEarly = (r : ℕ) → r < o.ranks → is_early k (rest r) ≡ false

  -- where no rank's next step is of an item before k, all steps of such items are taken
  pub past_taken : NoneEarly → (t : Step) → IsStep o t → item t < k → m t ≡ true
  past_taken none t plan lt = ⊎_elim
      (λ (j : is_join t ≡ true). early_join t j plan lt)
      (λ (j : is_join t ≡ false).
      let r : (r : ℕ) × IsOf t r = some_rank_of t in
      let lr : r.0 < o.ranks = ranks_of o t r.0 plan j r.1 in
      ⊎_elim
      (λ h. h)
      (λ (h : has (rest r.0) t ≡ true).
      let l : (s : Step) × (x : List Step) × (rest r.0 ≡ s ∷ x) × (item s ≤ item t) × ((t ≡ s) ⊎ (has x t ≡ true)) = left_items r.0 lr (rest r.0) refl t h in
      absurd (false≢true (sym (none r.0 lr) ∙ (ap (is_early k) l.2 ∙ lt-ltb (item l.0) k (let b : item l.0 ≤ item t = l.3 in omega arith)))))
      (done_or_left r.0 lr t plan j r.1))
      (cases_Bool (is_join t))

  pub join_ready : NoneEarly → k < o.items → Takes o m (Join k)
  join_ready none lt =
      let hit : (not (o.is_free k) ≡ true) × (not (m (Join k)) ≡ true) = and_parts (not (o.is_free k)) (not (m (Join k))) (first_hit open_join o.items lt) in
      record {
        planned = (lt, false_from_ne_true (o.is_free k) (λ t. false≢true (sym (not_from_true (o.is_free k) t) ∙ hit.0)));
        untaken = false_from_ne_true (m (Join k)) (λ t. false≢true (sym (not_from_true (m (Join k)) t) ∙ hit.1));
        after = λ t plan earlier. past_taken none t plan (join_before t k earlier);
      }

  -- ---- progress
  -- the rank can go
  abbrev CanGo : ℕ → Type 0
  CanGo r = (is_early k (rest r) && not (waits m (rest r))) ≡ true

  abbrev Next : ℕ → ℕ → Type 0
  Next r i = (s : Step) × (l : List Step) × (rest r ≡ s ∷ l) × (item s ≡ i)

  -- the rank below n whose next step is of the least item
  abbrev Least : ℕ → Type 0
  Least n = (r : ℕ) × (i : ℕ) × (r < n) × Next r i × ((x j : ℕ) → x < n → Next x j → i ≤ j)

  no_next : (x : ℕ) → rest x ≡ [] → (j : ℕ) → Next x j → ⊥
  no_next x e j h = (let i : [] ≡ h.0 ∷ h.1 = sym e ∙ h.2 in cc)

  one_next : (x i j : ℕ) → Next x i → Next x j → i ≡ j
  one_next x i j a b = (let e : a.0 ∷ a.1 ≡ b.0 ∷ b.1 = sym a.2 ∙ b.2 in let f : a.0 ≡ b.0 = cc in sym a.3 ∙ (ap item f ∙ b.3))

  next_of : (x : ℕ) (l : List Step) → rest x ≡ l → (rest x ≡ []) ⊎ ((i : ℕ) × Next x i)
  next_of x [] e = inl e
  next_of x (s ∷ l) e = inr (item s, (s, l, e, refl))

  below_suc : (P : ℕ → Type 0) (n x : ℕ) → ((y : ℕ) → y < n → P y) → P n → x < suc n → P x
  below_suc P n x h last lt = ⊎_elim (λ (e : x ≡ n). subst P (sym e) last) (λ (ne : x ≡ n → ⊥). h x (omega arith)) (cases_eq x n)

  least_of : (n : ℕ) → ((x : ℕ) → x < n → rest x ≡ []) ⊎ Least n
  least_of zero = inl (λ x lt. absurd (omega arith))
  least_of (suc n) = ⊎_elim
      (λ (none : (x : ℕ) → x < n → rest x ≡ []). ⊎_elim
      (λ (e : rest n ≡ []). inl (λ x lt. below_suc (λ y. rest y ≡ []) n x none e lt))
      (λ (b : (i : ℕ) × Next n i). inr (
        n,
        b.0,
        omega arith,
        b.1,
        λ x j lt h. below_suc (λ y. Next y j → b.0 ≤ j) n x (λ y l g. absurd (no_next y (none y l) j g))
            (λ g. (let e : b.0 ≡ j = one_next n b.0 j b.1 g in omega arith)) lt h,
      ))
      (next_of n (rest n) refl))
      (λ (a : Least n). ⊎_elim
      (λ (e : rest n ≡ []). inr (
        a.0,
        a.1,
        (let l : a.0 < n = a.2 in omega arith),
        a.3,
        λ x j lt h. below_suc (λ y. Next y j → a.1 ≤ j) n x (λ y l g. a.4 y j l g) (λ g. absurd (no_next n e j g)) lt h,
      ))
      (λ (b : (i : ℕ) × Next n i). ⊎_elim
      (λ (lt : b.0 < a.1). inr (
        n,
        b.0,
        omega arith,
        b.1,
        λ x j xl h. below_suc (λ y. Next y j → b.0 ≤ j) n x (λ y l g. (let u : a.1 ≤ j = a.4 y j l g in omega arith))
            (λ g. (let e : b.0 ≡ j = one_next n b.0 j b.1 g in omega arith)) xl h,
      ))
      (λ (ge : a.1 ≤ b.0). inr (
        a.0,
        a.1,
        (let l : a.0 < n = a.2 in omega arith),
        a.3,
        λ x j xl h. below_suc (λ y. Next y j → a.1 ≤ j) n x (λ y l g. a.4 y j l g)
            (λ g. (let e : b.0 ≡ j = one_next n b.0 j b.1 g in omega arith)) xl h,
      ))
      (cases_lt b.0 a.1))
      (next_of n (rest n) refl))
      (least_of n)

  -- a step of an early item that needn't wait
  goes : (r : ℕ) (s : Step) (l : List Step) → rest r ≡ s ∷ l → item s < k → waits m (s ∷ l) ≡ false → CanGo r
  goes r s l e lt h = subst (λ z. (is_early k z && not (waits m z)) ≡ true) (sym e) (and_from (is_early k (s ∷ l)) (not (waits m (s ∷ l))) (lt-ltb (item s) k lt) (not_from_false (waits m (s ∷ l)) h))

  send_goes : (s : Step) (l : List Step) → is_send s ≡ true → waits m (s ∷ l) ≡ false
  send_goes (Send a b c) l h = refl
  send_goes (Recv a b c) l h = absurd (false≢true h)
  send_goes (Begin a b c) l h = absurd (false≢true h)
  send_goes (End a b c) l h = absurd (false≢true h)
  send_goes (Join a) l h = absurd (false≢true h)

  least_goes : Least o.ranks → (r j : ℕ) → r < o.ranks → Next r j → j < k → (x : ℕ) × (x < o.ranks) × CanGo x
  least_goes a r j lt h jk = pick a.3.0 refl
    where
      low : a.1 < k
      low = (let u : a.1 ≤ j = a.4 r j lt h in omega arith)

      head_low : item a.3.0 < k
      head_low = (let u : item a.3.0 ≡ a.1 = a.3.3 in let v : a.1 < k = low in omega arith)

      cut : own o g a.0 ≡ st.past a.0 ++ (a.3.0 ∷ a.3.1)
      cut = st.parts a.0 a.2 ∙ ap (λ z. st.past a.0 ++ z) a.3.2

      -- the sender of the message can go
      sender : (i x : ℕ) → a.3.0 ≡ Recv i a.0 x → m (Send i x a.0) ≡ false → (y : ℕ) × (y < o.ranks) × CanGo y
      sender i x e f =
          let plan : IsStep o (Recv i a.0 x) = subst (IsStep o) e (own_mine o g a.0 a.2 (st.past a.0) a.3.0 a.3.1 cut).0 in
          let at : i ≡ a.1 = ap item (sym e) ∙ a.3.3 in
          let there : has (rest x) (Send i x a.0) ≡ true = ⊎_elim (λ t. absurd (false≢true (sym f ∙ t))) (λ t. t) (done_or_left x plan.2 (Send i x a.0) plan refl refl) in
          let l : (s : Step) × (y : List Step) × (rest x ≡ s ∷ y) × (item s ≤ i) × ((Send i x a.0 ≡ s) ⊎ (has y (Send i x a.0) ≡ true)) = left_items x plan.2 (rest x) refl (Send i x a.0) there in
          let same_item : item l.0 ≡ i = (let u : a.1 ≤ item l.0 = a.4 x (item l.0) plan.2 (l.0, l.1, l.2, refl) in let v : item l.0 ≤ i = l.3 in omega arith) in (
            x,
            plan.2,
            goes x l.0 l.1 l.2 (let u : a.1 < k = low in omega arith)
                (send_goes l.0 l.1
                (⊎_elim
                (λ (y : Send i x a.0 ≡ l.0). ap is_send (sym y))
                (λ (y : has l.1 (Send i x a.0) ≡ true). own_sends o g x (st.past x) l.0 l.1 (st.parts x plan.2 ∙ ap (λ z. st.past x ++ z) l.2) i a.0 y same_item)
                l.4)),
          )

      pick : (s : Step) → a.3.0 ≡ s → (y : ℕ) × (y < o.ranks) × CanGo y
      pick (Send b c d) e = (a.0, a.2, goes a.0 a.3.0 a.3.1 a.3.2 head_low (ap (λ z. waits m (z ∷ a.3.1)) e))
      pick (Begin b c d) e = (a.0, a.2, goes a.0 a.3.0 a.3.1 a.3.2 head_low (ap (λ z. waits m (z ∷ a.3.1)) e))
      pick (End b c d) e = (a.0, a.2, goes a.0 a.3.0 a.3.1 a.3.2 head_low (ap (λ z. waits m (z ∷ a.3.1)) e))
      pick (Join b) e = (a.0, a.2, goes a.0 a.3.0 a.3.1 a.3.2 head_low (ap (λ z. waits m (z ∷ a.3.1)) e))
      pick (Recv b c d) e =
          let mine : c ≡ a.0 = subst (λ z. IsOf z a.0) e (own_mine o g a.0 a.2 (st.past a.0) a.3.0 a.3.1 cut).1 in
          let e2 : a.3.0 ≡ Recv b a.0 d = e ∙ ap (λ z. Recv b z d) mine in
          ⊎_elim
          (λ (t : m (Send b d a.0) ≡ true). (a.0, a.2, goes a.0 a.3.0 a.3.1 a.3.2 head_low (ap (λ z. waits m (z ∷ a.3.1)) e2 ∙ not_from_true (m (Send b d a.0)) t)))
          (λ (t : m (Send b d a.0) ≡ false). sender b d e2 t)
          (cases_Bool (m (Send b d a.0)))

  progress : (r : ℕ) → r < o.ranks → is_early k (rest r) ≡ true → (x : ℕ) × (x < o.ranks) × CanGo x
  progress r lt early = by_rest (rest r) refl
    where
      by_rest : (l : List Step) → rest r ≡ l → (x : ℕ) × (x < o.ranks) × CanGo x
      by_rest [] e = absurd (false≢true (ap (is_early k) (sym e) ∙ early))
      by_rest (s ∷ l) e = ⊎_elim
          (λ (none : (x : ℕ) → x < o.ranks → rest x ≡ []). (let z : [] ≡ s ∷ l = sym (none r lt) ∙ e in cc))
          (λ (a : Least o.ranks). least_goes a r (item s) lt (s, l, e, refl) (ltb-true (item s) k (ap (is_early k) (sym e) ∙ early)))
          (least_of o.ranks)

  -- ---- what a turn does
  pub data Case (t : Turn) : Type 0 where
    over : t ≡ Over → NoneEarly → o.items ≤ k → Case t
    join : t ≡ JoinOf k → NoneEarly → k < o.items → Case t
    go : (r : ℕ) → t ≡ StepOf r → r < o.ranks → is_early k (rest r) ≡ true → waits m (rest r) ≡ false → Case t

  by_early : (x : ℕ) (l : List ℕ) → numbers (λ r. is_early k (rest r)) o.ranks ≡ l → Case (turn_by o rest m x k l)
  by_early x [] e =
      let none : NoneEarly = λ r lt. false_from_ne_true (is_early k (rest r)) (λ t. subst (Among r) e (listed (λ r. is_early k (rest r)) o.ranks r lt t)) in
      ⊎_elim
      (λ (lt : k < o.items). join (cond-true (nat_lt k o.items) (JoinOf k) Over (lt-ltb k o.items lt)) none lt)
      (λ (le : o.items ≤ k). over (cond-false (nat_lt k o.items) (JoinOf k) Over (false_from_ne_true (nat_lt k o.items) (λ t. let lt : k < o.items = ltb-true k o.items t in omega arith))) none le)
      (cases_lt k o.items)
  by_early x (c ∷ cs) e =
      let first : (c < o.ranks) × (is_early k (rest c) ≡ true) = listed_only (λ r. is_early k (rest r)) o.ranks c (subst (Among c) (sym e) (inl refl)) in
      let some : (y : ℕ) × (y < o.ranks) × CanGo y = progress c first.0 first.1 in
      let there : Among some.0 (numbers (λ r. is_early k (rest r) && not (waits m (rest r))) o.ranks) = listed (λ r. is_early k (rest r) && not (waits m (rest r))) o.ranks some.0 some.1 some.2 in
      let got : (picked (drawn_number x) (numbers (λ r. is_early k (rest r) && not (waits m (rest r))) o.ranks) < o.ranks)
      × CanGo (picked (drawn_number x) (numbers (λ r. is_early k (rest r) && not (waits m (rest r))) o.ranks)) =
      listed_only (λ r. is_early k (rest r) && not (waits m (rest r))) o.ranks (picked (drawn_number x) (numbers (λ r. is_early k (rest r) && not (waits m (rest r))) o.ranks))
      (pick_among (numbers (λ r. is_early k (rest r) && not (waits m (rest r))) o.ranks) (drawn_number x / 2 ^ 33) some.0 there) in
      ready (picked (drawn_number x) (numbers (λ r. is_early k (rest r) && not (waits m (rest r))) o.ranks)) got.0 got.1
    where
      ready : (r : ℕ) → r < o.ranks → CanGo r → Case (StepOf r)
      ready r lt can =
          let both : (is_early k (rest r) ≡ true) × (not (waits m (rest r)) ≡ true) = and_parts (is_early k (rest r)) (not (waits m (rest r))) can in
          go r refl lt both.0 (false_from_ne_true (waits m (rest r)) (λ t. false≢true (sym (not_from_true (waits m (rest r)) t) ∙ both.1)))

  pub turn_case : (x : ℕ) → Case (turn o rest m x)
  turn_case x = by_early x (numbers (λ r. is_early k (rest r)) o.ranks) refl
