-- What the counters tell is that each earlier step is taken.
use Rattle.std.proofs.Common.{◌≡◌, ℕ, ◌<◌, ◌≤◌, Bool, true, false, refl, sym, subst, ⊎_elim, length}
use Rattle.std.specs.Prelude.{◌↔◌, nat_lt, MatchBool}
use Rattle.std.proofs.lemmas.Bool.{cases_Bool, cases_lt, and_parts, and_from, lt-ltb, ltb-true}
use Rattle.std.proofs.lemmas.List.{get_or_past}
use Rattle.schedule_steps.specs.Outline.{runs}
use Rattle.schedule_steps.specs.declared.step.Step.{Step}
use Rattle.schedule_steps.specs.declared.step.Step.TheVariants.{Send, Recv, Begin, End, Join}
use Rattle.schedule_steps.specs.Steps.{item, IsOf, IsStep, Earlier, by_item, sent as sent_before, sent_first, received as received_before, begun as begun_before, coloured}
use Rattle.step_judge.specs.Run.{AllEnded, begun_at, ended_at}
use Rattle.step_judge.specs.Item.{Item, Complete, AllSent, AllReceived, MayGo, run_at, linked, sent, received}
use Rattle.step_judge.specs.Kept.{LaidOut}
use Rattle.step_judge.specs.Marked.{Marked, no_item, item_at, outline_of, taken, IsReady, Stands}

abbrev Parts : Item → ℕ → Type 0
Parts w x = AllSent w x × AllReceived w x × AllEnded (run_at w x)

free_parts : (w : Item) (x : ℕ) → w.free ≡ true → Complete w x → Parts w x
free_parts w x e h = (let P : Bool → Type 0 = λ b. MatchBool b (Parts w x) (w.joined ≡ true) in subst P e h)

from_parts : (w : Item) (x : ℕ) → w.free ≡ true → Parts w x → Complete w x
from_parts w x e h = (let P : Bool → Type 0 = λ b. MatchBool b (Parts w x) (w.joined ≡ true) in subst P (sym e) h)

other_joined : (w : Item) (x : ℕ) → w.free ≡ false → Complete w x → w.joined ≡ true
other_joined w x e h = (let P : Bool → Type 0 = λ b. MatchBool b (Parts w x) (w.joined ≡ true) in subst P e h)

from_joined : (w : Item) (x : ℕ) → w.free ≡ false → w.joined ≡ true → Complete w x
from_joined w x e h = (let P : Bool → Type 0 = λ b. MatchBool b (Parts w x) (w.joined ≡ true) in subst P (sym e) h)

-- what the item of a step asks to be taken before it
abbrev pub ItsOwn : Marked → Step → Type 0
ItsOwn v (Send k s r) = Unit {0}
ItsOwn v (Recv k r s) = sent (item_at v k) s r ≡ true
ItsOwn v (Begin k r p) = MayGo (item_at v k) r p
ItsOwn v (End k r p) = begun_at (run_at (item_at v k) r) p ≡ true
ItsOwn v (Join k) = Unit {0}

-- each rank of the step stands at its item
abbrev pub RanksStand : Marked → Step → Type 0
RanksStand v s = (x : ℕ) → x < v.ranks → IsOf s x → Stands v x (item s)

module _ (v : Marked) where
  place_in : (k r p : ℕ) → runs (outline_of v) k r p ≡ true → p < length (run_at (item_at v k) r).begun
  place_in k r p h = ltb-true _ _ (and_parts (nat_lt p (length (run_at (item_at v k) r).begun)) true h).0

  place_from : (k r p : ℕ) → p < length (run_at (item_at v k) r).begun → runs (outline_of v) k r p ≡ true
  place_from k r p lt = and_from (nat_lt p (length (run_at (item_at v k) r).begun)) true (lt-ltb _ _ lt) refl

  step_taken : (x : ℕ) (t : Step) → IsStep (outline_of v) t → IsOf t x → Complete (item_at v (item t)) x → taken v t ≡ true
  step_taken x (Send i s r) st e h = subst (λ z. sent (item_at v i) z r ≡ true) (sym e)
      ((free_parts (item_at v i) x st.1 h).0 r (subst (λ z. linked (item_at v i) z r ≡ true) e st.4))
  step_taken x (Recv i r s) st e h = subst (λ z. received (item_at v i) s z ≡ true) (sym e)
      ((free_parts (item_at v i) x st.1 h).1 s (subst (λ z. linked (item_at v i) s z ≡ true) e st.4))
  step_taken x (Begin i r p) st e h = subst (λ z. begun_at (run_at (item_at v i) z) p ≡ true) (sym e)
      ((free_parts (item_at v i) x st.1 h).2 p (subst (λ z. p < length (run_at (item_at v i) z).begun) e (place_in i r p st.3))).0
  step_taken x (End i r p) st e h = subst (λ z. ended_at (run_at (item_at v i) z) p ≡ true) (sym e)
      ((free_parts (item_at v i) x st.1 h).2 p (subst (λ z. p < length (run_at (item_at v i) z).begun) e (place_in i r p st.3))).1
  step_taken x (Join i) st e h = other_joined (item_at v i) x st.1 h

  abbrev Before : ℕ → ℕ → Type 0
  Before x k = (t : Step) → IsStep (outline_of v) t → item t < k → IsOf t x → taken v t ≡ true

  module _ (laid : LaidOut v) where
    complete_from : (x i : ℕ) → x < v.ranks → i < length v.items
        → ((t : Step) → IsStep (outline_of v) t → item t ≡ i → IsOf t x → taken v t ≡ true)
        → Complete (item_at v i) x
    complete_from x i xl lt h = ⊎_elim
        (λ (f : (item_at v i).free ≡ true). from_parts (item_at v i) x f (
          (λ r l. h (Send i x r) (lt, f, xl, (laid.ranked i x r l).1, l) refl refl),
          (λ s l. h (Recv i x s) (lt, f, (laid.ranked i s x l).0, xl, l) refl refl),
          (λ p l. (h (Begin i x p) (lt, f, xl, place_from i x p l) refl refl, h (End i x p) (lt, f, xl, place_from i x p l) refl refl)),
        ))
        (λ (f : (item_at v i).free ≡ false). from_joined (item_at v i) x f (h (Join i) (lt, f) refl tt))
        (cases_Bool (item_at v i).free)

    pub stands_iff : (x k : ℕ) → x < v.ranks → Stands v x k ↔ Before x k
    stands_iff x k xl = (
      (λ h t st lt of. step_taken x t st of (h (item t) lt)),
      (λ h i lt. ⊎_elim
          (λ (il : i < length v.items). complete_from x i xl il (λ t st e of. h t st (subst (λ z. z < k) (sym e) lt) of))
          (λ (ge : length v.items ≤ i). subst (λ w. Complete w x) (sym (get_or_past v.items i no_item ge)) refl)
          (cases_lt i (length v.items))),
    )

    -- a rank of both steps that the plan has
    common : (t s : Step) (r : ℕ) → IsStep (outline_of v) t → IsStep (outline_of v) s → IsOf t r → IsOf s r
        → (x : ℕ) × (x < v.ranks) × IsOf t x × IsOf s x
    common (Send a b c) s r ts ss ot os = (r, subst (λ z. z < v.ranks) ot ts.2, ot, os)
    common (Recv a b c) s r ts ss ot os = (r, subst (λ z. z < v.ranks) ot ts.3, ot, os)
    common (Begin a b c) s r ts ss ot os = (r, subst (λ z. z < v.ranks) ot ts.2, ot, os)
    common (End a b c) s r ts ss ot os = (r, subst (λ z. z < v.ranks) ot ts.2, ot, os)
    common (Join a) (Send x y z) r ts ss ot os = (r, subst (λ u. u < v.ranks) os ss.2, ot, os)
    common (Join a) (Recv x y z) r ts ss ot os = (r, subst (λ u. u < v.ranks) os ss.3, ot, os)
    common (Join a) (Begin x y z) r ts ss ot os = (r, subst (λ u. u < v.ranks) os ss.2, ot, os)
    common (Join a) (End x y z) r ts ss ot os = (r, subst (λ u. u < v.ranks) os ss.2, ot, os)
    common (Join a) (Join x) r ts ss ot os = (0, laid.some, tt, tt)

    before : (t s : Step) → Earlier (outline_of v) t s → IsStep (outline_of v) t → IsStep (outline_of v) s → RanksStand v s → ItsOwn v s
        → taken v t ≡ true
    before t s (by_item r a b lt) ts ss stand own =
        let c : (x : ℕ) × (x < v.ranks) × IsOf t x × IsOf s x = common t s r ts ss a b in
        (stands_iff c.0 (item s) c.1).0 (stand c.0 c.1 c.3) t ts lt c.2
    before _ _ (sent_before {k} {s} {r}) ts ss stand own = own
    before _ _ (sent_first {k} {s} {r} {e}) ts ss stand own = own.0 r ts.4
    before _ _ (received_before {k} {r} {s} {e} c) ts ss stand own = own.1 c s ts.4
    before _ _ (begun_before {k} {r} {e}) ts ss stand own = own
    before _ _ (coloured {k} {r} {e} {f} h) ts ss stand own = own.2 e (place_in k r e ts.3) h

    own_from : (s : Step) → IsStep (outline_of v) s → IsReady v s → ItsOwn v s
    own_from (Send k s r) plan h = tt
    own_from (Recv k r s) plan h = h (Send k s r) plan sent_before
    own_from (Begin k r p) plan h = (
      (λ y l. h (Send k r y) (plan.0, plan.1, plan.2, (laid.ranked k r y l).1, l) sent_first),
      (λ c s l. h (Recv k r s) (plan.0, plan.1, (laid.ranked k s r l).0, plan.2, l) (received_before c)),
      (λ q lt low. h (End k r q) (plan.0, plan.1, plan.2, place_from k r q lt) (coloured low)),
    )
    own_from (End k r p) plan h = h (Begin k r p) plan begun_before
    own_from (Join k) plan h = tt

    -- a step is ready where its ranks stand at its item and its item's own steps before it are taken
    pub ready : (s : Step) → IsStep (outline_of v) s → (RanksStand v s × ItsOwn v s) ↔ IsReady v s
    ready s plan = (
      (λ h t ts e. before t s e ts plan h.0 h.1),
      (λ h. ((λ x xl of. (stands_iff x (item s) xl).1 (λ t ts lt ot. h t ts (by_item x ot of lt))), own_from s plan h)),
    )
