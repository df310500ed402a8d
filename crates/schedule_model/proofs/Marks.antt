-- The steps taken so far, as a test.
use Rattle.std.proofs.Common.{◌≡◌, ℕ, zero, suc, ◌<◌, ◌≤◌, Bool, true, false, cond, ◌⊎◌, inl, inr, refl, sym, ap, subst, ◌∙◌, arith, ⊎_elim, List, [], ◌∷◌, ◌++◌, append-nil}
use Rattle.std.specs.Prelude.{◌&&◌, ◌||◌, not}
use Rattle.std.proofs.lemmas.Bool.{cases_eq, false_from_ne_true, or_cases, or_left, or_right}
use Rattle.schedule_steps.specs.Outline.{Outline}
use Rattle.schedule_steps.specs.declared.step.Step.{Step}
use Rattle.schedule_steps.specs.declared.step.Step.TheVariants.{Send, Recv, Begin, End, Join}
use Rattle.schedule_steps.specs.Steps.{item, IsOf, IsStep, Earlier, same}
use Rattle.schedule_steps.specs.Members.{same_true, same_refl}
use Rattle.schedule_model.specs.Cells.{DatCell, Data}
use Rattle.schedule_model.specs.Effects.{is_modified}
use Rattle.schedule_model.specs.Setup.{Setup}

abbrev pub mark : Step → (Step → Bool) → Step → Bool
mark s m t = same t s || m t

pub mark_self : (s : Step) (m : Step → Bool) → mark s m s ≡ true
mark_self s m = or_left (same s s) (m s) (same_refl s)

pub mark_old : (s : Step) (m : Step → Bool) (t : Step) → m t ≡ true → mark s m t ≡ true
mark_old s m t h = or_right (same t s) (m t) h

pub mark_true : (s : Step) (m : Step → Bool) (t : Step) → mark s m t ≡ true → (t ≡ s) ⊎ (m t ≡ true)
mark_true s m t h = ⊎_elim (λ e. inl (same_true t s e)) (λ e. inr e) (or_cases (same t s) (m t) h)

pub mark_else : (s : Step) (m : Step → Bool) (t : Step) → (t ≡ s → ⊥) → mark s m t ≡ m t
mark_else s m t ne = ap (λ b. b || m t) (false_from_ne_true (same t s) (λ h. ne (same_true t s h)))

-- a step that may be taken now
pub record Ready (o : Outline) (m : Step → Bool) (s : Step) : Type 0 where
  pub planned : IsStep o s
  pub untaken : m s ≡ false
  pub after : (t : Step) → IsStep o t → Earlier o t s → m t ≡ true

-- what is taken was planned, and had what is earlier before it
pub record Proper (o : Outline) (m : Step → Bool) : Type 0 where
  pub sound : (s : Step) → m s ≡ true → IsStep o s
  pub closed : (s t : Step) → m s ≡ true → IsStep o t → Earlier o t s → m t ≡ true

pub proper_more : (o : Outline) (m : Step → Bool) (s : Step) → Proper o m → Ready o m s → Proper o (mark s m)
proper_more o m s h r = record {
  sound = λ t e. ⊎_elim (λ i. subst (IsStep o) (sym i) r.planned) (λ i. h.sound t i) (mark_true s m t e);
  closed = λ t u e plan early. mark_old s m u (⊎_elim (λ (i : t ≡ s). r.after u plan (subst (λ x. Earlier o u x) i early)) (λ i. h.closed t u i plan early) (mark_true s m t e));
}

-- rank r stands at item k
pub record Stands (o : Outline) (m : Step → Bool) (r k : ℕ) : Type 0 where
  pub within : k ≤ o.items
  pub past : (t : Step) → IsStep o t → IsOf t r → item t < k → m t ≡ true
  pub ahead : (t : Step) → IsOf t r → k < item t → m t ≡ false
  pub unjoined : m (Join k) ≡ false

-- the steps of other ranks move nothing
pub stands_other : (o : Outline) (m w : Step → Bool) (r k : ℕ) → ((t : Step) → IsOf t r → w t ≡ m t) → Stands o m r k → Stands o w r k
stands_other o m w r k same h = record {
  within = h.within;
  past = λ t plan of lt. same t of ∙ h.past t plan of lt;
  ahead = λ t of lt. same t of ∙ h.ahead t of lt;
  unjoined = same (Join k) tt ∙ h.unjoined;
}

-- nor does a step of item k itself, unless it is a join
pub stands_same : (o : Outline) (m : Step → Bool) (r : ℕ) (s : Step) → (s ≡ Join (item s) → ⊥) → Stands o m r (item s) → Stands o (mark s m) r (item s)
stands_same o m r s nj h = record {
  within = h.within;
  past = λ t plan of lt. mark_old s m t (h.past t plan of lt);
  ahead = λ t of lt. mark_else s m t (λ e. let i : item t ≡ item s = ap item e in omega arith) ∙ h.ahead t of lt;
  unjoined = mark_else s m (Join (item s)) (λ e. nj (sym e)) ∙ h.unjoined;
}

-- of two open elements of a rank, none modifies what the other modifies
abbrev pub Apart : {F : Type 0} → Setup F → (Step → Bool) → Type 0
Apart p m =
    (k r a b : ℕ) (c : DatCell) → m (Begin k r a) ≡ true → m (End k r a) ≡ false → m (Begin k r b) ≡ true → m (End k r b) ≡ false → (a ≡ b → ⊥)
    → is_modified (p.touch k a (Data c)) ≡ true → is_modified (p.touch k b (Data c)) ≡ true → ⊥

-- the messages that are under way, by item
abbrev pub waiting : (Step → Bool) → ℕ → ℕ → ℕ → Bool
waiting m s r k = m (Send k s r) && not (m (Recv k r s))

abbrev pub pending : (ℕ → Bool) → ℕ → List ℕ
pending t zero = []
pending t (suc n) = pending t n ++ cond (t n) (n ∷ []) []

pub pending_same : (t u : ℕ → Bool) (n : ℕ) → ((j : ℕ) → j < n → t j ≡ u j) → pending t n ≡ pending u n
pending_same t u zero h = refl
pending_same t u (suc n) h = ap (λ x. x ++ cond (t n) (n ∷ []) []) (pending_same t u n (λ j lt. h j (omega arith))) ∙ ap (λ b. pending u n ++ cond b (n ∷ []) []) (h n (omega arith))

pending_skip : (t : ℕ → Bool) (n : ℕ) → t n ≡ false → pending t (suc n) ≡ pending t n
pending_skip t n h = ap (λ b. pending t n ++ cond b (n ∷ []) []) h ∙ append-nil (pending t n)

pending_none : (t : ℕ → Bool) (n : ℕ) → ((j : ℕ) → j < n → t j ≡ false) → pending t n ≡ []
pending_none t zero h = refl
pending_none t (suc n) h = pending_skip t n (h n (omega arith)) ∙ pending_none t n (λ j lt. h j (omega arith))

pub pending_push : (t u : ℕ → Bool) (k n : ℕ) → k < n → t k ≡ false → u k ≡ true → ((j : ℕ) → (j ≡ k → ⊥) → u j ≡ t j) → ((j : ℕ) → k < j → t j ≡ false) → pending u n ≡ pending t n ++ (k ∷ [])
pending_push t u k zero lt tk uk other after = absurd (omega arith)
pending_push t u k (suc n) lt tk uk other after = ⊎_elim
    (λ (e : k ≡ n).
    ap (λ x. x ++ cond (u n) (n ∷ []) []) (pending_same u t n (λ j l. other j (λ i. omega arith)))
    ∙ (ap (λ b. pending t n ++ cond b (n ∷ []) []) (subst (λ i. u i ≡ true) e uk)
    ∙ (ap (λ i. pending t n ++ (i ∷ [])) (sym e)
    ∙ ap (λ x. x ++ (k ∷ [])) (sym (pending_skip t n (subst (λ i. t i ≡ false) e tk))))))
    (λ (ne : k ≡ n → ⊥).
    let tn : t n ≡ false = after n (omega arith) in
    pending_skip u n (other n (λ i. ne (sym i)) ∙ tn)
    ∙ (pending_push t u k n (omega arith) tk uk other after ∙ ap (λ x. x ++ (k ∷ [])) (sym (pending_skip t n tn))))
    (cases_eq k n)

pub pending_pop : (t u : ℕ → Bool) (k n : ℕ) → k < n → t k ≡ true → u k ≡ false → ((j : ℕ) → (j ≡ k → ⊥) → u j ≡ t j) → ((j : ℕ) → j < k → t j ≡ false) → pending t n ≡ k ∷ pending u n
pending_pop t u k zero lt tk uk other before = absurd (omega arith)
pending_pop t u k (suc n) lt tk uk other before = ⊎_elim
    (λ (e : k ≡ n).
    ap (λ x. x ++ cond (t n) (n ∷ []) []) (pending_none t n (λ j l. before j (omega arith)))
    ∙ (ap (λ b. cond b (n ∷ []) []) (subst (λ i. t i ≡ true) e tk)
    ∙ (ap (λ i. i ∷ []) (sym e)
    ∙ ap (λ x. k ∷ x) (sym (pending_skip u n (subst (λ i. u i ≡ false) e uk) ∙ (pending_same u t n (λ j l. other j (λ i. omega arith)) ∙ pending_none t n (λ j l. before j (omega arith))))))))
    (λ (ne : k ≡ n → ⊥).
    ap (λ x. x ++ cond (t n) (n ∷ []) []) (pending_pop t u k n (omega arith) tk uk other before)
    ∙ ap (λ b. (k ∷ pending u n) ++ cond b (n ∷ []) []) (sym (other n (λ i. ne (sym i)))))
    (cases_eq k n)
