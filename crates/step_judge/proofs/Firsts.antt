-- The first of several lists, one after another.
use Rattle.std.proofs.Common.{◌≡◌, ℕ, zero, suc, ◌+◌, ◌<◌, Bool, true, false, refl, sym, ap, subst, ◌∙◌, arith, ⊎_elim, List, [], ◌∷◌, ◌++◌, Option, Some, None, length, add-one}
use Rattle.std.specs.Prelude.{◌&&◌, nat_lt}
use Rattle.std.proofs.lemmas.Bool.{cases_Bool, cases_eq, cond-true, cond-false, and_parts, lt-ltb}
use Rattle.schedule_steps.specs.Outline.{Outline}
use Rattle.schedule_steps.specs.declared.step.Step.{Step}
use Rattle.schedule_steps.specs.declared.step.Step.TheVariants.{Send, Join}
use Rattle.schedule_steps.specs.Standard.{below, where_true, sends_of, receives_of, element_steps, item_steps}
use Rattle.schedule_steps.specs.Judged.{is_step, first_of}
use Rattle.step_judge.specs.Marked.{Marked, item_at, outline_of}
use Rattle.step_judge.specs.Wanted.{AreMarksOf}

module _ (f : Step → Bool) where
  pub append_none : (a b : List Step) → first_of f a ≡ None → first_of f (a ++ b) ≡ first_of f b
  append_none [] b h = refl
  append_none (s ∷ a) b h = ⊎_elim
      (λ (u : f s ≡ true). (let e : Some s ≡ None = sym (cond-true (f s) (Some s) (first_of f a) u) ∙ h in cc))
      (λ (u : f s ≡ false). cond-false (f s) (Some s) (first_of f (a ++ b)) u ∙ append_none a b (sym (cond-false (f s) (Some s) (first_of f a) u) ∙ h))
      (cases_Bool (f s))

  pub append_some : (a b : List Step) (x : Option Step) (t : Step) → x ≡ Some t → first_of f a ≡ x → first_of f (a ++ b) ≡ x
  append_some [] b x t e h = (let d : None ≡ Some t = h ∙ e in cc)
  append_some (s ∷ a) b x t e h = ⊎_elim
      (λ (u : f s ≡ true). cond-true (f s) (Some s) (first_of f (a ++ b)) u ∙ (sym (cond-true (f s) (Some s) (first_of f a) u) ∙ h))
      (λ (u : f s ≡ false). cond-false (f s) (Some s) (first_of f (a ++ b)) u ∙ append_some a b x t e (sym (cond-false (f s) (Some s) (first_of f a) u) ∙ h))
      (cases_Bool (f s))

  -- of the first of several lists that has one
  pub below_some : (g : ℕ → List Step) (i n : ℕ) (t : Step) → i < n → first_of f (below g i) ≡ None → first_of f (g i) ≡ Some t → first_of f (below g n) ≡ Some t
  below_some g i zero t lt none some = absurd (omega arith)
  below_some g i (suc n) t lt none some = ⊎_elim
      (λ (e : i ≡ n). append_none (below g n) (g n) (subst (λ z. first_of f (below g z) ≡ None) e none) ∙ subst (λ z. first_of f (g z) ≡ Some t) e some)
      (λ (ne : i ≡ n → ⊥). append_some (below g n) (g n) (Some t) t refl (below_some g i n t (omega arith) none some))
      (cases_eq i n)

  pub below_none : (g : ℕ → List Step) (i : ℕ) → first_of f (below g i) ≡ None → first_of f (g i) ≡ None → first_of f (below g (i + 1)) ≡ None
  below_none g i none here = ap (λ z. first_of f (below g z)) (add-one i) ∙ (append_none (below g i) (g i) none ∙ here)

  -- a list of one step, where a test holds
  pub where_some : (b : Bool) (s : Step) → (b && f s) ≡ true → first_of f (where_true b (s ∷ [])) ≡ Some s
  where_some b s h =
      let p : (b ≡ true) × (f s ≡ true) = and_parts b (f s) h in
      ap (first_of f) (cond-true b (s ∷ []) [] p.0) ∙ cond-true (f s) (Some s) None p.1

  pub where_none : (b : Bool) (s : Step) → (b && f s) ≡ false → first_of f (where_true b (s ∷ [])) ≡ None
  where_none true s h = cond-false (f s) (Some s) None h
  where_none false s h = refl

module _ (v : Marked) (o : Outline) (marks : AreMarksOf o v) (k : ℕ) (item : k < length v.items) where
  -- the message is one of the plan's
  pub sends_here : (s r : ℕ) → (item_at v k).free ≡ true → s < v.ranks → r < v.ranks → is_step (outline_of v) (Send k s r) ≡ o.sends k s r
  sends_here s r free ls lr =
      ap (λ z. z && ((item_at v k).free && (nat_lt s v.ranks && (nat_lt r v.ranks && (outline_of v).sends k s r)))) (lt-ltb k (length v.items) item)
      ∙ (ap (λ z. z && (nat_lt s v.ranks && (nat_lt r v.ranks && (outline_of v).sends k s r))) free
      ∙ (ap (λ z. z && (nat_lt r v.ranks && (outline_of v).sends k s r)) (lt-ltb s v.ranks ls)
      ∙ (ap (λ z. z && (outline_of v).sends k s r) (lt-ltb r v.ranks lr)
      ∙ marks.alike.sends k s r item free ls lr)))

  module _ (f : Step → Bool) where
    pub free_item : (x : Option Step) → (item_at v k).free ≡ true
        → x ≡ first_of f (below (sends_of o k) o.ranks ++ (below (receives_of o k) o.ranks ++ below (element_steps o 1 k) o.ranks))
        → x ≡ first_of f (item_steps o 1 k)
    free_item x free h = h ∙ ap (first_of f)
        (sym (cond-true (o.is_free k) (below (sends_of o k) o.ranks ++
        (below (receives_of o k) o.ranks ++ below (element_steps o 1 k) o.ranks)) (Join k ∷ []) (sym (marks.alike.is_free k item) ∙ free)))

    pub join_item : (x : Option Step) → (item_at v k).free ≡ false → x ≡ first_of f (Join k ∷ []) → x ≡ first_of f (item_steps o 1 k)
    join_item x free h = h ∙ ap (first_of f)
        (sym (cond-false (o.is_free k) (below (sends_of o k) o.ranks ++
        (below (receives_of o k) o.ranks ++ below (element_steps o 1 k) o.ranks)) (Join k ∷ []) (sym (marks.alike.is_free k item) ∙ free)))
