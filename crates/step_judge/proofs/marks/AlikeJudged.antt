-- Outlines that are alike judge alike.
use Rattle.std.proofs.Common.{◌≡◌, ℕ, ◌<◌, Bool, true, false, refl, sym, ap, subst, ◌∙◌, ⊎_elim}
use Rattle.std.specs.Prelude.{◌&&◌, ◌||◌, ◌==◌, not, nat_lt}
use Rattle.std.proofs.lemmas.Bool.{cases_eq, ltb-true, ne_eqb}
use Rattle.schedule_steps.specs.Outline.{Outline, runs, by_colour}
use Rattle.schedule_steps.specs.declared.step.Step.{Step}
use Rattle.schedule_steps.specs.declared.step.Step.TheVariants.{Send, Recv, Begin, End, Join}
use Rattle.schedule_steps.specs.Steps.{item, IsStep}
use Rattle.schedule_steps.specs.Judged.{is_step, rank_of, share_rank, is_earlier_in_item, is_earlier}
use Rattle.schedule_steps.specs.Alike.{AlikeOutlines}

-- two tests behind the same test
behind : (a x y : Bool) → (a ≡ true → x ≡ y) → (a && x) ≡ (a && y)
behind true x y h = h refl
behind false x y h = refl

-- the same of a comparison
behind_lt : (a b : ℕ) (x y : Bool) → (a < b → x ≡ y) → (nat_lt a b && x) ≡ (nat_lt a b && y)
behind_lt a b x y h = behind (nat_lt a b) x y (λ e. h (ltb-true a b e))

module _ (o n : Outline) (h : AlikeOutlines o n) where
  passes_same : (k s r : ℕ) → is_step o (Send k s r) ≡ is_step n (Send k s r)
  passes_same k s r =
      behind_lt k o.items _ _ (λ kl.
      behind (o.is_free k) _ _ (λ f.
      behind_lt s o.ranks _ _ (λ sl.
      behind_lt r o.ranks _ _ (λ rl. h.sends k s r kl f sl rl))))
      ∙ (behind_lt k o.items _ _ (λ kl.
      ap (λ z. z && (nat_lt s o.ranks && (nat_lt r o.ranks && n.sends k s r))) (h.is_free k kl))
      ∙ (ap (λ z. nat_lt k z && (n.is_free k && (nat_lt s o.ranks && (nat_lt r o.ranks && n.sends k s r)))) h.items
      ∙ ap (λ z. nat_lt k n.items && (n.is_free k && (nat_lt s z && (nat_lt r z && n.sends k s r)))) h.ranks))

  runs_same : (k r e : ℕ) → is_step o (Begin k r e) ≡ is_step n (Begin k r e)
  runs_same k r e =
      behind_lt k o.items _ _ (λ kl.
      behind (o.is_free k) _ _ (λ f.
      behind_lt r o.ranks _ _ (λ rl. h.executed k r e kl f rl)))
      ∙ (behind_lt k o.items _ _ (λ kl. ap (λ z. z && (nat_lt r o.ranks && runs n k r e)) (h.is_free k kl))
      ∙ (ap (λ z. nat_lt k z && (n.is_free k && (nat_lt r o.ranks && runs n k r e))) h.items
      ∙ ap (λ z. nat_lt k n.items && (n.is_free k && (nat_lt r z && runs n k r e))) h.ranks))

  pub steps_alike : (s : Step) → is_step o s ≡ is_step n s
  steps_alike (Send k s r) = passes_same k s r
  steps_alike (Recv k r s) = passes_same k s r
  steps_alike (Begin k r e) = runs_same k r e
  steps_alike (End k r e) = runs_same k r e
  steps_alike (Join k) =
      behind_lt k o.items _ _ (λ kl. ap not (h.is_free k kl)) ∙ ap (λ z. nat_lt k z && not (n.is_free k)) h.items

  -- of steps of one item and rank
  core_same : (k r s j a e : ℕ) → IsStep o (Recv k r s) → IsStep o (Begin j a e)
      → ((k == j) && ((r == a) && not (o.is_core k r e))) ≡ ((k == j) && ((r == a) && not (n.is_core k r e)))
  core_same k r s j a e t b = ⊎_elim
      (λ (x : k ≡ j). ap (λ z. (k == j) && z) (⊎_elim
      (λ (y : r ≡ a). ap (λ z. (r == a) && not z) (h.core k r e t.0 t.1 t.3 (subst (λ z. runs o z r e ≡ true) (sym x) (subst (λ z. runs o j z e ≡ true) (sym y) b.3))))
      (λ (y : r ≡ a → ⊥). ap (λ z. z && not (o.is_core k r e)) (ne_eqb r a y) ∙ sym (ap (λ z. z && not (n.is_core k r e)) (ne_eqb r a y)))
      (cases_eq r a)))
      (λ (x : k ≡ j → ⊥). ap (λ z. z && ((r == a) && not (o.is_core k r e))) (ne_eqb k j x) ∙ sym (ap (λ z. z && ((r == a) && not (n.is_core k r e))) (ne_eqb k j x)))
      (cases_eq k j)

  colour_same : (k r e j a f : ℕ) → IsStep o (End k r e) → IsStep o (Begin j a f)
      → ((k == j) && ((r == a) && by_colour o k r e f)) ≡ ((k == j) && ((r == a) && by_colour n k r e f))
  colour_same k r e j a f t b = ⊎_elim
      (λ (x : k ≡ j). ap (λ z. (k == j) && z) (⊎_elim
      (λ (y : r ≡ a). ap (λ z. (r == a) && z) (h.colours k r e f t.0 t.1 t.2 t.3 (subst (λ z. runs o z r f ≡ true) (sym x) (subst (λ z. runs o j z f ≡ true) (sym y) b.3))))
      (λ (y : r ≡ a → ⊥). ap (λ z. z && by_colour o k r e f) (ne_eqb r a y) ∙ sym (ap (λ z. z && by_colour n k r e f) (ne_eqb r a y)))
      (cases_eq r a)))
      (λ (x : k ≡ j → ⊥). ap (λ z. z && ((r == a) && by_colour o k r e f)) (ne_eqb k j x) ∙ sym (ap (λ z. z && ((r == a) && by_colour n k r e f)) (ne_eqb k j x)))
      (cases_eq k j)

  in_item_alike : (t s : Step) → IsStep o t → IsStep o s → is_earlier_in_item o t s ≡ is_earlier_in_item n t s
  in_item_alike (Recv k r s) (Begin j a e) t b = core_same k r s j a e t b
  in_item_alike (End k r e) (Begin j a f) t b = colour_same k r e j a f t b
  in_item_alike (Send a b c) (Send x y z) t s = refl
  in_item_alike (Send a b c) (Recv x y z) t s = refl
  in_item_alike (Send a b c) (Begin x y z) t s = refl
  in_item_alike (Send a b c) (End x y z) t s = refl
  in_item_alike (Send a b c) (Join x) t s = refl
  in_item_alike (Recv a b c) (Send x y z) t s = refl
  in_item_alike (Recv a b c) (Recv x y z) t s = refl
  in_item_alike (Recv a b c) (End x y z) t s = refl
  in_item_alike (Recv a b c) (Join x) t s = refl
  in_item_alike (Begin a b c) (Send x y z) t s = refl
  in_item_alike (Begin a b c) (Recv x y z) t s = refl
  in_item_alike (Begin a b c) (Begin x y z) t s = refl
  in_item_alike (Begin a b c) (End x y z) t s = refl
  in_item_alike (Begin a b c) (Join x) t s = refl
  in_item_alike (End a b c) (Send x y z) t s = refl
  in_item_alike (End a b c) (Recv x y z) t s = refl
  in_item_alike (End a b c) (End x y z) t s = refl
  in_item_alike (End a b c) (Join x) t s = refl
  in_item_alike (Join a) s t u = refl

  pub earlier_alike : (t s : Step) → IsStep o t → IsStep o s → is_earlier o t s ≡ is_earlier n t s
  earlier_alike t s ts ss = ap (λ z. (nat_lt (item t) (item s) && share_rank (rank_of t) (rank_of s)) || z) (in_item_alike t s ts ss)
