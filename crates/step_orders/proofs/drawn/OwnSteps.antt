-- A rank's own steps are steps of the plan, and no joins.
use Rattle.std.proofs.Common.{◌≡◌, ℕ, zero, suc, ◌<◌, Bool, true, refl, sym, subst, arith, ⊎_elim, List, [], ◌∷◌, ◌++◌}
use Rattle.std.specs.Prelude.{false, ◌==◌, ◌&&◌}
use Rattle.std.proofs.lemmas.Bool.{false≢true, cond_both, or_cases, and_parts}
use Rattle.schedule_steps.specs.Outline.{Outline, runs}
use Rattle.schedule_steps.specs.declared.step.Step.{Step}
use Rattle.schedule_steps.specs.declared.step.Step.TheVariants.{Send, Recv, Begin, End}
use Rattle.schedule_steps.specs.Steps.{IsStep, same, has}
use Rattle.schedule_steps.specs.Members.{same_true, has_parts}
use Rattle.schedule_steps.specs.Standard.{below, where_true, above, sends_of, receives_of, is_member, group_of, in_group, block_steps, blocks, element_steps}
use Rattle.schedule_steps.specs.Drawn.{own_item, own}
use Rattle.step_orders.specs.UnderWay.{is_rank_step}

module _ (P : Step → Type 0) where
  abbrev Holds : List Step → Type 0
  Holds l = (t : Step) → has l t ≡ true → P t

  in_none : Holds []
  in_none t h = absurd (false≢true h)

  in_one : (s : Step) → P s → Holds (s ∷ [])
  in_one s p t h = ⊎_elim (λ (e : same t s ≡ true). subst P (sym (same_true t s e)) p) (λ (e : false ≡ true). absurd (false≢true e)) (or_cases (same t s) false h)

  in_both : (a b : List Step) → Holds a → Holds b → Holds (a ++ b)
  in_both a b ha hb t h = ⊎_elim (λ e. ha t e) (λ e. hb t e) (has_parts a b t h)

  in_where : (b : Bool) (l : List Step) → (b ≡ true → Holds l) → Holds (where_true b l)
  in_where b l h = cond_both b l [] Holds h (λ e. in_none)

  in_below : (f : ℕ → List Step) (n : ℕ) → ((i : ℕ) → i < n → Holds (f i)) → Holds (below f n)
  in_below f zero h = in_none
  in_below f (suc n) h = in_both (below f n) (f n) (in_below f n (λ i lt. h i (omega arith))) (h n (omega arith))

module _ (o : Outline) (g r : ℕ) (lr : r < o.ranks) where
  abbrev Mine : Step → Type 0
  Mine t = IsStep o t × (is_rank_step t ≡ true)

  run_in : (k b c j x : ℕ) → in_group o g k r b c j x ≡ true → runs o k r x ≡ true
  run_in k b c j x e =
      (and_parts (runs o k r x) ((o.block k r x == b) && (o.colour k r x == c)) (and_parts (is_member o k r b c x) (group_of o g k r x == j) e).0).0

  -- a run's begins or its ends
  of_run : (step : ℕ → Step) (k b c j : ℕ) → ((x : ℕ) → runs o k r x ≡ true → Mine (step x))
      → Holds Mine (below (λ x. where_true (in_group o g k r b c j x) (step x ∷ [])) (o.count k r))
  of_run step k b c j h = in_below Mine _ (o.count k r)
      (λ x lx. in_where Mine (in_group o g k r b c j x) (step x ∷ []) (λ e. in_one Mine (step x) (h x (run_in k b c j x e))))

  module _ (k : ℕ) (lk : k < o.items) (fr : o.is_free k ≡ true) where
    of_sends : Holds Mine (sends_of o k r)
    of_sends = in_below Mine _ o.ranks (λ s ls. in_where Mine (o.sends k r s) (Send k r s ∷ []) (λ e. in_one Mine (Send k r s) ((lk, fr, lr, ls, e), refl)))

    of_receives : Holds Mine (receives_of o k r)
    of_receives = in_below Mine _ o.ranks (λ s ls. in_where Mine (o.sends k s r) (Recv k r s ∷ []) (λ e. in_one Mine (Recv k r s) ((lk, fr, ls, lr, e), refl)))

    of_block : (b : ℕ) → Holds Mine (block_steps o g k r b)
    of_block b = in_below Mine _ (above (o.colour k r) (o.count k r)) (λ c lc. in_below Mine _ (above (group_of o g k r) (o.count k r))
        (λ j lj. in_both Mine (below (λ x. where_true (in_group o g k r b c j x) (Begin k r x ∷ [])) (o.count k r))
        (below (λ x. where_true (in_group o g k r b c j x) (End k r x ∷ [])) (o.count k r))
        (of_run (λ x. Begin k r x) k b c j (λ x u. ((lk, fr, lr, u), refl)))
        (of_run (λ x. End k r x) k b c j (λ x u. ((lk, fr, lr, u), refl)))))

    of_elements : Holds Mine (element_steps o g k r)
    of_elements = in_below Mine _ (above (o.block_colour k r) (blocks o k r)) (λ h lh. in_below Mine _ (blocks o k r)
        (λ b lb. in_where Mine (o.block_colour k r b == h) (block_steps o g k r b) (λ e. of_block b)))

    of_free : Holds Mine (sends_of o k r ++ (receives_of o k r ++ element_steps o g k r))
    of_free = in_both Mine (sends_of o k r) (receives_of o k r ++ element_steps o g k r) of_sends
        (in_both Mine (receives_of o k r) (element_steps o g k r) of_receives of_elements)

  pub own_planned : (t : Step) → has (own o g r) t ≡ true → IsStep o t × (is_rank_step t ≡ true)
  own_planned = in_below Mine (own_item o g r) o.items (λ k lk. cond_both (o.is_free k)
      (sends_of o k r ++ (receives_of o k r ++ element_steps o g k r)) [] (Holds Mine) (λ fr. of_free k lk fr) (λ e. in_none Mine))
