-- What is left of a rank's own steps, step by step.
use Rattle.std.proofs.Common.{◌≡◌, ℕ, ◌<◌, ◌≤◌, ◌+◌, sym, ap, ◌∙◌, true, false, cond, List, [], ◌∷◌, ◌++◌, length, map, drop, get_or}
use Rattle.schedule_steps.specs.Outline.{Outline}
use Rattle.schedule_steps.specs.Drawn.{numbers, own_item}
use Rattle.schedule_steps.specs.Standard.{sends_of, receives_of}
use Rattle.schedule_steps.specs.declared.step.Step.{Step}
use Rattle.schedule_steps.specs.declared.step.Step.TheVariants.{Send, Recv}
use Rattle.step_orders.specs.declared.own_walks.OwnPlace.{OwnPlace}
use Rattle.step_orders.specs.ElementRuns.{runs_of}
use Rattle.step_orders.specs.Left.{onward, runs_left, send_steps, receive_steps}
use Rattle.step_orders.specs.OwnLeft.{own_free_left, own_item_left, own_left}
use Rattle.step_orders.proofs.Places.{drop_head, drop_end, on_next, all_runs}
use Rattle.step_orders.proofs.Whole.{map_numbers, elements_are}

abbrev pub at_item : ℕ → OwnPlace
at_item k = record { item = k; sends = 0; receives = 0; runs = record { run = 0; at = 0; ending = false } }

next_message : (f : ℕ → Step) (ys xs : List ℕ) (i : ℕ) → xs ≡ ys → i < length xs → drop i (map f ys) ≡ f (get_or xs i 0) ∷ drop (i + 1) (map f ys)
next_message f ys xs i e lt =
    ap (λ z. drop i (map f z)) (sym e) ∙ (drop_head f xs i lt ∙ ap (λ z. f (get_or xs i 0) ∷ drop (i + 1) (map f z)) e)

no_message : (f : ℕ → Step) (ys xs : List ℕ) (i : ℕ) → xs ≡ ys → length xs ≤ i → drop i (map f ys) ≡ []
no_message f ys xs i e le = ap (λ z. drop i (map f z)) (sym e) ∙ drop_end f xs i le

module _ (o : Outline) (g r k : ℕ) (p : OwnPlace) where
  abbrev receives_on : ℕ → List Step
  receives_on i = drop i (receive_steps o g k r)

  abbrev runs_on : List Step
  runs_on = runs_left k r (runs_of o g k r) p.runs

  pub own_send : (xs : List ℕ) → xs ≡ numbers (o.sends k r) o.ranks → p.sends < length xs
      → own_free_left o g r k p ≡ Send k r (get_or xs p.sends 0) ∷ own_free_left o g r k (record { item = p.item; sends = p.sends + 1; receives = p.receives; runs = p.runs })
  own_send xs e lt = ap (λ z. z ++ (receives_on p.receives ++ runs_on)) (next_message (Send k r) (numbers (o.sends k r) o.ranks) xs p.sends e lt)

  sends_over : (xs : List ℕ) → xs ≡ numbers (o.sends k r) o.ranks → length xs ≤ p.sends → (q : List Step) → drop p.sends (send_steps o g k r) ++ q ≡ q
  sends_over xs e le q = ap (λ z. z ++ q) (no_message (Send k r) (numbers (o.sends k r) o.ranks) xs p.sends e le)

  pub own_recv : (xs ys : List ℕ) → xs ≡ numbers (o.sends k r) o.ranks → length xs ≤ p.sends
      → ys ≡ numbers (λ s. o.sends k s r) o.ranks → p.receives < length ys
      → own_free_left o g r k p ≡ Recv k r (get_or ys p.receives 0) ∷ own_free_left o g r k (record { item = p.item; sends = p.sends; receives = p.receives + 1; runs = p.runs })
  own_recv xs ys e le d lt =
      sends_over xs e le (receives_on p.receives ++ runs_on)
      ∙ (ap (λ z. z ++ runs_on) (next_message (Recv k r) (numbers (λ s. o.sends k s r) o.ranks) ys p.receives d lt)
      ∙ ap (λ z. Recv k r (get_or ys p.receives 0) ∷ z) (sym (sends_over xs e le (receives_on (p.receives + 1) ++ runs_on))))

module _ (o : Outline) (g r : ℕ) where
  all_own : (k : ℕ) → own_item_left o g r k (at_item k) ≡ own_item o g r k
  all_own k = ap (λ z. cond (o.is_free k) z [])
      (ap (λ z. z ++ (receive_steps o g k r ++ runs_left k r (runs_of o g k r) (record { run = 0; at = 0; ending = false }))) (map_numbers (Send k r) (o.sends k r) o.ranks)
      ∙ (ap (λ z. sends_of o k r ++ (z ++ runs_left k r (runs_of o g k r) (record { run = 0; at = 0; ending = false }))) (map_numbers (Recv k r) (λ s. o.sends k s r) o.ranks)
      ∙ ap (λ z. sends_of o k r ++ (receives_of o k r ++ z)) (all_runs k r (runs_of o g k r) ∙ elements_are o g k r)))

  -- from the first place of an item on
  pub own_at : (k : ℕ) (q : OwnPlace) → q ≡ at_item k → own_left o g r q ≡ onward (own_item o g r k) (own_item o g r) k o.items
  own_at k q e = ap (own_left o g r) e ∙ ap (λ z. onward z (own_item o g r) k o.items) (all_own k)

  over : (p q : OwnPlace) → p.item < o.items → own_item_left o g r p.item p ≡ [] → q ≡ at_item (p.item + 1) → own_left o g r p ≡ own_left o g r q
  over p q lt none e = on_next (own_item_left o g r p.item p) (own_item o g r) p.item o.items lt none ∙ sym (own_at (p.item + 1) q e)

  -- an item in which it has no step
  pub own_joined : (p q : OwnPlace) → p.item < o.items → o.is_free p.item ≡ false → q ≡ at_item (p.item + 1) → own_left o g r p ≡ own_left o g r q
  own_joined p q lt f e = over p q lt (ap (λ b. cond b (own_free_left o g r p.item p) []) f) e

  -- a Free item that is over
  pub own_over : (p q : OwnPlace) → p.item < o.items → o.is_free p.item ≡ true → own_free_left o g r p.item p ≡ [] → q ≡ at_item (p.item + 1)
      → own_left o g r p ≡ own_left o g r q
  own_over p q lt f none e = over p q lt (ap (λ b. cond b (own_free_left o g r p.item p) []) f ∙ none) e
