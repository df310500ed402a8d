-- Marks of a plan of which no step is taken.
use Rattle.std.proofs.Common.{◌≡◌, ℕ, ◌<◌, ◌≤◌, true, sym, subst, ◌∙◌, arith, ⊎_elim, List, length}
use Rattle.std.proofs.lemmas.Bool.{cases_lt, false≢true}
use Rattle.std.proofs.lemmas.List.{get_or_past}
use Rattle.schedule_steps.specs.Outline.{Outline}
use Rattle.step_judge.specs.Item.{Item, linked}
use Rattle.step_judge.specs.Marked.{Marked, no_item, item_at}
use Rattle.step_judge.specs.Kept.{LaidOut}
use Rattle.step_judge.specs.Fresh.{AreFresh}

module _ (o : Outline) (n : ℕ) (items : List Item) (fresh : AreFresh o n items) where
  abbrev v : Marked
  v = record { ranks = n; items = items }

  past : (k : ℕ) → length items ≤ k → item_at v k ≡ no_item
  past k g = get_or_past items k no_item g

  -- of each item, there or not
  each : (P : Item → Type 0) (k : ℕ) → (k < length items → P (item_at v k)) → P no_item → P (item_at v k)
  each P k here none = ⊎_elim (λ (l : k < length items). here l) (λ (g : length items ≤ k). subst P (sym (past k g)) none) (cases_lt k (length items))

  pub laid : LaidOut v
  laid = record {
    some = fresh.some;
    few = fresh.few;
    ranked = λ k s r. each (λ w. linked w s r ≡ true → (s < n) × (r < n)) k
        (λ l h. (let p : (s < o.ranks) × (r < o.ranks) = (fresh.each k l).ranked s r h in let e : n ≡ o.ranks = fresh.ranks in (omega arith, omega arith)))
        (λ h. absurd (false≢true h));
    runs = λ k l f. (fresh.each k l).count f ∙ sym fresh.ranks;
  }
