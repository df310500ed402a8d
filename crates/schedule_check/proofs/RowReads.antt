-- Rows, read one by one.
use Rattle.std.proofs.Common.{◌≡◌, ℕ, ◌<◌, ◌≤◌, ◌+◌, sym, ap, subst, ◌∙◌, arith, ⊎_elim, List, [], Vec, length, get_or}
use Rattle.std.specs.Prelude.{slice_index, slice_index_or}
use Rattle.std.specs.declared.alloc.Global.{Global}
use Rattle.std.proofs.lemmas.Bool.{cases_eq}
use Rattle.std.proofs.lemmas.List.{get_or-map}
use Rattle.loop_plan.specs.declared.types.ItemPlan.{ItemPlan}
use Rattle.loop_plan.specs.Values.{item_plan_of, no_item_plan}
use Rattle.loop_plan.specs.ItemPlans.{plan_in}
use Rattle.schedule_check.specs.Mail.{rows_of}

pub plan_read : (items : List ItemPlan) (k : ℕ) (i : ItemPlan) → k < length items → i ≡ get_or items k i → plan_in items k ≡ item_plan_of i
plan_read items k i l e = get_or-map item_plan_of items k i no_item_plan l ∙ ap item_plan_of (sym e)

pub row_read : (rows : List (Vec ℕ Global)) (k : ℕ) (v : Vec ℕ Global) → k < length rows → v ≡ get_or rows k v → slice_index_or (rows_of rows) k [] ≡ v.items
row_read rows k v l e = get_or-map (λ (x : Vec ℕ Global). x.items) rows k v [] l ∙ ap (λ (x : Vec ℕ Global). x.items) (sym e)

pub one_row_more : (rows : List (Vec ℕ Global)) (n here largest most : ℕ) (row : List ℕ)
    → slice_index_or (rows_of rows) n [] ≡ row
    → ((i : ℕ) → slice_index row i ≤ here)
    → here ≤ most
    → largest ≤ most
    → ((k i : ℕ) → k < n → slice_index (slice_index_or (rows_of rows) k []) i ≤ largest)
    → (k i : ℕ) → k < n + 1 → slice_index (slice_index_or (rows_of rows) k []) i ≤ most
one_row_more rows n here largest most row e below a b before k i lt = ⊎_elim
    (λ (q : k ≡ n). subst (λ (z : List ℕ). slice_index z i ≤ most) (sym (ap (λ z. slice_index_or (rows_of rows) z []) q ∙ e)) (let l : slice_index row i ≤ here = below i in omega arith))
    (λ (ne : k ≡ n → ⊥). (let l : slice_index (slice_index_or (rows_of rows) k []) i ≤ largest = before k i (omega arith) in omega arith))
    (cases_eq k n)
