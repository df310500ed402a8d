-- Whether a loop runs as a Free one.
use Rattle.std.proofs.Common.{◌≡◌, ℕ, ◌<◌, true, sym, ap, subst, ◌∙◌, List, length, map, get_or}
use Rattle.std.specs.List.{list_any}
use Rattle.std.proofs.lemmas.List.{get_or-map, length-map}
use Rattle.std.proofs.lemmas.List.Folds.{list_any_at}
use Rattle.bound_program.specs.declared.acts.Item.{Item}
use Rattle.bound_program.specs.Values.{item_of}
use Rattle.loop_plan.specs.Places.{runs_loop}

-- an item runs it
pub runs_at : (xs items : List Item) (i s : ℕ) (x : Item) → xs ≡ items → i < length xs → x ≡ get_or xs i x
    → runs_loop s (item_of x) ≡ true
    → list_any (runs_loop s) (map item_of items) ≡ true
runs_at xs items i s x same l e h =
    ap (λ (ys : List Item). list_any (runs_loop s) (map item_of ys)) (sym same)
    ∙ list_any_at (runs_loop s) (map item_of xs) i (item_of x) (subst (λ (n : ℕ). i < n) (sym (length-map xs item_of)) l)
    (ap (runs_loop s) (get_or-map item_of xs i x (item_of x) l ∙ ap item_of (sym e)) ∙ h)
