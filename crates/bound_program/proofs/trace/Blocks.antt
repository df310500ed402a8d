-- The steps of a block, in its row and in its vector.
use Rattle.std.proofs.Common.{◌≡◌, ℕ, ◌+◌, ◌≤◌, ◌<◌, ℤ, List, [], ◌++◌, drop, length, get_or, refl, sym, ap, ◌∙◌, Vec, Global}
use mathlib.Core.Former.{Count}
use Rattle.bound_program.specs.declared.trace.steps.Step.{Step, Block, Block', Row_of-Step, end_of-Step, more_of-Step, items-the_row-Step, items_hidden-the_row-Step-0}
use Rattle.bound_program.specs.Values.{SiteValue}
use Rattle.bound_program.specs.Steps as steps
use Rattle.bound_program.specs.Trace.{after, events, all_events}
use Rattle.bound_program.specs.Unrolling.{step_of, steps_of, steps_of_row}
use Rattle.lemmas.proofs.Lists.{drop_end, drop_here}

row_is : (m : _) (row : Row_of-Step m) → steps_of_row row ≡ steps_of (items-the_row-Step m row)
row_is m end_of-Step = refl
row_is m (more_of-Step s rest) = ap (λ z. steps.MoreStep (step_of s) z) (row_is _ rest)

abbrev row_of : Step → (n : Count) × Row_of-Step n
row_of (Block' shape row) = (_, row)
row_of _ = (_, end_of-Step)

step_of-Block : (v : Vec Step Global) → step_of (Block v) ≡ steps.Block (steps_of v.items)
step_of-Block v =
    let row = row_of (Block v) in
    ap (λ z. steps.Block z) (row_is row.0 row.1 ∙ ap steps_of (items_hidden-the_row-Step-0 v))

pub step_of_block : (v : Vec Step Global) → step_of (Block v) ≡ steps.Block (steps_of v.items)
step_of_block v = step_of-Block v

pub block_is : (s : Step) (v : Vec Step Global) (items : List Step) → s ≡ Block v → items ≡ v.items → step_of s ≡ steps.Block (steps_of items)
block_is s v items p q = ap step_of p ∙ step_of-Block v ∙ ap (λ z. steps.Block (steps_of z)) (sym q)

pub block_go : (sites : List SiteValue) (told : List ℤ) (items : List Step) (k : ℕ) (x : Step) → k < length items → x ≡ get_or items k x
    → all_events sites told (steps_of (drop k items)) ≡ events sites told (step_of x) ++ all_events sites (after told (step_of x))
    (steps_of (drop (k + 1) items))
block_go sites told items k x h e = rw (drop_here items k x h e) refl

pub block_end : (sites : List SiteValue) (told : List ℤ) (items : List Step) (k : ℕ) → length items ≤ k → all_events sites told (steps_of (drop k items)) ≡ []
block_end sites told items k h = rw (drop_end items k h) refl
