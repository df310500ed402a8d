-- The first step of what is left, and its absence.
use Rattle.std.proofs.Common.{◌≡◌, ℕ, ◌∙◌, sym, ap, List, [], ◌∷◌, Option, Some, None, Vec}
use Rattle.std.specs.Prelude.{IfSome, IfNone}
use Rattle.std.specs.declared.alloc.Global.{Global}
use Rattle.schedule_steps.specs.Outline.{Outline}
use Rattle.schedule_steps.specs.declared.step.Step.{Step}
use Rattle.step_orders.specs.Left.{IsFirst}
use Rattle.step_orders.specs.UnderWay.{left_in}

pub left_same : (o : Outline) (heads hs : List (Option Step)) (tails ts : List (List Step)) (rows rs : List (Vec ℕ Global)) (x join : ℕ)
    → heads ≡ hs → tails ≡ ts → rows ≡ rs → left_in o heads tails rows x join ≡ left_in o hs ts rs x join
left_same o heads hs tails ts rows rs x join e f g =
    ap (λ z. left_in o z tails rows x join) e ∙ (ap (λ z. left_in o hs z rows x join) f ∙ ap (λ z. left_in o hs ts z x join) g)

module _ (l k rest left : List Step) (answer : Option Step) (e : l ≡ k) (f : rest ≡ left) (h : IsFirst l answer rest) where
  pub first_there : IfSome answer (λ s. k ≡ s ∷ left)
  first_there = by answer h
    where
      by : (a : Option Step) → IsFirst l a rest → IfSome a (λ s. k ≡ s ∷ left)
      by None i = tt
      by (Some s) i = sym e ∙ (i ∙ ap (λ z. s ∷ z) f)

  pub none_there : IfNone answer ((k ≡ []) × (left ≡ []))
  none_there = by answer h
    where
      by : (a : Option Step) → IsFirst l a rest → IfNone a ((k ≡ []) × (left ≡ []))
      by None i = (sym e ∙ i.0, sym f ∙ i.1)
      by (Some s) i = tt
