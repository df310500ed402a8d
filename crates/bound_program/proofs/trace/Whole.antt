-- The whole of `main`: from nothing to `op_exit`.
use Rattle.std.proofs.Common.{◌≡◌, ℕ, List, [], ◌∷◌, ◌++◌, Ok, Err, refl, sym, ◌∙◌, append-nil, inl, inr}
use Rattle.bound_program.specs.declared.refusals.refusals.BindRefusal.{BindRefusal}
use Rattle.bound_program.specs.declared.trace.steps.Unrolled.{Unrolled}
use Rattle.bound_program.specs.Refusals.{Judged}
use Rattle.bound_program.specs.Limits.{max_trace}
use Rattle.bound_program.specs.Trace.{Event}
use Rattle.bound_program.specs.Limited.{UnrolledValue, before, unrolled}
use Rattle.bound_program.specs.Unrolling.{seen, Leaves, Gives}

-- nothing was unrolled
pub record IsEmpty (u : Unrolled) : Type 0 where
  pub items : u.items.items ≡ []
  pub values : u.values.items ≡ []
  pub left : u.left ≡ max_trace

before-nothing : (r : Judged UnrolledValue) → before (record { items = []; values = [] }) r ≡ r
before-nothing (Ok w) = refl
before-nothing (Err e) = refl

from_empty : (u : Unrolled) (es : List Event) → IsEmpty u → unrolled max_trace es ≡ before (seen u) (unrolled u.left es)
from_empty u es h = let a = h.items in let b = h.values in let c = h.left in rw (a, b, c) (sym (before-nothing (unrolled max_trace es)))

-- nothing is to follow
at_end : (w : UnrolledValue) (left : ℕ) → before w (unrolled left []) ≡ Ok w
at_end w left = let a = append-nil w.items in let b = append-nil w.values in rw (a, b) refl

pub exit_ok : (u v w : Unrolled) (es : List Event) (x : Event) → IsEmpty u
    → ((rest : List Event) → before (seen u) (unrolled u.left (es ++ rest)) ≡ before (seen v) (unrolled v.left rest))
    → ((rest : List Event) → before (seen v) (unrolled v.left ((x ∷ []) ++ rest)) ≡ before (seen w) (unrolled w.left rest))
    → unrolled max_trace (es ++ x ∷ []) ≡ Ok (seen w)
exit_ok u v w es x e h k = from_empty u (es ++ x ∷ []) e ∙ h (x ∷ []) ∙ k [] ∙ at_end (seen w) w.left

pub exit_err : (u v w : Unrolled) (es : List Event) (x : Event) (b : BindRefusal) → IsEmpty u
    → ((rest : List Event) → before (seen u) (unrolled u.left (es ++ rest)) ≡ before (seen v) (unrolled v.left rest))
    → Leaves {X = Unit {0}} v (x ∷ []) (Err b) w → Gives (Err b) (unrolled max_trace (es ++ x ∷ []))
exit_err u v w es x b e h (inl p) = inl p
exit_err u v w es x b e h (inr k) = inr (from_empty u (es ++ x ∷ []) e ∙ h (x ∷ []) ∙ k [])
