-- One part of the events, and then another.
use Rattle.std.proofs.Common.{◌≡◌, List, ◌++◌, Result, Ok, Err, ap, ◌∙◌, append_assoc, inl, inr}
use Rattle.bound_program.specs.declared.refusals.refusals.BindRefusal.{BindRefusal}
use Rattle.bound_program.specs.declared.trace.steps.Unrolled.{Unrolled}
use Rattle.bound_program.specs.Trace.{Event}
use Rattle.bound_program.specs.Limited.{before, unrolled}
use Rattle.bound_program.specs.Unrolling.{seen, Leaves}

-- what is to be done behind u is what is to be done behind v
abbrev pub Becomes : Unrolled → List Event → Unrolled → List Event → Type 0
Becomes u es v fs = (rest : List Event) → before (seen u) (unrolled u.left (es ++ rest)) ≡ before (seen v) (unrolled v.left (fs ++ rest))

-- a part that was done, and then the rest
pub leaves-then : {X : Type 0} (u v w : Unrolled) (es fs : List Event) (r : Result X BindRefusal) → Becomes u es v fs → Leaves v fs r w → Leaves u es r w
leaves-then u v w es fs (Ok x) h k = λ rest. h rest ∙ k rest
leaves-then u v w es fs (Err e) h (inl p) = inl p
leaves-then u v w es fs (Err e) h (inr k) = inr (λ rest. h rest ∙ k rest)

-- the first of two parts is done
pub first_done : (u v : Unrolled) (es fs : List Event) → ((rest : List Event) → before (seen u) (unrolled u.left (es ++ rest)) ≡ before (seen v) (unrolled v.left rest)) → Becomes u (es ++ fs) v fs
first_done u v es fs h rest = ap (λ l. before (seen u) (unrolled u.left l)) (append_assoc es fs rest) ∙ h (fs ++ rest)

-- the first of two parts stops, whatever was to follow
pub first_stops : (X Y : Type 0) (u v w : Unrolled) (es fs : List Event) (e : BindRefusal) → Leaves {X = X} u es (Err e) v → Leaves {X = Y} u (es ++ fs) (Err e) w
first_stops X Y u v w es fs e (inl p) = inl p
first_stops X Y u v w es fs e (inr k) = inr (λ rest. ap (λ l. before (seen u) (unrolled u.left l)) (append_assoc es fs rest) ∙ k (fs ++ rest))
