-- What a part refuses, the whole refuses.
use Rattle.std.proofs.Common.{◌≡◌, ◌∙◌, ap, List, Ok, Err, inl, inr}
use Rattle.mesh_decl.specs.Mesh.{MeshValue}
use Rattle.bound_program.specs.declared.refusals.refusals.BindRefusal.{BindRefusal}
use Rattle.bound_program.specs.Refusals.{◌>>=◌, JudgesBy}
use Rattle.bound_program.specs.Limits.{max_trace}
use Rattle.bound_program.specs.declared.trace.steps.Unrolled.{Unrolled}
use Rattle.bound_program.specs.Trace.{Event}
use Rattle.bound_program.specs.Limited.{UnrolledValue, unrolled}
use Rattle.bound_program.specs.Unrolling.{seen, Gives}
use Rattle.loop_bind.specs.Weights.{weighed, within_weight, weight_of_all, trace}

-- `main` is too long, or something in it faults
pub unrolled_stops : (g : MeshValue) (es : List Event) (e : BindRefusal) → Gives (Err e) (unrolled max_trace es) → JudgesBy {X = Unrolled} seen (Err e) (trace g es)
unrolled_stops g es e (inl h) = inl h
unrolled_stops g es e (inr h) = inr (ap (λ t. t >>= weighed g) h)

-- it prints too much
pub weight_stops : (g : MeshValue) (es : List Event) (u : UnrolledValue) (e : BindRefusal) → unrolled max_trace es ≡ Ok u
    → JudgesBy {X = Unit {0}} (λ t. t) (Err e) (within_weight (weight_of_all g u.items)) → JudgesBy {X = Unrolled} seen (Err e) (trace g es)
weight_stops g es u e h (inl m) = inl m
weight_stops g es u e h (inr m) = inr (ap (λ t. t >>= weighed g) h ∙ ap (λ t. t >>= λ _. Ok u) m)

-- it is neither
pub trace_goes : (g : MeshValue) (es : List Event) (u : UnrolledValue) → unrolled max_trace es ≡ Ok u → within_weight (weight_of_all g u.items) ≡ Ok tt → trace g es ≡ Ok u
trace_goes g es u h m = ap (λ t. t >>= weighed g) h ∙ ap (λ t. t >>= λ _. Ok u) m
