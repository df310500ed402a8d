-- Turns of the loops of the walk over the text.
use Rattle.std.proofs.Common.{◌≡◌, List, [], ◌∷◌, ◌++◌, refl, ap, ℕ, zero, suc, ◌<◌, ◌≤◌, map, length, get_or, set, Option, arith}
use Rattle.c_tree.specs.declared.lexer.tokens.Pos.{Pos}
use Rattle.bound_program.specs.declared.programs.Var.{Var}
use Rattle.bound_program.specs.declared.trace.steps.Step.{Step}
use Rattle.bound_program.specs.Values.{var_of}
use Rattle.main_declarations.specs.Variables.{with_constant}
use Rattle.bound_program.specs.Steps.{MoreStep, followed, one_step}
use Rattle.bound_program.specs.Unrolling.{step_of, steps_of}

pub steps_push : (ss : List Step) (s : Step) → steps_of (ss ++ s ∷ []) ≡ followed (steps_of ss) (one_step (step_of s))
steps_push [] s = refl
steps_push (x ∷ xs) s = ap (λ z. MoreStep (step_of x) z) (steps_push xs s)

pub constant_past : (places : List Pos) (vs : List Var) (i : ℕ) (from : Option ℕ) → length vs ≤ i → with_constant places i from (map var_of vs) ≡ map var_of vs
constant_past places [] zero from h = refl
constant_past places [] (suc i) from h = refl
constant_past places (v ∷ vs) zero from h = absurd (omega arith)
constant_past places (v ∷ vs) (suc i) from h = ap (λ z. var_of v ∷ z) (constant_past places vs i from (omega arith))

pub constant_set : (places : List Pos) (vs : List Var) (i : ℕ) (from : Option ℕ) (x : Var) → i < length vs → x ≡ get_or vs i x
    → map var_of (set vs i (record x { constant = from })) ≡ with_constant places i from (map var_of vs)
constant_set places [] zero from x h e = absurd (omega arith)
constant_set places [] (suc i) from x h e = absurd (omega arith)
constant_set places (v ∷ vs) zero from x h e = rw e refl
constant_set places (v ∷ vs) (suc i) from x h e = ap (λ z. var_of v ∷ z) (constant_set places vs i from x (omega arith) e)
