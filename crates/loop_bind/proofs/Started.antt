-- A variable that starts with the value that was told to it.
use Rattle.std.proofs.Common.{◌≡◌, ℕ, zero, suc, ℤ, ◌≤◌, ◌<◌, List, [], ◌∷◌, map, length, get_or, set, refl, ap, arith}
use Rattle.bound_program.specs.declared.programs.Var.{Var}
use Rattle.bound_program.specs.Values.{var_of}
use Rattle.loop_bind.specs.Weights.{started}

pub started_past : (vs : List Var) (i : ℕ) (z : ℤ) → length vs ≤ i → started i z (map var_of vs) ≡ map var_of vs
started_past [] zero z h = refl
started_past [] (suc i) z h = refl
started_past (v ∷ vs) zero z h = absurd (omega arith)
started_past (v ∷ vs) (suc i) z h = ap (λ r. var_of v ∷ r) (started_past vs i z (omega arith))

pub started_set : (vs : List Var) (i : ℕ) (z : ℤ) (cells : List ℤ) (x : Var) → i < length vs → x ≡ get_or vs i x → cells ≡ z ∷ []
    → map var_of (set vs i (record x { start = cells })) ≡ started i z (map var_of vs)
started_set [] i z cells x h e c = absurd (omega arith)
started_set (v ∷ vs) zero z cells x h e c = rw (e, c) refl
started_set (v ∷ vs) (suc i) z cells x h e c = ap (λ r. var_of v ∷ r) (started_set vs i z cells x (omega arith) e c)
