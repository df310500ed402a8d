-- Variables begin one behind another.
use Rattle.std.proofs.Common.{◌≡◌, ◌<◌, ◌+◌, ◌-◌, ℕ, suc, List, [], ◌∷◌, ◌++◌, length, get_or, refl, ap, ◌∙◌, arith, below_more}
use Rattle.std.proofs.lemmas.List.{length-append, get_or_append_left, get_or-append_right}
use Rattle.bound_program.specs.Values.{VarValue}
use Rattle.run_model.specs.Memory.{var_start}
use Rattle.run_model.specs.Variables.{of_vars}

-- those of the first n variables are there, and the next begins there
pub record Begun (vars : List VarValue) (starts : List ℕ) (next n : ℕ) : Type 0 where
  pub count : length starts ≡ n
  pub each : (v : ℕ) → v < n → get_or starts v 0 ≡ var_start (of_vars vars) v
  pub next_is : next ≡ var_start (of_vars vars) n

pub begun_none : (vars : List VarValue) → Begun vars [] 0 0
begun_none vars = record { count = refl; each = λ v lt. absurd (omega arith); next_is = refl }

pub begun_more : (vars : List VarValue) (starts more : List ℕ) (next after n k : ℕ) → Begun vars starts next n → more ≡ starts ++ next ∷ []
    → k ≡ n + 1 → after ≡ var_start (of_vars vars) (suc n) → Begun vars more after k
begun_more vars starts more next after n k h e i a = record {
  count = ap length e ∙ (length-append starts (next ∷ []) ∙ (let c = h.count in omega arith));
  each = λ v lt. ap (λ l. get_or l v 0) e ∙ below_more (λ w. get_or (starts ++ next ∷ []) w 0 ≡ var_start (of_vars vars) w) n
      (λ w l. get_or_append_left starts (next ∷ []) 0 w (let c = h.count in omega arith) ∙ h.each w l)
      (get_or-append_right starts (next ∷ []) n n 0 h.count (omega arith) ∙ (ap (λ z. get_or (next ∷ []) z 0) (let z : n - n ≡ 0 = omega arith in z) ∙ h.next_is))
      v (omega (arith, i));
  next_is = a ∙ ap (var_start (of_vars vars)) (let z : suc n ≡ k = omega arith in z);
}
