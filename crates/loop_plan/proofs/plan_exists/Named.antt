-- The first number of a name, or none.
use Rattle.std.proofs.Common.{◌≡◌, ℕ, zero, suc, true, false, List, Option, Some, None, sym, ◌∙◌, subst, arith, ⊎_elim, inl, inr, ◌⊎◌}
use Rattle.std.specs.Str.{bytes_eq}
use Rattle.std.proofs.lemmas.Bool.{cases_eq, cases_Bool}
use Rattle.std.proofs.lemmas.Slice.Eq.{bytes_eq-Decides}
use Rattle.mesh_decl.specs.Named.{Names}

module _ (name_of : ℕ → List ℕ) (name : List ℕ) where
  pub some_named : (n : ℕ) → (o : Option ℕ) × Names n name_of name o
  some_named zero = (None, λ k l. absurd (omega arith))
  some_named (suc n) = step (some_named n) (cases_Bool (bytes_eq (name_of n) name))
    where
      same : bytes_eq (name_of n) name ≡ true → name_of n ≡ name
      same h = (bytes_eq-Decides (name_of n) name).0 h

      step : (o : Option ℕ) × Names n name_of name o → (bytes_eq (name_of n) name ≡ true) ⊎ (bytes_eq (name_of n) name ≡ false) → (o : Option ℕ) × Names (suc n) name_of name o
      step (Some k, h) t = (Some k, record { within = (let l = h.within in omega arith); is = h.is; first = h.first })
      step (None, h) (inl t) = (Some n, record { within = omega arith; is = same t; first = h })
      step (None, h) (inr t) = (
        None,
        λ k l. ⊎_elim
            (λ (e : k ≡ n). λ q. (
            let yes : bytes_eq (name_of n) name ≡ true = (bytes_eq-Decides (name_of n) name).1 (subst (λ z. name_of z ≡ name) e q) in
            let bad : true ≡ false = sym yes ∙ t in cc))
            (λ (e : k ≡ n → ⊥). h k (omega arith))
            (cases_eq k n),
      )
