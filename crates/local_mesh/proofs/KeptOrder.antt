-- Elements that keep their numbers.
use Rattle.std.proofs.Common.{◌≡◌, ℕ, zero, suc, Bool, List, refl, sym, ◌∙◌, arith, subst}
use Rattle.lemmas.specs.Below.{listed}
use Rattle.local_mesh.specs.Local.{ordered}
use Rattle.local_mesh.specs.Lookup.{Rises}
use Rattle.local_mesh.specs.Parts.{IsKept}
use Rattle.local_mesh.proofs.Stands.{listed_rises}

-- elements in order of their new numbers are those in order
pub ordered_kept : (n : ℕ) (order : ℕ → ℕ) (p : ℕ → Bool) → IsKept n order → ordered n order p ≡ listed n p
ordered_kept zero order p h = refl
ordered_kept (suc n) order p h = rw (ordered_kept n order p (λ j l. h j (omega arith)), h n (omega arith)) refl

-- so a group of them rises
pub ordered_rises : (n : ℕ) (order : ℕ → ℕ) (p : ℕ → Bool) (xs : List ℕ) → IsKept n order → xs ≡ ordered n order p → Rises xs
ordered_rises n order p xs h e = subst (λ (z : List ℕ). Rises z) (sym (e ∙ ordered_kept n order p h)) (listed_rises n p)
