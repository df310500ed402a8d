-- Owners derived from those of one set.
use Rattle.std.proofs.Common.{◌≡◌, ℕ, ◌<◌, Bool, false, nat_eq, List, [], get_or, refl, sym, ap, ◌∙◌, Result, Ok, Err, IfOk}
use Rattle.std.specs.declared.alloc.AllocError.{AllocError}
use Rattle.std.proofs.lemmas.Bool.{eq-eqb, eqb-true}
use Rattle.mesh_decl.specs.Mesh.{MeshValue, set_count}
use Rattle.mesh_decl.specs.declared.owners.Owners.{Owners}
use Rattle.mesh_decl.specs.Owners.{owners_in}
use Rattle.partition.specs.Derive.{AreDerived}

pub all_ok : (P Q : Owners → Type 0) (r : Result Owners AllocError) → ((o : Owners) → P o → Q o) → IfOk r P → IfOk r Q
all_ok P Q (Ok o) f h = f o h
all_ok P Q (Err e) f h = h

-- where one set alone is known
pub derived_one : (g : MeshValue) (o : Owners) (known : List Bool) (sets : List (List ℕ)) (t : ℕ) (xs : List ℕ)
    → ((s : ℕ) → s < set_count g → get_or known s false ≡ nat_eq s t) → get_or sets t [] ≡ xs
    → AreDerived g o (λ s. get_or known s false) (λ s. get_or sets s []) → AreDerived g o (λ s. nat_eq s t) (λ s. xs)
derived_one g o known sets t xs agree at h = record {
  owners = h.owners;
  turn = h.turn;
  given_first = λ s l. sym (agree s l) ∙ h.given_first s l;
  kept = λ s l e. h.kept s l (agree s l ∙ e) ∙ (ap (λ z. get_or sets z []) (eqb-true s t e) ∙ at);
  next = λ s l e. h.next s l (agree s l ∙ e);
}

-- the set that was given has the given owners
pub one_kept : (g : MeshValue) (o : Owners) (t : ℕ) (xs : List ℕ) → t < set_count g → AreDerived g o (λ s. nat_eq s t) (λ s. xs) → owners_in o t ≡ xs
one_kept g o t xs l h = h.kept t l (eq-eqb t t refl)

-- all are derived from the owners that they then have
pub derived_own : (g : MeshValue) (o : Owners) (t : ℕ) (xs : List ℕ) → AreDerived g o (λ s. nat_eq s t) (λ s. xs) → AreDerived g o (λ s. nat_eq s t) (owners_in o)
derived_own g o t xs h = record {
  owners = h.owners;
  turn = h.turn;
  given_first = h.given_first;
  kept = λ s l e. refl;
  next = h.next;
}
