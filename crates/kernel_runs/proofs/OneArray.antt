-- Targets in one array.
use Rattle.std.proofs.Common.{◌≡◌, ℕ, ◌+◌, ◌&&◌, List, map, ap, ◌∙◌}
use Rattle.std.specs.Prelude.{nat_eq}
use Rattle.std.proofs.Math.ListN.{get_or-map}
use Rattle.kernel_model.specs.declared.types.views.frame.Place.{Place}
use Rattle.kernel_model.specs.Framed.{target_of, no_place}
use Rattle.kernel_model.specs.Meaning.{Store, Target, target_at, read_arg, cell}
use Rattle.kernel_model.specs.Independence.{same_cell}

-- those of places
pub no_array : (ps : List Place) (a : ℕ) → (target_at (map target_of ps) a).array ≡ 0
no_array ps a = ap (λ t. t.array) (get_or-map target_of ps a no_place)

-- two of their cells are one where they have one number
pub one_array : (ts : List Target) → ((a : ℕ) → (target_at ts a).array ≡ 0) → (a i b j : ℕ) → same_cell ts a i b j ≡ nat_eq ((target_at ts a).from + i) ((target_at ts b).from + j)
one_array ts first a i b j =
    ap (λ x. nat_eq x (target_at ts b).array && nat_eq ((target_at ts a).from + i) ((target_at ts b).from + j)) (first a)
    ∙ ap (λ x. nat_eq 0 x && nat_eq ((target_at ts a).from + i) ((target_at ts b).from + j)) (first b)

-- what is read of them stands there
pub read_first : (ts : List Target) → ((a : ℕ) → (target_at ts a).array ≡ 0) → (s : Store) (a i : ℕ) → read_arg ts s a i ≡ cell s 0 ((target_at ts a).from + i)
read_first ts first s a i = ap (λ x. cell s x ((target_at ts a).from + i)) (first a)
