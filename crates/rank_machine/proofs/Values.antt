-- The values that kernels read of the constants.
use Rattle.std.proofs.Common.{◌≡◌, ℕ, suc, ℤ, List, [], ◌∷◌, length, refl, ap}
use Rattle.rank_state.specs.Indices.{values_at}

pub count_values : (is : List ℕ) (vs : List ℤ) → length (values_at vs is) ≡ length is
count_values [] vs = refl
count_values (i ∷ is) vs = ap suc (count_values is vs)
