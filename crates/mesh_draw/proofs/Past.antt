-- One more than the greatest of some numbers.
use Rattle.std.proofs.Common.{◌≡◌, ℕ, ◌+◌, ◌<◌, List, [], ◌∷◌, ◌++◌, length, take, get_or, max, ap, ◌∙◌, arith}
use Rattle.std.proofs.lemmas.List.{take_more}
use Rattle.mesh_draw.specs.Fills.{past_all}

-- with one number more
pub past_append : (ks : List ℕ) (k : ℕ) → past_all (ks ++ k ∷ []) ≡ max (past_all ks) (k + 1)
past_append [] k = omega arith
past_append (x ∷ ks) k = let e = past_append ks k in omega (arith, e)

-- with the next number of a list
pub past_more : (ks : List ℕ) (i : ℕ) → i < length ks → past_all (take (i + 1) ks) ≡ max (past_all (take i ks)) (get_or ks i 0 + 1)
past_more ks i l = ap past_all (take_more ks i 0 l) ∙ past_append (take i ks) (get_or ks i 0)
