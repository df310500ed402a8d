-- Names by their first byte.
use Rattle.std.proofs.Common.{◌≡◌, ℕ, ◌<◌, ◌&&◌, false, List, [], ◌∷◌, length, drop, get_or, refl, arith}
use Rattle.std.specs.List.{list_all}
use Rattle.mesh_decl.specs.Token.{is_c_name, letter, part}

pub no_name : (text : List ℕ) → length text ≡ 0 → is_c_name text ≡ false
no_name [] h = refl
no_name (b ∷ bs) h = absurd (omega arith)

pub name_by : (text : List ℕ) → 0 < length text → is_c_name text ≡ (letter (get_or text 0 0) && list_all part (drop 1 text))
name_by [] h = absurd (omega arith)
name_by (b ∷ bs) h = refl

pub ruleset names = (no_name, name_by)
