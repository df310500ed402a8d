-- The cells of the constants among names of the file.
use Rattle.std.proofs.Common.{◌≡◌, ℕ, ◌+◌, Bool, true, false, not, List, [], ◌∷◌, ◌++◌, is_some, arith, if◌then◌else◌}
use Rattle.name_resolution.specs.declared.decls.Decl.{Decl}
use Rattle.name_resolution.specs.Scopes.{Names, decl_in, declared}
use Rattle.name_resolution.specs.Programs.{constant_cells, added_cells}

cells_one_more : (names : Names) (x : List ℕ) (d : Decl) → constant_cells (names ++ (x, d) ∷ []) ≡ constant_cells names + added_cells true d
cells_one_more [] x d = omega arith
cells_one_more (n ∷ ns) x d = let h = cells_one_more ns x d in omega (arith, h)

pub cells_declared : (x : List ℕ) (d : Decl) (names : Names) → constant_cells (declared x d names) ≡ constant_cells names + added_cells (not (is_some (decl_in names x))) d
cells_declared x d names = by (is_some (decl_in names x))
  where
    by : (b : Bool) → constant_cells (if b then names else (names ++ (x, d) ∷ [])) ≡ constant_cells names + added_cells (not b) d
    by true = omega arith
    by false = cells_one_more names x d
