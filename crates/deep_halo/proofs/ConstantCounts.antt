-- How many cells constants have, variable by variable.
use Rattle.std.proofs.Common.{◌≡◌, ◌<◌, ◌+◌, ℕ, List, Option, Some, None, true, false, is_some, map, sum_by, take, length, get_or, refl, sym, ap, ◌∙◌, arith}
use Rattle.std.proofs.lemmas.Bool.{false≢true}
use Rattle.std.proofs.lemmas.List.{get_or-map, length-map}
use Rattle.std.proofs.lemmas.List.Sums.{sum_by_more}
use Rattle.bound_program.specs.declared.programs.Var.{Var}
use Rattle.bound_program.specs.Values.{var_of}
use Rattle.bound_program.specs.Fits.{cells_from, constant_cells}

pub cells_some : (x : Option ℕ) (n : ℕ) → is_some x ≡ true → cells_from x n ≡ n
cells_some None n h = absurd (false≢true h)
cells_some (Some k) n h = refl

pub cells_none : (x : Option ℕ) (n : ℕ) → is_some x ≡ false → cells_from x n ≡ 0
cells_none None n h = refl
cells_none (Some k) n h = absurd (false≢true (sym h))

-- with one more variable
pub counted_more : (vars : List Var) (i now next : ℕ) (x : Var) → i < length vars → x ≡ get_or vars i x → now ≡ sum_by constant_cells (take i (map var_of vars))
    → next ≡ now + constant_cells (var_of x) → next ≡ sum_by constant_cells (take (i + 1) (map var_of vars))
counted_more vars i now next x li is counted more =
    more ∙ ap (λ k. k + constant_cells (var_of x)) counted
    ∙ ap (λ v. sum_by constant_cells (take i (map var_of vars)) + constant_cells v) (ap var_of is ∙ sym (get_or-map var_of vars i x (var_of x) li))
    ∙ sym (sum_by_more constant_cells (map var_of vars) i (var_of x) (omega (arith, li, length-map vars var_of)))
