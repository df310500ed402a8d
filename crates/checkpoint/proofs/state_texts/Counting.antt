-- How many values lines have.
use Rattle.std.proofs.Common.{◌≡◌, ℕ, ℤ, suc, zero, ◌+◌, ◌*◌, sym, ap, ◌∙◌, arith, List, [], ◌∷◌, ◌++◌, append-nil, length, length-append, map, suc-mul, zero-mul}
use Rattle.std.specs.List.{range_with_len}
use Rattle.bound_program.specs.Values.{BoundValue}
use Rattle.mesh_decl.specs.Mesh.{no_mesh}
use Rattle.checkpoint.specs.Reading.{Values, AllFit}

-- a program, where it doesn't matter which
abbrev pub no_program : BoundValue
no_program = record { mesh = no_mesh; kernels = []; sites = []; vars = []; trace = [] }

pub values_counted : (b : BoundValue) (k n : ℕ) (ls : List (List ℕ)) (zs : List ℤ) → AllFit b k (Values n ∷ []) ls zs → length zs ≡ n
values_counted b k n [] zs f = absurd f
values_counted b k n (l ∷ []) zs f = ap length (f.2 ∙ (ap (λ (z : List ℤ). f.0 ++ z) f.4 ∙ append-nil f.0)) ∙ f.3.count
values_counted b k n (l ∷ m ∷ ls) zs f = absurd f.4

pub elements_counted : (b : BoundValue) (k dim a size : ℕ) (ls : List (List ℕ)) (zs : List ℤ)
    → AllFit b k (map (λ (e : ℕ). Values dim) (range_with_len a size)) ls zs → length zs ≡ size * dim
elements_counted b k dim a zero [] zs f = ap length f ∙ sym (zero-mul dim)
elements_counted b k dim a zero (l ∷ ls) zs f = absurd f
elements_counted b k dim a (suc size) [] zs f = absurd f
elements_counted b k dim a (suc size) (l ∷ ls) zs f =
    let more : length f.1 ≡ size * dim = elements_counted b k dim (a + 1) size ls f.1 f.4 in
    let one : length f.0 ≡ dim = f.3.count in
    let both : length zs ≡ length f.0 + length f.1 = ap length f.2 ∙ length-append f.0 f.1 in
    let s : suc size * dim ≡ size * dim + dim = suc-mul size dim in
    omega arith
