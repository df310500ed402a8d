-- The rows of a dat, one after another.
use Rattle.std.proofs.Common.{◌≡◌, ◌<◌, ◌+◌, ◌-◌, ◌*◌, ℕ, ℤ, suc, List, ◌++◌, take, drop, ap, subst, ◌∙◌, append_assoc, arith}
use Rattle.std.proofs.Math.Nat.{suc-mul}
use Rattle.std.specs.List.{flat_map}
use Rattle.mesh_decl.specs.Printed.{rows, row_text}

-- one row more is printed
pub row_printed : (size i dim : ℕ) (out new whole : List ℕ) (rest : List ℤ)
    → i < size
    → new ≡ out ++ row_text (take dim rest)
    → out ++ flat_map row_text (rows dim (size - i) rest) ≡ whole
    → new ++ flat_map row_text (rows dim (size - (i + 1)) (drop dim rest)) ≡ whole
row_printed size i dim out new whole rest l h g =
    let left = flat_map row_text (rows dim (size - (i + 1)) (drop dim rest)) in
    let e : size - i ≡ suc (size - (i + 1)) = omega (arith, l) in
    let P : ℕ → Type 0 = λ k. out ++ flat_map row_text (rows dim k rest) ≡ whole in
    ap (λ z. z ++ left) h ∙ append_assoc out (row_text (take dim rest)) left ∙ subst P e g

-- and so many values are left
pub rows_left : (size i dim n m : ℕ) → i < size → n ≡ (size - i) * dim → m + dim ≡ n → m ≡ (size - (i + 1)) * dim
rows_left size i dim n m l h g =
    let e : size - i ≡ suc (size - (i + 1)) = omega (arith, l) in
    let P : ℕ → Type 0 = λ k. n ≡ k * dim in
    let f : n ≡ suc (size - (i + 1)) * dim = subst P e h in
    let s : suc (size - (i + 1)) * dim ≡ (size - (i + 1)) * dim + dim = suc-mul (size - (i + 1)) dim in
    omega (arith, f, s, g)
