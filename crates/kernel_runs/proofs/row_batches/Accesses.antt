-- What a column's access lets its arguments do; numbers of elements and their cells.
use Rattle.std.proofs.Common.{◌≡◌, ◌≢◌, ℕ, ◌+◌, ◌*◌, ◌<◌, ◌≤◌, ◌⊎◌, inl, inr, ⊎_elim, refl, sym, ap, ◌∙◌, subst, arith}
use Rattle.std.proofs.Math.Nat.{mul-le-mul_right}
use Rattle.std.proofs.lemmas.Bool.{cases_lt}
use Rattle.op_num.specs.Reduction.{Reduction}
use Rattle.op_num.specs.Access.{Access, OpRead, OpWrite, OpRw, OpReduce}
use Rattle.kernel_runs.specs.RowLoops.{Allows}

-- ---- accesses

pub changing : (shared own : Access) → Allows shared own → own ≢ OpRead → shared ≢ OpRead
changing OpRead own a ne e = ne (sym a)
changing OpWrite own a ne e = cc
changing OpRw own a ne e = cc
changing (OpReduce r) own a ne e = cc

pub reading : (shared own : Access) → Allows shared own → (own ≡ OpRead) ⊎ (own ≡ OpRw) → (shared ≡ OpRead) ⊎ (shared ≡ OpRw)
reading OpRead own a how = inl refl
reading OpRw own a how = inr refl
reading OpWrite own a (inl e) = let h : OpWrite ≡ OpRead = a ∙ e in absurd cc
reading OpWrite own a (inr e) = let h : OpWrite ≡ OpRw = a ∙ e in absurd cc
reading (OpReduce r) own a (inl e) = let h : OpReduce r ≡ OpRead = a ∙ e in absurd cc
reading (OpReduce r) own a (inr e) = let h : OpReduce r ≡ OpRw = a ∙ e in absurd cc

pub reducing : (shared own : Access) (r : Reduction) → Allows shared own → own ≡ OpReduce r → shared ≡ OpReduce r
reducing OpRead own r a e = a ∙ e
reducing OpWrite own r a e = a ∙ e
reducing OpRw own r a e = absurd (subst (Allows OpRw) e a)
reducing (OpReduce s) own r a e = a ∙ e

pub reduced_by : (shared own : Access) (r : Reduction) → Allows shared own → shared ≡ OpReduce r → own ≡ OpReduce r
reduced_by shared own r a e = sym (subst (λ z. Allows z own) e a)

-- an access that some argument may modify by, and another may read by
pub both_ways : (shared own other : Access) → Allows shared own → own ≢ OpRead → Allows shared other → (other ≡ OpRead) ⊎ (other ≡ OpRw) → shared ≡ OpRw
both_ways shared own other a ne b how = ⊎_elim
    (λ (e : shared ≡ OpRead). absurd (changing shared own a ne e))
    (λ (e : shared ≡ OpRw). e)
    (reading shared other b how)

-- an access that is that of a reduction reads nothing
pub only_reduces : (p q : Access) → p ≡ q → (p ≢ OpRead) × (p ≢ OpWrite) × (p ≢ OpRw) → (q ≡ OpRead) ⊎ (q ≡ OpRw) → ⊥
only_reduces p q e none (inl r) = none.0 (e ∙ r)
only_reduces p q e none (inr r) = none.2 (e ∙ r)

-- ---- numbers of elements

more : (n k d : ℕ) → n < k → 0 < d → n * d < k * d
more n k d lt some =
    let le : n + 1 ≤ k = omega arith in
    let h : (n + 1) * d ≤ k * d = mul-le-mul_right d le in
    omega (arith, h, some)

pub same_number : (a b d e n k : ℕ) → a ≡ b → d ≡ e → 0 < d → a + n * d ≡ b + k * e → n ≡ k
same_number a b d e n k ab de some same = by (cases_lt n k) (cases_lt k n)
  where
    there : n * d ≡ k * d
    there = omega (arith, same, ab, ap (λ z. k * z) de)

    by : (n < k) ⊎ (k ≤ n) → (k < n) ⊎ (n ≤ k) → n ≡ k
    by (inl lt) other = absurd (omega (arith, more n k d lt some, there))
    by (inr le) (inl lt) = absurd (omega (arith, more k n d lt some, there))
    by (inr le) (inr ge) = omega arith
