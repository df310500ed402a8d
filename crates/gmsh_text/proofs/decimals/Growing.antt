-- A decimal that fits at a scale fits at each smaller one.
use Rattle.std.proofs.Common.{◌≡◌, ℕ, suc, zero, ◌+◌, ◌*◌, ◌^◌, ◌<◌, ◌≤◌, Bool, true, false, Option, Some, None, refl, sym, ◌∙◌, arith}
use Rattle.std.proofs.lemmas.Bool.Decides.{nat_tests}
use Rattle.std.proofs.Math.Nat.{mul-le-mul_left, div-mul-le_self}
use Rattle.std.proofs.lemmas.Nat.{le-div}
use Rattle.std.specs.Result.{is_ok}
use Rattle.op_num.specs.Spelling.{fits_i32}
use Rattle.gmsh_text.specs.Decimal.{Decimal}
use Rattle.gmsh_text.specs.Nearest.{nearest, signed, scaled, judged, fits_at}
use Rattle.gmsh_text.proofs.decimals.Bounds.{ten-pos}

signed-less : (minus : Bool) (m n : ℕ) → m ≤ n → fits_i32 (signed minus n) ≡ true → fits_i32 (signed minus m) ≡ true
signed-less true zero n h f = grind (arith, nat_tests)
signed-less true (suc m) zero h f = absurd (omega arith)
signed-less true (suc m) (suc n) h f = grind (arith, nat_tests)
signed-less false m n h f = grind (arith, nat_tests)

nearest-less : (m n d : ℕ) → 0 < d → m ≤ n → nearest m d ≤ nearest n d
nearest-less m n d p h = le-div (nearest m d) (2 * n + d) (2 * d) (omega arith) (omega (arith, div-mul-le_self (2 * m + d) (2 * d)))

pub fits-less : (d : Option Decimal) (k s : ℕ) → k ≤ s → fits_at d s ≡ true → fits_at d k ≡ true
fits-less None k s h f = f
fits-less (Some d) k s h f =
    let a : 10 ^ d.up * d.digits * k ≤ 10 ^ d.up * d.digits * s = mul-le-mul_left (10 ^ d.up * d.digits) h in
    let b : k * d.digits * 10 ^ d.up ≤ s * d.digits * 10 ^ d.up = grind (arith, a) in
    signed-less d.negative _ _ (nearest-less (k * d.digits * 10 ^ d.up) (s * d.digits * 10 ^ d.up) (10 ^ d.down) (ten-pos d.down) b) f

-- so one that does not fit at a scale fits at none beyond
pub fails-more : (d : Option Decimal) (k s : ℕ) → k ≤ s → fits_at d k ≡ false → fits_at d s ≡ false
fails-more d k s h f = go (fits_at d s) refl
  where
    go : (b : Bool) → fits_at d s ≡ b → b ≡ false
    go false e = refl
    go true e = sym (fits-less d k s h e) ∙ f

-- the reader answers an integer exactly there
pub ok-fits : (d : Option Decimal) (k : ℕ) → is_ok (judged d k) ≡ fits_at d k
ok-fits None k = refl
ok-fits (Some d) k = go (fits_i32 (scaled d k)) refl
  where
    go : (b : Bool) → fits_i32 (scaled d k) ≡ b → is_ok (judged (Some d) k) ≡ fits_at (Some d) k
    go true e = rw e refl
    go false e = rw e refl
