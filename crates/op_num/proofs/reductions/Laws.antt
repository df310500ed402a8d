-- Sums, minima and maxima commute.
use Rattle.std.proofs.Common.{◌≡◌, ℤ, pos, negsuc, ◌+ℤ◌, FitsSigned, ◌∙◌, sym, ap, arith, w32}
use Rattle.std.specs.Int.{int_wrap, int_min, int_max}
use Rattle.std.proofs.lemmas.Int.{ints, clamps, int_wrap_fits, int_wrap-add_left, int_wrap-add_right, SFits-int_wrap}
use Rattle.std.proofs.lemmas.Bool.{cond_both}
use lib.Signed.{lt_z}
use Rattle.op_num.specs.Reduction.{Reduction, Add, Min, Max, IsCommuting, unit_of, merged}

sum_commutes : (a b : ℤ) → a +ℤ b ≡ b +ℤ a
sum_commutes a b = omega (arith, ints)

sum_associates : (a b c : ℤ) → (a +ℤ b) +ℤ c ≡ a +ℤ (b +ℤ c)
sum_associates a b c = omega (arith, ints)

sum_keeps : (a : ℤ) → pos 0 +ℤ a ≡ a
sum_keeps a = omega (arith, ints)

min_fits : (a b : ℤ) → FitsSigned w32 a → FitsSigned w32 b → FitsSigned w32 (int_min a b)
min_fits a b f g = cond_both (lt_z b a) b a (FitsSigned w32) (λ t. g) (λ t. f)

min_commutes : (a b : ℤ) → int_min a b ≡ int_min b a
min_commutes a b = omega (arith, ints, clamps)

min_associates : (a b c : ℤ) → int_min (int_min a b) c ≡ int_min a (int_min b c)
min_associates a b c = omega (arith, ints, clamps)

min_keeps : (a : ℤ) → FitsSigned w32 a → int_min (pos 2147483647) a ≡ a
min_keeps a f = omega (arith, ints, clamps, f.sfits)

max_fits : (a b : ℤ) → FitsSigned w32 a → FitsSigned w32 b → FitsSigned w32 (int_max a b)
max_fits a b f g = cond_both (lt_z b a) a b (FitsSigned w32) (λ t. f) (λ t. g)

max_commutes : (a b : ℤ) → int_max a b ≡ int_max b a
max_commutes a b = omega (arith, ints, clamps)

max_associates : (a b c : ℤ) → int_max (int_max a b) c ≡ int_max a (int_max b c)
max_associates a b c = omega (arith, ints, clamps)

max_keeps : (a : ℤ) → FitsSigned w32 a → int_max (negsuc 2147483647) a ≡ a
max_keeps a f = omega (arith, ints, clamps, f.sfits)

pub commuting : (r : Reduction) → IsCommuting (unit_of r) (merged r)
commuting Add = record {
  unit_fits = record { sfits = omega arith };
  fits = λ a b f g. SFits-int_wrap w32 (a +ℤ b);
  commutes = λ a b. ap (int_wrap w32) (sum_commutes a b);
  associates = λ a b c. int_wrap-add_left w32 (a +ℤ b) c ∙ (ap (int_wrap w32) (sum_associates a b c) ∙ sym (int_wrap-add_right w32 a (b +ℤ c)));
  keeps = λ a f. ap (int_wrap w32) (sum_keeps a) ∙ int_wrap_fits w32 a f;
}
commuting Min = record {
  unit_fits = record { sfits = omega arith };
  fits = min_fits;
  commutes = min_commutes;
  associates = min_associates;
  keeps = min_keeps;
}
commuting Max = record {
  unit_fits = record { sfits = omega arith };
  fits = max_fits;
  commutes = max_commutes;
  associates = max_associates;
  keeps = max_keeps;
}
