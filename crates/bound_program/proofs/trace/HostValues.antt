-- The values of expressions of `main` and of kernels.
use Rattle.std.proofs.Common.{◌≡◌, refl, List, ℤ}
use Rattle.kernel_model.specs.declared.types.expressions.RExpr.{RExpr}
use Rattle.kernel_model.specs.declared.types.expressions.RExpr.TheVariants as r
use Rattle.kernel_model.specs.Meaning.{Store, Target, value_of}
use Rattle.kernel_model.specs.View.{rexpr_of}
use Rattle.bound_program.specs.HostExpr.{value, IsHost, MeansAsInKernels}

module _ (ts : List Target) (s : Store) (told cells : List ℤ) where
  same : (e : RExpr) → IsHost (rexpr_of e) → value_of ts told e s cells ≡ value told cells (rexpr_of e)
  same (r.Number n) h = refl
  same (r.Scalar k) h = refl
  same (r.Constant k) h = refl
  same (r.Arg' x form p e at) h = absurd h
  same (r.Local' from count form p e at) h = let a = same e h in rw a refl
  same (r.Const' from count form p e at) h = absurd h
  same (r.Unary' op p e) h = let a = same e h in rw a refl
  same (r.Binary' op p x q y at) h = let a = same x h.0 in let b = same y h.1 in rw (a, b) refl
  same (r.Choice' p c q x t y) h = let a = same c h.0 in let b = same x h.1 in let d = same y h.2 in rw (a, b, d) refl
  same (r.Paren' p e) h = same e h
  same (r.Extremum' which p x q y) h = let a = same x h.0 in let b = same y h.1 in rw (a, b) refl
  same (r.Absolute' p e) h = let a = same e h in rw a refl

pub means_the_same : MeansAsInKernels
means_the_same ts s told cells e h = same ts s told cells e h
