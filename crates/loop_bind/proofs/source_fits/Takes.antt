-- The kernels of a source take as many parameters as they are resolved with.
use Rattle.std.proofs.Common.{◌≡◌, ◌∙◌, ℕ, suc, List, [], ◌∷◌, ◌++◌, length, map, sym, ap, subst, append_assoc, length-append, arith}
use Rattle.c_tree.specs.declared.lexer.tokens.Pos.{Pos}
use Rattle.c_tree.specs.Tree as tree
use Rattle.c_tree.specs.Tree.{TopTree}
use Rattle.kernel_model.specs.declared.types.kernels.RKernel.{RKernel}
use Rattle.kernel_model.specs.View.{RKernelTree, rkernel_of}
use Rattle.name_resolution.specs.Scopes.{Names}
use Rattle.name_resolution.specs.Kernels.{kernel}
use Rattle.name_resolution.specs.Programs.{after_top, kernels}
use Rattle.bound_program.specs.Fits.{TakesArgs}
use Rattle.loop_bind.specs.Sources.{TopsTake}

takes_at : (before : List RKernelTree) (k : RKernelTree) (rest : List RKernelTree) (ks : List RKernel) → map rkernel_of ks ≡ before ++ k ∷ rest → TakesArgs ks (length before) k.params
takes_at [] k rest [] e = cc
takes_at [] k rest (x ∷ ks) e = let q : rkernel_of x ≡ k = cc in ap (λ t. t.params) q
takes_at (y ∷ before) k rest [] e = cc
takes_at (y ∷ before) k rest (x ∷ ks) e = let q : map rkernel_of ks ≡ before ++ k ∷ rest = cc in takes_at before k rest ks q

one_more : (before : List RKernelTree) (k : RKernelTree) → length (before ++ k ∷ []) ≡ suc (length before)
one_more before k = omega (arith, length-append before (k ∷ []))

module _ (ks : List RKernel) (named : List (List ℕ)) (places : List Pos) where
  pub tops_take : (before : List RKernelTree) (file : Names) (ts : List TopTree) → map rkernel_of ks ≡ before ++ kernels named places file ts → TopsTake ks (length before) ts
  tops_take before file [] e = tt
  tops_take before file (tree.Extern x ∷ ts) e = tops_take before (after_top named file (tree.Extern x)) ts e
  tops_take before file (tree.ExternArray x ∷ ts) e = tops_take before (after_top named file (tree.ExternArray x)) ts e
  tops_take before file (tree.FileDeclaration v ∷ ts) e = tops_take before (after_top named file (tree.FileDeclaration v)) ts e
  tops_take before file (tree.Kernel f ∷ ts) e =
      let later = after_top named file (tree.Kernel f) in
      let k = kernel places later f in
      let q = e ∙ sym (append_assoc before (k ∷ []) (kernels named places later ts)) in
      (takes_at before k (kernels named places later ts) ks e, subst (λ n. TopsTake ks n ts) (one_more before k) (tops_take (before ++ k ∷ []) later ts q))
