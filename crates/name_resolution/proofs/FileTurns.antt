-- Turns of the loops over the parts of the file.
use Rattle.std.proofs.Common.{◌≡◌, ℕ, zero, suc, ◌+◌, ◌<◌, Bool, Some, slice_get, add-one, List, [], ◌∷◌, ◌++◌, map, drop, length, get_or, refl, sym, Option, append_assoc}
use Rattle.c_tree.specs.declared.lexer.tokens.Pos.{Pos}
use Rattle.c_tree.specs.declared.declarations.Declr.{Declr}
use Rattle.c_tree.specs.declared.programs.Top.{Top}
use Rattle.c_tree.specs.View.{declr_of, top_of}
use Rattle.kernel_model.specs.declared.types.kernels.ConstDecl.{ConstDecl}
use Rattle.kernel_model.specs.declared.types.kernels.RKernel.{RKernel}
use Rattle.name_resolution.specs.declared.breaches.Breach.{Breach}
use Rattle.name_resolution.specs.declared.decls.Decl.{Decl}
use Rattle.name_resolution.specs.First.{least_from}
use Rattle.name_resolution.specs.Scopes.{Names, scope, repeated}
use Rattle.kernel_model.specs.View.{RKernelTree, rkernel_of, rstmt_of}
use Rattle.name_resolution.specs.Numbers.{StmtFits, KernelsFit}
use Rattle.name_resolution.specs.Mains.{declr_name, declr_breaches}
use Rattle.name_resolution.specs.Programs.{with_variable, after_variables, variables_breaches, after_top, after_tops, top_breaches, tops_breaches, kernels_of, kernels, constant_of, constants}
use Rattle.name_resolution.proofs.Firsts.{least_append}
use Rattle.lemmas.proofs.Lists.{drop_here}

module _ (named : List (List ℕ)) where
  pub variables_names : (k : Bool) (file file' : Names) (ds : List Declr) (i : ℕ) (d : Declr) → i < length ds → d ≡ get_or ds i d
      → file' ≡ with_variable named k file (declr_of d) → after_variables named k file' (map declr_of (drop (i + 1) ds)) ≡ after_variables
      named k file (map declr_of (drop i ds))
  variables_names k file file' ds i d h g ho = rw (ho, drop_here ds i d h g) refl

  pub variables_first : (k : Bool) (file file' : Names) (ds : List Declr) (i : ℕ) (d : Declr) (f f' : Option Breach) → i < length ds
      → d ≡ get_or ds i d → f' ≡ least_from f (declr_breaches (scope file []) (declr_of d) ++ repeated (declr_name (declr_of d)) file)
      → file' ≡ with_variable named k file (declr_of d) → least_from f' (variables_breaches named k file' (map declr_of (drop (i + 1) ds)))
      ≡ least_from f (variables_breaches named k file (map declr_of (drop i ds)))
  variables_first k file file' ds i d f f' h g w ho =
      rw (ho, drop_here ds i d h g, w) (sym (least_append f (declr_breaches (scope file []) (declr_of d) ++ repeated (declr_name (declr_of d)) file) _))

  pub tops_names : (file file' : Names) (ts : List Top) (i : ℕ) (t : Top) → i < length ts → t ≡ get_or ts i t
      → file' ≡ after_top named file (top_of t) → after_tops named file' (map top_of (drop (i + 1) ts)) ≡ after_tops named file
      (map top_of (drop i ts))
  tops_names file file' ts i t h g ho = rw (ho, drop_here ts i t h g) refl

  pub tops_first : (file file' : Names) (ts : List Top) (i : ℕ) (t : Top) (f f' : Option Breach) → i < length ts → t ≡ get_or ts i t
      → f' ≡ least_from f (top_breaches named file (top_of t)) → file' ≡ after_top named file (top_of t)
      → least_from f' (tops_breaches named file' (map top_of (drop (i + 1) ts))) ≡ least_from f
      (tops_breaches named file (map top_of (drop i ts)))
  tops_first file file' ts i t f f' h g w ho =
      rw (ho, drop_here ts i t h g, w) (sym (least_append f (top_breaches named file (top_of t)) _))

  pub tops_kernels : (places : List Pos) (file file' : Names) (ts : List Top) (i : ℕ) (t : Top) (ks ks' : List RKernelTree) → i < length ts
      → t ≡ get_or ts i t → ks' ≡ ks ++ kernels_of named places file (top_of t) → file' ≡ after_top named file (top_of t)
      → ks' ++ kernels named places file' (map top_of (drop (i + 1) ts)) ≡ ks ++ kernels named places file (map top_of (drop i ts))
  tops_kernels places file file' ts i t ks ks' h g w ho =
      rw (ho, drop_here ts i t h g, w) (append_assoc ks (kernels_of named places file (top_of t)) _)

-- ---- constants

pub constants_turn : (names : Names) (i : ℕ) (x : List ℕ) (d : Decl) (cs cs' : List ConstDecl) → slice_get names i ≡ Some (x, d)
    → cs' ≡ cs ++ constant_of x d → cs' ++ constants (drop (i + 1) names) ≡ cs ++ constants (drop i names)
constants_turn [] i x d cs cs' h w = cc
constants_turn (n ∷ ns) zero x d cs cs' h w =
    let e : n ≡ (x, d) = cc in
    rw (w, e) (append_assoc cs (constant_of x d) (constants ns))
constants_turn (n ∷ ns) (suc i) x d cs cs' h w = rw add-one (rw add-one at (constants_turn ns i x d cs cs' h w))

pub kernels_push : (ks : List RKernel) (k : RKernel) → KernelsFit (map rkernel_of ks) → StmtFits (rstmt_of k.body.statement) → KernelsFit (map rkernel_of (ks ++ k ∷ []))
kernels_push [] k h w = (w, tt)
kernels_push (x ∷ ks) k h w = (h.0, kernels_push ks k h.1 w)
