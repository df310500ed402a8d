-- What expressions and assignments of kernels that break no rule name is there.
use Rattle.std.proofs.Common.{◌≡◌, ℕ, pos, ◌+◌, ◌<◌, ◌≤◌, Bool, true, false, List, [], ◌++◌, Option, Some, None, IfSome, refl}
use Rattle.c_tree.specs.declared.lexer.tokens.Pos.{Pos}
use Rattle.c_tree.specs.declared.declarations.AssignOp.{AssignOp}
use Rattle.c_tree.specs.Places.{pos_of}
use Rattle.c_tree.specs.Tree as tree
use Rattle.c_tree.specs.Tree.{ExprTree, PlaceTree, AssignmentTree}
use Rattle.kernel_model.specs.declared.types.expressions.ElementForm.{ElementForm}
use Rattle.kernel_model.specs.declared.types.expressions.ElementForm.TheVariants as form
use Rattle.name_resolution.specs.declared.decls.Sort.{Sort}
use Rattle.name_resolution.specs.declared.decls.Sort.TheVariants as sort
use Rattle.name_resolution.specs.declared.decls.Decl.{Decl}
use Rattle.name_resolution.specs.Scopes.{Scope, means, decl_or, use_breaches}
use Rattle.name_resolution.specs.Kernels.{writing, name_breaches, expr_breaches, place_breaches, value, set_element, assigned}
use Rattle.kernel_model.specs.View.{RExprTree, Number}
use Rattle.name_resolution.proofs.Trees.{FormIn, ExprIn, StmtIn, StoresIn}
use Rattle.name_resolution.proofs.Fits.{AllAre, Fit, FitAs, mk, meant, none_of_both, Allowed, allowed, single_in, element_in}
use Rattle.lemmas.proofs.Truth.{or_right}

-- stores to what is declared so go to cells of these alone
abbrev pub MayAs : (ℕ → Type 0) → Sort → (f : Bool) → (from count : ℕ) → Type 0
MayAs may sort.Scalar false from count = may from
MayAs may sort.Array false from count = (j : ℕ) → from ≤ j → j < from + count → may j
MayAs may _ f from count = Unit {0}

abbrev pub May : (ℕ → Type 0) → Decl → Type 0
May may d = MayAs may d.sort d.of_file d.from d.count

module _ (p n c : ℕ) (places : List Pos) (s : Scope) (file_fits : AllAre (Fit p n c) s.file) (own_fits : AllAre (Fit p n c) s.own) where
  pub expr_in : (e : ExprTree) → expr_breaches true s e ≡ [] → ExprIn p n c (value places s e)
  expr_in (tree.Number m) h = tt
  expr_in (tree.Name x) h = single_in p n c (means s x.name) x.at (meant (Fit p n c) s x.name file_fits own_fits) h
  expr_in (tree.Index x e) h =
      let b = none_of_both (name_breaches true s true x) (expr_breaches true s e) h in
      element_in p n c (means s x.name) x.at form.Index (value places s e) (pos_of places x.at) (meant (Fit p n c) s x.name file_fits own_fits) tt (expr_in e b.1) b.0
  expr_in (tree.Deref at x) h =
      element_in p n c (means s x.name) x.at form.Deref (Number (pos 0)) (pos_of places x.at) (meant (Fit p n c) s x.name file_fits own_fits) refl tt h
  expr_in (tree.Unary op at e) h = expr_in e h
  expr_in (tree.Binary op at l r) h =
      let b = none_of_both (expr_breaches true s l) (expr_breaches true s r) h in (expr_in l b.0, expr_in r b.1)
  expr_in (tree.Choice at q y m) h =
      let b = none_of_both (expr_breaches true s q) (expr_breaches true s y ++ expr_breaches true s m) h in
      let d = none_of_both (expr_breaches true s y) (expr_breaches true s m) b.1 in
      (expr_in q b.0, expr_in y d.0, expr_in m d.1)
  expr_in (tree.Paren at e) h = expr_in e h
  expr_in (tree.Extremum w at l r) h =
      let b = none_of_both (expr_breaches true s l) (expr_breaches true s r) h in (expr_in l b.0, expr_in r b.1)
  expr_in (tree.Absolute at e) h = expr_in e h

-- ---- targets

-- a target without an index is a variable of the kernel
scalar_target : (P : Sort → Bool → Bool → ℕ → ℕ → Type 0) (R : ℕ → Type 0)
    → ((k : Bool) (from count : ℕ) → P sort.Scalar false k from count → R from) → (at : ℕ) (s : Sort) (k0 f k : Bool) (from count : ℕ)
    → P s f k from count → Allowed (writing true false false) (mk at s k0 f k from count) → R from
scalar_target P R r at sort.Extern k0 f k from count h a = let e = a.reach in cc
scalar_target P R r at sort.ExternArray k0 f k from count h a = let e = a.value in cc
scalar_target P R r at sort.Kernel k0 f k from count h a = let e = a.value in cc
scalar_target P R r at sort.Set k0 f k from count h a = let e = a.value in cc
scalar_target P R r at sort.Map k0 f k from count h a = let e = a.value in cc
scalar_target P R r at sort.Dat k0 f k from count h a = let e = a.value in cc
scalar_target P R r at sort.Scalar k0 false k from count h a = r k from count h
scalar_target P R r at sort.Scalar k0 true k from count h a = let e = or_right k0 true a.kept in cc
scalar_target P R r at sort.Array k0 f k from count h a = let e = a.value in cc
scalar_target P R r at sort.Param k0 f k from count h a = let e = a.value in cc
scalar_target P R r at sort.Counter k0 f k from count h a = let e = a.counter in cc

module _ (p n c : ℕ) (may : ℕ → Type 0) (form : ElementForm) (i : RExprTree) (q : Pos) (op : AssignOp) (op_at : Pos) (v : RExprTree) where
  -- a target with an index is an array of the kernel or a parameter
  element_target : (at : ℕ) (s : Sort) (k0 f k : Bool) (from count : ℕ) → FitAs p n c s f k from count → FormIn form i → ExprIn p n c i
      → ExprIn p n c v → Allowed (writing true false true) (mk at s k0 f k from count)
      → StmtIn p n c (set_element (mk at s k0 f k from count) form i q op op_at v)
  element_target at sort.Extern k0 f k from count h fi hi hv a = let e = a.index in cc
  element_target at sort.ExternArray k0 f k from count h fi hi hv a = let e = a.value in cc
  element_target at sort.Kernel k0 f k from count h fi hi hv a = let e = a.value in cc
  element_target at sort.Set k0 f k from count h fi hi hv a = let e = a.value in cc
  element_target at sort.Map k0 f k from count h fi hi hv a = let e = a.value in cc
  element_target at sort.Dat k0 f k from count h fi hi hv a = let e = a.value in cc
  element_target at sort.Scalar k0 f k from count h fi hi hv a = let e = a.index in cc
  element_target at sort.Array k0 false k from count h fi hi hv a = (h, fi, hi, hv)
  element_target at sort.Array k0 true k from count h fi hi hv a = let e = or_right k0 true a.kept in cc
  element_target at sort.Param k0 f k from count h fi hi hv a = (h, fi, hi, hv)
  element_target at sort.Counter k0 f k from count h fi hi hv a = let e = a.index in cc

  element_store : (at : ℕ) (s : Sort) (k0 f k : Bool) (from count : ℕ) → MayAs may s f from count
      → Allowed (writing true false true) (mk at s k0 f k from count)
      → StoresIn may (set_element (mk at s k0 f k from count) form i q op op_at v)
  element_store at sort.Extern k0 f k from count h a = let e = a.index in cc
  element_store at sort.ExternArray k0 f k from count h a = let e = a.value in cc
  element_store at sort.Kernel k0 f k from count h a = let e = a.value in cc
  element_store at sort.Set k0 f k from count h a = let e = a.value in cc
  element_store at sort.Map k0 f k from count h a = let e = a.value in cc
  element_store at sort.Dat k0 f k from count h a = let e = a.value in cc
  element_store at sort.Scalar k0 f k from count h a = let e = a.index in cc
  element_store at sort.Array k0 false k from count h a = h
  element_store at sort.Array k0 true k from count h a = let e = or_right k0 true a.kept in cc
  element_store at sort.Param k0 f k from count h a = tt
  element_store at sort.Counter k0 f k from count h a = let e = a.index in cc

  set_in : (m : Option Decl) (t : ℕ) → IfSome m (Fit p n c) → FormIn form i → ExprIn p n c i → ExprIn p n c v
      → use_breaches (writing true false true) t m ≡ [] → StmtIn p n c (set_element (decl_or m) form i q op op_at v)
  set_in None t h fi hi hv e = cc
  set_in (Some d) t h fi hi hv e = element_target d.at d.sort d.is_const d.of_file d.is_constant d.from d.count h fi hi hv (allowed (writing true false true) t d e)

  set_stores : (m : Option Decl) (t : ℕ) → IfSome m (May may) → use_breaches (writing true false true) t m ≡ [] → StoresIn may (set_element (decl_or m) form i q op op_at v)
  set_stores None t h e = cc
  set_stores (Some d) t h e = element_store d.at d.sort d.is_const d.of_file d.is_constant d.from d.count h (allowed (writing true false true) t d e)

scalar_in : (p n c : ℕ) (m : Option Decl) (t : ℕ) → IfSome m (Fit p n c) → use_breaches (writing true false false) t m ≡ [] → (decl_or m).from < n
scalar_in p n c None t h e = cc
scalar_in p n c (Some d) t h e = scalar_target (FitAs p n c) (λ j. j < n) (λ k from count u. u) d.at d.sort d.is_const d.of_file
    d.is_constant d.from d.count h (allowed (writing true false false) t d e)

scalar_stores : (may : ℕ → Type 0) (m : Option Decl) (t : ℕ) → IfSome m (May may) → use_breaches (writing true false false) t m ≡ [] → may (decl_or m).from
scalar_stores may None t h e = cc
scalar_stores may (Some d) t h e = scalar_target (λ s f k from count. MayAs may s f from count) may (λ k from count u. u) d.at d.sort
    d.is_const d.of_file d.is_constant d.from d.count h (allowed (writing true false false) t d e)

-- ---- assignments

module _ (p n c : ℕ) (places : List Pos) (s : Scope) (file_fits : AllAre (Fit p n c) s.file) (own_fits : AllAre (Fit p n c) s.own) where
  pub assigned_in : (a : AssignmentTree) (x : PlaceTree) → place_breaches true s false x ≡ [] → expr_breaches true s a.value ≡ [] → StmtIn p n c (assigned places s a x)
  assigned_in a (tree.Scalar x) h v =
      (scalar_in p n c (means s x.name) x.at (meant (Fit p n c) s x.name file_fits own_fits) h, expr_in p n c places s file_fits own_fits a.value v)
  assigned_in a (tree.Element x e) h v =
      let b = none_of_both (use_breaches (writing true false true) x.at (means s x.name)) (expr_breaches true s e) h in
      set_in p n c (λ j. Unit {0}) form.Index (value places s e) (pos_of places x.at) a.op (pos_of places a.at) (value places s a.value)
      (means s x.name) x.at (meant (Fit p n c) s x.name file_fits own_fits) tt (expr_in p n c places s file_fits own_fits e b.1)
      (expr_in p n c places s file_fits own_fits a.value v) b.0
  assigned_in a (tree.Target at x) h v =
      set_in p n c (λ j. Unit {0}) form.Deref (Number (pos 0)) (pos_of places x.at) a.op (pos_of places a.at) (value places s a.value)
      (means s x.name) x.at (meant (Fit p n c) s x.name file_fits own_fits) refl tt
      (expr_in p n c places s file_fits own_fits a.value v) h

module _ (may : ℕ → Type 0) (places : List Pos) (s : Scope) (file_may : AllAre (May may) s.file) (own_may : AllAre (May may) s.own) where
  pub assigned_stores : (a : AssignmentTree) (x : PlaceTree) → place_breaches true s false x ≡ [] → StoresIn may (assigned places s a x)
  assigned_stores a (tree.Scalar x) h = scalar_stores may (means s x.name) x.at (meant (May may) s x.name file_may own_may) h
  assigned_stores a (tree.Element x e) h =
      let b = none_of_both (use_breaches (writing true false true) x.at (means s x.name)) (expr_breaches true s e) h in
      set_stores 0 0 0 may form.Index (value places s e) (pos_of places x.at) a.op (pos_of places a.at) (value places s a.value) (means s x.name) x.at (meant (May may) s x.name file_may own_may) b.0
  assigned_stores a (tree.Target at x) h =
      set_stores 0 0 0 may form.Deref (Number (pos 0)) (pos_of places x.at) a.op (pos_of places a.at) (value places s a.value) (means s x.name) x.at (meant (May may) s x.name file_may own_may) h
