-- What is said of resolved kernels without where they lie in memory holds of them where they lie.
use Rattle.std.proofs.Common.{◌≡◌, ◌≢◌, ℕ, List, [], ◌∷◌, map, length}
use Rattle.kernel_model.specs.declared.types.expressions.ElementForm.{ElementForm}
use Rattle.kernel_model.specs.declared.types.expressions.ElementForm.TheVariants as form
use Rattle.kernel_model.specs.declared.types.expressions.RExpr.{RExpr}
use Rattle.kernel_model.specs.declared.types.expressions.RExpr.TheVariants as e
use Rattle.kernel_model.specs.declared.types.statements.RStmt.{RStmt, Row_of-RStmt, end_of-RStmt, more_of-RStmt}
use Rattle.kernel_model.specs.declared.types.statements.RStmt.TheVariants as s
use Rattle.kernel_model.specs.declared.types.kernels.RKernel.{RKernel}
use Rattle.kernel_model.specs.Resolved.{IsFormOf, ExprWithin, StmtWithin, RowWithin, StoresOnly, RowStoresOnly, CountersKept, RowCountersKept, IsResolved, AreResolved}
use Rattle.kernel_model.specs.View.{rexpr_of, rstmt_of, rstmts_of_row, rkernel_of, RKernelTree}
use Rattle.name_resolution.specs.Numbers.{ExprFits, StmtFits, RowFits, KernelsFit}
use Rattle.name_resolution.proofs.Trees.{FormIn, ExprIn, StmtIn, RowIn, StoresIn, RowStoresIn, CountersIn, RowCountersIn}

is_form : (f : ElementForm) (x : RExpr) → FormIn f (rexpr_of x) → IsFormOf f x
is_form form.Index x h = tt
is_form form.Deref (e.Number n) h = cc
is_form form.Deref (e.Scalar k) h = cc
is_form form.Deref (e.Constant k) h = cc
is_form form.Deref (e.Arg' a f p i at) h = cc
is_form form.Deref (e.Local' from count f p i at) h = cc
is_form form.Deref (e.Const' from count f p i at) h = cc
is_form form.Deref (e.Unary' op p a) h = cc
is_form form.Deref (e.Binary' op p a q b at) h = cc
is_form form.Deref (e.Choice' p x q a r b) h = cc
is_form form.Deref (e.Paren' p a) h = cc
is_form form.Deref (e.Extremum' w p a q b) h = cc
is_form form.Deref (e.Absolute' p a) h = cc

module _ (p n c : ℕ) where
  expr_within : (x : RExpr) → ExprIn p n c (rexpr_of x) → ExprFits (rexpr_of x) → ExprWithin p n c x
  expr_within (e.Number m) h w = w
  expr_within (e.Scalar k) h w = h
  expr_within (e.Constant k) h w = h
  expr_within (e.Arg' a f q i at) h w = (h.0, is_form f i h.1, expr_within i h.2 w)
  expr_within (e.Local' from count f q i at) h w = (h.0, is_form f i h.1, expr_within i h.2 w)
  expr_within (e.Const' from count f q i at) h w = (h.0, is_form f i h.1, expr_within i h.2 w)
  expr_within (e.Unary' op q a) h w = expr_within a h w
  expr_within (e.Binary' op q a r b at) h w = (expr_within a h.0 w.0, expr_within b h.1 w.1)
  expr_within (e.Choice' q x r a t b) h w = (expr_within x h.0 w.0, expr_within a h.1 w.1, expr_within b h.2 w.2)
  expr_within (e.Paren' q a) h w = expr_within a h w
  expr_within (e.Extremum' which q a r b) h w = (expr_within a h.0 w.0, expr_within b h.1 w.1)
  expr_within (e.Absolute' q a) h w = expr_within a h w

  mutual
    stmt_within : (x : RStmt) → StmtIn p n c (rstmt_of x) → StmtFits (rstmt_of x) → StmtWithin p n c x
    stmt_within (s.Block' shape all) h w = row_within _ all h w
    stmt_within (s.Declare from count) h w = h
    stmt_within (s.SetScalar k op op_at v) h w = (h.0, expr_within v h.1 w)
    stmt_within (s.SetLocal from count f i at op op_at v) h w = (h.0, is_form f i h.1, expr_within i h.2 w.0, expr_within v h.3 w.1)
    stmt_within (s.SetArg a f i at op op_at v) h w = (h.0, is_form f i h.1, expr_within i h.2 w.0, expr_within v h.3 w.1)
    stmt_within (s.If' x q a r b) h w = (expr_within x h.0 w.0, stmt_within a h.1 w.1, stmt_within b h.2 w.2)
    stmt_within (s.For' k first past q body) h w = (h.0, w.0, stmt_within body h.1 w.1)

    row_within : (m : _) (row : Row_of-RStmt m) → RowIn p n c (rstmts_of_row row) → RowFits (rstmts_of_row row) → RowWithin p n c row
    row_within m end_of-RStmt h w = tt
    row_within m (more_of-RStmt first rest) h w = (stmt_within first h.0 w.0, row_within _ rest h.1 w.1)

module _ (may : ℕ → Type 0) where
  mutual
    stores_only : (x : RStmt) → StoresIn may (rstmt_of x) → StoresOnly may x
    stores_only (s.Block' shape all) h = row_stores_only _ all h
    stores_only (s.Declare from count) h = h
    stores_only (s.SetScalar k op op_at v) h = h
    stores_only (s.SetLocal from count f i at op op_at v) h = h
    stores_only (s.SetArg a f i at op op_at v) h = tt
    stores_only (s.If' x q a r b) h = (stores_only a h.0, stores_only b h.1)
    stores_only (s.For' k first past q body) h = (h.0, stores_only body h.1)

    row_stores_only : (m : _) (row : Row_of-RStmt m) → RowStoresIn may (rstmts_of_row row) → RowStoresOnly may row
    row_stores_only m end_of-RStmt h = tt
    row_stores_only m (more_of-RStmt first rest) h = (stores_only first h.0, row_stores_only _ rest h.1)

mutual
  counters_kept : (x : RStmt) → CountersIn (rstmt_of x) → CountersKept x
  counters_kept (s.Block' shape all) h = row_counters_kept _ all h
  counters_kept (s.Declare from count) h = tt
  counters_kept (s.SetScalar k op op_at v) h = tt
  counters_kept (s.SetLocal from count f i at op op_at v) h = tt
  counters_kept (s.SetArg a f i at op op_at v) h = tt
  counters_kept (s.If' x q a r b) h = (counters_kept a h.0, counters_kept b h.1)
  counters_kept (s.For' k first past q body) h = (stores_only (λ j. j ≢ k) body h.0, counters_kept body h.1)

  row_counters_kept : (m : _) (row : Row_of-RStmt m) → RowCountersIn (rstmts_of_row row) → RowCountersKept row
  row_counters_kept m end_of-RStmt h = tt
  row_counters_kept m (more_of-RStmt first rest) h = (counters_kept first h.0, row_counters_kept _ rest h.1)

-- ---- kernels

-- all that a kernel names is there, over so many cells of constants
pub record KernelIn (consts : ℕ) (k : RKernelTree) : Type 0 where
  pub within : StmtIn k.params k.scratch consts k.statement
  pub counters : CountersIn k.statement
  pub places : length k.param_places ≡ k.params

abbrev pub KernelsIn : ℕ → List RKernelTree → Type 0
KernelsIn consts [] = Unit {0}
KernelsIn consts (k ∷ ks) = KernelIn consts k × KernelsIn consts ks

kernel_resolved : (consts : ℕ) (k : RKernel) → KernelIn consts (rkernel_of k) → StmtFits (rstmt_of k.body.statement) → IsResolved consts k
kernel_resolved consts k h w = record {
  within = stmt_within k.params k.scratch consts k.body.statement h.within w;
  counters = counters_kept k.body.statement h.counters;
  places = h.places;
}

pub are_resolved : (consts : ℕ) (ks : List RKernel) → KernelsIn consts (map rkernel_of ks) → KernelsFit (map rkernel_of ks) → AreResolved consts ks
are_resolved consts [] h w = tt
are_resolved consts (k ∷ ks) h w = (kernel_resolved consts k h.0 w.0, are_resolved consts ks h.1 w.1)
