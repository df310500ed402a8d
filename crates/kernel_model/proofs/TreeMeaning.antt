-- What a kernel does, told by its tree: where it lies in memory is nothing to it.
use Rattle.std.proofs.Common.{◌≡◌, ℤ, pos, ◌+◌, ◌-◌, List, cond, Ok, refl, sym, ap, ◌∙◌, slice_set}
use Rattle.std.specs.Prelude.{slice_index_or, replicate}
use Rattle.std.proofs.Math.Path.{fun_ext}
use Rattle.kernel_model.specs.declared.types.expressions.RExpr.{RExpr}
use Rattle.kernel_model.specs.declared.types.expressions.RExpr.TheVariants.{Number, Scalar, Constant, Arg', Local', Const', Unary', Binary', Choice', Paren', Extremum', Absolute'}
use Rattle.kernel_model.specs.declared.types.statements.RStmt.{RStmt, Block', Declare, SetScalar, SetLocal, SetArg, If', For', Row_of-RStmt, end_of-RStmt, more_of-RStmt}
use Rattle.kernel_model.specs.declared.types.kernels.RKernel.{RKernel}
use Rattle.kernel_model.specs.View as tree
use Rattle.kernel_model.specs.View.{RExprTree, RStmtTree, RStmtTrees, RKernelTree, rexpr_of, rstmt_of, rstmts_of_row, rkernel_of}
use Rattle.kernel_model.specs.Numbers.{Value, truth, is_zero, not, apply, apply_unary, is_settled, extremum, magnitude}
use Rattle.kernel_model.specs.Meaning.{Store, Target, target_at, read_arg, store_arg, and_then, index_in, value_of, Outcome, Done, then_do, with_value, stored, cleared, turns, meaning, meaning_of_all, Ran, without_locals, kernel_meaning}

module _ (ts : List Target) (consts : List ℤ) where
  -- ---- values

  abbrev value : RExprTree → Store → List ℤ → Value
  value (tree.Number n) s ls = Ok n
  value (tree.Scalar k) s ls = Ok (slice_index_or ls k (pos 0))
  value (tree.Constant k) s ls = Ok (slice_index_or consts k (pos 0))
  value (tree.Arg a form e at) s ls =
      and_then (value e s ls) (λ z. and_then (index_in (target_at ts a).count at z) (λ i. Ok (read_arg ts s a i)))
  value (tree.Local from count form e at) s ls =
      and_then (value e s ls) (λ z. and_then (index_in count at z) (λ i. Ok (slice_index_or ls (from + i) (pos 0))))
  value (tree.Const from count form e at) s ls =
      and_then (value e s ls) (λ z. and_then (index_in count at z) (λ i. Ok (slice_index_or consts (from + i) (pos 0))))
  value (tree.Unary op a) s ls = and_then (value a s ls) (λ x. Ok (apply_unary op x))
  value (tree.Binary op a b at) s ls =
      and_then
      (value a s ls)
      (λ x. cond (is_settled op x) (Ok (truth (not (is_zero x)))) (and_then (value b s ls) (λ y. apply op at x y)))
  value (tree.Choice c a b) s ls = and_then (value c s ls) (λ x. cond (is_zero x) (value b s ls) (value a s ls))
  value (tree.Paren a) s ls = value a s ls
  value (tree.Extremum which a b) s ls = and_then (value a s ls) (λ x. and_then (value b s ls) (λ y. Ok (extremum which x y)))
  value (tree.Absolute a) s ls = and_then (value a s ls) (λ x. Ok (magnitude x))

  value_is : (e : RExpr) (s : Store) (ls : List ℤ) → value_of ts consts e s ls ≡ value (rexpr_of e) s ls
  value_is (Number n) s ls = refl
  value_is (Scalar k) s ls = refl
  value_is (Constant k) s ls = refl
  value_is (Arg' a form p e at) s ls =
      ap (λ r. and_then r (λ z. and_then (index_in (target_at ts a).count at z) (λ i. Ok (read_arg ts s a i)))) (value_is e s ls)
  value_is (Local' from count form p e at) s ls =
      ap (λ r. and_then r (λ z. and_then (index_in count at z) (λ i. Ok (slice_index_or ls (from + i) (pos 0))))) (value_is e s ls)
  value_is (Const' from count form p e at) s ls =
      ap (λ r. and_then r (λ z. and_then (index_in count at z) (λ i. Ok (slice_index_or consts (from + i) (pos 0))))) (value_is e s ls)
  value_is (Unary' op p a) s ls = ap (λ r. and_then r (λ x. Ok (apply_unary op x))) (value_is a s ls)
  value_is (Binary' op p a q b at) s ls =
      ap (λ r. and_then r (λ x. cond (is_settled op x) (Ok (truth (not (is_zero x)))) (and_then (value_of ts consts b s ls) (λ y. apply op at x y)))) (value_is a s ls)
      ∙ ap (λ r. and_then (value (rexpr_of a) s ls) (λ x. cond (is_settled op x) (Ok (truth (not (is_zero x)))) (and_then r (λ y. apply op at x y)))) (value_is b s ls)
  value_is (Choice' p c q a r b) s ls =
      ap (λ v. and_then v (λ x. cond (is_zero x) (value_of ts consts b s ls) (value_of ts consts a s ls))) (value_is c s ls)
      ∙ ap (λ v. and_then (value (rexpr_of c) s ls) (λ x. cond (is_zero x) v (value_of ts consts a s ls))) (value_is b s ls)
      ∙ ap (λ v. and_then (value (rexpr_of c) s ls) (λ x. cond (is_zero x) (value (rexpr_of b) s ls) v)) (value_is a s ls)
  value_is (Paren' p a) s ls = value_is a s ls
  value_is (Extremum' which p a q b) s ls =
      ap (λ r. and_then r (λ x. and_then (value_of ts consts b s ls) (λ y. Ok (extremum which x y)))) (value_is a s ls)
      ∙ ap (λ r. and_then (value (rexpr_of a) s ls) (λ x. and_then r (λ y. Ok (extremum which x y)))) (value_is b s ls)
  value_is (Absolute' p a) s ls = ap (λ r. and_then r (λ x. Ok (magnitude x))) (value_is a s ls)

  -- ---- statements

  abbrev mutual
    run : RStmtTree → Store → List ℤ → Outcome
    run (tree.Block all) s ls = run_all all s ls
    run (tree.Declare from count) s ls = Done s (cleared from count ls)
    run (tree.SetScalar k op opat e) s ls =
        with_value s ls (value e s ls) (λ v.
        with_value s ls (stored op opat (slice_index_or ls k (pos 0)) v) (λ r.
        Done s (slice_set ls k r)))
    run (tree.SetLocal from count form ix at op opat e) s ls =
        with_value s ls (value ix s ls) (λ z.
        with_value s ls (index_in count at z) (λ i.
        with_value s ls (value e s ls) (λ v.
        with_value s ls (stored op opat (slice_index_or ls (from + i) (pos 0)) v) (λ r.
        Done s (slice_set ls (from + i) r)))))
    run (tree.SetArg a form ix at op opat e) s ls =
        with_value s ls (value ix s ls) (λ z.
        with_value s ls (index_in (target_at ts a).count at z) (λ i.
        with_value s ls (value e s ls) (λ v.
        with_value s ls (stored op opat (read_arg ts s a i) v) (λ r.
        Done (store_arg ts s a i r) ls))))
    run (tree.If e a b) s ls = with_value s ls (value e s ls) (λ x. cond (is_zero x) (run b s ls) (run a s ls))
    run (tree.For k first past body) s ls = turns (run body) k first (past - first) s ls

    run_all : RStmtTrees → Store → List ℤ → Outcome
    run_all tree.NoStmt s ls = Done s ls
    run_all (tree.MoreStmt first rest) s ls = then_do (run first s ls) (run_all rest)

  mutual
    run_is : (x : RStmt) (s : Store) (ls : List ℤ) → meaning ts consts x s ls ≡ run (rstmt_of x) s ls
    run_is (Block' shape all) s ls = all_is all s ls
    run_is (Declare from count) s ls = refl
    run_is (SetScalar k op opat e) s ls =
        ap (λ w. with_value s ls w (λ v. with_value s ls (stored op opat (slice_index_or ls k (pos 0)) v) (λ r. Done s (slice_set ls k r)))) (value_is e s ls)
    run_is (SetLocal from count form ix at op opat e) s ls =
        ap (λ w. with_value s ls w (λ z. with_value s ls (index_in count at z)
        (λ i. with_value s ls (value_of ts consts e s ls)
        (λ v. with_value s ls (stored op opat (slice_index_or ls (from + i) (pos 0)) v) (λ r. Done s (slice_set ls (from + i) r))))))
        (value_is ix s ls)
        ∙ ap (λ w. with_value s ls (value (rexpr_of ix) s ls)
        (λ z. with_value s ls (index_in count at z)
        (λ i. with_value s ls w (λ v. with_value s ls (stored op opat (slice_index_or ls (from + i) (pos 0)) v)
        (λ r. Done s (slice_set ls (from + i) r)))))) (value_is e s ls)
    run_is (SetArg a form ix at op opat e) s ls =
        ap (λ w. with_value s ls w (λ z. with_value s ls (index_in (target_at ts a).count at z)
        (λ i. with_value s ls (value_of ts consts e s ls)
        (λ v. with_value s ls (stored op opat (read_arg ts s a i) v) (λ r. Done (store_arg ts s a i r) ls))))) (value_is ix s ls)
        ∙ ap (λ w. with_value s ls (value (rexpr_of ix) s ls)
        (λ z. with_value s ls (index_in (target_at ts a).count at z)
        (λ i. with_value s ls w (λ v. with_value s ls (stored op opat (read_arg ts s a i) v) (λ r. Done (store_arg ts s a i r) ls)))))
        (value_is e s ls)
    run_is (If' e p a q b) s ls =
        ap (λ w. with_value s ls w (λ x. cond (is_zero x) (meaning ts consts b s ls) (meaning ts consts a s ls))) (value_is e s ls)
        ∙ ap (λ o. with_value s ls (value (rexpr_of e) s ls) (λ x. cond (is_zero x) o (meaning ts consts a s ls))) (run_is b s ls)
        ∙ ap (λ o. with_value s ls (value (rexpr_of e) s ls) (λ x. cond (is_zero x) (run (rstmt_of b) s ls) o)) (run_is a s ls)
    run_is (For' k first past p body) s ls = ap (λ f. turns f k first (past - first) s ls) (fun_ext (λ t. fun_ext (λ ms. run_is body t ms)))

    all_is : {m : _} (all : Row_of-RStmt m) (s : Store) (ls : List ℤ) → meaning_of_all ts consts all s ls ≡ run_all (rstmts_of_row all) s ls
    all_is end_of-RStmt s ls = refl
    all_is (more_of-RStmt first rest) s ls =
        ap (λ o. then_do o (meaning_of_all ts consts rest)) (run_is first s ls)
        ∙ ap (λ f. then_do (run (rstmt_of first) s ls) f) (fun_ext (λ t. fun_ext (λ ms. all_is rest t ms)))

  -- ---- kernels

  abbrev kernel_run : RKernelTree → Store → Ran
  kernel_run k s = without_locals (run k.statement s (replicate k.scratch (pos 0)))

  kernel_is : (k : RKernel) (s : Store) → kernel_meaning ts consts k s ≡ kernel_run (rkernel_of k) s
  kernel_is k s = ap without_locals (run_is k.body.statement s (replicate k.scratch (pos 0)))

-- kernels with one tree run alike
pub runs_alike : (k l : RKernel) → rkernel_of k ≡ rkernel_of l → (ts : List Target) (consts : List ℤ) (s : Store) → kernel_meaning ts consts k s ≡ kernel_meaning ts consts l s
runs_alike k l e ts consts s = kernel_is ts consts k s ∙ ap (λ t. kernel_run ts consts t s) e ∙ sym (kernel_is ts consts l s)
