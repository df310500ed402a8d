-- What the arguments that share a column may do together.
use Rattle.std.proofs.Common.{◌≡◌, ◌≢◌, ◌<◌, ◌+◌, ℕ, true, false, List, length, refl, sym, ◌∙◌, subst, ⊎_elim, arith}
use Rattle.std.proofs.lemmas.Bool.{cases_eq, false≢true}
use Rattle.op_num.specs.declared.reductions.access.Access.{Access}
use Rattle.op_num.specs.declared.reductions.access.Access.TheVariants.{Read, Write, Rw, Inc, Min, Max}
use Rattle.op_num.specs.Access.{OpRead, access_of}
use Rattle.bound_program.specs.declared.sites.Arg.{Arg}
use Rattle.run_model.specs.Arguments.{access_by}
use Rattle.kernel_runs.specs.RowLoops.{Allows}
use Rattle.kernel_runs.specs.Alike.{arg_in, same_column}
use Rattle.kernel_runs.specs.Tables.{Joins, IsSharedBy}

pub allows_itself : (x : Access) → Allows (access_of x) (access_of x)
allows_itself Read = refl
allows_itself Write = refl
allows_itself Rw = tt
allows_itself Inc = refl
allows_itself Min = refl
allows_itself Max = refl

module _ (args : List Arg) (a : ℕ) (there : a < length args) (dat : same_column (arg_in args a) (arg_in args a) ≡ true) where
  pub first_shared : (x : Access) → access_of x ≡ access_by (arg_in args a) → IsSharedBy args a x 0
  first_shared x is = record {
    own = subst (λ own. Allows (access_of x) own) is (allows_itself x);
    allows = λ b lt. absurd (omega (arith, lt));
    modified = λ ne. (a, there, dat, subst (λ own. own ≢ OpRead) is ne);
  }

module _ (args : List Arg) (a n : ℕ) (shared : Access) (before : IsSharedBy args a shared n) where
  pub skipped : same_column (arg_in args n) (arg_in args a) ≡ false → IsSharedBy args a shared (n + 1)
  skipped not = record {
    own = before.own;
    allows = λ b lt same. ⊎_elim
        (λ (e : b ≡ n). absurd (false≢true (sym not ∙ subst (λ k. same_column (arg_in args k) (arg_in args a) ≡ true) e same)))
        (λ (ne : b ≡ n → ⊥). before.allows b (omega (arith, lt, ne)) same)
        (cases_eq b n);
    modified = before.modified;
  }

  pub one_more : n < length args → same_column (arg_in args n) (arg_in args a) ≡ true → (other joined : Access)
      → access_of other ≡ access_by (arg_in args n) → Joins shared other joined → IsSharedBy args a joined (n + 1)
  one_more there is other joined own joins = record {
    own = joins.first (access_by (arg_in args a)) before.own;
    allows = λ b lt same. ⊎_elim
        (λ (e : b ≡ n). subst (λ k. Allows (access_of joined) (access_by (arg_in args k))) (sym e)
        (subst (λ x. Allows (access_of joined) x) own joins.second))
        (λ (ne : b ≡ n → ⊥). joins.first (access_by (arg_in args b)) (before.allows b (omega (arith, lt, ne)) same))
        (cases_eq b n);
    modified = λ ne. ⊎_elim
        (λ (m : access_of shared ≢ OpRead). before.modified m)
        (λ (m : access_of other ≢ OpRead). (n, there, is, subst (λ x. x ≢ OpRead) own m))
        (joins.modified ne);
  }
