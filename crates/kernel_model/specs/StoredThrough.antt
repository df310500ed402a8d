-- Through which arguments the text of a kernel stores, and that cells of others stay.
use Rattle.std.specs.Prelude.{◌≡◌, ℕ, ℤ, ◌+◌, ◌<◌, List, Bool, false, ◌||◌, nat_eq}
use Rattle.kernel_model.specs.declared.types.statements.RStmt.{RStmt, Block', Declare, SetScalar, SetLocal, SetArg, If', For', Row_of-RStmt, end_of-RStmt, more_of-RStmt}
use Rattle.kernel_model.specs.declared.types.kernels.RKernel.{RKernel}
use Rattle.kernel_model.specs.Meaning.{Store, cell, Target, target_at, kernel_meaning}
use Rattle.kernel_model.specs.Independence.{Fits, store_after}

abbrev mutual
  -- the argument is the target of an assignment somewhere in the statement, in either branch of an `if` or the body of a `for`
  pub stores_through : ℕ → RStmt → Bool
  stores_through a (Block' shape all) = row_stores_through a all
  stores_through a (Declare from count) = false
  stores_through a (SetScalar k op opat e) = false
  stores_through a (SetLocal from count form ix at op opat e) = false
  stores_through a (SetArg b form ix at op opat e) = nat_eq b a
  stores_through a (If' e p x q y) = stores_through a x || stores_through a y
  stores_through a (For' k first past p body) = stores_through a body

  -- in one of the statements of a block
  pub row_stores_through : {m : _} → ℕ → Row_of-RStmt m → Bool
  row_stores_through a end_of-RStmt = false
  row_stores_through a (more_of-RStmt first rest) = stores_through a first || row_stores_through a rest

-- through no argument that reaches the cell does the kernel's text store
abbrev pub Unstored : RKernel → List Target → ℕ → ℕ → Type 0
Unstored k ts x j =
    (a i : ℕ)
    → i < (target_at ts a).count
    → (target_at ts a).array ≡ x
    → (target_at ts a).from + i ≡ j
    → stores_through a k.body.statement ≡ false

-- a cell that is reached only by arguments through which the kernel's text stores nothing, or by none, stays, after a fault too
abbrev pub UnstoredStay : Type 0
UnstoredStay =
    (k : RKernel) (ts : List Target) (consts : List ℤ) (s : Store) (x j : ℕ)
    → Fits ts s
    → Unstored k ts x j
    → cell (store_after (kernel_meaning ts consts k s)) x j ≡ cell s x j
