-- The elements of a batch, which a kernel runs for one after another on a memory.
use Rattle.std.specs.Prelude.{◌≡◌, ℕ, zero, suc, ℤ, List, [], ◌∷◌, ◌++◌, length, take, drop}
use Rattle.kernel_model.specs.declared.types.kernels.RKernel.{RKernel}
use Rattle.kernel_model.specs.Meaning.{Target, Finished, kernel_meaning}
use Rattle.rank_state.specs.declared.scalars.Scalar.{Scalar}
use Rattle.rank_state.specs.Windows.{amounts}

module _ (k : RKernel) (consts behind : List ℤ) (scalars : List Scalar) where
  -- the kernel finishes for an element on the memory, behind which `behind` stands: the first values of scalars. The amounts that it
  -- leaves behind the memory are merged into the partials, which `before` has and then `merged`
  pub record RunsOne (targets : List Target) (old new before merged : List ℤ) : Type 0 where
    pub after : List ℤ
    pub ran : kernel_meaning targets consts k ((old ++ behind) ∷ []) ≡ Finished (after ∷ [])
    pub count : length after ≡ length (old ++ behind)
    pub cells : new ≡ take (length old) after
    pub partials : merged ≡ amounts scalars (drop (length old) after) before

  -- the kernel finishes for the first n elements, one after another; `targets l` are those of the element l
  unfoldable pub RowsRun : (targets : ℕ → List Target) → ℕ → (old new before merged : List ℤ) → Type 0
  RowsRun targets zero old new before merged = (new ≡ old) × (merged ≡ before)
  RowsRun targets (suc n) old new before merged =
      (between : List ℤ) × (halfway : List ℤ)
      × RowsRun targets n old between before halfway
      × RunsOne (targets n) between new halfway merged
