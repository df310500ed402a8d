-- A kernel's run on a memory's own cells, and the run on the windows that spans gather from it.
use Rattle.std.specs.Prelude.{◌≡◌, ◌<◌, ◌+◌, ℕ, ℤ, pos, false, List, [], ◌∷◌, length, get_or, slice_index_or}
use Rattle.kernel_model.specs.declared.types.kernels.RKernel.{RKernel}
use Rattle.kernel_model.specs.Meaning.{cell, Target, target_at, Ran, Finished, Stopped, kernel_meaning}
use Rattle.kernel_model.specs.Independence.{store_after}
use Rattle.rank_state.specs.declared.spans.Span.{Span}
use Rattle.rank_state.specs.Spans.{Within, total, gathered, scattered}
use Rattle.kernel_runs.specs.Standing.{stands_at, is_written, Apart}

-- whatever the windows hold, the kernel leaves the cells of spans that aren't written, after a fault too
abbrev pub LeavesUnwritten : List Span → List Target → List ℤ → RKernel → Type 0
LeavesUnwritten spans ts consts k =
    (ws : List ℤ) (j : ℕ)
    → length ws ≡ total spans → j < total spans → is_written spans j ≡ false
    → cell (store_after (kernel_meaning ts consts k (ws ∷ []))) 0 j ≡ get_or ws j (pos 0)

-- the arguments' targets in the windows, and in the memory
module _ (spans : List Span) (windows memory : List Target) where
  -- both name the same cells, the windows one by one and the memory where the spans stand
  pub record NameTheSame : Type 0 where
    pub counts : (a : ℕ) → (target_at windows a).count ≡ (target_at memory a).count
    pub in_windows : (a : ℕ) → (target_at windows a).array ≡ 0
    pub in_memory : (a : ℕ) → (target_at memory a).array ≡ 0
    pub inside : (a i : ℕ) → i < (target_at windows a).count → (target_at windows a).from + i < total spans
    pub cells : (a i : ℕ)
        → i < (target_at windows a).count
        → stands_at spans ((target_at windows a).from + i) ≡ (target_at memory a).from + i

  -- no argument in a written span reaches the memory's cell
  abbrev pub IsSpared : ℕ → Type 0
  IsSpared i =
      (a n : ℕ)
      → n < (target_at windows a).count → (target_at memory a).from + n ≡ i → is_written spans ((target_at windows a).from + n) ≡ false

  -- the memory has its length still, and its cells but for those that arguments in written spans reach
  pub record AreSpared (old new : List ℤ) : Type 0 where
    pub count : length new ≡ length old
    pub cells : (i : ℕ) → IsSpared i → get_or new i (pos 0) ≡ get_or old i (pos 0)

  -- how a run on the memory ends, where that on the windows ends so
  abbrev pub EndsInPlace : List ℤ → (in_memory in_windows : Ran) → Type 0
  EndsInPlace m (Finished s) (Finished t) = s ≡ scattered 0 (slice_index_or t 0 []) spans m ∷ []
  EndsInPlace m (Stopped s f) (Stopped t g) = (f ≡ g) × AreSpared m (slice_index_or s 0 [])
  EndsInPlace m (Finished s) (Stopped t g) = ⊥
  EndsInPlace m (Stopped s f) (Finished t) = ⊥

-- the run on the memory ends as that on the windows does
abbrev pub RunsInPlace : Type 0
RunsInPlace =
    (k : RKernel) (consts m : List ℤ) (spans : List Span) (ts us : List Target)
    → Within (length m) spans → Apart spans → NameTheSame spans ts us → LeavesUnwritten spans ts consts k
    → EndsInPlace spans ts us m (kernel_meaning us consts k (m ∷ [])) (kernel_meaning ts consts k (gathered m spans ∷ []))
