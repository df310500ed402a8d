-- Batches that are put back one after another.
use Rattle.std.proofs.Common.{◌≡◌, ◌≢◌, ℕ, zero, suc, ℤ, ◌+◌, ◌*◌, ◌<◌, ◌≤◌, List, map, drop, length, get_or, sym, ap, ◌∙◌, subst, true, refl, arith}
use Rattle.std.specs.Prelude.{slice_index}
use Rattle.kernel_model.specs.declared.types.views.frame.Place.{Place}
use Rattle.kernel_model.specs.Framed.{target_of}
use Rattle.kernel_model.specs.Obeys.{Mode}
use Rattle.rank_state.specs.Windows.{firsts}
use Rattle.kernel_runs.specs.declared.row_batches.rows.RowLoop.{RowLoop}
use Rattle.kernel_runs.specs.Asides.{Modifies, ReadsFrom, NeverReadOthers, ReadsAlike, LeavesOthers}
use Rattle.kernel_runs.specs.Meeting.{AreDifferent}
use Rattle.kernel_runs.specs.RowLoops.{RunsInRows}
use Rattle.kernel_runs.specs.RowsRun.{RowsRun}
use Rattle.kernel_runs.specs.declared.worker_batches.room.BatchPart.{BatchPart}
use Rattle.kernel_runs.specs.Rounds.{RanBatch}
use Rattle.par_exec.specs.Parts.{TakesEach}
use Rattle.kernel_runs.proofs.worker_batches.Parts.{next_part}
use Rattle.kernel_runs.proofs.row_batches.SomeRows.{no_rows, more_rows, part_in_rows}

pub some_of : (n : ℕ) → (n ≡ 0 → ⊥) → 0 < n
some_of zero ne = absurd (ne refl)
some_of (suc n) ne = omega arith

-- the part at a number ran, and so did those behind it
pub part_of : (y : RowLoop) (old : List ℤ) (places : List ℕ) (parts : List BatchPart) (i : ℕ) (x : BatchPart) → x ≡ get_or parts i x → i < length parts
    → TakesEach (RanBatch y old places) i (drop i parts) → RanBatch y old places i x × TakesEach (RanBatch y old places) (i + 1) (drop (i + 1) parts)
part_of y old places parts i x is lt all =
    let both = next_part (RanBatch y old places) i parts x lt all in
    (subst (RanBatch y old places i) (sym is) both.0, both.1)

module _ (y : RowLoop) (old : List ℤ) (places : List ℕ) (i n : ℕ) (is : n ≡ i * 64) (x : BatchPart) (r : RanBatch y old places i x) where
  pub ends_within : n + x.ran ≤ length places
  ends_within = subst (λ k. k + x.ran ≤ length places) (sym is) r.within

  pub places_are : (j : ℕ) → j < x.ran → slice_index x.batch j ≡ slice_index places (n + j)
  places_are j lt = subst (λ k. slice_index x.batch j ≡ slice_index places (k + j)) (sym is) (r.are j lt)

module _ (y : RowLoop) (places : List ℕ) where
  -- the kernel ran for so many rows of a batch of these places
  abbrev pub Ran : (batch : List ℕ) (n : ℕ) (old new before merged : List ℤ) → Type 0
  Ran batch n old new before merged =
      (modes : List Mode) (stand : ℕ → List Place)
      → RunsInRows y (length old) modes stand batch n
      → RowsRun y.code.now.kernel.now y.constants.now (firsts y.variables.now y.scalars.now) y.scalars.now
      (λ l. map target_of (stand (slice_index batch l))) n old new before merged

  -- the batches of the first n places are put back
  pub record IsPut (n : ℕ) (old new before merged : List ℤ) : Type 0 where
    pub within : n ≤ length places
    pub cells : length new ≡ length old
    pub slots : length merged ≡ length before
    pub ran : (modes : List Mode) (stand : ℕ → List Place)
        → RunsInRows y (length old) modes stand places (length places)
        → RowsRun y.code.now.kernel.now y.constants.now (firsts y.variables.now y.scalars.now) y.scalars.now
        (λ l. map target_of (stand (slice_index places l))) n old new before merged
    pub others : LeavesOthers y places n old new

  -- none yet
  pub none_put : (old before : List ℤ) → IsPut 0 old old before before
  none_put old before = record {
    within = omega arith;
    cells = refl;
    slots = refl;
    ran = λ modes stand runs.
        no_rows y.code.now.kernel.now y.constants.now (firsts y.variables.now y.scalars.now) y.scalars.now
        (λ l. map target_of (stand (slice_index places l))) old old before before refl refl;
    others = λ k off. refl;
  }

  module _ (batch : List ℕ) (n m : ℕ) (within : n + m ≤ length places) (are : (j : ℕ) → j < m → slice_index batch j ≡ slice_index places (n + j)) where
    -- and another batch behind these
    pub put_more : (old between new before halfway merged : List ℤ)
        → IsPut n old between before halfway
        → length new ≡ length between → length merged ≡ length halfway
        → Ran batch m between new halfway merged → LeavesOthers y batch m between new
        → IsPut (n + m) old new before merged
    put_more old between new before halfway merged h cells slots ran others = record {
      within = within;
      cells = cells ∙ h.cells;
      slots = slots ∙ h.slots;
      ran = λ modes stand runs.
          more_rows y.code.now.kernel.now y.constants.now (firsts y.variables.now y.scalars.now) y.scalars.now
          (λ l. map target_of (stand (slice_index places l))) (λ l. map target_of (stand (slice_index batch l))) n m old between new before halfway merged
          (λ l lt. ap (λ x. map target_of (stand x)) (are l lt))
          (h.ran modes stand runs)
          (ran modes stand (subst (λ c. RunsInRows y c modes stand batch m) (sym h.cells) (part_in_rows y (length old) modes stand places batch (length places) n m within are runs)));
      others = λ k off.
          others k (λ j lt changes. off (n + j) (omega (arith, lt)) (subst (λ x. Modifies y x k) (are j lt) changes))
          ∙ h.others k (λ l lt. off l (omega (arith, lt)));
    }

    -- what another batch reads is as it was before these
    pub reads_alike : (old between before halfway : List ℤ) → IsPut n old between before halfway
        → NeverReadOthers y places (length places) → (y.differ ≡ true → AreDifferent (length places) places)
        → ReadsAlike y batch m old between
    reads_alike old between before halfway h apart differ j k j_lt reads =
        h.others k (λ l lt changes.
        let l_lt : l < length places = omega (arith, lt, within) in
        let k_lt : n + j < length places = omega (arith, j_lt, within) in
        let ne : l ≢ n + j = λ e. omega (arith, lt, e) in
        apart l (n + j) k l_lt k_lt (λ t. differ t l (n + j) l_lt k_lt ne) changes (subst (λ x. ReadsFrom y x k) (are j j_lt) reads))
