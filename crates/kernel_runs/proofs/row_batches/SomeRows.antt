-- No rows, rows one behind another, and those of a part of a list of places.
use Rattle.std.proofs.Common.{◌≡◌, ℕ, zero, suc, ℤ, ◌+◌, ◌<◌, ◌≤◌, ◌⊎◌, inl, inr, ⊎_elim, List, map, ap, sym, subst, arith}
use Rattle.std.specs.Prelude.{slice_index}
use Rattle.kernel_model.specs.declared.types.kernels.RKernel.{RKernel}
use Rattle.kernel_model.specs.declared.types.views.frame.Place.{Place}
use Rattle.kernel_model.specs.Framed.{target_of}
use Rattle.kernel_model.specs.Meaning.{Target, target_at}
use Rattle.kernel_model.specs.Obeys.{Mode}
use Rattle.kernel_model.specs.Independence.{access, dim}
use Rattle.rank_state.specs.declared.scalars.Scalar.{Scalar}
use Rattle.kernel_runs.specs.declared.row_batches.rows.RowLoop.{RowLoop}
use Rattle.kernel_runs.specs.RowLoops.{OnDat, OnVariable, in_frame, in_memory, column_cell, RunsInRows, NeverMeet, ReduceApart}
use Rattle.kernel_runs.specs.RowsRun.{RunsOne, RowsRun}

module _ (k : RKernel) (consts behind : List ℤ) (scalars : List Scalar) where
  -- no row
  pub no_rows : (targets : ℕ → List Target) (old new before merged : List ℤ) → new ≡ old → merged ≡ before → RowsRun k consts behind scalars targets 0 old new before merged
  unfolding RowsRun
  no_rows targets old new before merged cells partials = (cells, partials)

  -- n rows, and others behind them
  pub more_rows : (targets theirs : ℕ → List Target) (n m : ℕ) (old between new before halfway merged : List ℤ)
      → ((l : ℕ) → l < m → theirs l ≡ targets (n + l))
      → RowsRun k consts behind scalars targets n old between before halfway
      → RowsRun k consts behind scalars theirs m between new halfway merged
      → RowsRun k consts behind scalars targets (n + m) old new before merged
  unfolding RowsRun
  more_rows targets theirs n zero old between new before halfway merged same first second =
      let e : n ≡ n + 0 = omega arith in
      subst (λ j. RowsRun k consts behind scalars targets j old new before merged) e
      (subst (λ z. RowsRun k consts behind scalars targets n old z before merged) (sym second.0)
      (subst (λ z. RowsRun k consts behind scalars targets n old between before z) (sym second.1) first))
  more_rows targets theirs n (suc m) old between new before halfway merged same first second =
      let e : suc (n + m) ≡ n + suc m = omega arith in
      subst (λ j. RowsRun k consts behind scalars targets j old new before merged) e (
        second.0,
        second.1,
        more_rows targets theirs n m old between second.0 before halfway second.1 (λ l lt. same l (omega (arith, lt))) first second.2,
        subst (λ t. RunsOne k consts behind scalars t second.0 new second.1 merged) (same m (omega arith)) second.3,
      )

-- a batch of places that come one behind another in a list runs in rows where the list does
pub part_in_rows : (y : RowLoop) (cells : ℕ) (modes : List Mode) (stand : ℕ → List Place) (places batch : List ℕ) (n d m : ℕ)
    → d + m ≤ n → ((j : ℕ) → j < m → slice_index batch j ≡ slice_index places (d + j))
    → RunsInRows y cells modes stand places n → RunsInRows y cells modes stand batch m
part_in_rows y cells modes stand places batch n d m within same h =
    let wide : (l : ℕ) → l < m → d + l < n = λ l lt. omega (arith, lt, within) in
    record {
      obeys = h.obeys;
      frame_counts = h.frame_counts;
      counts = λ l a lt. subst (λ x. (target_at (map target_of (stand x)) a).count ≡ dim modes a) (sym (same l lt)) (h.counts (d + l) a (wide l lt));
      stands = λ l a i lt below.
          subst (λ x. OnDat y x (access modes a) (in_frame y cells modes stand batch a i) (in_memory y cells modes stand batch x a i)
          ⊎ OnVariable y cells (access modes a) (in_frame y cells modes stand batch a i) (in_memory y cells modes stand batch x a i))
          (sym (same l lt))
          (h.stands (d + l) a i (wide l lt) below);
      columns = h.columns;
      amounts = h.amounts;
      dims = h.dims;
      stored = h.stored;
      apart = λ c e c_lt e_lt ne changes. ⊎_elim
          (λ (never : NeverMeet y cells modes stand places n c e).
          inl (λ i l i_lt l_lt meet.
          never (d + i) (d + l) (wide i i_lt) (wide l l_lt)
          (subst (λ x. column_cell y x c ≡ column_cell y (slice_index places (d + l)) e) (same i i_lt) (subst (λ x. column_cell y (slice_index batch i) c ≡ column_cell y x e) (same l l_lt) meet))))
          (λ (r : ReduceApart y c e). inr r)
          (h.apart c e c_lt e_lt ne changes);
      alike = h.alike;
    }

-- the first places of a batch run in rows where all of them do
pub fewer : (y : RowLoop) (cells : ℕ) (modes : List Mode) (stand : ℕ → List Place) (batch : List ℕ) (n m : ℕ) → m ≤ n → RunsInRows y cells modes stand batch n → RunsInRows y cells modes stand batch m
fewer y cells modes stand batch n m le h =
    part_in_rows y cells modes stand batch batch n 0 m (omega (arith, le)) (λ j lt. let e : j ≡ 0 + j = omega arith in ap (slice_index batch) e) h
