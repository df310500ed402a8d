-- A run of a kernel on the values of its windows is one over any lists that hold the cells.
use Rattle.std.proofs.Common.{◌≡◌, ◌<◌, ◌+◌, ℕ, zero, suc, pos, true, List, [], ◌∷◌, map, length, get_or, refl, sym, ap, ◌∙◌, subst, FitsSigned, w32, arith}
use Rattle.std.specs.Prelude.{nat_eq, slice_index_or}
use Rattle.std.proofs.lemmas.Bool.{false≢true, eq-eqb, eqb-true, and_parts, and_from}
use Rattle.std.proofs.lemmas.List.{get_or-map, length-map}
use Rattle.kernel_model.specs.Meaning.{Target, target_at, cell, read_arg}
use Rattle.kernel_model.specs.Meaning as kernel
use Rattle.kernel_model.specs.Obeys.{Mode, mode_at}
use Rattle.kernel_model.specs.Independence.{Fits, store_after}
use Rattle.kernel_model.specs.Independence as law
use Rattle.schedule_model.specs.Cells.{Cell, Store, InRange}
use Rattle.schedule_model.specs.Arguments.{Argument, Entries, reaches}
use Rattle.schedule_model.specs.Layout.{of_core}
use Rattle.run_model.specs.ElementRun.{Held, IsUnreached, EndsAs}
use Rattle.run_model.specs.OnWindows.{no_cell, OnWindows, core_of}
use Rattle.run_model.proofs.element_runs.OnWindows.{found, missed}

-- the values of a list are in range where the store's are
pub values_in_range : (xs : List Cell) (s : Store) → InRange s → (j : ℕ) → FitsSigned w32 (get_or (map s xs) j (pos 0))
values_in_range [] s h j = record { sfits = omega arith }
values_in_range (x ∷ xs) s h zero = h x
values_in_range (x ∷ xs) s h (suc j) = values_in_range xs s h j

pub windows_in_range : (xs : List Cell) (s : Store) → InRange s → law.InRange (map s xs ∷ [])
windows_in_range xs s h zero j = values_in_range xs s h j
windows_in_range xs s h (suc x) j = record { sfits = omega arith }

module _ (entry : Entries) (dim width : ℕ → ℕ) (arg : ℕ → Argument) (n e : ℕ) (modes : List Mode) (cell_of : ℕ → ℕ → Cell)
    (cells : List Cell) (ts : List Target) (on : OnWindows modes cell_of cells ts) where
  -- an argument's component in arrays of which it names the first
  first_array : (l : kernel.Store) (a i : ℕ) → i < (mode_at modes a).dim → read_arg ts l a i ≡ get_or (slice_index_or l 0 []) ((target_at ts a).from + i) (pos 0)
  first_array l a i lt = ap (λ x. cell l x ((target_at ts a).from + i)) (on.arrays a i lt)

  counted : (a i : ℕ) → i < (target_at ts a).count → i < (mode_at modes a).dim
  counted a i lt = subst (λ c. i < c) (on.counts a) lt

  pub fit : (s : Store) → Fits ts (map s cells ∷ [])
  fit s = record {
    arrays = λ a i lt. let z : (target_at ts a).array ≡ 0 = on.arrays a i (counted a i lt) in subst (λ x. x < 1) (sym z) (omega arith);
    cells = λ a i lt.
        subst (λ x. (target_at ts a).from + i < length (slice_index_or (map s cells ∷ []) x [])) (sym (on.arrays a i (counted a i lt)))
        (subst (λ m. (target_at ts a).from + i < m) (sym (length-map cells s)) (on.inside a i (counted a i lt)));
  }

  pub hold : (s : Store) → Held entry dim width arg n e modes cell_of ts (map s cells ∷ []) s
  hold s = record {
    counts = on.counts;
    fits = fit s;
    aliases = λ a i b j lt mt. (
      (λ t.
          let x : (nat_eq (target_at ts a).array (target_at ts b).array ≡ true) × (nat_eq ((target_at ts a).from + i) ((target_at ts b).from + j) ≡ true) =
          and_parts (nat_eq (target_at ts a).array (target_at ts b).array) (nat_eq ((target_at ts a).from + i) ((target_at ts b).from + j)) t in
          sym (on.are a i lt) ∙ ap (λ m. get_or cells m no_cell) (eqb-true ((target_at ts a).from + i) ((target_at ts b).from + j) x.1) ∙ on.are b j mt),
      (λ t. and_from (nat_eq (target_at ts a).array (target_at ts b).array) (nat_eq ((target_at ts a).from + i) ((target_at ts b).from + j))
          (eq-eqb (target_at ts a).array (target_at ts b).array (on.arrays a i lt ∙ sym (on.arrays b j mt)))
          (eq-eqb ((target_at ts a).from + i) ((target_at ts b).from + j)
          (on.once ((target_at ts a).from + i) ((target_at ts b).from + j) (on.inside a i lt) (on.inside b j mt) (on.are a i lt ∙ t ∙ sym (on.are b j mt))))),
    );
    values = λ a i lt. first_array (map s cells ∷ []) a i lt ∙ get_or-map s cells ((target_at ts a).from + i) no_cell (pos 0) (on.inside a i lt) ∙ ap s (on.are a i lt);
  }

  -- each component is reached, and by an argument that is there
  module _ (is_arg : (a i : ℕ) → i < (mode_at modes a).dim → a < n)
      (reach : (a i : ℕ) → i < (mode_at modes a).dim → reaches entry dim width e (arg a) (cell_of a i) ≡ true) where
    not_there : (c : Cell) → IsUnreached entry dim width arg n e modes cell_of c → (j : ℕ) → j < length cells → get_or cells j no_cell ≡ c → ⊥
    not_there c none j lt at =
        let w : (a : ℕ) × (i : ℕ) × (i < (mode_at modes a).dim) × ((target_at ts a).from + i ≡ j) = on.covered j lt in
        let same : cell_of w.0 w.1 ≡ c = sym (on.are w.0 w.1 w.2) ∙ ap (λ m. get_or cells m no_cell) w.3 ∙ at in
        false≢true (sym (none w.0 (is_arg w.0 w.1 w.2)) ∙ subst (λ x. reaches entry dim width e (arg w.0) x ≡ true) same (reach w.0 w.1 w.2))

    pub end : (s : Store) (x : kernel.Ran) → length (slice_index_or (store_after x) 0 []) ≡ length cells
        → EndsAs entry dim width arg n e modes cell_of ts s x (of_core cells s (core_of x))
    end s (kernel.Finished m) len = (
      (λ a i lt.
          found cells (slice_index_or m 0 []) (cell_of a i) (s (cell_of a i)) ((target_at ts a).from + i) len on.once (on.inside a i lt) (on.are a i lt)
          ∙ sym (first_array m a i lt)),
      (λ c none. missed cells (slice_index_or m 0 []) c (s c) (not_there c none)),
    )
    end s (kernel.Stopped m f) len = refl
