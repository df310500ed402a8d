-- The run of a kernel for one element is that of its meaning on the windows' values.
use Rattle.std.proofs.Common.{◌≡◌, ◌<◌, ◌+◌, ℕ, zero, suc, ℤ, pos, Bool, true, false, List, [], ◌∷◌, map, length, get_or, refl, sym, ap, ◌∙◌, subst, ⊎_elim, arith}
use Rattle.std.specs.Prelude.{nat_eq, slice_index_or}
use Rattle.std.proofs.lemmas.Bool.{cases_Bool, false≢true, eq-eqb, eqb-true, and_parts, cond-true, cond-false, and_from}
use Rattle.kernel_model.specs.declared.types.faults.KernelFault.{KernelFault}
use Rattle.kernel_model.specs.declared.types.kernels.RKernel.{RKernel}
use Rattle.kernel_model.specs.Meaning.{Target, target_at, cell, read_arg, kernel_meaning}
use Rattle.kernel_model.specs.Meaning as kernel
use Rattle.kernel_model.specs.Obeys.{Mode, mode_at}
use Rattle.kernel_model.specs.Independence.{Fits, store_after, ShapeStays}
use Rattle.schedule_model.specs.Cells.{Cell, Store, same_cell as one_cell}
use Rattle.schedule_model.specs.Tests.{same_cell_refl, same_cell_true}
use Rattle.schedule_model.specs.Effects.{Ran, Faulted, Finished}
use Rattle.schedule_model.specs.Arguments.{Argument, Entries, reaches}
use Rattle.schedule_model.specs.Layout.{lookup, of_core}
use Rattle.run_model.specs.ElementRun.{Held, IsUnreached, EndsAs, IsElementRun, AnyListsServe}
use Rattle.run_model.specs.OnWindows.{no_cell, OnWindows, core_of, ElementRunsOnWindows}
use Rattle.run_model.proofs.element_runs.Reached.{search_for, is_argument}

-- ---- lists
map_at : (f : Cell → ℤ) (xs : List Cell) (j : ℕ) → j < length xs → get_or (map f xs) j (pos 0) ≡ f (get_or xs j no_cell)
map_at f [] j lt = absurd (omega arith)
map_at f (x ∷ xs) zero lt = refl
map_at f (x ∷ xs) (suc j) lt = map_at f xs j (omega arith)

map_long : (f : Cell → ℤ) (xs : List Cell) → length (map f xs) ≡ length xs
map_long f [] = refl
map_long f (x ∷ xs) = ap suc (map_long f xs)

-- the value of a cell that stands once in the list
pub found : (xs : List Cell) (ws : List ℤ) (c : Cell) (d : ℤ) (j : ℕ) → length ws ≡ length xs → ((i k : ℕ) → i < length xs → k < length xs → get_or xs i no_cell ≡ get_or xs k no_cell → i ≡ k)
    → j < length xs → get_or xs j no_cell ≡ c → lookup xs ws c d ≡ get_or ws j (pos 0)
found [] ws c d j len once lt at = absurd (omega arith)
found (x ∷ xs) [] c d j len once lt at = absurd (omega arith)
found (x ∷ xs) (w ∷ ws) c d zero len once lt at = cond-true (one_cell x c) w (lookup xs ws c d) (subst (λ z. one_cell x z ≡ true) at (same_cell_refl x))
found (x ∷ xs) (w ∷ ws) c d (suc j) len once lt at = ⊎_elim
    (λ (t : one_cell x c ≡ true). absurd (let e : 0 ≡ suc j = once 0 (suc j) (omega arith) lt (same_cell_true x c t ∙ sym at) in omega arith))
    (λ (t : one_cell x c ≡ false).
    cond-false (one_cell x c) w (lookup xs ws c d) t
    ∙ found xs ws c d j (omega arith) (λ i k li lk e. let s : suc i ≡ suc k = once (suc i) (suc k) (omega arith) (omega arith) e in omega arith) (omega arith) at)
    (cases_Bool (one_cell x c))

-- a cell that isn't in the list
pub missed : (xs : List Cell) (ws : List ℤ) (c : Cell) (d : ℤ) → ((j : ℕ) → j < length xs → get_or xs j no_cell ≡ c → ⊥) → lookup xs ws c d ≡ d
missed [] ws c d absent = refl
missed (x ∷ xs) [] c d absent = refl
missed (x ∷ xs) (w ∷ ws) c d absent = ⊎_elim
    (λ (t : one_cell x c ≡ true). absurd (absent 0 (omega arith) (same_cell_true x c t)))
    (λ (t : one_cell x c ≡ false). cond-false (one_cell x c) w (lookup xs ws c d) t ∙ missed xs ws c d (λ j lt e. absent (suc j) (omega arith) e))
    (cases_Bool (one_cell x c))

module _ (entry : Entries) (dim width : ℕ → ℕ) (arg : ℕ → Argument) (n e : ℕ) (modes : List Mode) (cell_of : ℕ → ℕ → Cell) (k : RKernel)
    (is_constant : Cell → Bool) (run : Store → Ran KernelFault) (h : IsElementRun entry dim width arg n e modes cell_of k is_constant run)
    (cells : List Cell) (ts : List Target) (on : OnWindows modes cell_of cells ts) (s : Store) where
  abbrev windows : kernel.Store
  windows = map s cells ∷ []

  -- an argument's component in arrays of which it names the first
  first_array : (l : kernel.Store) (a i : ℕ) → i < (mode_at modes a).dim → read_arg ts l a i ≡ get_or (slice_index_or l 0 []) ((target_at ts a).from + i) (pos 0)
  first_array l a i lt = ap (λ x. cell l x ((target_at ts a).from + i)) (on.arrays a i lt)

  fits : Fits ts windows
  fits = record {
    arrays = λ a i lt. let z : (target_at ts a).array ≡ 0 = on.arrays a i (counted a i lt) in subst (λ x. x < 1) (sym z) (omega arith);
    cells = λ a i lt.
        subst (λ x. (target_at ts a).from + i < length (slice_index_or windows x [])) (sym (on.arrays a i (counted a i lt)))
        (subst (λ m. (target_at ts a).from + i < m) (sym (map_long s cells)) (on.inside a i (counted a i lt)));
  }
    where
      counted : (a i : ℕ) → i < (target_at ts a).count → i < (mode_at modes a).dim
      counted a i lt = subst (λ c. i < c) (on.counts a) lt

  held : Held entry dim width arg n e modes cell_of ts windows s
  held = record {
    counts = on.counts;
    fits = fits;
    aliases = λ a i b j lt mt. (
      (λ t.
          let x : (nat_eq (target_at ts a).array (target_at ts b).array ≡ true) × (nat_eq ((target_at ts a).from + i) ((target_at ts b).from + j) ≡ true) =
          and_parts (nat_eq (target_at ts a).array (target_at ts b).array) (nat_eq ((target_at ts a).from + i) ((target_at ts b).from + j)) t in
          sym (on.are a i lt) ∙ ap (λ m. get_or cells m no_cell) (eqb-true ((target_at ts a).from + i) ((target_at ts b).from + j) x.1) ∙ on.are b j mt),
      (λ t. and_from (nat_eq (target_at ts a).array (target_at ts b).array) (nat_eq ((target_at ts a).from + i) ((target_at ts b).from + j))
          (eq-eqb (target_at ts a).array (target_at ts b).array (on.arrays a i lt ∙ sym (on.arrays b j mt)))
          (eq-eqb ((target_at ts a).from + i) ((target_at ts b).from + j)
          (on.once ((target_at ts a).from + i) ((target_at ts b).from + j) (on.inside a i lt) (on.inside b j mt)
          (on.are a i lt ∙ t ∙ sym (on.are b j mt))))),
    );
    values = λ a i lt. first_array windows a i lt ∙ map_at s cells ((target_at ts a).from + i) (on.inside a i lt) ∙ ap s (on.are a i lt);
  }

  -- the list has no cell that nothing reaches
  not_there : (c : Cell) → IsUnreached entry dim width arg n e modes cell_of c → (j : ℕ) → j < length cells → get_or cells j no_cell ≡ c → ⊥
  not_there c none j lt at =
      let w : (a : ℕ) × (i : ℕ) × (i < (mode_at modes a).dim) × ((target_at ts a).from + i ≡ j) = on.covered j lt in
      let same : cell_of w.0 w.1 ≡ c = sym (on.are w.0 w.1 w.2) ∙ ap (λ m. get_or cells m no_cell) w.3 ∙ at in
      false≢true (sym (none w.0 (is_argument modes n h.count w.0 w.1 w.2)) ∙ subst (λ x. reaches entry dim width e (arg w.0) x ≡ true) same (h.reach w.0 w.1 w.2))

  by_meaning : (x : kernel.Ran) (q : Ran KernelFault) → length (slice_index_or (store_after x) 0 []) ≡ length cells
      → EndsAs entry dim width arg n e modes cell_of ts s x q → q ≡ of_core cells s (core_of x)
  by_meaning (kernel.Finished m) (Finished t) len ends = ap Finished (λ i c. equal c i)
    where
      equal : (c : Cell) → t c ≡ lookup cells (slice_index_or m 0 []) c (s c)
      equal c = ⊎_elim
          (λ r.
          let w : (i : ℕ) × (i < (mode_at modes r.0).dim) × (c ≡ cell_of r.0 i) = h.reached r.0 c r.1 r.2 in
          ap t w.2 ∙ ends.0 r.0 w.0 w.1 ∙ first_array m r.0 w.0 w.1
          ∙ sym (found cells (slice_index_or m 0 []) c (s c) ((target_at ts r.0).from + w.0) len on.once (on.inside r.0 w.0 w.1) (on.are r.0 w.0 w.1 ∙ sym w.2)))
          (λ none. ends.1 c none ∙ sym (missed cells (slice_index_or m 0 []) c (s c) (not_there c none)))
          (search_for (λ a. reaches entry dim width e (arg a) c) n)
  by_meaning (kernel.Stopped m f) (Faulted g) len ends = ap Faulted (sym ends)
  by_meaning (kernel.Finished m) (Faulted g) len ends = absurd ends
  by_meaning (kernel.Stopped m f) (Finished t) len ends = absurd ends

pub on_windows : AnyListsServe → ShapeStays → ElementRunsOnWindows
on_windows serve shape entry dim width arg n e modes cell_of k is_constant run h cells ts on s =
    by_meaning entry dim width arg n e modes cell_of k is_constant run h cells ts on s (kernel_meaning ts (h.consts s) k (map s cells ∷ [])) (run s)
    ((shape k ts (h.consts s) (map s cells ∷ []) (fits entry dim width arg n e modes cell_of k is_constant run h cells ts on s)).1 0 ∙ map_long s cells)
    (serve entry dim width arg n e modes cell_of k is_constant run h s ts (map s cells ∷ []) (held entry dim width arg n e modes cell_of k is_constant run h cells ts on s))
