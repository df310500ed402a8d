-- Windows at places.
use Rattle.std.proofs.Common.{◌≡◌, ◌≢◌, ◌<◌, ◌≤◌, ◌+◌, ◌-◌, ℕ, zero, suc, ℤ, pos, Bool, true, false, cond, ◌⊎◌, inl, inr, ⊎_elim, List, [], ◌∷◌, ◌++◌, map, length, get_or, Option, Some, refl, sym, ap, subst, ◌∙◌, arith}
use Rattle.std.specs.Prelude.{slice_index_or, ◌||◌}
use Rattle.std.specs.List.{flat_map}
use Rattle.std.proofs.lemmas.Bool.{false≢true, cases_Bool, cond-true, cond-false, or_cases, or_left, or_right}
use Rattle.std.proofs.lemmas.List.{get_or-map, length-map, length-append, get_or_append_left, get_or-append-add, ext_get_or}
use Rattle.std.proofs.lemmas.List.FromFn.{get_or-map-range_with_len, length-map-range_with_len}
use Rattle.kernel_model.specs.declared.types.faults.KernelFault.{KernelFault}
use Rattle.kernel_model.specs.declared.types.kernels.RKernel.{RKernel}
use Rattle.kernel_model.specs.Meaning.{Target, no_target, target_at, kernel_meaning}
use Rattle.kernel_model.specs.Meaning as kernel
use Rattle.kernel_model.specs.Obeys.{mode_at}
use Rattle.kernel_model.specs.Independence.{Fits as InStore, store_after, ShapeStays}
use Rattle.kernel_model.specs.declared.types.views.frame.Place.{Place}
use Rattle.kernel_model.specs.Framed.{target_of, no_place, PlacesIn}
use Rattle.schedule_model.specs.Cells.{Cell, Store, same_cell}
use Rattle.schedule_model.specs.Tests.{same_cell_true, same_cell_refl}
use Rattle.schedule_model.specs.Layout.{lookup, among, of_core}
use Rattle.run_model.specs.OnWindows.{no_cell, core_of, OnWindows}
use Rattle.rank_state.specs.declared.spans.Span.{Span}
use Rattle.rank_state.specs.Spans.{Within, total, with_window, cells_at, gathered, scattered}
use Rattle.rank_state.specs.Core.{fault_of}
use Rattle.rank_state.specs.Frames.{pane_after, closed}
use Rattle.kernel_runs.specs.Standing.{stands_at, is_written, Apart}
use Rattle.kernel_runs.specs.InPlace.{NameTheSame, LeavesUnwritten}
use Rattle.kernel_runs.specs.Here.{IsHere, core_on_gathered}
use Rattle.kernel_runs.proofs.Public.{at, in_first, in_rest, by_span, gathered_length, gathered_at, first_written, rest_written}
use Rattle.kernel_runs.proofs.Public as standing
use Rattle.bound_program.specs.declared.sites.Arg.{Arg}
use Rattle.bound_program.specs.Values.{BoundValue, SiteValue}
use Rattle.run_model.specs.Windows.{Reached, reached, width, cell_in, cells_in, targets, windows, window_cells}
use Rattle.run_model.specs.Kernels.{kernel_at, constant_values, element_run, run_of}
use Rattle.run_model.specs.Arguments.{no_arg, arg_at, cell_of, modes_of}
use Rattle.run_model.specs.Laws.{WindowsAreReached}
use Rattle.run_model.proofs.Public.{is_argument}
use Rattle.deep_halo.specs.Placed.{place_span, place_spans, arg_place, arg_places, ArePlaced, HoldsWindows, EndsPlaced, PlacedElementsRun}

-- ---- cells among others

among_at : (xs : List Cell) (j : ℕ) → j < length xs → among xs (get_or xs j no_cell) ≡ true
among_at [] j lt = absurd (omega arith)
among_at (x ∷ xs) zero lt = or_left (same_cell x x) (among xs x) (same_cell_refl x)
among_at (x ∷ xs) (suc j) lt = or_right (same_cell x (get_or xs j no_cell)) (among xs (get_or xs j no_cell)) (among_at xs j (omega arith))

at_among : (xs : List Cell) (c : Cell) → among xs c ≡ true → (j : ℕ) × (j < length xs) × (get_or xs j no_cell ≡ c)
at_among [] c h = absurd (false≢true h)
at_among (x ∷ xs) c h = ⊎_elim
    (λ (e : same_cell x c ≡ true). (0, (let l : 0 < suc (length xs) = omega arith in l), same_cell_true x c e))
    (λ (e : among xs c ≡ true). let w = at_among xs c e in (suc w.0, (let l : suc w.0 < suc (length xs) = omega (arith, w.1) in l), w.2))
    (or_cases (same_cell x c) (among xs c) h)

-- no cell stands twice
abbrev Once : List Cell → Type 0
Once xs = (i j : ℕ) → i < length xs → j < length xs → get_or xs i no_cell ≡ get_or xs j no_cell → i ≡ j

lookup_at : (xs : List Cell) (ws : List ℤ) (d : ℤ) → length ws ≡ length xs → Once xs → (j : ℕ) → j < length xs → lookup xs ws (get_or xs j no_cell) d ≡ at ws j
lookup_at [] ws d long once j lt = absurd (omega arith)
lookup_at (x ∷ xs) [] d long once j lt = absurd (omega arith)
lookup_at (x ∷ xs) (w ∷ ws) d long once zero lt = cond-true (same_cell x x) w (lookup xs ws x d) (same_cell_refl x)
lookup_at (x ∷ xs) (w ∷ ws) d long once (suc j) lt = ⊎_elim
    (λ (e : same_cell x (get_or xs j no_cell) ≡ true).
    absurd (let z : 0 ≡ suc j = once 0 (suc j) (omega arith) lt (same_cell_true x (get_or xs j no_cell) e) in omega arith))
    (λ (e : same_cell x (get_or xs j no_cell) ≡ false).
    cond-false (same_cell x (get_or xs j no_cell)) w (lookup xs ws (get_or xs j no_cell) d) e
    ∙ lookup_at xs ws d (omega arith) (λ i k li lk same. (let z : suc i ≡ suc k = once (suc i) (suc k) (omega arith) (omega arith) same in omega arith)) j (omega arith))
    (cases_Bool (same_cell x (get_or xs j no_cell)))

lookup_off : (xs : List Cell) (ws : List ℤ) (c : Cell) (d : ℤ) → among xs c ≡ false → lookup xs ws c d ≡ d
lookup_off [] ws c d h = refl
lookup_off (x ∷ xs) [] c d h = refl
lookup_off (x ∷ xs) (w ∷ ws) c d h = ⊎_elim
    (λ (e : same_cell x c ≡ true). absurd (false≢true (sym h ∙ or_left (same_cell x c) (among xs c) e)))
    (λ (e : same_cell x c ≡ false). cond-false (same_cell x c) w (lookup xs ws c d) e ∙ lookup_off xs ws c d (sym (ap (λ z. z || among xs c) e) ∙ h))
    (cases_Bool (same_cell x c))

-- ---- written back

cell_from : (from dim : ℕ) (f : List ℤ) (j : ℕ) → j < dim → at (cells_at from dim f) j ≡ at f (from + j)
cell_from from dim f j lt = Rattle.std.proofs.lemmas.List.get_or-take dim (Rattle.std.proofs.Common.drop from f) j (pos 0) lt ∙ Rattle.std.proofs.lemmas.List.get_or-drop from f j (pos 0)

-- all spans are written
abbrev AllWritten : List Span → Type 0
AllWritten [] = Unit {0}
AllWritten (s ∷ ss) = (s.writes ≡ true) × AllWritten ss

module _ (f : List ℤ) where
  first_back : (s : Span) (from : ℕ) (m : List ℤ) → s.writes ≡ true → cond s.writes (with_window s.at (cells_at from s.dim f) m) m ≡ with_window s.at (cells_at from s.dim f) m
  first_back s from m w = cond-true s.writes (with_window s.at (cells_at from s.dim f) m) m w

  first_long : (s : Span) (from : ℕ) (m : List ℤ) → s.writes ≡ true → s.at + s.dim ≤ length m → from + s.dim ≤ length f
      → length (cond s.writes (with_window s.at (cells_at from s.dim f) m) m) ≡ length m
  first_long s from m w fit room =
      let e : length (cells_at from s.dim f) ≡ s.dim = standing.cells_length from s.dim f room in
      ap (length {A = ℤ}) (first_back s from m w) ∙ standing.window_length s.at (cells_at from s.dim f) m (omega arith)

  back_long : (ss : List Span) (from : ℕ) (m : List ℤ) → AllWritten ss → Within (length m) ss → from + total ss ≤ length f → length (scattered from f ss m) ≡ length m
  back_long [] from m w within room = refl
  back_long (s ∷ ss) from m w within room =
      let e : length (cond s.writes (with_window s.at (cells_at from s.dim f) m) m) ≡ length m = first_long s from m w.0 within.0 (omega arith) in
      back_long ss (from + s.dim) (cond s.writes (with_window s.at (cells_at from s.dim f) m) m) w.1 (subst (λ n. Within n ss) (sym e) within.1) (omega arith) ∙ e

  -- what no span has stays
  off_back : (ss : List Span) (from : ℕ) (m : List ℤ) → AllWritten ss → Within (length m) ss → from + total ss ≤ length f → (i : ℕ)
      → ((j : ℕ) → j < total ss → stands_at ss j ≡ i → ⊥) → at (scattered from f ss m) i ≡ at m i
  off_back [] from m w within room i off = refl
  off_back (s ∷ ss) from m w within room i off =
      let e : length (cond s.writes (with_window s.at (cells_at from s.dim f) m) m) ≡ length m = first_long s from m w.0 within.0 (omega arith) in
      let k : length (cells_at from s.dim f) ≡ s.dim = standing.cells_length from s.dim f (omega arith) in
      off_back ss (from + s.dim) (cond s.writes (with_window s.at (cells_at from s.dim f) m) m) w.1 (subst (λ n. Within n ss) (sym e) within.1) (omega arith) i
      (λ j lt q. off (s.dim + j) (omega arith) (in_rest s ss j ∙ q))
      ∙ (ap (λ z. at z i) (first_back s from m w.0)
      ∙ standing.by_window s.at s.dim (λ n. ((j : ℕ) → j < s.dim → stands_at (s ∷ ss) j ≡ n → ⊥) → at (with_window s.at (cells_at from s.dim f) m) n ≡ at m n) i
      (λ j lt h. absurd (h j lt (in_first s ss j lt)))
      (λ side h. standing.off_window s.at (cells_at from s.dim f) m (let fit : s.at + s.dim ≤ length m = within.0 in omega arith) i (subst (λ z. (i < s.at) ⊎ (s.at + z ≤ i)) (sym k) side))
      (λ j lt. off j (let z : s.dim ≤ s.dim + total ss = omega arith in omega arith)))

  -- what a span has is the list's, where no cell stands in two places
  on_back : (ss : List Span) (from : ℕ) (m : List ℤ) → AllWritten ss → Within (length m) ss → from + total ss ≤ length f → Apart ss → (j : ℕ) → j < total ss
      → at (scattered from f ss m) (stands_at ss j) ≡ at f (from + j)
  on_back [] from m w within room apart j lt = absurd (omega arith)
  on_back (s ∷ ss) from m w within room apart j lt =
      let e : length (cond s.writes (with_window s.at (cells_at from s.dim f) m) m) ≡ length m = first_long s from m w.0 within.0 (omega arith) in
      let k : length (cells_at from s.dim f) ≡ s.dim = standing.cells_length from s.dim f (omega arith) in
      let fit : s.at + s.dim ≤ length m = within.0 in
      by_span s ss (λ i. at (scattered (from + s.dim) f ss (cond s.writes (with_window s.at (cells_at from s.dim f) m) m)) (stands_at (s ∷ ss) i) ≡ at f (from + i)) j lt
      (λ i l.
      off_back ss (from + s.dim) (cond s.writes (with_window s.at (cells_at from s.dim f) m) m) w.1 (subst (λ n. Within n ss) (sym e) within.1) (omega arith) (stands_at (s ∷ ss) i)
      (λ n ln q. (let z : s.dim + n ≡ i = apart (s.dim + n) i (omega arith) (omega arith) (in_rest s ss n ∙ q) in omega arith))
      ∙ (ap (λ z. at z (stands_at (s ∷ ss) i)) (first_back s from m w.0)
      ∙ (ap (at (with_window s.at (cells_at from s.dim f) m)) (in_first s ss i l)
      ∙ (standing.in_window s.at (cells_at from s.dim f) m (omega arith) i (omega arith) ∙ cell_from from s.dim f i l))))
      (λ i l.
      let n : from + s.dim + i ≡ from + (s.dim + i) = omega arith in
      ap (at (scattered (from + s.dim) f ss (cond s.writes (with_window s.at (cells_at from s.dim f) m) m))) (in_rest s ss i)
      ∙ (on_back ss (from + s.dim) (cond s.writes (with_window s.at (cells_at from s.dim f) m) m) w.1 (subst (λ n. Within n ss) (sym e) within.1) (omega arith)
      (λ x y lx ly q. (let z : s.dim + x ≡ s.dim + y = apart (s.dim + x) (s.dim + y) (omega arith) (omega arith) (in_rest s ss x ∙ (q ∙ sym (in_rest s ss y))) in omega arith)) i l
      ∙ ap (at f) n))

-- ---- the spans of targets

module _ (b : BoundValue) (args : List Arg) (e : ℕ) (place : Cell → ℕ) (follow : (t : Reached) (i : ℕ) → place (cell_in t i) ≡ place (cell_in t 0) + i) where
  abbrev of_targets : List Reached → List Span
  of_targets ts = map (place_span b args e place) ts

  abbrev cells_of : List Reached → List Cell
  cells_of ts = flat_map (cells_in b) ts

  wide : (t : Reached) → length (cells_in b t) ≡ width b t
  wide t = length-map-range_with_len (cell_in t) 0 (width b t)

  cell_is : (t : Reached) (i : ℕ) → i < width b t → get_or (cells_in b t) i no_cell ≡ cell_in t i
  cell_is t i lt = let z : 0 + i ≡ i = omega arith in get_or-map-range_with_len (cell_in t) 0 (width b t) i i no_cell lt z

  spans_total : (ts : List Reached) → total (of_targets ts) ≡ length (cells_of ts)
  spans_total [] = refl
  spans_total (t ∷ ts) = omega (arith, spans_total ts, wide t, length-append (cells_in b t) (cells_of ts))

  spans_stand : (ts : List Reached) (j : ℕ) → j < total (of_targets ts) → stands_at (of_targets ts) j ≡ place (get_or (cells_of ts) j no_cell)
  spans_stand [] j lt = absurd (omega arith)
  spans_stand (t ∷ ts) j lt = by_span (place_span b args e place t) (of_targets ts) (λ n. stands_at (of_targets (t ∷ ts)) n ≡ place (get_or (cells_in b t ++ cells_of ts) n no_cell)) j lt
      (λ i l. in_first (place_span b args e place t) (of_targets ts) i l
      ∙ (sym (follow t i)
      ∙ ap place (sym (get_or_append_left (cells_in b t) (cells_of ts) no_cell i (let w : length (cells_in b t) ≡ width b t = wide t in omega arith) ∙ cell_is t i l))))
      (λ i l. in_rest (place_span b args e place t) (of_targets ts) i
      ∙ (spans_stand ts i l
      ∙ ap place (sym (ap (λ n. get_or (cells_in b t ++ cells_of ts) (n + i) no_cell) (sym (wide t)) ∙ get_or-append-add (cells_in b t) (cells_of ts) i no_cell))))

  all_written : (ts : List Reached) → AllWritten (of_targets ts)
  all_written [] = tt
  all_written (t ∷ ts) = (refl, all_written ts)

  each_written : (ts : List Reached) (j : ℕ) → j < total (of_targets ts) → is_written (of_targets ts) j ≡ true
  each_written [] j lt = absurd (omega arith)
  each_written (t ∷ ts) j lt = by_span (place_span b args e place t) (of_targets ts) (λ n. is_written (of_targets (t ∷ ts)) n ≡ true) j lt
      (λ i l. first_written (place_span b args e place t) (of_targets ts) i l)
      (λ i l. rest_written (place_span b args e place t) (of_targets ts) i ∙ each_written ts i l)

  all_within : (n : ℕ) (ts : List Reached) → ((t : Reached) → Rattle.run_model.proofs.Public.Member ts t → place (cell_in t 0) + width b t ≤ n) → Within n (of_targets ts)
  all_within n [] h = tt
  all_within n (t ∷ ts) h = (h t (inl refl), all_within n ts (λ u m. h u (inr m)))

-- ---- a run in place

module _ (b : BoundValue) (site : SiteValue) (e : ℕ) (k : RKernel) (consts : List ℤ) (place : Cell → ℕ) (n : ℕ) (marks : List Bool)
    (known : kernel_at b.kernels site.kernel ≡ Some k) (placed : ArePlaced b site.args e place n) (marked : (a : ℕ) → a < length site.args → get_or marks a false ≡ true)
    (reach : OnWindows (modes_of b site) (cell_of b site e) (window_cells b site.args e) (windows b site.args e)) where
  abbrev cells : List Cell
  cells = window_cells b site.args e

  abbrev ts : List Target
  ts = windows b site.args e

  abbrev ss : List Span
  ss = place_spans b site.args e place

  abbrev us : List Target
  us = map target_of (arg_places b site.args e place)

  long : total ss ≡ length cells
  long = spans_total b site.args e place placed.follow (targets b site.args e)

  stand : (j : ℕ) → j < total ss → stands_at ss j ≡ place (get_or cells j no_cell)
  stand j lt = spans_stand b site.args e place placed.follow (targets b site.args e) j lt

  in_cells : (j : ℕ) → j < total ss → j < length cells
  in_cells j lt = subst (λ m. j < m) long lt

  within : Within n ss
  within = all_within b site.args e place placed.follow n (targets b site.args e)
      (λ t m. (let w = Rattle.run_model.proofs.Public.by_one (reached b e) site.args t (Rattle.run_model.proofs.Public.of_different t (map (reached b e) site.args) m) in
      subst (λ u. place (cell_in u 0) + width b u ≤ n) w.2 (placed.within w.0 no_arg w.1)))

  apart : Apart ss
  apart i j li lj same = reach.once i j (in_cells i li) (in_cells j lj)
      (placed.apart (get_or cells i no_cell) (get_or cells j no_cell) (among_at cells i (in_cells i li)) (among_at cells j (in_cells j lj))
      (sym (stand i li) ∙ (same ∙ stand j lj)))

  counted : (xs : List Arg) (a : ℕ) →
      (target_at (map (λ x. Rattle.run_model.specs.Windows.window_of b (targets b site.args e) (reached b e x)) xs) a).count ≡
      (target_at (map target_of (map (arg_place b site.args e place) xs)) a).count
  counted [] a = refl
  counted (x ∷ xs) zero = refl
  counted (x ∷ xs) (suc a) = counted xs a

  windows_first : (xs : List Arg) (a : ℕ) → (target_at (map (λ x. Rattle.run_model.specs.Windows.window_of b (targets b site.args e) (reached b e x)) xs) a).array ≡ 0
  windows_first [] a = refl
  windows_first (x ∷ xs) zero = refl
  windows_first (x ∷ xs) (suc a) = windows_first xs a

  memory_first : (xs : List Arg) (a : ℕ) → (target_at (map target_of (map (arg_place b site.args e place) xs)) a).array ≡ 0
  memory_first [] a = refl
  memory_first (x ∷ xs) zero = refl
  memory_first (x ∷ xs) (suc a) = memory_first xs a

  from_is : (a : ℕ) → a < length site.args → (target_at us a).from ≡ place (cell_in (reached b e (arg_at site a)) 0)
  from_is a lt =
      let l : a < length (arg_places b site.args e place) = omega (arith, length-map site.args (arg_place b site.args e place)) in
      ap (λ (t : Target). t.from) (get_or-map target_of (arg_places b site.args e place) a no_place no_target l)
      ∙ ap (λ (p : Place). p.from) (get_or-map (arg_place b site.args e place) site.args a no_arg no_place lt)

  in_dim : (a i : ℕ) → i < (target_at ts a).count → i < (mode_at (modes_of b site) a).dim
  in_dim a i lt = subst (λ m. i < m) (reach.counts a) lt

  inside : (a i : ℕ) → i < (target_at ts a).count → (target_at ts a).from + i < total ss
  inside a i lt = subst (λ m. (target_at ts a).from + i < m) (sym long) (reach.inside a i (in_dim a i lt))

  name_same : NameTheSame ss ts us
  name_same = record {
    counts = counted site.args;
    in_windows = windows_first site.args;
    in_memory = memory_first site.args;
    inside = inside;
    cells = λ a i lt.
        stand ((target_at ts a).from + i) (inside a i lt)
        ∙ (ap place (reach.are a i (in_dim a i lt))
        ∙ (placed.follow (reached b e (arg_at site a)) i
        ∙ ap (λ z. z + i) (sym (from_is a (is_argument b site a i (in_dim a i lt))))));
  }

  leaves : LeavesUnwritten ss ts consts k
  leaves ws j wide lt un = absurd (false≢true (sym un ∙ each_written b site.args e place placed.follow (targets b site.args e) j lt))

  fits : PlacesIn n (arg_places b site.args e place)
  fits a lt =
      let l : a < length site.args = omega (arith, length-map site.args (arg_place b site.args e place)) in
      subst (λ (p : Place). p.from + p.count ≤ n) (sym (get_or-map (arg_place b site.args e place) site.args a no_arg no_place l)) (placed.within a no_arg l)

  here : IsHere k consts n (arg_places b site.args e place) marks ss ts
  here = record {
    within = within;
    apart = apart;
    same = name_same;
    leaves = leaves;
    marked = λ a i lt w. marked a (is_argument b site a i (in_dim a i lt));
  }

  module _ (shape : ShapeStays) (old : List ℤ) (s : Store) (size : length old ≡ n) (holds : HoldsWindows b site.args e place old s) where
    in_old : Within (length old) ss
    in_old = subst (λ m. Within m ss) (sym size) within

    gathered_is : gathered old ss ≡ map s cells
    gathered_is = ext_get_or (pos 0) (gathered old ss) (map s cells) (gathered_length old ss in_old ∙ (long ∙ sym (length-map cells s)))
        (λ i lt.
        let l : i < total ss = omega (arith, gathered_length old ss in_old) in
        gathered_at old ss in_old i l
        ∙ (ap (at old) (stand i l)
        ∙ (holds (get_or cells i no_cell) (among_at cells i (in_cells i l))
        ∙ sym (get_or-map s cells i no_cell (pos 0) (in_cells i l)))))

    in_store : InStore ts (gathered old ss ∷ [])
    in_store = record {
      arrays = λ a i lt. subst (λ x. x < 1) (sym (windows_first site.args a)) (omega arith);
      cells = λ a i lt.
          subst (λ x. (target_at ts a).from + i < length (slice_index_or (gathered old ss ∷ []) x [])) (sym (windows_first site.args a))
          (let q : length (gathered old ss) ≡ total ss = gathered_length old ss in_old in omega (arith, inside a i lt));
    }

    left_long : length (slice_index_or (store_after (kernel_meaning ts consts k (gathered old ss ∷ []))) 0 []) ≡ length cells
    left_long = (shape k ts consts (gathered old ss ∷ []) in_store).1 0 ∙ (gathered_length old ss in_old ∙ long)

    close : (new : List ℤ) (fault : Option KernelFault) (item : ℕ) (y : kernel.Ran) → length (slice_index_or (store_after y) 0 []) ≡ length cells
        → fault ≡ fault_of (core_of y) → new ≡ closed ss (pane_after item (core_of y)) old → EndsPlaced b site.args e place old new s fault (of_core cells s (core_of y))
    close new fault item (kernel.Stopped l f) many bad is = (bad, is)
    close new fault item (kernel.Finished l) many bad is =
        let w : AllWritten ss = all_written b site.args e place placed.follow (targets b site.args e) in
        let room : 0 + total ss ≤ length (slice_index_or l 0 []) = omega (arith, long) in (
          bad,
          record {
            count = ap (length {A = ℤ}) is ∙ back_long (slice_index_or l 0 []) ss 0 old w in_old room;
            cells = λ c h.
                let a = at_among cells c h in
                let lt : a.0 < total ss = subst (λ m. a.0 < m) (sym long) a.1 in
                let p : place c ≡ stands_at ss a.0 = ap place (sym a.2) ∙ sym (stand a.0 lt) in
                let q : 0 + a.0 ≡ a.0 = omega arith in
                ap (λ z. at z (place c)) is
                ∙ (ap (at (scattered 0 (slice_index_or l 0 []) ss old)) p
                ∙ (on_back (slice_index_or l 0 []) ss 0 old w in_old room apart a.0 lt
                ∙ (ap (at (slice_index_or l 0 [])) q
                ∙ (sym (lookup_at cells (slice_index_or l 0 []) (s c) many reach.once a.0 a.1)
                ∙ ap (λ z. lookup cells (slice_index_or l 0 []) z (s c)) a.2))));
            others = λ i off.
                ap (λ z. at z i) is
                ∙ off_back (slice_index_or l 0 []) ss 0 old w in_old room i
                (λ j lt q. off (get_or cells j no_cell) (among_at cells j (in_cells j lt)) (sym (stand j lt) ∙ q));
            stay = λ c h. lookup_off cells (slice_index_or l 0 []) c (s c) h;
          },
        )

    run_is : consts ≡ constant_values b s → element_run b site e s ≡ of_core cells s (core_of (kernel_meaning ts consts k (gathered old ss ∷ [])))
    run_is same =
        ap (λ x. run_of b x site e s) known
        ∙ (ap (λ cs. of_core cells s (core_of (kernel_meaning ts cs k (map s cells ∷ [])))) (sym same)
        ∙ ap (λ (g : List ℤ). of_core cells s (core_of (kernel_meaning ts consts k (g ∷ [])))) (sym gathered_is))

    ends : (new : List ℤ) (fault : Option KernelFault) (item : ℕ) → consts ≡ constant_values b s
        → fault ≡ fault_of (core_on_gathered k consts old ss ts) → new ≡ closed ss (pane_after item (core_on_gathered k consts old ss ts)) old
        → EndsPlaced b site.args e place old new s fault (element_run b site e s)
    ends new fault item same bad is =
        subst (EndsPlaced b site.args e place old new s fault) (sym (run_is same)) (close new fault item (kernel_meaning ts consts k (gathered old ss ∷ [])) left_long bad is)

pub placed_elements_run : WindowsAreReached → ShapeStays → PlacedElementsRun
placed_elements_run windows shape b site e k consts place n marks known placed marked =
    let reach = windows b site e in
    record {
      fits = fits b site e k consts place n marks known placed marked reach;
      here = here b site e k consts place n marks known placed marked reach;
      ends = λ old new s fault item size holds same bad is.
          ends b site e k consts place n marks known placed marked reach shape old s size holds new fault item same bad is;
    }
