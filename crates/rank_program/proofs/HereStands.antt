-- The arguments of a loop stand in a rank's buffer as their windows do among those that the element's spans gather.
use Rattle.std.proofs.Common.{◌≡◌, ◌<◌, ◌≤◌, ◌+◌, ℕ, zero, suc, Bool, true, false, not, List, [], ◌∷◌, ◌++◌, All, map, length, get_or, refl, sym, ap, ◌∙◌, subst, ⊎_elim, arith}
use Rattle.std.specs.Prelude.{nat_eq}
use Rattle.std.specs.List.{list_all}
use Rattle.std.proofs.lemmas.Bool.{cases_lt, false≢true, eq-eqb, or_cases, not-false, not_from_true}
use Rattle.std.proofs.lemmas.List.{get_or-map, get_or_past, get_or_append_left, get_or-append-add, length-map, length-append}
use Rattle.op_num.specs.Access.{OpRead, access_of}
use Rattle.op_num.specs.declared.reductions.access.Access.{Access as Code}
use Rattle.op_num.specs.declared.reductions.access.Access.TheVariants.{Read, Write, Rw, Inc, Min, Max}
use Rattle.kernel_model.specs.Meaning.{Target, no_target, target_at}
use Rattle.kernel_model.specs.Obeys.{Mode, mode_at, no_mode}
use Rattle.kernel_model.specs.declared.types.views.frame.Place.{Place}
use Rattle.kernel_model.specs.Framed.{target_of}
use Rattle.schedule_model.specs.Cells.{Cell, Data, Variable}
use Rattle.run_model.specs.OnWindows.{no_cell, OnWindows}
use Rattle.bound_program.specs.declared.sites.Arg.{Arg}
use Rattle.bound_program.specs.declared.sites.Arg.TheVariants.{Dat, Global}
use Rattle.bound_program.specs.Values.{BoundValue, SiteValue}
use Rattle.bound_program.specs.Classes.{is_read, passes, all_on, modifies}
use Rattle.run_model.specs.Windows.{reached, cell_in, window_of, targets}
use Rattle.run_model.specs.Arguments.{no_arg, arg_at, arg_width, mode_of, modes_of, cell_of}
use Rattle.run_model.proofs.Public.{is_argument}
use Rattle.bound_plan.specs.Windows.{dats_first, frame_cells, frame_windows}
use Rattle.rank_state.specs.declared.spans.Span.{Span}
use Rattle.rank_state.specs.Spans.{Within, total}
use Rattle.rank_state.specs.Windows.{Marked}
use Rattle.kernel_runs.specs.Standing.{stands_at, is_written, Apart}
use Rattle.kernel_runs.specs.InPlace.{NameTheSame}
use Rattle.kernel_runs.proofs.Public.{in_first, in_rest, first_written, rest_written, by_span, stands_within}
use Rattle.rank_layout.specs.Made.{writes_by}
use Rattle.rank_program.specs.Here.{span_place}
use Rattle.rank_program.proofs.Buffer.{run_cells, buffer_cells}

-- a run may leave something else there: on a dat that the loop modifies, or in a variable's window
abbrev pub is_changed : List Arg → Cell → Bool
is_changed args (Data c) = modifies args c.dat
is_changed args (Variable v) = true

-- ---- cells of spans

run_length : (cell : ℕ → Cell) (at n : ℕ) → length (run_cells cell at n) ≡ n
run_length cell at zero = refl
run_length cell at (suc n) = ap suc (run_length cell (suc at) n)

spans_length : (cell : ℕ → Cell) (spans : List Span) → length (buffer_cells cell spans) ≡ total spans
spans_length cell [] = refl
spans_length cell (s ∷ ss) =
    let one = length-append (run_cells cell s.at s.dim) (buffer_cells cell ss) in
    let first = run_length cell s.at s.dim in
    let rest = spans_length cell ss in
    omega (arith, one, first, rest)

run_at : (cell : ℕ → Cell) (at n j : ℕ) → j < n → get_or (run_cells cell at n) j no_cell ≡ cell (at + j)
run_at cell at zero j lt = absurd (omega arith)
run_at cell at (suc n) zero lt = let e : at ≡ at + 0 = omega arith in ap cell e
run_at cell at (suc n) (suc j) lt =
    let e : suc at + j ≡ at + suc j = omega arith in
    run_at cell (suc at) n j (omega arith) ∙ ap cell e

-- a gathered cell is that of where it stands
spans_at : (cell : ℕ → Cell) (spans : List Span) (j : ℕ) → j < total spans → get_or (buffer_cells cell spans) j no_cell ≡ cell (stands_at spans j)
spans_at cell [] j lt = absurd (omega arith)
spans_at cell (s ∷ ss) j lt =
    let count : length (run_cells cell s.at s.dim) ≡ s.dim = run_length cell s.at s.dim in
    by_span s ss (λ i. get_or (run_cells cell s.at s.dim ++ buffer_cells cell ss) i no_cell ≡ cell (stands_at (s ∷ ss) i)) j lt
    (λ i l. get_or_append_left (run_cells cell s.at s.dim) (buffer_cells cell ss) no_cell i (omega arith)
    ∙ run_at cell s.at s.dim i l ∙ ap cell (sym (in_first s ss i l)))
    (λ i l. ap (λ n. get_or (run_cells cell s.at s.dim ++ buffer_cells cell ss) (n + i) no_cell) (sym count)
    ∙ get_or-append-add (run_cells cell s.at s.dim) (buffer_cells cell ss) i no_cell
    ∙ spans_at cell ss i l ∙ ap cell (sym (in_rest s ss i)))

-- a cell's mark is that of its span
marked_at : (taken : ℕ → Bool) (spans : List Span) → Marked taken spans → (j : ℕ) → j < total spans → is_written spans j ≡ taken (stands_at spans j)
marked_at taken [] h j lt = absurd (omega arith)
marked_at taken (s ∷ ss) h j lt = by_span s ss (λ i. is_written (s ∷ ss) i ≡ taken (stands_at (s ∷ ss) i)) j lt
    (λ i l. first_written s ss i l ∙ sym (h.0 i l) ∙ ap taken (sym (in_first s ss i l)))
    (λ i l. rest_written s ss i ∙ marked_at taken ss h.1 i l ∙ ap taken (sym (in_rest s ss i)))

-- ---- arguments of dats that a loop leaves

is_op_read : (a : Code) → is_read a ≡ true → access_of a ≡ OpRead
is_op_read Read h = refl
is_op_read Write h = absurd (false≢true h)
is_op_read Rw h = absurd (false≢true h)
is_op_read Inc h = absurd (false≢true h)
is_op_read Min h = absurd (false≢true h)
is_op_read Max h = absurd (false≢true h)

passes_all : (d : ℕ) (test : _ → Code → Bool) (xs : List Arg) (a : ℕ) → list_all (passes d test) xs ≡ true → a < length xs → passes d test (get_or xs a no_arg) ≡ true
passes_all d test [] a h lt = absurd (omega arith)
passes_all d test (x ∷ xs) zero h lt = (Rattle.std.proofs.lemmas.Bool.and_parts (passes d test x) (list_all (passes d test) xs) h).0
passes_all d test (x ∷ xs) (suc a) h lt = passes_all d test xs a (Rattle.std.proofs.lemmas.Bool.and_parts (passes d test x) (list_all (passes d test) xs) h).1 (omega arith)

left_is_read : (args : List Arg) (a d : ℕ) (v : _) (acc : Code) → a < length args → get_or args a no_arg ≡ Dat d v acc → modifies args d ≡ false → access_of acc ≡ OpRead
left_is_read args a d v acc lt is h =
    let all : all_on d (λ w b. is_read b) args ≡ true = not-false (all_on d (λ w b. is_read b) args) h in
    let one : passes d (λ w b. is_read b) (Dat d v acc) ≡ true = subst (λ y. passes d (λ w b. is_read b) y ≡ true) is (passes_all d (λ w b. is_read b) args a all lt) in
    ⊎_elim
    (λ (t : not (nat_eq d d) ≡ true). absurd (false≢true (sym (not_from_true (nat_eq d d) (eq-eqb d d refl)) ∙ t)))
    (λ (t : is_read acc ≡ true). is_op_read acc t)
    (or_cases (not (nat_eq d d)) (is_read acc) one)

-- ---- the loop's arguments

first_array : (b : BoundValue) (args : List Arg) (e : ℕ) (xs : List Arg) (a : ℕ) → (target_at (map (λ y. window_of b (targets b (dats_first args) e) (reached b e y)) xs) a).array ≡ 0
first_array b args e [] a = refl
first_array b args e (x ∷ xs) zero = refl
first_array b args e (x ∷ xs) (suc a) = first_array b args e xs a

place_array : (ps : List Place) (a : ℕ) → (target_at (map target_of ps) a).array ≡ 0
place_array [] a = refl
place_array (p ∷ ps) zero = refl
place_array (p ∷ ps) (suc a) = place_array ps a

module _ (b : BoundValue) (site : SiteValue) (e n : ℕ) (cell : ℕ → Cell)
    (one : (i j : ℕ) → i < n → j < n → cell i ≡ cell j → i ≡ j)
    (on : OnWindows (modes_of b site) (cell_of b site e) (frame_cells b site.args e) (frame_windows b site.args e))
    (spans : List Span) (cells : frame_cells b site.args e ≡ buffer_cells cell spans)
    (within : Within n spans)
    (marked : Marked (λ i. is_changed site.args (cell i)) spans)
    (span : Arg → Span)
    (dims : All (λ y. (span y).dim ≡ arg_width b y) site.args)
    (inside : All (λ y. (span y).at + (span y).dim ≤ n) site.args)
    (has : All (λ y. (j : ℕ) → j < (span y).dim → cell ((span y).at + j) ≡ cell_in (reached b e y) j) site.args) where
  abbrev ts : List Target
  ts = frame_windows b site.args e

  abbrev us : List Target
  us = map target_of (map (λ y. span_place (span y)) site.args)

  counted : total spans ≡ length (frame_cells b site.args e)
  counted = sym (ap length cells ∙ spans_length cell spans)

  gathered_cell : (j : ℕ) → j < total spans → get_or (frame_cells b site.args e) j no_cell ≡ cell (stands_at spans j)
  gathered_cell j lt = ap (λ xs. get_or xs j no_cell) cells ∙ spans_at cell spans j lt

  -- a component of an argument in the windows
  in_mode : (a i : ℕ) → i < (target_at ts a).count → i < (mode_at (modes_of b site) a).dim
  in_mode a i lt = subst (λ c. i < c) (on.counts a) lt

  in_windows : (a i : ℕ) → i < (target_at ts a).count → (target_at ts a).from + i < total spans
  in_windows a i lt = let h = on.inside a i (in_mode a i lt) in let e : total spans ≡ length (frame_cells b site.args e) = counted in omega arith

  window_cell : (a i : ℕ) (lt : i < (target_at ts a).count) → cell (stands_at spans ((target_at ts a).from + i)) ≡ cell_of b site e a i
  window_cell a i lt = sym (gathered_cell ((target_at ts a).from + i) (in_windows a i lt)) ∙ on.are a i (in_mode a i lt)

  mode_is : (a : ℕ) → a < length site.args → mode_at (modes_of b site) a ≡ mode_of b (arg_at site a)
  mode_is a lt = get_or-map (mode_of b) site.args a no_arg no_mode lt

  -- where it stands in the buffer
  target_is : (a : ℕ) → a < length site.args → target_at us a ≡ target_of (span_place (span (arg_at site a)))
  target_is a lt =
      get_or-map target_of (map (λ y. span_place (span y)) site.args) a (span_place (span no_arg)) no_target (omega (arith, length-map site.args (λ y. span_place (span y))))
      ∙ ap target_of (get_or-map (λ y. span_place (span y)) site.args a no_arg (span_place (span no_arg)) lt)

  count_is : (a : ℕ) → a < length site.args → (target_at ts a).count ≡ (span (arg_at site a)).dim
  count_is a lt = on.counts a ∙ ap (λ (m : Mode). m.dim) (mode_is a lt) ∙ sym (dims a no_arg lt)

  counts : (a : ℕ) → (target_at ts a).count ≡ (target_at us a).count
  counts a = ⊎_elim
      (λ (lt : a < length site.args). count_is a lt ∙ ap (λ (t : Target). t.count) (sym (target_is a lt)))
      (λ (le : length site.args ≤ a).
      let lm : length (modes_of b site) ≤ a = omega (arith, length-map site.args (mode_of b)) in
      let lp : length us ≤ a = omega (arith, length-map (map (λ y. span_place (span y)) site.args) target_of, length-map site.args (λ y. span_place (span y))) in
      on.counts a ∙ ap (λ (m : Mode). m.dim) (get_or_past (modes_of b site) a no_mode lm)
      ∙ sym (ap (λ (t : Target). t.count) (get_or_past us a no_target lp)))
      (cases_lt a (length site.args))

  argument : (a i : ℕ) → i < (target_at ts a).count → a < length site.args
  argument a i lt = is_argument b site a i (in_mode a i lt)

  stands : (a i : ℕ) → i < (target_at ts a).count → stands_at spans ((target_at ts a).from + i) ≡ (target_at us a).from + i
  stands a i lt =
      let la : a < length site.args = argument a i lt in
      let li : i < (span (arg_at site a)).dim = subst (λ c. i < c) (count_is a la) lt in
      let room : (span (arg_at site a)).at + (span (arg_at site a)).dim ≤ n = inside a no_arg la in
      let there : (span (arg_at site a)).at + i < n = omega arith in
      one (stands_at spans ((target_at ts a).from + i)) ((span (arg_at site a)).at + i)
      (stands_within n spans within ((target_at ts a).from + i) (in_windows a i lt)) there
      (window_cell a i lt ∙ sym (has a no_arg la i li))
      ∙ ap (λ (t : Target). t.from + i) (sym (target_is a la))

  pub name_the_same : NameTheSame spans ts us
  name_the_same = record {
    counts = counts;
    in_windows = first_array b site.args e site.args;
    in_memory = place_array (map (λ y. span_place (span y)) site.args);
    inside = in_windows;
    cells = stands;
  }

  pub spans_apart : Apart spans
  spans_apart i j li lj same =
      let e : total spans ≡ length (frame_cells b site.args e) = counted in
      on.once i j (omega arith) (omega arith) (gathered_cell i li ∙ ap cell same ∙ sym (gathered_cell j lj))

  -- whether its span is written is whether the loop changes its cell
  written_is : (a i : ℕ) (lt : i < (target_at ts a).count) → is_written spans ((target_at ts a).from + i) ≡ is_changed site.args (cell_in (reached b e (arg_at site a)) i)
  written_is a i lt =
      marked_at (λ k. is_changed site.args (cell k)) spans marked ((target_at ts a).from + i) (in_windows a i lt)
      ∙ ap (is_changed site.args) (window_cell a i lt)

  read_by : (a i : ℕ) (y : Arg) → arg_at site a ≡ y → a < length site.args → is_changed site.args (cell_in (reached b e y) i) ≡ false → (mode_of b y).access ≡ OpRead
  read_by a i (Dat d v acc) is lt un = left_is_read site.args a d v acc lt is un
  read_by a i (Global v acc) is lt un = absurd (false≢true (sym un))

  pub unwritten_read : (a i : ℕ) → i < (target_at ts a).count → is_written spans ((target_at ts a).from + i) ≡ false → (mode_at (modes_of b site) a).access ≡ OpRead
  unwritten_read a i lt un =
      let la : a < length site.args = argument a i lt in
      ap (λ (m : Mode). m.access) (mode_is a la) ∙ read_by a i (arg_at site a) refl la (sym (written_is a i lt) ∙ un)

  mark_is : (y : Arg) (i : ℕ) → writes_by site.args y ≡ is_changed site.args (cell_in (reached b e y) i)
  mark_is (Dat d v acc) i = refl
  mark_is (Global v acc) i = refl

  pub written_marked : (a i : ℕ) → i < (target_at ts a).count → is_written spans ((target_at ts a).from + i) ≡ true → get_or (map (writes_by site.args) site.args) a false ≡ true
  written_marked a i lt w =
      let la : a < length site.args = argument a i lt in
      get_or-map (writes_by site.args) site.args a no_arg false la ∙ mark_is (arg_at site a) i ∙ sym (written_is a i lt) ∙ w
