-- Where the cells of a loop's variables stand behind those of a rank's buffer.
use Rattle.std.proofs.Common.{◌≡◌, ◌<◌, ◌≤◌, ◌+◌, ◌-◌, ℕ, zero, suc, true, List, [], ◌∷◌, ◌++◌, All, map, length, get_or, refl, sym, ap, ap₂, ◌∙◌, subst, ⊎_elim, arith, length-append, get_or-append-add}
use Rattle.std.proofs.lemmas.Bool.{cases_lt}
use Rattle.std.proofs.lemmas.List.{get_or-map, get_or_append_left}
use Rattle.kernel_model.specs.Meaning.{Target, no_target, target_at}
use Rattle.kernel_model.specs.Obeys.{Mode, mode_at, no_mode}
use Rattle.kernel_model.specs.declared.types.views.frame.Place.{Place}
use Rattle.kernel_model.specs.Framed.{target_of}
use Rattle.schedule_model.specs.Cells.{Cell, Data, Variable, DatCell, VarCell}
use Rattle.run_model.specs.OnWindows.{no_cell, OnWindows}
use Rattle.bound_program.specs.declared.sites.Arg.{Arg}
use Rattle.bound_program.specs.declared.sites.Arg.TheVariants.{Dat, Global}
use Rattle.bound_program.specs.Values.{BoundValue, SiteValue}
use Rattle.bound_program.specs.Fits.{ArgFits}
use Rattle.run_model.specs.Windows.{reached, targets, width, window_of, window_start, Whole}
use Rattle.run_model.specs.Arguments.{no_arg, arg_width, mode_of, modes_of, cell_of}
use Rattle.bound_plan.specs.Windows.{dats_first, frame_cells, frame_windows}
use Rattle.rank_state.specs.declared.spans.Span.{Span}
use Rattle.rank_state.specs.declared.scalars.Scalar.{Scalar}
use Rattle.rank_state.specs.Windows.{cells_from, span_cells, scalar_cells}
use Rattle.rank_program.specs.Here.{window_place, behind, moved}
use Rattle.rank_program.specs.LocalLoops.{StandsBehind}
use Rattle.rank_program.proofs.HereStands.{is_changed}

-- ---- cells of dats, and of scalars

scalars_length : (variable_at : ℕ → VarCell) (xs : List Scalar) → length (scalar_cells variable_at xs) ≡ length xs
scalars_length variable_at [] = refl
scalars_length variable_at (x ∷ xs) = ap suc (scalars_length variable_at xs)

run_of_data : (cell_at : ℕ → DatCell) (at n j : ℕ) (v : VarCell) (ys : List Cell) → j < n → get_or (cells_from cell_at at n ++ ys) j no_cell ≡ Variable v → ⊥
run_of_data cell_at at zero j v ys lt h = absurd (omega arith)
run_of_data cell_at at (suc n) zero v ys lt h = cc
run_of_data cell_at at (suc n) (suc j) v ys lt h = run_of_data cell_at (suc at) n j v ys (omega (arith, lt)) h

-- the scalars' cells stand behind the spans'
module _ (cell_at : ℕ → DatCell) (spans : List Span) (variable_at : ℕ → VarCell) (scalars : List Scalar) where
  pub scalars_count : length (scalar_cells variable_at scalars) ≡ length scalars
  scalars_count = scalars_length variable_at scalars

  no_data : (xs : List Scalar) (k : ℕ) (d : DatCell) → get_or (scalar_cells variable_at xs) k no_cell ≡ Data d → ⊥
  no_data [] k d h = cc
  no_data (x ∷ xs) zero d h = cc
  no_data (x ∷ xs) (suc k) d h = no_data xs k d h

  pub scalars_apart : (k : ℕ) → k < length (scalar_cells variable_at scalars) → (d : DatCell) → get_or (scalar_cells variable_at scalars) k no_cell ≡ Data d → ⊥
  scalars_apart k lt d h = no_data scalars k d h

  all_changed : (args : List Arg) (xs : List Scalar) (k : ℕ) → is_changed args (get_or (scalar_cells variable_at xs) k no_cell) ≡ true
  all_changed args [] k = refl
  all_changed args (x ∷ xs) zero = refl
  all_changed args (x ∷ xs) (suc k) = all_changed args xs k

  pub scalars_changed : (args : List Arg) (k : ℕ) → is_changed args (get_or (scalar_cells variable_at scalars) k no_cell) ≡ true
  scalars_changed args k = all_changed args scalars k

-- a variable's cell stands behind those of dats
past_data : (cell_at : ℕ → DatCell) (spans : List Span) (ys : List Cell) (j : ℕ) (v : VarCell)
    → get_or (span_cells cell_at spans ++ ys) j no_cell ≡ Variable v → length (span_cells cell_at spans) ≤ j
past_data cell_at spans ys j v h = ⊎_elim
    (λ (lt : j < length (span_cells cell_at spans)). absurd (in_front spans j lt (sym (get_or_append_left (span_cells cell_at spans) ys no_cell j lt) ∙ h)))
    (λ (le : length (span_cells cell_at spans) ≤ j). le)
    (cases_lt j (length (span_cells cell_at spans)))
  where
    run_long : (at n : ℕ) → length (cells_from cell_at at n) ≡ n
    run_long at zero = refl
    run_long at (suc n) = ap suc (run_long (suc at) n)

    in_front : (ss : List Span) (i : ℕ) → i < length (span_cells cell_at ss) → get_or (span_cells cell_at ss) i no_cell ≡ Variable v → ⊥
    in_front [] i lt e = absurd (omega arith)
    in_front (s ∷ ss) i lt e =
        let count : length (cells_from cell_at s.at s.dim) ≡ s.dim = run_long s.at s.dim in
        ⊎_elim
        (λ (l : i < s.dim). run_of_data cell_at s.at s.dim i v (span_cells cell_at ss) l e)
        (λ (l : s.dim ≤ i).
        let both = length-append (cells_from cell_at s.at s.dim) (span_cells cell_at ss) in
        let at : length (cells_from cell_at s.at s.dim) + (i - s.dim) ≡ i = omega (arith, count, l) in
        in_front ss (i - s.dim) (omega (arith, both, count, lt, l))
        (sym (get_or-append-add (cells_from cell_at s.at s.dim) (span_cells cell_at ss) (i - s.dim) no_cell)
        ∙ ap (λ k. get_or (cells_from cell_at s.at s.dim ++ span_cells cell_at ss) k no_cell) at ∙ e))
        (cases_lt i s.dim)

-- ---- the places of a loop's variables

module _ (b : BoundValue) (site : SiteValue) (e : ℕ)
    (on : OnWindows (modes_of b site) (cell_of b site e) (frame_cells b site.args e) (frame_windows b site.args e))
    (cell_at : ℕ → DatCell) (spans : List Span) (variable_at : ℕ → VarCell) (scalars : List Scalar)
    (cells : frame_cells b site.args e ≡ span_cells cell_at spans ++ scalar_cells variable_at scalars)
    (fits : All (ArgFits b site.set) site.args) where
  abbrev vs : List Cell
  vs = scalar_cells variable_at scalars

  abbrev ts : List Target
  ts = frame_windows b site.args e

  abbrev front : ℕ
  front = length (span_cells cell_at spans)

  counted : length (frame_cells b site.args e) ≡ front + length scalars
  counted = ap length cells ∙ length-append (span_cells cell_at spans) vs ∙ ap (λ n. front + n) (scalars_length variable_at scalars)

  -- no two scalars have one cell
  pub one_scalar : (i j : ℕ) → i < length vs → j < length vs → get_or vs i no_cell ≡ get_or vs j no_cell → i ≡ j
  one_scalar i j li lj same =
      let n = counted in
      let long = scalars_length variable_at scalars in
      let both = on.once (front + i) (front + j) (omega (arith, n, long, li)) (omega (arith, n, long, lj)) (there i ∙ same ∙ sym (there j)) in
      omega (arith, both)
    where
      there : (m : ℕ) → get_or (frame_cells b site.args e) (front + m) no_cell ≡ get_or vs m no_cell
      there m = ap (λ (xs : List Cell). get_or xs (front + m) no_cell) cells ∙ get_or-append-add (span_cells cell_at spans) vs m no_cell

  module _ (a v : ℕ) (acc : _) (lt : a < length site.args) (is : get_or site.args a no_arg ≡ Global v acc) where
    target_is : target_at ts a ≡ window_of b (targets b (dats_first site.args) e) (Whole v)
    target_is =
        get_or-map (λ y. window_of b (targets b (dats_first site.args) e) (reached b e y)) site.args a no_arg no_target lt
        ∙ ap (λ y. window_of b (targets b (dats_first site.args) e) (reached b e y)) is

    mode_is : mode_at (modes_of b site) a ≡ mode_of b (Global v acc)
    mode_is = get_or-map (mode_of b) site.args a no_arg no_mode lt ∙ ap (mode_of b) is

    in_mode : (j : ℕ) → j < arg_width b (Global v acc) → j < (mode_at (modes_of b site) a).dim
    in_mode j l = subst (λ (m : Mode). j < m.dim) (sym mode_is) l

    cell_there : (j : ℕ) → j < arg_width b (Global v acc) → get_or (frame_cells b site.args e) ((target_at ts a).from + j) no_cell ≡ Variable (record { variable = v; component = j })
    cell_there j l = on.are a j (in_mode j l) ∙ ap (λ y. Rattle.run_model.specs.Windows.cell_in (reached b e y) j) is

    some : 0 < arg_width b (Global v acc)
    some = (subst (ArgFits b site.set) is (fits a no_arg lt)).1

    past : front ≤ (target_at ts a).from
    past =
        let zeroth = cell_there 0 some in
        let at : (target_at ts a).from + 0 ≡ (target_at ts a).from = omega arith in
        past_data cell_at spans vs (target_at ts a).from (record { variable = v; component = 0 })
        (ap (λ (xs : List Cell). get_or xs (target_at ts a).from no_cell) (sym cells) ∙ ap (λ k. get_or (frame_cells b site.args e) k no_cell) (sym at) ∙ zeroth)

    last : (target_at ts a).from + arg_width b (Global v acc) ≤ length (frame_cells b site.args e)
    last =
        let w = arg_width b (Global v acc) in
        let end = on.inside a (w - 1) (in_mode (w - 1) (let s = some in omega (arith, s))) in
        let s = some in
        omega (arith, end, s)

    stands : (width : ℕ) → StandsBehind b width vs (behind b site.args e (length scalars) width (Global v acc)) (Global v acc)
    stands width =
        let from : (target_at ts a).from ≡ window_start b (targets b (dats_first site.args) e) (Whole v) = ap (λ (t : Target). t.from) target_is in
        let s = window_start b (targets b (dats_first site.args) e) (Whole v) in
        let k = s - front in
        let others : length (frame_cells b site.args e) - length scalars ≡ front = (let n = counted in omega (arith, n)) in
        let le : front ≤ s = (let p = past in omega (arith, p, from)) in (
          k,
          ap (λ n. width + (s - n)) others,
          refl,
          (let l = last in let n = counted in let sc = scalars_length variable_at scalars in omega (arith, l, n, sc, from, le)),
          λ j l.
              let at : front + (k + j) ≡ (target_at ts a).from + j = omega (arith, from, le) in
              sym (get_or-append-add (span_cells cell_at spans) vs (k + j) no_cell)
              ∙ ap (λ i. get_or (span_cells cell_at spans ++ vs) i no_cell) at
              ∙ ap (λ (xs : List Cell). get_or xs ((target_at ts a).from + j) no_cell) (sym cells)
              ∙ cell_there j l,
        )

  by_arg : (width a : ℕ) (y : Arg) → a < length site.args → get_or site.args a no_arg ≡ y → StandsBehind b width vs (behind b site.args e (length scalars) width y) y
  by_arg width a (Dat d v acc) lt is = tt
  by_arg width a (Global v acc) lt is = stands a v acc lt is width

  pub all_behind : (width : ℕ) → All (λ y. StandsBehind b width vs (behind b site.args e (length scalars) width y) y) site.args
  all_behind width a d lt = by_arg width a (get_or site.args a d) lt (Rattle.std.proofs.lemmas.List.get_or_default site.args a no_arg d lt)

-- ---- windows put down

abbrev place_by : Target → Place
place_by t = record { from = t.from; count = t.count }

untargeted : (ps : List Place) → map place_by (map target_of ps) ≡ ps
untargeted [] = refl
untargeted (p ∷ ps) = ap (λ zs. p ∷ zs) (untargeted ps)

placed : (b : BoundValue) (args : List Arg) (e : ℕ) (xs : List Arg)
    → map place_by (map (λ y. window_of b (targets b (dats_first args) e) (reached b e y)) xs) ≡ map (window_place b args e) xs
placed b args e [] = refl
placed b args e (x ∷ xs) = ap (λ zs. window_place b args e x ∷ zs) (placed b args e xs)

windows_put : (b : BoundValue) (args : List Arg) (e : ℕ) (ps : List Place) → map target_of ps ≡ frame_windows b args e → ps ≡ map (window_place b args e) args
windows_put b args e ps are =
    sym (untargeted ps) ∙ ap (map place_by) are ∙ placed b args e args

all_moved : (b : BoundValue) (args : List Arg) (e n width : ℕ) (xs : List Arg)
    → map (moved width (length (frame_cells b args e) - n)) (map (window_place b args e) xs) ≡ map (behind b args e n width) xs
all_moved b args e n width [] = refl
all_moved b args e n width (x ∷ xs) = ap (λ zs. behind b args e n width x ∷ zs) (all_moved b args e n width xs)

-- the same as it is read
pub put_is : (b : BoundValue) (args read : List Arg) → read ≡ args → (e element : ℕ) → element ≡ e → (n width end : ℕ) (windows cells : List Place)
    → map target_of windows ≡ frame_windows b read element → end ≡ length (frame_cells b read element) → cells ≡ map (moved width (end - n)) windows
    → cells ≡ map (behind b args e n width) args
put_is b args read all e element original n width end windows cells put counted is =
    is ∙ ap₂ (λ long places. map (moved width (long - n)) places) counted (windows_put b read element windows put)
    ∙ all_moved b read element n width read ∙ ap₂ (λ xs x. map (behind b xs x n width) xs) all original
