-- Rows that ran one after another on a rank's cells are elements that ran so.
use Rattle.std.specs.Prelude.{◌==◌, cond}
use Rattle.std.proofs.Common.{◌≡◌, ◌<◌, ◌≤◌, ◌+◌, ◌-◌, ◌++◌, ◌∷◌, [], ℕ, zero, suc, ℤ, Bool, true, false, List, map, take, drop, length, get_or, Option, None, refl, sym, ap, ◌∙◌, subst, ⊎_elim, arith}
use Rattle.std.proofs.Math.Seq.{take-append_seam}
use Rattle.std.proofs.lemmas.Bool.{false≢true}
use Rattle.std.proofs.lemmas.List.{length-append, length-take-le, length-drop, take_all}
use Rattle.kernel_model.specs.declared.types.faults.KernelFault.{KernelFault}
use Rattle.kernel_model.specs.declared.types.kernels.RKernel.{RKernel}
use Rattle.kernel_model.specs.Meaning.{Target}
use Rattle.kernel_model.specs.declared.types.views.frame.Place.{Place}
use Rattle.kernel_model.specs.Framed.{target_of}
use Rattle.schedule_steps.specs.declared.step.Step.TheVariants.{Begin}
use Rattle.schedule_steps.specs.Steps.{IsStep}
use Rattle.schedule_model.specs.Sequential.{Stop}
use Rattle.schedule_model.specs.Layout.{by_place}
use Rattle.bound_plan.specs.Laws.{FramesAreReached}
use Rattle.rank_state.specs.declared.scalars.Scalar.{Scalar}
use Rattle.rank_state.specs.declared.scalars.Scalar.TheVariants.{Value, Amount}
use Rattle.rank_state.specs.Windows.{firsts, amounts}
use Rattle.rank_program.specs.AloneRuns.{AllBegin, Share, RunsAt, Reaches}
use Rattle.kernel_runs.specs.Here.{FinishesHere}
use Rattle.kernel_runs.specs.RowsRun.{RunsOne, RowsRun}
use Rattle.rank_program.specs.declared.program.DistributedProgram.{DistributedProgram}
use Rattle.rank_program.specs.declared.local_loops.LocalLoop.{LocalLoop}
use Rattle.rank_program.specs.Batches.{Counts, reduces, GoesOn}
use Rattle.rank_program.specs.LocalArgs.{places_in}
use Rattle.rank_program.specs.LocalLoops.{IsLocalLoop, VariablesStand}
use Rattle.rank_program.specs.LocalRuns.{IsLent, StaysLent}
use Rattle.rank_program.specs.declared.share.RankShare.{RankShare}
use Rattle.rank_program.specs.Sound.{Sound, setup_in, layout_in, tables_in}
use Rattle.rank_layout.specs.StepLaws.{StepsStand}
use Rattle.rank_layout.specs.WindowLaws.{ArgsAreHere, ArgsHaveCells, ElementWindowsStand}
use Rattle.rank_program.proofs.ElementRuns.{firsts_length}
use Rattle.rank_program.proofs.LocalElements.{element_runs}

-- where no scalar has an amount, none is merged
no_amounts : (xs : List Scalar) (ws ps : List ℤ) → reduces xs ≡ false → amounts xs ws ps ≡ ps
no_amounts [] ws ps h = refl
no_amounts (Value at ∷ xs) [] ps h = refl
no_amounts (Value at ∷ xs) (w ∷ ws) ps h = no_amounts xs ws ps h
no_amounts (Amount at slot how ∷ xs) ws ps h = absurd (false≢true (sym h))

-- amounts that count are merged
counted : (own : Bool) (xs : List Scalar) → Counts own xs → (ws ps : List ℤ) → cond own (amounts xs ws ps) ps ≡ amounts xs ws ps
counted own xs counts ws ps = ⊎_elim
    (λ (e : own ≡ true). ap (λ o. cond o (amounts xs ws ps) ps) e)
    (λ (h : reduces xs ≡ false).
    let none = no_amounts xs ws ps h in
    ap (λ z. cond own z ps) none ∙ cond_same own ps ∙ sym none)
    counts
  where
    cond_same : (o : Bool) (z : List ℤ) → cond o z z ≡ z
    cond_same true z = refl
    cond_same false z = refl

module _ (l : LocalLoop) (sound : Sound l.program.now) (is : IsLocalLoop l) (stand : StepsStand) (here : ArgsAreHere)
    (windows : ElementWindowsStand) (frames : FramesAreReached) (have : ArgsHaveCells) (finishes : FinishesHere)
    (cells : List Place) (at : VariablesStand l cells) where
  abbrev c : DistributedProgram
  c = l.program.now

  abbrev w : ℕ
  w = l.part.now.cells

  abbrev f : RKernel
  f = l.code.now.kernel.now

  abbrev behind : List ℤ
  behind = firsts l.variables.now l.scalars.now

  -- where the arguments of a place's element stand
  abbrev targets : ℕ → List Target
  targets x = map target_of (places_in x l.args.now cells)

  abbrev share : List ℤ → List ℤ → Option (Stop KernelFault) → Share KernelFault
  share m ps kept = record { cells = m; partials = ps; fault = kept }

  abbrev Row : List Target → (old new ps qs : List ℤ) → Type 0
  Row = RunsOne f l.constants.now behind l.scalars.now

  abbrev owned : ℕ → Bool
  owned x = (setup_in c).owner ((setup_in c).program.set l.item) ((layout_in c).original l.item l.rank x) == l.rank

  module _ (x : ℕ) (old new ps qs : List ℤ) (long : length old ≡ w) (row : Row (targets x) old new ps qs) where
    whole : length (old ++ behind) ≡ w + length l.scalars.now
    whole = let both = length-append old behind in let tail = firsts_length l.variables.now l.scalars.now in omega (arith, both, tail, long)

    front : take w (old ++ behind) ≡ old
    front = ap (λ n. take n (old ++ behind)) (sym long) ∙ take-append_seam old behind

    new_is : take w row.after ≡ new
    new_is = ap (λ n. take n row.after) (sym long) ∙ sym row.cells

    -- a row leaves as many cells
    pub row_long : length new ≡ w
    row_long = ap length (sym new_is) ∙ length-take-le w row.after (let count = row.count in let both = whole in omega (arith, count, both))

    left_behind : take (length row.after - w) (drop w row.after) ≡ drop (length old) row.after
    left_behind =
        take_all (length row.after - w) (drop w row.after) (let count = length-drop w row.after in omega (arith, count))
        ∙ ap (λ n. drop n row.after) (sym long)

    -- a row's run is that of its element
    pub row_runs : IsStep (by_place (setup_in c) (layout_in c)) (Begin l.item l.rank x) → Counts (owned x) l.scalars.now → (kept : Option (Stop KernelFault))
        → RunsAt (setup_in c) (layout_in c) (tables_in c) l.item l.rank l.constants.now l.variables.now x (share old ps kept) (share new qs kept)
    row_runs step counts kept =
        subst (λ m. RunsAt (setup_in c) (layout_in c) (tables_in c) l.item l.rank l.constants.now l.variables.now x (share old ps kept) (share m qs kept)) new_is
        (subst (λ m. RunsAt (setup_in c) (layout_in c) (tables_in c) l.item l.rank l.constants.now l.variables.now x (share m ps kept) (share (take w row.after) qs kept)) front
        (element_runs l sound is stand x step here cells (places_in x l.args.now cells) at refl windows frames have
        (old ++ behind) (old ++ behind) row.after whole refl
        (take_all (w + length l.scalars.now) (old ++ behind) (let n = whole in omega (arith, n)) ∙ ap (λ m. m ++ behind) (sym front))
        None
        (λ spans ts on. (finishes f l.constants.now (old ++ behind) row.after (places_in x l.args.now cells) l.marks.now spans ts on row.ran).0)
        (λ spans ts on. (finishes f l.constants.now (old ++ behind) row.after (places_in x l.args.now cells) l.marks.now spans ts on row.ran).1)
        ps qs
        (row.partials ∙ ap (λ ws. amounts l.scalars.now ws ps) (sym left_behind)
        ∙ sym (counted (owned x) l.scalars.now counts (take (length row.after - w) (drop w row.after)) ps))
        kept kept refl))

  module _ (places : List ℕ) (steps : AllBegin (setup_in c) (layout_in c) (tables_in c) l.item l.rank places) (start : Share KernelFault) (i : ℕ)
      (old ps : List ℤ) (long : length old ≡ w) (kept : Option (Stop KernelFault)) (batch : ℕ → ℕ) where
    abbrev Reached : ℕ → List ℤ → List ℤ → Type 0
    Reached n new qs = Reaches (setup_in c) (layout_in c) (tables_in c) l.item l.rank l.constants.now l.variables.now places start n (share new qs kept)

    -- rows of the places from one on, which ran one after another, are elements that did
    rows_run : (n : ℕ) → i + n ≤ length places → ((j : ℕ) → j < n → batch j ≡ get_or places (i + j) 0)
        → ((j : ℕ) → j < n → Counts (owned (get_or places (i + j) 0)) l.scalars.now)
        → (new qs : List ℤ) → RowsRun f l.constants.now behind l.scalars.now (λ j. targets (batch j)) n old new ps qs
        → Reached i old ps → Reached (i + n) new qs × (length new ≡ w)
    unfolding RowsRun
    rows_run zero fits are counts new qs rows reached =
        let none : i ≡ i + 0 = omega arith in (
          subst (λ k. Reached k new qs) none (subst (λ m. Reached i m qs) (sym rows.0) (subst (λ r. Reached i old r) (sym rows.1) reached)),
          ap length rows.0 ∙ long,
        )
    rows_run (suc n) fits are counts new qs rows reached =
        let before = rows_run n (omega (arith, fits)) (λ j lt. are j (omega (arith, lt))) (λ j lt. counts j (omega (arith, lt))) rows.0 rows.1 rows.2 reached in
        let next : suc (i + n) ≡ i + suc n = omega arith in
        let x = get_or places (i + n) 0 in
        let row : Row (targets x) rows.0 new rows.1 qs = subst (λ z. Row (targets z) rows.0 new rows.1 qs) (are n (omega arith)) rows.3 in (
          subst (λ k. Reached k new qs) next
              ((
                share rows.0 rows.1 kept,
                before.0,
                row_runs x rows.0 new rows.1 qs before.1 row (steps (i + n) (omega (arith, fits))) (counts n (omega arith)) kept,
              )),
          row_long x rows.0 new rows.1 qs before.1 row,
        )

    pub rows_reach : (n : ℕ) → i + n ≤ length places → ((j : ℕ) → j < n → batch j ≡ get_or places (i + j) 0)
        → ((j : ℕ) → j < n → Counts (owned (get_or places (i + j) 0)) l.scalars.now)
        → (new qs : List ℤ) → RowsRun f l.constants.now behind l.scalars.now (λ j. targets (batch j)) n old new ps qs
        → Reached i old ps → Reached (i + n) new qs
    rows_reach n fits are counts new qs rows reached = (rows_run n fits are counts new qs rows reached).0

-- ---- stretches of places

module _ (l : LocalLoop) where
  -- no place
  pub goes_nowhere : (at : ℕ) (s : Share KernelFault) → GoesOn l at (at + 0) s s
  goes_nowhere at s start h =
      let none : at ≡ at + 0 = omega arith in
      subst (λ n. Reaches (setup_in l.program.now) (layout_in l.program.now) (tables_in l.program.now) l.item l.rank l.constants.now l.variables.now l.places.now start n s) none h

  -- one stretch and the next
  pub goes_further : (from to end : ℕ) (old between new : Share KernelFault) → GoesOn l from to old between → GoesOn l to end between new → GoesOn l from end old new
  goes_further from to end old between new first second start h = second start (first start h)

-- ---- what is lent

pub stays_lent : (old between new : RankShare) → StaysLent old between → StaysLent between new → StaysLent old new
stays_lent old between new first second = record {
  memory = second.memory ∙ first.memory;
  partials = second.partials ∙ first.partials;
  cells = second.cells ∙ first.cells;
  slots = second.slots ∙ first.slots;
}

pub still_lent : (l : LocalLoop) (old new : RankShare) → StaysLent old new → IsLent l old → IsLent l new
still_lent l old new stays lent = record {
  memory = stays.cells ∙ lent.memory;
  partials = stays.slots ∙ lent.partials;
}
