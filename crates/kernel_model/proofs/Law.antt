-- A kernel that obeys its modes does the same to two stores.
use Rattle.std.proofs.Common.{◌≡◌, ◌≢◌, ℕ, zero, suc, ℤ, pos, ◌+◌, ◌-◌, ◌<◌, List, [], ◌++◌, length, set, refl, ap, ◌∙◌, subst, ◌⊎◌, inl, inr}
use Rattle.std.specs.Prelude.{slice_index_or, replicate}
use Rattle.std.proofs.lemmas.List.{length-replicate}
use Rattle.op_num.specs.Reduction.{Reduction, merged, unit_of}
use Rattle.kernel_model.specs.declared.types.statements.RStmt.{RStmt, Block', Declare, SetScalar, SetLocal, SetArg, If', For', Row_of-RStmt, end_of-RStmt, more_of-RStmt}
use Rattle.kernel_model.specs.Resolved.{StmtWithin, RowWithin, StoresOnly, RowStoresOnly, CountersKept, RowCountersKept}
use Rattle.kernel_model.specs.Numbers.{is_zero}
use Rattle.kernel_model.specs.Meaning.{Store, Target, target_at, read_arg, index_in, value_of, Outcome, Done, Faulted, stored, turns, meaning, meaning_of_all, without_locals}
use Rattle.op_num.specs.Access.{OpRead, OpWrite, OpRw, OpReduce}
use Rattle.kernel_model.specs.Obeys.{Mode, Counters, no_counters, with_counter, Event, expr_events, EachTurn, Path, RowPath, turn_events, events, row_events, Assigned, AllAllowed, assigned_after, AllWritten}
use Rattle.kernel_model.specs.Independence.{access, dim, SameStoredAliases, Alone, SameRuns, Independence, StoredIndependence}
use Rattle.kernel_model.proofs.Paths.{some_expr_path, some_path, some_row_path, each_turn, allowed_front, allowed_back, assigned_after-append, expr_keeps, after_expr}
use Rattle.kernel_model.proofs.Locals.{kept}
use Rattle.kernel_model.proofs.Static.{Free, Held, held_set, held_counter, free_counter, stores_both, stores_free}
use Rattle.kernel_model.proofs.Agreement.{Known, known_read, known_rw, known_write, Agrees, start_merged}
use Rattle.kernel_model.proofs.Stores.{same_cell_refl}
use Rattle.kernel_model.proofs.SameValues.{expr_same}
use Rattle.kernel_model.proofs.SameStores.{Ends, ends_weaker, ends_then, ends_value, ends_cond}
use Rattle.kernel_model.proofs.SameAssignments.{set_arg}

module _ (modes : List Mode) (consts : List ℤ) (ts us : List Target) (aliases : SameStoredAliases modes ts us) (s0 t0 : Store)
    (counts_s : (a : ℕ) → (target_at ts a).count ≡ dim modes a) (counts_t : (a : ℕ) → (target_at us a).count ≡ dim modes a) where
  abbrev Agree : Assigned → Store → Store → Type 0
  Agree before s t = Agrees modes ts us aliases s0 t0 before s t

  -- what a path of the statement has assigned
  abbrev Reach : (st : RStmt) → Counters → Assigned → Assigned → Type 0
  Reach st cs before after = (w : Path st) × (assigned_after before (events st w cs) ≡ after)

  abbrev RowReach : {m : _} → Row_of-RStmt m → Counters → Assigned → Assigned → Type 0
  RowReach all cs before after = (w : RowPath all) × (assigned_after before (row_events all w cs) ≡ after)

  reach_two : (xs ys : List Event) (before b after : Assigned) → assigned_after before xs ≡ b → assigned_after b ys ≡ after → assigned_after before (xs ++ ys) ≡ after
  reach_two xs ys before b after e f = assigned_after-append before xs ys ∙ ap (λ c. assigned_after c ys) e ∙ f

  module _ (params n : ℕ) where
    -- the turns of a for, where its body does the same
    module _ (cs : Counters) (k : ℕ) (body : RStmt) (lt : k < n) (free : Free cs k) (only : StoresOnly (Free cs) body)
        (same : (i : ℕ) (before : Assigned) (s t : Store) (ls : List ℤ) → Held n (with_counter cs k (pos i)) ls → Agree before s t
        → ((w : Path body) → AllAllowed modes before (events body w (with_counter cs k (pos i))))
        → Ends modes consts ts us aliases s0 t0 counts_s counts_t (Reach body (with_counter cs k (pos i)) before)
        (meaning ts consts body s ls) (meaning us consts body t ls)) where
      abbrev turn : ℕ → Path body → List Event
      turn i w = events body w (with_counter cs k (pos i))

      abbrev TurnsReach : ℕ → ℕ → Assigned → Assigned → Type 0
      TurnsReach i m before after = (w : EachTurn (Path body) m) × (assigned_after before (turn_events turn i m w) ≡ after)

      turns_same : (i m : ℕ) (before : Assigned) (s t : Store) (ls : List ℤ) → Held n cs ls → Agree before s t
          → ((w : EachTurn (Path body) m) → AllAllowed modes before (turn_events turn i m w))
          → Ends modes consts ts us aliases s0 t0 counts_s counts_t (TurnsReach i m before) (turns (meaning ts consts body) k i m s ls)
          (turns (meaning us consts body) k i m t ls)
      turns_same i zero before s t ls held ag h = (before, (tt, refl), refl, ag)
      turns_same i (suc m) before s t ls held ag h =
          let others = each_turn (some_path body) m in
          ends_then modes consts ts us aliases s0 t0 counts_s counts_t (Reach body (with_counter cs k (pos i)) before)
          (TurnsReach i (suc m) before) (Held n cs) (meaning ts consts body s (set ls k (pos i)))
          (meaning us consts body t (set ls k (pos i))) (turns (meaning ts consts body) k (suc i) m)
          (turns (meaning us consts body) k (suc i) m)
          (same i before s t (set ls k (pos i)) (held_counter n cs k (pos i) ls lt held) ag (λ w. allowed_front modes before (turn i w) (turn_events turn (suc i) m others) (h (w, others))))
          (kept ts consts (Held n cs) (Free cs) (λ j v l f p. held_set n cs j v l f p) body only s (set ls k (pos i)) (held_set n cs k (pos i) ls free held))
          (λ b s' t' ls' r held' ag'.
          ends_weaker modes consts ts us aliases s0 t0 counts_s counts_t (TurnsReach (suc i) m b) (TurnsReach i (suc m) before)
          (λ after f. ((r.0, f.0), reach_two (turn i r.0) (turn_events turn (suc i) m f.0) before b after r.1 f.1))
          (turns (meaning ts consts body) k (suc i) m s' ls') (turns (meaning us consts body) k (suc i) m t' ls')
          (turns_same (suc i) m b s' t' ls' held' ag'
          (λ w. subst (λ c. AllAllowed modes c (turn_events turn (suc i) m w)) r.1
          (allowed_back modes before (turn i r.0) (turn_events turn (suc i) m w) (h (r.0, w))))))

    mutual
      stmt_same : (st : RStmt) (cs : Counters) (before : Assigned) (s t : Store) (ls : List ℤ) → StmtWithin params n (length consts) st
          → CountersKept st → StoresOnly (Free cs) st → Held n cs ls → Agree before s t
          → ((w : Path st) → AllAllowed modes before (events st w cs))
          → Ends modes consts ts us aliases s0 t0 counts_s counts_t (Reach st cs before) (meaning ts consts st s ls)
          (meaning us consts st t ls)
      stmt_same (Block' shape all) cs before s t ls within kept' free held ag h = row_same all cs before s t ls within kept' free held ag h
      stmt_same (Declare from count) cs before s t ls within kept' free held ag h = (before, (tt, refl), refl, ag)
      stmt_same (SetScalar k op opat e) cs before s t ls within kept' free held ag h =
          ends_value modes consts ts us aliases s0 t0 counts_s counts_t (Reach (SetScalar k op opat e) cs before) s t ls
          (value_of ts consts e s ls) (value_of us consts e t ls) _ _
          (expr_same modes consts ts us aliases s0 t0 counts_s counts_t e cs before s t ls held.1 ag h)
          (λ v f. ends_value modes consts ts us aliases s0 t0 counts_s counts_t (Reach (SetScalar k op opat e) cs before) s t ls
          (stored op opat (slice_index_or ls k (pos 0)) v) (stored op opat (slice_index_or ls k (pos 0)) v) (λ r. Done s (set ls k r))
          (λ r. Done t (set ls k r)) refl
          (λ r g. (before, (some_expr_path e, expr_keeps e (some_expr_path e) cs before), refl, ag)))
      stmt_same (SetLocal from count form ix at op opat e) cs before s t ls within kept' free held ag h =
          let Q = Reach (SetLocal from count form ix at op opat e) cs before in
          let wi = some_expr_path ix in
          let we = some_expr_path e in
          ends_value modes consts ts us aliases s0 t0 counts_s counts_t Q s t ls (value_of ts consts ix s ls) (value_of us consts ix t ls) _
          _ (expr_same modes consts ts us aliases s0 t0 counts_s counts_t ix cs before s t ls held.1 ag
          (λ w. allowed_front modes before (expr_events ix w cs) (expr_events e we cs) (h (w, we))))
          (λ z f. ends_value modes consts ts us aliases s0 t0 counts_s counts_t Q s t ls (index_in count at z) (index_in count at z) _ _ refl
          (λ i g. ends_value modes consts ts us aliases s0 t0 counts_s counts_t Q s t ls (value_of ts consts e s ls)
          (value_of us consts e t ls) _ _
          (expr_same modes consts ts us aliases s0 t0 counts_s counts_t e cs before s t ls held.1 ag
          (λ w. after_expr modes ix wi cs before (expr_events e w cs) (h (wi, w))))
          (λ v l. ends_value modes consts ts us aliases s0 t0 counts_s counts_t Q s t ls
          (stored op opat (slice_index_or ls (from + i) (pos 0)) v) (stored op opat (slice_index_or ls (from + i) (pos 0)) v)
          (λ r. Done s (set ls (from + i) r)) (λ r. Done t (set ls (from + i) r)) refl
          (λ r o. (before, ((wi, we), reach_two (expr_events ix wi cs) (expr_events e we cs) before before before (expr_keeps ix wi cs before) (expr_keeps e we cs before)), refl, ag)))))
      stmt_same (SetArg a form ix at op opat e) cs before s t ls within kept' free held ag h =
          set_arg modes consts ts us aliases s0 t0 counts_s counts_t a form ix at opat cs before s t ls held.1 ag op e h
      stmt_same (If' e p a q b) cs before s t ls within kept' free held ag h =
          let Q = Reach (If' e p a q b) cs before in
          let we = some_expr_path e in
          ends_value modes consts ts us aliases s0 t0 counts_s counts_t Q s t ls (value_of ts consts e s ls) (value_of us consts e t ls) _ _
          (expr_same modes consts ts us aliases s0 t0 counts_s counts_t e cs before s t ls held.1 ag
          (λ w. allowed_front modes before (expr_events e w cs) (events a (some_path a) cs) (h (w, inl (some_path a)))))
          (λ x f. ends_cond modes consts ts us aliases s0 t0 counts_s counts_t Q (is_zero x) (meaning ts consts b s ls) (meaning ts consts a s ls) (meaning us consts b t ls) (meaning us consts a t ls)
          (ends_weaker modes consts ts us aliases s0 t0 counts_s counts_t (Reach b cs before) Q
          (λ after r. (
            (we, inr r.0),
            reach_two (expr_events e we cs) (events b r.0 cs) before before after (expr_keeps e we cs before)
                r.1,
          )) (meaning ts consts b s ls) (meaning us consts b t ls)
          (stmt_same b cs before s t ls within.2 kept'.1 free.1 held ag (λ w. after_expr modes e we cs before (events b w cs) (h (we, inr w)))))
          (ends_weaker modes consts ts us aliases s0 t0 counts_s counts_t (Reach a cs before) Q
          (λ after r. (
            (we, inl r.0),
            reach_two (expr_events e we cs) (events a r.0 cs) before before after (expr_keeps e we cs before)
                r.1,
          )) (meaning ts consts a s ls) (meaning us consts a t ls)
          (stmt_same a cs before s t ls within.1 kept'.0 free.0 held ag (λ w. after_expr modes e we cs before (events a w cs) (h (we, inl w))))))
      stmt_same (For' k first past p body) cs before s t ls within kept' free held ag h =
          turns_same cs k body within.0 free.0 free.1
          (λ i b s' t' ls' held' ag' h'. stmt_same body (with_counter cs k (pos i)) b s' t' ls' within.2 kept'.1
          (stores_both (Free cs) (λ j. j ≢ k) (Free (with_counter cs k (pos i))) (λ j f ne. free_counter cs k (pos i) j f ne) body
          free.1 kept'.0) held' ag' h')
          first (past - first) before s t ls held ag h

      row_same : {m : _} → (all : Row_of-RStmt m) → (cs : Counters) (before : Assigned) (s t : Store) (ls : List ℤ)
          → RowWithin params n (length consts) all → RowCountersKept all → RowStoresOnly (Free cs) all → Held n cs ls → Agree before s t
          → ((w : RowPath all) → AllAllowed modes before (row_events all w cs))
          → Ends modes consts ts us aliases s0 t0 counts_s counts_t (RowReach all cs before) (meaning_of_all ts consts all s ls)
          (meaning_of_all us consts all t ls)
      row_same end_of-RStmt cs before s t ls within kept' free held ag h = (before, (tt, refl), refl, ag)
      row_same (more_of-RStmt first rest) cs before s t ls within kept' free held ag h =
          let others = some_row_path rest in
          ends_then modes consts ts us aliases s0 t0 counts_s counts_t (Reach first cs before)
          (RowReach (more_of-RStmt first rest) cs before) (Held n cs) (meaning ts consts first s ls) (meaning us consts first t ls)
          (meaning_of_all ts consts rest) (meaning_of_all us consts rest)
          (stmt_same first cs before s t ls within.0 kept'.0 free.0 held ag (λ w. allowed_front modes before (events first w cs) (row_events rest others cs) (h (w, others))))
          (kept ts consts (Held n cs) (Free cs) (λ j v l f p. held_set n cs j v l f p) first free.0 s ls held)
          (λ b s' t' ls' r held' ag'.
          ends_weaker modes consts ts us aliases s0 t0 counts_s counts_t (RowReach rest cs b)
          (RowReach (more_of-RStmt first rest) cs before)
          (λ after f. ((r.0, f.0), reach_two (events first r.0 cs) (row_events rest f.0 cs) before b after r.1 f.1))
          (meaning_of_all ts consts rest s' ls') (meaning_of_all us consts rest t' ls')
          (row_same rest cs b s' t' ls' within.1 kept'.1 free.1 held' ag'
          (λ w. subst (λ c. AllAllowed modes c (row_events rest w cs)) r.1
          (allowed_back modes before (events first r.0 cs) (row_events rest w cs) (h (r.0, w))))))

-- ---- the law

pub stored_independence : StoredIndependence
stored_independence k modes consts ts us s t resolved obeys su tu aliases inputs =
    finish (meaning ts consts k.body.statement s (replicate k.scratch (pos 0))) (meaning us consts k.body.statement t (replicate k.scratch (pos 0)))
    (stmt_same modes consts ts us aliases s t su.counts tu.counts k.params k.scratch k.body.statement no_counters [] s t
    (replicate k.scratch (pos 0)) resolved.within resolved.counters (stores_free k.body.statement)
    (length-replicate k.scratch (pos 0), λ j v e. absurd (let f : ⊥ = cc in f)) start (λ w. (obeys w).0))
  where
    first_known : (a i : ℕ) → i < dim modes a → Known modes [] a i → read_arg ts s a i ≡ read_arg us t a i
    first_known a i lt (known_read e) = inputs a i lt (inl e)
    first_known a i lt (known_rw e) = inputs a i lt (inr e)
    first_known a i lt (known_write e h) = absurd h

    first_amount : (r : Reduction) (a i : ℕ) → i < dim modes a → Alone modes r ts a i → (d : ℤ)
        × (read_arg ts s a i ≡ merged r (read_arg ts s a i) d) × (read_arg us t a i ≡ merged r (read_arg us t a i) d)
    first_amount r a i lt alone =
        let by : access modes a ≡ OpReduce r = alone a i lt (same_cell_refl ts a i) in
        (unit_of r, start_merged r (read_arg ts s a i) (su.numbers r a i lt by), start_merged r (read_arg us t a i) (tu.numbers r a i lt by))

    start : Agrees modes ts us aliases s t [] s t
    start = record {
      arrays_s = su.arrays;
      arrays_t = tu.arrays;
      cells_s = su.cells;
      cells_t = tu.cells;
      known = first_known;
      amounts = first_amount;
      mixed = λ a i lt only e. e;
    }

    finish : (o p : Outcome) → Ends modes consts ts us aliases s t su.counts tu.counts
        (Reach modes consts ts us aliases s t su.counts tu.counts k.body.statement no_counters []) o p
        → SameRuns modes ts us s t (without_locals o) (without_locals p)
    finish (Done s' ls) (Done t' ms) h = record {
      equal = λ a i lt e. h.3.known a i lt (known_at a i lt e);
      amounts = h.3.amounts;
      mixed = h.3.mixed;
    }
      where
        written : AllWritten modes h.0
        written = subst (λ b. AllWritten modes b) h.1.1 (obeys h.1.0).1

        known_at : (a i : ℕ) → i < dim modes a → (access modes a ≡ OpRead) ⊎ (access modes a ≡ OpRw) ⊎ (access modes a ≡ OpWrite) → Known modes h.0 a i
        known_at a i lt (inl e) = known_read e
        known_at a i lt (inr (inl e)) = known_rw e
        known_at a i lt (inr (inr e)) = known_write e (written a i e lt)
    finish (Faulted s' ls f) (Faulted t' ms g) h = h
    finish (Done s' ls) (Faulted t' ms g) h = absurd h
    finish (Faulted s' ls f) (Done t' ms) h = absurd h

pub independence : Independence
independence k modes consts ts us s t resolved obeys su tu aliases inputs =
    stored_independence k modes consts ts us s t resolved obeys su tu (λ a i b j a_lt b_lt stores. aliases a i b j a_lt b_lt) inputs
