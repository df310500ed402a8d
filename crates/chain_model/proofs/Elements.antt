-- The run of one element on one rank.
use Rattle.std.proofs.Common.{◌≡◌, ℕ, ℤ, suc, ◌<◌, Bool, true, false, cond, inl, inr, refl, sym, ap, subst, ◌∙◌, arith, ⊎_elim, Option, Some, None, List, [], ◌∷◌, ◌++◌}
use Rattle.std.specs.Prelude.{◌&&◌, ◌==◌}
use Rattle.std.proofs.lemmas.Bool.{cases_eq, cases_Bool, false≢true, false_from_ne_true, cond_both, cond-true, cond-false, and_from, and_left, and_right, eq-eqb, ne_eqb}
use Rattle.op_num.specs.Reduction.{Reduction}
use Rattle.schedule_model.specs.Cells.{Cell, Data, Variable, DatCell, VarCell, Store, InRange}
use Rattle.schedule_model.specs.Effects.{Ran, Faulted, Finished, is_read, is_modified, outcome}
use Rattle.schedule_model.specs.Program.{Free, elements, is_loop}
use Rattle.schedule_model.specs.Sequential.{Stop}
use Rattle.schedule_model.specs.Machine.{unit_at, merge_at, window_of}
use Rattle.schedule_model.specs.Laws.{Reaches}
use Rattle.schedule_model.proofs.Public.{folded_true, folded_false, folded_idle, folded_none, runs, keeps, idle, apart, unreduced, merge_unit, merge_amount, good_merge, store_at, good_store, Good, Each, each_push, Member, member_left, member_push, Recorded}
use Rattle.chain_model.specs.Machine.{left_in, ChainState, view, ran, one_run}
use Rattle.chain_model.proofs.Given.{Given, chains, Comes, makes, breaks, owns, made, part, culprit}
use Rattle.chain_model.proofs.Stores.{Has, put_here, put_else, cell_is, has_same, has_like, left_has, GoodStore, good_left, good_view}
use Rattle.chain_model.proofs.Invariants.{Doing, doing_like, During}

outcome_fault : {F : Type 0} (b : Option F) (t : Store) (f : F) → outcome b t ≡ Faulted f → b ≡ Some f
outcome_fault None t f h = cc
outcome_fault (Some g) t f h = cc

outcome_done : {F : Type 0} (b : Option F) (t u : Store) → outcome b t ≡ Finished u → (b ≡ None) × (t ≡ u)
outcome_done None t u h = (refl, cc)
outcome_done (Some g) t u h = (cc, cc)

module _ {F : Type 0} (g : Given F) (k n m : ℕ) (free : g.p.program.kind k ≡ Free) (st : ChainState F) (d : During g k n m st) (rank : n < g.p.ranks) (lt : m < elements g.p.program k) where
  -- what the element reads has the value that it had before the item
  reads_before : Comes g k → g.executes k n m ≡ true → (c : Cell) → is_read (g.p.touch k m c) ≡ true → view (chains g) k n st c ≡ store_at g.p k c
  reads_before go ex (Variable v) y = by_op (g.p.reduces (g.p.program.site k) v) (g.q.lawful.reaches k m v free lt) ∙ d.variables go v
    where
      by_op : (o : Option Reduction) → Reaches o (g.p.touch k m (Variable v)) → window_of o (st.variables v) ≡ st.variables v
      by_op None x = refl
      by_op (Some o) x = absurd (false≢true (sym (ap is_read x) ∙ y))
  reads_before go ex (Data x) y =
      cell_is (st.stores n) x (made g k n m x) ((d.now go rank).cells x (g.are.read k n m x free lt ex y))
      ∙ folded_none m (λ e. g.executes k n e) (makes g k (Data x)) (store_at g.p k (Data x))
      (λ a le. inr (λ z. keeps g.p g.q k a (store_at g.p k) (Data x) z (false_from_ne_true (is_modified (g.p.touch k a (Data x)))
      (λ w. let i : a ≡ m = apart g.p g.q k m a (Data x) free lt (omega arith) y w in omega arith))))

  run_is : Comes g k → g.executes k n m ≡ true → g.p.program.run k m (view (chains g) k n st) ≡ outcome (breaks g k m) (λ c. makes g k c m (view (chains g) k n st c))
  run_is go ex = runs g.p g.q k m (store_at g.p k) (view (chains g) k n st) free lt (good_store g.p g.q k go) (good_view g st d.sane k n) (reads_before go ex)

  -- ---- an element that changes nothing on the rank
  after_idle : (faults : List (Stop F))
      → Each (Recorded g.p) faults
      → ((x : Stop F) → Member x st.faults → Member x faults)
      → (Comes g k → (f : F) → g.p.owner (g.p.program.set k) m ≡ n → breaks g k m ≡ Some f → Member (culprit k m f) faults)
      → (Comes g k → (x : DatCell) → made g k n m x ≡ made g k n (suc m) x)
      → (Comes g k → (v : VarCell) → part g k n m v ≡ part g k n (suc m) v)
      → During g k n (suc m) (record st { faults = faults })
  after_idle faults each more found cells parts = record {
    running = d.running;
    told = d.told;
    sane = record { stores = d.sane.stores; variables = d.sane.variables; parts = d.sane.parts };
    recorded = each;
    kept = λ j e f l fr le go bad. more (culprit j e f) (d.kept j e f l fr le go bad);
    found = λ go e f le who bad. ⊎_elim
        (λ (l : g.p.owner (g.p.program.set k) e < n). more (culprit k e f) (d.found go e f le (inl l) bad))
        (λ (two : (g.p.owner (g.p.program.set k) e ≡ n) × (e < suc m)). ⊎_elim
        (λ (i : e ≡ m). subst (λ z. Member (culprit k z f) faults) (sym i)
        (found go f (ap (g.p.owner (g.p.program.set k)) (sym i) ∙ two.0) (ap (breaks g k) (sym i) ∙ bad)))
        (λ (ne : e ≡ m → ⊥). more (culprit k e f) (d.found go e f le (inr (two.0, (let l : e < suc m = two.1 in omega arith))) bad))
        (cases_eq e m))
        who;
    variables = d.variables;
    before = λ go r l lr. doing_like g k r (elements g.p.program k) st (record st { faults = faults }) refl (λ s v. refl) (d.before go r l lr);
    now = λ go lr. record {
      cells = λ x need. has_same (st.stores n) x (made g k n m x) (made g k n (suc m) x) ((d.now go lr).cells x need) (cells go x);
      here = λ v. (d.now go lr).here v ∙ parts go v;
      others = λ s v ne. (d.now go lr).others s v ne;
    };
    behind = λ go r l lr. doing_like g k r 0 st (record st { faults = faults }) refl (λ s v. refl) (d.behind go r l lr);
  }

  -- the rank doesn't execute it
  passed_over : g.executes k n m ≡ false → During g k n (suc m) st
  passed_over unset = after_idle st.faults d.recorded (λ x h. h)
      (λ go f own bad. absurd (false≢true (sym unset ∙ g.are.own_elements k n m free lt own)))
      (λ go x. sym (folded_false m (λ e. g.executes k n e) (makes g k (Data x)) (store_at g.p k (Data x)) unset))
      (λ go v. sym (folded_false m (owns g k n) (makes g k (Variable v)) (unit_at (g.p.reduces (g.p.program.site k) v))
      (ne_eqb (g.p.owner (g.p.program.set k) m) n (λ own. false≢true (sym unset ∙ g.are.own_elements k n m free lt own)))))

  -- it faults
  module _ (f : F) (ex : g.executes k n m ≡ true) (run : g.p.program.run k m (view (chains g) k n st) ≡ Faulted f) where
    bad : Comes g k → breaks g k m ≡ Some f
    bad go = outcome_fault (breaks g k m) (λ c. makes g k c m (view (chains g) k n st c)) f (sym (run_is go ex) ∙ run)

    still_cells : Comes g k → (x : DatCell) → made g k n m x ≡ made g k n (suc m) x
    still_cells go x = sym (folded_idle m (λ e. g.executes k n e) (makes g k (Data x)) (store_at g.p k (Data x))
        (λ z. idle g.p g.q k m (store_at g.p k) (Data x) z f (bad go)))

    still_parts : Comes g k → (v : VarCell) → part g k n m v ≡ part g k n (suc m) v
    still_parts go v = sym (folded_idle m (owns g k n) (makes g k (Variable v)) (unit_at (g.p.reduces (g.p.program.site k) v))
        (λ z. idle g.p g.q k m (store_at g.p k) (Variable v) z f (bad go)))

    faulted_by : (b : Bool) → owns g k n m ≡ b → During g k n (suc m) (cond b (record st { faults = st.faults ++ (culprit k m f ∷ []) }) st)
    faulted_by true own = after_idle (st.faults ++ (culprit k m f ∷ []))
        (each_push (Recorded g.p) st.faults (culprit k m f) d.recorded (λ go. (m, refl, lt, bad go, free)))
        (λ x h. member_left x st.faults (culprit k m f ∷ []) h)
        (λ go f1 same bad1.
        let both : Some f ≡ Some f1 = sym (bad go) ∙ bad1 in
        let i : f ≡ f1 = cc in
        subst (λ z. Member (culprit k m z) (st.faults ++ (culprit k m f ∷ []))) i (member_push (culprit k m f) st.faults))
        still_cells still_parts
    faulted_by false own = after_idle st.faults d.recorded (λ x h. h)
        (λ go f1 same bad1. absurd (false≢true (sym own ∙ eq-eqb (g.p.owner (g.p.program.set k) m) n same)))
        still_cells still_parts

    faulted : During g k n (suc m) (ran (chains g) k n m (Faulted f) st)
    faulted = faulted_by (owns g k n m) refl

  -- it finishes
  module _ (t : Store) (ex : g.executes k n m ≡ true) (run : g.p.program.run k m (view (chains g) k n st) ≡ Finished t) where
    done : Comes g k → (breaks g k m ≡ None) × ((λ (c : Cell). makes g k c m (view (chains g) k n st c)) ≡ t)
    done go = outcome_done (breaks g k m) (λ c. makes g k c m (view (chains g) k n st c)) t (sym (run_is go ex) ∙ run)

    t_is : Comes g k → (c : Cell) → t c ≡ makes g k c m (view (chains g) k n st c)
    t_is go c = ap (λ f. f c) (sym (done go).1)

    good_t : InRange t
    good_t = g.q.lawful.kernels.run_in_range k m (view (chains g) k n st) t (ap is_loop free) lt (good_view g st d.sane k n) run

    -- the partial of a variable, with the element's amount where the rank owns it
    abbrev more : VarCell → ℤ
    more v = cond (owns g k n m) (merge_at (g.p.reduces (g.p.program.site k) v) (st.partials n (g.p.program.site k) v) (t (Variable v))) (st.partials n (g.p.program.site k) v)

    good_more : (v : VarCell) → Good (more v)
    good_more v = cond_both (owns g k n m) (merge_at (g.p.reduces (g.p.program.site k) v) (st.partials n (g.p.program.site k) v) (t (Variable v))) (st.partials n (g.p.program.site k) v) Good
        (λ i. good_merge g.p g.q (g.p.reduces (g.p.program.site k) v) (st.partials n (g.p.program.site k) v) (t (Variable v)) (d.sane.parts n (g.p.program.site k) v) (good_t (Variable v)))
        (λ i. d.sane.parts n (g.p.program.site k) v)

    -- merging what the kernel made of a unit is the element's effect
    amount : (v : VarCell) (o : Option Reduction) → g.p.reduces (g.p.program.site k) v ≡ o → (x : ℤ) → Good x
        → merge_at (g.p.reduces (g.p.program.site k) v) x (makes g k (Variable v) m (window_of (g.p.reduces (g.p.program.site k) v) (st.variables v))) ≡ makes g k (Variable v) m x
    amount v None e x good =
        ap (λ z. merge_at z x (makes g k (Variable v) m (window_of z (st.variables v)))) e
        ∙ sym (keeps g.p g.q k m (store_at g.p k) (Variable v) x (unreduced g.p g.q k m v free lt e))
    amount v (Some o) e x good =
        merge_amount g.p g.q k m (store_at g.p k) v x (window_of (g.p.reduces (g.p.program.site k) v) (st.variables v)) free lt
        ∙ ap (makes g k (Variable v) m) (ap (λ z. merge_at z x (window_of z (st.variables v))) e ∙ merge_unit g.p g.q (Some o) x good)

    more_is : Comes g k → (v : VarCell) → more v ≡ part g k n (suc m) v
    more_is go v = ⊎_elim
        (λ (own : owns g k n m ≡ true).
        cond-true (owns g k n m) (merge_at (g.p.reduces (g.p.program.site k) v) (st.partials n (g.p.program.site k) v) (t (Variable v))) (st.partials n (g.p.program.site k) v) own
        ∙ (ap (merge_at (g.p.reduces (g.p.program.site k) v) (st.partials n (g.p.program.site k) v)) (t_is go (Variable v))
        ∙ (amount v (g.p.reduces (g.p.program.site k) v) refl (st.partials n (g.p.program.site k) v) (d.sane.parts n (g.p.program.site k) v)
        ∙ (ap (makes g k (Variable v) m) ((d.now go rank).here v)
        ∙ sym (folded_true m (owns g k n) (makes g k (Variable v)) (unit_at (g.p.reduces (g.p.program.site k) v)) own)))))
        (λ (own : owns g k n m ≡ false).
        cond-false (owns g k n m) (merge_at (g.p.reduces (g.p.program.site k) v) (st.partials n (g.p.program.site k) v) (t (Variable v))) (st.partials n (g.p.program.site k) v) own
        ∙ ((d.now go rank).here v
        ∙ sym (folded_false m (owns g k n) (makes g k (Variable v)) (unit_at (g.p.reduces (g.p.program.site k) v)) own)))
        (cases_Bool (owns g k n m))

    abbrev after : ChainState F
    after = ran (chains g) k n m (Finished t) st

    -- other ranks
    other : (r : ℕ) → (r ≡ n → ⊥) → (j : ℕ) → Doing g k r j st → Doing g k r j after
    other r ne j h = doing_like g k r j st after (put_else n r (left_in t (st.stores n)) st.stores ne)
        (λ s v. ap (λ f. f v) (cond-false ((r == n) && (s == g.p.program.site k)) more (st.partials r s) (and_left (r == n) (s == g.p.program.site k) (ne_eqb r n ne)))) h

    new_cell : Comes g k → (x : DatCell) → g.needs k n x.dat x.element ≡ true → Has (left_in t (st.stores n)) x (made g k n (suc m) x)
    new_cell go x need =
        left_has t (st.stores n) x (made g k n m x) (made g k n (suc m) x) ((d.now go rank).cells x need)
        (t_is go (Data x)
        ∙ (ap (makes g k (Data x) m) (cell_is (st.stores n) x (made g k n m x) ((d.now go rank).cells x need))
        ∙ sym (folded_true m (λ e. g.executes k n e) (makes g k (Data x)) (store_at g.p k (Data x)) ex)))

    new_doing : Comes g k → Doing g k n (suc m) after
    new_doing go = record {
      cells = λ x need. has_like (left_in t (st.stores n)) (after.stores n) x (made g k n (suc m) x) (put_here n (left_in t (st.stores n)) st.stores) (new_cell go x need);
      here = λ v. ap (λ f. f v) (cond-true ((n == n) && (g.p.program.site k == g.p.program.site k)) more (st.partials n (g.p.program.site k))
          (and_from (n == n) (g.p.program.site k == g.p.program.site k) (eq-eqb n n refl) (eq-eqb (g.p.program.site k) (g.p.program.site k) refl)))
          ∙ more_is go v;
      others = λ s v ne. ap (λ f. f v) (cond-false ((n == n) && (s == g.p.program.site k)) more (st.partials n s) (and_right (n == n) (s == g.p.program.site k) (ne_eqb s (g.p.program.site k) ne)))
          ∙ (d.now go rank).others s v ne;
    }

    finished : During g k n (suc m) (ran (chains g) k n m (Finished t) st)
    finished = record {
      running = d.running;
      told = d.told;
      sane = record {
        stores = λ r. cond_both (r == n) (left_in t (st.stores n)) (st.stores r) GoodStore (λ i. good_left t (st.stores n) good_t) (λ i. d.sane.stores r);
        variables = d.sane.variables;
        parts = λ r s v. cond_both ((r == n) && (s == g.p.program.site k)) more (st.partials r s) (λ f. Good (f v)) (λ i. good_more v) (λ i. d.sane.parts r s v);
      };
      recorded = d.recorded;
      kept = d.kept;
      found = λ go e f le who bad. ⊎_elim
          (λ (l : g.p.owner (g.p.program.set k) e < n). d.found go e f le (inl l) bad)
          (λ (two : (g.p.owner (g.p.program.set k) e ≡ n) × (e < suc m)). ⊎_elim
          (λ (i : e ≡ m). let both : None ≡ Some f = sym (done go).0 ∙ (ap (breaks g k) (sym i) ∙ bad) in cc)
          (λ (ne : e ≡ m → ⊥). d.found go e f le (inr (two.0, (let l : e < suc m = two.1 in omega arith))) bad)
          (cases_eq e m))
          who;
      variables = d.variables;
      before = λ go r l lr. other r (λ i. omega arith) (elements g.p.program k) (d.before go r l lr);
      now = λ go lr. new_doing go;
      behind = λ go r l lr. other r (λ i. omega arith) 0 (d.behind go r l lr);
    }

  after_ran : g.executes k n m ≡ true → (x : Ran F) → g.p.program.run k m (view (chains g) k n st) ≡ x → During g k n (suc m) (ran (chains g) k n m x st)
  after_ran ex (Faulted f) run = faulted f ex run
  after_ran ex (Finished t) run = finished t ex run

  by_executed : (b : Bool) → g.executes k n m ≡ b → During g k n (suc m) (cond b (ran (chains g) k n m (g.p.program.run k m (view (chains g) k n st)) st) st)
  by_executed true ex = after_ran ex (g.p.program.run k m (view (chains g) k n st)) refl
  by_executed false ex = passed_over ex

  pub one_more : During g k n (suc m) (one_run (chains g) k n m st)
  one_more = by_executed (g.executes k n m) refl
