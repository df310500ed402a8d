-- Elements that a rank executes, one after another.
use Rattle.std.proofs.Common.{◌≡◌, ◌<◌, ◌≤◌, ◌+◌, ◌-◌, ⊎_elim, ℕ, zero, suc, Bool, true, false, cond, List, [], ◌∷◌, ◌++◌, Some, length, get_or, refl, sym, ap, subst, ◌∙◌, arith}
use Rattle.std.specs.Prelude.{◌==◌}
use Rattle.std.proofs.lemmas.Bool.{cases_lt}
use Rattle.std.proofs.lemmas.List.{get_or_past}
use Rattle.kernel_model.specs.declared.types.faults.KernelFault.{KernelFault}
use Rattle.lemmas.specs.Below.{listed, count_below}
use Rattle.lemmas.proofs.Below.{length_listed, count_le, count_lt, at_listed}
use Rattle.schedule_model.specs.Effects.{Ran, Faulted, Finished}
use Rattle.chain_model.specs.Slicing.{Slicing}
use Rattle.chain_model.specs.Machine.{ChainState, one_run, rank_run, ranks_run, ran, view}
use Rattle.schedule_model.specs.Program.{elements}
use Rattle.lemmas.proofs.Truth.{cases_bool}

-- ---- the list

module _ (n : ℕ) (p : ℕ → Bool) where
  -- the number that comes i-th; behind the last, n
  abbrev pub turn : ℕ → ℕ
  turn i = get_or (listed n p) i n

  -- so many numbers come before it
  pub before_turn : (i : ℕ) → i ≤ length (listed n p) → count_below (turn i) p ≡ i
  before_turn i le = ⊎_elim
      (λ (l : i < length (listed n p)). (at_listed n i n p (let q = length_listed n p in omega (arith, q, l))).2)
      (λ (l : length (listed n p) ≤ i).
      ap (λ k. count_below k p) (get_or_past (listed n p) i n l) ∙ (let q = length_listed n p in omega (arith, q, l, le)))
      (cases_lt i (length (listed n p)))

  pub turn_there : (i d : ℕ) → i < length (listed n p) → (get_or (listed n p) i d < n) × (p (get_or (listed n p) i d) ≡ true)
  turn_there i d l = let w = at_listed n i d p (let q = length_listed n p in omega (arith, q, l)) in (w.0, w.1)

-- no number between passes
pub none_between : (p : ℕ → Bool) (m n : ℕ) → count_below m p ≡ count_below n p → (e : ℕ) → m ≤ e → e < n → p e ≡ false
none_between p m n same e me en = ⊎_elim
    (λ (h : p e ≡ true). absurd (omega (arith, same, count_le m e p me, count_lt e n p en h)))
    (λ (h : p e ≡ false). h)
    (cases_bool (p e))

-- ---- the machine

module _ (c : Slicing KernelFault) (k r : ℕ) where
  skipped : (m d : ℕ) (st : ChainState KernelFault) → ((e : ℕ) → m ≤ e → e < m + d → c.executes k r e ≡ false) → rank_run c k r (m + d) st ≡ rank_run c k r m st
  skipped m zero st h = ap (λ n. rank_run c k r n st) (let q : m + zero ≡ m = omega arith in q)
  skipped m (suc d) st h =
      ap (λ n. rank_run c k r n st) (let q : m + suc d ≡ suc (m + d) = omega arith in q)
      ∙ ap (λ t. cond t (ran c k r (m + d) (c.program.run k (m + d) (view c k r (rank_run c k r (m + d) st))) (rank_run c k r (m + d) st))
      (rank_run c k r (m + d) st)) (h (m + d) (omega arith) (omega arith))
      ∙ skipped m d st (λ e me ed. h e me (omega (arith, ed)))

  pub gap : (m n : ℕ) (st : ChainState KernelFault) → m ≤ n → count_below m (c.executes k r) ≡ count_below n (c.executes k r) → rank_run c k r n st ≡ rank_run c k r m st
  gap m n st le same =
      let at : n ≡ m + (n - m) = omega (arith, le) in
      ap (λ x. rank_run c k r x st) at
      ∙ skipped m (n - m) st (λ e me ed. none_between (c.executes k r) m n same e me (omega (arith, ed, le)))

  -- with the element that comes next
  pub next : (e : ℕ) (st : ChainState KernelFault) → c.executes k r e ≡ true
      → ran c k r e (c.program.run k e (view c k r (rank_run c k r e st))) (rank_run c k r e st) ≡ rank_run c k r (suc e) st
  next e st h = sym (ap (λ t. cond t (ran c k r e (c.program.run k e (view c k r (rank_run c k r e st))) (rank_run c k r e st)) (rank_run c k r e st)) h)

  -- ---- the variables stay

  ran_keeps : (e : ℕ) (x : Ran KernelFault) (st : ChainState KernelFault) → (ran c k r e x st).variables ≡ st.variables
  ran_keeps e (Finished t) st = refl
  ran_keeps e (Faulted f) st = ⊎_elim
      (λ (h : (c.owner (c.program.set k) e == r) ≡ true). ap (λ (t : Bool). (cond t (record st { faults = st.faults ++ (record { item = k; element = Some e; fault = f } ∷ []) }) st).variables) h)
      (λ (h : (c.owner (c.program.set k) e == r) ≡ false). ap (λ (t : Bool). (cond t (record st { faults = st.faults ++ (record { item = k; element = Some e; fault = f } ∷ []) }) st).variables) h)
      (cases_bool (c.owner (c.program.set k) e == r))

  one_keeps : (e : ℕ) (st : ChainState KernelFault) → (one_run c k r e st).variables ≡ st.variables
  one_keeps e st = ⊎_elim
      (λ (h : c.executes k r e ≡ true). ap (λ (t : Bool). (cond t (ran c k r e (c.program.run k e (view c k r st)) st) st).variables) h ∙ ran_keeps e (c.program.run k e (view c k r st)) st)
      (λ (h : c.executes k r e ≡ false). ap (λ (t : Bool). (cond t (ran c k r e (c.program.run k e (view c k r st)) st) st).variables) h)
      (cases_bool (c.executes k r e))

  pub rank_keeps : (n : ℕ) (st : ChainState KernelFault) → (rank_run c k r n st).variables ≡ st.variables
  rank_keeps zero st = refl
  rank_keeps (suc n) st = one_keeps n (rank_run c k r n st) ∙ rank_keeps n st

pub ranks_keep : (c : Slicing KernelFault) (k n : ℕ) (st : ChainState KernelFault) → (ranks_run c k n st).variables ≡ st.variables
ranks_keep c k zero st = refl
ranks_keep c k (suc n) st = rank_keeps c k n (elements c.program k) (ranks_run c k n st) ∙ ranks_keep c k n st

-- ---- both

module _ (c : Slicing KernelFault) (k r n : ℕ) (xs : List ℕ) (is : xs ≡ listed n (c.executes k r)) (st : ChainState KernelFault) where
  at_turn : (i : ℕ) → get_or xs i n ≡ turn n (c.executes k r) i
  at_turn i = ap (λ ys. get_or ys i n) is

  counted : (i : ℕ) → i ≤ length xs → count_below (get_or xs i n) (c.executes k r) ≡ i
  counted i le = ap (λ x. count_below x (c.executes k r)) (at_turn i) ∙ before_turn n (c.executes k r) i (subst (λ (ys : List ℕ). i ≤ length ys) is le)

  -- before the first of them nothing runs
  pub first_turn : rank_run c k r (get_or xs 0 n) st ≡ st
  first_turn = gap c k r 0 (get_or xs 0 n) st (omega arith) (sym (counted 0 (omega arith)))

  pub executed : (i d : ℕ) → i < length xs → (get_or xs i d < n) × (c.executes k r (get_or xs i d) ≡ true)
  executed i d lt = subst (λ (ys : List ℕ). (get_or ys i d < n) × (c.executes k r (get_or ys i d) ≡ true)) (sym is)
      (turn_there n (c.executes k r) i d (subst (λ (ys : List ℕ). i < length ys) is lt))

  -- one of them, and none up to the next
  pub next_turn : (i : ℕ) → i < length xs
      → ran c k r (get_or xs i n) (c.program.run k (get_or xs i n) (view c k r (rank_run c k r (get_or xs i n) st))) (rank_run c k r (get_or xs i n) st)
      ≡ rank_run c k r (get_or xs (i + 1) n) st
  next_turn i lt =
      let e = get_or xs i n in
      let runs : c.executes k r e ≡ true = (executed i n lt).1 in
      let here : count_below e (c.executes k r) ≡ i = counted i (omega (arith, lt)) in
      let there : count_below (get_or xs (i + 1) n) (c.executes k r) ≡ i + 1 = counted (i + 1) (omega (arith, lt)) in
      let more : count_below (suc e) (c.executes k r) ≡ i + 1 =
      (let q : count_below (suc e) (c.executes k r) ≡ count_below e (c.executes k r) + 1 =
      ap (λ t. count_below e (c.executes k r) + cond t 1 0) runs in q ∙ ap (λ x. x + 1) here) in
      let later : suc e ≤ get_or xs (i + 1) n = ⊎_elim
      (λ (l : e < get_or xs (i + 1) n). let q : suc e ≤ get_or xs (i + 1) n = omega arith in q)
      (λ (l : get_or xs (i + 1) n ≤ e). absurd (omega (arith, here, there, count_le (get_or xs (i + 1) n) e (c.executes k r) l)))
      (cases_lt e (get_or xs (i + 1) n)) in
      next c k r e st runs ∙ sym (gap c k r (suc e) (get_or xs (i + 1) n) st later (more ∙ sym there))

  -- behind the last nothing is left
  pub last_turn : (i : ℕ) → length xs ≤ i → get_or xs i n ≡ n
  last_turn i le = get_or_past xs i n le
