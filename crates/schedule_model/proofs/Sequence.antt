-- What an item does in the sequential run.
use Rattle.std.proofs.Common.{◌≡◌, ℕ, ℤ, zero, suc, ◌<◌, ◌≤◌, Bool, true, false, inr, refl, sym, ap, subst, ◌∙◌, arith, ⊎_elim, Option, Some, None, List, ◌++◌, FitsSigned, w32}
use Rattle.std.proofs.lemmas.Bool.{cases_eq, false≢true, false_from_ne_true}
use Rattle.schedule_model.specs.Cells.{Cell, Data, Variable, DatCell, VarCell, Store, InRange}
use Rattle.schedule_model.specs.Effects.{Ran, Faulted, Finished, is_read, is_modified, outcome}
use Rattle.schedule_model.specs.Program.{Kind, Free, Reduce, Ordered, Host, is_free, Hosted, Halts, Goes, elements, is_loop}
use Rattle.schedule_model.specs.Setup.{Setup}
use Rattle.schedule_model.specs.Sequential.{Loop, Broke, Ran_through, after_run, one_more, loop, Seq, Stopped, Going, with_variables, after_loop, after_host, item_from, after_item, seq}
use Rattle.schedule_model.proofs.Fold.{folded, folded_none}
use Rattle.schedule_model.proofs.Law.{Law, fault, effect, runs, keeps, apart}

abbrev pub store_of : {F : Type 0} → Seq F → Store
store_of (Stopped x s o) = s
store_of (Going s o) = s

abbrev pub output_of : {F : Type 0} → Seq F → List ℕ
output_of (Stopped x s o) = o
output_of (Going s o) = o

abbrev pub is_going : {F : Type 0} → Seq F → Bool
is_going (Stopped x s o) = false
is_going (Going s o) = true

-- the store before item k
abbrev pub store_at : {F : Type 0} → Setup F → ℕ → Store
store_at p k = store_of (seq p.program k)

-- what the first n elements of a Free loop did to w
abbrev pub LoopIs : {F : Type 0} → Setup F → ℕ → Store → ℕ → Loop F → Type 0
LoopIs p k w n (Ran_through t) = ((e : ℕ) → e < n → fault p k e w ≡ None) × ((c : Cell) → t c ≡ folded n (λ e. true) (λ e. effect p k e w c) (w c))
LoopIs p k w n (Broke e f s) = (e < n) × (fault p k e w ≡ Some f) × ((a : ℕ) → a < e → fault p k a w ≡ None)

abbrev pub GoodLoop : {F : Type 0} → Loop F → Type 0
GoodLoop (Broke e f s) = InRange s
GoodLoop (Ran_through s) = InRange s

abbrev pub GoodSeq : {F : Type 0} → Seq F → Type 0
GoodSeq (Stopped x s o) = Unit {0}
GoodSeq (Going s o) = InRange s

module _ {F : Type 0} (p : Setup F) (q : Law p) where
  below_suc : {P : ℕ → Type 0} (n : ℕ) → ((e : ℕ) → e < n → P e) → P n → (e : ℕ) → e < suc n → P e
  below_suc {P} n h last e lt = ⊎_elim (λ (i : e ≡ n). subst P (sym i) last) (λ (ne : e ≡ n → ⊥). h e (omega arith)) (cases_eq e n)

  -- ---- values stay in range
  good_after : (k n : ℕ) (s : Store) → is_loop (p.program.kind k) ≡ true → n < elements p.program k → InRange s → (x : Ran F) → p.program.run k n s ≡ x → GoodLoop (after_run n s x)
  good_after k n s lp lt g (Faulted f) e = g
  good_after k n s lp lt g (Finished t) e = q.lawful.kernels.run_in_range k n s t lp lt g e

  good_more : (k n : ℕ) (r : Loop F) → is_loop (p.program.kind k) ≡ true → n < elements p.program k → GoodLoop r → GoodLoop (one_more p.program k n r)
  good_more k n (Broke e f s) lp lt g = g
  good_more k n (Ran_through s) lp lt g = good_after k n s lp lt g (p.program.run k n s) refl

  pub good_loop : (k : ℕ) (s : Store) (n : ℕ) → is_loop (p.program.kind k) ≡ true → n ≤ elements p.program k → InRange s → GoodLoop (loop p.program k n s)
  good_loop k s zero lp le g = g
  good_loop k s (suc n) lp le g = good_more k n (loop p.program k n s) lp (omega arith) (good_loop k s n lp (omega arith) g)

  good_after_loop : (k : ℕ) (o : List ℕ) (r : Loop F) → GoodLoop r → GoodSeq (after_loop k o r)
  good_after_loop k o (Broke e f s) g = tt
  good_after_loop k o (Ran_through s) g = g

  good_variables : (v : VarCell → ℤ) (s : Store) → ((x : VarCell) → FitsSigned w32 (v x)) → InRange s → InRange (with_variables v s)
  good_variables v s gv gs (Data c) = gs (Data c)
  good_variables v s gv gs (Variable x) = gv x

  good_after_host : (k : ℕ) (s : Store) (o : List ℕ) → InRange s → (r : Hosted F) → p.program.host k s ≡ r → GoodSeq (after_host k s o r)
  good_after_host k s o g (Halts f) i = tt
  good_after_host k s o g (Goes v w) i = good_variables v s (q.lawful.kernels.host_in_range k s v w g i) g

  good_kind : (k : ℕ) (x : Kind) (s : Store) (o : List ℕ) → p.program.kind k ≡ x → InRange s → GoodSeq (item_from p.program k x s o)
  good_kind k Free s o i g = good_after_loop k o (loop p.program k (elements p.program k) s) (good_loop k s (elements p.program k) (ap is_loop i) (omega arith) g)
  good_kind k Reduce s o i g = g
  good_kind k Ordered s o i g = good_after_loop k o (loop p.program k (elements p.program k) s) (good_loop k s (elements p.program k) (ap is_loop i) (omega arith) g)
  good_kind k Host s o i g = good_after_host k s o g (p.program.host k s) refl

  good_item : (k : ℕ) (x : Seq F) → GoodSeq x → GoodSeq (after_item p.program k x)
  good_item k (Stopped x s o) g = tt
  good_item k (Going s o) g = good_kind k (p.program.kind k) s o refl g

  pub good_seq : (k : ℕ) → GoodSeq (seq p.program k)
  good_seq zero = q.lawful.kernels.start_in_range
  good_seq (suc k) = good_item k (seq p.program k) (good_seq k)

  pub good_store : (k : ℕ) → is_going (seq p.program k) ≡ true → InRange (store_at p k)
  good_store k g = at (seq p.program k) g (good_seq k)
    where
      at : (x : Seq F) → is_going x ≡ true → GoodSeq x → InRange (store_of x)
      at (Stopped x s o) g h = absurd (false≢true g)
      at (Going s o) g h = h

  -- ---- a Free loop by effects
  ran_more : (k : ℕ) (w t : Store) (n : ℕ) → ((e : ℕ) → e < n → fault p k e w ≡ None)
      → ((c : Cell) → t c ≡ folded n (λ e. true) (λ e. effect p k e w c) (w c)) → (b : Option F) → fault p k n w ≡ b
      → LoopIs p k w (suc n) (after_run n t (outcome b (λ c. effect p k n w c (t c))))
  ran_more k w t n none folds None e = (below_suc {P = λ a. fault p k a w ≡ None} n none e, λ c. ap (effect p k n w c) (folds c))
  ran_more k w t n none folds (Some f) e = (omega arith, e, none)

  agrees : (k : ℕ) (w t : Store) (n : ℕ) → p.program.kind k ≡ Free → n < elements p.program k
      → ((c : Cell) → t c ≡ folded n (λ e. true) (λ e. effect p k e w c) (w c)) → (c : Cell) → is_read (p.touch k n c) ≡ true → t c ≡ w c
  agrees k w t n fr lt folds c r =
      folds c ∙ folded_none n (λ e. true) (λ e. effect p k e w c) (w c)
      (λ e le. inr (λ x. keeps p q k e w c x (false_from_ne_true (is_modified (p.touch k e c)) (λ y. let i : e ≡ n = apart p q k n e c fr lt (omega arith) r y in omega arith))))

  loop_more : (k : ℕ) (w : Store) (n : ℕ) (r : Loop F) → p.program.kind k ≡ Free → n < elements p.program k → InRange w → GoodLoop r
      → LoopIs p k w n r → LoopIs p k w (suc n) (one_more p.program k n r)
  loop_more k w n (Broke e f s) fr lt gw g h = (let l : e < n = h.0 in omega arith, h.1, h.2)
  loop_more k w n (Ran_through t) fr lt gw g h =
      subst (λ x. LoopIs p k w (suc n) (after_run n t x)) (sym (runs p q k n w t fr lt gw g (agrees k w t n fr lt h.1)))
      (ran_more k w t n h.0 h.1 (fault p k n w) refl)

  pub loop_is : (k : ℕ) (w : Store) (n : ℕ) → p.program.kind k ≡ Free → n ≤ elements p.program k → InRange w → LoopIs p k w n (loop p.program k n w)
  loop_is k w zero fr le gw = (λ e lt. absurd (omega arith), λ c. refl)
  loop_is k w (suc n) fr le gw = loop_more k w n (loop p.program k n w) fr (omega arith) gw (good_loop k w n (ap is_loop fr) (omega arith) gw) (loop_is k w n fr (omega arith) gw)

  -- ---- an Ordered loop leaves the dats that it doesn't modify
  abbrev Stays : ℕ → DatCell → Store → Loop F → Type 0
  Stays k c s (Broke e f t) = t (Data c) ≡ s (Data c)
  Stays k c s (Ran_through t) = t (Data c) ≡ s (Data c)

  stays_after : (k n : ℕ) (c : DatCell) (s t : Store) → p.program.kind k ≡ Ordered → n < elements p.program k → p.modifies k c.dat ≡ false
      → t (Data c) ≡ s (Data c) → (x : Ran F) → p.program.run k n t ≡ x → Stays k c s (after_run n t x)
  stays_after k n c s t od lt un h (Faulted f) e = h
  stays_after k n c s t od lt un h (Finished u) e = q.lawful.kernels.stays k n t u c od lt e un ∙ h

  stays_more : (k n : ℕ) (c : DatCell) (s : Store) (r : Loop F) → p.program.kind k ≡ Ordered → n < elements p.program k
      → p.modifies k c.dat ≡ false → Stays k c s r → Stays k c s (one_more p.program k n r)
  stays_more k n c s (Broke e f t) od lt un h = h
  stays_more k n c s (Ran_through t) od lt un h = stays_after k n c s t od lt un h (p.program.run k n t) refl

  loop_stays : (k n : ℕ) (c : DatCell) (s : Store) → p.program.kind k ≡ Ordered → n ≤ elements p.program k → p.modifies k c.dat ≡ false → Stays k c s (loop p.program k n s)
  loop_stays k zero c s od le un = refl
  loop_stays k (suc n) c s od le un = stays_more k n c s (loop p.program k n s) od (omega arith) un (loop_stays k n c s od (omega arith) un)

  pub ran_stays : (k : ℕ) (c : DatCell) (s t : Store) → p.program.kind k ≡ Ordered → p.modifies k c.dat ≡ false → loop p.program k (elements p.program k) s ≡ Ran_through t → t (Data c) ≡ s (Data c)
  ran_stays k c s t od un e = subst (Stays k c s) e (loop_stays k (elements p.program k) c s od (omega arith) un)

-- what a Free item does
pub data FreeCase {F : Type 0} (p : Setup F) (k : ℕ) : Type 0 where
  was_over : is_going (seq p.program k) ≡ false → seq p.program (suc k) ≡ seq p.program k → FreeCase p k
  goes_on : is_going (seq p.program k) ≡ true → is_going (seq p.program (suc k)) ≡ true
      → ((e : ℕ) → e < elements p.program k → fault p k e (store_at p k) ≡ None)
      → ((c : Cell) → store_at p (suc k) c ≡ folded (elements p.program k) (λ e. true) (λ e. effect p k e (store_at p k) c)
      (store_at p k c)) → output_of (seq p.program (suc k)) ≡ output_of (seq p.program k) → FreeCase p k
  ends : is_going (seq p.program k) ≡ true → (e : ℕ) (f : F) → e < elements p.program k → fault p k e (store_at p k) ≡ Some f
      → ((a : ℕ) → a < e → fault p k a (store_at p k) ≡ None) → (s : Store)
      → seq p.program (suc k) ≡ Stopped (record { item = k; element = Some e; fault = f }) s (output_of (seq p.program k)) → FreeCase p k

-- what any other item does
pub data JoinCase {F : Type 0} (p : Setup F) (k : ℕ) : Type 0 where
  was_over_join : is_going (seq p.program k) ≡ false → seq p.program (suc k) ≡ seq p.program k → JoinCase p k
  reduces_join : p.program.kind k ≡ Reduce → is_going (seq p.program k) ≡ true → seq p.program (suc k) ≡ seq p.program k → JoinCase p k
  runs_join : p.program.kind k ≡ Ordered → is_going (seq p.program k) ≡ true → (t : Store)
      → loop p.program k (elements p.program k) (store_at p k) ≡ Ran_through t
      → seq p.program (suc k) ≡ Going t (output_of (seq p.program k)) → JoinCase p k
  breaks_join : p.program.kind k ≡ Ordered → is_going (seq p.program k) ≡ true → (e : ℕ) (f : F) (t : Store)
      → loop p.program k (elements p.program k) (store_at p k) ≡ Broke e f t
      → seq p.program (suc k) ≡ Stopped (record { item = k; element = Some e; fault = f }) t (output_of (seq p.program k)) → JoinCase p k
  goes_join : p.program.kind k ≡ Host → is_going (seq p.program k) ≡ true → (v : VarCell → ℤ) (o : List ℕ)
      → p.program.host k (store_at p k) ≡ Goes v o → seq p.program (suc k) ≡ Going (with_variables v (store_at p k))
      (output_of (seq p.program k) ++ o) → JoinCase p k
  halts_join : p.program.kind k ≡ Host → is_going (seq p.program k) ≡ true → (f : F) → p.program.host k (store_at p k) ≡ Halts f
      → seq p.program (suc k) ≡ Stopped (record { item = k; element = None; fault = f }) (store_at p k) (output_of (seq p.program k))
      → JoinCase p k

module _ {F : Type 0} (p : Setup F) (q : Law p) (k : ℕ) where
  free_loop : (s : Store) (o : List ℕ) → seq p.program k ≡ Going s o → (r : Loop F) → LoopIs p k s (elements p.program k) r → seq p.program (suc k) ≡ after_loop k o r → FreeCase p k
  free_loop s o e (Ran_through t) h n =
      let E : s ≡ store_at p k = ap store_of (sym e) in
      let O : o ≡ output_of (seq p.program k) = ap output_of (sym e) in
      goes_on (ap is_going e) (ap is_going n)
      (λ a lt. subst (λ w. fault p k a w ≡ None) E (h.0 a lt))
      (λ c. ap (λ x. store_of x c) n ∙ subst (λ w. t c ≡ folded (elements p.program k) (λ e. true) (λ e. effect p k e w c) (w c)) E (h.1 c))
      (ap output_of n ∙ O)
  free_loop s o e (Broke a f t) h n =
      let E : s ≡ store_at p k = ap store_of (sym e) in
      let O : o ≡ output_of (seq p.program k) = ap output_of (sym e) in
      ends (ap is_going e) a f h.0 (subst (λ w. fault p k a w ≡ Some f) E h.1) (λ b lt. subst (λ w. fault p k b w ≡ None) E (h.2 b lt)) t
      (n ∙ ap (λ y. Stopped (record { item = k; element = Some a; fault = f }) t y) O)

  free_at : p.program.kind k ≡ Free → (x : Seq F) → seq p.program k ≡ x → FreeCase p k
  free_at fr (Stopped x s o) e = was_over (ap is_going e) (ap (after_item p.program k) e ∙ sym e)
  free_at fr (Going s o) e =
      free_loop s o e (loop p.program k (elements p.program k) s) (loop_is p q k s (elements p.program k) fr (omega arith) (subst GoodSeq e (good_seq p q k)))
      (ap (after_item p.program k) e ∙ ap (λ x. item_from p.program k x s o) fr)

  pub free_case : p.program.kind k ≡ Free → FreeCase p k
  free_case fr = free_at fr (seq p.program k) refl

module _ {F : Type 0} (p : Setup F) (k : ℕ) where
  join_loop : (s : Store) (o : List ℕ) → seq p.program k ≡ Going s o → p.program.kind k ≡ Ordered → (r : Loop F)
      → loop p.program k (elements p.program k) s ≡ r → seq p.program (suc k) ≡ after_loop k o r → JoinCase p k
  join_loop s o e od (Ran_through t) a n =
      let E : s ≡ store_at p k = ap store_of (sym e) in
      let O : o ≡ output_of (seq p.program k) = ap output_of (sym e) in
      runs_join od (ap is_going e) t (ap (loop p.program k (elements p.program k)) (sym E) ∙ a) (n ∙ ap (Going t) O)
  join_loop s o e od (Broke b f t) a n =
      let E : s ≡ store_at p k = ap store_of (sym e) in
      let O : o ≡ output_of (seq p.program k) = ap output_of (sym e) in
      breaks_join od (ap is_going e) b f t (ap (loop p.program k (elements p.program k)) (sym E) ∙ a) (n ∙ ap (Stopped (record { item = k; element = Some b; fault = f }) t) O)

  join_host : (s : Store) (o : List ℕ) → seq p.program k ≡ Going s o → p.program.kind k ≡ Host → (r : Hosted F) → p.program.host k s ≡ r → seq p.program (suc k) ≡ after_host k s o r → JoinCase p k
  join_host s o e ho (Goes v w) a n =
      let E : s ≡ store_at p k = ap store_of (sym e) in
      let O : o ≡ output_of (seq p.program k) = ap output_of (sym e) in
      goes_join ho (ap is_going e) v w (ap (p.program.host k) (sym E) ∙ a) (n ∙ (ap (λ y. Going (with_variables v y) (o ++ w)) E ∙ ap (λ y. Going (with_variables v (store_at p k)) (y ++ w)) O))
  join_host s o e ho (Halts f) a n =
      let E : s ≡ store_at p k = ap store_of (sym e) in
      let O : o ≡ output_of (seq p.program k) = ap output_of (sym e) in
      halts_join ho (ap is_going e) f (ap (p.program.host k) (sym E) ∙ a)
      (n ∙ (ap (λ y. Stopped (record { item = k; element = None; fault = f }) y o) E
      ∙ ap (Stopped (record { item = k; element = None; fault = f }) (store_at p k)) O))

  join_kind : (x : Kind) → p.program.kind k ≡ x → is_free x ≡ false → (s : Store) (o : List ℕ) → seq p.program k ≡ Going s o → JoinCase p k
  join_kind Free i h s o e = absurd (false≢true (sym h))
  join_kind Reduce i h s o e = reduces_join i (ap is_going e) (ap (after_item p.program k) e ∙ (ap (λ x. item_from p.program k x s o) i ∙ sym e))
  join_kind Ordered i h s o e = join_loop s o e i (loop p.program k (elements p.program k) s) refl (ap (after_item p.program k) e ∙ ap (λ x. item_from p.program k x s o) i)
  join_kind Host i h s o e = join_host s o e i (p.program.host k s) refl (ap (after_item p.program k) e ∙ ap (λ x. item_from p.program k x s o) i)

  join_at : is_free (p.program.kind k) ≡ false → (x : Seq F) → seq p.program k ≡ x → JoinCase p k
  join_at h (Stopped x s o) e = was_over_join (ap is_going e) (ap (after_item p.program k) e ∙ sym e)
  join_at h (Going s o) e = join_kind (p.program.kind k) refl h s o e

  pub join_case : is_free (p.program.kind k) ≡ false → JoinCase p k
  join_case h = join_at h (seq p.program k) refl
