-- The touch of a cell tells of the arguments that reach it.
use Rattle.std.proofs.Common.{◌≡◌, ℕ, zero, suc, ◌<◌, Bool, true, false, refl, sym, ap, subst, ◌∙◌, arith, ⊎_elim}
use Rattle.std.proofs.lemmas.Bool.{cases_eq, cases_Bool, false≢true, cond_both, cond-true, cond-false}
use Rattle.op_num.specs.Reduction.{Reduction, Add, Min, Max}
use Rattle.schedule_model.specs.Cells.{Cell}
use Rattle.schedule_model.specs.Effects.{Touch, Untouched, Read, Updated, Written, Merged, Mixed, is_read}
use Rattle.op_num.specs.Access.{Access, OpRead, OpWrite, OpRw, OpReduce}
use Rattle.schedule_model.specs.Arguments.{Argument, access_of, reading, Entries, reaches, same_reduction, joined, touch_by}
use Rattle.schedule_model.specs.Tells.{settling, All, SomeHas, Tells}

same_is : (a b : Reduction) → same_reduction a b ≡ true → b ≡ a
same_is Add Add h = refl
same_is Min Min h = refl
same_is Max Max h = refl
same_is Add Min h = absurd (false≢true h)
same_is Add Max h = absurd (false≢true h)
same_is Min Add h = absurd (false≢true h)
same_is Min Max h = absurd (false≢true h)
same_is Max Add h = absurd (false≢true h)
same_is Max Min h = absurd (false≢true h)

module _ (entry : Entries) (dim width : ℕ → ℕ) (arg : ℕ → Argument) (e : ℕ) (c : Cell) where
  abbrev reach : ℕ → Bool
  reach a = reaches entry dim width e (arg a) c

  abbrev T : ℕ → Touch → Type 0
  T n k = Tells entry dim width arg n e c k

  -- one argument more, which has the access too
  all_more : (P : Access → Type 0) (n : ℕ) → All entry dim width arg n e c P → P (access_of (arg n)) → All entry dim width arg (suc n) e c P
  all_more P n h last a lt t = ⊎_elim (λ (i : a ≡ n). subst (λ z. P (access_of (arg z))) (sym i) last) (λ (ne : a ≡ n → ⊥). h a (omega arith) t) (cases_eq a n)

  -- or which doesn't reach the cell
  all_other : (P : Access → Type 0) (n : ℕ) → All entry dim width arg n e c P → reach n ≡ false → All entry dim width arg (suc n) e c P
  all_other P n h none a lt t = ⊎_elim (λ (i : a ≡ n). absurd (false≢true (sym none ∙ (ap reach (sym i) ∙ t)))) (λ (ne : a ≡ n → ⊥). h a (omega arith) t) (cases_eq a n)

  some_more : (P : Access → Type 0) (n : ℕ) → SomeHas entry dim width arg n e c P → SomeHas entry dim width arg (suc n) e c P
  some_more P n h = (h.0, (let l : h.0 < n = h.1 in omega arith), h.2, h.3)

  some_here : (P : Access → Type 0) (n : ℕ) → reach n ≡ true → P (access_of (arg n)) → SomeHas entry dim width arg (suc n) e c P
  some_here P n t p = (n, omega arith, t, p)

  all_map : (P Q : Access → Type 0) (n : ℕ) → ((x : Access) → P x → Q x) → All entry dim width arg n e c P → All entry dim width arg n e c Q
  all_map P Q n f h a lt t = f (access_of (arg a)) (h a lt t)

  -- an argument that doesn't reach the cell
  skipped : (n : ℕ) (k : Touch) → reach n ≡ false → T n k → T (suc n) k
  skipped n Untouched r h = all_other (λ x. ⊥) n h r
  skipped n Read r h = all_other (λ x. x ≡ OpRead) n h r
  skipped n Updated r h = some_more (λ x. reading x ≡ true) n h
  skipped n Written r h = (some_more (λ x. x ≡ OpWrite) n h.0, all_other (λ x. reading x ≡ false) n h.1 r)
  skipped n (Merged o) r h = all_other (λ x. x ≡ OpReduce o) n h r
  skipped n Mixed r h = all_other (λ x. settling x ≡ false) n h r

  -- it reads, so the touch is that of a cell that is read
  reads : (n : ℕ) → reach n ≡ true → reading (access_of (arg n)) ≡ true → T (suc n) Updated
  reads n r h = some_here (λ x. reading x ≡ true) n r h

  none_reads : (n : ℕ) (o : Reduction) → T n (Merged o) → All entry dim width arg n e c (λ x. reading x ≡ false)
  none_reads n o h = all_map (λ x. x ≡ OpReduce o) (λ x. reading x ≡ false) n (λ x i. ap reading i) h

  mixed_reads : (x : Access) → settling x ≡ false → reading x ≡ false
  mixed_reads OpRead h = absurd (false≢true (sym h))
  mixed_reads OpWrite h = absurd (false≢true (sym h))
  mixed_reads OpRw h = absurd (false≢true (sym h))
  mixed_reads (OpReduce o) h = refl

  -- with OP_READ
  with_read : (n : ℕ) (k : Touch) → reach n ≡ true → access_of (arg n) ≡ OpRead → T n k → T (suc n) (joined k OpRead)
  with_read n Untouched r i h = all_more (λ x. x ≡ OpRead) n (all_map (λ x. ⊥) (λ x. x ≡ OpRead) n (λ x z. absurd z) h) i
  with_read n Read r i h = all_more (λ x. x ≡ OpRead) n h i
  with_read n Updated r i h = reads n r (ap reading i)
  with_read n Written r i h = reads n r (ap reading i)
  with_read n (Merged o) r i h = reads n r (ap reading i)
  with_read n Mixed r i h = reads n r (ap reading i)

  written : (n : ℕ) → reach n ≡ true → access_of (arg n) ≡ OpWrite → All entry dim width arg n e c (λ x. reading x ≡ false) → T (suc n) Written
  written n r i h = (some_here (λ x. x ≡ OpWrite) n r i, all_more (λ x. reading x ≡ false) n h (ap reading i))

  -- some argument reads where the touch is Read; a cell of this touch is reached, since Untouched is another
  abbrev Reached : ℕ → Touch → Type 0
  Reached n Read = SomeHas entry dim width arg n e c (λ x. reading x ≡ true)
  Reached n _ = Unit {0}

  with_write : (n : ℕ) (k : Touch) → reach n ≡ true → access_of (arg n) ≡ OpWrite → Reached n k → T n k → T (suc n) (joined k OpWrite)
  with_write n Untouched r i w h = written n r i (all_map (λ x. ⊥) (λ x. reading x ≡ false) n (λ x z. absurd z) h)
  with_write n Read r i w h = some_more (λ x. reading x ≡ true) n w
  with_write n Updated r i w h = some_more (λ x. reading x ≡ true) n h
  with_write n Written r i w h = (some_more (λ x. x ≡ OpWrite) n h.0, all_more (λ x. reading x ≡ false) n h.1 (ap reading i))
  with_write n (Merged o) r i w h = written n r i (none_reads n o h)
  with_write n Mixed r i w h = written n r i (all_map (λ x. settling x ≡ false) (λ x. reading x ≡ false) n mixed_reads h)

  with_reduce : (n : ℕ) (k : Touch) (o : Reduction) → reach n ≡ true → access_of (arg n) ≡ OpReduce o → Reached n k → T n k → T (suc n) (joined k (OpReduce o))
  with_reduce n Untouched o r i w h = all_more (λ x. x ≡ OpReduce o) n (all_map (λ x. ⊥) (λ x. x ≡ OpReduce o) n (λ x z. absurd z) h) i
  with_reduce n Read o r i w h = some_more (λ x. reading x ≡ true) n w
  with_reduce n Updated o r i w h = some_more (λ x. reading x ≡ true) n h
  with_reduce n Written o r i w h = (some_more (λ x. x ≡ OpWrite) n h.0, all_more (λ x. reading x ≡ false) n h.1 (ap reading i))
  with_reduce n (Merged m) o r i w h = cond_both (same_reduction m o) (Merged m) Mixed (T (suc n))
      (λ t. all_more (λ x. x ≡ OpReduce m) n h (i ∙ ap OpReduce (same_is m o t)))
      (λ t. all_more (λ x. settling x ≡ false) n (all_map (λ x. x ≡ OpReduce m) (λ x. settling x ≡ false) n (λ x z. ap settling z) h) (ap settling i))
  with_reduce n Mixed o r i w h = all_more (λ x. settling x ≡ false) n h (ap settling i)

  one_more : (n : ℕ) (k : Touch) (x : Access) → reach n ≡ true → access_of (arg n) ≡ x → Reached n k → T n k → T (suc n) (joined k x)
  one_more n k OpRead r i w h = with_read n k r i h
  one_more n k OpRw r i w h = reads n r (ap reading i)
  one_more n k OpWrite r i w h = with_write n k r i w h
  one_more n k (OpReduce o) r i w h = with_reduce n k o r i w h

  -- a cell of the touch Read is reached by OP_READ
  reached_more : (n : ℕ) (k : Touch) (x : Access) → reach n ≡ true → access_of (arg n) ≡ x → Reached n k → Reached (suc n) (joined k x)
  reached_more n Untouched OpRead r i w = some_here (λ x. reading x ≡ true) n r (ap reading i)
  reached_more n Read OpRead r i w = some_more (λ x. reading x ≡ true) n w
  reached_more n Updated OpRead r i w = tt
  reached_more n Written OpRead r i w = tt
  reached_more n (Merged o) OpRead r i w = tt
  reached_more n Mixed OpRead r i w = tt
  reached_more n k OpRw r i w = tt
  reached_more n Untouched OpWrite r i w = tt
  reached_more n Read OpWrite r i w = tt
  reached_more n Updated OpWrite r i w = tt
  reached_more n Written OpWrite r i w = tt
  reached_more n (Merged o) OpWrite r i w = tt
  reached_more n Mixed OpWrite r i w = tt
  reached_more n Untouched (OpReduce o) r i w = tt
  reached_more n Read (OpReduce o) r i w = tt
  reached_more n Updated (OpReduce o) r i w = tt
  reached_more n Written (OpReduce o) r i w = tt
  reached_more n (Merged m) (OpReduce o) r i w = cond_both (same_reduction m o) (Merged m) Mixed (Reached (suc n)) (λ t. tt) (λ t. tt)
  reached_more n Mixed (OpReduce o) r i w = tt

  reached_skip : (n : ℕ) (k : Touch) → Reached n k → Reached (suc n) k
  reached_skip n Untouched w = tt
  reached_skip n Read w = some_more (λ x. reading x ≡ true) n w
  reached_skip n Updated w = tt
  reached_skip n Written w = tt
  reached_skip n (Merged o) w = tt
  reached_skip n Mixed w = tt

  abbrev C : ℕ → Touch
  C n = touch_by entry dim width arg n e c

  reached : (n : ℕ) → Reached n (C n)
  reached zero = tt
  reached (suc n) = cond_both (reach n) (joined (C n) (access_of (arg n))) (C n) (Reached (suc n))
      (λ t. reached_more n (C n) (access_of (arg n)) t refl (reached n)) (λ t. reached_skip n (C n) (reached n))

  pub tells : (n : ℕ) → T n (C n)
  tells zero = λ a lt t. omega arith
  tells (suc n) = cond_both (reach n) (joined (C n) (access_of (arg n))) (C n) (T (suc n))
      (λ t. one_more n (C n) (access_of (arg n)) t refl (reached n) (tells n)) (λ t. skipped n (C n) t (tells n))

  -- a cell that an argument reads is of a touch that is read
  read_keeps : (k : Touch) (x : Access) → is_read k ≡ true → is_read (joined k x) ≡ true
  read_keeps Untouched x h = absurd (false≢true h)
  read_keeps Read OpRead h = refl
  read_keeps Read OpWrite h = refl
  read_keeps Read OpRw h = refl
  read_keeps Read (OpReduce o) h = refl
  read_keeps Updated OpRead h = refl
  read_keeps Updated OpWrite h = refl
  read_keeps Updated OpRw h = refl
  read_keeps Updated (OpReduce o) h = refl
  read_keeps Written x h = absurd (false≢true h)
  read_keeps (Merged o) x h = absurd (false≢true h)
  read_keeps Mixed x h = absurd (false≢true h)

  read_joins : (k : Touch) (x : Access) → reading x ≡ true → is_read (joined k x) ≡ true
  read_joins Untouched OpRead h = refl
  read_joins Read OpRead h = refl
  read_joins Updated OpRead h = refl
  read_joins Written OpRead h = refl
  read_joins (Merged o) OpRead h = refl
  read_joins Mixed OpRead h = refl
  read_joins k OpRw h = refl
  read_joins k OpWrite h = absurd (false≢true h)
  read_joins k (OpReduce o) h = absurd (false≢true h)

  pub reader : (n a : ℕ) → a < n → reach a ≡ true → reading (access_of (arg a)) ≡ true → is_read (C n) ≡ true
  reader zero a lt r h = absurd (omega arith)
  reader (suc n) a lt r h = ⊎_elim
      (λ (i : a ≡ n). ap is_read (cond-true (reach n) (joined (C n) (access_of (arg n))) (C n) (ap reach (sym i) ∙ r))
      ∙ read_joins (C n) (access_of (arg n)) (ap (λ z. reading (access_of (arg z))) (sym i) ∙ h))
      (λ (ne : a ≡ n → ⊥).
      let before : is_read (C n) ≡ true = reader n a (omega arith) r h in
      ⊎_elim
      (λ (t : reach n ≡ true). ap is_read (cond-true (reach n) (joined (C n) (access_of (arg n))) (C n) t) ∙ read_keeps (C n) (access_of (arg n)) before)
      (λ (t : reach n ≡ false). ap is_read (cond-false (reach n) (joined (C n) (access_of (arg n))) (C n) t) ∙ before)
      (cases_Bool (reach n)))
      (cases_eq a n)
