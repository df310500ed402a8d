-- What two runs of one kernel agree on while they go on.
use Rattle.std.proofs.Common.{◌≡◌, ◌≢◌, ℕ, ℤ, pos, negsuc, ◌+◌, ◌<◌, List, [], length, Option, Some, None, Bool, true, false, cond, refl, sym, ap, ◌∙◌, subst, inl, inr, arith, ◌+ℤ◌, ◌-ℤ◌, FitsSigned}
use Rattle.std.specs.Prelude.{slice_index_or, neg_ℤ}
use Rattle.std.proofs.lemmas.Int.{int_wrap-add_left, int_wrap-add_right, ints}
use Rattle.std.specs.Int.{int_wrap, w32}
use Rattle.op_num.specs.Reduction.{Reduction, Add, merged, unit_of}
use Rattle.op_num.proofs.Public.{commuting}
use Rattle.kernel_model.specs.Numbers.{sum, difference}
use Rattle.kernel_model.specs.Meaning.{Store, Target, target_at, read_arg, store_arg}
use Rattle.op_num.specs.Access.{OpRead, OpWrite, OpRw, OpReduce}
use Rattle.kernel_model.specs.Obeys.{Mode, Assigned, HasAssigned, with_assigned}
use Rattle.kernel_model.specs.Independence.{same_cell, access, dim, SameStoredAliases, Alone, OnlyReduced, IsReducing}
use Rattle.kernel_model.proofs.Stores.{read_arg-store_arg, length-with_cell, length-array_with_cell, read-same_cell, same_cell_refl}

-- a component that is equal in both runs
pub data Known (modes : List Mode) (before : Assigned) (a i : ℕ) : Type 0 where
  known_read : access modes a ≡ OpRead → Known modes before a i
  known_rw : access modes a ≡ OpRw → Known modes before a i
  known_write : access modes a ≡ OpWrite → HasAssigned before a i → Known modes before a i

-- ---- amounts

pub start_merged : (r : Reduction) (x : ℤ) → FitsSigned w32 x → x ≡ merged r x (unit_of r)
start_merged r x f = sym ((commuting r).commutes x (unit_of r) ∙ (commuting r).keeps x f)

pub more_merged : (r : Reduction) (x d y : ℤ) → merged r (merged r x d) y ≡ merged r x (merged r d y)
more_merged r x d y = (commuting r).associates x d y

pub merged_before : (r : Reduction) (x d y : ℤ) → merged r y (merged r x d) ≡ merged r x (merged r y d)
merged_before r x d y =
    sym ((commuting r).associates y x d) ∙ ap (λ z. merged r z d) ((commuting r).commutes y x) ∙ (commuting r).associates x y d

pub sum_merges : (x y : ℤ) → sum x y ≡ merged Add x y
unfolding sum
sum_merges x y = refl

pub more_added : (x d y : ℤ) → sum (merged Add x d) y ≡ merged Add x (sum d y)
more_added x d y = sum_merges (merged Add x d) y ∙ more_merged Add x d y ∙ ap (merged Add x) (sym (sum_merges d y))

pub more_taken : (x d y : ℤ) → difference (merged Add x d) y ≡ merged Add x (difference d y)
unfolding difference
more_taken x d y =
    let n : int_wrap w32 (int_wrap w32 (x +ℤ d) -ℤ y) ≡ int_wrap w32 (int_wrap w32 (x +ℤ d) +ℤ neg_ℤ y) = ap (int_wrap w32) (omega (arith, ints)) in
    let e : (x +ℤ d) +ℤ neg_ℤ y ≡ x +ℤ (d -ℤ y) = omega (arith, ints) in
    n ∙ int_wrap-add_left w32 (x +ℤ d) (neg_ℤ y) ∙ ap (int_wrap w32) e ∙ sym (int_wrap-add_right w32 x (d -ℤ y))

module _ (modes : List Mode) (ts us : List Target) (aliases : SameStoredAliases modes ts us) (s0 t0 : Store) where
  -- what one amount changed in both runs
  abbrev pub Amount : Reduction → Store → Store → ℕ → ℕ → Type 0
  Amount r s t a i = (d : ℤ) × (read_arg ts s a i ≡ merged r (read_arg ts s0 a i) d) × (read_arg us t a i ≡ merged r (read_arg us t0 a i) d)

  pub record Agrees (before : Assigned) (s t : Store) : Type 0 where
    pub arrays_s : (a i : ℕ) → i < dim modes a → (target_at ts a).array < length s
    pub arrays_t : (a i : ℕ) → i < dim modes a → (target_at us a).array < length t
    pub cells_s : (a i : ℕ) → i < dim modes a → (target_at ts a).from + i < length (slice_index_or s (target_at ts a).array [])
    pub cells_t : (a i : ℕ) → i < dim modes a → (target_at us a).from + i < length (slice_index_or t (target_at us a).array [])
    pub known : (a i : ℕ) → i < dim modes a → Known modes before a i → read_arg ts s a i ≡ read_arg us t a i
    pub amounts : (r : Reduction) (a i : ℕ) → i < dim modes a → Alone modes r ts a i → Amount r s t a i
    pub mixed : (a i : ℕ) → i < dim modes a → OnlyReduced modes ts a i → read_arg ts s0 a i ≡ read_arg us t0 a i → read_arg ts s a i ≡ read_arg us t a i

  -- what is read after both runs stored
  record Stored (a i : ℕ) (s t s' t' : Store) (x y : ℤ) : Type 0 where
    here_s : (b j : ℕ) → j < dim modes b → same_cell ts a i b j ≡ true → read_arg ts s' b j ≡ x
    here_t : (b j : ℕ) → j < dim modes b → same_cell ts a i b j ≡ true → read_arg us t' b j ≡ y
    there_s : (b j : ℕ) → j < dim modes b → same_cell ts a i b j ≡ false → read_arg ts s' b j ≡ read_arg ts s b j
    there_t : (b j : ℕ) → j < dim modes b → same_cell ts a i b j ≡ false → read_arg us t' b j ≡ read_arg us t b j

  module _ (before : Assigned) (a i : ℕ) (lt : i < dim modes a) (stores : access modes a ≢ OpRead) (s t : Store) (ag : Agrees before s t) (x y : ℤ) where
    both_stored : Stored a i s t (store_arg ts s a i x) (store_arg us t a i y) x y
    both_stored =
        let rs = λ (b j : ℕ). read_arg-store_arg ts s a i b j x (ag.arrays_s a i lt) (ag.cells_s a i lt) in
        let rt = λ (b j : ℕ). read_arg-store_arg us t a i b j y (ag.arrays_t a i lt) (ag.cells_t a i lt) in
        record {
          here_s = λ b j l e. rs b j ∙ ap (λ c. cond c x (read_arg ts s b j)) e;
          here_t = λ b j l e. rt b j ∙ ap (λ c. cond c y (read_arg us t b j)) (sym (aliases a i b j lt l stores) ∙ e);
          there_s = λ b j l e. rs b j ∙ ap (λ c. cond c x (read_arg ts s b j)) e;
          there_t = λ b j l e. rt b j ∙ ap (λ c. cond c y (read_arg us t b j)) (sym (aliases a i b j lt l stores) ∙ e);
        }

    -- the shape stays, and the rest is given
    reshaped : (after : Assigned) →
        ((b j : ℕ) → j < dim modes b → Known modes after b j
        → read_arg ts (store_arg ts s a i x) b j ≡ read_arg us (store_arg us t a i y) b j)
        → ((r : Reduction) (b j : ℕ) → j < dim modes b → Alone modes r ts b j → Amount r (store_arg ts s a i x) (store_arg us t a i y) b j)
        → ((b j : ℕ) → j < dim modes b → OnlyReduced modes ts b j → read_arg ts s0 b j ≡ read_arg us t0 b j
        → read_arg ts (store_arg ts s a i x) b j ≡ read_arg us (store_arg us t a i y) b j)
        → Agrees after (store_arg ts s a i x) (store_arg us t a i y)
    reshaped after k m n = record {
      arrays_s = λ b j l. let e = length-with_cell s (target_at ts a).array ((target_at ts a).from + i) x in subst (λ n. (target_at ts b).array < n) (sym e) (ag.arrays_s b j l);
      arrays_t = λ b j l. let e = length-with_cell t (target_at us a).array ((target_at us a).from + i) y in subst (λ n. (target_at us b).array < n) (sym e) (ag.arrays_t b j l);
      cells_s = λ b j l. let e = length-array_with_cell s (target_at ts a).array ((target_at ts a).from + i) (target_at ts b).array x
          (ag.arrays_s a i lt) in subst (λ n. (target_at ts b).from + j < n) (sym e) (ag.cells_s b j l);
      cells_t = λ b j l. let e = length-array_with_cell t (target_at us a).array ((target_at us a).from + i) (target_at us b).array y
          (ag.arrays_t a i lt) in subst (λ n. (target_at us b).from + j < n) (sym e) (ag.cells_t b j l);
      known = k;
      amounts = m;
      mixed = n;
    }

  -- a component elsewhere was assigned before
  still_assigned : (before : Assigned) (a i b j : ℕ) (ix : Option ℤ) → ((z : ℤ) → ix ≡ Some z → z ≡ pos i) → same_cell ts a i b j ≡ false
      → HasAssigned (with_assigned a ix before) b j → HasAssigned before b j
  still_assigned before a i b j None hz e h = h
  still_assigned before a i b j (Some (negsuc n)) hz e h = h
  still_assigned before a i b j (Some (pos n)) hz e (inr h) = h
  still_assigned before a i b j (Some (pos n)) hz e (inl h) =
      let z = hz (pos n) refl in
      let ni : n ≡ i = cc in
      let same : same_cell ts a i b j ≡ true = subst (λ c. same_cell ts a i c j ≡ true) h.0 (subst (λ c. same_cell ts a i a c ≡ true) (sym ni ∙ h.1) (same_cell_refl ts a i)) in
      absurd (let k : ⊥ = cc in k)

  not_assigned_inc : (before : Assigned) (a b j : ℕ) (ix : Option ℤ) → IsReducing modes (access modes a) → access modes b ≡ OpWrite
      → HasAssigned (with_assigned a ix before) b j → HasAssigned before b j
  not_assigned_inc before a b j None e f h = h
  not_assigned_inc before a b j (Some (negsuc n)) e f h = h
  not_assigned_inc before a b j (Some (pos n)) e f (inr h) = h
  not_assigned_inc before a b j (Some (pos n)) e f (inl h) =
      let g : access modes a ≡ OpWrite = ap (access modes) h.0 ∙ f in
      let h : IsReducing modes OpWrite = subst (IsReducing modes) g e in absurd (let k = h.1 in let z : ⊥ = cc in z)

  still_known : (before : Assigned) (a i b j : ℕ) (ix : Option ℤ) → ((z : ℤ) → ix ≡ Some z → z ≡ pos i) → same_cell ts a i b j ≡ false
      → Known modes (with_assigned a ix before) b j → Known modes before b j
  still_known before a i b j ix hz e (known_read f) = known_read f
  still_known before a i b j ix hz e (known_rw f) = known_rw f
  still_known before a i b j ix hz e (known_write f h) = known_write f (still_assigned before a i b j ix hz e h)

  known_beside_inc : (before : Assigned) (a b j : ℕ) (ix : Option ℤ) → IsReducing modes (access modes a) → Known modes (with_assigned a ix before) b j → Known modes before b j
  known_beside_inc before a b j ix e (known_read f) = known_read f
  known_beside_inc before a b j ix e (known_rw f) = known_rw f
  known_beside_inc before a b j ix e (known_write f h) = known_write f (not_assigned_inc before a b j ix e f h)

  -- one value is stored in both runs, not through a reducing argument
  pub same_stored : (before : Assigned) (a i : ℕ) (ix : Option ℤ) (s t : Store) (v : ℤ) → i < dim modes a
      → (IsReducing modes (access modes a) → ⊥) → access modes a ≢ OpRead → ((z : ℤ) → ix ≡ Some z → z ≡ pos i) → Agrees before s t
      → Agrees (with_assigned a ix before) (store_arg ts s a i v) (store_arg us t a i v)
  same_stored before a i ix s t v lt nred stores hz ag = reshaped before a i lt stores s t ag v v (with_assigned a ix before) eqs sums mixes
    where
      st : Stored a i s t (store_arg ts s a i v) (store_arg us t a i v) v v
      st = both_stored before a i lt stores s t ag v v

      eqs : (b j : ℕ) → j < dim modes b → Known modes (with_assigned a ix before) b j → read_arg ts (store_arg ts s a i v) b j ≡ read_arg us (store_arg us t a i v) b j
      eqs b j l k = pick (same_cell ts a i b j) refl
        where
          pick : (c : Bool) → same_cell ts a i b j ≡ c → read_arg ts (store_arg ts s a i v) b j ≡ read_arg us (store_arg us t a i v) b j
          pick true e = st.here_s b j l e ∙ sym (st.here_t b j l e)
          pick false e = st.there_s b j l e ∙ ag.known b j l (still_known before a i b j ix hz e k) ∙ sym (st.there_t b j l e)

      sums : (r : Reduction) (b j : ℕ) → j < dim modes b → Alone modes r ts b j → Amount r (store_arg ts s a i v) (store_arg us t a i v) b j
      sums r b j l alone = pick (same_cell ts a i b j) refl
        where
          pick : (c : Bool) → same_cell ts a i b j ≡ c → Amount r (store_arg ts s a i v) (store_arg us t a i v) b j
          pick true e = absurd (nred (r, alone a i lt e))
          pick false e = let m = ag.amounts r b j l alone in (m.0, st.there_s b j l e ∙ m.1, st.there_t b j l e ∙ m.2)

      mixes : (b j : ℕ) → j < dim modes b → OnlyReduced modes ts b j → read_arg ts s0 b j ≡ read_arg us t0 b j → read_arg ts (store_arg ts s a i v) b j ≡ read_arg us (store_arg us t a i v) b j
      mixes b j l only same = pick (same_cell ts a i b j) refl
        where
          pick : (c : Bool) → same_cell ts a i b j ≡ c → read_arg ts (store_arg ts s a i v) b j ≡ read_arg us (store_arg us t a i v) b j
          pick true e = st.here_s b j l e ∙ sym (st.here_t b j l e)
          pick false e = st.there_s b j l e ∙ ag.mixed b j l only same ∙ sym (st.there_t b j l e)

  -- one amount is merged in both runs through a reducing argument
  pub sum_stored : (r0 : Reduction) (before : Assigned) (a i : ℕ) (ix : Option ℤ) (s t : Store) (f : ℤ → ℤ) (g : ℤ → ℤ)
      → ((x d : ℤ) → f (merged r0 x d) ≡ merged r0 x (g d)) → i < dim modes a → access modes a ≡ OpReduce r0 → Agrees before s t
      → Agrees (with_assigned a ix before) (store_arg ts s a i (f (read_arg ts s a i))) (store_arg us t a i (f (read_arg us t a i)))
  sum_stored r0 before a i ix s t f g fg lt inc ag = reshaped before a i lt stores s t ag x y (with_assigned a ix before) eqs sums mixes
    where
      stores : access modes a ≢ OpRead
      stores r = let h : OpReduce r0 ≡ OpRead = sym inc ∙ r in cc

      x : ℤ
      x = f (read_arg ts s a i)

      y : ℤ
      y = f (read_arg us t a i)

      st : Stored a i s t (store_arg ts s a i x) (store_arg us t a i y) x y
      st = both_stored before a i lt stores s t ag x y

      one_way : (b j : ℕ) → j < dim modes b → same_cell ts a i b j ≡ true → read_arg ts s b j ≡ read_arg us t b j → read_arg ts (store_arg ts s a i x) b j ≡ read_arg us (store_arg us t a i y) b j
      one_way b j l e old =
          let p = read-same_cell ts s a i b j e in
          let q = read-same_cell us t a i b j (sym (aliases a i b j lt l stores) ∙ e) in
          st.here_s b j l e ∙ ap f (p ∙ old ∙ sym q) ∙ sym (st.here_t b j l e)

      eqs : (b j : ℕ) → j < dim modes b → Known modes (with_assigned a ix before) b j → read_arg ts (store_arg ts s a i x) b j ≡ read_arg us (store_arg us t a i y) b j
      eqs b j l k = pick (same_cell ts a i b j) refl
        where
          old : read_arg ts s b j ≡ read_arg us t b j
          old = ag.known b j l (known_beside_inc before a b j ix (r0, inc) k)

          pick : (c : Bool) → same_cell ts a i b j ≡ c → read_arg ts (store_arg ts s a i x) b j ≡ read_arg us (store_arg us t a i y) b j
          pick true e = one_way b j l e old
          pick false e = st.there_s b j l e ∙ old ∙ sym (st.there_t b j l e)

      sums : (r : Reduction) (b j : ℕ) → j < dim modes b → Alone modes r ts b j → Amount r (store_arg ts s a i x) (store_arg us t a i y) b j
      sums r b j l alone = pick (same_cell ts a i b j) refl
        where
          m : Amount r s t b j
          m = ag.amounts r b j l alone

          pick : (c : Bool) → same_cell ts a i b j ≡ c → Amount r (store_arg ts s a i x) (store_arg us t a i y) b j
          pick true e =
              let p = read-same_cell ts s a i b j e in
              let q = read-same_cell us t a i b j (sym (aliases a i b j lt l stores) ∙ e) in
              let both : OpReduce r0 ≡ OpReduce r = sym inc ∙ alone a i lt e in
              let eq : r0 ≡ r = cc in
              let m0 = subst (λ k. Amount k s t b j) (sym eq) m in
              let new : Amount r0 (store_arg ts s a i x) (store_arg us t a i y) b j = (
                g m0.0,
                st.here_s b j l e ∙ ap f (p ∙ m0.1) ∙ fg (read_arg ts s0 b j) m0.0,
                st.here_t b j l e ∙ ap f (q ∙ m0.2)
                    ∙ fg (read_arg us t0 b j) m0.0,
              ) in
              subst (λ k. Amount k (store_arg ts s a i x) (store_arg us t a i y) b j) eq new
          pick false e = (m.0, st.there_s b j l e ∙ m.1, st.there_t b j l e ∙ m.2)

      mixes : (b j : ℕ) → j < dim modes b → OnlyReduced modes ts b j → read_arg ts s0 b j ≡ read_arg us t0 b j → read_arg ts (store_arg ts s a i x) b j ≡ read_arg us (store_arg us t a i y) b j
      mixes b j l only same = pick (same_cell ts a i b j) refl
        where
          pick : (c : Bool) → same_cell ts a i b j ≡ c → read_arg ts (store_arg ts s a i x) b j ≡ read_arg us (store_arg us t a i y) b j
          pick true e = one_way b j l e (ag.mixed b j l only same)
          pick false e = st.there_s b j l e ∙ ag.mixed b j l only same ∙ sym (st.there_t b j l e)
