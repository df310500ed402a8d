-- The laws hold of the ring.
use Rattle.std.proofs.Common.{◌≡◌, ℕ, ℤ, zero, suc, ◌<◌, ◌≤◌, pos, ◌+ℤ◌, Bool, true, false, cond, ◌⊎◌, inl, inr, refl, sym, ap, subst, ◌∙◌, arith, ⊎_elim, Some, None, FitsSigned, w32}
use Rattle.std.specs.Prelude.{◌&&◌, ◌||◌, ◌==◌, not, nat_lt, ◌↔◌}
use Rattle.std.specs.Int.{int_wrap}
use Rattle.std.proofs.lemmas.Int.{SFits-int_wrap}
use Rattle.std.proofs.lemmas.Bool.{cases_eq, cases_lt, false≢true, and_parts, and_from, and_left, and_right, or_left, or_right, cond-true, cond-false, cond_both, eqb-true, eq-eqb, ne_eqb, ltb-true, lt-ltb}
use Rattle.op_num.specs.Reduction.{Reduction, Add}
use Rattle.schedule_steps.specs.Outline.{by_colour}
use Rattle.schedule_model.specs.Cells.{Cell, Data, Variable, DatCell, VarCell, Store, InRange}
use Rattle.schedule_model.specs.History.{ByHistory, exchanged_by_bit}
use Rattle.schedule_model.specs.Effects.{Finished, Touch, Untouched, Read, Written, Merged, is_read, is_modified, CellAlike, Alike, Independent}
use Rattle.schedule_model.specs.Program.{Free, Reduce, Ordered, is_free}
use Rattle.schedule_model.specs.Setup.{owner_of, has_copy, executes, outline}
use Rattle.schedule_model.specs.Laws.{Kernels, Items, Reaches, Lawful, Coloured}
use Rattle.schedule_model.specs.Ring.{other, x, r, is_x, is_r, is_sum, kind, site, set, touch, reduces, written, added, moved, unless, run, modifies, needs, sends, import_execute, core, ring, is_one, is_base, is_variable, kept_variables, first_value, one, base}

-- the law on the one bit
abbrev pub OneBit : Type 0
OneBit = (modifies needs exchanged : ℕ → Bool) → ByHistory modifies needs exchanged ↔ ((k : ℕ) → exchanged k ≡ exchanged_by_bit modifies needs k)

-- ---- cells
pub record OfNode (c : DatCell) (d : ℕ) : Type 0 where
  pub of_dat : c.dat ≡ d
  pub below : c.element < 2

pub of_node : (c : DatCell) (d : ℕ) → ((c.dat == d) && (nat_lt c.element 2 && (c.component == 0))) ≡ true → OfNode c d
of_node c d h =
    let a : ((c.dat == d) ≡ true) × ((nat_lt c.element 2 && (c.component == 0)) ≡ true) = and_parts (c.dat == d) (nat_lt c.element 2 && (c.component == 0)) h in
    let b : (nat_lt c.element 2 ≡ true) × ((c.component == 0) ≡ true) = and_parts (nat_lt c.element 2) (c.component == 0) a.1 in
    record { of_dat = eqb-true c.dat d a.0; below = ltb-true c.element 2 b.0 }

pub x_no_r : (c : DatCell) → is_x c ≡ true → is_r c ≡ false
x_no_r c h = and_left (c.dat == 1) (nat_lt c.element 2 && (c.component == 0)) (ne_eqb c.dat 1 (λ e. let z : c.dat ≡ 0 = (of_node c 0 h).of_dat in omega arith))

module _ (faulty : Bool) where
  pub owner_in : (c : DatCell) → c.element < 2 → owner_of (ring faulty) c ≡ c.element
  owner_in c lt = cond-true (nat_lt c.element 2) c.element 0 (lt-ltb c.element 2 lt)

  owner_below : (c : DatCell) → owner_of (ring faulty) c < 2
  owner_below c = cond_both (nat_lt c.element 2) c.element 0 (λ z. z < 2) (λ t. ltb-true c.element 2 t) (λ t. omega arith)

  -- an import is the other rank's node
  pub copy_is : (t : ℕ) (c : DatCell) → has_copy (ring faulty) t c ≡ true → (c.element < 2) × (c.element ≡ other t)
  copy_is t c h =
      let a : (nat_lt c.element 2 ≡ true) × ((false || (c.element == other t)) ≡ true) = and_parts (nat_lt c.element 2) (false || (c.element == other t)) h in
      (ltb-true c.element 2 a.0, eqb-true c.element (other t) a.1)

  pub other_not : (t : ℕ) → t < 2 → other t ≡ t → ⊥
  other_not zero lt e = omega arith
  other_not (suc zero) lt e = omega arith
  other_not (suc (suc n)) lt e = omega arith

  pub other_is : (t e : ℕ) → t < 2 → e < 2 → (e ≡ t → ⊥) → e ≡ other t
  other_is zero e lt le ne = omega arith
  other_is (suc zero) e lt le ne = omega arith
  other_is (suc (suc n)) e lt le ne = absurd (omega arith)

  -- ---- values
  good_cond : (b : Bool) (v w : ℤ) → (b ≡ true → FitsSigned w32 v) → FitsSigned w32 w → FitsSigned w32 (cond b v w)
  good_cond b v w gv gw = cond_both b v w (FitsSigned w32) gv (λ t. gw)

  good_written : (e : ℕ) (s : Store) → e < 2 → InRange s → InRange (written e s)
  good_written e s lt g (Data c) = good_cond (is_x c && (c.element == e)) (int_wrap w32 (pos (suc e) +ℤ (s base +ℤ s base))) (s (Data c))
      (λ t. SFits-int_wrap w32 (pos (suc e) +ℤ (s base +ℤ s base))) (g (Data c))
  good_written e s lt g (Variable v) = g (Variable v)

  good_added : (s : Store) → InRange s → InRange (added s)
  good_added s g (Data c) = good_cond (is_r c) (int_wrap w32 (s (Data c) +ℤ s (x (other c.element)))) (s (Data c)) (λ t. SFits-int_wrap w32 (s (Data c) +ℤ s (x (other c.element)))) (g (Data c))
  good_added s g (Variable v) = good_cond (is_sum v) (int_wrap w32 (s (Variable v) +ℤ s one)) (s (Variable v)) (λ t. SFits-int_wrap w32 (s (Variable v) +ℤ s one)) (g (Variable v))

  good_moved : (e : ℕ) (s : Store) → InRange s → InRange (moved e s)
  good_moved e s g (Data c) = good_cond (is_x c && (c.element == e)) (int_wrap w32 (s (Data c) +ℤ s (r e))) (s (Data c)) (λ t. SFits-int_wrap w32 (s (Data c) +ℤ s (r e))) (g (Data c))
  good_moved e s g (Variable v) = g (Variable v)

  good_unless : (f : Bool) (e : ℕ) (s t : Store) → InRange s → unless f e s ≡ Finished t → InRange t
  good_unless true e s t g h = cc
  good_unless false e s t g h = subst InRange (let i : s ≡ t = cc in i) g

  good_run : (k e : ℕ) (s t : Store) → e < 2 → InRange s → run faulty k e s ≡ Finished t → InRange t
  good_run zero e s t lt g h = subst InRange (let i : written e s ≡ t = cc in i) (good_written e s lt g)
  good_run (suc zero) e s t lt g h = good_unless faulty e (added s) t (good_added s g) h
  good_run (suc (suc n)) e s t lt g h = subst InRange (let i : moved e s ≡ t = cc in i) (good_moved e s g)

  -- ---- kernels
  written_alike : (b : Bool) (v w a d : ℤ) → v ≡ w → CellAlike (cond b Written Untouched) a (cond b v a) d (cond b w d)
  written_alike true v w a d same = same
  written_alike false v w a d same = (refl, refl)

  read_alike : (b : Bool) (a d : ℤ) → CellAlike (cond b Read Untouched) a a d d
  read_alike true a d = (refl, refl)
  read_alike false a d = (refl, refl)

  sum_alike : (b c : Bool) (a m d n : ℤ) → m ≡ n → CellAlike (cond b (Merged Add) (cond c Read Untouched)) a (cond b (int_wrap w32 (a +ℤ m)) a) d (cond b (int_wrap w32 (d +ℤ n)) d)
  sum_alike true c a m d n same = (m, refl, ap (λ z. int_wrap w32 (d +ℤ z)) (sym same))
  sum_alike false c a m d n same = read_alike c a d

  added_alike : (b c : Bool) (a m d n : ℤ) → (b ≡ true → c ≡ false) → m ≡ n
      → CellAlike (cond b Read (cond c (Merged Add) Untouched)) a (cond c (int_wrap w32 (a +ℤ m)) a) d (cond c (int_wrap w32 (d +ℤ n)) d)
  added_alike true true a m d n apart same = absurd (false≢true (sym (apart refl)))
  added_alike true false a m d n apart same = (refl, refl)
  added_alike false true a m d n apart same = (m, refl, ap (λ z. int_wrap w32 (d +ℤ z)) (sym same))
  added_alike false false a m d n apart same = (refl, refl)

  reads_other : (e n : ℕ) → is_read (touch 1 e (x (other n))) ≡ true
  reads_other e zero = refl
  reads_other e (suc n) = refl

  all_alike : (e : ℕ) (s w : Store) → ((c : Cell) → is_read (touch 1 e c) ≡ true → s c ≡ w c) → (c : Cell) → CellAlike (touch 1 e c) (s c) (added s c) (w c) (added w c)
  all_alike e s w agree (Data c) = added_alike (is_x c) (is_r c) (s (Data c)) (s (x (other c.element))) (w (Data c))
      (w (x (other c.element))) (x_no_r c) (agree (x (other c.element)) (reads_other e c.element))
  all_alike e s w agree (Variable v) = sum_alike (is_sum v) (is_one v) (s (Variable v)) (s one) (w (Variable v)) (w one) (agree one refl)

  unless_alike : (f : Bool) (e : ℕ) (cl : Cell → Touch) (s w t u : Store) → ((c : Cell) → CellAlike (cl c) (s c) (t c) (w c) (u c)) → Alike cl s w (unless f e t) (unless f e u)
  unless_alike true e cl s w t u h = refl
  unless_alike false e cl s w t u h = h

  all_written : (e : ℕ) (s w : Store) → ((c : Cell) → is_read (touch 0 e c) ≡ true → s c ≡ w c) → (c : Cell) → CellAlike (touch 0 e c) (s c) (written e s c) (w c) (written e w c)
  all_written e s w agree (Data c) = written_alike (is_x c && (c.element == e)) (int_wrap w32 (pos (suc e) +ℤ (s base +ℤ s base)))
      (int_wrap w32 (pos (suc e) +ℤ (w base +ℤ w base))) (s (Data c)) (w (Data c))
      (ap (λ z. int_wrap w32 (pos (suc e) +ℤ (z +ℤ z))) (agree base refl))
  all_written e s w agree (Variable v) = read_alike (is_base v) (s (Variable v)) (w (Variable v))

  independent : (k e : ℕ) → kind k ≡ Free → e < 2 → Independent (run faulty k e) (touch k e)
  independent zero e fr lt = λ s w gs gw agree. all_written e s w agree
  independent (suc zero) e fr lt = λ s w gs gw agree. unless_alike faulty e (touch 1 e) s w (added s) (added w) (all_alike e s w agree)
  independent (suc (suc zero)) e fr lt = absurd (false≢true (ap is_free fr))
  independent (suc (suc (suc zero))) e fr lt = absurd (false≢true (ap is_free fr))
  independent (suc (suc (suc (suc n)))) e fr lt = absurd (false≢true (ap is_free fr))

  stays : (k e : ℕ) (s t : Store) (c : DatCell) → kind k ≡ Ordered → e < 2 → run faulty k e s ≡ Finished t → modifies k c.dat ≡ false → t (Data c) ≡ s (Data c)
  stays zero e s t c od lt h m = cc
  stays (suc zero) e s t c od lt h m = cc
  stays (suc (suc zero)) e s t c od lt h m = cc
  stays (suc (suc (suc zero))) e s t c od lt h m =
      let i : moved e s ≡ t = cc in
      ap (λ z. z (Data c)) (sym i)
      ∙ cond-false (is_x c && (c.element == e)) (int_wrap w32 (s (Data c) +ℤ s (r e))) (s (Data c))
      (and_left (is_x c) (c.element == e) (and_left (c.dat == 0) (nat_lt c.element 2 && (c.component == 0)) m))
  stays (suc (suc (suc (suc n)))) e s t c od lt h m = cc

  -- ---- touches
  untouched : (b : Bool) → b ≡ false → cond b Written Untouched ≡ Untouched
  untouched true h = absurd (false≢true (sym h))
  untouched false h = refl

  is_written : (b : Bool) → is_modified (cond b Written Untouched) ≡ true → b ≡ true
  is_written true h = refl
  is_written false h = absurd (false≢true h)

  -- the cell's node is the element
  pub writes_own : (e : ℕ) (c : DatCell) → is_modified (touch 0 e (Data c)) ≡ true → OfNode c 0 × (c.element ≡ e)
  writes_own e c h =
      let a : (is_x c ≡ true) × ((c.element == e) ≡ true) = and_parts (is_x c) (c.element == e) (is_written (is_x c && (c.element == e)) h) in
      (of_node c 0 a.0, eqb-true c.element e a.1)

  pub is_merged : (b c : Bool) → is_modified (cond b Read (cond c (Merged Add) Untouched)) ≡ true → (b ≡ false) × (c ≡ true)
  is_merged true c h = absurd (false≢true h)
  is_merged false true h = (refl, refl)
  is_merged false false h = absurd (false≢true h)

  merged_touch : (b c : Bool) → (b ≡ false) × (c ≡ true) → cond b Read (cond c (Merged Add) Untouched) ≡ Merged Add
  merged_touch true c h = absurd (false≢true (sym h.0))
  merged_touch false true h = refl
  merged_touch false false h = absurd (false≢true h.1)

  shares : (k a b : ℕ) (c : DatCell) → kind k ≡ Free → a < 2 → b < 2 → (a ≡ b → ⊥) → is_modified (touch k a (Data c)) ≡ true
      → (touch k b (Data c) ≡ Untouched) ⊎ ((o : Reduction) × (touch k a (Data c) ≡ Merged o) × (touch k b (Data c) ≡ Merged o))
  shares zero a b c fr la lb ne h = inl (untouched (is_x c && (c.element == b)) (and_right (is_x c) (c.element == b) (ne_eqb c.element b (λ e. ne (sym (writes_own a c h).1 ∙ e)))))
  shares (suc zero) a b c fr la lb ne h =
      let m : touch 1 a (Data c) ≡ Merged Add = merged_touch (is_x c) (is_r c) (is_merged (is_x c) (is_r c) h) in
      inr (Add, m, m)
  shares (suc (suc zero)) a b c fr la lb ne h = cc
  shares (suc (suc (suc zero))) a b c fr la lb ne h = cc
  shares (suc (suc (suc (suc n)))) a b c fr la lb ne h = cc

  pub only_read : (b : Bool) → is_modified (cond b Read Untouched) ≡ false
  only_read true = refl
  only_read false = refl

  sum_reaches : (b c : Bool) → Reaches (cond b (Some Add) None) (cond b (Merged Add) (cond c Read Untouched))
  sum_reaches true c = refl
  sum_reaches false c = only_read c

  reaches : (k e : ℕ) (v : VarCell) → kind k ≡ Free → e < 2 → Reaches (reduces (site k) v) (touch k e (Variable v))
  reaches zero e v fr lt = only_read (is_base v)
  reaches (suc zero) e v fr lt = sum_reaches (is_sum v) (is_one v)
  reaches (suc (suc zero)) e v fr lt = cc
  reaches (suc (suc (suc zero))) e v fr lt = cc
  reaches (suc (suc (suc (suc n)))) e v fr lt = cc

  pub modified : (k e : ℕ) (c : DatCell) → kind k ≡ Free → e < 2 → is_modified (touch k e (Data c)) ≡ true → modifies k c.dat ≡ true
  modified zero e c fr lt h = eq-eqb c.dat 0 (writes_own e c h).0.of_dat
  modified (suc zero) e c fr lt h = eq-eqb c.dat 1 (of_node c 1 (is_merged (is_x c) (is_r c) h).1).of_dat
  modified (suc (suc zero)) e c fr lt h = cc
  modified (suc (suc (suc zero))) e c fr lt h = cc
  modified (suc (suc (suc (suc n)))) e c fr lt h = cc

  -- ---- items and exchanges
  reduce_after : (k : ℕ) → kind (suc k) ≡ Reduce → (kind k ≡ Free) × (site (suc k) ≡ site k)
  reduce_after zero h = (cc, cc)
  reduce_after (suc zero) h = (refl, refl)
  reduce_after (suc (suc zero)) h = (cc, cc)
  reduce_after (suc (suc (suc n))) h = (cc, cc)

  reduce_next : (k : ℕ) (v : VarCell) (o : Reduction) → kind k ≡ Free → reduces (site k) v ≡ Some o → kind (suc k) ≡ Reduce
  reduce_next zero v o fr h = cc
  reduce_next (suc zero) v o fr h = refl
  reduce_next (suc (suc zero)) v o fr h = cc
  reduce_next (suc (suc (suc zero))) v o fr h = cc
  reduce_next (suc (suc (suc (suc n)))) v o fr h = cc

  last_item : (n : ℕ) → 5 ≡ suc n → kind n ≡ Free → ⊥
  last_item zero e fr = omega arith
  last_item (suc zero) e fr = omega arith
  last_item (suc (suc zero)) e fr = cc
  last_item (suc (suc (suc zero))) e fr = cc
  last_item (suc (suc (suc (suc n)))) e fr = cc

  by_bit : (b : Bool) → b ≡ (b && (b || (false && not false)))
  by_bit true = refl
  by_bit false = refl

  exchanged_is : (d k : ℕ) → needs k d ≡ exchanged_by_bit (λ i. modifies i d) (λ i. needs i d) k
  exchanged_is d zero = refl
  exchanged_is d (suc zero) = by_bit (d == 0)
  exchanged_is d (suc (suc n)) = refl

  needs_free : (k d : ℕ) → needs k d ≡ true → kind k ≡ Free
  needs_free zero d h = absurd (false≢true h)
  needs_free (suc zero) d h = refl
  needs_free (suc (suc n)) d h = absurd (false≢true h)

  -- ---- owners and halos
  imports_other : (t : ℕ) (c : DatCell) → t < 2 → has_copy (ring faulty) t c ≡ true → owner_of (ring faulty) c ≡ t → ⊥
  imports_other t c lt copy own = let a : (c.element < 2) × (c.element ≡ other t) = copy_is t c copy in other_not t lt (sym a.1 ∙ (sym (owner_in c a.0) ∙ own))

  pub all_edges : (t e : ℕ) → t < 2 → e < 2 → executes (ring faulty) 1 t e ≡ true
  all_edges t e lt le = ⊎_elim
      (λ (i : e ≡ t). or_left (e == t) (true && (e == other t)) (eq-eqb e t i))
      (λ (ne : e ≡ t → ⊥). or_right (e == t) (true && (e == other t)) (eq-eqb e (other t) (other_is t e lt le ne)))
      (cases_eq e t)

  writes_owned : (e : ℕ) (c : DatCell) → is_modified (touch 0 e (Data c)) ≡ true → owner_of (ring faulty) c ≡ e
  writes_owned e c h = let a : OfNode c 0 × (c.element ≡ e) = writes_own e c h in owner_in c a.0.below ∙ a.1

  covers : (k e : ℕ) (c : DatCell) → kind k ≡ Free → e < 2 → is_modified (touch k e (Data c)) ≡ true → executes (ring faulty) k (owner_of (ring faulty) c) e ≡ true
  covers zero e c fr lt h = or_left (e == owner_of (ring faulty) c) (false && import_execute (owner_of (ring faulty) c) 0 e) (eq-eqb e (owner_of (ring faulty) c) (sym (writes_owned e c h)))
  covers (suc zero) e c fr lt h = all_edges (owner_of (ring faulty) c) e (owner_below c) lt
  covers (suc (suc zero)) e c fr lt h = cc
  covers (suc (suc (suc zero))) e c fr lt h = cc
  covers (suc (suc (suc (suc n)))) e c fr lt h = cc

  core_modifies : (k t e : ℕ) (c : DatCell) → kind k ≡ Free → t < 2 → e < 2 → executes (ring faulty) k t e ≡ true → core t (set k) e ≡ true
      → is_modified (touch k e (Data c)) ≡ true → owner_of (ring faulty) c ≡ t
  core_modifies zero t e c fr lt le ex co h = writes_owned e c h ∙ eqb-true e t co
  core_modifies (suc zero) t e c fr lt le ex co h = absurd (false≢true co)
  core_modifies (suc (suc zero)) t e c fr lt le ex co h = cc
  core_modifies (suc (suc (suc zero))) t e c fr lt le ex co h = cc
  core_modifies (suc (suc (suc (suc n)))) t e c fr lt le ex co h = cc

  unread : (b : Bool) → is_read (cond b Written Untouched) ≡ true → ⊥
  unread true h = false≢true h
  unread false h = false≢true h

  is_read_x : (b c : Bool) → is_read (cond b Read (cond c (Merged Add) Untouched)) ≡ true → b ≡ true
  is_read_x true c h = refl
  is_read_x false true h = absurd (false≢true h)
  is_read_x false false h = absurd (false≢true h)

  core_reads : (k t e : ℕ) (c : DatCell) → kind k ≡ Free → t < 2 → e < 2 → executes (ring faulty) k t e ≡ true → is_read (touch k e (Data c)) ≡ true
      → (owner_of (ring faulty) c ≡ t) ⊎ ((has_copy (ring faulty) t c ≡ true) × (needs k c.dat ≡ true) × (core t (set k) e ≡ false))
  core_reads zero t e c fr lt le ex h = absurd (unread (is_x c && (c.element == e)) h)
  core_reads (suc zero) t e c fr lt le ex h =
      let a : OfNode c 0 = of_node c 0 (is_read_x (is_x c) (is_r c) h) in
      ⊎_elim
      (λ (i : c.element ≡ t). inl (owner_in c a.below ∙ i))
      (λ (ne : c.element ≡ t → ⊥). inr (
        and_from (nat_lt c.element 2) (false || (c.element == other t)) (lt-ltb c.element 2 a.below)
            (eq-eqb c.element (other t) (other_is t c.element lt a.below ne)),
        eq-eqb c.dat 0 a.of_dat,
        refl,
      ))
      (cases_eq c.element t)
  core_reads (suc (suc zero)) t e c fr lt le ex h = cc
  core_reads (suc (suc (suc zero))) t e c fr lt le ex h = cc
  core_reads (suc (suc (suc (suc n)))) t e c fr lt le ex h = cc

  pub goes : (t : ℕ) → t < 2 → sends 1 (other t) t ≡ true
  goes zero lt = refl
  goes (suc zero) lt = refl
  goes (suc (suc n)) lt = absurd (omega arith)

  linked : (k t : ℕ) (c : DatCell) → kind k ≡ Free → t < 2 → has_copy (ring faulty) t c ≡ true → needs k c.dat ≡ true → sends k (owner_of (ring faulty) c) t ≡ true
  linked zero t c fr lt copy h = absurd (false≢true h)
  linked (suc zero) t c fr lt copy h = let a : (c.element < 2) × (c.element ≡ other t) = copy_is t c copy in ap (λ s. sends 1 s t) (owner_in c a.0 ∙ a.1) ∙ goes t lt
  linked (suc (suc n)) t c fr lt copy h = absurd (false≢true h)

  first_in_range : InRange first_value
  first_in_range (Data c) = record { sfits = omega arith }
  first_in_range (Variable v) = good_cond (is_one v) (pos 1) (pos 0) (λ t. record { sfits = omega arith }) (record { sfits = omega arith })

  pub kernels : Kernels (ring faulty)
  kernels = record {
    start_in_range = first_in_range;
    run_in_range = λ k e s t lp. good_run k e s t;
    host_in_range = λ k s v o g h y.
        (let i : kept_variables s ≡ v = cc in subst (λ f. FitsSigned w32 (f y)) i
        (good_cond (is_variable y) (s (Variable y)) (pos 0) (λ t. g (Variable y)) (record { sfits = omega arith })));
    independent = independent;
    stays = stays;
  }

  pub items : OneBit → Items (ring faulty)
  items bit = record {
    first_item = λ h. cc;
    reduce_after = reduce_after;
    reduce_next = reduce_next;
    last_item = last_item;
    exchanges = λ d. (bit (λ i. modifies i d) (λ i. needs i d) (λ i. needs i d)).1 (exchanged_is d);
    needs_free = needs_free;
    some_rank = omega arith;
    owners = λ s e lt. lt;
  }

  pub lawful : OneBit → Lawful (ring faulty)
  lawful bit = record {
    kernels = kernels;
    items = items bit;
    shares = shares;
    reaches = reaches;
    modified = modified;
    imports_other = imports_other;
    covers = covers;
    core_modifies = core_modifies;
    core_reads = core_reads;
    linked = linked;
  }

  other_less : (a b : ℕ) → a < 2 → b < 2 → a < b → nat_lt (other b) (other a) ≡ true
  other_less zero zero la lb lt = absurd (omega arith)
  other_less zero (suc b) la lb lt = refl
  other_less (suc a) b la lb lt = absurd (omega arith)

  -- the greater element goes first
  pub ordered : (k t a b : ℕ) → a < 2 → b < 2 → (a ≡ b → ⊥) → (by_colour (outline (ring faulty)) k t a b ≡ true) ⊎ (by_colour (outline (ring faulty)) k t b a ≡ true)
  ordered k t a b la lb ne = ⊎_elim
      (λ (l : a < b). inr (or_left (nat_lt (other b) (other a)) ((b == a) && nat_lt 0 0) (other_less a b la lb l)))
      (λ (l : b ≤ a). inl (or_left (nat_lt (other a) (other b)) ((a == b) && nat_lt 0 0) (other_less b a lb la (let z : a ≡ b → ⊥ = ne in omega arith))))
      (cases_lt a b)

  pub coloured : Coloured (ring faulty)
  coloured k t a b c fr lt la lb xa xb ne wa wb = ordered k t a b la lb ne
