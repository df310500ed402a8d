use Rattle.std.proofs.Common.{◌≡◌, ℕ, ◌+◌, ◌*◌, ◌/◌, ◌%◌, ◌<◌, true, false, refl, sym, ap, subst, ◌∙◌, ⊎_elim, length, get_or, set}
use Rattle.std.specs.Prelude.{◌&&◌, ◌||◌, ◌==◌, ◌↔◌, nat_lt}
use Rattle.std.proofs.lemmas.Bool.{eq-eqb, eqb-true, ne_eqb, cases_eq, false≢true, or_cases, or_left, or_right, and_parts, and_from, lt-ltb, ltb-true}
use Rattle.std.proofs.lemmas.List.{get_or_read, get_or-set_same, get_or-set_other, length-set}
use Rattle.std.proofs.lemmas.Nat.{div-mul-add, mod-mul-add, div-add-mod'}
use Rattle.step_judge.specs.Marks.{Marks, no_marks, AllDone, LowerDone}
use Rattle.step_judge.specs.Run.{Run, block_at, colour, inner, begun_at, ended_at, AllEnded, lower, MayBegin}
use Rattle.step_judge.specs.RunKept.{Whole}

-- a place that begins
pub begin_whole : (v : Run) (p : ℕ) → Whole v → Whole (record { size = v.size; begun = set v.begun p true; blocks = v.blocks; colours = v.colours; core = v.core })
begin_whole v p w = record {
  sized = w.sized;
  fits = rw length-set w.fits;
  colours_of = w.colours_of;
  colours_done = w.colours_done;
  block_done = w.block_done;
  block_in = λ q lt. w.block_in q (rw length-set at lt);
  place_in = λ q lt. w.place_in q (rw length-set at lt);
  short = w.short;
  in_place = λ b t bl tl. rw length-set (w.in_place b t bl tl);
  closed = w.closed;
  core_each = rw length-set w.core_each;
  begins_first = λ q lt e. ⊎_elim
      (λ (same : q ≡ p). subst (λ z. get_or (set v.begun p true) z false ≡ true) (sym same) (get_or-set_same v.begun p true false (subst (λ z. z < length v.begun) same (rw length-set at lt))))
      (λ (ne : q ≡ p → ⊥). get_or-set_other v.begun p q true false ne ∙ w.begins_first q (rw length-set at lt) e)
      (cases_eq q p);
}

-- one block's marks and the colours' marks change
module _ (v : Run) (p : ℕ) (m cs : Marks) (w : Whole v) (inside : p < length v.begun) (same_of : m.of ≡ (block_at v (p / v.size)).of)
    (done : m.done ≡ set (block_at v (p / v.size)).done (p % v.size) true) where
  abbrev b : ℕ
  b = p / v.size

  abbrev after : Run
  after = record { size = v.size; begun = v.begun; blocks = set v.blocks b m; colours = cs; core = v.core }

  here : block_at after b ≡ m
  here = get_or-set_same v.blocks b m no_marks (w.block_in p inside)

  there : (i : ℕ) → (i ≡ b → ⊥) → block_at after i ≡ block_at v i
  there i ne = get_or-set_other v.blocks b i m no_marks ne

  of_same : (i : ℕ) → (block_at after i).of ≡ (block_at v i).of
  of_same i = ⊎_elim
      (λ (e : i ≡ b). subst (λ z. (block_at after z).of ≡ (block_at v z).of) (sym e) (ap (λ z. z.of) here ∙ same_of))
      (λ (ne : i ≡ b → ⊥). ap (λ z. z.of) (there i ne))
      (cases_eq i b)

  done_length : (i : ℕ) → length (block_at after i).done ≡ length (block_at v i).done
  done_length i = ⊎_elim
      (λ (e : i ≡ b). subst (λ z. length (block_at after z).done ≡ length (block_at v z).done) (sym e)
      (ap (λ z. length z.done) here ∙ (ap length done ∙ length-set (block_at v b).done (p % v.size) true)))
      (λ (ne : i ≡ b → ⊥). ap (λ z. length z.done) (there i ne))
      (cases_eq i b)

  same_place : (q : ℕ) → q / v.size ≡ b → q % v.size ≡ p % v.size → q ≡ p
  same_place q e f = sym (div-add-mod' q v.size) ∙ (ap (λ z. z * v.size + q % v.size) e ∙ (ap (λ z. b * v.size + z) f ∙ div-add-mod' p v.size))

  pub end_marks : (q : ℕ) → ended_at after q ≡ (q == p || ended_at v q)
  end_marks q = ⊎_elim
      (λ (e : q ≡ p). subst (λ z. ended_at after z ≡ (z == p || ended_at v z)) (sym e)
      (ap (λ z. get_or z.done (p % v.size) false) here ∙ (ap (λ z. get_or z (p % v.size) false) done
      ∙ (get_or-set_same (block_at v b).done (p % v.size) true false
      (subst (λ z. p % v.size < z) (sym (w.block_done b (w.block_in p inside))) (w.place_in p inside))
      ∙ sym (or_left (p == p) (ended_at v p) (eq-eqb p p refl))))))
      (λ (ne : q ≡ p → ⊥). other q ne ∙ sym (ap (λ z. z || ended_at v q) (ne_eqb q p ne)))
      (cases_eq q p)
    where
      other : (q : ℕ) → (q ≡ p → ⊥) → ended_at after q ≡ ended_at v q
      other q ne = ⊎_elim
          (λ (e : q / v.size ≡ b). subst (λ z. get_or (block_at after z).done (q % v.size) false ≡ get_or (block_at v z).done (q % v.size) false) (sym e)
          (ap (λ z. get_or z.done (q % v.size) false) here ∙ (ap (λ z. get_or z (q % v.size) false) done
          ∙ get_or-set_other (block_at v b).done (p % v.size) (q % v.size) true false (λ f. ne (same_place q e f)))))
          (λ (n : q / v.size ≡ b → ⊥). ap (λ z. get_or z.done (q % v.size) false) (there (q / v.size) n))
          (cases_eq (q / v.size) b)

  pub end_whole : length cs.of ≡ length v.colours.of → length cs.done ≡ length v.colours.done
      → ((i : ℕ) → (i ≡ b → ⊥) → get_or cs.done i false ≡ get_or v.colours.done i false) → ((get_or cs.done b false ≡ true) ↔ AllDone m)
      → begun_at v p ≡ true → Whole after
  end_whole co cd others this begun = record {
    sized = w.sized;
    fits = w.fits;
    colours_of = co ∙ (w.colours_of ∙ sym (length-set v.blocks b m));
    colours_done = cd ∙ (w.colours_done ∙ sym (length-set v.blocks b m));
    block_done = λ i lt. done_length i ∙ (w.block_done i (rw length-set at lt) ∙ ap length (sym (of_same i)));
    block_in = λ q lt. rw length-set (w.block_in q lt);
    place_in = λ q lt. subst (λ z. q % v.size < length z) (sym (of_same (q / v.size))) (w.place_in q lt);
    short = λ i t il tl. w.short i t (rw length-set at il) (subst (λ z. t < length z) (of_same i) tl);
    in_place = λ i t il tl. w.in_place i t (rw length-set at il) (subst (λ z. t < length z) (of_same i) tl);
    closed = λ i il. ⊎_elim
        (λ (e : i ≡ b). subst (λ z. (get_or cs.done z false ≡ true) ↔ AllDone (block_at after z)) (sym e) (subst (λ z. (get_or cs.done b false ≡ true) ↔ AllDone z) (sym here) this))
        (λ (ne : i ≡ b → ⊥). subst (λ z. (z ≡ true) ↔ AllDone (block_at after i)) (sym (others i ne))
        (subst (λ z. (get_or v.colours.done i false ≡ true) ↔ AllDone z) (sym (there i ne)) (w.closed i (rw length-set at il))))
        (cases_eq i b);
    core_each = w.core_each;
    begins_first = λ q lt e. ⊎_elim
        (λ (same : (q == p) ≡ true). subst (λ z. begun_at v z ≡ true) (sym (eqb-true q p same)) begun)
        (λ (old : ended_at v q ≡ true). w.begins_first q lt old)
        (or_cases (q == p) (ended_at v q) (sym (end_marks q) ∙ e));
  }

-- what the code wrote: the block that it read, and what came of it
pub record Wrote (v : Run) (p : ℕ) (old m : Marks) : Type 0 where
  pub read : old ≡ get_or v.blocks (p / v.size) old
  pub marked : m ≡ record { of = old.of; done = set old.done (p % v.size) true }

old_is : (v : Run) (p : ℕ) (old m : Marks) → Whole v → p < length v.begun → Wrote v p old m → old ≡ block_at v (p / v.size)
old_is v p old m w inside h = get_or_read v.blocks (p / v.size) old (w.block_in p inside) h.read no_marks

of_is : (v : Run) (p : ℕ) (old m : Marks) → Whole v → p < length v.begun → Wrote v p old m → m.of ≡ (block_at v (p / v.size)).of
of_is v p old m w inside h = ap (λ z. z.of) h.marked ∙ ap (λ z. z.of) (old_is v p old m w inside h)

done_is : (v : Run) (p : ℕ) (old m : Marks) → Whole v → p < length v.begun → Wrote v p old m → m.done ≡ set (block_at v (p / v.size)).done (p % v.size) true
done_is v p old m w inside h = ap (λ z. z.done) h.marked ∙ ap (λ z. set z.done (p % v.size) true) (old_is v p old m w inside h)

abbrev pub Wrote_run : Run → ℕ → Marks → Marks → Run
Wrote_run v p m cs = record { size = v.size; begun = v.begun; blocks = set v.blocks (p / v.size) m; colours = cs; core = v.core }

-- the last place of its block
pub last_whole : (v : Run) (p : ℕ) (old m cs : Marks) → Whole v → p < length v.begun → Wrote v p old m → begun_at v p ≡ true → AllDone m
    → cs ≡ record { of = v.colours.of; done = set v.colours.done (p / v.size) true } → Whole (Wrote_run v p m cs)
last_whole v p old m cs w inside h begun all e =
    end_whole v p m cs w inside (of_is v p old m w inside h) (done_is v p old m w inside h)
    (ap (λ z. length z.of) e)
    (ap (λ z. length z.done) e ∙ length-set v.colours.done (p / v.size) true)
    (λ i ne. ap (λ z. get_or z.done i false) e ∙ get_or-set_other v.colours.done (p / v.size) i true false ne)
    ((λ t. all), (λ t. ap (λ z. get_or z.done (p / v.size) false) e ∙ get_or-set_same v.colours.done (p / v.size) true false (subst (λ z. p / v.size < z) (sym w.colours_done) (w.block_in p inside))))
    begun

-- not the last
pub more_whole : (v : Run) (p : ℕ) (old m : Marks) → Whole v → p < length v.begun → Wrote v p old m → begun_at v p ≡ true → ended_at v p ≡ false → (AllDone m → ⊥) → Whole (Wrote_run v p m v.colours)
more_whole v p old m w inside h begun open_place more =
    end_whole v p m v.colours w inside (of_is v p old m w inside h) (done_is v p old m w inside h) refl refl (λ i ne. refl)
    ((λ t. absurd (false≢true (sym open_place ∙ (w.closed (p / v.size) (w.block_in p inside)).0 t (p % v.size) (w.place_in p inside)))), (λ all. absurd (more all)))
    begun

-- the counters' answer is that of the places
pub may_iff : (v : Run) (p : ℕ) → Whole v → p < length v.begun → (LowerDone v.colours (colour v p) × LowerDone (block_at v (p / v.size)) (inner v p)) ↔ MayBegin v p
may_iff v p w inside = (
  (λ (h : LowerDone v.colours (colour v p) × LowerDone (block_at v (p / v.size)) (inner v p)). λ q lt low. ⊎_elim
      (λ (c : nat_lt (colour v q) (colour v p) ≡ true).
      let bi : q / v.size < length v.blocks = w.block_in q lt in
      let bc : q / v.size < length v.colours.of = subst (λ z. q / v.size < z) (sym w.colours_of) bi in
      (w.closed (q / v.size) bi).0 (h.0 (q / v.size) bc (ltb-true _ _ c)) (q % v.size) (w.place_in q lt))
      (λ (c : ((q / v.size == p / v.size) && nat_lt (inner v q) (inner v p)) ≡ true).
      let both : ((q / v.size == p / v.size) ≡ true) × (nat_lt (inner v q) (inner v p) ≡ true) = and_parts _ _ c in
      let e : q / v.size ≡ p / v.size = eqb-true _ _ both.0 in
      let l : inner v q < inner v p = ltb-true _ _ both.1 in
      subst (λ z. get_or (block_at v z).done (q % v.size) false ≡ true) (sym e)
      (h.1 (q % v.size) (subst (λ z. q % v.size < length (block_at v z).of) e (w.place_in q lt)) (subst (λ z. get_or (block_at v z).of (q % v.size) 0 < inner v p) e l)))
      (or_cases _ _ low)),
  (λ h. (
    (λ i il low.
        let bi : i < length v.blocks = subst (λ z. i < z) w.colours_of il in
        (w.closed i bi).1 (λ t tl. task i t bi tl h (or_left _ _ (lt-ltb _ _ (subst (λ z. get_or v.colours.of z 0 < colour v p) (sym (div-mul-add i v.size t (w.short i t bi tl))) low))))),
    (λ t tl low.
        let bi : p / v.size < length v.blocks = w.block_in p inside in
        let d : (p / v.size * v.size + t) / v.size ≡ p / v.size = div-mul-add (p / v.size) v.size t (w.short (p / v.size) t bi tl) in
        let r : (p / v.size * v.size + t) % v.size ≡ t = mod-mul-add (p / v.size) v.size t (w.short (p / v.size) t bi tl) in
        task (p / v.size) t bi tl h (or_right _ _ (and_from _ _ (eq-eqb _ _ d) (lt-ltb _ _
        (subst (λ z. get_or (block_at v z).of ((p / v.size * v.size + t) % v.size) 0 < inner v p) (sym d) (subst (λ z. get_or (block_at v (p / v.size)).of z 0 < inner v p) (sym r) low)))))),
  )),
)
  where
    -- a task of a block is a place
    task : (i t : ℕ) → i < length v.blocks → t < length (block_at v i).of → MayBegin v p → lower v (i * v.size + t) p ≡ true → get_or (block_at v i).done t false ≡ true
    task i t bi tl h low =
        let d : (i * v.size + t) / v.size ≡ i = div-mul-add i v.size t (w.short i t bi tl) in
        let r : (i * v.size + t) % v.size ≡ t = mod-mul-add i v.size t (w.short i t bi tl) in
        subst (λ z. get_or (block_at v i).done z false ≡ true) r (subst (λ z. get_or (block_at v z).done ((i * v.size + t) % v.size) false ≡ true) d (h (i * v.size + t) (w.in_place i t bi tl) low))

-- all blocks are done exactly where all places have begun and ended
pub all_ended_iff : (v : Run) → Whole v → AllDone v.colours ↔ AllEnded v
all_ended_iff v w = (
  (λ all p lt.
      let e : ended_at v p ≡ true = (w.closed (p / v.size) (w.block_in p lt)).0 (all (p / v.size) (subst (λ z. p / v.size < z) (sym w.colours_of) (w.block_in p lt))) (p % v.size) (w.place_in p lt) in
      (w.begins_first p lt e, e)),
  (λ all b bl.
      let bi : b < length v.blocks = subst (λ z. b < z) w.colours_of bl in
      (w.closed b bi).1 (λ t tl.
      let d : (b * v.size + t) / v.size ≡ b = div-mul-add b v.size t (w.short b t bi tl) in
      let r : (b * v.size + t) % v.size ≡ t = mod-mul-add b v.size t (w.short b t bi tl) in
      subst (λ z. get_or (block_at v b).done z false ≡ true) r (subst (λ z. get_or (block_at v z).done ((b * v.size + t) % v.size) false ≡ true) d (all (b * v.size + t) (w.in_place b t bi tl)).1))),
)
