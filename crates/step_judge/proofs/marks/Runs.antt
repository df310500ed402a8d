-- A place begins or ends.
use Rattle.std.proofs.Common.{◌≡◌, ℕ, ◌<◌, ◌≤◌, Bool, true, false, refl, sym, ap, subst, ◌∙◌, arith, ⊎_elim, List, length, get_or, set}
use Rattle.std.specs.Prelude.{◌&&◌, ◌||◌, ◌==◌, nat_lt}
use Rattle.std.proofs.lemmas.Bool.{eq-eqb, ne_eqb, cases_eq, cases_lt, or_left, and_parts, and_left, and_right, ltb-true}
use Rattle.std.proofs.lemmas.List.{get_or_read, get_or_past, get_or-set_same, get_or-set_other, length-set}
use Rattle.step_judge.specs.Run.{Run, begun_at, ended_at, lower, SamePlaces}
use Rattle.step_judge.specs.Item.{Item, run_at, no_run, sent, received}
use Rattle.schedule_steps.specs.declared.step.Step.{Step}
use Rattle.schedule_steps.specs.declared.step.Step.TheVariants.{Send, Recv, Begin, End, Join}
use Rattle.step_judge.specs.Kept.{Whole}
use Rattle.schedule_steps.specs.Steps.{item, IsStep, same3, same}
use Rattle.step_judge.specs.Marked.{Marked, no_item, item_at, outline_of, taken, TakesOne}
use Rattle.step_judge.proofs.marks.Marking.{SameItem, after, here, takes_from, whole_after, put}
use Rattle.lemmas.proofs.Truth.{or_self}

abbrev pub with_run : Item → ℕ → Run → Item
with_run w r run = record { free = w.free; joined = w.joined; sends = w.sends; receipts = w.receipts; ranks = set w.ranks r run }

run_here : (w : Item) (r : ℕ) (run : Run) → r < length w.ranks → run_at (with_run w r run) r ≡ run
run_here w r run lt = get_or-set_same w.ranks r run no_run lt

run_there : (w : Item) (r x : ℕ) (run : Run) → (x ≡ r → ⊥) → run_at (with_run w r run) x ≡ run_at w x
run_there w r x run ne = get_or-set_other w.ranks r x run no_run ne

pub run_shape : (w : Item) (r : ℕ) (run : Run) → r < length w.ranks → SamePlaces (run_at w r) run → SameItem w (with_run w r run)
run_shape w r run lt h = record {
  free = refl;
  links = λ a b. refl;
  pairs = refl;
  places = λ x. ⊎_elim
      (λ (e : x ≡ r). subst (λ z. length (run_at (with_run w r run) z).begun ≡ length (run_at w z).begun) (sym e) (ap (λ z. length z.begun) (run_here w r run lt) ∙ h.number))
      (λ (ne : x ≡ r → ⊥). ap (λ z. length z.begun) (run_there w r x run ne))
      (cases_eq x r);
  lower = λ x p q. ⊎_elim
      (λ (e : x ≡ r). subst (λ z. lower (run_at (with_run w r run) z) p q ≡ lower (run_at w z) p q) (sym e) (ap (λ z. lower z p q) (run_here w r run lt) ∙ h.lower p q))
      (λ (ne : x ≡ r → ⊥). ap (λ z. lower z p q) (run_there w r x run ne))
      (cases_eq x r);
  core = λ x. ⊎_elim
      (λ (e : x ≡ r). subst (λ z. (run_at (with_run w r run) z).core ≡ (run_at w z).core) (sym e) (ap (λ z. z.core) (run_here w r run lt) ∙ h.core))
      (λ (ne : x ≡ r → ⊥). ap (λ z. z.core) (run_there w r x run ne))
      (cases_eq x r);
  ranks = length-set w.ranks r run;
}

-- the marks of a place before and after
module _ (v : Marked) (k r p : ℕ) (run : Run) (inn : k < length v.items) (rank : r < length (item_at v k).ranks) (same_run : SamePlaces (run_at (item_at v k) r) run) where
  abbrev w : Item
  w = item_at v k

  abbrev u : Item
  u = with_run w r run

  abbrev s : SameItem w u
  s = run_shape w r run rank same_run

  abbrev next : Marked
  next = after v k u inn s

  -- one kind of mark of the rank's run, told by f
  changed : (f : Run → ℕ → Bool) → ((q : ℕ) → f run q ≡ (q == p || f (run_at w r) q)) → (x q : ℕ) → f (run_at u x) q ≡ (same3 k x q k r p || f (run_at w x) q)
  changed f h x q = ⊎_elim
      (λ (e : x ≡ r). subst (λ z. f (run_at u z) q ≡ (same3 k z q k r p || f (run_at w z) q)) (sym e)
      (ap (λ z. f z q) (run_here w r run rank) ∙ (h q ∙ ap (λ z. z || f (run_at w r) q) (sym (last q)))))
      (λ (ne : x ≡ r → ⊥). ap (λ z. f z q) (run_there w r x run ne) ∙ or_self _ _ (and_right (k == k) _ (and_left (x == r) (q == p) (ne_eqb x r ne))))
      (cases_eq x r)
    where
      last : (q : ℕ) → same3 k r q k r p ≡ (q == p)
      last q = ap (λ z. z && ((r == r) && (q == p))) (eq-eqb k k refl) ∙ ap (λ z. z && (q == p)) (eq-eqb r r refl)

  kept : (f : Run → ℕ → Bool) → ((q : ℕ) → f run q ≡ f (run_at w r) q) → (x q : ℕ) → f (run_at u x) q ≡ f (run_at w x) q
  kept f h x q = ⊎_elim
      (λ (e : x ≡ r). subst (λ z. f (run_at u z) q ≡ f (run_at w z) q) (sym e) (ap (λ z. f z q) (run_here w r run rank) ∙ h q))
      (λ (ne : x ≡ r → ⊥). ap (λ z. f z q) (run_there w r x run ne))
      (cases_eq x r)

  pub begin_takes : ((q : ℕ) → begun_at run q ≡ (q == p || begun_at (run_at w r) q)) → ((q : ℕ) → ended_at run q ≡ ended_at (run_at w r) q) → TakesOne v next (Begin k r p)
  begin_takes hb he = takes_from v k u inn s (Begin k r p) refl mark
    where
      mark : (t : Step) → item t ≡ k → taken next t ≡ (same t (Begin k r p) || taken v t)
      mark (Send i a b) e = subst (λ z. sent (item_at next z) a b ≡ sent (item_at v z) a b) (sym e) (ap (λ z. sent z a b) (here v k u inn s))
      mark (Recv i a b) e = subst (λ z. received (item_at next z) b a ≡ received (item_at v z) b a) (sym e) (ap (λ z. received z b a) (here v k u inn s))
      mark (Begin i a b) e = subst (λ z. begun_at (run_at (item_at next z) a) b ≡
          (same3 z a b k r p || begun_at (run_at (item_at v z) a) b)) (sym e)
          (ap (λ z. begun_at (run_at z a) b) (here v k u inn s) ∙ changed begun_at hb a b)
      mark (End i a b) e = subst (λ z. ended_at (run_at (item_at next z) a) b ≡ ended_at (run_at (item_at v z) a) b) (sym e)
          (ap (λ z. ended_at (run_at z a) b) (here v k u inn s) ∙ kept ended_at he a b)
      mark (Join i) e = subst (λ z. (item_at next z).joined ≡ (item_at v z).joined) (sym e) (ap (λ z. z.joined) (here v k u inn s))

  pub end_takes : ((q : ℕ) → ended_at run q ≡ (q == p || ended_at (run_at w r) q)) → ((q : ℕ) → begun_at run q ≡ begun_at (run_at w r) q) → TakesOne v next (End k r p)
  end_takes he hb = takes_from v k u inn s (End k r p) refl mark
    where
      mark : (t : Step) → item t ≡ k → taken next t ≡ (same t (End k r p) || taken v t)
      mark (Send i a b) e = subst (λ z. sent (item_at next z) a b ≡ sent (item_at v z) a b) (sym e) (ap (λ z. sent z a b) (here v k u inn s))
      mark (Recv i a b) e = subst (λ z. received (item_at next z) b a ≡ received (item_at v z) b a) (sym e) (ap (λ z. received z b a) (here v k u inn s))
      mark (End i a b) e = subst (λ z. ended_at (run_at (item_at next z) a) b ≡ (same3 z a b k r p || ended_at (run_at (item_at v z) a) b))
          (sym e) (ap (λ z. ended_at (run_at z a) b) (here v k u inn s) ∙ changed ended_at he a b)
      mark (Begin i a b) e = subst (λ z. begun_at (run_at (item_at next z) a) b ≡ begun_at (run_at (item_at v z) a) b) (sym e)
          (ap (λ z. begun_at (run_at z a) b) (here v k u inn s) ∙ kept begun_at hb a b)
      mark (Join i) e = subst (λ z. (item_at next z).joined ≡ (item_at v z).joined) (sym e) (ap (λ z. z.joined) (here v k u inn s))

-- the run after a begin
abbrev pub begun_run : Run → ℕ → Run
begun_run v p = record { size = v.size; begun = set v.begun p true; blocks = v.blocks; colours = v.colours; core = v.core }

begun_places : (v : Run) (p : ℕ) → SamePlaces v (begun_run v p)
begun_places v p = record { size = refl; number = length-set v.begun p true; lower = λ q r. refl; core = refl }

begun_marks : (v : Run) (p : ℕ) → p < length v.begun → (q : ℕ) → begun_at (begun_run v p) q ≡ (q == p || begun_at v q)
begun_marks v p lt q = ⊎_elim
    (λ (e : q ≡ p). subst (λ z. begun_at (begun_run v p) z ≡ (z == p || begun_at v z)) (sym e) (get_or-set_same v.begun p true false lt ∙ sym (or_left (p == p) (begun_at v p) (eq-eqb p p refl))))
    (λ (ne : q ≡ p → ⊥). get_or-set_other v.begun p q true false ne ∙ or_self _ _ (ne_eqb q p ne))
    (cases_eq q p)

place_in : (v : Marked) (k r p : ℕ) → IsStep (outline_of v) (Begin k r p) → (k < length v.items) × (p < length (run_at (item_at v k) r).begun)
place_in v k r p st = (st.0, ltb-true _ _ (and_parts (nat_lt p (length (run_at (item_at v k) r).begun)) true st.3).0)

rank_in : (w : Item) (r p : ℕ) → p < length (run_at w r).begun → r < length w.ranks
rank_in w r p lt = ⊎_elim (λ (q : r < length w.ranks). q)
    (λ (q : length w.ranks ≤ r). absurd (let z : p < 0 = subst (λ y. p < length y.begun) (get_or_past w.ranks r no_run q) lt in
    omega arith)) (cases_lt r (length w.ranks))

pub begin_wrote : (v : Marked) (at : List ℕ) (k r p : ℕ) (old new : Item) → Whole v at → IsStep (outline_of v) (Begin k r p)
    → old ≡ get_or v.items k old → new ≡ with_run old r (begun_run (run_at old r) p) → Whole (put v k new) at
    × TakesOne v (put v k new) (Begin k r p)
begin_wrote v at k r p old new w st read wrote =
    let l : (k < length v.items) × (p < length (run_at (item_at v k) r).begun) = place_in v k r p st in
    let o : old ≡ item_at v k = get_or_read v.items k old l.0 read no_item in
    let rank : r < length (item_at v k).ranks = rank_in (item_at v k) r p l.1 in
    let t : TakesOne v (put v k (with_run (item_at v k) r (begun_run (run_at (item_at v k) r) p))) (Begin k r p) =
    begin_takes v k r p (begun_run (run_at (item_at v k) r) p) l.0 rank (begun_places (run_at (item_at v k) r) p)
    (begun_marks (run_at (item_at v k) r) p l.1) (λ q. refl) in
    let e : with_run (item_at v k) r (begun_run (run_at (item_at v k) r) p) ≡ new = sym (wrote ∙ ap (λ z. with_run z r (begun_run (run_at z r) p)) o) in
    subst (λ z. Whole (put v k z) at × TakesOne v (put v k z) (Begin k r p)) e (
      whole_after v k (with_run (item_at v k) r (begun_run (run_at (item_at v k) r) p)) l.0
          (run_shape (item_at v k) r (begun_run (run_at (item_at v k) r) p) rank (begun_places (run_at (item_at v k) r) p)) at (Begin k r p) w
          t,
      t,
    )

pub end_wrote : (v : Marked) (at : List ℕ) (k r p : ℕ) (old new : Item) → Whole v at → IsStep (outline_of v) (End k r p)
    → old ≡ get_or v.items k old → ((run : Run) × (new ≡ with_run old r run) × (run.begun ≡ (run_at old r).begun)
    × SamePlaces (run_at old r) run × ((q : ℕ) → ended_at run q ≡ (q == p || ended_at (run_at old r) q))) → Whole (put v k new) at
    × TakesOne v (put v k new) (End k r p)
end_wrote v at k r p old new w st read wrote =
    let l : (k < length v.items) × (p < length (run_at (item_at v k) r).begun) = place_in v k r p st in
    let o : old ≡ item_at v k = get_or_read v.items k old l.0 read no_item in
    let rank : r < length (item_at v k).ranks = rank_in (item_at v k) r p l.1 in
    let run : Run = wrote.0 in
    let places : SamePlaces (run_at (item_at v k) r) run = subst (λ z. SamePlaces (run_at z r) run) o wrote.3 in
    let t : TakesOne v (put v k (with_run (item_at v k) r run)) (End k r p) =
    end_takes v k r p run l.0 rank places (subst (λ z. (q : ℕ) → ended_at run q ≡ (q == p || ended_at (run_at z r) q)) o wrote.4)
    (λ q. ap (λ z. get_or z q false) (subst (λ z. run.begun ≡ (run_at z r).begun) o wrote.2)) in
    let e : with_run (item_at v k) r run ≡ new = sym (wrote.1 ∙ ap (λ z. with_run z r run) o) in
    subst (λ z. Whole (put v k z) at × TakesOne v (put v k z) (End k r p)) e
    (whole_after v k (with_run (item_at v k) r run) l.0 (run_shape (item_at v k) r run rank places) at (End k r p) w t, t)

-- an item is joined
abbrev pub joined_item : Item → Item
joined_item w = record { free = w.free; joined = true; sends = w.sends; receipts = w.receipts; ranks = w.ranks }

joined_shape : (w : Item) → SameItem w (joined_item w)
joined_shape w = record { free = refl; links = λ a b. refl; pairs = refl; places = λ x. refl; lower = λ x p q. refl; core = λ x. refl; ranks = refl }

pub join_wrote : (v : Marked) (at : List ℕ) (k : ℕ) (old new : Item) → Whole v at → IsStep (outline_of v) (Join k)
    → old ≡ get_or v.items k old → new ≡ joined_item old → Whole (put v k new) at × TakesOne v (put v k new) (Join k)
join_wrote v at k old new w st read wrote =
    let inn : k < length v.items = st.0 in
    let o : old ≡ item_at v k = get_or_read v.items k old inn read no_item in
    let t : TakesOne v (put v k (joined_item (item_at v k))) (Join k) = takes_from v k (joined_item (item_at v k)) inn (joined_shape (item_at v k)) (Join k) refl (mark inn) in
    let e : joined_item (item_at v k) ≡ new = sym (wrote ∙ ap joined_item o) in
    subst (λ z. Whole (put v k z) at × TakesOne v (put v k z) (Join k)) e (whole_after v k (joined_item (item_at v k)) inn (joined_shape (item_at v k)) at (Join k) w t, t)
  where
    mark : (inn : k < length v.items) (t : Step) → item t ≡ k → taken (put v k (joined_item (item_at v k))) t ≡ (same t (Join k) || taken v t)
    mark inn (Send i a b) e = subst (λ z. sent (item_at (put v k (joined_item (item_at v k))) z) a b ≡ sent (item_at v z) a b) (sym e)
        (ap (λ z. sent z a b) (here v k (joined_item (item_at v k)) inn (joined_shape (item_at v k))))
    mark inn (Recv i a b) e = subst (λ z. received (item_at (put v k (joined_item (item_at v k))) z) b a ≡ received (item_at v z) b a)
        (sym e) (ap (λ z. received z b a) (here v k (joined_item (item_at v k)) inn (joined_shape (item_at v k))))
    mark inn (Begin i a b) e = subst
        (λ z. begun_at (run_at (item_at (put v k (joined_item (item_at v k))) z) a) b ≡ begun_at (run_at (item_at v z) a) b) (sym e)
        (ap (λ z. begun_at (run_at z a) b) (here v k (joined_item (item_at v k)) inn (joined_shape (item_at v k))))
    mark inn (End i a b) e = subst (λ z. ended_at (run_at (item_at (put v k (joined_item (item_at v k))) z) a) b ≡ ended_at
        (run_at (item_at v z) a) b) (sym e)
        (ap (λ z. ended_at (run_at z a) b) (here v k (joined_item (item_at v k)) inn (joined_shape (item_at v k))))
    mark inn (Join i) e = subst (λ z. (item_at (put v k (joined_item (item_at v k))) z).joined ≡ (z == k || (item_at v z).joined)) (sym e)
        (ap (λ z. z.joined) (here v k (joined_item (item_at v k)) inn (joined_shape (item_at v k)))
        ∙ sym (or_left (k == k) (item_at v k).joined (eq-eqb k k refl)))
