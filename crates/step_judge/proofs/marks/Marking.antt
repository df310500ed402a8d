-- One step more is taken.
use Rattle.std.proofs.Common.{◌≡◌, ℕ, ◌<◌, ◌^◌, Bool, true, false, refl, sym, ap, subst, ◌∙◌, ⊎_elim, List, length, get_or, set}
use Rattle.std.specs.Prelude.{◌&&◌, ◌||◌, ◌==◌, not, nat_lt}
use Rattle.std.proofs.lemmas.Bool.{eq-eqb, ne_eqb, cases_eq, or_left, or_right, and_from, and_left, and_right, ltb-true}
use Rattle.std.proofs.lemmas.List.{get_or_read, get_or-set_same, get_or-set_other, length-set}
use Rattle.step_judge.specs.Run.{begun_at, ended_at, lower}
use Rattle.step_judge.specs.Item.{Item, run_at, place_of, linked, sent, received, Paired}
use Rattle.step_judge.proofs.marks.Pairs.{pair_found}
use Rattle.schedule_steps.specs.declared.step.Step.{Step}
use Rattle.schedule_steps.specs.declared.step.Step.TheVariants.{Send, Recv, Begin, End, Join}
use Rattle.step_judge.specs.Kept.{Whole, LaidOut}
use Rattle.step_judge.proofs.marks.Ready.{stands_iff}
use Rattle.schedule_steps.specs.Steps.{item, IsStep, same3, same}
use Rattle.schedule_steps.specs.Alike.{AlikeOutlines}
use Rattle.schedule_steps.specs.Judged.{is_step, rank_of, share_rank, is_earlier_in_item, is_earlier}
use Rattle.step_judge.specs.Marked.{Marked, no_item, item_at, outline_of, taken, TakesOne}
use Rattle.lemmas.proofs.Truth.{or_self}

-- an item's shape: what never changes
pub record SameItem (w u : Item) : Type 0 where
  pub free : u.free ≡ w.free
  pub links : (s r : ℕ) → place_of u s r ≡ place_of w s r
  pub pairs : length u.sends.of ≡ length w.sends.of
  pub places : (x : ℕ) → length (run_at u x).begun ≡ length (run_at w x).begun
  pub lower : (x p q : ℕ) → lower (run_at u x) p q ≡ lower (run_at w x) p q
  pub core : (x : ℕ) → (run_at u x).core ≡ (run_at w x).core
  pub ranks : length u.ranks ≡ length w.ranks

pub same_item_refl : (w : Item) → SameItem w w
same_item_refl w = record { free = refl; links = λ s r. refl; pairs = refl; places = λ x. refl; lower = λ x p q. refl; core = λ x. refl; ranks = refl }

module _ (v : Marked) (k : ℕ) (u : Item) (inn : k < length v.items) (shape : SameItem (item_at v k) u) where
  abbrev pub after : Marked
  after = record { ranks = v.ranks; items = set v.items k u }

  pub here : item_at after k ≡ u
  here = get_or-set_same v.items k u no_item inn

  pub there : (i : ℕ) → (i ≡ k → ⊥) → item_at after i ≡ item_at v i
  there i ne = get_or-set_other v.items k i u no_item ne

  pub shape_at : (i : ℕ) → SameItem (item_at v i) (item_at after i)
  shape_at i = ⊎_elim
      (λ (e : i ≡ k). subst (λ z. SameItem (item_at v z) (item_at after z)) (sym e) (subst (λ z. SameItem (item_at v k) z) (sym here) shape))
      (λ (ne : i ≡ k → ⊥). subst (λ z. SameItem (item_at v i) z) (sym (there i ne)) (same_item_refl (item_at v i)))
      (cases_eq i k)

  in_same : (i : ℕ) → nat_lt i (length after.items) ≡ nat_lt i (length v.items)
  in_same i = ap (λ n. nat_lt i n) (length-set v.items k u)

  linked_same : (i s r : ℕ) → linked (item_at after i) s r ≡ linked (item_at v i) s r
  linked_same i s r = ap (λ z. nat_lt z (length (item_at after i).sends.of)) ((shape_at i).links s r) ∙ ap (λ z. nat_lt (place_of (item_at v i) s r) z) (shape_at i).pairs

  link_step : (i s r : ℕ) → is_step (outline_of after) (Send i s r) ≡ is_step (outline_of v) (Send i s r)
  link_step i s r =
      ap (λ z. z && ((item_at after i).free && (nat_lt s v.ranks && (nat_lt r v.ranks && linked (item_at after i) s r)))) (in_same i)
      ∙ (ap (λ z. nat_lt i (length v.items) && (z && (nat_lt s v.ranks && (nat_lt r v.ranks && linked (item_at after i) s r)))) (shape_at i).free
      ∙ ap (λ z. nat_lt i (length v.items) && ((item_at v i).free && (nat_lt s v.ranks && (nat_lt r v.ranks && z)))) (linked_same i s r))

  place_step : (i r p : ℕ) → is_step (outline_of after) (Begin i r p) ≡ is_step (outline_of v) (Begin i r p)
  place_step i r p =
      ap (λ z. z && ((item_at after i).free && (nat_lt r v.ranks && (nat_lt p (length (run_at (item_at after i) r).begun) && true)))) (in_same i)
      ∙ (ap (λ z. nat_lt i (length v.items) && (z && (nat_lt r v.ranks && (nat_lt p (length (run_at (item_at after i) r).begun) && true)))) (shape_at i).free
      ∙ ap (λ z. nat_lt i (length v.items) && ((item_at v i).free && (nat_lt r v.ranks && (nat_lt p z && true)))) ((shape_at i).places r))

  pub steps_same : (t : Step) → is_step (outline_of after) t ≡ is_step (outline_of v) t
  steps_same (Send i s r) = link_step i s r
  steps_same (Recv i r s) = link_step i s r
  steps_same (Begin i r p) = place_step i r p
  steps_same (End i r p) = place_step i r p
  steps_same (Join i) = ap (λ z. z && not (item_at after i).free) (in_same i) ∙ ap (λ z. nat_lt i (length v.items) && not z) (shape_at i).free

  inside_back : (i : ℕ) → i < length after.items → i < length v.items
  inside_back i lt = subst (λ z. i < z) (length-set v.items k u) lt

  free_back : (i : ℕ) (b : Bool) → (item_at after i).free ≡ b → (item_at v i).free ≡ b
  free_back i b h = sym (shape_at i).free ∙ h

  runs_back : (i r p : ℕ) → (nat_lt p (length (run_at (item_at after i) r).begun) && true) ≡ true → (nat_lt p (length (run_at (item_at v i) r).begun) && true) ≡ true
  runs_back i r p h = sym (ap (λ z. nat_lt p z && true) ((shape_at i).places r)) ∙ h

  step_back : (t : Step) → IsStep (outline_of after) t → IsStep (outline_of v) t
  step_back (Send i s r) st = (inside_back i st.0, free_back i true st.1, st.2, st.3, sym (linked_same i s r) ∙ st.4)
  step_back (Recv i r s) st = (inside_back i st.0, free_back i true st.1, st.2, st.3, sym (linked_same i s r) ∙ st.4)
  step_back (Begin i r p) st = (inside_back i st.0, free_back i true st.1, st.2, runs_back i r p st.3)
  step_back (End i r p) st = (inside_back i st.0, free_back i true st.1, st.2, runs_back i r p st.3)
  step_back (Join i) st = (inside_back i st.0, free_back i false st.1)

  within_same : (t s : Step) → is_earlier_in_item (outline_of after) t s ≡ is_earlier_in_item (outline_of v) t s
  within_same (Recv a b c) (Begin j x p) = ap (λ z. (a == j) && ((b == x) && not (get_or z p false))) ((shape_at a).core b)
  within_same (End a b c) (Begin j x q) = ap (λ z. (a == j) && ((b == x) && z)) ((shape_at a).lower b c q)
  within_same (Send a b c) (Send j x y) = refl
  within_same (Send a b c) (Recv j x y) = refl
  within_same (Send a b c) (Begin j x y) = refl
  within_same (Send a b c) (End j x y) = refl
  within_same (Send a b c) (Join j) = refl
  within_same (Recv a b c) (Send j x y) = refl
  within_same (Recv a b c) (Recv j x y) = refl
  within_same (Recv a b c) (End j x y) = refl
  within_same (Recv a b c) (Join j) = refl
  within_same (Begin a b c) (Send j x y) = refl
  within_same (Begin a b c) (Recv j x y) = refl
  within_same (Begin a b c) (Begin j x y) = refl
  within_same (Begin a b c) (End j x y) = refl
  within_same (Begin a b c) (Join j) = refl
  within_same (End a b c) (Send j x y) = refl
  within_same (End a b c) (Recv j x y) = refl
  within_same (End a b c) (End j x y) = refl
  within_same (End a b c) (Join j) = refl
  within_same (Join a) (Send j x y) = refl
  within_same (Join a) (Recv j x y) = refl
  within_same (Join a) (Begin j x y) = refl
  within_same (Join a) (End j x y) = refl
  within_same (Join a) (Join j) = refl

  earlier_same : (t s : Step) → is_earlier (outline_of after) t s ≡ is_earlier (outline_of v) t s
  earlier_same t s = ap (λ z. (nat_lt (item t) (item s) && share_rank (rank_of t) (rank_of s)) || z) (within_same t s)

  -- the marks of a step of another item
  other_item : (t : Step) → (item t ≡ k → ⊥) → taken after t ≡ taken v t
  other_item (Send i s r) ne = ap (λ z. sent z s r) (there i ne)
  other_item (Recv i r s) ne = ap (λ z. received z s r) (there i ne)
  other_item (Begin i r p) ne = ap (λ z. begun_at (run_at z r) p) (there i ne)
  other_item (End i r p) ne = ap (λ z. ended_at (run_at z r) p) (there i ne)
  other_item (Join i) ne = ap (λ z. z.joined) (there i ne)

  alike_after : AlikeOutlines (outline_of after) (outline_of v)
  alike_after = record {
    items = length-set v.items k u;
    ranks = refl;
    is_free = λ i h. (shape_at i).free;
    sends = λ i a b h f la lb. linked_same i a b;
    executed = λ i r x h f l. ap (λ n. nat_lt x n && true) ((shape_at i).places r);
    core = λ i r x h f l e. ap (λ z. get_or z x false) ((shape_at i).core r);
    colours = λ i r x y h f l a b. (shape_at i).lower r x y;
  }

  pub takes_from : (s : Step) → item s ≡ k → ((t : Step) → item t ≡ k → taken after t ≡ (same t s || taken v t)) → TakesOne v after s
  takes_from s es h = record {
    ranks = refl;
    alike = alike_after;
    steps = steps_same;
    before = earlier_same;
    pairs = λ i a b. (shape_at i).links a b;
    marks = λ t. ⊎_elim
        (λ (e : item t ≡ k). h t e)
        (λ (ne : item t ≡ k → ⊥). other_item t ne ∙ sym (ap (λ z. z || taken v t) (not_same t (λ q. ne (q ∙ es)))))
        (cases_eq (item t) k);
  }
    where
      first3 : (a b c x y z : ℕ) → (a ≡ x → ⊥) → same3 a b c x y z ≡ false
      first3 a b c x y z ne = and_left _ _ (ne_eqb a x ne)

      not_same : (t : Step) → (item t ≡ item s → ⊥) → same t s ≡ false
      not_same t ne = differ t s ne
        where
          differ : (t s : Step) → (item t ≡ item s → ⊥) → same t s ≡ false
          differ (Send a b c) (Send x y z) ne = first3 a b c x y z ne
          differ (Recv a b c) (Recv x y z) ne = first3 a b c x y z ne
          differ (Begin a b c) (Begin x y z) ne = first3 a b c x y z ne
          differ (End a b c) (End x y z) ne = first3 a b c x y z ne
          differ (Join a) (Join x) ne = ne_eqb a x ne
          differ _ _ ne = refl

  laid_after : LaidOut v → LaidOut after
  laid_after w = record {
    some = w.some;
    few = subst (λ n. n < 2 ^ 32) (sym (length-set v.items k u)) w.few;
    ranked = λ i a b l. w.ranked i a b (sym (linked_same i a b) ∙ l);
    runs = λ i il f. (shape_at i).ranks ∙ w.runs i (inside_back i il) (free_back i true f);
  }

  pub whole_after : (at : List ℕ) (s : Step) → Whole v at → TakesOne v after s → Whole after at
  whole_after at s w h = record {
    laid = laid_after w.laid;
    each_rank = w.each_rank;
    at_in = λ x xl. rw length-set (w.at_in x xl);
    at_stands = λ x xl. (stands_iff after (laid_after w.laid) x (get_or at x 0) xl).1
        (λ t st lt of. h.marks t ∙ or_right (same t s) (taken v t)
        ((stands_iff v w.laid x (get_or at x 0) xl).0 (w.at_stands x xl) t (step_back t st) lt of));
  }

-- a message is sent
module _ (v : Marked) (k s r : ℕ) (inn : k < length v.items) (paired : Paired (item_at v k)) (link : place_of (item_at v k) s r < length (item_at v k).sends.of) where
  abbrev w : Item
  w = item_at v k

  -- which pair it is tells the ranks
  pair_same : (a b : ℕ) → place_of w a b ≡ place_of w s r → (a ≡ s) × (b ≡ r)
  pair_same a b e =
      let f : (get_or w.sends.of (place_of w s r) 0 ≡ s) × (get_or w.receipts.of (place_of w s r) 0 ≡ r) = pair_found w.sends.of w.receipts.of s r paired.both link in
      let g : (get_or w.sends.of (place_of w a b) 0 ≡ a) × (get_or w.receipts.of (place_of w a b) 0 ≡ b) =
      pair_found w.sends.of w.receipts.of a b paired.both (subst (λ z. z < length w.sends.of) (sym e) link) in
      (sym g.0 ∙ (ap (λ z. get_or w.sends.of z 0) e ∙ f.0), sym g.1 ∙ (ap (λ z. get_or w.receipts.of z 0) e ∙ f.1))

  -- one mark more
  marked_at : (done : List Bool) → length done ≡ length w.sends.of → (a b : ℕ) (c : Bool) → ((a ≡ s) → (b ≡ r) → c ≡ true)
      → (((a ≡ s) × (b ≡ r) → ⊥) → c ≡ false) → get_or (set done (place_of w s r) true) (place_of w a b) false ≡
      (c || get_or done (place_of w a b) false)
  marked_at done n a b c hit miss = ⊎_elim
      (λ (e : place_of w a b ≡ place_of w s r).
      let q : (a ≡ s) × (b ≡ r) = pair_same a b e in
      ap (λ z. get_or (set done (place_of w s r) true) z false) e
      ∙ (get_or-set_same done (place_of w s r) true false (subst (λ z. place_of w s r < z) (sym n) link)
      ∙ sym (or_left c (get_or done (place_of w a b) false) (hit q.0 q.1))))
      (λ (ne : place_of w a b ≡ place_of w s r → ⊥). get_or-set_other done (place_of w s r) (place_of w a b) true false ne
      ∙ or_self _ c (miss (λ q. ne (ap (λ z. place_of w z b) q.0 ∙ ap (λ z. place_of w s z) q.1))))
      (cases_eq (place_of w a b) (place_of w s r))

  same3_yes : (a b : ℕ) → a ≡ s → b ≡ r → same3 k a b k s r ≡ true
  same3_yes a b p q = and_from _ _ (eq-eqb k k refl) (and_from _ _ (eq-eqb a s p) (eq-eqb b r q))

  same3_no : (a b : ℕ) → ((a ≡ s) × (b ≡ r) → ⊥) → same3 k a b k s r ≡ false
  same3_no a b n = ⊎_elim
      (λ (p : a ≡ s). and_right _ _ (and_right _ _ (ne_eqb b r (λ q. n (p, q)))))
      (λ (p : a ≡ s → ⊥). and_right _ _ (and_left _ _ (ne_eqb a s p)))
      (cases_eq a s)

  same3_turned : (a b : ℕ) → ((a ≡ s) × (b ≡ r) → ⊥) → same3 k b a k r s ≡ false
  same3_turned a b n = ⊎_elim
      (λ (p : b ≡ r). and_right _ _ (and_right _ _ (ne_eqb a s (λ q. n (q, p)))))
      (λ (p : b ≡ r → ⊥). and_right _ _ (and_left _ _ (ne_eqb b r p)))
      (cases_eq b r)

  abbrev pub sent_item : Item
  sent_item = record { free = w.free; joined = w.joined; sends = record { of = w.sends.of; done = set w.sends.done (place_of w s r) true }; receipts = w.receipts; ranks = w.ranks }

  abbrev pub received_item : Item
  received_item = record { free = w.free; joined = w.joined; sends = w.sends; receipts = record { of = w.receipts.of; done = set w.receipts.done (place_of w s r) true }; ranks = w.ranks }

  pub sent_shape : SameItem w sent_item
  sent_shape = record { free = refl; links = λ a b. refl; pairs = refl; places = λ x. refl; lower = λ x p q. refl; core = λ x. refl; ranks = refl }

  pub received_shape : SameItem w received_item
  received_shape = record { free = refl; links = λ a b. refl; pairs = refl; places = λ x. refl; lower = λ x p q. refl; core = λ x. refl; ranks = refl }

  pub send_takes : TakesOne v (after v k sent_item inn sent_shape) (Send k s r)
  send_takes = takes_from v k sent_item inn sent_shape (Send k s r) refl mark
    where
      mark : (t : Step) → item t ≡ k → taken (after v k sent_item inn sent_shape) t ≡ (same t (Send k s r) || taken v t)
      mark (Send i a b) e = subst (λ z. sent (item_at (after v k sent_item inn sent_shape) z) a b ≡ (same3 z a b k s r || sent (item_at v z) a b)) (sym e)
          (ap (λ z. sent z a b) (here v k sent_item inn sent_shape) ∙ marked_at w.sends.done paired.sent_each a b (same3 k a b k s r) (same3_yes a b) (same3_no a b))
      mark (Recv i a b) e = subst (λ z. received (item_at (after v k sent_item inn sent_shape) z) b a ≡ received (item_at v z) b a) (sym e)
          (ap (λ z. received z b a) (here v k sent_item inn sent_shape))
      mark (Begin i a b) e = subst (λ z. begun_at (run_at (item_at (after v k sent_item inn sent_shape) z) a) b ≡ begun_at
          (run_at (item_at v z) a) b) (sym e) (ap (λ z. begun_at (run_at z a) b) (here v k sent_item inn sent_shape))
      mark (End i a b) e = subst (λ z. ended_at (run_at (item_at (after v k sent_item inn sent_shape) z) a) b ≡ ended_at
          (run_at (item_at v z) a) b) (sym e) (ap (λ z. ended_at (run_at z a) b) (here v k sent_item inn sent_shape))
      mark (Join i) e = subst (λ z. (item_at (after v k sent_item inn sent_shape) z).joined ≡ (item_at v z).joined) (sym e) (ap (λ z. z.joined) (here v k sent_item inn sent_shape))

  pub receive_takes : TakesOne v (after v k received_item inn received_shape) (Recv k r s)
  receive_takes = takes_from v k received_item inn received_shape (Recv k r s) refl mark
    where
      mark : (t : Step) → item t ≡ k → taken (after v k received_item inn received_shape) t ≡ (same t (Recv k r s) || taken v t)
      mark (Recv i b a) e = subst (λ z. received (item_at (after v k received_item inn received_shape) z) a b ≡ (same3 z b a k r s || received (item_at v z) a b)) (sym e)
          (ap (λ z. received z a b) (here v k received_item inn received_shape)
          ∙ marked_at w.receipts.done paired.received_each a b (same3 k b a k r s)
          (λ p q. and_from _ _ (eq-eqb k k refl) (and_from _ _ (eq-eqb b r q) (eq-eqb a s p))) (same3_turned a b))
      mark (Send i a b) e = subst (λ z. sent (item_at (after v k received_item inn received_shape) z) a b ≡ sent (item_at v z) a b) (sym e)
          (ap (λ z. sent z a b) (here v k received_item inn received_shape))
      mark (Begin i a b) e = subst (λ z. begun_at (run_at (item_at (after v k received_item inn received_shape) z) a) b ≡ begun_at
          (run_at (item_at v z) a) b) (sym e) (ap (λ z. begun_at (run_at z a) b) (here v k received_item inn received_shape))
      mark (End i a b) e = subst (λ z. ended_at (run_at (item_at (after v k received_item inn received_shape) z) a) b ≡ ended_at
          (run_at (item_at v z) a) b) (sym e) (ap (λ z. ended_at (run_at z a) b) (here v k received_item inn received_shape))
      mark (Join i) e = subst (λ z. (item_at (after v k received_item inn received_shape) z).joined ≡ (item_at v z).joined) (sym e) (ap (λ z. z.joined) (here v k received_item inn received_shape))

abbrev pub put : Marked → ℕ → Item → Marked
put v k u = record { ranks = v.ranks; items = set v.items k u }

-- what the code read of a step of the plan
link_in : (v : Marked) (k s r : ℕ) → IsStep (outline_of v) (Send k s r) → (k < length v.items) × (place_of (item_at v k) s r < length (item_at v k).sends.of)
link_in v k s r st = (st.0, ltb-true _ _ st.4)

pub send_wrote : (v : Marked) (at : List ℕ) (k s r pair : ℕ) (old new : Item) → Whole v at → IsStep (outline_of v) (Send k s r)
    → old ≡ get_or v.items k old → Paired old → pair ≡ place_of old s r
    → new ≡ record {
      free = old.free;
      joined = old.joined;
      sends = record { of = old.sends.of; done = set old.sends.done pair true };
      receipts = old.receipts;
      ranks = old.ranks;
    } → Whole (put v k new) at × TakesOne v (put v k new) (Send k s r)
send_wrote v at k s r pair old new w st read paired place wrote =
    let l : (k < length v.items) × (place_of (item_at v k) s r < length (item_at v k).sends.of) = link_in v k s r st in
    let o : old ≡ item_at v k = get_or_read v.items k old l.0 read no_item in
    let pd : Paired (item_at v k) = subst Paired o paired in
    let t : TakesOne v (put v k (sent_item v k s r l.0 pd l.1)) (Send k s r) = send_takes v k s r l.0 pd l.1 in
    let e : sent_item v k s r l.0 pd l.1 ≡ new = sym
    (wrote ∙ (ap (λ z. record {
      free = old.free;
      joined = old.joined;
      sends =
          record { of = old.sends.of; done = set old.sends.done z true };
      receipts = old.receipts;
      ranks = old.ranks;
    }) place
    ∙ ap (λ z. record {
      free = z.free;
      joined = z.joined;
      sends =
          record { of = z.sends.of; done = set z.sends.done (place_of z s r) true };
      receipts = z.receipts;
      ranks = z.ranks;
    }) o)) in
    subst (λ z. Whole (put v k z) at × TakesOne v (put v k z) (Send k s r)) e (whole_after v k (sent_item v k s r l.0 pd l.1) l.0 (sent_shape v k s r l.0 pd l.1) at (Send k s r) w t, t)

pub receive_wrote : (v : Marked) (at : List ℕ) (k s r pair : ℕ) (old new : Item) → Whole v at → IsStep (outline_of v) (Recv k r s)
    → old ≡ get_or v.items k old → Paired old → pair ≡ place_of old s r
    → new ≡ record {
      free = old.free;
      joined = old.joined;
      sends = old.sends;
      receipts =
          record { of = old.receipts.of; done = set old.receipts.done pair true };
      ranks = old.ranks;
    } → Whole (put v k new) at
    × TakesOne v (put v k new) (Recv k r s)
receive_wrote v at k s r pair old new w st read paired place wrote =
    let l : (k < length v.items) × (place_of (item_at v k) s r < length (item_at v k).sends.of) = link_in v k s r st in
    let o : old ≡ item_at v k = get_or_read v.items k old l.0 read no_item in
    let pd : Paired (item_at v k) = subst Paired o paired in
    let t : TakesOne v (put v k (received_item v k s r l.0 pd l.1)) (Recv k r s) = receive_takes v k s r l.0 pd l.1 in
    let e : received_item v k s r l.0 pd l.1 ≡ new = sym
    (wrote ∙ (ap (λ z. record {
      free = old.free;
      joined = old.joined;
      sends = old.sends;
      receipts =
          record { of = old.receipts.of; done = set old.receipts.done z true };
      ranks = old.ranks;
    }) place
    ∙ ap (λ z. record {
      free = z.free;
      joined = z.joined;
      sends = z.sends;
      receipts =
          record { of = z.receipts.of; done = set z.receipts.done (place_of z s r) true };
      ranks = z.ranks;
    }) o)) in
    subst (λ z. Whole (put v k z) at × TakesOne v (put v k z) (Recv k r s)) e (whole_after v k (received_item v k s r l.0 pd l.1) l.0 (received_shape v k s r l.0 pd l.1) at (Recv k r s) w t, t)
