-- A join keeps the facts, or stops as the sequential run does.
use Rattle.std.proofs.Common.{◌≡◌, ℕ, ℤ, zero, suc, ◌<◌, ◌≤◌, Bool, true, false, ◌⊎◌, inl, inr, refl, sym, ap, subst, ◌∙◌, arith, ⊎_elim, Option, Some, None, List, ◌++◌}
use Rattle.std.specs.Prelude.{◌&&◌, ◌==◌, not, nat_lt}
use Rattle.std.proofs.lemmas.Bool.{cases_eq, cases_lt, cases_Bool, false≢true, false_from_ne_true, or_left, or_parts, and_from, and_left, and_right, cond-true, cond-false, not_from_false, eq-eqb, ne_eqb, lt-ltb, le-ltb}
use Rattle.op_num.specs.Reduction.{Reduction}
use Rattle.schedule_steps.specs.declared.step.Step.{Step}
use Rattle.schedule_steps.specs.declared.step.Step.TheVariants.{Send, Recv, Begin, End, Join}
use Rattle.schedule_steps.specs.Steps.{item, IsOf, IsStep}
use Rattle.schedule_model.specs.Cells.{Cell, Data, Variable, DatCell, VarCell, Store}
use Rattle.schedule_model.specs.Program.{Kind, Free, Reduce, Ordered, Host, is_free, Halts, Goes, elements, is_loop}
use Rattle.schedule_model.specs.Setup.{Setup, owner_of, executes, stale, outline}
use Rattle.schedule_model.specs.Sequential.{Broke, Ran_through, loop, Going, with_variables, seq}
use Rattle.schedule_model.specs.Machine.{State, unit_at, merge_at, merged_from, reduced, gathered, spread, looped, hosted, done, joined, step}
use Rattle.schedule_model.proofs.Fold.{folded, folded_none, folded_same, folded_union, folded_merge}
use Rattle.schedule_model.proofs.Law.{Law, effect, commutes, merge_unit, merge_amount, no_needs, owner_below}
use Rattle.schedule_model.proofs.Sequence.{store_of, output_of, is_going, store_at, ran_stays, good_store, FreeCase, was_over, goes_on, ends, free_case, JoinCase, was_over_join, reduces_join, runs_join, breaks_join, goes_join, halts_join, join_case, GoodLoop, good_loop}
use Rattle.schedule_model.proofs.Marks.{mark, mark_self, mark_old, mark_true, mark_else, Ready, proper_more, Stands}
use Rattle.schedule_model.proofs.Range.{Sane, Good, good_reduced, good_looped, good_hosted, good_merged, good_gathered}
use Rattle.schedule_model.proofs.Least.{Each, Member}
use Rattle.schedule_model.proofs.Facts.{Fresh, own, clean, came, value_at, is_reduce, source, source_self, source_reduce, part_at, is_merging, part_here, part_else, part_none, At}
use Rattle.schedule_model.proofs.Inv.{Inv, Letters, abouts, at_item}
use Rattle.schedule_model.proofs.Stops.{Halted, halts_at, going_down, ended_at, none_recorded, fault_case}
use Rattle.schedule_model.specs.Tests.{not_free}

module _ {F : Type 0} (p : Setup F) (q : Law p) (m : Step → Bool) (st : State F) (inv : Inv p m st) (k : ℕ) (rd : Ready (outline p) m (Join k)) where
  low : k < p.program.items
  low = let plan : IsStep (outline p) (Join k) = rd.planned in plan.0

  joins : is_free (p.program.kind k) ≡ false
  joins = let plan : IsStep (outline p) (Join k) = rd.planned in plan.1

  here : (r : ℕ) → r < p.ranks → At p m st r k
  here r lt = at_item p q m st inv (Join k) rd (let l : k < p.program.items = low in omega arith) r tt lt

  told : st.output ≡ output_of (seq p.program k)
  told = (here 0 q.lawful.items.some_rank).says.told

  no_end : (r a : ℕ) → m (End k r a) ≡ false
  no_end r a = false_from_ne_true (m (End k r a)) (λ t.
      let plan : IsStep (outline p) (End k r a) = inv.right.sound (End k r a) t in
      false≢true (sym joins ∙ plan.1))

  -- a fresh cell has its value, since no element is of this item
  fresh_value : is_going (seq p.program k) ≡ true → (r : ℕ) → r < p.ranks → (c : DatCell) → Fresh p m r k c → st.memories r c ≡ store_at p k (Data c)
  fresh_value g r lt c f =
      (here r lt).says.cells g c f
      ∙ folded_none (elements p.program k) (λ a. m (End k r a)) (λ a. effect p k a (store_at p k) (Data c)) (store_at p k (Data c)) (λ a le. inl (no_end r a))

  -- the owners' copies and the variables
  gathered_at : is_reduce (p.program.kind k) ≡ false → is_going (seq p.program k) ≡ true → (c : Cell) → gathered p st c ≡ store_at p k c
  gathered_at plain g (Data c) = fresh_value g (owner_of p c) (owner_below p q c) c (own refl)
  gathered_at plain g (Variable v) = (here 0 q.lawful.items.some_rank).says.variables g v ∙ ap (λ j. store_at p j (Variable v)) (source_self p k plain)

  gathered_is : is_reduce (p.program.kind k) ≡ false → is_going (seq p.program k) ≡ true → gathered p st ≡ store_at p k
  gathered_is plain g = λ i c. gathered_at plain g c i

  -- what is fresh at the next item was fresh, or is the rank's own
  fresh_next : (r : ℕ) → r < p.ranks → (c : DatCell) → Fresh p (mark (Join k) m) r (suc k) c → Fresh p m r k c × ((owner_of p c ≡ r) ⊎ (p.modifies k c.dat ≡ false))
  fresh_next r lt c (own e) = (own e, inl e)
  fresh_next r lt c (came i x e) = absurd (false≢true (sym ((here r lt).stands.ahead (Recv (suc k) r (owner_of p c)) refl (omega arith)) ∙ e))
  fresh_next r lt c (clean i s) =
      let parts : (p.modifies k c.dat ≡ false) × ((stale p k c.dat && not (p.needs k c.dat)) ≡ false) = or_parts (p.modifies k c.dat) (stale p k c.dat && not (p.needs k c.dat)) s in (
        clean i (false_from_ne_true (stale p k c.dat)
            (λ y. false≢true (sym parts.1 ∙ and_from (stale p k c.dat) (not (p.needs k c.dat)) y
            (not_from_false (p.needs k c.dat) (no_needs p q k c.dat joins))))),
        inr parts.0,
      )

  not_reduce_next : is_reduce (p.program.kind (suc k)) ≡ false
  not_reduce_next = by_kind (p.program.kind (suc k)) refl
    where
      by_kind : (x : Kind) → p.program.kind (suc k) ≡ x → is_reduce (p.program.kind (suc k)) ≡ false
      by_kind Free e = ap is_reduce e
      by_kind Ordered e = ap is_reduce e
      by_kind Host e = ap is_reduce e
      by_kind Reduce e = absurd (not_free (p.program.kind k) joins (q.lawful.items.reduce_after k e).0)

  value_next : (r : ℕ) → r < p.ranks → (c : DatCell) → value_at p (mark (Join k) m) r (suc k) c ≡ store_at p (suc k) (Data c)
  value_next r lt c = folded_none (elements p.program (suc k)) (λ a. m (End (suc k) r a)) (λ a. effect p (suc k) a (store_at p (suc k)) (Data c)) (store_at p (suc k) (Data c))
      (λ a le. inl ((here r lt).stands.ahead (End (suc k) r a) refl (omega arith)))

  next_marks : (r : ℕ) → Stands (outline p) m r k → Stands (outline p) (mark (Join k) m) r (suc k)
  next_marks r h = record {
    within = (let l : k < p.program.items = low in omega arith);
    past = λ t plan of l. ⊎_elim
        (λ (e : item t ≡ k). past_k t plan of e)
        (λ (ne : item t ≡ k → ⊥). mark_old (Join k) m t (h.past t plan of (omega arith)))
        (cases_eq (item t) k);
    ahead = λ t of l. mark_else (Join k) m t (λ e. let i : item t ≡ k = ap item e in omega arith) ∙ h.ahead t of (omega arith);
    unjoined = mark_else (Join k) m (Join (suc k)) (λ e. let i : suc k ≡ k = ap item e in omega arith) ∙ h.ahead (Join (suc k)) tt (omega arith);
  }
    where
      past_k : (t : Step) → IsStep (outline p) t → IsOf t r → item t ≡ k → mark (Join k) m t ≡ true
      past_k (Send k1 s1 r1) plan of e = absurd (false≢true (sym joins ∙ subst (λ i. is_free (p.program.kind i) ≡ true) e plan.1))
      past_k (Recv k1 r1 s1) plan of e = absurd (false≢true (sym joins ∙ subst (λ i. is_free (p.program.kind i) ≡ true) e plan.1))
      past_k (Begin k1 r1 e1) plan of e = absurd (false≢true (sym joins ∙ subst (λ i. is_free (p.program.kind i) ≡ true) e plan.1))
      past_k (End k1 r1 e1) plan of e = absurd (false≢true (sym joins ∙ subst (λ i. is_free (p.program.kind i) ≡ true) e plan.1))
      past_k (Join k1) plan of e = subst (λ i. mark (Join k) m (Join i) ≡ true) (sym e) (mark_self (Join k) m)

  -- the state after a join that goes on
  after_join : (b : State F) → Sane b → b.stop ≡ None → b.mail ≡ st.mail → b.faults ≡ st.faults → is_going (seq p.program (suc k)) ≡ true → b.output ≡ output_of (seq p.program (suc k))
      → ((r : ℕ) → r < p.ranks → (c : DatCell) → Fresh p (mark (Join k) m) r (suc k) c → b.memories r c ≡ store_at p (suc k) (Data c))
      → ((v : VarCell) → b.variables v ≡ store_at p (suc k) (Variable v))
      → ((r : ℕ) → r < p.ranks → (s : ℕ) (v : VarCell) → b.partials r s v ≡ unit_at (p.reduces s v))
      → Inv p (mark (Join k) m) b
  after_join b sane stop mail faults g out cells variables parts = record {
    running = stop;
    sane = sane;
    right = proper_more (outline p) m (Join k) inv.right rd;
    queues = λ s1 r1. ap (λ f. abouts (f s1 r1)) mail ∙ inv.queues s1 r1;
    letters = λ s1 r1. subst (λ f. Letters p s1 (f s1 r1)) (sym mail) (inv.letters s1 r1);
    recorded = subst (Each _) (sym faults) inv.recorded;
    kept = λ k1 r1 e1 f t g1 bad. subst (Member (record { item = k1; element = Some e1; fault = f })) (sym faults) (inv.kept k1 r1 e1 f t g1 bad);
    went = λ j y. ⊎_elim
        (λ (e : Join j ≡ Join k). let i : j ≡ k = ap item e in subst (λ z. is_going (seq p.program (suc z)) ≡ true) (sym i) g)
        (λ (e : m (Join j) ≡ true). inv.went j e)
        (mark_true (Join k) m (Join j) y);
    ranks = λ r lt. (
      suc k,
      record {
        stands = next_marks r (here r lt).stands;
        says = record {
          told = out;
          cells = λ g2 c f. cells r lt c f ∙ sym (value_next r lt c);
          variables = λ g2 v. variables v ∙ ap (λ j. store_at p j (Variable v)) (sym (source_self p (suc k) not_reduce_next));
          parts = λ g2 s v. parts r lt s v ∙ sym (part_none p (mark (Join k) m) r (suc k) s v not_reduce_next (λ e. (here r lt).stands.ahead (End (suc k) r e) refl (omega arith)));
          frames = λ g2 e x y. absurd (false≢true (sym ((here r lt).stands.ahead (Begin (suc k) r e) refl (omega arith)) ∙ x));
        };
      },
    );
  }

  -- no partial holds an amount at an item that merges none
  units : is_merging (p.program.kind k) ≡ false → is_going (seq p.program k) ≡ true → (r : ℕ) → r < p.ranks → (s : ℕ) (v : VarCell) → st.partials r s v ≡ unit_at (p.reduces s v)
  units idle g r lt s v = (here r lt).says.parts g s v ∙ part_else p m r k s v (and_left (is_merging (p.program.kind k)) (s == p.program.site k) idle)

  -- Host
  goes_host : (x : VarCell → ℤ) (o : List ℕ) → p.program.kind k ≡ Host → is_going (seq p.program k) ≡ true
      → seq p.program (suc k) ≡ Going (with_variables x (store_at p k)) (output_of (seq p.program k) ++ o) → Sane (hosted k (Goes x o) st)
      → Inv p (mark (Join k) m) (hosted k (Goes x o) st)
  goes_host x o ho g n sane = after_join (hosted k (Goes x o) st) sane inv.running refl refl (ap is_going n) (ap (λ z. z ++ o) told ∙ ap output_of (sym n))
      (λ r lt c f. fresh_value g r lt c (fresh_next r lt c f).0 ∙ ap (λ s. store_of s (Data c)) (sym n))
      (λ v. ap (λ s. store_of s (Variable v)) (sym n))
      (units (ap is_merging ho) g)

  -- Ordered
  goes_loop : (t : Store) → p.program.kind k ≡ Ordered → is_going (seq p.program k) ≡ true
      → loop p.program k (elements p.program k) (store_at p k) ≡ Ran_through t
      → seq p.program (suc k) ≡ Going t (output_of (seq p.program k)) → Sane (spread p t st) → Inv p (mark (Join k) m) (spread p t st)
  goes_loop t od g ran n sane = after_join (spread p t st) sane inv.running refl refl (ap is_going n) (told ∙ ap output_of (sym n))
      (λ r lt c f. ⊎_elim
      (λ (y : (owner_of p c == r) ≡ true). cond-true (owner_of p c == r) (t (Data c)) (st.memories r c) y ∙ ap (λ s. store_of s (Data c)) (sym n))
      (λ (y : (owner_of p c == r) ≡ false).
      let before : Fresh p m r k c × ((owner_of p c ≡ r) ⊎ (p.modifies k c.dat ≡ false)) = fresh_next r lt c f in
      cond-false (owner_of p c == r) (t (Data c)) (st.memories r c) y
      ∙ (fresh_value g r lt c before.0
      ∙ (⊎_elim
      (λ (i : owner_of p c ≡ r). absurd (false≢true (sym y ∙ eq-eqb (owner_of p c) r i)))
      (λ (i : p.modifies k c.dat ≡ false). sym (ran_stays p q k c (store_at p k) t od i ran))
      before.1
      ∙ ap (λ s. store_of s (Data c)) (sym n))))
      (cases_Bool (owner_of p c == r)))
      (λ v. ap (λ s. store_of s (Variable v)) (sym n))
      (units (ap is_merging od) g)

  -- Reduce: the partials of all ranks are the amounts of all elements
  module _ (j : ℕ) (at : k ≡ suc j) (does : p.program.kind k ≡ Reduce) (g : is_going (seq p.program k) ≡ true) where
    after_free : (p.program.kind j ≡ Free) × (p.program.site k ≡ p.program.site j)
    after_free = let x : (p.program.kind j ≡ Free) × (p.program.site (suc j) ≡ p.program.site j) =
        q.lawful.items.reduce_after j (subst (λ i. p.program.kind i ≡ Reduce) at does) in (x.0, ap p.program.site at ∙ x.1)

    about_j : source p k ≡ j
    about_j = ap (source p) at ∙ source_reduce p j (subst (λ i. p.program.kind i ≡ Reduce) at does)

    going_j : is_going (seq p.program j) ≡ true
    going_j = going_down p j k (omega arith) g

    -- the operation on a variable, what it holds before the loop, and what the elements of the ranks below n make of it
    abbrev op : VarCell → Option Reduction
    op v = p.reduces (p.program.site j) v

    abbrev before : VarCell → ℤ
    before v = store_at p j (Variable v)

    abbrev made_below : VarCell → ℕ → ℤ
    made_below v n = folded (elements p.program j) (λ e. nat_lt (p.owner (p.program.set j) e) n) (λ e. effect p j e (store_at p j) (Variable v)) (before v)

    part_is : (v : VarCell) (r : ℕ) → r < p.ranks → st.partials r (p.program.site j) v ≡ part_at p m r v j
    part_is v r lt =
        ap (λ s. st.partials r s v) (sym after_free.1)
        ∙ ((here r lt).says.parts g (p.program.site k) v ∙ (part_here p m r k v (ap is_merging does) ∙ ap (part_at p m r v) about_j))

    merged_is : (v : VarCell) (n : ℕ) → n ≤ p.ranks → merged_from st (op v) (p.program.site j) v n (before v) ≡ made_below v n
    merged_is v zero le = sym (folded_none (elements p.program j) (λ e. nat_lt (p.owner (p.program.set j) e) 0)
        (λ e. effect p j e (store_at p j) (Variable v)) (before v) (λ e l. inl (le-ltb (p.owner (p.program.set j) e) 0 (omega arith))))
    merged_is v (suc n) le =
        ap (λ x. merge_at (op v) x (st.partials n (p.program.site j) v)) (merged_is v n (omega arith))
        ∙ (ap (merge_at (op v) (made_below v n)) (part_is v n (omega arith))
        ∙ (folded_merge (elements p.program j) (λ e. (p.owner (p.program.set j) e == n) && m (End j n e)) (λ e. effect p j e (store_at p j) (Variable v))
        (merge_at (op v) (made_below v n)) (unit_at (op v)) (made_below v n)
        (merge_unit p q (op v) (made_below v n)
        (subst Good (merged_is v n (omega arith))
        (good_merged p q st inv.sane (op v) (p.program.site j) v n (before v) (good_store p q j going_j (Variable v)))))
        (λ e x l. merge_amount p q j e (store_at p j) v (made_below v n) x after_free.0 l)
        ∙ folded_union (elements p.program j) (elements p.program j) (λ e. nat_lt (p.owner (p.program.set j) e) n)
        (λ e. (p.owner (p.program.set j) e == n) && m (End j n e)) (λ e. nat_lt (p.owner (p.program.set j) e) (suc n))
        (λ e. effect p j e (store_at p j) (Variable v)) (before v)
        (omega arith) (commutes p q j (store_at p j) (Variable v) after_free.0) marks))
      where
        marks : (e : ℕ) → e < elements p.program j →
            ((nat_lt (p.owner (p.program.set j) e) n ≡ true) × (((p.owner (p.program.set j) e == n) && m (End j n e)) ≡ false)
            × (nat_lt (p.owner (p.program.set j) e) (suc n) ≡ true))
            ⊎ ((nat_lt (p.owner (p.program.set j) e) n ≡ false)
            × (((p.owner (p.program.set j) e == n) && m (End j n e)) ≡ nat_lt (p.owner (p.program.set j) e) (suc n)))
        marks e l = ⊎_elim
            (λ (lt : p.owner (p.program.set j) e < n). inl (
              lt-ltb (p.owner (p.program.set j) e) n lt,
              and_left (p.owner (p.program.set j) e == n) (m (End j n e))
                  (ne_eqb (p.owner (p.program.set j) e) n (λ i. omega arith)),
              lt-ltb (p.owner (p.program.set j) e) (suc n) (omega arith),
            ))
            (λ (ge : n ≤ p.owner (p.program.set j) e). inr (
              le-ltb (p.owner (p.program.set j) e) n ge,
              ⊎_elim
                  (λ (eq : p.owner (p.program.set j) e ≡ n).
                  let done : m (End j n e) ≡ true = (here n (omega arith)).stands.past (End j n e) (
                    (let lo : k < p.program.items = low in omega arith),
                    ap is_free after_free.0,
                    omega arith,
                    and_from (nat_lt e (elements p.program j)) (executes p j n e) (lt-ltb e (elements p.program j) l)
                        (or_left (p.owner (p.program.set j) e == n) (p.scatters j && p.import_execute n (p.program.set j) e)
                        (eq-eqb (p.owner (p.program.set j) e) n eq)),
                  ) refl (omega arith) in
                  and_from (p.owner (p.program.set j) e == n) (m (End j n e)) (eq-eqb (p.owner (p.program.set j) e) n eq) done ∙ sym (lt-ltb (p.owner (p.program.set j) e) (suc n) (omega arith)))
                  (λ (ne : p.owner (p.program.set j) e ≡ n → ⊥). and_left (p.owner (p.program.set j) e == n) (m (End j n e))
                  (ne_eqb (p.owner (p.program.set j) e) n ne) ∙ sym (le-ltb (p.owner (p.program.set j) e) (suc n) (omega arith)))
                  (cases_eq (p.owner (p.program.set j) e) n),
            ))
            (cases_lt (p.owner (p.program.set j) e) n)

    all_merged : (v : VarCell) → merged_from st (op v) (p.program.site j) v p.ranks (before v) ≡ folded (elements p.program j) (λ e. true) (λ e. effect p j e (store_at p j) (Variable v)) (before v)
    all_merged v =
        merged_is v p.ranks (omega arith)
        ∙ folded_same (elements p.program j) (λ e. nat_lt (p.owner (p.program.set j) e) p.ranks) (λ e. true) (λ e. effect p j e (store_at p j) (Variable v)) (before v)
        (λ e l. inl (lt-ltb (p.owner (p.program.set j) e) p.ranks (q.lawful.items.owners (p.program.set j) e l)))

    reduced_variable : (v : VarCell) → FreeCase p j → merged_from st (p.reduces (p.program.site k) v) (p.program.site k) v p.ranks (st.variables v) ≡ store_at p k (Variable v)
    reduced_variable v (was_over h x) = absurd (false≢true (sym h ∙ (ap is_going (sym (ap (seq p.program) at ∙ x)) ∙ g)))
    reduced_variable v (ends h a f le bad none t x) = absurd (false≢true (ap is_going (sym (ap (seq p.program) at ∙ x)) ∙ g))
    reduced_variable v (goes_on h h2 none sums out) =
        ap (λ s. merged_from st (p.reduces s v) s v p.ranks (st.variables v)) after_free.1
        ∙ (ap (merged_from st (op v) (p.program.site j) v p.ranks) ((here 0 q.lawful.items.some_rank).says.variables g v ∙ ap (λ i. store_at p i (Variable v)) about_j)
        ∙ (all_merged v ∙ (sym (sums (Variable v)) ∙ ap (λ i. store_at p i (Variable v)) (sym at))))

    reduces_all : seq p.program (suc k) ≡ seq p.program k → Inv p (mark (Join k) m) (reduced p k st)
    reduces_all n = after_join (reduced p k st) (good_reduced p q st inv.sane k) inv.running refl refl (ap is_going n ∙ g) (told ∙ ap output_of (sym n))
        (λ r lt c f. fresh_value g r lt c (fresh_next r lt c f).0 ∙ ap (λ s. store_of s (Data c)) (sym n))
        (λ v. reduced_variable v (free_case p q j after_free.0) ∙ ap (λ s. store_of s (Variable v)) (sym n))
        (λ r lt s v. ⊎_elim
        (λ (y : (s == p.program.site k) ≡ true). cond-true (s == p.program.site k) (unit_at (p.reduces s v)) (st.partials r s v) y)
        (λ (y : (s == p.program.site k) ≡ false).
        cond-false (s == p.program.site k) (unit_at (p.reduces s v)) (st.partials r s v) y
        ∙ ((here r lt).says.parts g s v ∙ part_else p m r k s v (and_right (is_merging (p.program.kind k)) (s == p.program.site k) y)))
        (cases_Bool (s == p.program.site k)))

  goes_reduce : (i : ℕ) → k ≡ i → p.program.kind k ≡ Reduce → is_going (seq p.program k) ≡ true → seq p.program (suc k) ≡ seq p.program k → Inv p (mark (Join k) m) (reduced p k st)
  goes_reduce zero at does g n = absurd (q.lawful.items.first_item (subst (λ i. p.program.kind i ≡ Reduce) at does))
  goes_reduce (suc j) at does g n = reduces_all j at does g n

  -- ---- all cases
  abbrev Kept : State F → Type 0
  Kept b = Inv p (mark (Join k) m) b ⊎ Halted p b

  -- a join that does its item
  does_item : is_going (seq p.program k) ≡ true → (x : Kind) → p.program.kind k ≡ x → Kept (done p k x st) → Kept (step p (Join k) st)
  does_item g x i h = subst (λ z. Kept (joined p k z st)) (sym (none_recorded p q m st inv k g)) (subst (λ y. Kept (done p k y st)) (sym i) h)

  going_case : is_going (seq p.program k) ≡ true → JoinCase p k → Kept (step p (Join k) st)
  going_case g (was_over_join h n) = absurd (false≢true (sym h ∙ g))
  going_case g (reduces_join does h n) = does_item g Reduce does (inl (goes_reduce k refl does g n))
  going_case g (runs_join od h t ran n) =
      let same : loop p.program k (elements p.program k) (gathered p st) ≡ Ran_through t = ap (loop p.program k (elements p.program k)) (gathered_is (ap is_reduce od) g) ∙ ran in
      does_item g Ordered od (inl (subst (λ z. Inv p (mark (Join k) m) (looped p k z st)) (sym same)
      (goes_loop t od g ran n (good_looped p q st inv.sane k (Ran_through t)
      (subst GoodLoop same (good_loop p q k (gathered p st) (elements p.program k) (ap is_loop od) (omega arith)
      (good_gathered p q st inv.sane)))))))
  going_case g (breaks_join od h e f t ran n) =
      let same : loop p.program k (elements p.program k) (gathered p st) ≡ Broke e f t = ap (loop p.program k (elements p.program k)) (gathered_is (ap is_reduce od) g) ∙ ran in
      does_item g Ordered od (inr (subst (λ z. Halted p (looped p k z st)) (sym same)
      (halts_at p (record { item = k; element = Some e; fault = f }) t (output_of (seq p.program k)) (looped p k (Broke e f t) st) (suc k)
      (let l : k < p.program.items = low in omega arith) n refl told)))
  going_case g (goes_join ho h x o act n) =
      let same : p.program.host k (gathered p st) ≡ Goes x o = ap (p.program.host k) (gathered_is (ap is_reduce ho) g) ∙ act in
      does_item g Host ho (inl (subst (λ z. Inv p (mark (Join k) m) (hosted k z st)) (sym same) (goes_host x o ho g n (good_hosted p q st inv.sane k (Goes x o) same))))
  going_case g (halts_join ho h f act n) =
      let same : p.program.host k (gathered p st) ≡ Halts f = ap (p.program.host k) (gathered_is (ap is_reduce ho) g) ∙ act in
      does_item g Host ho (inr (subst (λ z. Halted p (hosted k z st)) (sym same)
      (halts_at p (record { item = k; element = None; fault = f }) (store_at p k) (output_of (seq p.program k)) (hosted k (Halts f) st)
      (suc k) (let l : k < p.program.items = low in omega arith) n refl told)))

  pub keeps_join : Kept (step p (Join k) st)
  keeps_join = ⊎_elim
      (λ g. going_case g (join_case p k joins))
      (λ over. inr (fault_case p q m st inv k rd told (ended_at p k over)))
      (cases_Bool (is_going (seq p.program k)))
