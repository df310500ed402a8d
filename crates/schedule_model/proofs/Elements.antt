-- A begin and an end keep the facts.
use Rattle.std.proofs.Common.{◌≡◌, ℕ, ℤ, ◌<◌, Bool, true, false, cond, ◌⊎◌, inl, inr, refl, sym, ap, subst, ◌∙◌, arith, ⊎_elim, Option, Some, None, [], ◌∷◌, ◌++◌}
use Rattle.std.specs.Prelude.{◌&&◌, ◌==◌}
use Rattle.std.proofs.lemmas.Bool.{cases_eq, cases_Bool, false≢true, false_from_ne_true, or_cases, or_parts, and_from, and_left, and_right, cond-true, cond-false, eq-eqb, ne_eqb}
use Rattle.op_num.specs.Reduction.{Reduction}
use Rattle.schedule_steps.specs.declared.step.Step.{Step}
use Rattle.schedule_steps.specs.declared.step.Step.TheVariants.{Recv, Begin, End}
use Rattle.schedule_steps.specs.Steps.{IsStep, received, begun, same3, same}
use Rattle.schedule_steps.specs.Members.{same3_true, same3_refl}
use Rattle.schedule_model.specs.Cells.{Cell, Data, Variable, DatCell, VarCell, Store}
use Rattle.schedule_model.specs.Effects.{Ran, Faulted, Finished, is_read, is_modified, outcome}
use Rattle.schedule_model.specs.Program.{Free, elements}
use Rattle.schedule_model.specs.Setup.{Setup, owner_of, has_copy, executes, stale, outline}
use Rattle.schedule_model.specs.Sequential.{Stop, seq}
use Rattle.schedule_model.specs.Machine.{Frame, Shut, Broken, Holds, State, unit_at, merge_at, put3, window_of, view, opened, written_back, closed, step}
use Rattle.schedule_model.specs.Laws.{Reaches}
use Rattle.schedule_model.proofs.Fold.{folded_none, folded_same, folded_mark}
use Rattle.schedule_model.proofs.Law.{Law, fault, effect, runs, keeps, idle, apart, commutes, merge_unit, merge_amount, exchanged_is, owner_below}
use Rattle.schedule_model.proofs.Sequence.{is_going, store_at, good_store}
use Rattle.schedule_model.proofs.Marks.{mark, mark_self, mark_else, Ready, proper_more, stands_same, Apart}
use Rattle.schedule_model.proofs.Range.{Sane, good_view, sane_step}
use Rattle.schedule_model.proofs.Least.{Each, each_push, Member, member_left, member_push}
use Rattle.schedule_model.proofs.Facts.{Fresh, own, clean, came, value_at, source_free, part_at, is_merging, part_value, part_here, part_else, FrameIs, Says, At, frame_like, fresh_like}
use Rattle.schedule_model.proofs.Inv.{Inv, Recorded, Letters, abouts, at_item, put_same, put_other, at_other}
use Rattle.schedule_model.proofs.Messages.{run_below, end_begun}
use Rattle.schedule_model.specs.Tests.{free_kind}

outcome_fault : {F : Type 0} (b : Option F) (t : Store) (f : F) → outcome b t ≡ Faulted f → b ≡ Some f
outcome_fault None t f h = cc
outcome_fault (Some g) t f h = cc

outcome_done : {F : Type 0} (b : Option F) (t u : Store) → outcome b t ≡ Finished u → (b ≡ None) × (t ≡ u)
outcome_done None t u h = (refl, cc)
outcome_done (Some g) t u h = (cc, cc)

module _ {F : Type 0} (p : Setup F) (q : Law p) (m : Step → Bool) (st : State F) (inv : Inv p m st) (k r e : ℕ) where
  -- ---- begin
  -- what the element reads has the value that it had before the item
  reads_before : Ready (outline p) m (Begin k r e) → Says p m st r k → is_going (seq p.program k) ≡ true → (c : Cell) → is_read (p.touch k e c) ≡ true → view p k r st c ≡ store_at p k c
  reads_before rd h g (Variable v) y =
      let plan : IsStep (outline p) (Begin k r e) = rd.planned in
      let fr : p.program.kind k ≡ Free = free_kind (p.program.kind k) plan.1 in
      by_op (p.reduces (p.program.site k) v) (q.lawful.reaches k e v fr (run_below p k r e plan.3).0)
      ∙ (h.variables g v ∙ ap (λ j. store_at p j (Variable v)) (source_free p k fr))
    where
      by_op : (o : Option Reduction) → Reaches o (p.touch k e (Variable v)) → window_of o (st.variables v) ≡ st.variables v
      by_op None x = refl
      by_op (Some o) x = absurd (false≢true (sym (ap is_read x) ∙ y))
  reads_before rd h g (Data c) y =
      let plan : IsStep (outline p) (Begin k r e) = rd.planned in
      let fr : p.program.kind k ≡ Free = free_kind (p.program.kind k) plan.1 in
      let run : (e < elements p.program k) × (executes p k r e ≡ true) = run_below p k r e plan.3 in
      let fresh : Fresh p m r k c = ⊎_elim
      (λ (o : owner_of p c ≡ r). own o)
      (λ (i : (has_copy p r c ≡ true) × (p.needs k c.dat ≡ true) × (p.core r (p.program.set k) e ≡ false)). ⊎_elim
      (λ (old : stale p k c.dat ≡ true).
      let x : p.exchanged k c.dat ≡ true = exchanged_is p q k c.dat ∙ and_from (p.needs k c.dat) (stale p k c.dat) i.1 old in
      came i.0 x (rd.after (Recv k r (owner_of p c)) (plan.0, plan.1, owner_below p q c, plan.2, q.lawful.linked k r c fr plan.2 i.0 x) (received i.2)))
      (λ (new : stale p k c.dat ≡ false). clean i.0 new)
      (cases_Bool (stale p k c.dat)))
      (q.lawful.core_reads k r e c fr plan.2 run.0 run.1 y) in
      h.cells g c fresh
      ∙ folded_none (elements p.program k) (λ a. m (End k r a)) (λ a. effect p k a (store_at p k) (Data c)) (store_at p k (Data c))
      (λ a le. ⊎_elim
      (λ (w : is_modified (p.touch k a (Data c)) ≡ true).
      let i : a ≡ e = apart p q k e a (Data c) fr run.0 le y w in
      inl (false_from_ne_true (m (End k r a)) (λ t. false≢true (sym rd.untaken ∙ subst (λ b. m (Begin k r b) ≡ true) i (end_begun p q m st inv k r a t)))))
      (λ w. inr (λ x. keeps p q k a (store_at p k) (Data c) x w))
      (cases_Bool (is_modified (p.touch k a (Data c)))))

  run_is : Ready (outline p) m (Begin k r e) → Says p m st r k → is_going (seq p.program k) ≡ true
      → p.program.run k e (view p k r st) ≡ outcome (fault p k e (store_at p k)) (λ c. effect p k e (store_at p k) c (view p k r st c))
  run_is rd h g =
      let plan : IsStep (outline p) (Begin k r e) = rd.planned in
      runs p q k e (store_at p k) (view p k r st) (free_kind (p.program.kind k) plan.1) (run_below p k r e plan.3).0 (good_store p q k g) (good_view p q st inv.sane k r) (reads_before rd h g)

  -- what a begin leaves, in either case
  keeps_opened : Ready (outline p) m (Begin k r e) → At p m st r k → (x : Frame) (b : State F)
      → Sane b → b.stop ≡ None → b.mail ≡ st.mail → b.output ≡ st.output → b.memories ≡ st.memories → b.variables ≡ st.variables
      → b.partials ≡ st.partials → b.frames ≡ put3 k r e x st.frames → Each (Recorded p) b.faults
      → ((x : Stop F) → Member x st.faults → Member x b.faults)
      → (is_going (seq p.program k) ≡ true → (f : F) → fault p k e (store_at p k) ≡ Some f → Member (record { item = k; element = Some e; fault = f }) b.faults)
      → (is_going (seq p.program k) ≡ true → FrameIs p k e (st.memories r) (fault p k e (store_at p k)) x)
      → Inv p (mark (Begin k r e) m) b
  keeps_opened rd here F b sane stop mail out mem vars part frames faults more found frame = record {
    running = stop;
    sane = sane;
    right = proper_more (outline p) m (Begin k r e) inv.right rd;
    queues = λ s1 r1. ap (λ f. abouts (f s1 r1)) mail ∙ inv.queues s1 r1;
    letters = λ s1 r1. subst (λ f. Letters p s1 (f s1 r1)) (sym mail) (inv.letters s1 r1);
    recorded = faults;
    kept = λ k1 r1 e1 f t g bad. ⊎_elim
        (λ (y : same3 k1 r1 e1 k r e ≡ true).
        let i : (k1 ≡ k) × (r1 ≡ r) × (e1 ≡ e) = same3_true k1 r1 e1 k r e y in
        subst (λ z. Member (record { item = z; element = Some e1; fault = f }) b.faults) (sym i.0)
        (subst (λ z. Member (record { item = k; element = Some z; fault = f }) b.faults) (sym i.2)
        (found (ap (λ z. is_going (seq p.program z)) (sym i.0) ∙ g) f (ap (λ z. fault p k z (store_at p k)) (sym i.2) ∙ (ap (λ z. fault p z e1 (store_at p z)) (sym i.0) ∙ bad)))))
        (λ (y : m (Begin k1 r1 e1) ≡ true). more (record { item = k1; element = Some e1; fault = f }) (inv.kept k1 r1 e1 f y g bad))
        (or_cases (same3 k1 r1 e1 k r e) (m (Begin k1 r1 e1)) t);
    went = inv.went;
    ranks = λ x lt. ⊎_elim
        (λ (i : x ≡ r). subst (λ y. (j : ℕ) × At p (mark (Begin k r e) m) b y j) (sym i) (
          k,
          record {
            stands = stands_same (outline p) m r (Begin k r e) (λ z. cc) here.stands;
            says = record {
              told = out ∙ here.says.told;
              cells = λ g c f. ap (λ z. z r c) mem ∙ here.says.cells g c (fresh_like p m (mark (Begin k r e) m) r k c (λ z. z) f);
              variables = λ g v. ap (λ z. z v) vars ∙ here.says.variables g v;
              parts = λ g s v. ap (λ z. z r s v) part ∙ here.says.parts g s v;
              frames = λ g a t n.
                  subst (λ M. FrameIs p k a (M r) (fault p k a (store_at p k)) (b.frames k r a)) (sym mem)
                  (subst (λ G. FrameIs p k a (st.memories r) (fault p k a (store_at p k)) (G k r a)) (sym frames)
                  (⊎_elim
                  (λ (y : same3 k r a k r e ≡ true).
                  let j : (k ≡ k) × (r ≡ r) × (a ≡ e) = same3_true k r a k r e y in
                  subst (FrameIs p k a (st.memories r) (fault p k a (store_at p k))) (sym (cond-true (same3 k r a k r e) F (st.frames k r a) y))
                  (subst (λ z. FrameIs p k z (st.memories r) (fault p k z (store_at p k)) F) (sym j.2) (frame g)))
                  (λ (y : same3 k r a k r e ≡ false).
                  subst (FrameIs p k a (st.memories r) (fault p k a (store_at p k))) (sym (cond-false (same3 k r a k r e) F (st.frames k r a) y))
                  (here.says.frames g a (⊎_elim (λ z. absurd (false≢true (sym y ∙ z))) (λ z. z) (or_cases (same3 k r a k r e) (m (Begin k r a)) t)) n))
                  (cases_Bool (same3 k r a k r e))));
            };
          },
        ))
        (λ (ne : x ≡ r → ⊥). at_other p m st b (Begin k r e) x (λ z. ne (sym z)) out (λ c. ap (λ z. z x c) mem) vars (λ i v. ap (λ z. z x i v) part)
        (λ j a. ap (λ G. G j x a) frames ∙ cond-false (same3 j x a k r e) F (st.frames j x a)
        (false_from_ne_true (same3 j x a k r e) (λ y. let i : (j ≡ k) × (x ≡ r) × (a ≡ e) = same3_true j x a k r e y in ne i.1)))
        (inv.ranks x lt))
        (cases_eq x r);
  }

  keeps_run : Ready (outline p) m (Begin k r e) → At p m st r k → (x : Ran F) → p.program.run k e (view p k r st) ≡ x → Sane (opened k r e x st) → Inv p (mark (Begin k r e) m) (opened k r e x st)
  keeps_run rd here (Faulted f) run sane =
      let plan : IsStep (outline p) (Begin k r e) = rd.planned in
      let bad = λ (g : is_going (seq p.program k) ≡ true). outcome_fault (fault p k e (store_at p k)) (λ c. effect p k e (store_at p k) c (view p k r st c)) f (sym (run_is rd here.says g) ∙ run) in
      keeps_opened rd here Broken (opened k r e (Faulted f) st) sane inv.running refl refl refl refl refl refl
      (each_push (Recorded p) st.faults (record { item = k; element = Some e; fault = f }) inv.recorded
      (λ g. (e, refl, (run_below p k r e plan.3).0, bad g, free_kind (p.program.kind k) plan.1)))
      (λ x h. member_left x st.faults (record { item = k; element = Some e; fault = f } ∷ []) h)
      (λ g f1 b. let i : f ≡ f1 = (let j : Some f ≡ Some f1 = sym (bad g) ∙ b in cc) in
      subst (λ z. Member (record { item = k; element = Some e; fault = z }) (st.faults ++ (record { item = k; element = Some e; fault = f } ∷ []))) i
      (member_push (record { item = k; element = Some e; fault = f }) st.faults))
      (λ g. subst (λ b. FrameIs p k e (st.memories r) b Broken) (sym (bad g)) tt)
  keeps_run rd here (Finished t) run sane =
      let done = λ (g : is_going (seq p.program k) ≡ true). outcome_done (fault p k e (store_at p k)) (λ c. effect p k e (store_at p k) c (view p k r st c)) t (sym (run_is rd here.says g) ∙ run) in
      keeps_opened rd here (Holds t) (opened k r e (Finished t) st) sane inv.running refl refl refl refl refl refl inv.recorded (λ x h. h)
      (λ g f b. let none : None ≡ Some f = sym (done g).0 ∙ b in cc)
      (λ g. subst (λ b. FrameIs p k e (st.memories r) b (Holds t)) (sym (done g).0) (
        λ c w. ap (λ f. f (Data c)) (sym (done g).1),
        λ v o y. ap (λ f. f (Variable v)) (sym (done g).1) ∙ ap (λ z. effect p k e (store_at p k) (Variable v) (window_of z (st.variables v))) y,
      ))

  pub keeps_begin : Ready (outline p) m (Begin k r e) → Inv p (mark (Begin k r e) m) (step p (Begin k r e) st)
  keeps_begin rd =
      let plan : IsStep (outline p) (Begin k r e) = rd.planned in
      let low : k < p.program.items = plan.0 in
      keeps_run rd (at_item p q m st inv (Begin k r e) rd (omega arith) r refl plan.2) (p.program.run k e (view p k r st)) refl (sane_step p q st inv.sane (Begin k r e) plan)

  -- ---- end
  other_end : (a : ℕ) → (a ≡ e → ⊥) → mark (End k r e) m (End k r a) ≡ m (End k r a)
  other_end a ne = mark_else (End k r e) m (End k r a)
      (λ i. ne (let j : (k ≡ k) × (r ≡ r) × (a ≡ e) = same3_true k r a k r e
      (subst (λ z. same z (End k r e) ≡ true) (sym i) (same3_refl k r e)) in j.2))

  ended_value : Ready (outline p) m (End k r e) → (c : DatCell) → value_at p (mark (End k r e) m) r k c ≡ effect p k e (store_at p k) (Data c) (value_at p m r k c)
  ended_value rd c =
      let plan : IsStep (outline p) (End k r e) = rd.planned in
      folded_mark (elements p.program k) (elements p.program k) (λ a. m (End k r a)) (λ a. mark (End k r e) m (End k r a))
      (λ a. effect p k a (store_at p k) (Data c)) (store_at p k (Data c)) e (omega arith)
      (commutes p q k (store_at p k) (Data c) (free_kind (p.program.kind k) plan.1)) (run_below p k r e plan.3).0 rd.untaken (mark_self (End k r e) m) other_end

  ended_part : Ready (outline p) m (End k r e) → (v : VarCell)
      → part_at p (mark (End k r e) m) r v k ≡ cond (p.owner (p.program.set k) e == r)
      (effect p k e (store_at p k) (Variable v) (part_at p m r v k)) (part_at p m r v k)
  ended_part rd v =
      let plan : IsStep (outline p) (End k r e) = rd.planned in
      ⊎_elim
      (λ (y : (p.owner (p.program.set k) e == r) ≡ true).
      folded_mark (elements p.program k) (elements p.program k) (λ a. (p.owner (p.program.set k) a == r) && m (End k r a))
      (λ a. (p.owner (p.program.set k) a == r) && mark (End k r e) m (End k r a)) (λ a. effect p k a (store_at p k) (Variable v))
      (unit_at (p.reduces (p.program.site k) v)) e (omega arith)
      (commutes p q k (store_at p k) (Variable v) (free_kind (p.program.kind k) plan.1)) (run_below p k r e plan.3).0
      (and_right (p.owner (p.program.set k) e == r) (m (End k r e)) rd.untaken)
      (and_from (p.owner (p.program.set k) e == r) (mark (End k r e) m (End k r e)) y (mark_self (End k r e) m))
      (λ a ne. ap (λ b. (p.owner (p.program.set k) a == r) && b) (other_end a ne))
      ∙ sym (cond-true (p.owner (p.program.set k) e == r) (effect p k e (store_at p k) (Variable v) (part_at p m r v k)) (part_at p m r v k) y))
      (λ (y : (p.owner (p.program.set k) e == r) ≡ false).
      folded_same (elements p.program k) (λ a. (p.owner (p.program.set k) a == r) && mark (End k r e) m (End k r a))
      (λ a. (p.owner (p.program.set k) a == r) && m (End k r a)) (λ a. effect p k a (store_at p k) (Variable v))
      (unit_at (p.reduces (p.program.site k) v))
      (λ a le. inl (⊎_elim
      (λ (j : a ≡ e). let foreign : (p.owner (p.program.set k) a == r) ≡ false = subst (λ z. (p.owner (p.program.set k) z == r) ≡ false) (sym j) y in
      and_left (p.owner (p.program.set k) a == r) (mark (End k r e) m (End k r a)) foreign ∙ sym (and_left (p.owner (p.program.set k) a == r) (m (End k r a)) foreign))
      (λ (ne : a ≡ e → ⊥). ap (λ b. (p.owner (p.program.set k) a == r) && b) (other_end a ne))
      (cases_eq a e)))
      ∙ sym (cond-false (p.owner (p.program.set k) e == r) (effect p k e (store_at p k) (Variable v) (part_at p m r v k)) (part_at p m r v k) y))
      (cases_Bool (p.owner (p.program.set k) e == r))

  -- the partials that the item's site has after an end
  part_ended : Ready (outline p) m (End k r e) → (s : ℕ) (v : VarCell) (new old : ℤ) → old ≡ part_value p m r k s v
      → (s ≡ p.program.site k → new ≡ cond (p.owner (p.program.set k) e == r) (effect p k e (store_at p k) (Variable v) old) old) → ((s ≡ p.program.site k → ⊥) → new ≡ old)
      → new ≡ part_value p (mark (End k r e) m) r k s v
  part_ended rd s v new old was here else =
      let plan : IsStep (outline p) (End k r e) = rd.planned in
      let fr : p.program.kind k ≡ Free = free_kind (p.program.kind k) plan.1 in
      ⊎_elim
      (λ (i : s ≡ p.program.site k).
      let old_is : old ≡ part_at p m r v k = was ∙ (ap (λ j. part_value p m r k j v) i ∙ (part_here p m r k v (ap is_merging fr) ∙ ap (part_at p m r v) (source_free p k fr))) in
      here i
      ∙ (ap (λ z. cond (p.owner (p.program.set k) e == r) (effect p k e (store_at p k) (Variable v) z) z) old_is
      ∙ (sym (ended_part rd v)
      ∙ (ap (part_at p (mark (End k r e) m) r v) (sym (source_free p k fr))
      ∙ (sym (part_here p (mark (End k r e) m) r k v (ap is_merging fr)) ∙ ap (λ j. part_value p (mark (End k r e) m) r k j v) (sym i))))))
      (λ (ne : s ≡ p.program.site k → ⊥).
      let no_part : (is_merging (p.program.kind k) && (s == p.program.site k)) ≡ false = and_right (is_merging (p.program.kind k)) (s == p.program.site k) (ne_eqb s (p.program.site k) ne) in
      else ne ∙ (was ∙ (part_else p m r k s v no_part ∙ sym (part_else p (mark (End k r e) m) r k s v no_part))))
      (cases_eq s (p.program.site k))

  keeps_closed : Ready (outline p) m (End k r e) → Apart p m → At p m st r k → (b : State F)
      → Sane b → b.stop ≡ None → b.mail ≡ st.mail → b.output ≡ st.output → b.variables ≡ st.variables → b.faults ≡ st.faults → b.frames ≡ put3 k r e Shut st.frames
      → ((x : ℕ) → (x ≡ r → ⊥) → (c : DatCell) → b.memories x c ≡ st.memories x c)
      → ((x : ℕ) → (x ≡ r → ⊥) → (s : ℕ) (v : VarCell) → b.partials x s v ≡ st.partials x s v)
      → (is_going (seq p.program k) ≡ true → (c : DatCell) → b.memories r c ≡ effect p k e (store_at p k) (Data c) (st.memories r c))
      → ((c : DatCell) → is_modified (p.touch k e (Data c)) ≡ false → b.memories r c ≡ st.memories r c)
      → (is_going (seq p.program k) ≡ true → (s : ℕ) (v : VarCell) → s ≡ p.program.site k
      → b.partials r s v ≡ cond (p.owner (p.program.set k) e == r) (effect p k e (store_at p k) (Variable v) (st.partials r s v))
      (st.partials r s v))
      → ((s : ℕ) (v : VarCell) → (s ≡ p.program.site k → ⊥) → b.partials r s v ≡ st.partials r s v)
      → Inv p (mark (End k r e) m) b
  keeps_closed rd two here b sane stop mail out vars faults frames others other_parts changed kept merges still = record {
    running = stop;
    sane = sane;
    right = proper_more (outline p) m (End k r e) inv.right rd;
    queues = λ s1 r1. ap (λ f. abouts (f s1 r1)) mail ∙ inv.queues s1 r1;
    letters = λ s1 r1. subst (λ f. Letters p s1 (f s1 r1)) (sym mail) (inv.letters s1 r1);
    recorded = subst (Each (Recorded p)) (sym faults) inv.recorded;
    kept = λ k1 r1 e1 f t g bad. subst (Member (record { item = k1; element = Some e1; fault = f })) (sym faults) (inv.kept k1 r1 e1 f t g bad);
    went = inv.went;
    ranks = λ x lt. ⊎_elim
        (λ (i : x ≡ r). subst (λ y. (j : ℕ) × At p (mark (End k r e) m) b y j) (sym i) (
          k,
          record {
            stands = stands_same (outline p) m r (End k r e) (λ z. cc) here.stands;
            says = record {
              told = out ∙ here.says.told;
              cells = λ g c f.
                  let f0 : Fresh p m r k c = fresh_like p m (mark (End k r e) m) r k c (λ z. z) f in
                  changed g c ∙ (ap (effect p k e (store_at p k) (Data c)) (here.says.cells g c f0) ∙ sym (ended_value rd c));
              variables = λ g v. ap (λ z. z v) vars ∙ here.says.variables g v;
              parts = λ g s v. part_ended rd s v (b.partials r s v) (st.partials r s v) (here.says.parts g s v) (merges g s v) (still s v);
              frames = λ g a t n.
                  let parts : (same3 k r a k r e ≡ false) × (m (End k r a) ≡ false) = or_parts (same3 k r a k r e) (m (End k r a)) n in
                  let ne = λ (i : a ≡ e). false≢true (sym parts.0 ∙ subst (λ z. same3 k r z k r e ≡ true) (sym i) (same3_refl k r e)) in
                  subst (λ G. FrameIs p k a (b.memories r) (fault p k a (store_at p k)) (G k r a)) (sym frames)
                  (subst (FrameIs p k a (b.memories r) (fault p k a (store_at p k))) (sym (cond-false (same3 k r a k r e) Shut (st.frames k r a) parts.0))
                  (frame_like p k a (st.memories r) (b.memories r) (fault p k a (store_at p k)) (st.frames k r a)
                  (λ c w. kept c (false_from_ne_true (is_modified (p.touch k e (Data c)))
                  (λ v. two k r a e c t parts.1 (rd.after (Begin k r e) rd.planned begun) rd.untaken ne w v)))
                  (here.says.frames g a t parts.1)));
            };
          },
        ))
        (λ (ne : x ≡ r → ⊥). at_other p m st b (End k r e) x (λ z. ne (sym z)) out (others x ne) vars (other_parts x ne)
        (λ j a. ap (λ G. G j x a) frames ∙ cond-false (same3 j x a k r e) Shut (st.frames j x a)
        (false_from_ne_true (same3 j x a k r e) (λ y. let i : (j ≡ k) × (x ≡ r) × (a ≡ e) = same3_true j x a k r e y in ne i.1)))
        (inv.ranks x lt))
        (cases_eq x r);
  }

  -- a frame without windows is that of a faulty element
  stays : (b : Option F) → fault p k e (store_at p k) ≡ b → (x : Frame) → (x ≡ Broken) ⊎ (x ≡ Shut) → FrameIs p k e (st.memories r) b x → (c : Cell) (v : ℤ) → v ≡ effect p k e (store_at p k) c v
  stays (Some f) i x j h c v = sym (idle p q k e (store_at p k) c v f i)
  stays None i Broken j h c v = absurd h
  stays None i Shut j h c v = absurd h
  stays None i (Holds t) j h c v = ⊎_elim (λ x. cc) (λ x. cc) j

  -- nothing changes but the frame
  keeps_shut : Ready (outline p) m (End k r e) → Apart p m → At p m st r k → (x : Frame) → (x ≡ Broken) ⊎ (x ≡ Shut)
      → (is_going (seq p.program k) ≡ true → FrameIs p k e (st.memories r) (fault p k e (store_at p k)) x)
      → Sane (record st { frames = put3 k r e Shut st.frames }) → Inv p (mark (End k r e) m) (record st { frames = put3 k r e Shut st.frames })
  keeps_shut rd two here x j h sane = keeps_closed rd two here (record st { frames = put3 k r e Shut st.frames }) sane inv.running refl refl refl refl refl (λ y ne c. refl) (λ y ne s v. refl)
      (λ g c. stays (fault p k e (store_at p k)) refl x j (h g) (Data c) (st.memories r c)) (λ c w. refl)
      (λ g s v y. ⊎_elim
      (λ t. stays (fault p k e (store_at p k)) refl x j (h g) (Variable v) (st.partials r s v)
      ∙ sym (cond-true (p.owner (p.program.set k) e == r) (effect p k e (store_at p k) (Variable v) (st.partials r s v))
      (st.partials r s v) t))
      (λ t. sym (cond-false (p.owner (p.program.set k) e == r) (effect p k e (store_at p k) (Variable v) (st.partials r s v)) (st.partials r s v) t))
      (cases_Bool (p.owner (p.program.set k) e == r)))
      (λ s v y. refl)

  windows : (t : Store) (b : Option F) → FrameIs p k e (st.memories r) b (Holds t)
      → ((c : DatCell) → is_modified (p.touch k e (Data c)) ≡ true → t (Data c) ≡ effect p k e (store_at p k) (Data c) (st.memories r c))
      × ((v : VarCell) (o : Reduction) → p.reduces (p.program.site k) v ≡ Some o → t (Variable v) ≡ effect p k e (store_at p k) (Variable v) (unit_at (Some o)))
  windows t None h = h
  windows t (Some f) h = absurd h

  -- one more amount in a partial
  amount_in : p.program.kind k ≡ Free → e < elements p.program k → (v : VarCell) (x old : ℤ) → old ≡ merge_at (p.reduces (p.program.site k) v) old (unit_at (p.reduces (p.program.site k) v))
      → ((o : Reduction) → p.reduces (p.program.site k) v ≡ Some o → x ≡ effect p k e (store_at p k) (Variable v) (unit_at (Some o)))
      → merge_at (p.reduces (p.program.site k) v) old x ≡ effect p k e (store_at p k) (Variable v) old
  amount_in fr lt v x old unit from_unit = by_op (p.reduces (p.program.site k) v) refl
    where
      by_op : (o : Option Reduction) → p.reduces (p.program.site k) v ≡ o → merge_at (p.reduces (p.program.site k) v) old x ≡ effect p k e (store_at p k) (Variable v) old
      by_op None i =
          ap (λ z. merge_at z old x) i
          ∙ (ap (λ z. merge_at z old (effect p k e (store_at p k) (Variable v) (unit_at (p.reduces (p.program.site k) v)))) (sym i)
          ∙ (merge_amount p q k e (store_at p k) v old (unit_at (p.reduces (p.program.site k) v)) fr lt ∙ ap (effect p k e (store_at p k) (Variable v)) (sym unit)))
      by_op (Some o) i =
          ap (merge_at (p.reduces (p.program.site k) v) old) (from_unit o i ∙ ap (λ z. effect p k e (store_at p k) (Variable v) (unit_at z)) (sym i))
          ∙ (merge_amount p q k e (store_at p k) v old (unit_at (p.reduces (p.program.site k) v)) fr lt ∙ ap (effect p k e (store_at p k) (Variable v)) (sym unit))

  module _ (t : Store) where
    abbrev cells_back : DatCell → ℤ
    cells_back c = cond (is_modified (p.touch k e (Data c))) (t (Data c)) (st.memories r c)

    abbrev parts_back : VarCell → ℤ
    parts_back v = cond (p.owner (p.program.set k) e == r) (merge_at (p.reduces (p.program.site k) v) (st.partials r (p.program.site k) v) (t (Variable v))) (st.partials r (p.program.site k) v)

    keeps_back : Ready (outline p) m (End k r e) → Apart p m → At p m st r k
        → (is_going (seq p.program k) ≡ true → FrameIs p k e (st.memories r) (fault p k e (store_at p k)) (Holds t))
        → Sane (written_back p k r e t st) → Inv p (mark (End k r e) m) (written_back p k r e t st)
    keeps_back rd two here h sane =
        let plan : IsStep (outline p) (End k r e) = rd.planned in
        let fr : p.program.kind k ≡ Free = free_kind (p.program.kind k) plan.1 in
        let run : (e < elements p.program k) × (executes p k r e ≡ true) = run_below p k r e plan.3 in
        keeps_closed rd two here (written_back p k r e t st) sane inv.running refl refl refl refl refl
        (λ x ne c. put_other r x cells_back st.memories c ne)
        (λ x ne s v. ap (λ f. f v) (cond-false ((x == r) && (s == p.program.site k)) parts_back (st.partials x s) (and_left (x == r) (s == p.program.site k) (ne_eqb x r ne))))
        (λ g c. put_same r cells_back st.memories c ∙ ⊎_elim
        (λ (w : is_modified (p.touch k e (Data c)) ≡ true). cond-true (is_modified (p.touch k e (Data c))) (t (Data c)) (st.memories r c) w ∙ (windows t (fault p k e (store_at p k)) (h g)).0 c w)
        (λ (w : is_modified (p.touch k e (Data c)) ≡ false). cond-false (is_modified (p.touch k e (Data c))) (t (Data c)) (st.memories r c)
        w ∙ sym (keeps p q k e (store_at p k) (Data c) (st.memories r c) w))
        (cases_Bool (is_modified (p.touch k e (Data c)))))
        (λ c w. put_same r cells_back st.memories c ∙ cond-false (is_modified (p.touch k e (Data c))) (t (Data c)) (st.memories r c) w)
        (λ g s v y.
        let old : st.partials r s v ≡ st.partials r (p.program.site k) v = ap (λ j. st.partials r j v) y in
        ap (λ f. f v) (cond-true ((r == r) && (s == p.program.site k)) parts_back (st.partials r s) (and_from (r == r) (s == p.program.site k) (eq-eqb r r refl) (eq-eqb s (p.program.site k) y)))
        ∙ (⊎_elim
        (λ (o : (p.owner (p.program.set k) e == r) ≡ true).
        cond-true (p.owner (p.program.set k) e == r) (merge_at (p.reduces (p.program.site k) v) (st.partials r (p.program.site k) v) (t (Variable v))) (st.partials r (p.program.site k) v) o
        ∙ (amount_in fr run.0 v (t (Variable v)) (st.partials r (p.program.site k) v)
        (sym (merge_unit p q (p.reduces (p.program.site k) v) (st.partials r (p.program.site k) v)
        (inv.sane.parts r (p.program.site k) v))) ((windows t (fault p k e (store_at p k)) (h g)).1 v)
        ∙ sym (cond-true (p.owner (p.program.set k) e == r) (effect p k e (store_at p k) (Variable v) (st.partials r (p.program.site k) v)) (st.partials r (p.program.site k) v) o)))
        (λ (o : (p.owner (p.program.set k) e == r) ≡ false).
        cond-false (p.owner (p.program.set k) e == r) (merge_at (p.reduces (p.program.site k) v) (st.partials r (p.program.site k) v) (t (Variable v))) (st.partials r (p.program.site k) v) o
        ∙ sym (cond-false (p.owner (p.program.set k) e == r) (effect p k e (store_at p k) (Variable v) (st.partials r (p.program.site k) v)) (st.partials r (p.program.site k) v) o))
        (cases_Bool (p.owner (p.program.set k) e == r))
        ∙ ap (λ z. cond (p.owner (p.program.set k) e == r) (effect p k e (store_at p k) (Variable v) z) z) (sym old)))
        (λ s v ne. ap (λ f. f v) (cond-false ((r == r) && (s == p.program.site k)) parts_back (st.partials r s) (and_right (r == r) (s == p.program.site k) (ne_eqb s (p.program.site k) ne))))

  keeps_frame : Ready (outline p) m (End k r e) → Apart p m → At p m st r k → (x : Frame)
      → (is_going (seq p.program k) ≡ true → FrameIs p k e (st.memories r) (fault p k e (store_at p k)) x) → Sane (closed p k r e x st)
      → Inv p (mark (End k r e) m) (closed p k r e x st)
  keeps_frame rd two here Shut h sane = keeps_shut rd two here Shut (inr refl) h sane
  keeps_frame rd two here Broken h sane = keeps_shut rd two here Broken (inl refl) h sane
  keeps_frame rd two here (Holds t) h sane = keeps_back t rd two here h sane

  pub keeps_end : Ready (outline p) m (End k r e) → Apart p m → Inv p (mark (End k r e) m) (step p (End k r e) st)
  keeps_end rd two =
      let plan : IsStep (outline p) (End k r e) = rd.planned in
      let low : k < p.program.items = plan.0 in
      let here : At p m st r k = at_item p q m st inv (End k r e) rd (omega arith) r refl plan.2 in
      keeps_frame rd two here (st.frames k r e) (λ g. here.says.frames g e (rd.after (Begin k r e) plan begun) rd.untaken) (sane_step p q st inv.sane (End k r e) plan)
