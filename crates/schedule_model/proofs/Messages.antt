-- A send and a receive keep the facts.
use Rattle.std.proofs.Common.{◌≡◌, ℕ, ℤ, ◌<◌, Bool, true, false, cond, inl, inr, refl, sym, ap, subst, ◌∙◌, arith, ⊎_elim, List, [], ◌∷◌, ◌++◌}
use Rattle.std.specs.Prelude.{◌&&◌, ◌==◌, not, nat_lt}
use Rattle.std.proofs.lemmas.Bool.{cases_eq, cases_Bool, false≢true, false_from_ne_true, or_cases, and_parts, and_from, and_left, and_right, cond-true, cond-false, not_from_false, eqb-true, eq-eqb, not_from_true, ltb-true}
use Rattle.schedule_steps.specs.declared.step.Step.{Step}
use Rattle.schedule_steps.specs.declared.step.Step.TheVariants.{Send, Recv, Begin, End}
use Rattle.schedule_steps.specs.Steps.{item, IsStep, by_item, sent, sent_first, received, begun, same3, same}
use Rattle.schedule_steps.specs.Members.{same3_true, same3_refl}
use Rattle.schedule_model.specs.Cells.{Data, DatCell}
use Rattle.schedule_model.specs.Effects.{is_modified}
use Rattle.schedule_model.specs.Program.{elements}
use Rattle.schedule_model.specs.Setup.{Setup, owner_of, has_copy, executes, outline}
use Rattle.schedule_model.specs.Sequential.{seq}
use Rattle.schedule_model.specs.Machine.{Message, State, taken, delivered, arrives, step}
use Rattle.schedule_model.proofs.Fold.{folded_none}
use Rattle.schedule_model.proofs.Law.{Law, fault, effect, keeps}
use Rattle.schedule_model.proofs.Sequence.{is_going, store_at}
use Rattle.schedule_model.proofs.Marks.{mark, mark_self, mark_else, Ready, proper_more, Stands, stands_same, waiting, pending, pending_same, pending_push, pending_pop}
use Rattle.schedule_model.proofs.Range.{Sane, sane_step}
use Rattle.schedule_model.proofs.Facts.{Fresh, own, clean, came, value_at, Says, says_other, At, frame_like}
use Rattle.schedule_model.proofs.Inv.{Inv, Letter, Letters, abouts, abouts_push, letters_push, at_item, put_same, put_other, at_other, two_same}
use Rattle.schedule_model.specs.Tests.{free_kind}

-- the element is of the set, where the rank runs it
pub run_below : {F : Type 0} (p : Setup F) (k r e : ℕ) → (nat_lt e (elements p.program k) && executes p k r e) ≡ true → (e < elements p.program k) × (executes p k r e ≡ true)
run_below p k r e h = let x : (nat_lt e (elements p.program k) ≡ true) × (executes p k r e ≡ true) =
    and_parts (nat_lt e (elements p.program k)) (executes p k r e) h in (ltb-true e (elements p.program k) x.0, x.1)

module _ {F : Type 0} (p : Setup F) (q : Law p) (m : Step → Bool) (st : State F) (inv : Inv p m st) where
  -- an element that ended had begun
  pub end_begun : (k r e : ℕ) → m (End k r e) ≡ true → m (Begin k r e) ≡ true
  end_begun k r e t = inv.right.closed (End k r e) (Begin k r e) t (inv.right.sound (End k r e) t) begun

  -- what an owner has when it sends
  sent_value : (k s r : ℕ) → Ready (outline p) m (Send k s r) → At p m st s k → is_going (seq p.program k) ≡ true → (c : DatCell) → owner_of p c ≡ s → st.memories s c ≡ store_at p k (Data c)
  sent_value k s r rd h g c o =
      h.says.cells g c (own o)
      ∙ folded_none (elements p.program k) (λ e. m (End k s e)) (λ e. effect p k e (store_at p k) (Data c)) (store_at p k (Data c))
      (λ e le. inl (false_from_ne_true (m (End k s e)) (λ t. false≢true (sym rd.untaken ∙ inv.right.closed (Begin k s e) (Send k s r) (end_begun k s e t) rd.planned sent_first))))

  send_pending : (k s r : ℕ) → Ready (outline p) m (Send k s r) → Stands (outline p) m s k
      → pending (waiting (mark (Send k s r) m) s r) p.program.items ≡ pending (waiting m s r) p.program.items ++ (k ∷ [])
  send_pending k s r rd h =
      let plan : IsStep (outline p) (Send k s r) = rd.planned in
      pending_push (waiting m s r) (waiting (mark (Send k s r) m) s r) k p.program.items plan.0
      (and_left (m (Send k s r)) (not (m (Recv k r s))) rd.untaken)
      (and_from (mark (Send k s r) m (Send k s r)) (not (m (Recv k r s))) (mark_self (Send k s r) m)
      (not_from_false (m (Recv k r s)) (false_from_ne_true (m (Recv k r s)) (λ t. false≢true (sym rd.untaken ∙ inv.right.closed (Recv k r s) (Send k s r) t plan sent)))))
      (λ j ne. ap (λ b. b && not (m (Recv j r s))) (mark_else (Send k s r) m (Send j s r) (λ i. ne (let e : item (Send j s r) ≡ k = ap item i in e))))
      (λ j lt. and_left (m (Send j s r)) (not (m (Recv j r s))) (h.ahead (Send j s r) refl lt))

  recv_pending : (k r s : ℕ) → Ready (outline p) m (Recv k r s) → pending (waiting m s r) p.program.items ≡ k ∷ pending (waiting (mark (Recv k r s) m) s r) p.program.items
  recv_pending k r s rd =
      let plan : IsStep (outline p) (Recv k r s) = rd.planned in
      pending_pop (waiting m s r) (waiting (mark (Recv k r s) m) s r) k p.program.items plan.0
      (and_from (m (Send k s r)) (not (m (Recv k r s))) (rd.after (Send k s r) plan sent) (not_from_false (m (Recv k r s)) rd.untaken))
      (and_right (m (Send k s r)) (not (mark (Recv k r s) m (Recv k r s))) (not_from_true (mark (Recv k r s) m (Recv k r s)) (mark_self (Recv k r s) m)))
      (λ j ne. ap (λ b. m (Send j s r) && not b) (mark_else (Recv k r s) m (Recv j r s) (λ i. ne (let e : item (Recv j r s) ≡ k = ap item i in e))))
      (λ j lt. ⊎_elim
      (λ (t : m (Send j s r) ≡ true). and_right (m (Send j s r)) (not (m (Recv j r s)))
      (not_from_true (m (Recv j r s)) (rd.after (Recv j r s) (inv.right.sound (Send j s r) t) (by_item r refl refl lt))))
      (λ (t : m (Send j s r) ≡ false). and_left (m (Send j s r)) (not (m (Recv j r s))) t)
      (cases_Bool (m (Send j s r))))

  pub keeps_send : (k s r : ℕ) → Ready (outline p) m (Send k s r) → Inv p (mark (Send k s r) m) (step p (Send k s r) st)
  keeps_send k s r rd =
      let plan : IsStep (outline p) (Send k s r) = rd.planned in
      let low : k < p.program.items = plan.0 in
      let here : At p m st s k = at_item p q m st inv (Send k s r) rd (omega arith) s refl plan.2 in
      record {
        running = inv.running;
        sane = sane_step p q st inv.sane (Send k s r) plan;
        right = proper_more (outline p) m (Send k s r) inv.right rd;
        queues = λ s1 r1. ⊎_elim
            (λ (y : ((s1 == s) && (r1 == r)) ≡ true).
            let e : (s1 ≡ s) × (r1 ≡ r) = two_same s r s1 r1 y in
            ap abouts (cond-true ((s1 == s) && (r1 == r)) (st.mail s r ++ (record { about = k; values = st.memories s } ∷ [])) (st.mail s1 r1) y)
            ∙ (abouts_push (st.mail s r) (record { about = k; values = st.memories s })
            ∙ (ap (λ l. l ++ (k ∷ [])) (inv.queues s r)
            ∙ (sym (send_pending k s r rd here.stands)
            ∙ (ap (λ i. pending (waiting (mark (Send k s r) m) i r) p.program.items) (sym e.0) ∙ ap (λ i. pending (waiting (mark (Send k s r) m) s1 i) p.program.items) (sym e.1))))))
            (λ (y : ((s1 == s) && (r1 == r)) ≡ false).
            ap abouts (cond-false ((s1 == s) && (r1 == r)) (st.mail s r ++ (record { about = k; values = st.memories s } ∷ [])) (st.mail s1 r1) y)
            ∙ (inv.queues s1 r1
            ∙ pending_same (waiting m s1 r1) (waiting (mark (Send k s r) m) s1 r1) p.program.items
            (λ j lt. ap (λ b. b && not (m (Recv j r1 s1))) (sym (mark_else (Send k s r) m (Send j s1 r1) (λ i.
            let e : (j ≡ k) × (s1 ≡ s) × (r1 ≡ r) = same3_true j s1 r1 k s r (subst (λ z. same z (Send k s r) ≡ true) (sym i) (same3_refl k s r)) in
            false≢true (sym y ∙ and_from (s1 == s) (r1 == r) (eq-eqb s1 s e.1) (eq-eqb r1 r e.2))))))))
            (cases_Bool ((s1 == s) && (r1 == r)));
        letters = λ s1 r1. ⊎_elim
            (λ (y : ((s1 == s) && (r1 == r)) ≡ true).
            let e : (s1 ≡ s) × (r1 ≡ r) = two_same s r s1 r1 y in
            subst (Letters p s1) (sym (cond-true ((s1 == s) && (r1 == r)) (st.mail s r ++ (record { about = k; values = st.memories s } ∷ [])) (st.mail s1 r1) y))
            (subst (λ i. Letters p i (st.mail s r ++ (record { about = k; values = st.memories s } ∷ []))) (sym e.0)
            (letters_push p s (st.mail s r) (record { about = k; values = st.memories s }) (inv.letters s r) (λ g c o. sent_value k s r rd here g c o))))
            (λ (y : ((s1 == s) && (r1 == r)) ≡ false).
            subst (Letters p s1) (sym (cond-false ((s1 == s) && (r1 == r)) (st.mail s r ++ (record { about = k; values = st.memories s } ∷ [])) (st.mail s1 r1) y)) (inv.letters s1 r1))
            (cases_Bool ((s1 == s) && (r1 == r)));
        recorded = inv.recorded;
        kept = inv.kept;
        went = inv.went;
        ranks = λ x lt. ⊎_elim
            (λ (e : x ≡ s). subst (λ y. (i : ℕ) × At p (mark (Send k s r) m) (step p (Send k s r) st) y i) (sym e) (
              k,
              record {
                stands = stands_same (outline p) m s (Send k s r) (λ z. cc) here.stands;
                says = says_other p m (mark (Send k s r) m) st (step p (Send k s r) st) s k (λ y z. z) (λ y. refl) (λ j y. refl) refl (λ c. refl) (λ v. refl) (λ i v. refl) (λ y. refl) here.says;
              },
            ))
            (λ (ne : x ≡ s → ⊥). at_other p m st (step p (Send k s r) st) (Send k s r) x (λ z. ne (sym z)) refl (λ c. refl) refl (λ i v. refl) (λ i y. refl) (inv.ranks x lt))
            (cases_eq x s);
      }

  -- a rank that waits for a message has run core elements alone
  waits : (k r s : ℕ) → Ready (outline p) m (Recv k r s) → (e : ℕ) (c : DatCell) → m (Begin k r e) ≡ true → has_copy p r c ≡ true → is_modified (p.touch k e (Data c)) ≡ false
  waits k r s rd e c t copy = false_from_ne_true (is_modified (p.touch k e (Data c))) (λ w.
      let core : p.core r (p.program.set k) e ≡ true = ⊎_elim (λ z. z)
      (λ z. absurd (false≢true (sym rd.untaken ∙ inv.right.closed (Begin k r e) (Recv k r s) t rd.planned (received z))))
      (cases_Bool (p.core r (p.program.set k) e)) in
      let plan : IsStep (outline p) (Begin k r e) = inv.right.sound (Begin k r e) t in
      let run : (e < elements p.program k) × (executes p k r e ≡ true) = run_below p k r e plan.3 in
      q.lawful.imports_other r c plan.2 copy (q.lawful.core_modifies k r e c (free_kind (p.program.kind k) plan.1) plan.2 run.0 run.1 core w))

  arrives_from : (k r s : ℕ) (c : DatCell) → arrives p k r s c ≡ true → (owner_of p c ≡ s) × (has_copy p r c ≡ true)
  arrives_from k r s c a =
      let h : ((owner_of p c == s) ≡ true) × ((p.exchanged k c.dat && has_copy p r c) ≡ true) = and_parts (owner_of p c == s) (p.exchanged k c.dat && has_copy p r c) a in
      (eqb-true (owner_of p c) s h.0, (and_parts (p.exchanged k c.dat) (has_copy p r c) h.1).1)

  fresh_before_recv : (k r s : ℕ) (c : DatCell) → arrives p k r s c ≡ false → Fresh p (mark (Recv k r s) m) r k c → Fresh p m r k c
  fresh_before_recv k r s c a (own e) = own e
  fresh_before_recv k r s c a (clean i e) = clean i e
  fresh_before_recv k r s c a (came i x y) = came i x (⊎_elim
      (λ (z : same3 k r (owner_of p c) k r s ≡ true).
      let e : (k ≡ k) × (r ≡ r) × (owner_of p c ≡ s) = same3_true k r (owner_of p c) k r s z in
      absurd (false≢true (sym a ∙ and_from (owner_of p c == s) (p.exchanged k c.dat && has_copy p r c) (eq-eqb (owner_of p c) s e.2) (and_from (p.exchanged k c.dat) (has_copy p r c) x i))))
      (λ z. z)
      (or_cases (same3 k r (owner_of p c) k r s) (m (Recv k r (owner_of p c))) y))

  module _ (k r s : ℕ) (rd : Ready (outline p) m (Recv k r s)) (x : Message) (right : Letter p s x) (about : x.about ≡ k) where
    new_cell : DatCell → ℤ
    new_cell c = cond (arrives p k r s c) (x.values c) (st.memories r c)

    recv_cells : Says p m st r k → is_going (seq p.program k) ≡ true → (c : DatCell) → Fresh p (mark (Recv k r s) m) r k c → new_cell c ≡ value_at p m r k c
    unfolding new_cell
    recv_cells h g c f = ⊎_elim
        (λ (a : arrives p k r s c ≡ true).
        let from : (owner_of p c ≡ s) × (has_copy p r c ≡ true) = arrives_from k r s c a in
        cond-true (arrives p k r s c) (x.values c) (st.memories r c) a
        ∙ (right (subst (λ i. is_going (seq p.program i) ≡ true) (sym about) g) c from.0
        ∙ (ap (λ i. store_at p i (Data c)) about
        ∙ sym (folded_none (elements p.program k) (λ e. m (End k r e)) (λ e. effect p k e (store_at p k) (Data c)) (store_at p k (Data c))
        (λ e le. ⊎_elim
        (λ (t : m (End k r e) ≡ true). inr (λ v. keeps p q k e (store_at p k) (Data c) v (waits k r s rd e c (end_begun k r e t) from.1)))
        (λ t. inl t)
        (cases_Bool (m (End k r e))))))))
        (λ (a : arrives p k r s c ≡ false).
        cond-false (arrives p k r s c) (x.values c) (st.memories r c) a ∙ h.cells g c (fresh_before_recv k r s c a f))
        (cases_Bool (arrives p k r s c))

    recv_frame : (e : ℕ) → m (Begin k r e) ≡ true → (c : DatCell) → is_modified (p.touch k e (Data c)) ≡ true → new_cell c ≡ st.memories r c
    unfolding new_cell
    recv_frame e t c w = ⊎_elim
        (λ (a : arrives p k r s c ≡ true). absurd (false≢true (sym (waits k r s rd e c t (arrives_from k r s c a).1) ∙ w)))
        (λ (a : arrives p k r s c ≡ false). cond-false (arrives p k r s c) (x.values c) (st.memories r c) a)
        (cases_Bool (arrives p k r s c))

    keeps_message : At p m st r k → (xs : List Message) → st.mail s r ≡ x ∷ xs → Letters p s xs → Sane (delivered p k r s x xs st) → Inv p (mark (Recv k r s) m) (delivered p k r s x xs st)
    unfolding new_cell
    keeps_message here xs mail rest sane =
        let new_mem = λ (c : DatCell). put_same r (λ c. cond (arrives p k r s c) (x.values c) (st.memories r c)) st.memories c in
        let tail : abouts xs ≡ pending (waiting (mark (Recv k r s) m) s r) p.program.items =
        (let e : x.about ∷ abouts xs ≡ k ∷ pending (waiting (mark (Recv k r s) m) s r) p.program.items = ap abouts (sym mail) ∙ (inv.queues s r ∙ recv_pending k r s rd) in cc) in
        record {
          running = inv.running;
          sane = sane;
          right = proper_more (outline p) m (Recv k r s) inv.right rd;
          queues = λ s1 r1. ⊎_elim
              (λ (y : ((s1 == s) && (r1 == r)) ≡ true).
              let e : (s1 ≡ s) × (r1 ≡ r) = two_same s r s1 r1 y in
              ap abouts (cond-true ((s1 == s) && (r1 == r)) xs (st.mail s1 r1) y)
              ∙ (tail ∙ (ap (λ i. pending (waiting (mark (Recv k r s) m) i r) p.program.items) (sym e.0) ∙ ap (λ i. pending (waiting (mark (Recv k r s) m) s1 i) p.program.items) (sym e.1))))
              (λ (y : ((s1 == s) && (r1 == r)) ≡ false).
              ap abouts (cond-false ((s1 == s) && (r1 == r)) xs (st.mail s1 r1) y)
              ∙ (inv.queues s1 r1
              ∙ pending_same (waiting m s1 r1) (waiting (mark (Recv k r s) m) s1 r1) p.program.items
              (λ j lt. ap (λ b. m (Send j s1 r1) && not b) (sym (mark_else (Recv k r s) m (Recv j r1 s1) (λ i.
              let e : (j ≡ k) × (r1 ≡ r) × (s1 ≡ s) = same3_true j r1 s1 k r s (subst (λ z. same z (Recv k r s) ≡ true) (sym i) (same3_refl k r s)) in
              false≢true (sym y ∙ and_from (s1 == s) (r1 == r) (eq-eqb s1 s e.2) (eq-eqb r1 r e.1))))))))
              (cases_Bool ((s1 == s) && (r1 == r)));
          letters = λ s1 r1. ⊎_elim
              (λ (y : ((s1 == s) && (r1 == r)) ≡ true).
              let e : (s1 ≡ s) × (r1 ≡ r) = two_same s r s1 r1 y in
              subst (Letters p s1) (sym (cond-true ((s1 == s) && (r1 == r)) xs (st.mail s1 r1) y)) (subst (λ i. Letters p i xs) (sym e.0) rest))
              (λ (y : ((s1 == s) && (r1 == r)) ≡ false).
              subst (Letters p s1) (sym (cond-false ((s1 == s) && (r1 == r)) xs (st.mail s1 r1) y)) (inv.letters s1 r1))
              (cases_Bool ((s1 == s) && (r1 == r)));
          recorded = inv.recorded;
          kept = inv.kept;
          went = inv.went;
          ranks = λ y lt. ⊎_elim
              (λ (e : y ≡ r). subst (λ z. (i : ℕ) × At p (mark (Recv k r s) m) (delivered p k r s x xs st) z i) (sym e) (
                k,
                record {
                  stands = stands_same (outline p) m r (Recv k r s) (λ z. cc) here.stands;
                  says = record {
                    told = here.says.told;
                    cells = λ g c f. new_mem c ∙ recv_cells here.says g c f;
                    variables = here.says.variables;
                    parts = here.says.parts;
                    frames = λ g a b n. frame_like p k a (st.memories r) ((delivered p k r s x xs st).memories r) (fault p k a (store_at p k)) (st.frames k r a)
                        (λ c w. new_mem c ∙ recv_frame a b c w) (here.says.frames g a b n);
                  };
                },
              ))
              (λ (ne : y ≡ r → ⊥). at_other p m st (delivered p k r s x xs st) (Recv k r s) y (λ z. ne (sym z)) refl
              (λ c. put_other r y (λ c. cond (arrives p k r s c) (x.values c) (st.memories r c)) st.memories c ne) refl (λ i v. refl) (λ i a. refl) (inv.ranks y lt))
              (cases_eq y r);
        }

  keeps_queue : (k r s : ℕ) → Ready (outline p) m (Recv k r s) → At p m st r k → (xs : List Message) → st.mail s r ≡ xs → Letters p s xs
      → abouts xs ≡ k ∷ pending (waiting (mark (Recv k r s) m) s r) p.program.items → Sane (taken p r s xs st)
      → Inv p (mark (Recv k r s) m) (taken p r s xs st)
  keeps_queue k r s rd here [] mail right first sane = cc
  keeps_queue k r s rd here (x ∷ xs) mail right first sane =
      let about : x.about ≡ k = cc in
      subst (λ i. Inv p (mark (Recv k r s) m) (delivered p i r s x xs st)) (sym about)
      (keeps_message k r s rd x right.0 about here xs mail right.1 (subst (λ i. Sane (delivered p i r s x xs st)) about sane))

  pub keeps_recv : (k r s : ℕ) → Ready (outline p) m (Recv k r s) → Inv p (mark (Recv k r s) m) (step p (Recv k r s) st)
  keeps_recv k r s rd =
      let plan : IsStep (outline p) (Recv k r s) = rd.planned in
      let low : k < p.program.items = plan.0 in
      let here : At p m st r k = at_item p q m st inv (Recv k r s) rd (omega arith) r refl plan.3 in
      keeps_queue k r s rd here (st.mail s r) refl (inv.letters s r) (inv.queues s r ∙ recv_pending k r s rd) (sane_step p q st inv.sane (Recv k r s) plan)
