-- Every accepted list.
use Rattle.std.proofs.Common.{◌≡◌, ℕ, zero, suc, ◌<◌, Bool, true, false, ◌⊎◌, inl, inr, refl, sym, ap, subst, ◌∙◌, arith, ⊎_elim, List, [], ◌∷◌, ◌++◌, append_assoc, append-nil}
use Rattle.std.specs.Prelude.{is_some}
use Rattle.std.proofs.lemmas.Bool.{cases_Bool, false≢true, cond-true, cond-false}
use Rattle.schedule_steps.specs.Outline.{Outline, by_colour}
use Rattle.schedule_steps.specs.declared.step.Step.{Step}
use Rattle.schedule_steps.specs.declared.step.Step.TheVariants.{Send, Recv, Begin, End, Join}
use Rattle.schedule_steps.specs.Steps.{IsStep, coloured, has, Accepted}
use Rattle.schedule_steps.specs.Members.{has_left, split_at, has_push}
use Rattle.schedule_model.specs.Cells.{Data, Variable, DatCell, VarCell}
use Rattle.schedule_model.specs.Program.{Kind, elements}
use Rattle.schedule_model.specs.Setup.{Setup, owner_of, executes, outline}
use Rattle.schedule_model.specs.Sequential.{Seq, Stopped, Going, seq, sequential}
use Rattle.schedule_model.specs.Machine.{State, start_state, step, steps_from, machine, Agrees}
use Rattle.schedule_model.specs.Laws.{Lawful, Coloured}
use Rattle.schedule_model.proofs.Fold.{folded_none}
use Rattle.schedule_model.proofs.Runs.{Reductions}
use Rattle.schedule_model.proofs.Law.{Law, effect, last, owner_below}
use Rattle.schedule_model.proofs.Sequence.{store_of, output_of, is_going, store_at}
use Rattle.schedule_model.proofs.Marks.{mark, Ready, Apart, pending}
use Rattle.schedule_model.proofs.Range.{sane_start}
use Rattle.schedule_model.proofs.Facts.{own, is_reduce, reduce_kind, source, source_self, part_none, At, stand_at}
use Rattle.schedule_model.proofs.Inv.{Inv}
use Rattle.schedule_model.proofs.Messages.{run_below, keeps_send, keeps_recv}
use Rattle.schedule_model.proofs.Elements.{keeps_begin, keeps_end}
use Rattle.schedule_model.proofs.Stops.{Halted}
use Rattle.schedule_model.proofs.Joins.{keeps_join}
use Rattle.schedule_model.specs.Tests.{free_kind}

keeps : {F : Type 0} (p : Setup F) (q : Law p) (m : Step → Bool) (st : State F) → Inv p m st → (s : Step) → Ready (outline p) m s → Apart p m → Inv p (mark s m) (step p s st) ⊎ Halted p (step p s st)
keeps p q m st inv (Send k s r) rd two = inl (keeps_send p q m st inv k s r rd)
keeps p q m st inv (Recv k r s) rd two = inl (keeps_recv p q m st inv k r s rd)
keeps p q m st inv (Begin k r e) rd two = inl (keeps_begin p q m st inv k r e rd)
keeps p q m st inv (End k r e) rd two = inl (keeps_end p q m st inv k r e rd two)
keeps p q m st inv (Join k) rd two = keeps_join p q m st inv k rd

none_pending : (n : ℕ) → [] ≡ pending (λ k. false) n
none_pending zero = refl
none_pending (suc n) = none_pending n ∙ sym (append-nil (pending (λ k. false) n))

starts : {F : Type 0} (p : Setup F) (q : Law p) → Inv p (λ t. false) (start_state p)
starts p q = record {
  running = refl;
  sane = sane_start p q;
  right = record { sound = λ s e. absurd (false≢true e); closed = λ s t e. absurd (false≢true e) };
  queues = λ s r. none_pending p.program.items;
  letters = λ s r. tt;
  recorded = tt;
  kept = λ k r e f t. absurd (false≢true t);
  went = λ j e. absurd (false≢true e);
  ranks = λ r lt. (
    0,
    record {
      stands = record { within = omega arith; past = λ t plan of l. absurd (omega arith); ahead = λ t of l. refl; unjoined = refl };
      says = record {
        told = refl;
        variables = λ g v. refl;
        parts = λ g s v. sym (part_none p (λ t. false) r 0 s v (no_reduce (p.program.kind 0) refl) (λ e. refl));
        cells = λ g c f. sym (folded_none (elements p.program 0) (λ e. false) (λ e. effect p 0 e (store_at p 0) (Data c)) (store_at p 0 (Data c)) (λ e le. inl refl));
        frames = λ g e b. absurd (false≢true b);
      };
    },
  );
}
  where
    no_reduce : (x : Kind) → p.program.kind 0 ≡ x → is_reduce (p.program.kind 0) ≡ false
    no_reduce x e = ⊎_elim (λ t. absurd (q.lawful.items.first_item (reduce_kind (p.program.kind 0) t))) (λ t. t) (cases_Bool (is_reduce (p.program.kind 0)))

module _ {F : Type 0} (p : Setup F) (q : Law p) where
  last_going : (m : Step → Bool) (st : State F) → Inv p m st → ((t : Step) → IsStep (outline p) t → m t ≡ true) → (n : ℕ) → p.program.items ≡ n → is_going (seq p.program n) ≡ true
  last_going m st inv all zero e = refl
  last_going m st inv all (suc n) e = inv.went n (all (Join n) (omega arith, last p q n e))

  last_source : (n : ℕ) → p.program.items ≡ n → source p n ≡ n
  last_source zero e = refl
  last_source (suc n) e = source_self p (suc n) (⊎_elim
      (λ (t : is_reduce (p.program.kind (suc n)) ≡ true). absurd (q.lawful.items.last_item n e (q.lawful.items.reduce_after n (reduce_kind (p.program.kind (suc n)) t)).0))
      (λ t. t)
      (cases_Bool (is_reduce (p.program.kind (suc n)))))

  -- all steps were taken
  at_end : (m : Step → Bool) (st : State F) → Inv p m st → ((t : Step) → IsStep (outline p) t → m t ≡ true) → Agrees p (sequential p.program) st
  at_end m st inv all = ends_going (seq p.program p.program.items) refl
    where
      here : (r : ℕ) → r < p.ranks → At p m st r p.program.items
      here r lt = (let h : (k : ℕ) × At p m st r k = inv.ranks r lt in stand_at p q m st r lt inv.right p.program.items h.0 h.1 (omega arith) (λ t plan of l. all t plan) h.1.stands.within)

      going : is_going (seq p.program p.program.items) ≡ true
      going = last_going m st inv all p.program.items refl

      none_ended : (r e : ℕ) → m (End p.program.items r e) ≡ true → ⊥
      none_ended r e t = (let plan : IsStep (outline p) (End p.program.items r e) = inv.right.sound (End p.program.items r e) t in let l : p.program.items < p.program.items = plan.0 in omega arith)

      owned : (c : DatCell) → st.memories (owner_of p c) c ≡ store_at p p.program.items (Data c)
      owned c =
          (here (owner_of p c) (owner_below p q c)).says.cells going c (own refl)
          ∙ folded_none (elements p.program p.program.items) (λ e. m (End p.program.items (owner_of p c) e))
          (λ e. effect p p.program.items e (store_at p p.program.items) (Data c)) (store_at p p.program.items (Data c))
          (λ e le. inl (⊎_elim (λ t. absurd (none_ended (owner_of p c) e t)) (λ t. t) (cases_Bool (m (End p.program.items (owner_of p c) e)))))

      held : (v : VarCell) → st.variables v ≡ store_at p p.program.items (Variable v)
      held v = (here 0 q.lawful.items.some_rank).says.variables going v ∙ ap (λ j. store_at p j (Variable v)) (last_source p.program.items refl)

      ends_going : (s : Seq F) → seq p.program p.program.items ≡ s → Agrees p s st
      ends_going (Stopped x t o) e = absurd (false≢true (ap is_going (sym e) ∙ going))
      ends_going (Going s o) e = (
        inv.running,
        (here 0 q.lawful.items.some_rank).says.told ∙ ap output_of e,
        λ c. owned c
            ∙ ap (λ z. store_of z (Data c)) e,
        λ v. held v ∙ ap (λ z. store_of z (Variable v)) e,
      )

  whole : (l : List Step) → Accepted (outline p) l → ((pre post : List Step) → l ≡ pre ++ post → Apart p (has pre)) → (post pre : List Step)
      → l ≡ pre ++ post → (st : State F) → Inv p (has pre) st ⊎ Halted p st → Agrees p (sequential p.program) (steps_from p post st)
  whole l acc two [] pre e st h = ⊎_elim
      (λ (inv : Inv p (has pre) st). at_end (has pre) st inv (λ t plan. ap (λ z. has z t) (sym (append-nil pre) ∙ sym e) ∙ acc.whole t plan))
      (λ (x : Halted p st). x.agrees)
      h
  whole l acc two (s ∷ post) pre e st h = ⊎_elim
      (λ (inv : Inv p (has pre) st).
      let rd : Ready (outline p) (has pre) s = record { planned = acc.steps pre s post e; untaken = acc.once pre s post e; after = acc.order pre s post e } in
      let marks : has (pre ++ (s ∷ [])) ≡ mark s (has pre) = (λ i t. has_push pre s t i) in
      subst (Agrees p (sequential p.program)) (sym (cond-false (is_some st.stop) st (steps_from p post (step p s st)) (ap is_some inv.running)))
      (whole l acc two post (pre ++ (s ∷ [])) (e ∙ sym (append_assoc pre (s ∷ []) post)) (step p s st)
      (⊎_elim
      (λ (i : Inv p (mark s (has pre)) (step p s st)). inl (subst (λ m. Inv p m (step p s st)) (sym marks) i))
      (λ (x : Halted p (step p s st)). inr x)
      (keeps p q (has pre) st inv s rd (two pre (s ∷ post) e)))))
      (λ (x : Halted p st).
      subst (Agrees p (sequential p.program)) (sym (cond-true (is_some st.stop) st (steps_from p post (step p s st)) x.halted)) x.agrees)
      h

module _ (o : Outline) (l : List Step) where
  -- the plan has each step of a part of the list
  planned : Accepted o l → (pre post : List Step) → l ≡ pre ++ post → (t : Step) → has pre t ≡ true → IsStep o t
  planned acc pre post e t h =
      let f : (x : List Step) × (y : List Step) × (pre ≡ x ++ (t ∷ y)) = split_at pre t h in
      acc.steps f.0 t (f.1 ++ post) (e ∙ (ap (λ z. z ++ post) f.2 ∙ append_assoc f.0 (t ∷ f.1) post))

module _ {F : Type 0} (p : Setup F) (l : List Step) where
  -- with colours, an element that modifies a common cell begins after the other's end
  apart_coloured : Coloured p → Accepted (outline p) l → (pre post : List Step) → l ≡ pre ++ post → Apart p (has pre)
  apart_coloured free acc pre post e k r a b c ba ea bb eb ne wa wb =
      let plan_a : IsStep (outline p) (Begin k r a) = planned (outline p) l acc pre post e (Begin k r a) ba in
      let plan_b : IsStep (outline p) (Begin k r b) = planned (outline p) l acc pre post e (Begin k r b) bb in
      let run_a : (a < elements p.program k) × (executes p k r a ≡ true) = run_below p k r a plan_a.3 in
      let run_b : (b < elements p.program k) × (executes p k r b ≡ true) = run_below p k r b plan_b.3 in
      ⊎_elim (λ h. ended a b ba ea bb h) (λ h. ended b a bb eb ba h) (free k r a b c (free_kind (p.program.kind k) plan_a.1) plan_a.2 run_a.0 run_b.0 run_a.1 run_b.1 ne wa wb)
    where
      ended : (u v : ℕ) → has pre (Begin k r u) ≡ true → has pre (End k r u) ≡ false → has pre (Begin k r v) ≡ true → by_colour (outline p) k r u v ≡ true → ⊥
      ended u v hu eu hv low =
          let s : (x : List Step) × (y : List Step) × (pre ≡ x ++ (Begin k r v ∷ y)) = split_at pre (Begin k r v) hv in
          let all : l ≡ s.0 ++ (Begin k r v ∷ (s.1 ++ post)) = e ∙ (ap (λ z. z ++ post) s.2 ∙ append_assoc s.0 (Begin k r v ∷ s.1) post) in
          let there : has s.0 (End k r u) ≡ true = acc.order s.0 (Begin k r v) (s.1 ++ post) all (End k r u) (planned (outline p) l acc pre post e (Begin k r u) hu) (coloured low) in
          false≢true (sym eu ∙ (ap (λ z. has z (End k r u)) s.2 ∙ has_left s.0 (Begin k r v ∷ s.1) (End k r u) there))

pub with_colours : Reductions → {F : Type 0} (p : Setup F) → Lawful p → Coloured p → (l : List Step) → Accepted (outline p) l → Agrees p (sequential p.program) (machine p l)
with_colours laws p lawful free l acc =
    whole p (record { lawful = lawful; reductions = laws }) l acc (apart_coloured p l free acc) l [] refl (start_state p) (inl (starts p (record { lawful = lawful; reductions = laws })))
