-- Every accepted list by places.
use Rattle.std.proofs.Common.{◌≡◌, ◌<◌, true, false, inl, refl, sym, ap, subst, ◌∙◌, ⊎_elim, Option, Some, None, List, [], ◌∷◌, ◌++◌, map, append_assoc}
use Rattle.std.specs.Prelude.{is_some}
use Rattle.std.proofs.lemmas.Bool.{cases_Bool, cond_both, cond-true, cond-false, ltb-true}
use Rattle.schedule_steps.specs.declared.step.Step.{Step}
use Rattle.schedule_steps.specs.declared.step.Step.TheVariants.{Send, Recv, Begin, End, Join}
use Rattle.schedule_steps.specs.Steps.{IsStep, Accepted}
use Rattle.schedule_model.specs.Setup.{Setup, in_set, owner_of, outline}
use Rattle.schedule_model.specs.Sequential.{Stop, Seq, Stopped, Going, sequential}
use Rattle.schedule_model.specs.Machine.{State, Shut, start_state, step, steps_from, machine, Agrees}
use Rattle.schedule_model.specs.Laws.{Lawful, Coloured}
use Rattle.schedule_model.specs.Layout.{Layout, IsLayout, by_place}
use Rattle.schedule_model.specs.Flat.{Flat, flat_step, flat_from, StartsFlat, AgreesFlat}
use Rattle.schedule_model.proofs.flat_machine.Places.{to_element, accepted_elements}
use Rattle.schedule_model.proofs.flat_machine.Same.{PaneSame, PostsSame, Same, read_is}
use Rattle.schedule_model.proofs.flat_machine.Steps.{send_goes, recv_goes, begin_goes, end_goes}
use Rattle.schedule_model.proofs.flat_machine.Joins.{Owners, join_goes}

owners : {F : Type 0} (p : Setup F) → Lawful p → Owners p
owners p w c = cond_both (in_set p c) (p.owner (p.program.set_of c.dat) c.element) 0 (λ x. x < p.ranks)
    (λ t. w.items.owners (p.program.set_of c.dat) c.element (ltb-true c.element (p.program.size (p.program.set_of c.dat)) t))
    (λ t. w.items.some_rank)

module _ {F : Type 0} (p : Setup F) (w : Lawful p) (l : Layout F) (q : IsLayout p l) where
  step_same : (f : Flat F) (a : State F) → a.stop ≡ None → Same p l f a → (s : Step) → IsStep (by_place p l) s → Same p l (flat_step p l s f) (step p (to_element l s) a)
  step_same f a none h (Send k s r) plan = send_goes p l q f a h k s r plan
  step_same f a none h (Recv k r s) plan = recv_goes p l q f a h k r s plan
  step_same f a none h (Begin k r x) plan = begin_goes p l q f a h k r x plan
  step_same f a none h (End k r x) plan = end_goes p l q f a h k r x plan
  step_same f a none h (Join k) plan = join_goes p (owners p w) l q k f a none h

  abbrev Planned : List Step → Type 0
  Planned [] = Unit {0}
  Planned (s ∷ ss) = IsStep (by_place p l) s × Planned ss

  no_stop : (x : Option (Stop F)) → is_some x ≡ false → x ≡ None
  no_stop None h = refl
  no_stop (Some x) h = cc

  from_same : (ss : List Step) (f : Flat F) (a : State F) → Same p l f a → Planned ss → Same p l (flat_from p l ss f) (steps_from p (map (to_element l) ss) a)
  from_same [] f a h plan = h
  from_same (s ∷ ss) f a h plan = ⊎_elim
      (λ (y : is_some f.stop ≡ true).
      subst (λ z. Same p l z (steps_from p (map (to_element l) (s ∷ ss)) a)) (sym (cond-true (is_some f.stop) f (flat_from p l ss (flat_step p l s f)) y))
      (subst (Same p l f) (sym (cond-true (is_some a.stop) a (steps_from p (map (to_element l) ss) (step p (to_element l s) a)) (ap is_some (sym h.stop) ∙ y))) h))
      (λ (y : is_some f.stop ≡ false).
      let running : is_some a.stop ≡ false = ap is_some (sym h.stop) ∙ y in
      subst (λ z. Same p l z (steps_from p (map (to_element l) (s ∷ ss)) a)) (sym (cond-false (is_some f.stop) f (flat_from p l ss (flat_step p l s f)) y))
      (subst (Same p l (flat_from p l ss (flat_step p l s f))) (sym (cond-false (is_some a.stop) a (steps_from p (map (to_element l) ss) (step p (to_element l s) a)) running))
      (from_same ss (flat_step p l s f) (step p (to_element l s) a) (step_same f a (no_stop a.stop running) h s plan.0) plan.1)))
      (cases_Bool (is_some f.stop))

  start_same : (f : Flat F) → StartsFlat p l f → Same p l f (start_state p)
  start_same f s = record {
    memories = record { wide = s.ranks; widths = s.widths; copies = λ r i rl il. s.values r i rl il };
    variables = record { wide = s.count; values = s.variables };
    partials = s.partials;
    mail = λ a b. subst (λ z. PostsSame l a b z []) (sym (s.mail a b)) tt;
    panes = λ k r x fr lr lt. subst (λ z. PaneSame l k (l.original k r x) z Shut) (sym (s.panes k r x)) tt;
    faults = s.faults;
    output = s.output;
    stop = s.stop;
  }

  planned : (all : List Step) → Accepted (by_place p l) all → (post pre : List Step) → all ≡ pre ++ post → Planned post
  planned all acc [] pre e = tt
  planned all acc (s ∷ post) pre e = (acc.steps pre s post e, planned all acc post (pre ++ (s ∷ [])) (e ∙ sym (append_assoc pre (s ∷ []) post)))

  agrees : (s : Seq F) (f : Flat F) (a : State F) → Same p l f a → Agrees p s a → AgreesFlat p l s f
  agrees (Going t o) f a h g = (
    h.stop ∙ g.0,
    h.output ∙ g.1,
    λ c x. read_is p l q f a h (owner_of p c) c (owners p w c) x (inl refl) ∙ g.2 c,
    λ i il. h.variables.values i il ∙ g.3 (l.variable_at i),
  )
  agrees (Stopped x t o) f a h g = (h.stop ∙ g.0, h.output ∙ g.1)

  -- from the run on cells
  from_cells : (f : Flat F) → StartsFlat p l f → (steps : List Step) → Accepted (by_place p l) steps
      → Agrees p (sequential p.program) (machine p (map (to_element l) steps))
      → AgreesFlat p l (sequential p.program) (flat_from p l steps f)
  from_cells f start steps acc cells =
      agrees (sequential p.program) (flat_from p l steps f) (machine p (map (to_element l) steps)) (from_same steps f (start_state p) (start_same f start) (planned steps acc steps [] refl)) cells

pub on_buffers : {F : Type 0} → ((p : Setup F) → Lawful p → Coloured p → (l : List Step) → Accepted (outline p) l → Agrees p (sequential p.program) (machine p l))
    → (p : Setup F) → Lawful p → Coloured p → (l : Layout F) → IsLayout p l → (f : Flat F) → StartsFlat p l f → (steps : List Step)
    → Accepted (by_place p l) steps → AgreesFlat p l (sequential p.program) (flat_from p l steps f)
on_buffers cells p w free l q f start steps acc = from_cells p w l q f start steps acc (cells p w free (map (to_element l) steps) (accepted_elements p l q steps acc))
