-- All faults that the flat machine records are of elements.
use Rattle.std.proofs.Common.{◌≡◌, ℕ, zero, suc, refl, sym, subst, Option, Some, None, List, [], ◌∷◌, ◌++◌, map}
use Rattle.std.specs.Prelude.{is_some}
use Rattle.std.proofs.lemmas.Bool.{cond_both}
use Rattle.schedule_steps.specs.declared.step.Step.{Step}
use Rattle.schedule_steps.specs.declared.step.Step.TheVariants.{Send, Recv, Begin, End, Join}
use Rattle.schedule_model.specs.Program.{Kind, Free, Reduce, Ordered, Host, Hosted, Halts, Goes, elements}
use Rattle.schedule_model.specs.Setup.{Setup}
use Rattle.schedule_model.specs.Sequential.{Stop}
use Rattle.schedule_model.specs.Machine.{least}
use Rattle.schedule_model.specs.Kept.{OfElements}
use Rattle.schedule_model.specs.Layout.{Core, Faults, Leaves, Layout}
use Rattle.schedule_model.specs.Flat.{Pane, Shut_pane, Broken_pane, Windows, Post, Flat, window, variable, owned, take_post, open_pane, close_pane, element_flat, loop_flat, host_flat, done_flat, join_flat, flat_step, flat_from, StartsFlat}

of_push : {F : Type 0} (xs : List (Stop F)) (x : Stop F) → OfElements xs → (e : ℕ) × (x.element ≡ Some e) → OfElements (xs ++ (x ∷ []))
of_push [] x h g = (g, tt)
of_push (y ∷ xs) x h g = (h.0, of_push xs x h.1 g)

module _ {F : Type 0} (p : Setup F) (l : Layout F) where
  abbrev Of : Flat F → Type 0
  Of f = OfElements f.faults

  of_opened : (k r x : ℕ) (b : Core F) (f : Flat F) → Of f → Of (open_pane p l k r x b f)
  of_opened k r x (Faults n) f h = of_push f.faults (record { item = k; element = Some (l.original k r x); fault = n }) h (l.original k r x, refl)
  of_opened k r x (Leaves ws) f h = h

  of_taken : (r s : ℕ) (xs : List Post) (f : Flat F) → Of f → Of (take_post p l r s xs f)
  of_taken r s [] f h = h
  of_taken r s (x ∷ xs) f h = h

  of_closed : (k r x e : ℕ) (b : Pane) (f : Flat F) → Of f → Of (close_pane p l k r x e b f)
  of_closed k r x e Shut_pane f h = h
  of_closed k r x e Broken_pane f h = h
  of_closed k r x e (Windows ws) f h = h

  of_element : (k e : ℕ) (b : Core F) (f : Flat F) → Of f → Of (element_flat p l k e b f)
  of_element k e (Faults n) f h = h
  of_element k e (Leaves ws) f h = h

  of_loop : (k n : ℕ) (f : Flat F) → Of f → Of (loop_flat p l k n f)
  of_loop k zero f h = h
  of_loop k (suc n) f h =
      let g : Flat F = loop_flat p l k n f in
      let o : Of g = of_loop k n f h in
      cond_both (is_some g.stop) g (element_flat p l k n (l.core k n (map (variable p l g) l.constants) (map (owned p l g) (l.cells k n)))
      g) Of (λ t. o) (λ t. of_element k n (l.core k n (map (variable p l g) l.constants) (map (owned p l g) (l.cells k n))) g o)

  of_hosted : (k : ℕ) (b : Hosted F) (f : Flat F) → Of f → Of (host_flat p l k b f)
  of_hosted k (Halts n) f h = h
  of_hosted k (Goes v w) f h = h

  of_done : (k : ℕ) (x : Kind) (f : Flat F) → Of f → Of (done_flat p l k x f)
  of_done k Free f h = h
  of_done k Reduce f h = h
  of_done k Ordered f h = of_loop k (elements p.program k) f h
  of_done k Host f h = of_hosted k (p.program.host k (owned p l f)) f h

  of_joined : (k : ℕ) (x : Option (Stop F)) (f : Flat F) → Of f → Of (join_flat p l k x f)
  of_joined k (Some x) f h = h
  of_joined k None f h = of_done k (p.program.kind k) f h

  pub of_step : (s : Step) (f : Flat F) → Of f → Of (flat_step p l s f)
  of_step (Send k s r) f h = h
  of_step (Recv k r s) f h = of_taken r s (f.mail s r) f h
  of_step (Begin k r x) f h = of_opened k r x (l.core k (l.original k r x) (map (variable p l f) l.constants) (map (window p l f k r) (l.cells k (l.original k r x)))) f h
  of_step (End k r x) f h = of_closed k r x (l.original k r x) (f.panes k r x) f h
  of_step (Join k) f h = of_joined k (least k f.faults) f h

  of_steps : (ss : List Step) (f : Flat F) → Of f → Of (flat_from p l ss f)
  of_steps [] f h = h
  of_steps (s ∷ ss) f h = cond_both (is_some f.stop) f (flat_from p l ss (flat_step p l s f)) Of (λ t. h) (λ t. of_steps ss (flat_step p l s f) (of_step s f h))

  pub of_run : (f : Flat F) → StartsFlat p l f → (ss : List Step) → Of (flat_from p l ss f)
  of_run f start ss = of_steps ss f (subst OfElements (sym start.faults) tt)
