-- Begins and ends leave alike states of alike ones.
use Rattle.std.proofs.Common.{◌≡◌, ℕ, ℤ, pos, Bool, true, false, cond, refl, ap, subst, ◌∙◌, Some, [], ◌∷◌, ◌++◌, map, get_or}
use Rattle.std.specs.Prelude.{◌&&◌, ◌==◌}
use Rattle.schedule_steps.specs.declared.step.Step.TheVariants.{Begin, End}
use Rattle.schedule_steps.specs.Steps.{same3}
use Rattle.schedule_model.specs.Cells.{Cell, Data, Variable, VarCell}
use Rattle.schedule_model.specs.Setup.{Setup}
use Rattle.schedule_model.specs.Machine.{merge_at, put2, put3, window_of}
use Rattle.schedule_model.specs.Layout.{Core, Faults, Leaves, Layout, lookup}
use Rattle.schedule_model.specs.Flat.{Pane, Shut_pane, Broken_pane, Windows, Flat, window, variable, change, open_pane, close_pane, flat_step}
use Rattle.schedule_model.proofs.Public.{map_same}
use Rattle.rank_exec.specs.Closed.{AreAlike}

pub alike_refl : {F : Type 0} (f : Flat F) → AreAlike f f
alike_refl f = record {
  memories = refl;
  variables = refl;
  partials = λ r s v. refl;
  mail = λ s r. refl;
  panes = λ k r x. refl;
  faults = refl;
  output = refl;
  stop = refl;
}

pub alike_trans : {F : Type 0} (f g h : Flat F) → AreAlike f g → AreAlike g h → AreAlike f h
alike_trans f g h a b = record {
  memories = a.memories ∙ b.memories;
  variables = a.variables ∙ b.variables;
  partials = λ r s v. a.partials r s v ∙ b.partials r s v;
  mail = λ s r. a.mail s r ∙ b.mail s r;
  panes = λ k r x. a.panes k r x ∙ b.panes k r x;
  faults = a.faults ∙ b.faults;
  output = a.output ∙ b.output;
  stop = a.stop ∙ b.stop;
}

put3_alike : {A : Type 0} (a b c : ℕ) (v : A) (f g : ℕ → ℕ → ℕ → A) → ((x y z : ℕ) → f x y z ≡ g x y z)
    → (x y z : ℕ) → put3 a b c v f x y z ≡ put3 a b c v g x y z
put3_alike a b c v f g h x y z = ap (cond (same3 x y z a b c) v) (h x y z)

either : (b : Bool) (f g h i : VarCell → ℤ) (v : VarCell) → f v ≡ g v → h v ≡ i v → cond b f h v ≡ cond b g i v
either true f g h i v s t = s
either false f g h i v s t = t

put2_alike : (a b : ℕ) (u w : VarCell → ℤ) (f g : ℕ → ℕ → VarCell → ℤ) → ((v : VarCell) → u v ≡ w v)
    → ((x y : ℕ) (v : VarCell) → f x y v ≡ g x y v) → (x y : ℕ) (v : VarCell) → put2 a b u f x y v ≡ put2 a b w g x y v
put2_alike a b u w f g h i x y v = either ((x == a) && (y == b)) u w (f x y) (g x y) v (h v) (i x y v)

module _ {F : Type 0} (p : Setup F) (l : Layout F) where
  -- what the kernel of the place makes
  abbrev pub core_at : ℕ → ℕ → ℕ → Flat F → Core F
  core_at k r x f =
      l.core k (l.original k r x) (map (variable p l f) l.constants) (map (window p l f k r) (l.cells k (l.original k r x)))

  opened_alike : (k r x : ℕ) (c : Core F) (f g : Flat F) → AreAlike f g → AreAlike (open_pane p l k r x c f) (open_pane p l k r x c g)
  opened_alike k r x (Faults n) f g h = record {
    memories = h.memories;
    variables = h.variables;
    partials = h.partials;
    mail = h.mail;
    panes = put3_alike k r x Broken_pane f.panes g.panes h.panes;
    faults = ap (λ z. z ++ (record { item = k; element = Some (l.original k r x); fault = n } ∷ [])) h.faults;
    output = h.output;
    stop = h.stop;
  }
  opened_alike k r x (Leaves ws) f g h = record {
    memories = h.memories;
    variables = h.variables;
    partials = h.partials;
    mail = h.mail;
    panes = put3_alike k r x (Windows ws) f.panes g.panes h.panes;
    faults = h.faults;
    output = h.output;
    stop = h.stop;
  }

  window_alike : (k r : ℕ) (f g : Flat F) → AreAlike f g → (c : Cell) → window p l f k r c ≡ window p l g k r c
  window_alike k r f g h (Data c) = ap (λ ms. get_or (get_or ms r []) (l.place r c) (pos 0)) h.memories
  window_alike k r f g h (Variable v) =
      ap (λ vs. window_of (p.reduces (p.program.site k) v) (get_or vs (l.index_of v) (pos 0))) h.variables

  -- cores of equal constants and windows
  pub core_same : (k r x : ℕ) (f g : Flat F) → f.variables ≡ g.variables
      → map (window p l f k r) (l.cells k (l.original k r x)) ≡ map (window p l g k r) (l.cells k (l.original k r x))
      → core_at k r x f ≡ core_at k r x g
  core_same k r x f g vs ws =
      ap (λ us. l.core k (l.original k r x) (map (λ v. get_or us (l.index_of v) (pos 0)) l.constants)
      (map (window p l f k r) (l.cells k (l.original k r x)))) vs
      ∙ ap (l.core k (l.original k r x) (map (variable p l g) l.constants)) ws

  pub begin_alike : (k r x : ℕ) (f g : Flat F) → AreAlike f g → AreAlike (flat_step p l (Begin k r x) f) (flat_step p l (Begin k r x) g)
  begin_alike k r x f g h =
      subst (λ c. AreAlike (open_pane p l k r x (core_at k r x f) f) (open_pane p l k r x c g))
      (core_same k r x f g h.variables
      (map_same (window p l f k r) (window p l g k r) (l.cells k (l.original k r x)) (λ c i. window_alike k r f g h c)))
      (opened_alike k r x (core_at k r x f) f g h)

  closed_alike : (k r x e : ℕ) (b : Pane) (f g : Flat F) → AreAlike f g → AreAlike (close_pane p l k r x e b f) (close_pane p l k r x e b g)
  closed_alike k r x e Shut_pane f g h = record {
    memories = h.memories;
    variables = h.variables;
    partials = h.partials;
    mail = h.mail;
    panes = put3_alike k r x Shut_pane f.panes g.panes h.panes;
    faults = h.faults;
    output = h.output;
    stop = h.stop;
  }
  closed_alike k r x e Broken_pane f g h = record {
    memories = h.memories;
    variables = h.variables;
    partials = h.partials;
    mail = h.mail;
    panes = put3_alike k r x Shut_pane f.panes g.panes h.panes;
    faults = h.faults;
    output = h.output;
    stop = h.stop;
  }
  closed_alike k r x e (Windows ws) f g h = record {
    memories = ap (change p l r (λ c v. cond (p.modifies k c.dat) (lookup (l.cells k e) ws (Data c) v) v)) h.memories;
    variables = h.variables;
    partials = put2_alike r (p.program.site k) (merged f) (merged g) f.partials g.partials merged_alike h.partials;
    mail = h.mail;
    panes = put3_alike k r x Shut_pane f.panes g.panes h.panes;
    faults = h.faults;
    output = h.output;
    stop = h.stop;
  }
    where
      merged : Flat F → VarCell → ℤ
      merged i v =
          cond
          (p.owner (p.program.set k) e == r)
          (merge_at (p.reduces (p.program.site k) v) (i.partials r (p.program.site k) v) (lookup (l.cells k e) ws (Variable v) (pos 0)))
          (i.partials r (p.program.site k) v)

      merged_alike : (v : VarCell) → merged f v ≡ merged g v
      merged_alike v =
          ap (λ z. cond
          (p.owner (p.program.set k) e == r)
          (merge_at (p.reduces (p.program.site k) v) z (lookup (l.cells k e) ws (Variable v) (pos 0)))
          z) (h.partials r (p.program.site k) v)

  pub end_alike : (k r x : ℕ) (f g : Flat F) → AreAlike f g → AreAlike (flat_step p l (End k r x) f) (flat_step p l (End k r x) g)
  end_alike k r x f g h =
      subst (λ b. AreAlike (close_pane p l k r x (l.original k r x) (f.panes k r x) f) (close_pane p l k r x (l.original k r x) b g))
      (h.panes k r x) (closed_alike k r x (l.original k r x) (f.panes k r x) f g h)
