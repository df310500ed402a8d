-- The end of one element and the begin of another that is apart from it, in both orders.
use Rattle.std.proofs.Common.{◌≡◌, ℕ, ℤ, pos, zero, suc, ◌+◌, Bool, true, false, cond, refl, sym, ap, subst, ◌∙◌, arith, add-zero, List, [], ◌∷◌, get_or, set}
use Rattle.std.specs.Prelude.{◌||◌}
use Rattle.std.proofs.lemmas.Bool.{false≢true, false_from_ne_true}
use Rattle.schedule_steps.specs.declared.step.Step.TheVariants.{Begin, End}
use Rattle.schedule_steps.specs.Steps.{IsStep, same3}
use Rattle.schedule_steps.specs.Members.{same3_true}
use Rattle.schedule_model.specs.Cells.{Cell, Data, Variable, DatCell, same_cell}
use Rattle.schedule_model.specs.Program.{Free, is_loop}
use Rattle.schedule_model.specs.Setup.{Setup}
use Rattle.schedule_model.specs.Machine.{put3}
use Rattle.schedule_model.specs.Tests.{free_kind}
use Rattle.schedule_model.specs.Layout.{Core, Faults, Leaves, Layout, IsLayout, lookup, among, by_place}
use Rattle.schedule_model.specs.Flat.{Pane, Shut_pane, Broken_pane, Windows, Flat, updated, read, window, open_pane, close_pane, flat_step}
use Rattle.schedule_model.proofs.Public.{map_same, place_runs}
use Rattle.rank_exec.specs.Closed.{AreAlike}
use Rattle.rank_exec.proofs.closed_groups.Alike.{core_at, core_same}
use Rattle.rank_exec.proofs.closed_groups.Apart.{NoCommon}

-- a cell that isn't among the windows keeps its value
unlooked : (xs : List Cell) (ws : List ℤ) (c : Cell) (d : ℤ) → among xs c ≡ false → lookup xs ws c d ≡ d
unlooked [] ws c d h = refl
unlooked (x ∷ xs) [] c d h = refl
unlooked (x ∷ xs) (w ∷ ws) c d h = by_test (same_cell x c) h (unlooked xs ws c d)
  where
    by_test : (b : Bool) → (b || among xs c) ≡ false → (among xs c ≡ false → lookup xs ws c d ≡ d) → cond b w (lookup xs ws c d) ≡ d
    by_test true h left = absurd (false≢true (sym h))
    by_test false h left = left h

-- a row that changes, also where there is none
row_set : (ms : List (List ℤ)) (r : ℕ) (g : List ℤ → List ℤ) → g [] ≡ [] → get_or (set ms r (g (get_or ms r []))) r [] ≡ g (get_or ms r [])
row_set [] r g e = sym e
row_set (m ∷ ms) zero g e = refl
row_set (m ∷ ms) (suc r) g e = row_set ms r g e

-- a value that its index leaves
kept_from : (g : ℕ → ℤ → ℤ) (j : ℕ) (xs : List ℤ) (i : ℕ) (d : ℤ) → ((v : ℤ) → g (j + i) v ≡ v) → get_or (updated g j xs) i d ≡ get_or xs i d
kept_from g j [] i d h = refl
kept_from g j (x ∷ xs) zero d h = ap (λ n. g n x) (sym (add-zero j)) ∙ h x
kept_from g j (x ∷ xs) (suc i) d h =
    kept_from g (suc j) xs i d (λ v. (let e : suc j + i ≡ j + suc i = omega arith in ap (λ n. g n v) e) ∙ h v)

put3_other : {A : Type 0} (k r x y : ℕ) (v : A) (f : ℕ → ℕ → ℕ → A) → (x ≡ y → ⊥) → put3 k r y v f k r x ≡ f k r x
put3_other k r x y v f ne = ap (λ b. cond b v (f k r x)) (false_from_ne_true (same3 k r x k r y) (λ e. ne (same3_true k r x k r y e).2))

-- two places that differ are put in either order
put3_swap : {A : Type 0} (k r x y : ℕ) (u v : A) (f : ℕ → ℕ → ℕ → A) → (x ≡ y → ⊥)
    → (a b c : ℕ) → put3 k r x u (put3 k r y v f) a b c ≡ put3 k r y v (put3 k r x u f) a b c
put3_swap k r x y u v f ne a b c = by (same3 a b c k r x) (same3 a b c k r y) refl refl
  where
    by : (s t : Bool) → same3 a b c k r x ≡ s → same3 a b c k r y ≡ t → cond s u (cond t v (f a b c)) ≡ cond t v (cond s u (f a b c))
    by true true i j = absurd (ne (sym (same3_true a b c k r x i).2 ∙ (same3_true a b c k r y j).2))
    by true false i j = refl
    by false true i j = refl
    by false false i j = refl

module _ {F : Type 0} (p : Setup F) (l : Layout F) where
  -- an end and a begin, of what stood open and what the kernel made
  swapped : (k r x y e : ℕ) (b : Pane) (c : Core F) (f : Flat F) → (x ≡ y → ⊥)
      → AreAlike (close_pane p l k r x e b (open_pane p l k r y c f)) (open_pane p l k r y c (close_pane p l k r x e b f))
  swapped k r x y e Shut_pane (Faults n) f ne = record {
    memories = refl;
    variables = refl;
    partials = λ a s v. refl;
    mail = λ s a. refl;
    panes = put3_swap k r x y Shut_pane Broken_pane f.panes ne;
    faults = refl;
    output = refl;
    stop = refl;
  }
  swapped k r x y e Shut_pane (Leaves us) f ne = record {
    memories = refl;
    variables = refl;
    partials = λ a s v. refl;
    mail = λ s a. refl;
    panes = put3_swap k r x y Shut_pane (Windows us) f.panes ne;
    faults = refl;
    output = refl;
    stop = refl;
  }
  swapped k r x y e Broken_pane (Faults n) f ne = record {
    memories = refl;
    variables = refl;
    partials = λ a s v. refl;
    mail = λ s a. refl;
    panes = put3_swap k r x y Shut_pane Broken_pane f.panes ne;
    faults = refl;
    output = refl;
    stop = refl;
  }
  swapped k r x y e Broken_pane (Leaves us) f ne = record {
    memories = refl;
    variables = refl;
    partials = λ a s v. refl;
    mail = λ s a. refl;
    panes = put3_swap k r x y Shut_pane (Windows us) f.panes ne;
    faults = refl;
    output = refl;
    stop = refl;
  }
  swapped k r x y e (Windows ws) (Faults n) f ne = record {
    memories = refl;
    variables = refl;
    partials = λ a s v. refl;
    mail = λ s a. refl;
    panes = put3_swap k r x y Shut_pane Broken_pane f.panes ne;
    faults = refl;
    output = refl;
    stop = refl;
  }
  swapped k r x y e (Windows ws) (Leaves us) f ne = record {
    memories = refl;
    variables = refl;
    partials = λ a s v. refl;
    mail = λ s a. refl;
    panes = put3_swap k r x y Shut_pane (Windows us) f.panes ne;
    faults = refl;
    output = refl;
    stop = refl;
  }

  -- what stands open of another element
  other_pane : (k r x y : ℕ) (c : Core F) (f : Flat F) → (x ≡ y → ⊥) → (open_pane p l k r y c f).panes k r x ≡ f.panes k r x
  other_pane k r x y (Faults n) f ne = put3_other k r x y Broken_pane f.panes ne
  other_pane k r x y (Leaves ws) f ne = put3_other k r x y (Windows ws) f.panes ne

  module _ (q : IsLayout p l) (k r x y : ℕ) (ne : x ≡ y → ⊥) (none : NoCommon p l k (l.original k r x) (l.original k r y))
      (plan : IsStep (by_place p l) (Begin k r y)) where
    fr : p.program.kind k ≡ Free
    fr = free_kind (p.program.kind k) plan.1

    -- a window of the other element keeps its value
    read_same : (ws : List ℤ) (f : Flat F) (c : DatCell) → among (l.cells k (l.original k r y)) (Data c) ≡ true
        → read p l (close_pane p l k r x (l.original k r x) (Windows ws) f) r c ≡ read p l f r c
    read_same ws f c i =
        let at = place_runs p l q k r y fr plan.2 plan.3 in
        let here = q.placed r c plan.2 (q.exist k (l.original k r y) (Data c) (ap is_loop fr) at.1 i) (q.held k r (l.original k r y) c fr plan.2 at.1 at.2 i) in
        ap (λ m. get_or m (l.place r c) (pos 0)) (row_set f.memories r (updated new 0) refl)
        ∙ kept_from new 0 (get_or f.memories r []) (l.place r c) (pos 0)
        (λ v. (let e : 0 + l.place r c ≡ l.place r c = omega arith in ap (λ n. new n v) e)
        ∙ (ap (λ d. cond (p.modifies k d.dat) (lookup (l.cells k (l.original k r x)) ws (Data d) v) v) here.1 ∙ left v))
      where
        new : ℕ → ℤ → ℤ
        new n v = cond (p.modifies k (l.cell_at r n).dat) (lookup (l.cells k (l.original k r x)) ws (Data (l.cell_at r n)) v) v

        left : (v : ℤ) → cond (p.modifies k c.dat) (lookup (l.cells k (l.original k r x)) ws (Data c) v) v ≡ v
        left v = by (p.modifies k c.dat) (among (l.cells k (l.original k r x)) (Data c)) refl refl
          where
            by : (s t : Bool) → p.modifies k c.dat ≡ s → among (l.cells k (l.original k r x)) (Data c) ≡ t
                → cond s (lookup (l.cells k (l.original k r x)) ws (Data c) v) v ≡ v
            by false t a b = refl
            by true false a b = unlooked (l.cells k (l.original k r x)) ws (Data c) v b
            by true true a b = absurd (none c a b i)

    window_same : (ws : List ℤ) (f : Flat F) (c : Cell) → among (l.cells k (l.original k r y)) c ≡ true
        → window p l (close_pane p l k r x (l.original k r x) (Windows ws) f) k r c ≡ window p l f k r c
    window_same ws f (Data c) i = read_same ws f c i
    window_same ws f (Variable v) i = refl

    -- the other element's kernel makes the same
    core_kept : (b : Pane) (f : Flat F) → core_at p l k r y (close_pane p l k r x (l.original k r x) b f) ≡ core_at p l k r y f
    core_kept Shut_pane f = refl
    core_kept Broken_pane f = refl
    core_kept (Windows ws) f =
        core_same p l k r y (close_pane p l k r x (l.original k r x) (Windows ws) f) f refl
        (map_same (window p l (close_pane p l k r x (l.original k r x) (Windows ws) f) k r) (window p l f k r) (l.cells k (l.original k r y))
        (window_same ws f))

    -- so the end may come before the begin
    pub end_first : (f : Flat F) → AreAlike (flat_step p l (End k r x) (flat_step p l (Begin k r y) f)) (flat_step p l (Begin k r y) (flat_step p l (End k r x) f))
    end_first f =
        subst (λ b. AreAlike (close_pane p l k r x (l.original k r x) b (flat_step p l (Begin k r y) f)) (flat_step p l (Begin k r y) (flat_step p l (End k r x) f)))
        (sym (other_pane k r x y (core_at p l k r y f) f ne))
        (subst (λ c. AreAlike (close_pane p l k r x (l.original k r x) (f.panes k r x) (flat_step p l (Begin k r y) f)) (open_pane p l k r y c (flat_step p l (End k r x) f)))
        (sym (core_kept (f.panes k r x) f))
        (swapped k r x y (l.original k r x) (f.panes k r x) (core_at p l k r y f) f ne))
