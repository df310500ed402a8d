-- Sends, receives, begins and ends of the flat machine go with those on cells.
use Rattle.std.proofs.Common.{◌≡◌, ℕ, ℤ, pos, ◌<◌, Bool, true, false, cond, inl, refl, sym, ap, subst, ◌∙◌, ⊎_elim, Option, Some, None, List, [], ◌∷◌, ◌++◌, map, length}
use Rattle.std.specs.Prelude.{◌&&◌, ◌||◌, ◌==◌}
use Rattle.std.proofs.lemmas.Bool.{cases_Bool, false≢true, false_from_ne_true, and_parts, and_from, cond-true, cond-false, eqb-true, eq-eqb}
use Rattle.op_num.specs.Reduction.{Reduction}
use Rattle.schedule_steps.specs.declared.step.Step.TheVariants.{Send, Recv, Begin, End}
use Rattle.schedule_steps.specs.Steps.{IsStep, same3}
use Rattle.schedule_steps.specs.Members.{same3_true}
use Rattle.schedule_model.specs.Cells.{Cell, Data, Variable, DatCell, VarCell, Store, same_cell}
use Rattle.schedule_model.specs.Effects.{is_modified}
use Rattle.schedule_model.specs.Program.{Free, elements, is_loop}
use Rattle.schedule_model.specs.Setup.{Setup, owner_of, executes}
use Rattle.schedule_model.specs.Machine.{Frame, Shut, Broken, Holds, Message, State, merge_at, put2, put3, window_of, view, taken, delivered, arrives, opened, written_back, closed, step}
use Rattle.schedule_model.specs.Layout.{Core, Faults, Leaves, Layout, IsLayout, AreConstants, lookup, among, of_core, is_cell, by_place}
use Rattle.schedule_model.specs.Flat.{Pane, Shut_pane, Broken_pane, Windows, Post, Flat, window, variable, packed, take_post, open_pane, close_pane, flat_step}
use Rattle.schedule_model.proofs.flat_machine.Rows.{lookup_map, lookup_any, map_same, map_length}
use Rattle.schedule_model.proofs.flat_machine.Places.{to_element, place_runs}
use Rattle.schedule_model.proofs.flat_machine.Same.{PaneSame, valued, PostSame, PostsSame, posts_push, Same, changed, read_is, variable_is}
use Rattle.schedule_model.specs.Tests.{free_kind}

-- a cell that isn't among the windows
lookup_out : (xs : List Cell) (ws : List ℤ) (c : Cell) (d : ℤ) → among xs c ≡ false → lookup xs ws c d ≡ d
lookup_out [] ws c d h = refl
lookup_out (x ∷ xs) [] c d h = refl
lookup_out (x ∷ xs) (w ∷ ws) c d h = by_test (same_cell x c) h (lookup_out xs ws c d)
  where
    by_test : (b : Bool) → (b || among xs c) ≡ false → (among xs c ≡ false → lookup xs ws c d ≡ d) → cond b w (lookup xs ws c d) ≡ d
    by_test true h g = absurd (false≢true (sym h))
    by_test false h g = g h

module _ {F : Type 0} (p : Setup F) (l : Layout F) (q : IsLayout p l) (f : Flat F) (a : State F) (h : Same p l f a) where
  -- ---- messages
  -- one queue changes alike
  mail_put : (s r : ℕ) (xs : List Post) (ys : List Message) → PostsSame l s r xs ys → (s1 r1 : ℕ) → PostsSame l s1 r1 (put2 s r xs f.mail s1 r1) (put2 s r ys a.mail s1 r1)
  mail_put s r xs ys new s1 r1 = ⊎_elim
      (λ (t : ((s1 == s) && (r1 == r)) ≡ true).
      let e : ((s1 == s) ≡ true) × ((r1 == r) ≡ true) = and_parts (s1 == s) (r1 == r) t in
      subst (λ z. PostsSame l s1 r1 z (put2 s r ys a.mail s1 r1)) (sym (cond-true ((s1 == s) && (r1 == r)) xs (f.mail s1 r1) t))
      (subst (λ z. PostsSame l s1 r1 xs z) (sym (cond-true ((s1 == s) && (r1 == r)) ys (a.mail s1 r1) t))
      (subst (λ z. PostsSame l z r1 xs ys) (sym (eqb-true s1 s e.0)) (subst (λ z. PostsSame l s z xs ys) (sym (eqb-true r1 r e.1)) new))))
      (λ (t : ((s1 == s) && (r1 == r)) ≡ false).
      subst (λ z. PostsSame l s1 r1 z (put2 s r ys a.mail s1 r1)) (sym (cond-false ((s1 == s) && (r1 == r)) xs (f.mail s1 r1) t))
      (subst (λ z. PostsSame l s1 r1 (f.mail s1 r1) z) (sym (cond-false ((s1 == s) && (r1 == r)) ys (a.mail s1 r1) t)) (h.mail s1 r1)))
      (cases_Bool ((s1 == s) && (r1 == r)))

  -- what is packed are the sender's values
  packed_is : (k s r : ℕ) → s < p.ranks → (c : Cell) → among (l.exports k s r) c ≡ true → packed p l f s c ≡ valued (a.memories s) c
  packed_is k s r lt (Data c) i = let own : (is_cell p l c ≡ true) × (owner_of p c ≡ s) = q.exports_own k s r c lt i in read_is p l q f a h s c lt own.0 (inl own.1)
  packed_is k s r lt (Variable v) i = refl

  send_same : (k s r : ℕ) → s < p.ranks → Same p l (flat_step p l (Send k s r) f) (step p (Send k s r) a)
  send_same k s r lt = record {
    memories = h.memories;
    variables = h.variables;
    partials = h.partials;
    mail = mail_put s r (f.mail s r ++ (record { about = k; values = map (packed p l f s) (l.exports k s r) } ∷ [])) (a.mail s r ++ (record { about = k; values = a.memories s } ∷ []))
        (posts_push l s r (f.mail s r) (a.mail s r) (record { about = k; values = map (packed p l f s) (l.exports k s r) }) (record { about = k; values = a.memories s }) (h.mail s r)
        (refl, map_same (packed p l f s) (valued (a.memories s)) (l.exports k s r) (packed_is k s r lt)));
    panes = h.panes;
    faults = h.faults;
    output = h.output;
    stop = h.stop;
  }

  deliver_same : (r s : ℕ) → r < p.ranks → (x : Post) (xs : List Post) (y : Message) (ys : List Message) → PostSame l s r x y
      → PostsSame l s r xs ys → Same p l (take_post p l r s (x ∷ xs) f) (delivered p x.about r s y ys a)
  deliver_same r s lt x xs y ys one rest = record {
    memories = changed p l f.memories a.memories r
        (λ c v. cond (arrives p x.about r s c) (lookup (l.exports x.about s r) x.values (Data c) v) v)
        (λ c. cond (arrives p x.about r s c) (y.values c) (a.memories r c)) h.memories lt
        (λ i il. ⊎_elim
        (λ (t : arrives p x.about r s (l.cell_at r i) ≡ true).
        cond-true (arrives p x.about r s (l.cell_at r i)) (lookup (l.exports x.about s r) x.values (Data (l.cell_at r i)) (a.memories r (l.cell_at r i))) (a.memories r (l.cell_at r i)) t
        ∙ (ap (λ vs. lookup (l.exports x.about s r) vs (Data (l.cell_at r i)) (a.memories r (l.cell_at r i))) one.1
        ∙ (lookup_map (l.exports x.about s r) (valued y.values) (Data (l.cell_at r i)) (a.memories r (l.cell_at r i)) (q.exported x.about s r (l.cell_at r i) lt (q.real r i lt il) t)
        ∙ sym (cond-true (arrives p x.about r s (l.cell_at r i)) (y.values (l.cell_at r i)) (a.memories r (l.cell_at r i)) t))))
        (λ (t : arrives p x.about r s (l.cell_at r i) ≡ false).
        cond-false (arrives p x.about r s (l.cell_at r i)) (lookup (l.exports x.about s r) x.values (Data (l.cell_at r i)) (a.memories r (l.cell_at r i))) (a.memories r (l.cell_at r i)) t
        ∙ sym (cond-false (arrives p x.about r s (l.cell_at r i)) (y.values (l.cell_at r i)) (a.memories r (l.cell_at r i)) t))
        (cases_Bool (arrives p x.about r s (l.cell_at r i))));
    variables = h.variables;
    partials = h.partials;
    mail = mail_put s r xs ys rest;
    panes = h.panes;
    faults = h.faults;
    output = h.output;
    stop = h.stop;
  }

  taken_same : (r s : ℕ) → r < p.ranks → (xs : List Post) (ys : List Message) → PostsSame l s r xs ys → Same p l (take_post p l r s xs f) (taken p r s ys a)
  taken_same r s lt [] [] m = h
  taken_same r s lt [] (y ∷ ys) m = absurd m
  taken_same r s lt (x ∷ xs) [] m = absurd m
  taken_same r s lt (x ∷ xs) (y ∷ ys) m = subst (λ i. Same p l (take_post p l r s (x ∷ xs) f) (delivered p i r s y ys a)) m.0.0 (deliver_same r s lt x xs y ys m.0 m.1)

  -- ---- begin
  loop_kind : (k : ℕ) → p.program.kind k ≡ Free → is_loop (p.program.kind k) ≡ true
  loop_kind k fr = ap is_loop fr

  window_is : (k r e : ℕ) → p.program.kind k ≡ Free → r < p.ranks → e < elements p.program k → executes p k r e ≡ true → (c : Cell) → among (l.cells k e) c ≡ true → window p l f k r c ≡ view p k r a c
  window_is k r e fr lr lt ex (Data c) i = read_is p l q f a h r c lr (q.exist k e (Data c) (loop_kind k fr) lt i) (q.held k r e c fr lr lt ex i)
  window_is k r e fr lr lt ex (Variable v) i = ap (window_of (p.reduces (p.program.site k) v)) (variable_is p l q f a h v (q.exist k e (Variable v) (loop_kind k fr) lt i))

  windows : (k r e : ℕ) → p.program.kind k ≡ Free → r < p.ranks → e < elements p.program k → executes p k r e ≡ true → map (window p l f k r) (l.cells k e) ≡ map (view p k r a) (l.cells k e)
  windows k r e fr lr lt ex = map_same (window p l f k r) (view p k r a) (l.cells k e) (window_is k r e fr lr lt ex)

  -- one frame changes alike
  panes_put : (k r x : ℕ) (b : Pane) (c : Frame) → p.program.kind k ≡ Free → r < p.ranks → x < l.count k r → PaneSame l k (l.original k r x) b c
      → (k1 r1 x1 : ℕ) → p.program.kind k1 ≡ Free → r1 < p.ranks → x1 < l.count k1 r1
      → PaneSame l k1 (l.original k1 r1 x1) (put3 k r x b f.panes k1 r1 x1)
      (put3 k r (l.original k r x) c a.frames k1 r1 (l.original k1 r1 x1))
  panes_put k r x b c fr lr lt new k1 r1 x1 fr1 lr1 lt1 = ⊎_elim
      (λ (y : same3 k1 r1 x1 k r x ≡ true).
      let e : (k1 ≡ k) × (r1 ≡ r) × (x1 ≡ x) = same3_true k1 r1 x1 k r x y in
      let o : l.original k1 r1 x1 ≡ l.original k r x = ap (λ z. l.original z r1 x1) e.0 ∙ (ap (λ z. l.original k z x1) e.1 ∙ ap (l.original k r) e.2) in
      let both : same3 k1 r1 (l.original k1 r1 x1) k r (l.original k r x) ≡ true =
      and_from (k1 == k) ((r1 == r) && (l.original k1 r1 x1 == l.original k r x)) (eq-eqb k1 k e.0)
      (and_from (r1 == r) (l.original k1 r1 x1 == l.original k r x) (eq-eqb r1 r e.1)
      (eq-eqb (l.original k1 r1 x1) (l.original k r x) o)) in
      subst (λ z. PaneSame l k1 (l.original k1 r1 x1) z (put3 k r (l.original k r x) c a.frames k1 r1 (l.original k1 r1 x1))) (sym (cond-true (same3 k1 r1 x1 k r x) b (f.panes k1 r1 x1) y))
      (subst (λ z. PaneSame l k1 (l.original k1 r1 x1) b z) (sym (cond-true (same3 k1 r1 (l.original k1 r1 x1) k r (l.original k r x)) c (a.frames k1 r1 (l.original k1 r1 x1)) both))
      (subst (λ z. PaneSame l z (l.original k1 r1 x1) b c) (sym e.0) (subst (λ z. PaneSame l k z b c) (sym o) new))))
      (λ (y : same3 k1 r1 x1 k r x ≡ false).
      let neither : same3 k1 r1 (l.original k1 r1 x1) k r (l.original k r x) ≡ false = false_from_ne_true (same3 k1 r1 (l.original k1 r1 x1) k r (l.original k r x)) (λ t.
      let e : (k1 ≡ k) × (r1 ≡ r) × (l.original k1 r1 x1 ≡ l.original k r x) = same3_true k1 r1 (l.original k1 r1 x1) k r (l.original k r x) t in
      let i : x1 ≡ x = sym (q.outside k1 r1 x1 fr1 lr1 lt1).2
      ∙ (ap (λ z. l.local z r1 (l.original k1 r1 x1)) e.0
      ∙ (ap (λ z. l.local k z (l.original k1 r1 x1)) e.1 ∙ (ap (l.local k r) e.2 ∙ (q.outside k r x fr lr lt).2))) in
      false≢true (sym y ∙ and_from (k1 == k) ((r1 == r) && (x1 == x)) (eq-eqb k1 k e.0) (and_from (r1 == r) (x1 == x) (eq-eqb r1 r e.1) (eq-eqb x1 x i)))) in
      subst (λ z. PaneSame l k1 (l.original k1 r1 x1) z (put3 k r (l.original k r x) c a.frames k1 r1 (l.original k1 r1 x1))) (sym (cond-false (same3 k1 r1 x1 k r x) b (f.panes k1 r1 x1) y))
      (subst (λ z. PaneSame l k1 (l.original k1 r1 x1) (f.panes k1 r1 x1) z)
      (sym (cond-false (same3 k1 r1 (l.original k1 r1 x1) k r (l.original k r x)) c (a.frames k1 r1 (l.original k1 r1 x1)) neither))
      (h.panes k1 r1 x1 fr1 lr1 lt1)))
      (cases_Bool (same3 k1 r1 x1 k r x))

  opened_same : (k r x : ℕ) → p.program.kind k ≡ Free → r < p.ranks → x < l.count k r → (b : Core F)
      → ((ws : List ℤ) → b ≡ Leaves ws → length ws ≡ length (l.cells k (l.original k r x)))
      → Same p l (open_pane p l k r x b f) (opened k r (l.original k r x) (of_core (l.cells k (l.original k r x)) (view p k r a) b) a)
  opened_same k r x fr lr lt (Faults n) len = record {
    memories = h.memories;
    variables = h.variables;
    partials = h.partials;
    mail = h.mail;
    panes = panes_put k r x Broken_pane Broken fr lr lt tt;
    faults = ap (λ z. z ++ (record { item = k; element = Some (l.original k r x); fault = n } ∷ [])) h.faults;
    output = h.output;
    stop = h.stop;
  }
  opened_same k r x fr lr lt (Leaves ws) len = record {
    memories = h.memories;
    variables = h.variables;
    partials = h.partials;
    mail = h.mail;
    panes = panes_put k r x (Windows ws) (Holds (λ c. lookup (l.cells k (l.original k r x)) ws c (view p k r a c))) fr lr lt
        (λ c d i. lookup_any (l.cells k (l.original k r x)) ws c (view p k r a c) d (len ws refl) i);
    faults = h.faults;
    output = h.output;
    stop = h.stop;
  }

  constants_view : (k r : ℕ) → p.program.kind k ≡ Free → (xs : List VarCell) → AreConstants p l xs → map (variable p l f) xs ≡ map (λ v. view p k r a (Variable v)) xs
  constants_view k r fr [] i = refl
  constants_view k r fr (v ∷ xs) i =
      ap (λ z. z ∷ map (variable p l f) xs) (variable_is p l q f a h v i.0 ∙ sym (ap (λ z. window_of z (a.variables v)) (i.1 k fr)))
      ∙ ap (λ zs. view p k r a (Variable v) ∷ zs) (constants_view k r fr xs i.2)

  begin_same : (k r x : ℕ) → p.program.kind k ≡ Free → r < p.ranks → x < l.count k r → Same p l (flat_step p l (Begin k r x) f) (step p (Begin k r (l.original k r x)) a)
  begin_same k r x fr lr lt =
      let o : (l.original k r x < elements p.program k) × (executes p k r (l.original k r x) ≡ true) × (l.local k r (l.original k r x) ≡ x) = q.outside k r x fr lr lt in
      subst (λ z. Same p l (flat_step p l (Begin k r x) f) (opened k r (l.original k r x) z a)) (sym (q.run_is k (l.original k r x) (view p k r a) (loop_kind k fr) o.0))
      (subst (λ z. Same p l (flat_step p l (Begin k r x) f)
      (opened k r (l.original k r x) (of_core (l.cells k (l.original k r x)) (view p k r a)
      (l.core k (l.original k r x) (map (λ v. view p k r a (Variable v)) l.constants) z)) a))
      (windows k r (l.original k r x) fr lr o.0 o.1)
      (subst (λ z. Same p l (flat_step p l (Begin k r x) f)
      (opened k r (l.original k r x) (of_core (l.cells k (l.original k r x)) (view p k r a)
      (l.core k (l.original k r x) z (map (window p l f k r) (l.cells k (l.original k r x))))) a))
      (constants_view k r fr l.constants q.constants_are)
      (opened_same k r x fr lr lt (l.core k (l.original k r x) (map (variable p l f) l.constants) (map (window p l f k r) (l.cells k (l.original k r x))))
      (λ ws i. q.same_length k (l.original k r x) (map (variable p l f) l.constants) (map (window p l f k r) (l.cells k (l.original k r x)))
      ws (loop_kind k fr) o.0 (map_length (window p l f k r) (l.cells k (l.original k r x))) i))))

  -- ---- end
  shut_same : (k r x : ℕ) → p.program.kind k ≡ Free → r < p.ranks → x < l.count k r
      → Same p l (record f { panes = put3 k r x Shut_pane f.panes }) (record a { frames = put3 k r (l.original k r x) Shut a.frames })
  shut_same k r x fr lr lt = record {
    memories = h.memories;
    variables = h.variables;
    partials = h.partials;
    mail = h.mail;
    panes = panes_put k r x Shut_pane Shut fr lr lt tt;
    faults = h.faults;
    output = h.output;
    stop = h.stop;
  }

  -- the amount that goes into a partial
  amount_same : (k e : ℕ) (v : VarCell) (ws : List ℤ) (t : Store) → p.program.kind k ≡ Free → e < elements p.program k
      → ((c : Cell) (d : ℤ) → among (l.cells k e) c ≡ true → t c ≡ lookup (l.cells k e) ws c d) → (x : ℤ)
      → merge_at (p.reduces (p.program.site k) v) x (lookup (l.cells k e) ws (Variable v) (pos 0)) ≡ merge_at (p.reduces (p.program.site k) v) x (t (Variable v))
  amount_same k e v ws t fr lt m x = by_op (p.reduces (p.program.site k) v) refl
    where
      by_op : (o : Option Reduction) → p.reduces (p.program.site k) v ≡ o
          → merge_at (p.reduces (p.program.site k) v) x (lookup (l.cells k e) ws (Variable v) (pos 0)) ≡ merge_at
          (p.reduces (p.program.site k) v) x (t (Variable v))
      by_op None i = ap (λ z. merge_at z x (lookup (l.cells k e) ws (Variable v) (pos 0))) i ∙ ap (λ z. merge_at z x (t (Variable v))) (sym i)
      by_op (Some o) i = ap (merge_at (p.reduces (p.program.site k) v) x) (sym (m (Variable v) (pos 0) (q.reduced_held k e v o fr lt i)))

  module _ (k r x : ℕ) (fr : p.program.kind k ≡ Free) (lr : r < p.ranks) (lt : x < l.count k r) (ws : List ℤ) (t : Store)
      (m : (c : Cell) (d : ℤ) → among (l.cells k (l.original k r x)) c ≡ true → t c ≡ lookup (l.cells k (l.original k r x)) ws c d) where
    abbrev e : ℕ
    e = l.original k r x

    inside : e < elements p.program k
    inside = let o : (l.original k r x < elements p.program k) × (executes p k r (l.original k r x) ≡ true) × (l.local k r (l.original k r x) ≡ x) = q.outside k r x fr lr lt in o.0

    abbrev part_flat : VarCell → ℤ
    part_flat v = cond (p.owner (p.program.set k) e == r)
        (merge_at (p.reduces (p.program.site k) v) (f.partials r (p.program.site k) v) (lookup (l.cells k e) ws (Variable v) (pos 0)))
        (f.partials r (p.program.site k) v)

    abbrev part_cells : VarCell → ℤ
    part_cells v = cond (p.owner (p.program.set k) e == r) (merge_at (p.reduces (p.program.site k) v) (a.partials r (p.program.site k) v) (t (Variable v))) (a.partials r (p.program.site k) v)

    part_is : (v : VarCell) → part_flat v ≡ part_cells v
    part_is v =
        ap (λ z. cond (p.owner (p.program.set k) e == r) (merge_at (p.reduces (p.program.site k) v) z (lookup (l.cells k e) ws (Variable v) (pos 0))) z) (h.partials r (p.program.site k) v)
        ∙ ap (λ z. cond (p.owner (p.program.set k) e == r) z (a.partials r (p.program.site k) v)) (amount_same k e v ws t fr inside m (a.partials r (p.program.site k) v))

    cell_is : (c : DatCell) (v : ℤ) → cond (p.modifies k c.dat) (lookup (l.cells k e) ws (Data c) v) v ≡ cond (is_modified (p.touch k e (Data c))) (t (Data c)) v
    cell_is c v = by_tests (p.modifies k c.dat) (among (l.cells k e) (Data c)) refl (q.modified_is k e c fr inside)
      where
        by_tests : (x y : Bool) → among (l.cells k e) (Data c) ≡ y → is_modified (p.touch k e (Data c)) ≡ (x && y)
            → cond x (lookup (l.cells k e) ws (Data c) v) v ≡ cond (is_modified (p.touch k e (Data c))) (t (Data c)) v
        by_tests true true i j = sym (m (Data c) v i) ∙ sym (cond-true (is_modified (p.touch k e (Data c))) (t (Data c)) v j)
        by_tests true false i j = lookup_out (l.cells k e) ws (Data c) v i ∙ sym (cond-false (is_modified (p.touch k e (Data c))) (t (Data c)) v j)
        by_tests false y i j = sym (cond-false (is_modified (p.touch k e (Data c))) (t (Data c)) v j)

    back_same : Same p l (close_pane p l k r x (l.original k r x) (Windows ws) f) (written_back p k r (l.original k r x) t a)
    back_same = record {
      memories = changed p l f.memories a.memories r (λ c v. cond (p.modifies k c.dat) (lookup (l.cells k e) ws (Data c) v) v)
          (λ c. cond (is_modified (p.touch k e (Data c))) (t (Data c)) (a.memories r c)) h.memories lr
          (λ i il. cell_is (l.cell_at r i) (a.memories r (l.cell_at r i)));
      variables = h.variables;
      partials = λ r1 s1 v. ⊎_elim
          (λ (y : ((r1 == r) && (s1 == p.program.site k)) ≡ true).
          ap (λ z. z v) (cond-true ((r1 == r) && (s1 == p.program.site k)) part_flat (f.partials r1 s1) y)
          ∙ (part_is v ∙ ap (λ z. z v) (sym (cond-true ((r1 == r) && (s1 == p.program.site k)) part_cells (a.partials r1 s1) y))))
          (λ (y : ((r1 == r) && (s1 == p.program.site k)) ≡ false).
          ap (λ z. z v) (cond-false ((r1 == r) && (s1 == p.program.site k)) part_flat (f.partials r1 s1) y)
          ∙ (h.partials r1 s1 v ∙ ap (λ z. z v)
          (sym (cond-false ((r1 == r) && (s1 == p.program.site k)) part_cells (a.partials r1 s1) y))))
          (cases_Bool ((r1 == r) && (s1 == p.program.site k)));
      mail = h.mail;
      panes = panes_put k r x Shut_pane Shut fr lr lt tt;
      faults = h.faults;
      output = h.output;
      stop = h.stop;
    }

  closed_same : (k r x : ℕ) → p.program.kind k ≡ Free → r < p.ranks → x < l.count k r → (b : Pane) (c : Frame)
      → PaneSame l k (l.original k r x) b c → Same p l (close_pane p l k r x (l.original k r x) b f) (closed p k r (l.original k r x) c a)
  closed_same k r x fr lr lt Shut_pane Shut m = shut_same k r x fr lr lt
  closed_same k r x fr lr lt Broken_pane Broken m = shut_same k r x fr lr lt
  closed_same k r x fr lr lt Shut_pane Broken m = absurd m
  closed_same k r x fr lr lt Shut_pane (Holds t) m = absurd m
  closed_same k r x fr lr lt Broken_pane Shut m = absurd m
  closed_same k r x fr lr lt Broken_pane (Holds t) m = absurd m
  closed_same k r x fr lr lt (Windows ws) Shut m = absurd m
  closed_same k r x fr lr lt (Windows ws) Broken m = absurd m
  closed_same k r x fr lr lt (Windows ws) (Holds t) m = back_same k r x fr lr lt ws t m

  -- all steps but a join
  pub send_goes : (k s r : ℕ) → IsStep (by_place p l) (Send k s r) → Same p l (flat_step p l (Send k s r) f) (step p (Send k s r) a)
  send_goes k s r plan = send_same k s r plan.2

  pub recv_goes : (k r s : ℕ) → IsStep (by_place p l) (Recv k r s) → Same p l (flat_step p l (Recv k r s) f) (step p (Recv k r s) a)
  recv_goes k r s plan = taken_same r s plan.3 (f.mail s r) (a.mail s r) (h.mail s r)

  pub begin_goes : (k r x : ℕ) → IsStep (by_place p l) (Begin k r x) → Same p l (flat_step p l (Begin k r x) f) (step p (to_element l (Begin k r x)) a)
  begin_goes k r x plan = let fr : p.program.kind k ≡ Free = free_kind (p.program.kind k) plan.1 in begin_same k r x fr plan.2 (place_runs p l q k r x fr plan.2 plan.3).0

  pub end_goes : (k r x : ℕ) → IsStep (by_place p l) (End k r x) → Same p l (flat_step p l (End k r x) f) (step p (to_element l (End k r x)) a)
  end_goes k r x plan =
      let fr : p.program.kind k ≡ Free = free_kind (p.program.kind k) plan.1 in
      let lt : x < l.count k r = (place_runs p l q k r x fr plan.2 plan.3).0 in
      closed_same k r x fr plan.2 lt (f.panes k r x) (a.frames k r (l.original k r x)) (h.panes k r x fr plan.2 lt)
