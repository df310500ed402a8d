-- A join of the flat machine goes with that on cells.
use Rattle.std.proofs.Common.{◌≡◌, ℕ, ℤ, zero, suc, ◌<◌, ◌≤◌, Bool, true, false, cond, inl, refl, sym, ap, subst, ◌∙◌, arith, ⊎_elim, Option, Some, None, List, [], ◌∷◌, map, ◌++◌}
use Rattle.std.specs.Prelude.{◌==◌, is_some}
use Rattle.std.proofs.lemmas.Bool.{cases_Bool, cond-true, cond-false, eqb-true, eq-eqb}
use Rattle.op_num.specs.Reduction.{Reduction}
use Rattle.schedule_model.specs.Cells.{Cell, Data, Variable, DatCell, VarCell, Store}
use Rattle.schedule_model.specs.Program.{Kind, Free, Reduce, Ordered, Host, Hosted, Halts, Goes, elements, is_loop}
use Rattle.schedule_model.specs.Setup.{Setup, owner_of}
use Rattle.schedule_model.specs.Sequential.{Stop, Loop, Broke, Ran_through, after_run, one_more, loop}
use Rattle.schedule_model.specs.Machine.{State, unit_at, merge_at, merged_from, reduced, gathered, spread, looped, hosted, done, joined, least}
use Rattle.schedule_model.specs.Layout.{Core, Faults, Leaves, Layout, IsLayout, AreConstants, HostedAlike, lookup, of_core, Exists}
use Rattle.schedule_model.specs.Flat.{Flat, updated, variable, owned, merge_ranks, reduce_flat, element_flat, loop_flat, host_flat, done_flat, join_flat}
use Rattle.schedule_model.proofs.flat_machine.Rows.{map_same}
use Rattle.schedule_model.proofs.flat_machine.Same.{Same, Values, all_changed, values_changed, read_is, variable_is}

-- each owner is a rank
abbrev pub Owners : {F : Type 0} → Setup F → Type 0
Owners p = (c : DatCell) → owner_of p c < p.ranks

module _ {F : Type 0} (p : Setup F) (own : Owners p) (l : Layout F) (q : IsLayout p l) where
  -- what the owners and the variables hold
  owned_is : (f : Flat F) (a : State F) → Same p l f a → (c : Cell) → Exists p l c → owned p l f c ≡ gathered p a c
  owned_is f a h (Data c) x = read_is p l q f a h (owner_of p c) c (own c) x (inl refl)
  owned_is f a h (Variable v) x = variable_is p l q f a h v x

  -- ---- Reduce
  merge_same : (f : Flat F) (a : State F) → Same p l f a → (o : Option Reduction) (s : ℕ) (v : VarCell) (n : ℕ) (x : ℤ) → merge_ranks p l f o s v n x ≡ merged_from a o s v n x
  merge_same f a h o s v zero x = refl
  merge_same f a h o s v (suc n) x = ap (λ z. merge_at o z (f.partials n s v)) (merge_same f a h o s v n x) ∙ ap (merge_at o (merged_from a o s v n x)) (h.partials n s v)

  reduce_same : (k : ℕ) (f : Flat F) (a : State F) → Same p l f a → Same p l (reduce_flat p l k f) (reduced p k a)
  reduce_same k f a h = record {
    memories = h.memories;
    variables = values_changed l f.variables a.variables
        (λ v x. merge_ranks p l f (p.reduces (p.program.site k) v) (p.program.site k) v p.ranks x)
        (λ v. merged_from a (p.reduces (p.program.site k) v) (p.program.site k) v p.ranks (a.variables v)) h.variables
        (λ v. merge_same f a h (p.reduces (p.program.site k) v) (p.program.site k) v p.ranks (a.variables v));
    partials = λ r s v. ap (cond (s == p.program.site k) (unit_at (p.reduces s v))) (h.partials r s v);
    mail = h.mail;
    panes = h.panes;
    faults = h.faults;
    output = h.output;
    stop = h.stop;
  }

  -- ---- Ordered
  -- no element has run
  spread_same : (f : Flat F) (a : State F) → Same p l f a → Same p l f (spread p (gathered p a) a)
  spread_same f a h = record {
    memories = record {
      wide = h.memories.wide;
      widths = h.memories.widths;
      copies = λ r i rl il. h.memories.copies r i rl il ∙ sym (kept r (l.cell_at r i));
    };
    variables = h.variables;
    partials = h.partials;
    mail = h.mail;
    panes = h.panes;
    faults = h.faults;
    output = h.output;
    stop = h.stop;
  }
    where
      kept : (r : ℕ) (c : DatCell) → cond (owner_of p c == r) (a.memories (owner_of p c) c) (a.memories r c) ≡ a.memories r c
      kept r c = ⊎_elim
          (λ (y : (owner_of p c == r) ≡ true). cond-true (owner_of p c == r) (a.memories (owner_of p c) c) (a.memories r c) y ∙ ap (λ z. a.memories z c) (eqb-true (owner_of p c) r y))
          (λ (y : (owner_of p c == r) ≡ false). cond-false (owner_of p c == r) (a.memories (owner_of p c) c) (a.memories r c) y)
          (cases_Bool (owner_of p c == r))

  -- the stop that an element's fault makes
  stop_same : (f : Flat F) (b : State F) (x : Stop F) → Same p l f b → Same p l (record f { stop = Some x }) (record b { stop = Some x })
  stop_same f b x h = record { memories = h.memories; variables = h.variables; partials = h.partials; mail = h.mail; panes = h.panes; faults = h.faults; output = h.output; stop = refl }

  -- one element
  element_same : (k e : ℕ) (f : Flat F) (a : State F) (t : Store) → Same p l f (spread p t a) → (b : Core F)
      → Same p l (element_flat p l k e b f) (looped p k (after_run e t (of_core (l.cells k e) t b)) a)
  element_same k e f a t h (Faults n) = stop_same f (spread p t a) (record { item = k; element = Some e; fault = n }) h
  element_same k e f a t h (Leaves ws) = record {
    memories = all_changed p l f.memories (λ r c. cond (owner_of p c == r) (t (Data c)) (a.memories r c)) (λ r c v. cond (owner_of p c == r) (lookup (l.cells k e) ws (Data c) v) v)
        (λ r c. cond (owner_of p c == r) (lookup (l.cells k e) ws (Data c) (t (Data c))) (a.memories r c)) h.memories
        (λ r i. twice (owner_of p (l.cell_at r i) == r) (l.cell_at r i) (t (Data (l.cell_at r i))) (a.memories r (l.cell_at r i)));
    variables = values_changed l f.variables (λ v. t (Variable v)) (λ v x. lookup (l.cells k e) ws (Variable v) x) (λ v. lookup (l.cells k e) ws (Variable v) (t (Variable v))) h.variables (λ v. refl);
    partials = h.partials;
    mail = h.mail;
    panes = h.panes;
    faults = h.faults;
    output = h.output;
    stop = h.stop;
  }
    where
      twice : (b : Bool) (c : DatCell) (v w : ℤ) → cond b (lookup (l.cells k e) ws (Data c) (cond b v w)) (cond b v w) ≡ cond b (lookup (l.cells k e) ws (Data c) v) w
      twice true c v w = refl
      twice false c v w = refl

  -- what an element's windows are given
  gather_same : (k e : ℕ) (f : Flat F) (a : State F) (t : Store) → is_loop (p.program.kind k) ≡ true → e < elements p.program k
      → Same p l f (spread p t a) → map (owned p l f) (l.cells k e) ≡ map t (l.cells k e)
  gather_same k e f a t lp lt h = map_same (owned p l f) t (l.cells k e) (λ c i. owned_is f (spread p t a) h c (q.exist k e c lp lt i) ∙ back c)
    where
      back : (c : Cell) → gathered p (spread p t a) c ≡ t c
      back (Data c) = cond-true (owner_of p c == owner_of p c) (t (Data c)) (a.memories (owner_of p c) c) (eq-eqb (owner_of p c) (owner_of p c) refl)
      back (Variable v) = refl

  constants_same : (f : Flat F) (a : State F) (t : Store) → Same p l f (spread p t a) → (xs : List VarCell) → AreConstants p l xs → map (variable p l f) xs ≡ map (λ v. t (Variable v)) xs
  constants_same f a t h [] i = refl
  constants_same f a t h (v ∷ xs) i =
      ap (λ z. z ∷ map (variable p l f) xs) (variable_is p l q f (spread p t a) h v i.0) ∙ ap (λ zs. t (Variable v) ∷ zs) (constants_same f a t h xs i.2)

  -- one element more
  more_same : (k n : ℕ) (a : State F) → is_loop (p.program.kind k) ≡ true → n < elements p.program k → a.stop ≡ None
      → (f : Flat F) (r : Loop F) → Same p l f (looped p k r a)
      → Same p l (cond (is_some f.stop) f
      (element_flat p l k n (l.core k n (map (variable p l f) l.constants) (map (owned p l f) (l.cells k n))) f))
      (looped p k (one_more p.program k n r) a)
  more_same k n a lp lt none f (Broke e x t) h =
      subst (λ z. Same p l z (looped p k (Broke e x t) a))
      (sym (cond-true (is_some f.stop) f
      (element_flat p l k n (l.core k n (map (variable p l f) l.constants) (map (owned p l f) (l.cells k n))) f) (ap is_some h.stop))) h
  more_same k n a lp lt none f (Ran_through t) h =
      subst (λ z. Same p l z (looped p k (one_more p.program k n (Ran_through t)) a))
      (sym (cond-false (is_some f.stop) f
      (element_flat p l k n (l.core k n (map (variable p l f) l.constants) (map (owned p l f) (l.cells k n))) f)
      (ap is_some (h.stop ∙ none))))
      (subst (λ z. Same p l (element_flat p l k n (l.core k n (map (variable p l f) l.constants) (map (owned p l f) (l.cells k n))) f) (looped p k (after_run n t z) a)) (sym (q.run_is k n t lp lt))
      (subst (λ z. Same p l (element_flat p l k n (l.core k n (map (variable p l f) l.constants) (map (owned p l f) (l.cells k n))) f)
      (looped p k (after_run n t (of_core (l.cells k n) t (l.core k n (map (λ v. t (Variable v)) l.constants) z))) a))
      (gather_same k n f a t lp lt h)
      (subst (λ z. Same p l (element_flat p l k n (l.core k n (map (variable p l f) l.constants) (map (owned p l f) (l.cells k n))) f)
      (looped p k (after_run n t (of_core (l.cells k n) t (l.core k n z (map (owned p l f) (l.cells k n))))) a))
      (constants_same f a t h l.constants q.constants_are)
      (element_same k n f a t h (l.core k n (map (variable p l f) l.constants) (map (owned p l f) (l.cells k n)))))))

  loop_same : (k n : ℕ) (f : Flat F) (a : State F) → is_loop (p.program.kind k) ≡ true → n ≤ elements p.program k → a.stop ≡ None
      → Same p l f a → Same p l (loop_flat p l k n f) (looped p k (loop p.program k n (gathered p a)) a)
  loop_same k zero f a lp le none h = spread_same f a h
  loop_same k (suc n) f a lp le none h = more_same k n a lp (omega arith) none (loop_flat p l k n f) (loop p.program k n (gathered p a)) (loop_same k n f a lp (omega arith) none h)

  -- ---- Host
  host_same : (k : ℕ) (f : Flat F) (a : State F) → Same p l f a → (b c : Hosted F) → HostedAlike p l b c → Same p l (host_flat p l k b f) (hosted k c a)
  host_same k f a h (Halts n) (Halts m) e = subst (λ z. Same p l (host_flat p l k (Halts n) f) (hosted k (Halts z) a)) e (stop_same f a (record { item = k; element = None; fault = n }) h)
  host_same k f a h (Goes v w) (Goes u o) e = record {
    memories = h.memories;
    variables = given v u (values_changed l f.variables a.variables (λ u x. v u) v h.variables (λ u. refl)) e.0;
    partials = h.partials;
    mail = h.mail;
    panes = h.panes;
    faults = h.faults;
    output = ap (λ z. z ++ w) h.output ∙ ap (λ z. a.output ++ z) e.1;
    stop = h.stop;
  }
    where
      given : (v u : VarCell → ℤ) → Values l (updated (λ i x. v (l.variable_at i)) 0 f.variables) v
          → ((i : ℕ) → i < l.variables → v (l.variable_at i) ≡ u (l.variable_at i))
          → Values l (updated (λ i x. v (l.variable_at i)) 0 f.variables) u
      given v u x y = record { wide = x.wide; values = λ i lt. x.values i lt ∙ y i lt }
  host_same k f a h (Halts n) (Goes u o) e = absurd e
  host_same k f a h (Goes v w) (Halts m) e = absurd e

  done_same : (k : ℕ) (f : Flat F) (a : State F) → a.stop ≡ None → Same p l f a → (x : Kind) → p.program.kind k ≡ x → Same p l (done_flat p l k x f) (done p k x a)
  done_same k f a none h Free e = h
  done_same k f a none h Reduce e = reduce_same k f a h
  done_same k f a none h Ordered e = loop_same k (elements p.program k) f a (ap is_loop e) (omega arith) none h
  done_same k f a none h Host e = host_same k f a h (p.program.host k (owned p l f)) (p.program.host k (gathered p a)) (q.host_sees k (owned p l f) (gathered p a) e (owned_is f a h))

  join_same : (k : ℕ) (f : Flat F) (a : State F) → a.stop ≡ None → Same p l f a → (x : Option (Stop F)) → Same p l (join_flat p l k x f) (joined p k x a)
  join_same k f a none h (Some x) = stop_same f a x h
  join_same k f a none h None = done_same k f a none h (p.program.kind k) refl

  pub join_goes : (k : ℕ) (f : Flat F) (a : State F) → a.stop ≡ None → Same p l f a → Same p l (join_flat p l k (least k f.faults) f) (joined p k (least k a.faults) a)
  join_goes k f a none h = subst (λ z. Same p l (join_flat p l k (least k z) f) (joined p k (least k a.faults) a)) (sym h.faults) (join_same k f a none h (least k a.faults))
