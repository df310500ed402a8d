-- The distributed machine on flat buffers, by places.
use Rattle.std.specs.Prelude.{◌≡◌, ◌<◌, ℕ, ℤ, pos, zero, suc, true, cond, ◌==◌, List, [], ◌∷◌, ◌++◌, map, length, get_or, set, Option, Some, None, is_some}
use Rattle.op_num.specs.Reduction.{Reduction}
use Rattle.schedule_steps.specs.declared.step.Step.{Step}
use Rattle.schedule_steps.specs.declared.step.Step.TheVariants.{Send, Recv, Begin, End, Join}
use Rattle.schedule_model.specs.Cells.{Cell, Data, Variable, DatCell, VarCell}
use Rattle.schedule_model.specs.Program.{Kind, Free, Reduce, Ordered, Host, Hosted, Halts, Goes, elements}
use Rattle.schedule_model.specs.Setup.{Setup, owner_of}
use Rattle.schedule_model.specs.Sequential.{Stop, Seq, Stopped, Going}
use Rattle.schedule_model.specs.Machine.{unit_at, merge_at, put2, put3, window_of, arrives, least}
use Rattle.schedule_model.specs.Layout.{Core, Faults, Leaves, Layout, lookup, is_cell}

-- an element's frame, with the values of its windows
pub data Pane : Type 0 where
  Shut_pane : Pane
  Broken_pane : Pane
  Windows : List ℤ → Pane

-- a message: the values of the exported cells, in their order
pub record Post : Type 0 where
  pub about : ℕ  -- item
  pub values : List ℤ  -- of the exported cells

-- the state of the machine, with its memories and variables as lists
pub record Flat (F : Type 0) : Type 0 where
  pub memories : List (List ℤ)
  pub variables : List ℤ
  pub partials : ℕ → ℕ → VarCell → ℤ  -- rank, site
  pub mail : ℕ → ℕ → List Post  -- sender, receiver
  pub panes : ℕ → ℕ → ℕ → Pane  -- item, rank, place
  pub faults : List (Stop F)
  pub output : List ℕ
  pub stop : Option (Stop F)

-- each value by its index
abbrev pub updated : (ℕ → ℤ → ℤ) → ℕ → List ℤ → List ℤ
updated g i [] = []
updated g i (x ∷ xs) = g i x ∷ updated g (suc i) xs

-- each buffer's values by rank and index
abbrev pub updated_rows : (ℕ → ℕ → ℤ → ℤ) → ℕ → List (List ℤ) → List (List ℤ)
updated_rows g r [] = []
updated_rows g r (x ∷ xs) = updated (g r) 0 x ∷ updated_rows g (suc r) xs

module _ {F : Type 0} (p : Setup F) (l : Layout F) where
  -- one rank's buffer, each value by its cell
  abbrev pub change : ℕ → (DatCell → ℤ → ℤ) → List (List ℤ) → List (List ℤ)
  change r g memories = set memories r (updated (λ i v. g (l.cell_at r i) v) 0 (get_or memories r []))

  -- the value of the cell in a rank's buffer
  abbrev pub read : Flat F → ℕ → DatCell → ℤ
  read f r c = get_or (get_or f.memories r []) (l.place r c) (pos 0)

  -- the value of the variable's cell
  abbrev pub variable : Flat F → VarCell → ℤ
  variable f v = get_or f.variables (l.index_of v) (pos 0)

  -- what a window of rank r begins with
  abbrev pub window : Flat F → ℕ → ℕ → Cell → ℤ
  window f k r (Data c) = read f r c
  window f k r (Variable v) = window_of (p.reduces (p.program.site k) v) (variable f v)

  -- the owner's copy, or the variable
  abbrev pub owned : Flat F → Cell → ℤ
  owned f (Data c) = read f (owner_of p c) c
  owned f (Variable v) = variable f v

  -- what a sender packs
  abbrev pub packed : Flat F → ℕ → Cell → ℤ
  packed f s (Data c) = read f s c
  packed f s (Variable v) = pos 0

  -- the oldest message goes into the buffer
  abbrev pub take_post : ℕ → ℕ → List Post → Flat F → Flat F
  take_post r s [] f = f
  take_post r s (x ∷ xs) f =
      record f {
        memories = change r (λ c v. cond (arrives p x.about r s c) (lookup (l.exports x.about s r) x.values (Data c) v) v) f.memories;
        mail = put2 s r xs f.mail;
      }

  -- a begin: the windows after the kernel's run, or its fault, which is recorded
  abbrev pub open_pane : ℕ → ℕ → ℕ → Core F → Flat F → Flat F
  open_pane k r x (Faults n) f =
      record f {
        panes = put3 k r x Broken_pane f.panes;
        faults = f.faults ++ (record { item = k; element = Some (l.original k r x); fault = n } ∷ []);
      }
  open_pane k r x (Leaves ws) f = record f { panes = put3 k r x (Windows ws) f.panes }

  -- an end: the windows go back into memory, an owned element's reductions into the partials; e is the place's element
  abbrev pub close_pane : ℕ → ℕ → ℕ → ℕ → Pane → Flat F → Flat F
  close_pane k r x e Shut_pane f = record f { panes = put3 k r x Shut_pane f.panes }
  close_pane k r x e Broken_pane f = record f { panes = put3 k r x Shut_pane f.panes }
  close_pane k r x e (Windows ws) f =
      record f {
        memories = change r (λ c v. cond (p.modifies k c.dat) (lookup (l.cells k e) ws (Data c) v) v) f.memories;
        partials = put2 r (p.program.site k)
            (λ v. cond
            (p.owner (p.program.set k) e == r)
            (merge_at (p.reduces (p.program.site k) v) (f.partials r (p.program.site k) v) (lookup (l.cells k e) ws (Variable v) (pos 0)))
            (f.partials r (p.program.site k) v))
            f.partials;
        panes = put3 k r x Shut_pane f.panes;
      }

  -- x with the partials of the first n ranks merged into it
  abbrev pub merge_ranks : Flat F → Option Reduction → ℕ → VarCell → ℕ → ℤ → ℤ
  merge_ranks f o s v zero x = x
  merge_ranks f o s v (suc n) x = merge_at o (merge_ranks f o s v n x) (f.partials n s v)

  -- Reduce: the partials go into the variables, and are units again
  abbrev pub reduce_flat : ℕ → Flat F → Flat F
  reduce_flat k f =
      record f {
        variables =
            updated
            (λ i x. merge_ranks f (p.reduces (p.program.site k) (l.variable_at i)) (p.program.site k) (l.variable_at i) p.ranks x)
            0
            f.variables;
        partials = λ r s v. cond (s == p.program.site k) (unit_at (p.reduces s v)) (f.partials r s v);
      }

  -- one element of an Ordered loop: its windows are gathered from the owners and the variables, and go back there
  abbrev pub element_flat : ℕ → ℕ → Core F → Flat F → Flat F
  element_flat k e (Faults n) f = record f { stop = Some (record { item = k; element = Some e; fault = n }) }
  element_flat k e (Leaves ws) f =
      record f {
        memories =
            updated_rows
            (λ r i v. cond (owner_of p (l.cell_at r i) == r) (lookup (l.cells k e) ws (Data (l.cell_at r i)) v) v)
            0
            f.memories;
        variables = updated (λ i v. lookup (l.cells k e) ws (Variable (l.variable_at i)) v) 0 f.variables;
      }

  -- the first n elements of an Ordered loop, up to the first that faults
  abbrev pub loop_flat : ℕ → ℕ → Flat F → Flat F
  loop_flat k zero f = f
  loop_flat k (suc n) f =
      cond
      (is_some (loop_flat k n f).stop)
      (loop_flat k n f)
      (element_flat
      k
      n
      (l.core k n (map (variable (loop_flat k n f)) l.constants) (map (owned (loop_flat k n f)) (l.cells k n)))
      (loop_flat k n f))

  -- a host statement
  abbrev pub host_flat : ℕ → Hosted F → Flat F → Flat F
  host_flat k (Halts n) f = record f { stop = Some (record { item = k; element = None; fault = n }) }
  host_flat k (Goes v w) f = record f { variables = updated (λ i x. v (l.variable_at i)) 0 f.variables; output = f.output ++ w }

  -- a join does its item
  abbrev pub done_flat : ℕ → Kind → Flat F → Flat F
  done_flat k Free f = f
  done_flat k Reduce f = reduce_flat k f
  done_flat k Ordered f = loop_flat k (elements p.program k) f
  done_flat k Host f = host_flat k (p.program.host k (owned f)) f

  -- a join stops by the least fault recorded before its item, if there is one
  abbrev pub join_flat : ℕ → Option (Stop F) → Flat F → Flat F
  join_flat k (Some x) f = record f { stop = Some x }
  join_flat k None f = done_flat k (p.program.kind k) f

  -- one step
  abbrev pub flat_step : Step → Flat F → Flat F
  flat_step (Send k s r) f =
      record f { mail = put2 s r (f.mail s r ++ (record { about = k; values = map (packed f s) (l.exports k s r) } ∷ [])) f.mail }
  flat_step (Recv k r s) f = take_post r s (f.mail s r) f
  flat_step (Begin k r x) f =
      open_pane k r x (l.core k (l.original k r x) (map (variable f) l.constants) (map (window f k r) (l.cells k (l.original k r x)))) f
  flat_step (End k r x) f = close_pane k r x (l.original k r x) (f.panes k r x) f
  flat_step (Join k) f = join_flat k (least k f.faults) f

  -- the steps of the list, up to the first that stops
  abbrev pub flat_from : List Step → Flat F → Flat F
  flat_from [] f = f
  flat_from (s ∷ ss) f = cond (is_some f.stop) f (flat_from ss (flat_step s f))

  -- the mesh's values in every copy, the variables' first values, units in the partials, and all else empty
  pub record StartsFlat (f : Flat F) : Type 0 where
    pub ranks : length f.memories ≡ p.ranks
    pub widths : (r : ℕ) → r < p.ranks → length (get_or f.memories r []) ≡ l.width r
    pub values : (r i : ℕ)
        → r < p.ranks
        → i < l.width r
        → get_or (get_or f.memories r []) i (pos 0) ≡ p.program.start (Data (l.cell_at r i))
    pub count : length f.variables ≡ l.variables
    pub variables : (i : ℕ) → i < l.variables → get_or f.variables i (pos 0) ≡ p.program.start (Variable (l.variable_at i))
    pub partials : (r s : ℕ) (v : VarCell) → f.partials r s v ≡ unit_at (p.reduces s v)
    pub mail : (s r : ℕ) → f.mail s r ≡ []
    pub panes : (k r x : ℕ) → f.panes k r x ≡ Shut_pane
    pub faults : f.faults ≡ []
    pub output : f.output ≡ []
    pub stop : f.stop ≡ None

  -- the flat machine printed and stopped as the sequential run did; where that went on to its end, owners and variables have its values
  abbrev pub AgreesFlat : Seq F → Flat F → Type 0
  AgreesFlat (Going s o) m =
      (m.stop ≡ None) × (m.output ≡ o)
      × ((c : DatCell) → is_cell p l c ≡ true → read m (owner_of p c) c ≡ s (Data c))
      × ((i : ℕ) → i < l.variables → get_or m.variables i (pos 0) ≡ s (Variable (l.variable_at i)))
  AgreesFlat (Stopped x s o) m = (m.stop ≡ Some x) × (m.output ≡ o)
