-- The distributed machine: ranks with memories, messages, frames and partials, driven by the steps of a schedule.
use Rattle.std.specs.Prelude.{◌≡◌, ℕ, ℤ, zero, suc, Bool, false, cond, ◌&&◌, ◌||◌, ◌==◌, nat_lt, List, [], ◌∷◌, ◌++◌, Option, Some, None, is_some, pos}
use Rattle.op_num.specs.Reduction.{Reduction, unit_of, merged}
use Rattle.schedule_steps.specs.declared.step.Step.{Step}
use Rattle.schedule_steps.specs.declared.step.Step.TheVariants.{Send, Recv, Begin, End, Join}
use Rattle.schedule_steps.specs.Steps.{same3}
use Rattle.schedule_model.specs.Cells.{Data, Variable, DatCell, VarCell, Store}
use Rattle.schedule_model.specs.Effects.{Ran, Faulted, Finished, is_modified}
use Rattle.schedule_model.specs.Program.{Kind, Free, Reduce, Ordered, Host, Hosted, Halts, Goes, elements}
use Rattle.schedule_model.specs.Setup.{Setup, owner_of, has_copy}
use Rattle.schedule_model.specs.Sequential.{Stop, Loop, Broke, Ran_through, loop, Seq, Stopped, Going}

-- an element's frame: none, one whose kernel faulted, or its windows after its kernel's run
pub data Frame : Type 0 where
  Shut : Frame
  Broken : Frame
  Holds : Store → Frame

-- what a send leaves in the queue of its pair
pub record Message : Type 0 where
  pub about : ℕ  -- item
  pub values : DatCell → ℤ  -- the sender's

-- the state of the machine
pub record State (F : Type 0) : Type 0 where
  pub memories : ℕ → DatCell → ℤ  -- rank
  pub variables : VarCell → ℤ
  pub partials : ℕ → ℕ → VarCell → ℤ  -- rank, site
  pub mail : ℕ → ℕ → List Message  -- sender, receiver: the oldest first
  pub frames : ℕ → ℕ → ℕ → Frame  -- item, rank, element
  pub faults : List (Stop F)  -- the first recorded first
  pub output : List ℕ
  pub stop : Option (Stop F)

-- the unit of a reduction, or 0 where there is none
abbrev pub unit_at : Option Reduction → ℤ
unit_at None = pos 0
unit_at (Some o) = unit_of o

-- v with the amount x merged into it, if there is a reduction
abbrev pub merge_at : Option Reduction → ℤ → ℤ → ℤ
merge_at None v x = v
merge_at (Some o) v x = merged o v x

-- the mesh's values in every copy, units in the partials, and all else empty
abbrev pub start_state : {F : Type 0} → Setup F → State F
start_state p = record {
  memories = λ r c. p.program.start (Data c);
  variables = λ v. p.program.start (Variable v);
  partials = λ r s v. unit_at (p.reduces s v);
  mail = λ s r. [];
  frames = λ k r e. Shut;
  faults = [];
  output = [];
  stop = None;
}

-- the function with the value v at a
abbrev pub put1 : {A : Type 0} → ℕ → A → (ℕ → A) → ℕ → A
put1 a v f x = cond (x == a) v (f x)

-- the function with the value v at a and b
abbrev pub put2 : {A : Type 0} → ℕ → ℕ → A → (ℕ → ℕ → A) → ℕ → ℕ → A
put2 a b v f x y = cond ((x == a) && (y == b)) v (f x y)

-- the function with the value v at a, b and c
abbrev pub put3 : {A : Type 0} → ℕ → ℕ → ℕ → A → (ℕ → ℕ → ℕ → A) → ℕ → ℕ → ℕ → A
put3 a b c v f x y z = cond (same3 x y z a b c) v (f x y z)

-- ---- messages

-- in item k the cell comes from s to r
abbrev pub arrives : {F : Type 0} → Setup F → ℕ → ℕ → ℕ → DatCell → Bool
arrives p k r s c = (owner_of p c == s) && (p.exchanged k c.dat && has_copy p r c)

-- the message x has come from s to r, and xs are left
abbrev pub delivered : {F : Type 0} → Setup F → ℕ → ℕ → ℕ → Message → List Message → State F → State F
delivered p k r s x xs st =
    record st {
      memories = put1 r (λ c. cond (arrives p k r s c) (x.values c) (st.memories r c)) st.memories;
      mail = put2 s r xs st.mail;
    }

-- the oldest message is taken from the queue
abbrev pub taken : {F : Type 0} → Setup F → ℕ → ℕ → List Message → State F → State F
taken p r s [] st = st
taken p r s (x ∷ xs) st = delivered p x.about r s x xs st

-- ---- elements

-- what a variable's window begins with: the unit where the loop reduces into it
abbrev pub window_of : Option Reduction → ℤ → ℤ
window_of None v = v
window_of (Some o) v = unit_of o

-- what rank r gives a kernel of item k
abbrev pub view : {F : Type 0} → Setup F → ℕ → ℕ → State F → Store
view p k r st (Data c) = st.memories r c
view p k r st (Variable v) = window_of (p.reduces (p.program.site k) v) (st.variables v)

-- a begin: the frame after the kernel's run, or its fault, which is recorded
abbrev pub opened : {F : Type 0} → ℕ → ℕ → ℕ → Ran F → State F → State F
opened k r e (Faulted f) st =
    record st { frames = put3 k r e Broken st.frames; faults = st.faults ++ (record { item = k; element = Some e; fault = f } ∷ []) }
opened k r e (Finished t) st = record st { frames = put3 k r e (Holds t) st.frames }

-- the windows of modified cells go back to memory, and the reductions of an element that r owns into r's partials
abbrev pub written_back : {F : Type 0} → Setup F → ℕ → ℕ → ℕ → Store → State F → State F
written_back p k r e t st =
    record st {
      memories = put1 r (λ c. cond (is_modified (p.touch k e (Data c))) (t (Data c)) (st.memories r c)) st.memories;
      partials = put2 r (p.program.site k)
          (λ v. cond
          (p.owner (p.program.set k) e == r)
          (merge_at (p.reduces (p.program.site k) v) (st.partials r (p.program.site k) v) (t (Variable v)))
          (st.partials r (p.program.site k) v))
          st.partials;
      frames = put3 k r e Shut st.frames;
    }

-- an end: what the frame has is written back, and in every case the frame is shut
abbrev pub closed : {F : Type 0} → Setup F → ℕ → ℕ → ℕ → Frame → State F → State F
closed p k r e Shut st = record st { frames = put3 k r e Shut st.frames }
closed p k r e Broken st = record st { frames = put3 k r e Shut st.frames }
closed p k r e (Holds t) st = written_back p k r e t st

-- ---- joins

-- the first is an earlier element than the second
abbrev pub is_less_element : Option ℕ → Option ℕ → Bool
is_less_element (Some a) (Some b) = nat_lt a b
is_less_element _ _ = false

-- x is of an earlier item than y, or of the same item and an earlier element
abbrev pub is_less : {F : Type 0} → Stop F → Stop F → Bool
is_less x y = nat_lt x.item y.item || ((x.item == y.item) && is_less_element x.element y.element)

-- the lesser of two, and the first of equals
abbrev pub lesser : {F : Type 0} → Stop F → Option (Stop F) → Stop F
lesser x None = x
lesser x (Some y) = cond (is_less y x) y x

-- the least recorded fault of an item before k, the first recorded of equals
abbrev pub least : {F : Type 0} → ℕ → List (Stop F) → Option (Stop F)
least k [] = None
least k (x ∷ xs) = cond (nat_lt x.item k) (Some (lesser x (least k xs))) (least k xs)

-- v with the partials of the first n ranks merged into it
abbrev pub merged_from : {F : Type 0} → State F → Option Reduction → ℕ → VarCell → ℕ → ℤ → ℤ
merged_from st o s v zero x = x
merged_from st o s v (suc n) x = merge_at o (merged_from st o s v n x) (st.partials n s v)

-- Reduce: the partials of all ranks go into the variables, and are units again
abbrev pub reduced : {F : Type 0} → Setup F → ℕ → State F → State F
reduced p k st =
    record st {
      variables = λ v. merged_from st (p.reduces (p.program.site k) v) (p.program.site k) v p.ranks (st.variables v);
      partials = λ r s v. cond (s == p.program.site k) (unit_at (p.reduces s v)) (st.partials r s v);
    }

-- the owners' copies and the variables
abbrev pub gathered : {F : Type 0} → Setup F → State F → Store
gathered p st (Data c) = st.memories (owner_of p c) c
gathered p st (Variable v) = st.variables v

-- each owner has its cells of t, and the variables are those of t
abbrev pub spread : {F : Type 0} → Setup F → Store → State F → State F
spread p t st = record st { memories = λ r c. cond (owner_of p c == r) (t (Data c)) (st.memories r c); variables = λ v. t (Variable v) }

-- a fault of an Ordered loop leaves what earlier elements stored
abbrev pub looped : {F : Type 0} → Setup F → ℕ → Loop F → State F → State F
looped p k (Broke e f t) st = record (spread p t st) { stop = Some (record { item = k; element = Some e; fault = f }) }
looped p k (Ran_through t) st = spread p t st

-- a host statement; a faulty one changes and prints nothing
abbrev pub hosted : {F : Type 0} → ℕ → Hosted F → State F → State F
hosted k (Halts f) st = record st { stop = Some (record { item = k; element = None; fault = f }) }
hosted k (Goes v w) st = record st { variables = v; output = st.output ++ w }

-- a Free item has no join
abbrev pub done : {F : Type 0} → Setup F → ℕ → Kind → State F → State F
done p k Free st = st
done p k Reduce st = reduced p k st
done p k Ordered st = looped p k (loop p.program k (elements p.program k) (gathered p st)) st
done p k Host st = hosted k (p.program.host k (gathered p st)) st

-- a join stops by a fault of an earlier item, if one is recorded, and else does its item
abbrev pub joined : {F : Type 0} → Setup F → ℕ → Option (Stop F) → State F → State F
joined p k (Some x) st = record st { stop = Some x }
joined p k None st = done p k (p.program.kind k) st

-- ---- the run of a list

-- one step
abbrev pub step : {F : Type 0} → Setup F → Step → State F → State F
step p (Send k s r) st = record st { mail = put2 s r (st.mail s r ++ (record { about = k; values = st.memories s } ∷ [])) st.mail }
step p (Recv k r s) st = taken p r s (st.mail s r) st
step p (Begin k r e) st = opened k r e (p.program.run k e (view p k r st)) st
step p (End k r e) st = closed p k r e (st.frames k r e) st
step p (Join k) st = joined p k (least k st.faults) st

-- the steps of the list, up to the first that stops
abbrev pub steps_from : {F : Type 0} → Setup F → List Step → State F → State F
steps_from p [] st = st
steps_from p (s ∷ l) st = cond (is_some st.stop) st (steps_from p l (step p s st))

-- the machine after the list
abbrev pub machine : {F : Type 0} → Setup F → List Step → State F
machine p l = steps_from p l (start_state p)

-- the machine printed and stopped as the sequential run did; where that went on to its end, the owners and the variables have its values
abbrev pub Agrees : {F : Type 0} → Setup F → Seq F → State F → Type 0
Agrees p (Going s o) m =
    (m.stop ≡ None)
    × (m.output ≡ o)
    × ((c : DatCell) → m.memories (owner_of p c) c ≡ s (Data c))
    × ((v : VarCell) → m.variables v ≡ s (Variable v))
Agrees p (Stopped x s o) m = (m.stop ≡ Some x) × (m.output ≡ o)
