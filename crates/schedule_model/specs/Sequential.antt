-- The sequential run: items in order, each loop one element after another, on whole stores.
use Rattle.std.specs.Prelude.{ℕ, ℤ, zero, suc, List, [], ◌++◌, Option, Some, None}
use Rattle.schedule_model.specs.Cells.{Data, Variable, VarCell, Store}
use Rattle.schedule_model.specs.Effects.{Ran, Faulted, Finished}
use Rattle.schedule_model.specs.Program.{Program, Kind, Free, Reduce, Ordered, Host, Hosted, Halts, Goes, elements}

-- where a run stopped, and by which fault; a host statement has no element
pub record Stop (F : Type 0) : Type 0 where
  pub item : ℕ
  pub element : Option ℕ
  pub fault : F

-- the first element of a loop that faults with the store before it, or the store after the loop
pub data Loop (F : Type 0) : Type 0 where
  Broke : ℕ → F → Store → Loop F
  Ran_through : Store → Loop F

-- the loop after element e
abbrev pub after_run : {F : Type 0} → ℕ → Store → Ran F → Loop F
after_run e s (Faulted f) = Broke e f s
after_run e s (Finished t) = Ran_through t

-- the loop with element e, unless an earlier one broke it
abbrev pub one_more : {F : Type 0} → Program F → ℕ → ℕ → Loop F → Loop F
one_more p k e (Broke a f s) = Broke a f s
one_more p k e (Ran_through s) = after_run e s (p.run k e s)

-- the first n elements of the loop of item k
abbrev pub loop : {F : Type 0} → Program F → ℕ → ℕ → Store → Loop F
loop p k zero s = Ran_through s
loop p k (suc n) s = one_more p k n (loop p k n s)

-- a stop, or the store; with the bytes printed so far
pub data Seq (F : Type 0) : Type 0 where
  Stopped : Stop F → Store → List ℕ → Seq F
  Going : Store → List ℕ → Seq F

-- the store with other values of the variables
abbrev pub with_variables : (VarCell → ℤ) → Store → Store
with_variables v s (Data c) = s (Data c)
with_variables v s (Variable x) = v x

-- the run after a loop
abbrev pub after_loop : {F : Type 0} → ℕ → List ℕ → Loop F → Seq F
after_loop k o (Broke e f s) = Stopped (record { item = k; element = Some e; fault = f }) s o
after_loop k o (Ran_through s) = Going s o

-- the run after a host statement
abbrev pub after_host : {F : Type 0} → ℕ → Store → List ℕ → Hosted F → Seq F
after_host k s o (Halts f) = Stopped (record { item = k; element = None; fault = f }) s o
after_host k s o (Goes v w) = Going (with_variables v s) (o ++ w)

-- a Reduce does nothing, since the kernels reduced into the variables themselves
abbrev pub item_from : {F : Type 0} → Program F → ℕ → Kind → Store → List ℕ → Seq F
item_from p k Free s o = after_loop k o (loop p k (elements p k) s)
item_from p k Reduce s o = Going s o
item_from p k Ordered s o = after_loop k o (loop p k (elements p k) s)
item_from p k Host s o = after_host k s o (p.host k s)

-- the run with item k, unless it has stopped
abbrev pub after_item : {F : Type 0} → Program F → ℕ → Seq F → Seq F
after_item p k (Stopped x s o) = Stopped x s o
after_item p k (Going s o) = item_from p k (p.kind k) s o

-- the run before item k
abbrev pub seq : {F : Type 0} → Program F → ℕ → Seq F
seq p zero = Going p.start []
seq p (suc k) = after_item p k (seq p k)

-- the whole run
abbrev pub sequential : {F : Type 0} → Program F → Seq F
sequential p = seq p p.items
