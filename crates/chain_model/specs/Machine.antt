-- The machine that runs chains: ranks with stores, item by item, with one exchange at the start of each chain.
use Rattle.std.specs.Prelude.{◌≡◌, ℕ, ℤ, zero, suc, cond, ◌==◌, List, [], ◌∷◌, ◌++◌, Option, Some, None, is_some, pos}
use Rattle.op_num.specs.Reduction.{Reduction}
use Rattle.schedule_model.specs.Cells.{Data, Variable, DatCell, VarCell, Store}
use Rattle.schedule_model.specs.Effects.{Ran, Faulted, Finished}
use Rattle.schedule_model.specs.Program.{Kind, Free, Reduce, Ordered, Host, Hosted, Halts, Goes, elements}
use Rattle.schedule_model.specs.Sequential.{Stop, Loop, Broke, Ran_through, loop, Seq, Stopped, Going}
use Rattle.schedule_model.specs.Machine.{unit_at, merge_at, window_of, put1, put2, least}
use Rattle.chain_model.specs.Chains.{begins}
use Rattle.chain_model.specs.Slicing.{Slicing, pair_owner}

-- ---- stores

-- a rank's store, a partial map: dat, element: the values of the pair's components, where the rank holds the pair
abbrev pub Holding : Type 0
Holding = ℕ → ℕ → Option (ℕ → ℤ)

-- a component's value, and zero where there are none
abbrev pub value_in : Option (ℕ → ℤ) → ℕ → ℤ
value_in None i = pos 0
value_in (Some u) i = u i

-- the value of a cell in a store
abbrev pub cell_in : Holding → DatCell → ℤ
cell_in h x = value_in (h x.dat x.element) x.component

-- other values for a pair, if it is held
abbrev pub replaced : (ℕ → ℤ) → Option (ℕ → ℤ) → Option (ℕ → ℤ)
replaced u None = None
replaced u (Some v) = Some u

-- the values of a pair's components
abbrev pub pair_values : Store → ℕ → ℕ → ℕ → ℤ
pair_values t d y i = t (Data (record { dat = d; element = y; component = i }))

-- the store with the values of t in the pairs that it holds
abbrev pub left_in : Store → Holding → Holding
left_in t h d y = replaced (pair_values t d y) (h d y)

-- ---- the machine's state

-- the state of the machine; F is the type of faults
pub record ChainState (F : Type 0) : Type 0 where
  pub stores : ℕ → Holding  -- rank
  pub variables : VarCell → ℤ
  pub partials : ℕ → ℕ → VarCell → ℤ  -- rank, site
  pub faults : List (Stop F)  -- the first recorded first
  pub output : List ℕ
  pub stop : Option (Stop F)

-- each rank holds its own pairs, with the mesh's values; units in the partials, and nothing else
abbrev pub chain_start : {F : Type 0} → Slicing F → ChainState F
chain_start c = record {
  stores = λ r d y. cond (pair_owner c d y == r) (Some (pair_values c.program.start d y)) None;
  variables = λ v. c.program.start (Variable v);
  partials = λ r s v. unit_at (c.reduces s v);
  faults = [];
  output = [];
  stop = None;
}

-- the owners' pairs and the variables
abbrev pub gathered : {F : Type 0} → Slicing F → ChainState F → Store
gathered c st (Data x) = cell_in (st.stores (pair_owner c x.dat x.element)) x
gathered c st (Variable v) = st.variables v

-- ---- Free items

-- the exchange before item k: each rank holds what it needs then, its own pairs among it, with the owners' values, and nothing else
abbrev pub exchanged : {F : Type 0} → Slicing F → ℕ → ChainState F → ChainState F
exchanged c k st = record st { stores = λ r d y. cond (c.needs k r d y) (Some (pair_values (gathered c st) d y)) None }

-- with the exchange, where a chain begins at item k
abbrev pub supplied : {F : Type 0} → Slicing F → ℕ → ChainState F → ChainState F
supplied c k st = cond (begins c.program.kind k) (exchanged c k st) st

-- what rank r gives a kernel of item k: zeros for pairs that it doesn't hold
abbrev pub view : {F : Type 0} → Slicing F → ℕ → ℕ → ChainState F → Store
view c k r st (Data x) = cell_in (st.stores r) x
view c k r st (Variable v) = window_of (c.reduces (c.program.site k) v) (st.variables v)

-- after the run of element e on rank r: pairs that the rank doesn't hold are dropped, and reductions and faults count where the rank owns
-- the element; a faulty element changes nothing
abbrev pub ran : {F : Type 0} → Slicing F → ℕ → ℕ → ℕ → Ran F → ChainState F → ChainState F
ran c k r e (Faulted f) st =
    cond
    (c.owner (c.program.set k) e == r)
    (record st { faults = st.faults ++ (record { item = k; element = Some e; fault = f } ∷ []) })
    st
ran c k r e (Finished t) st =
    record st {
      stores = put1 r (left_in t (st.stores r)) st.stores;
      partials = put2 r (c.program.site k)
          (λ v. cond
          (c.owner (c.program.set k) e == r)
          (merge_at (c.reduces (c.program.site k) v) (st.partials r (c.program.site k) v) (t (Variable v)))
          (st.partials r (c.program.site k) v))
          st.partials;
    }

-- with element e, if rank r executes it
abbrev pub one_run : {F : Type 0} → Slicing F → ℕ → ℕ → ℕ → ChainState F → ChainState F
one_run c k r e st = cond (c.executes k r e) (ran c k r e (c.program.run k e (view c k r st)) st) st

-- those of the first n elements of item k that rank r executes, one after another
abbrev pub rank_run : {F : Type 0} → Slicing F → ℕ → ℕ → ℕ → ChainState F → ChainState F
rank_run c k r zero st = st
rank_run c k r (suc n) st = one_run c k r n (rank_run c k r n st)

-- the first n ranks
abbrev pub ranks_run : {F : Type 0} → Slicing F → ℕ → ℕ → ChainState F → ChainState F
ranks_run c k zero st = st
ranks_run c k (suc n) st = rank_run c k n (elements c.program k) (ranks_run c k n st)

-- ---- other items

-- v with the partials of the first n ranks merged into it
abbrev pub merged_over : Option Reduction → (ℕ → ℤ) → ℕ → ℤ → ℤ
merged_over o part zero v = v
merged_over o part (suc n) v = merge_at o (merged_over o part n v) (part n)

-- Reduce: the partials of all ranks go into the variables, and are units again
abbrev pub reduced : {F : Type 0} → Slicing F → ℕ → ChainState F → ChainState F
reduced c k st =
    record st {
      variables = λ v. merged_over (c.reduces (c.program.site k) v) (λ r. st.partials r (c.program.site k) v) c.ranks (st.variables v);
      partials = λ r s v. cond (s == c.program.site k) (unit_at (c.reduces s v)) (st.partials r s v);
    }

-- each owner has its pairs of t, and the variables are those of t
abbrev pub spread : {F : Type 0} → Slicing F → Store → ChainState F → ChainState F
spread c t st =
    record st {
      stores = λ r d y. cond (pair_owner c d y == r) (Some (pair_values t d y)) (st.stores r d y);
      variables = λ v. t (Variable v);
    }

-- Ordered: a fault leaves what earlier elements stored
abbrev pub looped : {F : Type 0} → Slicing F → ℕ → Loop F → ChainState F → ChainState F
looped c k (Broke e f t) st = record (spread c t st) { stop = Some (record { item = k; element = Some e; fault = f }) }
looped c k (Ran_through t) st = spread c t st

-- Host: a faulty statement changes and prints nothing
abbrev pub hosted : {F : Type 0} → ℕ → Hosted F → ChainState F → ChainState F
hosted k (Halts f) st = record st { stop = Some (record { item = k; element = None; fault = f }) }
hosted k (Goes v w) st = record st { variables = v; output = st.output ++ w }

-- stopped by a recorded fault, if there is one; else the second
abbrev pub unless_recorded : {F : Type 0} → Option (Stop F) → ChainState F → ChainState F → ChainState F
unless_recorded None st next = next
unless_recorded (Some x) st next = record st { stop = Some x }

-- ---- the run

-- item k; an item that isn't Free stops by the least fault that is recorded in an earlier item, if there is one
abbrev pub item_run : {F : Type 0} → Slicing F → ℕ → Kind → ChainState F → ChainState F
item_run c k Free st = ranks_run c k c.ranks (supplied c k st)
item_run c k Reduce st = unless_recorded (least k st.faults) st (reduced c k st)
item_run c k Ordered st =
    unless_recorded (least k st.faults) st (looped c k (loop c.program k (elements c.program k) (gathered c st)) st)
item_run c k Host st = unless_recorded (least k st.faults) st (hosted k (c.program.host k (gathered c st)) st)

-- the first k items, up to the one that stops
abbrev pub chain_items : {F : Type 0} → Slicing F → ℕ → ChainState F
chain_items c zero = chain_start c
chain_items c (suc k) =
    cond (is_some (chain_items c k).stop) (chain_items c k) (item_run c k (c.program.kind k) (chain_items c k))

-- the machine after all items
abbrev pub chain_machine : {F : Type 0} → Slicing F → ChainState F
chain_machine c = chain_items c c.program.items

-- the machine printed and stopped as the sequential run did; where that went on to its end, the owners and the variables have its values
abbrev pub ChainAgrees : {F : Type 0} → Slicing F → Seq F → ChainState F → Type 0
ChainAgrees c (Going s o) m =
    (m.stop ≡ None)
    × (m.output ≡ o)
    × ((x : DatCell) → gathered c m (Data x) ≡ s (Data x))
    × ((v : VarCell) → m.variables v ≡ s (Variable v))
ChainAgrees c (Stopped x s o) m = (m.stop ≡ Some x) × (m.output ≡ o)
