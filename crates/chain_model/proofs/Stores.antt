-- Stores and their values.
use Rattle.std.proofs.Common.{◌≡◌, ℕ, ℤ, zero, suc, Bool, true, cond, refl, sym, subst, Option, Some, None}
use Rattle.std.specs.Prelude.{◌==◌}
use Rattle.std.proofs.lemmas.Bool.{cond_both, cond-true, cond-false, eq-eqb, ne_eqb}
use Rattle.schedule_model.specs.Cells.{Data, Variable, DatCell, VarCell, Store, InRange}
use Rattle.schedule_model.specs.Machine.{put1, window_of}
use Rattle.schedule_model.proofs.Public.{good_unit, good_merge, Good}
use Rattle.op_num.specs.Reduction.{Reduction}
use Rattle.chain_model.specs.Slicing.{pair_owner}
use Rattle.chain_model.specs.Machine.{Holding, value_in, cell_in, replaced, pair_values, left_in, ChainState, gathered, view, merged_over}
use Rattle.chain_model.proofs.Given.{Given, chains}

-- ---- functions with one other value

pub put_here : {A : Type 0} (r : ℕ) (v : A) (f : ℕ → A) → put1 r v f r ≡ v
put_here r v f = cond-true (r == r) v (f r) (eq-eqb r r refl)

pub put_else : {A : Type 0} (r a : ℕ) (v : A) (f : ℕ → A) → (a ≡ r → ⊥) → put1 r v f a ≡ f a
put_else r a v f ne = cond-false (a == r) v (f a) (ne_eqb a r ne)

-- ---- values of cells

-- the component has this value
abbrev pub IsValue : Option (ℕ → ℤ) → ℕ → ℤ → Type 0
IsValue None i v = ⊥
IsValue (Some u) i v = u i ≡ v

-- the store holds the cell, with this value
abbrev pub Has : Holding → DatCell → ℤ → Type 0
Has h x v = IsValue (h x.dat x.element) x.component v

value_of : (o : Option (ℕ → ℤ)) (i : ℕ) (v : ℤ) → IsValue o i v → value_in o i ≡ v
value_of None i v h = absurd h
value_of (Some u) i v h = h

-- so the cell has it
pub cell_is : (h : Holding) (x : DatCell) (v : ℤ) → Has h x v → cell_in h x ≡ v
cell_is h x v a = value_of (h x.dat x.element) x.component v a

pub has_same : (h : Holding) (x : DatCell) (v w : ℤ) → Has h x v → v ≡ w → Has h x w
has_same h x v w a e = subst (λ z. Has h x z) e a

pub has_like : (h l : Holding) (x : DatCell) (v : ℤ) → l ≡ h → Has h x v → Has l x v
has_like h l x v e a = subst (λ z. Has z x v) (sym e) a

replaced_is : (o : Option (ℕ → ℤ)) (u : ℕ → ℤ) (i : ℕ) (v w : ℤ) → IsValue o i v → u i ≡ w → IsValue (replaced u o) i w
replaced_is None u i v w h e = absurd h
replaced_is (Some z) u i v w h e = e

-- after a run the cells that were held are those of the run
pub left_has : (t : Store) (h : Holding) (x : DatCell) (v w : ℤ) → Has h x v → t (Data x) ≡ w → Has (left_in t h) x w
left_has t h x v w a e = replaced_is (h x.dat x.element) (pair_values t x.dat x.element) x.component v w a e

-- where the test says so, the pair has new values
pub some_is : (b : Bool) (u : ℕ → ℤ) (o : Option (ℕ → ℤ)) (i : ℕ) (w : ℤ) → b ≡ true → u i ≡ w → IsValue (cond b (Some u) o) i w
some_is b u o i w h e = subst (λ z. IsValue z i w) (sym (cond-true b (Some u) o h)) e

-- ---- values in range

abbrev pub GoodPair : Option (ℕ → ℤ) → Type 0
GoodPair None = Unit {0}
GoodPair (Some u) = (i : ℕ) → Good (u i)

abbrev pub GoodStore : Holding → Type 0
GoodStore h = (d y : ℕ) → GoodPair (h d y)

pub record Sane {F : Type 0} (st : ChainState F) : Type 0 where
  pub stores : (r : ℕ) → GoodStore (st.stores r)
  pub variables : (v : VarCell) → Good (st.variables v)
  pub parts : (r s : ℕ) (v : VarCell) → Good (st.partials r s v)

good_replaced : (u : ℕ → ℤ) (o : Option (ℕ → ℤ)) → ((i : ℕ) → Good (u i)) → GoodPair (replaced u o)
good_replaced u None g = tt
good_replaced u (Some v) g = g

pub good_left : (t : Store) (h : Holding) → InRange t → GoodStore (left_in t h)
good_left t h g d y = good_replaced (pair_values t d y) (h d y) (λ i. g (Data (record { dat = d; element = y; component = i })))

module _ {F : Type 0} (g : Given F) where
  good_value : (o : Option (ℕ → ℤ)) (i : ℕ) → GoodPair o → Good (value_in o i)
  good_value None i h = good_unit g.p g.q None
  good_value (Some u) i h = h i

  good_window : (o : Option Reduction) (v : ℤ) → Good v → Good (window_of o v)
  good_window None v h = h
  good_window (Some o) v h = good_unit g.p g.q (Some o)

  pub good_cond : (b : Bool) (x y : ℤ) → Good x → Good y → Good (cond b x y)
  good_cond b x y gx gy = cond_both b x y Good (λ t. gx) (λ t. gy)

  pub good_merged : (o : Option Reduction) (f : ℕ → ℤ) (n : ℕ) (x : ℤ) → ((r : ℕ) → Good (f r)) → Good x → Good (merged_over o f n x)
  good_merged o f zero x all h = h
  good_merged o f (suc n) x all h = good_merge g.p g.q o (merged_over o f n x) (f n) (good_merged o f n x all h) (all n)

  module _ (st : ChainState F) (h : Sane st) where
    pub good_view : (k r : ℕ) → InRange (view (chains g) k r st)
    good_view k r (Data x) = good_value (st.stores r x.dat x.element) x.component (h.stores r x.dat x.element)
    good_view k r (Variable v) = good_window (g.p.reduces (g.p.program.site k) v) (st.variables v) (h.variables v)

    pub good_gathered : InRange (gathered (chains g) st)
    good_gathered (Data x) =
        good_value (st.stores (pair_owner (chains g) x.dat x.element) x.dat x.element) x.component
        (h.stores (pair_owner (chains g) x.dat x.element) x.dat x.element)
    good_gathered (Variable v) = h.variables v
