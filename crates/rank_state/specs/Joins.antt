-- The joins of the machine's lists: a Reduce, a host statement, and a stop.
use Rattle.std.specs.Prelude.{◌≡◌, ◌<◌, ℕ, zero, suc, ℤ, pos, Bool, true, false, ◌||◌, ◌==◌, List, [], ◌∷◌, map, length, get_or, set, Some}
use Rattle.op_num.specs.Reduction.{Reduction, unit_of, merged}
use Rattle.schedule_model.specs.Setup.{Setup}
use Rattle.schedule_model.specs.Layout.{Layout}
use Rattle.schedule_model.specs.Scatter.{Once}
use Rattle.rank_state.specs.declared.scalars.Scalar.{Scalar}
use Rattle.rank_state.specs.declared.scalars.Scalar.TheVariants.{Value, Amount}
use Rattle.rank_state.specs.Windows.{operation, index, scalar_cells, has_slot}
use Rattle.rank_state.specs.Machine.{State}
use Rattle.rank_state.specs.Shows.{Tables, AreScalars}

-- v with the slot's partials of the first n ranks merged into it
abbrev pub merge_rows : Reduction → ℕ → List (List ℤ) → ℕ → ℤ → ℤ
merge_rows o slot rows zero v = v
merge_rows o slot rows (suc n) v = merged o (merge_rows o slot rows n v) (get_or (get_or rows n []) slot (pos 0))

-- one cell into which the loop reduces
abbrev pub reduce_one : List (List ℤ) → ℕ → Scalar → List ℤ → List ℤ
reduce_one rows n (Value at) variables = variables
reduce_one rows n (Amount at slot how) variables = set variables at (merge_rows (operation how) slot rows n (get_or variables at (pos 0)))

-- all cells into which the loop reduces
abbrev pub reduce_all : List (List ℤ) → ℕ → List Scalar → List ℤ → List ℤ
reduce_all rows n [] variables = variables
reduce_all rows n (x ∷ xs) variables = reduce_all rows n xs (reduce_one rows n x variables)

-- a partial at its unit again
abbrev pub unite_one : Scalar → List ℤ → List ℤ
unite_one (Value at) partials = partials
unite_one (Amount at slot how) partials = set partials slot (unit_of (operation how))

-- the loop's partials at their units again
abbrev pub unite : List Scalar → List ℤ → List ℤ
unite [] partials = partials
unite (x ∷ xs) partials = unite xs (unite_one x partials)

-- Reduce: the partials of all ranks go into the variables, and are units again
abbrev pub reduced : {F : Type 0} → List Scalar → State F → State F
reduced scalars st =
    record st {
      variables = reduce_all st.partials (length st.partials) scalars st.variables;
      partials = map (unite scalars) st.partials;
    }

-- a scalar has the index
abbrev pub has_index : ℕ → List Scalar → Bool
has_index i [] = false
has_index i (x ∷ xs) = (i == index x) || has_index i xs

module _ {F : Type 0} (p : Setup F) (l : Layout F) (t : Tables) where
  -- the scalars are the cells into which the loop reduces, each once, beside others that it reads
  pub record AreReduced (k : ℕ) (scalars : List Scalar) : Type 0 where
    pub are_scalars : AreScalars p l t k scalars
    pub once : Once (scalar_cells l.variable_at scalars)
    pub slots : (i : ℕ) → i < t.slots → t.site_at i ≡ p.program.site k → has_slot i scalars ≡ true
    pub cells : (i : ℕ) (o : Reduction) → i < l.variables → p.reduces (p.program.site k) (l.variable_at i) ≡ Some o
        → has_index i scalars ≡ true
