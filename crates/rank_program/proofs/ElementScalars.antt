-- The scalars of an element's windows are cells of the variables, and their amounts have slots.
use Rattle.std.proofs.Common.{◌<◌, ℕ, List, [], ◌∷◌}
use Rattle.schedule_model.specs.Setup.{Setup}
use Rattle.schedule_model.specs.Layout.{Layout}
use Rattle.rank_state.specs.declared.scalars.Scalar.{Scalar}
use Rattle.rank_state.specs.declared.scalars.Scalar.TheVariants.{Value, Amount}
use Rattle.rank_state.specs.Windows.{index, Reads, InSlots, Merges}
use Rattle.rank_state.specs.Shows.{Tables, IsScalar, AreScalars}

module _ {F : Type 0} (p : Setup F) (l : Layout F) (t : Tables) (k : ℕ) where
  is_read : (x : Scalar) → IsScalar p l t k x → index x < l.variables
  is_read (Value at) h = h.0
  is_read (Amount at slot how) h = h.0

  pub are_read : (xs : List Scalar) → AreScalars p l t k xs → Reads l.variables xs
  are_read [] h = tt
  are_read (x ∷ xs) h = (is_read x h.0, are_read xs h.1)

  has_slot : (x : Scalar) → IsScalar p l t k x → InSlots t.slots x
  has_slot (Value at) h = tt
  has_slot (Amount at slot how) h = h.2

  pub have_slots : (xs : List Scalar) → AreScalars p l t k xs → Merges t.slots xs
  have_slots [] h = tt
  have_slots (x ∷ xs) h = (has_slot x h.0, have_slots xs h.1)
