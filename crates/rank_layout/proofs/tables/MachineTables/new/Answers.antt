use Rattle.std.proofs.Common.{◌≡◌, ◌<◌, ◌∙◌, ℕ, List, length, map, get_or, sym, ap, subst, arith}
use Rattle.std.proofs.lemmas.List.{get_or-map}
use Rattle.op_num.specs.Reduction.{Reduction, Add}
use Rattle.bound_program.specs.Values.{VarValue, bound_of, var_of}
use Rattle.run_model.specs.Variables.{VarsBegin, of_vars}
use Rattle.run_model.specs.Memory.{memory_length}
use Rattle.rank_state.specs.declared.scalars.Operation.{Operation}
use Rattle.rank_state.specs.declared.scalars.Operation.TheVariants.{Sum}
use Rattle.rank_state.specs.Windows.{operation, index}
use Rattle.rank_layout.specs.Tables.{Slot, no_slot, slots}
use Rattle.rank_layout.specs.Scalars.{AreOperations}
use Rattle.rank_layout.specs.Made.{row_of}
use Rattle.rank_layout.proofs.VariableNumbers.{all_cells}
use Rattle.rank_layout.proofs.ArgVariables.{operations_length}
use Rattle.rank_layout.proofs.tables.MachineTables.new.Goals as goal

operation_at : (xs : List Slot) (hs : List Operation) → AreOperations xs hs → (i : ℕ) → i < length xs → (get_or xs i no_slot).how ≡ operation (get_or hs i Sum)
operation_at xs hs are i lt =
    sym (get_or-map (λ (x : Slot). x.how) xs i no_slot Add lt) ∙ ap (λ (z : List Reduction). get_or z i Add) (sym are)
    ∙ get_or-map operation hs i Sum Add (omega (arith, lt, operations_length xs hs are))

pub variable_starts-requires : goal.variable_starts-requires
variable_starts-requires c =
    let all = all_cells c.variables_hold.ensures.hold (bound_of c.args.bound.now) in
    let read = ap (λ (z : List VarValue). memory_length (of_vars z)) (ap (map var_of) c.deref.ensures.value) in
    omega (arith, all, read, c.requires.few)

pub returns : goal.returns
returns c = λ lists room. record {
  constants = c.in_ok-constants.ensures;
  starts = subst (λ z. VarsBegin z c.in_ok-starts.starts.items) (ap (map var_of) c.deref.ensures.value) c.in_ok-starts.ensures;
  slot_count = operations_length (slots (bound_of c.args.bound.now)) c.loop_scalars.new.slots.items c.in_ok-scalars.ensures.slots;
  operations = operation_at (slots (bound_of c.args.bound.now)) c.loop_scalars.new.slots.items c.in_ok-scalars.ensures.slots;
  scalar_count = c.in_ok-scalars.ensures.count;
  scalars = c.in_ok-scalars.ensures.scalars;
  index_count = c.in_ok-indices.ensures.count ∙ ap length c.deref-3.ensures.value ∙ c.in_ok-scalars.ensures.count;
  indices = λ s lt.
      let ls : s < length c.deref-3.result.now = omega (arith, lt, ap length c.deref-3.ensures.value, c.in_ok-scalars.ensures.count) in
      c.in_ok-indices.ensures.indices s ls ∙ ap (λ z. map index (row_of z s)) c.deref-3.ensures.value;
  write_count = c.in_ok-writes.ensures.count;
  writes = c.in_ok-writes.ensures.writes;
  fault_count = c.in_ok-faults_first.ensures.count;
  faults_first = c.in_ok-faults_first.ensures.first;
  place_count = c.in_ok-places.ensures.count;
  places = c.in_ok-places.ensures.places;
  stride = c.stride.ensures.widest;
  narrow = c.stride.ensures.few;
  elements = room.elements;
  messages = room.messages;
}
