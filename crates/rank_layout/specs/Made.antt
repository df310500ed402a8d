-- The tables of a machine are those of its program.
use Rattle.std.specs.Prelude.{◌≡◌, ◌<◌, ◌≤◌, ℕ, Bool, true, false, List, [], ◌∷◌, Vec, map, length, sum_by, get_or, slice_index_or, Some, None}
use Rattle.std.specs.declared.alloc.Global.{Global}
use Rattle.kernel_model.specs.declared.types.kernels.RKernel.{RKernel}
use Rattle.kernel_model.specs.Effects.{faults_first}
use Rattle.mesh_decl.specs.declared.owners.Owners.{Owners}
use Rattle.mesh_decl.specs.Mesh.{dat_set}
use Rattle.local_mesh.specs.declared.lists.LocalLists.{LocalLists}
use Rattle.op_num.specs.Reduction.{Reduction}
use Rattle.schedule_model.specs.Scatter.{Once}
use Rattle.bound_program.specs.declared.sites.Arg.{Arg}
use Rattle.bound_program.specs.declared.sites.Arg.TheVariants.{Dat, Global as Variable}
use Rattle.bound_program.specs.Values.{BoundValue, SiteValue}
use Rattle.bound_program.specs.Fits.{site_at}
use Rattle.bound_program.specs.Classes.{modifies}
use Rattle.run_model.specs.Variables.{VarsBegin}
use Rattle.run_model.specs.Hosts.{variable_cells}
use Rattle.run_model.specs.Windows.{window_cells}
use Rattle.run_model.specs.Arguments.{arg_width}
use Rattle.run_model.specs.Kernels.{kernel_at}
use Rattle.loop_plan.specs.Values.{PlanValue, item_plan}
use Rattle.rank_state.specs.declared.scalars.Scalar.{Scalar}
use Rattle.rank_state.specs.declared.scalars.Scalar.TheVariants.{Value, Amount}
use Rattle.rank_state.specs.declared.scalars.Operation.TheVariants.{Sum}
use Rattle.rank_state.specs.Windows.{operation, index, scalar_cells, has_slot}
use Rattle.rank_state.specs.Joins.{has_index}
use Rattle.bound_plan.specs.Variables.{variable_at, reduces_at}
use Rattle.bound_plan.specs.Windows.{on_variables}
use Rattle.rank_layout.specs.Tables.{tables_of, slots, no_slot}
use Rattle.rank_layout.specs.Exports.{exported_locals}
use Rattle.rank_layout.specs.declared.tables.MachineTables.{MachineTables}

-- the list at place s of a list of lists
unfoldable pub row_of : {A : Type 0} → List (Vec A Global) → ℕ → List A
row_of {A = A} lists s = slice_index_or (map (λ (v : Vec A Global). v.items) lists) s []

module _ (b : BoundValue) (s : ℕ) where
  -- the scalar is a cell that loop s reads, or one into which it reduces, with its slot
  abbrev pub IsSiteScalar : Scalar → Type 0
  IsSiteScalar (Value at) = (at < length (variable_cells b)) × (reduces_at b s (variable_at b at) ≡ None)
  IsSiteScalar (Amount at slot how) = (at < length (variable_cells b)) × (reduces_at b s (variable_at b at) ≡ Some (operation how))
      × (slot < length (slots b)) × ((get_or (slots b) slot no_slot).site ≡ s) × ((get_or (slots b) slot no_slot).cell ≡ variable_at b at)

  abbrev pub EachIsScalar : List Scalar → Type 0
  EachIsScalar [] = Unit {0}
  EachIsScalar (x ∷ xs) = IsSiteScalar x × EachIsScalar xs

  -- the cells of loop s's arguments on variables, each once, with the slots of those into which it reduces
  pub record AreSiteScalars (scalars : List Scalar) : Type 0 where
    pub each : EachIsScalar scalars
    pub cells : (e : ℕ) → window_cells b (on_variables (site_at b s).args) e ≡ scalar_cells (variable_at b) scalars
    pub once : Once (scalar_cells (variable_at b) scalars)
    pub covers : (i : ℕ) → i < length (slots b) → (get_or (slots b) i no_slot).site ≡ s → has_slot i scalars ≡ true
    pub reduced : (i : ℕ) (o : Reduction) → i < length (variable_cells b) → reduces_at b s (variable_at b i) ≡ Some o
        → has_index i scalars ≡ true

-- whether the loop with these arguments modifies the argument's dat; so each variable's window, which is an element's own, counts
abbrev pub writes_by : List Arg → Arg → Bool
writes_by args (Dat d v a) = modifies args d
writes_by args (Variable v a) = true

-- whether the faults of the loop's kernel come before its stores, over the windows of its arguments
abbrev pub FaultsFirst : BoundValue → SiteValue → Bool → Type 0
FaultsFirst b site first =
    (k : RKernel) → kernel_at b.kernels site.kernel ≡ Some k → first ≡ faults_first (map (arg_width b) site.args) k

-- item, sender, receiver: how many spans the message has, one for each element of each dat
abbrev pub message_spans : BoundValue → PlanValue → List LocalLists → ℕ → ℕ → ℕ → ℕ
message_spans b p lists k s r = sum_by (λ d. length (exported_locals lists (dat_set b.mesh d) s r)) (item_plan p k).exchange

-- so many spans are enough for an element's frame and for each message of program b by plan p between these ranks
pub record HaveRoom (b : BoundValue) (ranks : ℕ) (p : PlanValue) (lists : List LocalLists) (spans : ℕ) : Type 0 where
  pub elements : (s : ℕ) → s < length b.sites → length (site_at b s).args ≤ spans
  pub messages : (k s r : ℕ) → k < length b.trace → s < ranks → r < ranks → message_spans b p lists k s r ≤ spans

-- the tables of program b on the ranks of o by plan p; `lists` are the local numbers of what ranks export
pub record AreMade (b : BoundValue) (o : Owners) (p : PlanValue) (lists : List LocalLists) (t : MachineTables) : Type 0 where
  pub constants : t.constants.items ≡ (tables_of b p).constants
  pub starts : VarsBegin b.vars t.starts.items
  pub slot_count : length t.slots.items ≡ length (slots b)
  pub operations : (i : ℕ) → i < length (slots b) → (get_or (slots b) i no_slot).how ≡ operation (get_or t.slots.items i Sum)
  pub scalar_count : length t.scalars.items ≡ length b.sites
  pub scalars : (s : ℕ) → s < length b.sites → AreSiteScalars b s (row_of t.scalars.items s)
  pub index_count : length t.indices.items ≡ length b.sites
  pub indices : (s : ℕ) → s < length b.sites → row_of t.indices.items s ≡ map index (row_of t.scalars.items s)
  pub write_count : length t.writes.items ≡ length b.sites
  pub writes : (s : ℕ) → s < length b.sites → row_of t.writes.items s ≡ map (writes_by (site_at b s).args) (site_at b s).args
  pub fault_count : length t.faults_first.items ≡ length b.sites
  pub faults_first : (s : ℕ) → s < length b.sites → FaultsFirst b (site_at b s) (get_or t.faults_first.items s false)
  pub place_count : length t.places.items ≡ o.ranks
  pub places : (r : ℕ) → r < o.ranks → get_or t.places.items r 0 ≡ (tables_of b p).places r
  pub stride : t.stride ≡ (tables_of b p).stride
  pub narrow : t.stride ≤ 1024
  pub elements : (s : ℕ) → s < length b.sites → length (site_at b s).args ≤ t.spans
  pub messages : (k s r : ℕ) → k < length b.trace → s < o.ranks → r < o.ranks → message_spans b p lists k s r ≤ t.spans
