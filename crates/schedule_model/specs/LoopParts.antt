-- What kernels, items, arguments, halos and colours of a plan have to say, each as its own definition says it.
use Rattle.std.specs.Prelude.{◌≡◌, ◌<◌, ◌⊎◌, ℕ, true, false, Some, None}
use Rattle.op_num.specs.Reduction.{Reduction}
use Rattle.schedule_steps.specs.Outline.{by_colour}
use Rattle.schedule_model.specs.Cells.{Data, Variable, DatCell, VarCell}
use Rattle.schedule_model.specs.Effects.{is_modified}
use Rattle.schedule_model.specs.Program.{Free, elements}
use Rattle.schedule_model.specs.Setup.{Setup, executes, outline}
use Rattle.op_num.specs.Access.{Access, OpRead, OpReduce}
use Rattle.schedule_model.specs.Arguments.{Argument, Direct, Indirect, Global, access_of, modifying, reading, is_direct, is_on, Entries, target, touch_by}

-- arguments, halos, messages and colours of the Free items
pub record LoopParts {F : Type 0} (p : Setup F) : Type 0 where
  -- arguments, maps and dims
  pub args : ℕ → ℕ  -- site: how many
  pub arg : ℕ → ℕ → Argument  -- site, number
  pub maps : ℕ
  pub from_set : ℕ → ℕ  -- map
  pub to_set : ℕ → ℕ
  pub arity : ℕ → ℕ  -- map: its entries per element
  pub entry : Entries
  pub dim : ℕ → ℕ  -- dat
  pub width : ℕ → ℕ  -- variable: its components
  -- direct arguments are on the loop's set, and maps of indirect ones go from it to the dat's set
  pub direct_set : (k a d : ℕ) (x : Access)
      → p.program.kind k ≡ Free
      → a < args (p.program.site k)
      → arg (p.program.site k) a ≡ Direct d x
      → p.program.set_of d ≡ p.program.set k
  pub indirect_set : (k a d m i : ℕ) (x : Access)
      → p.program.kind k ≡ Free
      → a < args (p.program.site k)
      → arg (p.program.site k) a ≡ Indirect d m i x
      → (m < maps) × (from_set m ≡ p.program.set k) × (to_set m ≡ p.program.set_of d) × (i < arity m)
  pub in_range : (m e i : ℕ) → m < maps → e < p.program.size (from_set m) → i < arity m → entry m e i < p.program.size (to_set m)
  -- a variable that an argument reduces into has no other argument, and is reduced into where its argument is a reduction
  pub named_once : (k a b v : ℕ) (x : Access) (o : Reduction)
      → p.program.kind k ≡ Free
      → a < args (p.program.site k)
      → b < args (p.program.site k)
      → arg (p.program.site k) a ≡ Global v x
      → arg (p.program.site k) b ≡ Global v (OpReduce o)
      → a ≡ b
  pub reduces_only : (k : ℕ) (v : VarCell) (o : Reduction)
      → p.program.kind k ≡ Free
      → p.reduces (p.program.site k) v ≡ Some o
      → (a : ℕ)
      × (a < args (p.program.site k))
      × (arg (p.program.site k) a ≡ Global v.variable (OpReduce o))
      × (v.component < width v.variable)
  -- the touch of a cell is that of the arguments that reach it; a constant is read at most
  pub touch_is : (k e : ℕ) (c : DatCell)
      → p.program.kind k ≡ Free
      → e < elements p.program k
      → p.touch k e (Data c) ≡ touch_by entry dim width (arg (p.program.site k)) (args (p.program.site k)) e (Data c)
  pub variable_touch : (k e : ℕ) (v : VarCell) (o : Reduction)
      → p.program.kind k ≡ Free
      → e < elements p.program k
      → p.reduces (p.program.site k) v ≡ Some o
      → p.touch k e (Variable v) ≡ touch_by entry dim width (arg (p.program.site k)) (args (p.program.site k)) e (Variable v)
  pub constant_touch : (k e : ℕ) (v : VarCell)
      → p.program.kind k ≡ Free
      → e < elements p.program k
      → p.reduces (p.program.site k) v ≡ None
      → is_modified (p.touch k e (Variable v)) ≡ false
  -- a Free loop: each dat that it modifies has arguments of one reduction only, or direct ones only
  pub free_is : (k b d : ℕ)
      → p.program.kind k ≡ Free
      → b < args (p.program.site k)
      → is_on d (arg (p.program.site k) b) ≡ true
      → modifying (access_of (arg (p.program.site k) b)) ≡ true
      → ((o : Reduction)
      × ((a : ℕ)
      → a < args (p.program.site k)
      → is_on d (arg (p.program.site k) a) ≡ true
      → access_of (arg (p.program.site k) a) ≡ OpReduce o))
      ⊎ ((a : ℕ) → a < args (p.program.site k) → is_on d (arg (p.program.site k) a) ≡ true → is_direct (arg (p.program.site k) a) ≡ true)
  pub modifies_is : (k a d : ℕ)
      → p.program.kind k ≡ Free
      → a < args (p.program.site k)
      → is_on d (arg (p.program.site k) a) ≡ true
      → modifying (access_of (arg (p.program.site k) a)) ≡ true
      → p.modifies k d ≡ true
  pub modifies_only : (k d : ℕ) → p.program.kind k ≡ Free → p.modifies k d ≡ true
      → (a : ℕ)
      × (a < args (p.program.site k))
      × (is_on d (arg (p.program.site k) a) ≡ true)
      × (modifying (access_of (arg (p.program.site k) a)) ≡ true)
  pub scatters_is : (k a d m i : ℕ) (o : Reduction)
      → p.program.kind k ≡ Free
      → a < args (p.program.site k)
      → arg (p.program.site k) a ≡ Indirect d m i (OpReduce o)
      → p.scatters k ≡ true
  -- a Free item needs a dat that it reads through a map, or directly while its loop scatters
  pub needs_indirect : (k a d m i : ℕ)
      → p.program.kind k ≡ Free
      → a < args (p.program.site k)
      → arg (p.program.site k) a ≡ Indirect d m i OpRead
      → p.needs k d ≡ true
  pub needs_direct : (k a d : ℕ) (x : Access)
      → p.program.kind k ≡ Free
      → a < args (p.program.site k)
      → arg (p.program.site k) a ≡ Direct d x
      → reading x ≡ true
      → p.scatters k ≡ true
      → p.needs k d ≡ true
  -- halos: an import execute element has a target that the rank owns; an import non-execute one is a target of what the rank owns or
  -- imports to execute
  pub execute_if : (r s e m i : ℕ)
      → r < p.ranks
      → e < p.program.size s
      → (p.owner s e ≡ r → ⊥)
      → m < maps
      → from_set m ≡ s
      → i < arity m
      → p.owner (to_set m) (entry m e i) ≡ r
      → p.import_execute r s e ≡ true
  pub execute_other : (r s e : ℕ) → r < p.ranks → e < p.program.size s → p.import_execute r s e ≡ true → p.owner s e ≡ r → ⊥
  pub nonexecute_if : (r m e i : ℕ)
      → r < p.ranks
      → m < maps
      → i < arity m
      → e < p.program.size (from_set m)
      → (p.owner (from_set m) e ≡ r) ⊎ (p.import_execute r (from_set m) e ≡ true)
      → (p.owner (to_set m) (entry m e i) ≡ r → ⊥)
      → p.import_execute r (to_set m) (entry m e i) ≡ false
      → p.import_nonexecute r (to_set m) (entry m e i) ≡ true
  pub nonexecute_other : (r s e : ℕ) → r < p.ranks → e < p.program.size s → p.import_nonexecute r s e ≡ true → p.owner s e ≡ r → ⊥
  -- core: owned, with all targets owned
  pub core_own : (r s e : ℕ) → r < p.ranks → e < p.program.size s → p.core r s e ≡ true → p.owner s e ≡ r
  pub core_targets : (r s e m i : ℕ)
      → r < p.ranks
      → e < p.program.size s
      → p.core r s e ≡ true
      → m < maps
      → from_set m ≡ s
      → i < arity m
      → p.owner (to_set m) (entry m e i) ≡ r
  -- a message goes where an element of an exchanged dat's set is imported
  pub sent : (k r d e : ℕ)
      → p.program.kind k ≡ Free
      → r < p.ranks
      → p.exchanged k d ≡ true
      → e < p.program.size (p.program.set_of d)
      → (p.import_execute r (p.program.set_of d) e ≡ true) ⊎ (p.import_nonexecute r (p.program.set_of d) e ≡ true)
      → p.sends k (p.owner (p.program.set_of d) e) r ≡ true
  -- colours: two elements of a rank that reduce into a common element of one dat
  pub coloured : (k r x y a b d : ℕ)
      → p.program.kind k ≡ Free
      → r < p.ranks
      → x < elements p.program k
      → y < elements p.program k
      → executes p k r x ≡ true
      → executes p k r y ≡ true
      → (x ≡ y → ⊥)
      → a < args (p.program.site k)
      → b < args (p.program.site k)
      → is_on d (arg (p.program.site k) a) ≡ true
      → is_on d (arg (p.program.site k) b) ≡ true
      → (o n : Reduction)
      → access_of (arg (p.program.site k) a) ≡ OpReduce o
      → access_of (arg (p.program.site k) b) ≡ OpReduce n
      → target entry x (arg (p.program.site k) a) ≡ target entry y (arg (p.program.site k) b)
      → (by_colour (outline p) k r x y ≡ true) ⊎ (by_colour (outline p) k r y x ≡ true)
