-- What the reader's functions answer, beside what the tokens say.
use Rattle.std.specs.Prelude.{◌≡◌, ◌+◌, ◌≤◌, false, List, [], ◌∷◌, ◌++◌, Option, Some, None, Result}
use Rattle.op_num.specs.Cut.{Uncut}
use Rattle.op_num.specs.Automaton
use Rattle.mesh_decl.specs.declared.text.entry.Form.{Form}
use Rattle.mesh_decl.specs.declared.text.entry.MeshRefusal.{MeshRefusal}
use Rattle.mesh_decl.specs.declared.text.entry.MeshRefusal.TheVariants.{OutOfMemory}
use Rattle.mesh_decl.specs.declared.text.entry.TheConstants.{MESH_VALUES}
use Rattle.mesh_decl.specs.Spelling.{Named, total, size_of, has_name}
use Rattle.mesh_decl.specs.Reading.{State, Between, End, step, finish}

-- Reading on from here, with this awaited, is reading on from there; or it is refused. Want of memory is free.
abbrev pub Leads : State → Uncut → {X : Type 0} → Result X MeshRefusal → (X → State) → Uncut → Type 0
Leads p old r q new = Automaton.Leads step finish OutOfMemory p old r q new

-- what is awaited behind an entry, or behind `done`
abbrev pub next_state : Form → List Named → Option Named → State
next_state f es None = End es
next_state f es (Some e) = Between f (es ++ e ∷ [])

-- the entry has a new name, and its values are within the limit
abbrev pub Fitting : List Named → Option Named → Type 0
Fitting es None = Unit {0}
Fitting es (Some e) = (has_name e.0 es ≡ false) × (total es + size_of e ≤ MESH_VALUES)
