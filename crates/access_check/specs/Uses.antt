-- Occurrences of arguments as events.
use Rattle.std.specs.Prelude.{ℕ, ℤ, Option}
use Rattle.c_tree.specs.declared.lexer.tokens.Pos.{Pos}
use Rattle.kernel_model.specs.Obeys.{Event, Reads, Assigns, Adds, Changes, Owns, Merges}
use Rattle.access_check.specs.declared.uses.Use.{Use}
use Rattle.access_check.specs.declared.uses.Use.TheVariants as used
use Rattle.access_check.specs.declared.uses.Occurrence.{Occurrence}

-- a use of that component
abbrev pub use_event : Use → ℕ → Option ℤ → Pos → Event
use_event used.Read a ix at = Reads a ix at
use_event used.Assign a ix at = Assigns a ix at
use_event used.Add a ix at = Adds a ix at
use_event used.Change a ix at = Changes a ix at
use_event (used.Own which) a ix at = Owns which a ix at
use_event (used.Merge which) a ix at = Merges which a ix at

-- an occurrence
abbrev pub event_of : Occurrence → Event
event_of o = use_event o.how o.arg o.index o.at
