-- Files that are held as they were found.
use Rattle.std.specs.Prelude.{◌≡◌, ℕ, ◌<◌, ◌⊎◌, List, length, All, Option, IsSomeAnd}
use Rattle.std.specs.List.{Contains}
use Rattle.op_outside.specs.Outside.{Files, Holds, Lacks}
use Rattle.command_words.specs.Halts.{refusal_of}
use Rattle.command_words.specs.declared.answer_lines.refusals.Halt.{Halt}
use Rattle.command_words.specs.declared.answer_lines.refusals.Halt.TheVariants.{Refused, Failed}
use Rattle.command_words.specs.declared.answer_lines.refusals.Failure.TheVariants.{Unread, OutOfMemory}
use Rattle.command_words.specs.Refusal.{CannotRead}
use Rattle.tool_command.specs.declared.explain.held.TheConstants.{MOST_BYTES}

-- the bytes that are held of a file: all of them, or, where it has more than each limit of `op2`, some that are too many as well
abbrev pub IsAsFound : (held found : List ℕ) → Type 0
IsAsFound held found = (held ≡ found) ⊎ ((MOST_BYTES < length held) × (MOST_BYTES < length found))

-- under each of these names bytes are held, and where files are told, they are as they are found there
abbrev pub AreHeld : Option Files → (held : Files) → (names : List (List ℕ)) → Type 0
AreHeld told held names = All (λ name. IsSomeAnd (held name) (λ bytes. Holds told name (IsAsFound bytes))) names

-- One of these names can't be held: the files that are told lack it, or it could not be read; or memory ran out.
abbrev pub CannotHold : Option Files → (names : List (List ℕ)) → (rose : Type 0) → Halt → Type 0
CannotHold told names rose (Refused r) = (name : List ℕ) × (refusal_of r ≡ CannotRead name) × Contains names name × Lacks told name
CannotHold told names rose (Failed (Unread name)) = rose × Contains names name.now
CannotHold told names rose (Failed OutOfMemory) = Unit {0}
