-- What a name of `main` means where it stands (ISO C 6.2.1).
--
-- It is asked only of a source of which names and types refuse nothing: no name is declared twice in a function, and each name
-- of an expression is known.
use Rattle.std.specs.Prelude.{ℕ, suc, List, [], ◌∷◌, ◌++◌, length, take, Option, Some, None, is_some, if◌then◌else◌}
use Rattle.std.specs.Map.{lookup}
use Rattle.std.specs.Str.{bytes_eq}
use Rattle.main_declarations.specs.declared.names.scopes.Meaning.{Meaning}
use Rattle.main_declarations.specs.declared.names.scopes.Meaning.TheVariants.{FixedLater, Turning}
use Rattle.main_declarations.specs.declared.names.scopes.Scope.{Scope as ScopeCode}

-- names with what they stand for, in the order of the text
abbrev pub Names : Type 0
Names = List (List ℕ × Meaning)

-- The names that are known at a place: those of the file, and those of `main`; and how many of the latter have a value that is
-- told when `main` is unrolled.
pub record Scope : Type 0 where
  pub file : Names
  pub own : Names
  pub told : ℕ

-- no name is known
abbrev pub no_names : Scope
no_names = record { file = []; own = []; told = 0 }

-- what a name stands for among these
abbrev pub named_in : Names → List ℕ → Option Meaning
named_in names x = lookup (bytes_eq x) names

-- the meaning, or else the other
abbrev pub or_else : Option Meaning → Option Meaning → Option Meaning
or_else None other = other
or_else (Some m) other = Some m

-- a name of `main` hides one of the file
abbrev pub means : Scope → List ℕ → Option Meaning
means s x = or_else (named_in s.own x) (named_in s.file x)

-- the name is known; one that was keeps its meaning
abbrev pub known : List ℕ → Meaning → Names → Names
known x m names = if is_some (named_in names x) then names else names ++ (x, m) ∷ []

-- one more, where the value of a name is told when `main` is unrolled
abbrev pub counted_later : Meaning → ℕ → ℕ
counted_later (FixedLater k c) n = suc n
counted_later (Turning k) n = suc n
counted_later _ n = n

-- the name of `main` is known from here on
abbrev pub declare : List ℕ → Meaning → Scope → Scope
declare x m s = record { file = s.file; own = known x m s.own; told = counted_later m s.told }

-- the name of the file is known from here on
abbrev pub declare_in_file : List ℕ → Meaning → Scope → Scope
declare_in_file x m s = record { file = known x m s.file; own = s.own; told = s.told }

-- so many names of `main` stay, of which so many are told later
abbrev pub cut : ℕ → ℕ → Scope → Scope
cut n told s = record { file = s.file; own = take n s.own; told = told }

-- the names of a block end with it
abbrev pub closed : Scope → Scope → Scope
closed before after = cut (length before.own) before.told after

-- how many known names have a value that is told when `main` is unrolled
abbrev pub told_later : Scope → ℕ
told_later s = s.told

-- the scope that the program holds
abbrev pub scope_of : ScopeCode → Scope
scope_of s = record { file = s.file.entries; own = s.own.entries; told = s.told }
