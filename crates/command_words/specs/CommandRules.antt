-- The command as `clap` has it: a list of rules, folded over a command with a name and a version.
use Rattle.std.specs.Prelude.{ℕ, Bool, true, false, List, [], ◌∷◌, ◌++◌, map, Some, codes}
use Rattle.clap.specs.Walk.{Rule}
use Rattle.clap.specs.Simple.{App, new_rule, new_app, with_rule, on_top}
use Rattle.clap.specs.declared.builder.action.ArgAction.TheVariants.{SetTrue}

-- a word without a `-`, required or not
abbrev pub positional : Bool → List ℕ → Rule
positional required id = record (new_rule id) { required = required }

-- an option with one value, `--ID VALUE` or `--ID=VALUE`
abbrev pub option : List ℕ → Rule
option id = record (new_rule id) { long = Some id }

-- an option with no value, `--ID`
abbrev pub flag : List ℕ → Rule
flag id = record (option id) { action = Some SetTrue }

-- the command has a version
abbrev pub versioned : App → App
versioned a = on_top (λ s. record s { has_version = true }) a

-- the command with further rules, one behind the other
abbrev pub with_rules : App → List Rule → App
with_rules a [] = a
with_rules a (r ∷ rs) = with_rules (with_rule a r) rs

-- the options with one value
abbrev pub options : List (List ℕ)
options =
    codes "form" ∷ codes "ranks" ∷ codes "parts" ∷ codes "partition" ∷ codes "renumber" ∷ codes "block" ∷ codes "plan" ∷ codes "at"
    ∷ codes "from" ∷ codes "schedule" ∷ codes "seed" ∷ codes "workers" ∷ []

-- the options with none
abbrev pub flags : List (List ℕ)
flags = codes "chain" ∷ codes "dump" ∷ []

-- the words of a command, and then its options
abbrev pub rules : List Rule
rules =
    (positional true (codes "JOB") ∷ positional true (codes "INPUT") ∷ positional false (codes "MESH") ∷ []) ++ map option options
    ++ map flag flags

-- `op2 JOB INPUT [MESH]` with these options, `--help` and `--version`
abbrev pub command : App
command = with_rules (versioned (new_app (codes "op2"))) rules
