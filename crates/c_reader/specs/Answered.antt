-- What the reader of a source answered.
use Rattle.std.specs.Prelude.{◌≡◌, ℕ, List, Option, Some, None, Result, Ok, Err, slice_get}
use Rattle.c_tree.specs.declared.lexer.tokens.Pos.{Pos}
use Rattle.c_tree.specs.declared.lexer.refusals.LexRefusal.{LexRefusal}
use Rattle.c_tree.specs.declared.lexer.refusals.LexRefusal.TheVariants as lex_refusal
use Rattle.c_tree.specs.Lexed.{advance, start}
use Rattle.c_tree.specs.declared.programs.Program.{Program}
use Rattle.c_tree.specs.Tree.{ProgramTree}
use Rattle.c_tree.specs.View.{program_of}
use Rattle.c_tree.specs.Refused.{place_at}
use Rattle.c_reader.specs.declared.faults.Fault.{Fault}
use Rattle.c_reader.specs.declared.faults.Fault.TheVariants as fault
use Rattle.c_tree.specs.declared.refusals.SourceRefusal.{SourceRefusal}
use Rattle.c_tree.specs.declared.refusals.SourceRefusal.TheVariants as refusal

-- a token here is nested too deeply; where there is none, the source ends before its tree does
abbrev pub deep_at : Option Pos → Pos → SourceRefusal
deep_at (Some p) q = refusal.TooDeep p
deep_at None q = refusal.Syntax q

-- the refusal of a fault, at its place
abbrev pub refusal_of : List Pos → List ℕ → Fault → SourceRefusal
refusal_of ps bytes (fault.Syntax n) = refusal.Syntax (place_at ps bytes n)
refusal_of ps bytes (fault.TooDeep n) = deep_at (slice_get ps n) (advance start bytes)

-- the refusal of bytes that the lexer refuses
abbrev pub not_lexed : LexRefusal → SourceRefusal
not_lexed lex_refusal.OutOfMemory = refusal.OutOfMemory
not_lexed r = refusal.Lex r

-- the tree, unless memory ran out
abbrev pub IsTree : ProgramTree → Result Program SourceRefusal → Type 0
IsTree p (Ok x) = program_of x ≡ p
IsTree p (Err refusal.OutOfMemory) = Unit {0}
IsTree p (Err r) = ⊥

-- this refusal, unless memory ran out
abbrev pub IsRefusal : SourceRefusal → Result Program SourceRefusal → Type 0
IsRefusal r (Ok x) = ⊥
IsRefusal r (Err refusal.OutOfMemory) = Unit {0}
IsRefusal r (Err e) = e ≡ r
