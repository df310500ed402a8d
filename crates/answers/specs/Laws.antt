-- The laws of the answers: what any two to the same words have in common, and that there is one.
use Rattle.std.specs.Prelude.{◌≡◌, ℕ, ◌⊎◌, List, Ok}
use Rattle.c_tree.specs.declared.lexer.tokens.Token.{Token}
use Rattle.c_tree.specs.Lexed.{Lexes}
use Rattle.c_tree.specs.Tree.{ProgramTree}
use Rattle.c_tree.specs.Reads.{Prints}
use Rattle.op_outside.specs.Outside.{Files}
use Rattle.command_words.specs.Lines.{Answer}
use Rattle.command_words.specs.Words.{Command, OnPlan, OnChains, Translates, WordsAre}
use Rattle.answers.specs.Judgements.{TextIs, SourceIs}
use Rattle.answers.specs.Answers.{Answers}

-- ---- two answers

-- the bytes have tokens, and no tree prints them, however deep
pub record LacksTree (bytes : List ℕ) : Type 0 where
  pub tokens : List Token
  pub lexed : Lexes bytes (Ok tokens)
  pub none : (p : ProgramTree) → ¬ Prints tokens p

-- these are the bytes of the source whose tree a command asks for, if it asks for one
abbrev pub IsSourceOf : Command → Files → List ℕ → Type 0
IsSourceOf (OnPlan j o input) files bytes = SourceIs input files (Ok bytes)
IsSourceOf (OnChains j o input) files bytes = SourceIs input files (Ok bytes)
IsSourceOf (Translates source) files bytes = TextIs source files (Ok bytes)
IsSourceOf c files bytes = ⊥

-- the words ask for a job on a source that has tokens and no tree
pub record SourceLacksTree (words : List (List ℕ)) (files : Files) : Type 0 where
  pub command : Command
  pub bytes : List ℕ
  pub asks : WordsAre words (Ok command)
  pub held : IsSourceOf command files bytes
  pub lacks : LacksTree bytes

-- Both have the same status and the same bytes, and the same line unless the source has tokens and no tree.
pub record Agree (words : List (List ℕ)) (files : Files) (a b : Answer) : Type 0 where
  pub status : a.status ≡ b.status
  pub out : a.out ≡ b.out
  pub line : (a.line ≡ b.line) ⊎ SourceLacksTree words files

-- any two answers to the same words agree
abbrev pub AnswersAgree : Type 0
AnswersAgree =
    (words : List (List ℕ)) (files : Files) (a b : Answer)
    → Answers words files a
    → Answers words files b
    → Agree words files a b

-- ---- an answer

-- no words and files are without an answer
abbrev pub AnswersExist : Type 0
AnswersExist = (words : List (List ℕ)) (files : Files) → ¬ ((a : Answer) → ¬ Answers words files a)
