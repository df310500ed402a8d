-- The refusal of a source without a tree.
use Rattle.std.proofs.Common.{◌≡◌, ℕ, List, Ok, Err}
use Rattle.c_tree.specs.declared.lexer.tokens.Token.{Token}
use Rattle.c_tree.specs.declared.lexer.refusals.LexRefusal.{LexRefusal}
use Rattle.c_tree.specs.declared.lexer.refusals.LexRefusal.TheVariants as lex
use Rattle.c_tree.specs.Answered.{Answers}
use Rattle.c_tree.specs.Lexed.{Lexes, Outcome}
use Rattle.c_tree.specs.Tree.{ProgramTree}
use Rattle.c_tree.specs.Reads.{Reads, Deep}
use Rattle.c_tree.specs.declared.refusals.SourceRefusal.{SourceRefusal}
use Rattle.c_tree.specs.declared.refusals.SourceRefusal.TheVariants as source
use Rattle.c_reader.specs.Answered.{IsTree, IsRefusal}
use Rattle.c_tree.specs.Refused.{place_at, CanRefuse}
use Rattle.answers.specs.Judgements.{IsUnread, TreeIs}
use Rattle.answers.specs.Said.{SaysLex, SaysSource}
use Rattle.command_words.specs.declared.answer_lines.refusals.Halt.{Halt}
use Rattle.command_words.specs.Halts.{StopsWhere}
use Rattle.command_words.proofs.Public.{stops_weaker}

-- what the reader's refusal says is a refusal of the source
said : (bytes : List ℕ) (e : SourceRefusal) (h : Halt) → IsUnread bytes e → StopsWhere (SaysSource e) h → StopsWhere (λ r. TreeIs bytes (Err r)) h
said bytes e h is s =
    stops_weaker (SaysSource e) (λ r. TreeIs bytes (Err r)) h (λ r x. (e, is, x)) s

pub tree_refused : (bytes : List ℕ) (e : SourceRefusal) (h : Halt)
    → ((p : ProgramTree) → Reads bytes p → IsTree p (Err e))
    → ((p : ProgramTree) (n : ℕ) → Deep bytes p n → IsRefusal (source.TooDeep (place_at p.places bytes n)) (Err e))
    → CanRefuse bytes e
    → StopsWhere (SaysSource e) h
    → StopsWhere (λ r. TreeIs bytes (Err r)) h
tree_refused bytes (source.Lex l) h only deep cause s = said bytes (source.Lex l) h (record { none = only; deep = deep; cause = cause }) s
tree_refused bytes (source.Syntax at) h only deep cause s = said bytes (source.Syntax at) h (record { none = only; deep = deep; cause = cause }) s
tree_refused bytes (source.TooDeep at) h only deep cause s = said bytes (source.TooDeep at) h (record { none = only; deep = deep; cause = cause }) s
tree_refused bytes source.OutOfMemory h only deep cause s =
    stops_weaker (SaysSource source.OutOfMemory) (λ r. TreeIs bytes (Err r)) h (λ r x. absurd x) s

-- bytes without tokens have no tree
no_tokens : (l : LexRefusal) (ts : List Token) → ◌≡◌ {A = Outcome} (Err l) (Ok ts) → ⊥
no_tokens l ts h = cc

-- what the lexer's refusal says of each outcome
abbrev OnlyRefusal : List ℕ → LexRefusal → Type 0
OnlyRefusal bytes l = (o : Outcome) → Lexes bytes o → Answers (λ x. x ≡ o) (Err l)

unlexed : (bytes : List ℕ) (l : LexRefusal) (h : Halt)
    → ((ts : List Token) → Lexes bytes (Ok ts) → ⊥)
    → Lexes bytes (Err l)
    → StopsWhere (SaysLex l) h
    → StopsWhere (λ r. TreeIs bytes (Err r)) h
unlexed bytes l h never found s =
    said bytes (source.Lex l) h (record { none = λ p r. never r.tokens r.lexed; deep = λ p n r. absurd (never r.tokens r.lexed); cause = found }) s

pub lex_refused : (bytes : List ℕ) (l : LexRefusal) (h : Halt)
    → OnlyRefusal bytes l
    → Answers (Lexes bytes) (Err l)
    → StopsWhere (SaysLex l) h
    → StopsWhere (λ r. TreeIs bytes (Err r)) h
lex_refused bytes (lex.BadByte at) h only found s =
    unlexed bytes (lex.BadByte at) h (λ ts t. no_tokens (lex.BadByte at) ts (only (Ok ts) t)) found s
lex_refused bytes (lex.OpenComment at) h only found s =
    unlexed bytes (lex.OpenComment at) h (λ ts t. no_tokens (lex.OpenComment at) ts (only (Ok ts) t)) found s
lex_refused bytes (lex.OpenText at) h only found s =
    unlexed bytes (lex.OpenText at) h (λ ts t. no_tokens (lex.OpenText at) ts (only (Ok ts) t)) found s
lex_refused bytes (lex.NumberTooLarge at) h only found s =
    unlexed bytes (lex.NumberTooLarge at) h (λ ts t. no_tokens (lex.NumberTooLarge at) ts (only (Ok ts) t)) found s
lex_refused bytes lex.OutOfMemory h only found s =
    stops_weaker (SaysLex lex.OutOfMemory) (λ r. TreeIs bytes (Err r)) h (λ r x. absurd x) s
