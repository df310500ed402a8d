-- What the functions answer.
use Rattle.std.specs.Prelude.{ℕ, List, ◌++◌, Vec, Option, Some, None, Result, Ok, Err, codes}
use Rattle.std.specs.Global.{Global}
use Rattle.c_tree.specs.declared.lexer.tokens.Token.{Token}
use Rattle.c_tree.specs.declared.lexer.refusals.LexRefusal.{LexRefusal}
use Rattle.c_tree.specs.declared.lexer.refusals.LexRefusal.TheVariants as lex_refusal
use Rattle.op_translate.specs.declared.edits.Form.{Form}
use Rattle.op_translate.specs.declared.edits.Form.TheVariants.{Stub, Call}
use Rattle.op_translate.specs.declared.edits.Stretch.{Stretch}
use Rattle.op_translate.specs.declared.table.Found.{Found}
use Rattle.op_translate.specs.declared.refusals.TransRefusal.{TransRefusal}
use Rattle.op_translate.specs.declared.refusals.TransRefusal.TheVariants.{Lex, OutOfMemory}
use Rattle.op_translate.specs.Edits.{Edit}
use Rattle.op_translate.specs.Stubs.{Loop}
use Rattle.op_translate.specs.Translation.{Outcome, prefix, to_stub, to_call}

-- the answer holds, with the bytes or the refusal, unless memory ran out
abbrev pub Answers : (Outcome → Type 0) → Result (Vec ℕ Global) TransRefusal → Type 0
Answers P (Ok v) = P (Ok v.items)
Answers P (Err OutOfMemory) = Unit {0}
Answers P (Err r) = P (Err r)

-- the refusal, if there is one
abbrev pub refused_by : Option TransRefusal → Result (Unit {0}) TransRefusal
refused_by None = Ok tt
refused_by (Some r) = Err r

-- the refusal of bytes that the lexer refuses
abbrev pub not_lexed : LexRefusal → TransRefusal
not_lexed lex_refusal.OutOfMemory = OutOfMemory
not_lexed r = Lex r

-- how a kernel's loop is called
abbrev pub call_text : Form → List ℕ → List ℕ
call_text Stub x = prefix ++ x ++ codes "("
call_text Call x = codes "op_par_loop(" ++ x ++ codes ","

-- the edit that makes the call in a stretch one of this form
abbrev pub edit_of : Form → Stretch → Edit
edit_of f s = record { from = s.from; to = s.to; text = call_text f s.kernel.now }

-- the edit that begins with the first token, where each call becomes one of this form
abbrev pub begun : Form → List Token → Option Edit
begun Stub ts = to_stub ts
begun Call ts = to_call ts

-- the loop that was found
abbrev pub loop_of_found : Found → Loop
loop_of_found f = record { kernel = f.kernel.now.name; set = f.set.now.name; args = f.args.now }
