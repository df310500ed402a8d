-- What `op2` says of a source over a mesh text, where files are these two and no others.
use Rattle.std.specs.Prelude.{◌≡◌, ℕ, nat_eq, List, [], ◌∷◌, Option, Some, None, codes, if◌then◌else◌}
use Rattle.std.specs.Str.{bytes_eq}
use Rattle.op_outside.specs.Outside.{Files}
use Rattle.command_words.specs.Lines.{Answer}
use Rattle.answers.specs.Answers.{Answers}
use Rattle.tool_command.specs.declared.judged.TheConstants.{SOURCE, MESH}

-- the words of a call that judges the one file over the other
abbrev pub check_words : List (List ℕ)
check_words = codes "op2" ∷ codes "check" ∷ SOURCE.now ∷ MESH.now ∷ []

-- no files
abbrev pub no_files : Files
no_files name = None

-- files, and one that has this name and these bytes
abbrev pub with_file : (name bytes : List ℕ) → Files → Files
with_file name bytes files other = if bytes_eq other name then Some bytes else files other

-- files that are these two texts
abbrev pub both_texts : (source mesh : List ℕ) → Files
both_texts source mesh = with_file MESH.now mesh (with_file SOURCE.now source no_files)

-- the line of an answer, where its status isn't 0
abbrev pub refusal_line : Answer → Option (List ℕ)
refusal_line x = if nat_eq x.status 0 then None else Some x.line

-- `op2`'s answer to these words over these files has this line, or status 0 where there is none
abbrev pub IsJudged : (source mesh : List ℕ) → (line : Option (List ℕ)) → Type 0
IsJudged source mesh line = (x : Answer) × Answers check_words (both_texts source mesh) x × (line ≡ refusal_line x)
