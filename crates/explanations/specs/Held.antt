-- Files that are held in memory.
use Rattle.std.specs.Prelude.{ℕ, List, Option, option_map}
use Rattle.std.specs.BTreeMap.{get_by_text}
use Rattle.explanations.specs.declared.held_files.held.HeldFiles.{HeldFiles}
use Rattle.explanations.specs.declared.held_files.lent.LentFiles.{LentFiles}

-- the bytes that are held under a name
abbrev pub held : HeldFiles → List ℕ → Option (List ℕ)
held files name = option_map (λ bytes. bytes.items) (get_by_text files.files name)

-- the bytes that a shelf has under a name
abbrev pub lent : LentFiles → List ℕ → Option (List ℕ)
lent shelf = held shelf.files.now
