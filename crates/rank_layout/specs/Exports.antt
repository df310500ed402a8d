-- What ranks export, by local numbers.
use Rattle.std.specs.Prelude.{ℕ, List, [], Vec, map, slice_index_or}
use Rattle.std.specs.declared.alloc.Global.{Global}
use Rattle.lemmas.specs.Below.{row, rows}
use Rattle.local_mesh.specs.declared.lists.LocalLists.{LocalLists}

-- of a set, by owner and importing rank, the owner's local numbers
unfoldable pub exports_in : List LocalLists → ℕ → List (Vec (Vec ℕ Global) Global)
exports_in lists t = slice_index_or (map (λ (x : LocalLists). x.exports.items) lists) t []

-- set, owner, rank: the owner's local numbers of what the rank imports from it
abbrev pub exported_locals : List LocalLists → ℕ → ℕ → ℕ → List ℕ
exported_locals lists t a r = row (rows (exports_in lists t) a) r
