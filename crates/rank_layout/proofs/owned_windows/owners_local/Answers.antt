use Rattle.std.proofs.Common.{◌≡◌, ℕ, ◌<◌, List, length, get_or, ap, sym, subst, ◌∙◌, []}
use Rattle.std.proofs.lemmas.List.{get_or-map}
use Rattle.local_mesh.specs.declared.lists.LocalLists.{LocalLists}
use Rattle.rank_layout.specs.OwnedWindows.{owners_locals}
use Rattle.rank_layout.proofs.owned_windows.owners_local.Goals as goal

-- the numbers of a set, as code reads them
numbers_at : (lists : List LocalLists) (set : ℕ) (x : LocalLists) → set < length lists → (get_or lists set x).at_owner ≡ owners_locals lists set
unfolding owners_locals
numbers_at lists set x lt = sym (get_or-map (λ (z : LocalLists). z.at_owner) lists set x [] lt)

pub of-requires : goal.of-requires
of-requires c =
    subst (λ (z : List ℕ). c.args.element < length z) (sym (numbers_at c.args.lists.now c.args.set c.index-lists-set.result c.requires.set)) c.requires.element

pub returns : goal.returns
returns c =
    c.of.ensures ∙ ap (λ (z : List ℕ). get_or z c.args.element 0) (numbers_at c.args.lists.now c.args.set c.index-lists-set.result c.requires.set)
