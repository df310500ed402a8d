use Rattle.std.proofs.Common.{◌∙◌, sym, []}
use Rattle.std.proofs.lemmas.List.{get_or-map}
use Rattle.local_mesh.specs.declared.lists.LocalLists.{LocalLists}
use Rattle.rank_layout.specs.Exports.{exports_in}
use Rattle.rank_layout.proofs.messages.exports_of.Goals as goal

pub returns : goal.returns
unfolding exports_in
returns c =
    c.deref.ensures.value
    ∙ sym (get_or-map (λ (x : LocalLists). x.exports.items) c.args.lists.now c.args.set c.index-lists-set.result [] c.requires)
