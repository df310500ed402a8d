use Rattle.std.proofs.Common.{◌∙◌, ap, sym, []}
use Rattle.std.proofs.lemmas.List.{get_or-map}
use Rattle.local_mesh.specs.declared.halo_lists.types.SetHalo.{SetHalo}
use Rattle.loop_plan.specs.Exports.{exports_in}
use Rattle.loop_plan.proofs.messages.exports_of.Goals as goal

pub returns : goal.returns
unfolding exports_in
returns c =
    c.deref.ensures.value
    ∙ (ap (λ (x : SetHalo). x.exports.items) c.index.ensures
    ∙ sym (get_or-map (λ (x : SetHalo). x.exports.items) c.args.halos.now.sets.items c.args.set c.index.result.now [] c.requires))
