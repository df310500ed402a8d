use Rattle.std.proofs.Common.{◌∙◌, false}
use Rattle.std.specs.Prelude.{◌&&◌, slice_index_or}
use Rattle.mesh_decl.specs.Mesh.{dat_count}
use Rattle.local_mesh.proofs.Public.{listed_within}
use Rattle.bound_program.specs.Values.{bound_of}
use Rattle.loop_plan.specs.Needs.{item_needs}
use Rattle.loop_plan.proofs.items.plan_item.Goals as goal

pub messages-requires-clause-dats : goal.messages-requires-clause-dats
messages-requires-clause-dats c =
    listed_within c.args.dats (dat_count c.args.bound.now.mesh) (λ d. slice_index_or c.args.dirty.now d false && item_needs (bound_of c.args.bound.now) c.args.item d) c.deref.result.now
    (c.deref.ensures.value ∙ c.in_ok-exchange.ensures.exchange) c.requires.dats
