use Rattle.bound_plan.proofs.Indexed.{is_variable}
use Rattle.bound_plan.proofs.Buffers.{place_at}
use Rattle.bound_plan.proofs.layout.cells_have_one_index.Goals as goal

pub returns : goal.returns
returns c = λ b o n meshes p pl. record {
  places = λ r i lr l. place_at c.meshes_and_items.ensures.numbers c.meshes_and_items.ensures.halos b o n meshes p pl r lr i l;
  variables = λ i l. (is_variable b i l).2;
}
