use Rattle.std.proofs.Common.{◌∷◌, [], subst, map}
use Rattle.kernel_model.specs.Meaning.{kernel_meaning, Ran}
use Rattle.kernel_model.specs.Framed.{target_of}
use Rattle.rank_state.specs.Spans.{gathered}
use Rattle.kernel_runs.specs.InPlace.{EndsInPlace}
use Rattle.kernel_runs.proofs.in_place.Ends.{finished_alone, finished_leaves}
use Rattle.kernel_runs.proofs.in_place.laws.finishes_here.Goals as goal

pub returns : goal.returns
returns c k consts memory memory' places marks spans ts h ran =
    let us = map target_of places in
    let y = kernel_meaning ts consts k (gathered memory spans ∷ []) in
    let ends = subst (λ (x : Ran). EndsInPlace spans ts us memory x y) ran (c.runs_in_place.ensures k consts memory spans ts us h.within h.apart h.same h.leaves) in
    (finished_alone spans ts us memory memory' y ends, λ item. finished_leaves spans ts us memory memory' item y ends)
