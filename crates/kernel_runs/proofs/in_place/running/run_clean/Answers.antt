use Rattle.std.proofs.Common.{◌∷◌, [], sym, subst, map, ap, ◌∙◌}
use Rattle.std.specs.Prelude.{slice_index_or}
use Rattle.kernel_model.specs.Meaning.{kernel_meaning, Ran, Store}
use Rattle.kernel_model.specs.Framed.{target_of}
use Rattle.rank_state.specs.Spans.{gathered}
use Rattle.kernel_runs.specs.InPlace.{EndsInPlace}
use Rattle.kernel_runs.proofs.in_place.Ends.{ended_faults, ended_leaves}
use Rattle.kernel_runs.proofs.in_place.running.run_clean.Goals as goal

pub returns-clause-fault : goal.returns-clause-fault
returns-clause-fault c marks spans ts h =
    let k = c.args.kernel.now.code.now.kernel.now in
    let us = map target_of c.args.places.now in
    let y = kernel_meaning ts c.args.kernel.now.constants.now k (gathered c.args.memory.now spans ∷ []) in
    c.err.ensures.value
    ∙ ended_faults spans ts us c.args.memory.now c.run_on.new.memory c.run_on.result y
    (subst (λ (x : Ran). EndsInPlace spans ts us c.args.memory.now x y) (sym c.run_on.ensures.ran)
    (c.runs_in_place.ensures k c.args.kernel.now.constants.now c.args.memory.now spans ts us h.within h.apart h.same h.leaves))

pub returns-clause-memory : goal.returns-clause-memory
returns-clause-memory c marks spans ts h item =
    let k = c.args.kernel.now.code.now.kernel.now in
    let us = map target_of c.args.places.now in
    let y = kernel_meaning ts c.args.kernel.now.constants.now k (gathered c.args.memory.now spans ∷ []) in
    ended_leaves spans ts us c.args.memory.now c.run_on.new.memory item c.run_on.result y
    (λ f e. ap (λ (s : Store). slice_index_or s 0 [])
    (c.requires.clean (c.args.memory.now ∷ []) (c.run_on.new.memory ∷ []) f (sym c.run_on.ensures.ran ∙ e)))
    (subst (λ (x : Ran). EndsInPlace spans ts us c.args.memory.now x y) (sym c.run_on.ensures.ran)
    (c.runs_in_place.ensures k c.args.kernel.now.constants.now c.args.memory.now spans ts us h.within h.apart h.same h.leaves))
