use Rattle.std.proofs.Common.{rules, ◌≡◌, ◌∷◌, [], sym, subst, map, ◌∙◌}
use Rattle.kernel_model.specs.Meaning.{Finished, Stopped, kernel_meaning, Ran}
use Rattle.kernel_model.specs.Framed.{target_of}
use Rattle.rank_state.specs.Spans.{gathered}
use Rattle.kernel_runs.specs.InPlace.{EndsInPlace}
use Rattle.kernel_runs.proofs.in_place.Ends.{finished_alone, finished_leaves, stopped_faults, stopped_spares, stopped_leaves}
use Rattle.kernel_runs.proofs.in_place.Savings.{spared_are_kept}
use Rattle.kernel_runs.proofs.in_place.running.run_saved.Goals as goal

pub returns-in-Ok-clause-fault : goal.returns-in-Ok-clause-fault
returns-in-Ok-clause-fault c spans ts h =
    let k = c.args.kernel.now.code.now.kernel.now in
    let us = map target_of c.args.places.now in
    let ran : Finished (c.run_on.new.memory ∷ []) ≡ kernel_meaning us c.args.kernel.now.constants.now k (c.args.memory.now ∷ []) = search rules in
    finished_alone spans ts us c.args.memory.now c.run_on.new.memory (kernel_meaning ts c.args.kernel.now.constants.now k (gathered c.args.memory.now spans ∷ []))
    (subst (λ (x : Ran). EndsInPlace spans ts us c.args.memory.now x (kernel_meaning ts c.args.kernel.now.constants.now k (gathered c.args.memory.now spans ∷ []))) (sym ran)
    (c.runs_in_place.ensures k c.args.kernel.now.constants.now c.args.memory.now spans ts us h.within h.apart h.same h.leaves))

pub returns-in-Ok-clause-memory : goal.returns-in-Ok-clause-memory
returns-in-Ok-clause-memory c spans ts h item =
    let k = c.args.kernel.now.code.now.kernel.now in
    let us = map target_of c.args.places.now in
    let ran : Finished (c.run_on.new.memory ∷ []) ≡ kernel_meaning us c.args.kernel.now.constants.now k (c.args.memory.now ∷ []) = search rules in
    finished_leaves spans ts us c.args.memory.now c.run_on.new.memory item (kernel_meaning ts c.args.kernel.now.constants.now k (gathered c.args.memory.now spans ∷ []))
    (subst (λ (x : Ran). EndsInPlace spans ts us c.args.memory.now x (kernel_meaning ts c.args.kernel.now.constants.now k (gathered c.args.memory.now spans ∷ []))) (sym ran)
    (c.runs_in_place.ensures k c.args.kernel.now.constants.now c.args.memory.now spans ts us h.within h.apart h.same h.leaves))

pub returns-in-Err-clause-fault : goal.returns-in-Err-clause-fault
returns-in-Err-clause-fault c spans ts h =
    let k = c.args.kernel.now.code.now.kernel.now in
    let us = map target_of c.args.places.now in
    let ran : Stopped (c.run_on.new.memory ∷ []) c.in-Err.fault ≡ kernel_meaning us c.args.kernel.now.constants.now k (c.args.memory.now ∷ []) = search rules in
    stopped_faults spans ts us c.args.memory.now c.run_on.new.memory c.in-Err.fault (kernel_meaning ts c.args.kernel.now.constants.now k (gathered c.args.memory.now spans ∷ []))
    (subst (λ (x : Ran). EndsInPlace spans ts us c.args.memory.now x (kernel_meaning ts c.args.kernel.now.constants.now k (gathered c.args.memory.now spans ∷ []))) (sym ran)
    (c.runs_in_place.ensures k c.args.kernel.now.constants.now c.args.memory.now spans ts us h.within h.apart h.same h.leaves))

pub returns-in-Err-clause-memory : goal.returns-in-Err-clause-memory
returns-in-Err-clause-memory c spans ts h item =
    let k = c.args.kernel.now.code.now.kernel.now in
    let us = map target_of c.args.places.now in
    let y = kernel_meaning ts c.args.kernel.now.constants.now k (gathered c.args.memory.now spans ∷ []) in
    let ran : Stopped (c.run_on.new.memory ∷ []) c.in-Err.fault ≡ kernel_meaning us c.args.kernel.now.constants.now k (c.args.memory.now ∷ []) = search rules in
    let ends : EndsInPlace spans ts us c.args.memory.now (Stopped (c.run_on.new.memory ∷ []) c.in-Err.fault) y =
    subst (λ (x : Ran). EndsInPlace spans ts us c.args.memory.now x y) (sym ran)
    (c.runs_in_place.ensures k c.args.kernel.now.constants.now c.args.memory.now spans ts us h.within h.apart h.same h.leaves) in
    c.put_back.ensures c.args.memory.now c.save.ensures
    (spared_are_kept spans ts c.args.places.now c.args.kernel.now.marks.now c.args.memory.now c.run_on.new.memory c.requires.marks h.same h.marked
    (stopped_spares spans ts us c.args.memory.now c.run_on.new.memory c.in-Err.fault y ends))
    ∙ stopped_leaves spans ts us c.args.memory.now c.run_on.new.memory item c.in-Err.fault y ends
