use Rattle.std.proofs.Common.{◌<◌, ◌∙◌, sym, ap, subst, List, length}
use Rattle.local_mesh.specs.declared.types.LocalSet.{LocalSet}
use Rattle.loop_plan.specs.Pairs.{own_in}
use Rattle.local_mesh.specs.LocalMesh.{originals_in}
use Rattle.loop_plan.proofs.Public.{own_read, originals_read}
use Rattle.schedule_check.proofs.cells.local_set.Goals as goal

pub bounds-sets-set : goal.bounds-sets-set
bounds-sets-set c = subst (λ (z : List LocalSet). c.args.set < length z) (sym c.sets_on-sets.ensures) c.requires.set

pub returns-clause-own : goal.returns-clause-own
returns-clause-own c =
    own_read c.sets_on-sets.result.now c.args.set c.index-sets-set.result (subst (λ (z : List LocalSet). c.args.set < length z) (sym c.sets_on-sets.ensures) c.requires.set) c.index-sets-set.is
    ∙ ap (λ (z : List LocalSet). own_in z c.args.set) c.sets_on-sets.ensures

pub returns-clause-originals : goal.returns-clause-originals
returns-clause-originals c =
    originals_read c.sets_on-sets.result.now c.args.set c.index-sets-set.result (subst (λ (z : List LocalSet). c.args.set < length z) (sym c.sets_on-sets.ensures) c.requires.set) c.index-sets-set.is
    ∙ ap (λ (z : List LocalSet). originals_in z c.args.set) c.sets_on-sets.ensures
