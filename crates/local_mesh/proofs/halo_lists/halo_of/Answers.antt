use Rattle.std.proofs.Common.{List, ap, length, ◌∙◌}
use Rattle.local_mesh.specs.declared.rank_sets.rank_set.RankSet.{RankSet}
use Rattle.local_mesh.specs.RankSet.{has_at}
use Rattle.local_mesh.proofs.halo_lists.Importing.{here_count, here_has, named_agree}
use Rattle.local_mesh.proofs.halo_lists.halo_of.Goals as goal

pub set_halo-requires-clause-executing_count : goal.set_halo-requires-clause-executing_count
set_halo-requires-clause-executing_count c = here_count c.args.mesh.now c.args.owners.now c.args.executing.now c.args.set
    c.index-executing-set.result c.deref.result.now c.requires.executing c.requires.set c.index-executing-set.is c.deref.ensures.value

pub set_halo-requires-clause-executing : goal.set_halo-requires-clause-executing
set_halo-requires-clause-executing c = here_has c.args.mesh.now c.args.owners.now c.args.executing.now c.args.set
    c.index-executing-set.result c.deref.result.now c.requires.executing c.requires.set c.index-executing-set.is c.deref.ensures.value

pub set_halo-requires-clause-naming_count : goal.set_halo-requires-clause-naming_count
set_halo-requires-clause-naming_count c = ap (length {A = RankSet}) c.deref-2.ensures.value ∙ c.in_ok-naming.ensures.length

pub set_halo-requires-clause-naming : goal.set_halo-requires-clause-naming
set_halo-requires-clause-naming c = λ y r. ap (λ (z : List RankSet). has_at z y r) c.deref-2.ensures.value
    ∙ (c.in_ok-naming.ensures.has y r ∙ named_agree c.args.mesh.now c.args.owners.now c.args.executing.now c.args.set y r c.requires.mesh
    c.requires.executing)
