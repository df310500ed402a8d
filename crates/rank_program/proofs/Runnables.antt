-- What a planned program has.
use Rattle.std.proofs.Common.{◌≡◌, List, sym, subst}
use Rattle.local_mesh.specs.declared.types.RankMesh.{RankMesh}
use Rattle.local_mesh.specs.declared.lists.LocalLists.{LocalLists}
use Rattle.bound_program.specs.Values.{bound_of}
use Rattle.loop_plan.specs.Planned.{PlannedValue, FitTogether}
use Rattle.rank_layout.specs.MessageLaws.{HasLists}
use Rattle.rank_program.specs.Runnables.{HasLocalLists}

-- p is q, and has these local meshes
pub has_lists : (p q : PlannedValue) (meshes : List RankMesh) (table : List LocalLists)
    → p ≡ q
    → meshes ≡ p.distribution.ranks.items
    → (fit : FitTogether p)
    → HasLocalLists q table
    → HasLists (bound_of p.bound) p.distribution.owners fit.numbers meshes p.plan p.distribution.halos table
has_lists p q meshes table view same h lists =
    subst (λ (ms : List RankMesh). HasLists (bound_of p.bound) p.distribution.owners h.numbers ms p.plan p.distribution.halos table) (sym same)
    (record {
      planned = record { fits = h.fits; distributed = h.distributed; proper = h.proper };
      halos = h.are_halos;
      lists = subst (λ (z : PlannedValue). HasLocalLists z table) (sym view) lists;
    })
