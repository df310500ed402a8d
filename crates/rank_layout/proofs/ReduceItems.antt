-- The loop of a Reduce is that of the item before it.
use Rattle.std.proofs.Common.{◌≡◌, ◌<◌, ℕ, zero, suc, Bool, true, false, List, length, get_or, sym, ap, ◌∙◌, subst, ⊎_elim}
use Rattle.std.proofs.lemmas.Bool.{cases_lt, false≢true}
use Rattle.std.proofs.lemmas.List.{get_or_past}
use Rattle.schedule_model.specs.Program.{Kind, Reduce, is_loop}
use Rattle.bound_program.specs.Values.{BoundValue, ItemValue, Host, Exit}
use Rattle.bound_program.specs.Fits.{Fits}
use Rattle.run_model.specs.Laws.{LoopsAreThere}
use Rattle.run_model.specs.Programs.{item_at, kind_of, loop_of}
use Rattle.schedule_model.specs.Laws.{Items}
use Rattle.mesh_decl.specs.declared.owners.Owners.{Owners}
use Rattle.local_mesh.specs.declared.types.RankMesh.{RankMesh}
use Rattle.loop_plan.specs.Values.{PlanValue}
use Rattle.bound_plan.specs.Laws.{SetupsHaveParts}
use Rattle.bound_plan.specs.Setups.{setup_of}
use Rattle.rank_layout.specs.OwnedLaws.{ReducesAreThere}

abbrev is_reduce : Kind → Bool
is_reduce Reduce = true
is_reduce k = false

item_there : (xs : List ItemValue) (k : ℕ) → kind_of (get_or xs k (Host Exit)) ≡ Reduce → k < length xs
item_there xs k h = ⊎_elim (λ lt. lt)
    (λ ge. absurd (false≢true (sym (ap (λ x. is_reduce (kind_of x)) (get_or_past xs k (Host Exit) ge)) ∙ ap is_reduce h)))
    (cases_lt k (length xs))

loop_before : (b : BoundValue) → Fits b → LoopsAreThere → (o : Owners) (meshes : List RankMesh) (p : PlanValue) → Items (setup_of b o meshes p)
    → (k : ℕ) → kind_of (item_at b k) ≡ Reduce → loop_of (item_at b k) < length b.sites
loop_before b fits loops o meshes p items zero kind = absurd (items.first_item kind)
loop_before b fits loops o meshes p items (suc k) kind =
    let before = items.reduce_after k kind in
    subst (λ n. n < length b.sites) (sym before.1) (loops b k fits (ap is_loop before.0))

pub reduces_are_there : LoopsAreThere → SetupsHaveParts → ReducesAreThere
reduces_are_there loops parts b o n meshes p planned k kind = (
  item_there b.trace k kind,
  loop_before b planned.fits loops o meshes p (parts b o n meshes p planned).0 k kind,
)
