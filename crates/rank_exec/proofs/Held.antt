-- The memories of the machine have the cells of their ranks' dats.
use Rattle.std.proofs.Common.{◌≡◌, ◌<◌, ℕ, suc, ℤ, refl, List, [], ◌∷◌, length, get_or, sym, ◌∙◌, arith}
use Rattle.std.proofs.lemmas.List.{get_or_default}
use Rattle.kernel_model.specs.declared.types.faults.KernelFault.{KernelFault}
use Rattle.mesh_decl.specs.Mesh.{MeshValue}
use Rattle.mesh_decl.specs.declared.owners.Owners.{Owners}
use Rattle.mesh_decl.specs.declared.owners.Perms.{Perms}
use Rattle.local_mesh.specs.declared.types.RankMesh.{RankMesh}
use Rattle.local_mesh.specs.LocalMesh.{IsRankMesh}
use Rattle.run_model.specs.Dump.{IsHeld, AreHeld}
use Rattle.bound_program.specs.Values.{BoundValue}
use Rattle.loop_plan.specs.Values.{PlanValue}
use Rattle.bound_plan.specs.Laws.{Planned}
use Rattle.bound_plan.specs.Setups.{setup_of}
use Rattle.bound_plan.specs.Layouts.{layout_of}
use Rattle.rank_state.specs.Machine.{State}
use Rattle.rank_state.specs.Shows.{Tables, Sized}
use Rattle.rank_layout.proofs.Public.{cells_at}

-- rank by rank
held_from : (g : MeshValue) (ms : List RankMesh) (memories : List (List ℤ)) → length memories ≡ length ms
    → ((r : ℕ) (d : RankMesh) → r < length ms → IsHeld g (get_or ms r d) (get_or memories r []))
    → AreHeld g ms memories
held_from g [] [] c h = refl
held_from g [] (x ∷ xs) c h = absurd (omega arith)
held_from g (m ∷ ms) [] c h = absurd (omega arith)
held_from g (m ∷ ms) (x ∷ xs) c h = (h 0 m (omega arith), held_from g ms xs (omega arith) (λ r d lr. h (suc r) d (omega arith)))

pub are_held : (b : BoundValue) (o : Owners) (n : Perms) (meshes : List RankMesh) (p : PlanValue) → Planned b o n meshes p
    → (t : Tables) (st : State KernelFault) → Sized (setup_of b o meshes p) (layout_of b o meshes p) t st
    → AreHeld b.mesh meshes st.memories
are_held b o n meshes p pl t st s = held_from b.mesh meshes st.memories (s.ranks ∙ sym pl.distributed.are_meshes.count)
    (λ r d lr.
    let lo : r < o.ranks = omega (arith, pl.distributed.are_meshes.count) in
    let is : IsRankMesh b.mesh o n r (get_or meshes r d) = pl.distributed.are_meshes.ranks r d lo in
    record {
      sets = is.sets_count;
      bases = is.bases;
      cells = s.widths r lo ∙ sym (cells_at meshes r (get_or meshes r d) lr (get_or_default meshes r d (get_or meshes r d) lr));
    })
