-- A program has one number of steps on local meshes that are the same as lists.
use Rattle.std.proofs.Common.{◌≡◌, ℕ, List, length, map, refl, ap, ◌∙◌}
use Rattle.std.proofs.Math.Path.{fun_ext}
use Rattle.local_mesh.specs.declared.types.RankMesh.{RankMesh}
use Rattle.local_mesh.specs.Values.{rank_mesh_value}
use Rattle.bound_program.specs.Values.{BoundValue}
use Rattle.bound_program.specs.Fits.{site_at}
use Rattle.loop_plan.specs.Counted.{sum_below}
use Rattle.loop_plan.specs.Needs.{item_at}
use Rattle.loop_plan.specs.Pairs.{passes, pairs_below}
use Rattle.loop_plan.specs.Places.{places_of}
use Rattle.loop_plan.specs.StepOutline.{loop_of}
use Rattle.loop_plan.specs.StepCounts.{exchange_of, message_count, place_count, steps_at, program_steps}
use Rattle.loop_plan.proofs.AlikeMeshes.{length_same, places_same, passes_same}

module _ (b : BoundValue) (meshes others : List RankMesh) (same : map rank_mesh_value meshes ≡ map rank_mesh_value others) where
  many : length meshes ≡ length others
  many = length_same meshes others same

  messages_same : (k : ℕ) → message_count b meshes k ≡ message_count b others k
  messages_same k =
      ap (λ (t : ℕ → ℕ → _). length (pairs_below t (length meshes) (length meshes)))
      (fun_ext (λ s. fun_ext (λ r. passes_same meshes others same b.mesh (exchange_of b meshes k) s r)))
      ∙ ap (λ (n : ℕ). length (pairs_below (passes b.mesh others (exchange_of b others k)) n n)) many

  counts_same : (s : ℕ) → place_count b meshes s ≡ place_count b others s
  counts_same s =
      ap (λ (f : ℕ → ℕ). sum_below f (length meshes)) (fun_ext (λ r. places_same meshes others same (site_at b s) r))
      ∙ ap (λ (n : ℕ). sum_below (places_of others (site_at b s)) n) many

  steps_same : (k : ℕ) → steps_at b meshes k ≡ steps_at b others k
  steps_same k = rw (messages_same k, counts_same (loop_of (item_at b k))) refl

pub one_step_count : (b : BoundValue) (meshes others : List RankMesh) → map rank_mesh_value meshes ≡ map rank_mesh_value others → program_steps b meshes ≡ program_steps b others
one_step_count b meshes others same = ap (λ (f : ℕ → ℕ). sum_below f (length b.trace)) (fun_ext (steps_same b meshes others same))
