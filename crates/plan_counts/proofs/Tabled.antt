-- A table of what ranks import gives the cells of messages.
use Rattle.std.proofs.Common.{◌≡◌, ◌<◌, ◌+◌, ◌*◌, ℕ, suc, List, [], ◌∷◌, length, All, fold, refl, ap, ◌∙◌, arith}
use Rattle.std.specs.Prelude.{slice_index}
use Rattle.mesh_decl.specs.Mesh.{MeshValue, set_count, dat_count, dat_set, dat_dim}
use Rattle.local_mesh.specs.declared.types.RankMesh.{RankMesh}
use Rattle.loop_plan.specs.declared.types.Pair.{Pair}
use Rattle.loop_plan.specs.Values.{ItemPlanValue}
use Rattle.schedule_check.specs.Mail.{cells_between, imported_from, IsInside}
use Rattle.plan_counts.specs.Counts.{exchanged_cells}
use Rattle.plan_counts.specs.Imports.{Numbers, AreImports, cells_by, sent_by}

module _ (g : MeshValue) (meshes : List RankMesh) (table : List Numbers) (in_sets : (d : ℕ) → d < dat_count g → dat_set g d < set_count g)
    (are : AreImports g meshes table) where
  -- of a message
  message_same : (ds : List ℕ) (s r : ℕ) → s < length meshes → r < length meshes → ((k : ℕ) → k < length ds → slice_index ds k < dat_count g)
      → cells_by g table ds s r ≡ cells_between g meshes ds s r
  message_same [] s r ls lr there = refl
  message_same (d ∷ ds) s r ls lr there =
      ap (λ n. dat_dim g d * n + cells_by g table ds s r) (are (dat_set g d) s r (in_sets d (there 0 (omega arith))) ls lr)
      ∙ ap (λ n. dat_dim g d * imported_from meshes s r (dat_set g d) + n) (message_same ds s r ls lr (λ k lt. there (suc k) (omega (arith, lt))))

  -- of all messages of an item
  pub sent_same : (p : ItemPlanValue) → IsInside g meshes p → sent_by g table p ≡ exchanged_cells g meshes p
  sent_same p inside = by 0 p.pairs inside.pairs
    where
      by : (sum : ℕ) (qs : List Pair) → All (λ (q : Pair). (q.from < length meshes) × (q.to < length meshes)) qs
          → fold (λ a (q : Pair). a + cells_by g table p.exchange q.from q.to) sum qs
          ≡ fold (λ a (q : Pair). a + cells_between g meshes p.exchange q.from q.to) sum qs
      by sum [] h = refl
      by sum (q ∷ qs) h =
          let here = h 0 q (omega arith) in
          ap (λ n. fold (λ a (q : Pair). a + cells_by g table p.exchange q.from q.to) (sum + n) qs)
          (message_same p.exchange q.from q.to here.0 here.1 inside.dats)
          ∙ by (sum + cells_between g meshes p.exchange q.from q.to) qs (λ k d lt. h (suc k) d (omega (arith, lt)))
