-- Lines of the table, one behind the other.
use Rattle.std.proofs.Common.{◌≡◌, ◌<◌, ◌+◌, ◌-◌, ℕ, suc, Bool, List, [], ◌∷◌, ◌++◌, length, get_or, drop, refl, sym, ap, subst, ◌∙◌, arith, append_assoc}
use Rattle.std.proofs.lemmas.List.{drop_more}
use Rattle.std.specs.List.{flat_map}
use lib.ListN.{replicate}
use Rattle.local_mesh.specs.declared.types.RankMesh.{RankMesh}
use Rattle.bound_program.specs.Values.{SiteValue, BoundValue, no_site}
use Rattle.loop_plan.specs.Values.{PlanValue}
use Rattle.plan_counts.specs.Counts.{counts_of}
use Rattle.plan_counts.specs.Parts.{with_loop}
use Rattle.plan_counts.specs.Table.{loop_fields, loops_from, totals_of, row_text}

one_more : (k : ℕ) → suc k ≡ k + 1
one_more k = omega arith

module _ (b : BoundValue) (meshes : List RankMesh) (p : PlanValue) where
  -- one more loop has its line
  pub loop_step : (plain : Bool) (sites : List SiteValue) (s : ℕ) (out : List ℕ) → s < length sites
      → (out ++ row_text plain (loop_fields b s (get_or sites s no_site) (counts_of b meshes p s)))
      ++ flat_map (row_text plain) (loops_from b meshes p (s + 1) (drop (s + 1) sites))
      ≡ out ++ flat_map (row_text plain) (loops_from b meshes p s (drop s sites))
  loop_step plain sites s out lt =
      let row = row_text plain (loop_fields b s (get_or sites s no_site) (counts_of b meshes p s)) in
      append_assoc out row (flat_map (row_text plain) (loops_from b meshes p (s + 1) (drop (s + 1) sites)))
      ∙ ap (λ k. out ++ (row ++ flat_map (row_text plain) (loops_from b meshes p k (drop (s + 1) sites)))) (sym (one_more s))
      ∙ ap (λ z. out ++ flat_map (row_text plain) (loops_from b meshes p s z)) (sym (drop_more sites s no_site lt))

  -- and is added
  pub totals_step : (s : ℕ) → with_loop (totals_of b meshes p s) (counts_of b meshes p s) ≡ totals_of b meshes p (s + 1)
  totals_step s = subst (λ k. with_loop (totals_of b meshes p s) (counts_of b meshes p s) ≡ totals_of b meshes p k) (one_more s) refl

width_left : (w : ℕ) → w < 10 → 10 - w ≡ suc (10 - (w + 1))
width_left w lt = omega (arith, lt)

-- one more blank before a field
pub pad_step : (w : ℕ) (out field : List ℕ) → w < 10 → (out ++ 32 ∷ []) ++ (replicate (10 - (w + 1)) 32 ++ field) ≡ out ++ (replicate (10 - w) 32 ++ field)
pad_step w out field lt =
    append_assoc out (32 ∷ []) (replicate (10 - (w + 1)) 32 ++ field)
    ∙ ap (λ n. out ++ (replicate n 32 ++ field)) (sym (width_left w lt))
