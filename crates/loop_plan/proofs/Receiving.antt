-- Exports of ranks that aren't there.
use Rattle.std.proofs.Common.{◌≡◌, ℕ, suc, ◌<◌, ◌≤◌, false, List, [], ◌∷◌, length, refl, ap, ◌∙◌, arith}
use Rattle.std.specs.Prelude.{◌||◌, nat_lt}
use Rattle.lemmas.specs.Below.{rows}
use Rattle.mesh_decl.specs.Mesh.{MeshValue, IsDatAt, dat_count, dat_set}
use Rattle.local_mesh.specs.declared.halo_lists.types.Halos.{Halos}
use Rattle.loop_plan.specs.Exports.{exports_in, is_some_exported, passes_by_exports, HaveExports, AreDats}
use Rattle.loop_plan.proofs.Collecting.{row_past}

module _ (g : MeshValue) (h : Halos) (have : HaveExports g h) (sets : (d : ℕ) → d < dat_count g → IsDatAt g d) (s r : ℕ) (ls : s < h.ranks) (lr : h.ranks ≤ r) where
  -- nothing of one set
  none_exported : (d : ℕ) → d < dat_count g → is_some_exported (exports_in h (dat_set g d)) s r ≡ false
  none_exported d l =
      let e : length (rows (exports_in h (dat_set g d)) s) ≡ h.ranks = have.ranks (dat_set g d) s (sets d l).set ls in
      ap (λ (z : List ℕ). nat_lt 0 (length z)) (row_past (rows (exports_in h (dat_set g d)) s) r (omega arith))

  pub none_passes : (dats : List ℕ) → AreDats g dats → passes_by_exports g h dats s r ≡ false
  none_passes [] a = refl
  none_passes (d ∷ ds) a =
      ap (λ z. z || passes_by_exports g h ds s r) (none_exported d (a 0 (omega arith)))
      ∙ none_passes ds (λ k l. a (suc k) (omega arith))
