-- How items run loops, and the colours of those loops.
use Rattle.std.proofs.Common.{◌≡◌, ℕ, zero, suc, ◌*◌, ◌<◌, true, refl, sym, ap, subst, ◌∙◌, arith, List, [], ◌∷◌, length, get_or}
use Rattle.std.specs.Prelude.{◌↔◌, slice_index}
use Rattle.local_mesh.specs.declared.types.RankMesh.{RankMesh}
use Rattle.colouring.specs.declared.types.Colours.{Colours}
use Rattle.bound_program.specs.Values.{BoundValue, ItemValue, Free, Reduce, Ordered, Host}
use Rattle.loop_plan.specs.declared.exchange.LoopRun.TheVariants as run
use Rattle.loop_plan.specs.Values.{PlanValue, site_plan}
use Rattle.loop_plan.specs.Needs.{run_of}
use Rattle.loop_plan.specs.Places.{runs_free}
use Rattle.loop_plan.specs.Proper.{IsSitePlan, Proper}
use Rattle.schedule_check.specs.NewPlaces.{AreColoured, blocks_of, inner_of}
use Rattle.schedule_check.proofs.PlaceReads.{blocks_read, inner_read}

pub runs_as_free : (i : ItemValue) (s : ℕ) → run.Free s ≡ run_of i → i ≡ Free s
runs_as_free (Free n) s h = cc
runs_as_free (Reduce n) s h = cc
runs_as_free (Ordered n) s h = cc
runs_as_free (Host a) s h = cc

some_at : (xs : List Colours) (r : ℕ) → r < length xs → (x : Colours) × (x ≡ get_or xs r x)
some_at [] r l = absurd (omega arith)
some_at (x ∷ xs) zero l = (x, refl)
some_at (x ∷ xs) (suc r) l = some_at xs r (omega arith)

module _ (b : BoundValue) (meshes : List RankMesh) (p : PlanValue) (s : ℕ) (plan : IsSitePlan b meshes p.block s (site_plan p s)) where
  abbrev cs : List Colours
  cs = (site_plan p s).colours

  there : (r : ℕ) → r < length meshes → r < length cs
  there r lt = (let n : length cs ≡ length meshes = plan.colours_count in omega arith)

  inner_count : (r : ℕ) → r < length meshes → length (inner_of cs r) ≡ slice_index (site_plan p s).places r
  inner_count r lt =
      let x : (x : Colours) × (x ≡ get_or cs r x) = some_at cs r (there r lt) in
      sym (ap (λ (z : List ℕ). length z) (inner_read cs r x.0 (there r lt) x.1)) ∙ (ap (λ (z : Colours). length z.inner.items) x.1 ∙ ((plan.colours r x.0 lt).inner_count ∙ sym (plan.places r lt)))

  blocks_count : (r a : ℕ) → r < length meshes → (a < length (blocks_of cs r)) ↔ (a * p.block < slice_index (site_plan p s).places r)
  blocks_count r a lt =
      let x : (x : Colours) × (x ≡ get_or cs r x) = some_at cs r (there r lt) in
      subst (λ (z : List ℕ). (a < length z) ↔ (a * p.block < slice_index (site_plan p s).places r)) (sym (ap (λ (z : Colours). z.blocks.items) x.1) ∙ blocks_read cs r x.0 (there r lt) x.1)
      (subst (λ z. (a < length (get_or cs r x.0).blocks.items) ↔ (a * p.block < z)) (sym (plan.places r lt)) ((plan.colours r x.0 lt).blocks_count a))

  are_coloured : AreColoured p.block (length meshes) (site_plan p s)
  are_coloured = record { places_count = plan.places_count; colours_count = plan.colours_count; inner = inner_count; blocks = blocks_count }

pub coloured : (b : BoundValue) (meshes : List RankMesh) (p : PlanValue) (s : ℕ) → Proper b meshes p → s < length b.sites → runs_free b s ≡ true
    → AreColoured p.block (length meshes) (site_plan p s)
coloured b meshes p s proper l runs = are_coloured b meshes p s (proper.loops s l runs)
