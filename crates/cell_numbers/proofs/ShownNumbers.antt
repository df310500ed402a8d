-- Numbers that are shown of a set.
use Rattle.std.proofs.Common.{◌≡◌, ℕ, ◌<◌, sym, ap, subst, ◌∙◌, List, length}
use Rattle.std.specs.Prelude.{slice_index}
use Rattle.mesh_decl.specs.Mesh.{set_count, set_size}
use Rattle.mesh_decl.specs.Owners.{owners_in, owner_of, AreOwners}
use Rattle.bound_program.specs.Values.{BoundValue}
use Rattle.bound_program.specs.Fits.{site_at}
use Rattle.partition.specs.declared.distribute.types.Distribution.{Distribution}
use Rattle.loop_plan.specs.Values.{PlanValue}
use Rattle.cell_numbers.specs.declared.types.Shown.{Shown}
use Rattle.cell_numbers.specs.declared.types.Shown.TheVariants as shown
use Rattle.cell_numbers.specs.Numbers.{IsBlockColour}
use Rattle.cell_numbers.specs.Shown.{AreNumbers, IsFreeRun}

module _ (b : BoundValue) (d : Distribution) (p : PlanValue) (w : Shown) (s : ℕ) (numbers : List ℕ) where
  -- owners
  pub owners_shown : w ≡ shown.Owners → AreOwners b.mesh d.owners → s < set_count b.mesh → numbers ≡ owners_in d.owners s
      → AreNumbers b d p w s numbers
  unfolding owner_of
  owners_shown e are l is = subst (λ (z : Shown). AreNumbers b d p z s numbers) (sym e) (record {
    there = tt;
    count = ap length is ∙ are.lengths s l;
    each = λ x lx. ap (λ (ns : List ℕ). slice_index ns x) is;
  })

  -- the colours of a loop's blocks
  pub colours_shown : (site : ℕ) → w ≡ shown.Colours site → IsFreeRun b site → (site_at b site).set ≡ s
      → length numbers ≡ set_size b.mesh (site_at b site).set
      → ((x : ℕ) → x < set_size b.mesh (site_at b site).set
      → IsBlockColour d.owners d.ranks.items p site (site_at b site).set x (slice_index numbers x))
      → AreNumbers b d p w s numbers
  colours_shown site e runs over count each = subst (λ (z : Shown). AreNumbers b d p z s numbers) (sym e) (record {
    there = (runs, over);
    count = subst (λ (t : ℕ). length numbers ≡ set_size b.mesh t) over count;
    each = subst (λ (t : ℕ). (x : ℕ) → x < set_size b.mesh t → IsBlockColour d.owners d.ranks.items p site t x (slice_index numbers x)) over each;
  })
