-- Which keys of plans are the same.
use Rattle.std.specs.Prelude.{◌≡◌}
use Rattle.loop_plan.specs.declared.alike.PlanKey.{PlanKey}

-- one set, both or neither scatter, and the same arguments
pub record AreSameKeys (k l : PlanKey) : Type 0 where
  pub set : k.set ≡ l.set
  pub scattering : k.scattering ≡ l.scattering
  pub merged : k.merged.items ≡ l.merged.items
