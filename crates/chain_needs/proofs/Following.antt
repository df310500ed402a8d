-- Free items, and what stands before an item.
use Rattle.std.proofs.Common.{◌≡◌, ◌-◌, ℕ, zero, suc, false, refl, ap, arith}
use Rattle.std.specs.Prelude.{is_some}
use Rattle.schedule_model.specs.Program.{Kind, is_free}
use Rattle.bound_program.specs.Values.{ItemValue, Free, Reduce, Ordered, Host}
use Rattle.run_model.specs.Programs.{kind_of}
use Rattle.chain_model.specs.Chains.{follows_free}
use Rattle.chain_needs.specs.FreeSites.{free_site_of}

pub free_is_some : (i : ItemValue) → is_some (free_site_of i) ≡ is_free (kind_of i)
free_is_some (Free s) = refl
free_is_some (Reduce s) = refl
free_is_some (Ordered s) = refl
free_is_some (Host a) = refl

pub follows_is : (kind : ℕ → Kind) (k : ℕ) → (k ≡ 0 → ⊥) → is_free (kind (k - 1)) ≡ follows_free kind k
follows_is kind zero h = absurd (h refl)
follows_is kind (suc k) h = let e : suc k - 1 ≡ k = omega arith in ap (λ z. is_free (kind z)) e

pub follows_first : (kind : ℕ → Kind) (k : ℕ) → k ≡ 0 → false ≡ follows_free kind k
follows_first kind zero h = refl
follows_first kind (suc k) h = absurd (omega arith)
