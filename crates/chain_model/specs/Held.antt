-- What ranks hold before an item, and what faults are recorded.
use Rattle.std.specs.Prelude.{◌≡◌, ℕ, zero, suc, Bool, true, cond, ◌==◌, None, is_some}
use Rattle.schedule_model.specs.Kept.{OfElements}
use Rattle.chain_model.specs.Chains.{begins}
use Rattle.chain_model.specs.Slicing.{Slicing, pair_owner}
use Rattle.chain_model.specs.Machine.{chain_items}

-- the pairs that rank r holds before item k: at first its own, and from the start of a chain on those that it needed there
abbrev pub held_at : {F : Type 0} → Slicing F → ℕ → ℕ → ℕ → ℕ → Bool
held_at c zero r d y = pair_owner c d y == r
held_at c (suc k) r d y = cond (begins c.program.kind k) (c.needs k r d y) (held_at c k r d y)

-- a rank needs its own pairs always
abbrev pub NeedsOwn : {F : Type 0} → Slicing F → Type 0
NeedsOwn c = (k r d y : ℕ) → (pair_owner c d y == r) ≡ true → c.needs k r d y ≡ true

-- before item k, where nothing stopped the machine, the stores have these pairs; and all recorded faults are of elements
pub record StoresHold {F : Type 0} (c : Slicing F) (k : ℕ) : Type 0 where
  pub held : (chain_items c k).stop ≡ None → (r d y : ℕ) → is_some ((chain_items c k).stores r d y) ≡ held_at c k r d y
  pub elements : OfElements (chain_items c k).faults
