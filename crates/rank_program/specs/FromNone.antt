-- Faults that elements note from none on, put together with one that was kept before them.
use Rattle.std.specs.Prelude.{◌≡◌, ℕ, ℤ, List, Option, Some, None}
use Rattle.schedule_model.specs.Sequential.{Stop}
use Rattle.schedule_model.specs.Kept.{kept}
use Rattle.schedule_model.specs.Setup.{Setup}
use Rattle.schedule_model.specs.Layout.{Layout}
use Rattle.rank_state.specs.Shows.{Tables}
use Rattle.rank_program.specs.AloneRuns.{Share, Reaches}

-- of one that was kept and one of later elements the fault that is kept
abbrev pub kept_both : {F : Type 0} → Option (Stop F) → Option (Stop F) → Option (Stop F)
kept_both before None = before
kept_both before (Some x) = kept before x

-- the fault, where there is one, is of an element
abbrev pub OfElement : {F : Type 0} → Option (Stop F) → Type 0
OfElement None = Unit {0}
OfElement (Some x) = (e : ℕ) × (x.element ≡ Some e)

-- the share with another fault
abbrev pub with_fault : {F : Type 0} → Option (Stop F) → Share F → Share F
with_fault x s = record s { fault = x }

-- elements that run from no fault on run alike from a kept one, and keep it or theirs
abbrev pub FaultsComeTogether : {F : Type 0} → (p : Setup F) → (l : Layout F) → (t : Tables) → Type 0
FaultsComeTogether {F = F} p l t =
    (k r : ℕ) (cs vs : List ℤ) (places : List ℕ) (old new : Share F) (n : ℕ) (x : Option (Stop F))
    → OfElement x
    → Reaches p l t k r cs vs places (with_fault None old) n new
    → Reaches p l t k r cs vs places (with_fault x old) n (with_fault (kept_both x new.fault) new)
