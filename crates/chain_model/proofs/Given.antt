-- A lawful setup with needs and executed elements, and the values that stores and partials have.
use Rattle.std.proofs.Common.{◌≡◌, ℕ, ℤ, ◌<◌, Bool, true, cond, Option, Some, List}
use Rattle.std.specs.Prelude.{◌==◌, ◌&&◌}
use Rattle.schedule_model.specs.Cells.{Cell, Data, Variable, DatCell, VarCell}
use Rattle.schedule_model.specs.Program.{Free, elements}
use Rattle.schedule_model.specs.Setup.{Setup}
use Rattle.schedule_model.specs.Sequential.{Stop, seq}
use Rattle.schedule_model.specs.Machine.{unit_at}
use Rattle.schedule_model.proofs.Public.{folded, Law, fault, effect, is_going, store_at, Member, is_reduce, source}
use Rattle.chain_model.specs.Slicing.{Slicing}
use Rattle.chain_model.specs.ChainLaws.{AreSlices, sliced}

pub record Given (F : Type 0) : Type 0 where
  pub p : Setup F
  pub q : Law p
  pub needs : ℕ → ℕ → ℕ → ℕ → Bool
  pub executes : ℕ → ℕ → ℕ → Bool
  pub are : AreSlices p needs executes

abbrev pub chains : {F : Type 0} → Given F → Slicing F
chains g = sliced g.p g.needs g.executes

-- the sequential run comes to item k
abbrev pub Comes : {F : Type 0} → Given F → ℕ → Type 0
Comes g k = is_going (seq g.p.program k) ≡ true

-- what an element of item k makes of a cell's value
abbrev pub makes : {F : Type 0} → Given F → ℕ → Cell → ℕ → ℤ → ℤ
makes g k x e = effect g.p k e (store_at g.p k) x

-- the fault of an element of item k
abbrev pub breaks : {F : Type 0} → Given F → ℕ → ℕ → Option F
breaks g k e = fault g.p k e (store_at g.p k)

-- rank r owns the element
abbrev pub owns : {F : Type 0} → Given F → ℕ → ℕ → ℕ → Bool
owns g k r e = g.p.owner (g.p.program.set k) e == r

-- a cell's value before item k, changed by those of its first m elements that rank r executes
abbrev pub made : {F : Type 0} → Given F → ℕ → ℕ → ℕ → DatCell → ℤ
made g k r m x = folded m (λ e. g.executes k r e) (makes g k (Data x)) (store_at g.p k (Data x))

-- the amounts of those that rank r owns
abbrev pub part : {F : Type 0} → Given F → ℕ → ℕ → ℕ → VarCell → ℤ
part g k r m v = folded m (owns g k r) (makes g k (Variable v)) (unit_at (g.p.reduces (g.p.program.site k) v))

-- the partials before item k: amounts before a Reduce alone
abbrev pub part_before : {F : Type 0} → Given F → ℕ → ℕ → ℕ → VarCell → ℤ
part_before g k r s v =
    cond
    (is_reduce (g.p.program.kind k) && (s == g.p.program.site k))
    (part g (source g.p k) r (elements g.p.program (source g.p k)) v)
    (unit_at (g.p.reduces s v))

-- the stop by an element
abbrev pub culprit : {F : Type 0} → ℕ → ℕ → F → Stop F
culprit k e f = record { item = k; element = Some e; fault = f }

-- the faults of Free items before k are in the list
abbrev pub KeptBefore : {F : Type 0} → Given F → ℕ → List (Stop F) → Type 0
KeptBefore {F} g k faults =
    (j e : ℕ) (f : F) → j < k → g.p.program.kind j ≡ Free → e < elements g.p.program j → Comes g j → breaks g j e ≡ Some f
    → Member (culprit j e f) faults
