-- What needs and executed elements have to give, and that chains then run as the sequential run does.
use Rattle.std.specs.Prelude.{◌≡◌, ◌<◌, ℕ, ℤ, suc, Bool, true, List, Option, Some, None}
use Rattle.schedule_model.specs.Cells.{Data, DatCell, Store}
use Rattle.schedule_model.specs.Effects.{is_read, is_modified}
use Rattle.schedule_model.specs.Program.{Free, elements}
use Rattle.schedule_model.specs.Setup.{Setup, owner_of}
use Rattle.schedule_model.specs.Sequential.{Going, seq}
use Rattle.chain_model.specs.Slicing.{Slicing}
use Rattle.chain_model.specs.Machine.{pair_values, supplied, chain_items}

-- what of a setup chains use: its program and its owners
abbrev pub sliced : {F : Type 0} → Setup F → (ℕ → ℕ → ℕ → ℕ → Bool) → (ℕ → ℕ → ℕ → Bool) → Slicing F
sliced p needs executes = record {
  program = p.program;
  reduces = p.reduces;
  ranks = p.ranks;
  owner = p.owner;
  needs = needs;
  executes = executes;
}

-- needs and executed elements hang together
pub record AreSlices {F : Type 0} (p : Setup F) (needs : ℕ → ℕ → ℕ → ℕ → Bool) (executes : ℕ → ℕ → ℕ → Bool) : Type 0 where
  -- a rank executes its own elements, and needs its own pairs
  pub own_elements : (k r e : ℕ)
      → p.program.kind k ≡ Free
      → e < elements p.program k
      → p.owner (p.program.set k) e ≡ r
      → executes k r e ≡ true
  pub own_pairs : (k r : ℕ) (x : DatCell) → owner_of p x ≡ r → needs k r x.dat x.element ≡ true
  -- what it needs behind a Free item it needs before it too, and it executes the elements that modify it
  pub later : (k r d y : ℕ) → p.program.kind k ≡ Free → needs (suc k) r d y ≡ true → needs k r d y ≡ true
  pub modified : (k r e : ℕ) (x : DatCell)
      → p.program.kind k ≡ Free
      → e < elements p.program k
      → is_modified (p.touch k e (Data x)) ≡ true
      → needs (suc k) r x.dat x.element ≡ true
      → executes k r e ≡ true
  -- it needs what these read
  pub read : (k r e : ℕ) (x : DatCell)
      → p.program.kind k ≡ Free
      → e < elements p.program k
      → executes k r e ≡ true
      → is_read (p.touch k e (Data x)) ≡ true
      → needs k r x.dat x.element ≡ true

-- the pair is held, with these values
abbrev pub IsHeld : Option (ℕ → ℤ) → (ℕ → ℤ) → Type 0
IsHeld None u = ⊥
IsHeld (Some v) u = (i : ℕ) → v i ≡ u i

-- before a Free item's elements run, each rank holds what it needs, with the values of the sequential run before the item, where that run
-- comes to the item
abbrev pub KeepsNeeds : {F : Type 0} → Slicing F → Type 0
KeepsNeeds c =
    (k r d y : ℕ) (s : Store) (o : List ℕ)
    → k < c.program.items
    → c.program.kind k ≡ Free
    → seq c.program k ≡ Going s o
    → r < c.ranks
    → c.needs k r d y ≡ true
    → IsHeld ((supplied c k (chain_items c k)).stores r d y) (pair_values s d y)
