-- What binding, kernels, owners, halos, exchanges and colours have to give.
use Rattle.std.specs.Prelude.{◌≡◌, ◌<◌, ◌⊎◌, ℕ, ℤ, suc, true, false, Option, Some, None, List, FitsSigned}
use mir.Syntax.{w32}
use Rattle.op_num.specs.Reduction.{Reduction}
use Rattle.schedule_steps.specs.Outline.{by_colour}
use Rattle.schedule_model.specs.Cells.{Data, Variable, DatCell, VarCell, Store, InRange}
use Rattle.schedule_model.specs.History.{ByHistory}
use Rattle.schedule_model.specs.Effects.{Finished, Touch, Untouched, Merged, is_read, is_modified, Independent}
use Rattle.schedule_model.specs.Program.{Free, Reduce, Ordered, is_loop, Goes, elements}
use Rattle.schedule_model.specs.Setup.{Setup, owner_of, has_copy, executes, outline}

-- kernels: values in range, independence, and what Ordered loops leave
pub record Kernels {F : Type 0} (p : Setup F) : Type 0 where
  pub start_in_range : InRange p.program.start
  pub run_in_range : (k e : ℕ) (s t : Store)
      → is_loop (p.program.kind k) ≡ true
      → e < elements p.program k
      → InRange s
      → p.program.run k e s ≡ Finished t
      → InRange t
  pub host_in_range : (k : ℕ) (s : Store) (v : VarCell → ℤ) (o : List ℕ)
      → InRange s
      → p.program.host k s ≡ Goes v o
      → (x : VarCell)
      → FitsSigned w32 (v x)
  pub independent : (k e : ℕ) → p.program.kind k ≡ Free → e < elements p.program k → Independent (p.program.run k e) (p.touch k e)
  pub stays : (k e : ℕ) (s t : Store) (c : DatCell)
      → p.program.kind k ≡ Ordered
      → e < elements p.program k
      → p.program.run k e s ≡ Finished t
      → p.modifies k c.dat ≡ false
      → t (Data c) ≡ s (Data c)

-- items: a Reduce directly after each Free item that reduces into a variable and nowhere else, exchanges by the history, and owners
pub record Items {F : Type 0} (p : Setup F) : Type 0 where
  pub first_item : p.program.kind 0 ≡ Reduce → ⊥
  pub reduce_after : (k : ℕ) → p.program.kind (suc k) ≡ Reduce → (p.program.kind k ≡ Free) × (p.program.site (suc k) ≡ p.program.site k)
  pub reduce_next : (k : ℕ) (v : VarCell) (o : Reduction)
      → p.program.kind k ≡ Free
      → p.reduces (p.program.site k) v ≡ Some o
      → p.program.kind (suc k) ≡ Reduce
  pub last_item : (n : ℕ) → p.program.items ≡ suc n → p.program.kind n ≡ Free → ⊥
  pub exchanges : (d : ℕ) → ByHistory (λ k. p.modifies k d) (λ k. p.needs k d) (λ k. p.exchanged k d)
  pub needs_free : (k d : ℕ) → p.needs k d ≡ true → p.program.kind k ≡ Free
  pub some_rank : 0 < p.ranks
  pub owners : (s e : ℕ) → e < p.program.size s → p.owner s e < p.ranks

-- how elements reach a variable into which the loop reduces, or doesn't
abbrev pub Reaches : Option Reduction → Touch → Type 0
Reaches None x = is_modified x ≡ false
Reaches (Some o) x = x ≡ Merged o

-- the premises of the theorem
pub record Lawful {F : Type 0} (p : Setup F) : Type 0 where
  pub kernels : Kernels p
  pub items : Items p
  -- a Free loop: what one element modifies, another may only merge into, by the same operation
  pub shares : (k a b : ℕ) (c : DatCell)
      → p.program.kind k ≡ Free
      → a < elements p.program k
      → b < elements p.program k
      → (a ≡ b → ⊥)
      → is_modified (p.touch k a (Data c)) ≡ true
      → (p.touch k b (Data c) ≡ Untouched) ⊎ ((o : Reduction) × (p.touch k a (Data c) ≡ Merged o) × (p.touch k b (Data c) ≡ Merged o))
  pub reaches : (k e : ℕ) (v : VarCell)
      → p.program.kind k ≡ Free
      → e < elements p.program k
      → Reaches (p.reduces (p.program.site k) v) (p.touch k e (Variable v))
  pub modified : (k e : ℕ) (c : DatCell)
      → p.program.kind k ≡ Free
      → e < elements p.program k
      → is_modified (p.touch k e (Data c)) ≡ true
      → p.modifies k c.dat ≡ true
  -- halos
  pub imports_other : (r : ℕ) (c : DatCell) → r < p.ranks → has_copy p r c ≡ true → owner_of p c ≡ r → ⊥
  -- who modifies a cell is run by the cell's owner, and in the core by nobody else
  pub covers : (k e : ℕ) (c : DatCell)
      → p.program.kind k ≡ Free
      → e < elements p.program k
      → is_modified (p.touch k e (Data c)) ≡ true
      → executes p k (owner_of p c) e ≡ true
  pub core_modifies : (k r e : ℕ) (c : DatCell)
      → p.program.kind k ≡ Free
      → r < p.ranks
      → e < elements p.program k
      → executes p k r e ≡ true
      → p.core r (p.program.set k) e ≡ true
      → is_modified (p.touch k e (Data c)) ≡ true
      → owner_of p c ≡ r
  -- what an element reads its rank owns, or imports as a cell of a dat that the item needs, and then the element is not core
  pub core_reads : (k r e : ℕ) (c : DatCell)
      → p.program.kind k ≡ Free
      → r < p.ranks
      → e < elements p.program k
      → executes p k r e ≡ true
      → is_read (p.touch k e (Data c)) ≡ true
      → (owner_of p c ≡ r) ⊎ ((has_copy p r c ≡ true) × (p.needs k c.dat ≡ true) × (p.core r (p.program.set k) e ≡ false))
  -- a message goes wherever something that is exchanged is imported
  pub linked : (k r : ℕ) (c : DatCell)
      → p.program.kind k ≡ Free
      → r < p.ranks
      → has_copy p r c ≡ true
      → p.exchanged k c.dat ≡ true
      → p.sends k (owner_of p c) r ≡ true

-- two elements that a rank runs and that modify a common cell have colours that order them one way
abbrev pub Coloured : {F : Type 0} → Setup F → Type 0
Coloured p =
    (k r a b : ℕ) (c : DatCell)
    → p.program.kind k ≡ Free
    → r < p.ranks
    → a < elements p.program k
    → b < elements p.program k
    → executes p k r a ≡ true
    → executes p k r b ≡ true
    → (a ≡ b → ⊥)
    → is_modified (p.touch k a (Data c)) ≡ true → is_modified (p.touch k b (Data c)) ≡ true
    → (by_colour (outline p) k r a b ≡ true) ⊎ (by_colour (outline p) k r b a ≡ true)
