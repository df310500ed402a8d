-- What holds before an item, and while the ranks run one.
use Rattle.std.proofs.Common.{◌≡◌, ℕ, suc, ◌<◌, ◌⊎◌, true, false, ◌∙◌, Some, None}
use Rattle.schedule_model.specs.Cells.{Data, Variable, DatCell, VarCell}
use Rattle.schedule_model.specs.Program.{is_free, elements}
use Rattle.schedule_model.specs.Setup.{owner_of}
use Rattle.schedule_model.specs.Sequential.{seq}
use Rattle.schedule_model.specs.Machine.{unit_at}
use Rattle.schedule_model.proofs.Public.{output_of, store_at, Each, Member, source, Recorded}
use Rattle.chain_model.specs.Chains.{follows_free}
use Rattle.chain_model.specs.Machine.{ChainState}
use Rattle.chain_model.proofs.Given.{Given, Comes, breaks, made, part, part_before, culprit, KeptBefore}
use Rattle.chain_model.proofs.Stores.{Has, has_like, Sane}

-- rank r has run the first m elements of item k: what it needs before the item has its values, changed by those that it executes
pub record Doing {F : Type 0} (g : Given F) (k r m : ℕ) (st : ChainState F) : Type 0 where
  pub cells : (x : DatCell) → g.needs k r x.dat x.element ≡ true → Has (st.stores r) x (made g k r m x)
  pub here : (v : VarCell) → st.partials r (g.p.program.site k) v ≡ part g k r m v
  pub others : (s : ℕ) (v : VarCell) → (s ≡ g.p.program.site k → ⊥) → st.partials r s v ≡ unit_at (g.p.reduces s v)

pub doing_like : {F : Type 0} (g : Given F) (k r m : ℕ) (a b : ChainState F) → b.stores r ≡ a.stores r
    → ((s : ℕ) (v : VarCell) → b.partials r s v ≡ a.partials r s v) → Doing g k r m a → Doing g k r m b
doing_like g k r m a b same parts d = record {
  cells = λ x n. has_like (a.stores r) (b.stores r) x (made g k r m x) same (d.cells x n);
  here = λ v. parts (g.p.program.site k) v ∙ d.here v;
  others = λ s v ne. parts s v ∙ d.others s v ne;
}

-- the first n ranks have run item k, and rank n its first m elements
pub record During {F : Type 0} (g : Given F) (k n m : ℕ) (st : ChainState F) : Type 0 where
  pub running : st.stop ≡ None
  pub told : st.output ≡ output_of (seq g.p.program k)
  pub sane : Sane st
  pub recorded : Each (Recorded g.p) st.faults
  pub kept : KeptBefore g k st.faults
  pub found : Comes g k
      → (e : ℕ) (f : F)
      → e < elements g.p.program k
      → (g.p.owner (g.p.program.set k) e < n) ⊎ ((g.p.owner (g.p.program.set k) e ≡ n) × (e < m))
      → breaks g k e ≡ Some f
      → Member (culprit k e f) st.faults
  pub variables : Comes g k → (v : VarCell) → st.variables v ≡ store_at g.p k (Variable v)
  pub before : Comes g k → (r : ℕ) → r < n → r < g.p.ranks → Doing g k r (elements g.p.program k) st
  pub now : Comes g k → n < g.p.ranks → Doing g k n m st
  pub behind : Comes g k → (r : ℕ) → n < r → r < g.p.ranks → Doing g k r 0 st

-- the machine runs before item k
pub record Before {F : Type 0} (g : Given F) (k : ℕ) (st : ChainState F) : Type 0 where
  pub running : st.stop ≡ None
  pub told : st.output ≡ output_of (seq g.p.program k)
  pub sane : Sane st
  pub recorded : Each (Recorded g.p) st.faults
  pub kept : KeptBefore g k st.faults
  pub went : (j : ℕ) → j < k → is_free (g.p.program.kind j) ≡ false → Comes g (suc j)
  pub own : Comes g k → (r : ℕ) → r < g.p.ranks → (x : DatCell) → owner_of g.p x ≡ r → Has (st.stores r) x (store_at g.p k (Data x))
  pub inside : Comes g k
      → follows_free g.p.program.kind k ≡ true
      → (r : ℕ)
      → r < g.p.ranks
      → (x : DatCell)
      → g.needs k r x.dat x.element ≡ true
      → Has (st.stores r) x (store_at g.p k (Data x))
  pub variables : Comes g k → (v : VarCell) → st.variables v ≡ store_at g.p (source g.p k) (Variable v)
  pub parts : Comes g k → (r : ℕ) → r < g.p.ranks → (s : ℕ) (v : VarCell) → st.partials r s v ≡ part_before g k r s v
