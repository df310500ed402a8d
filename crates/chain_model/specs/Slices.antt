-- Which pairs of a dat and an element a rank needs before each loop of a chain, and which elements it executes, so that one exchange
-- serves the chain.
use Rattle.std.specs.Prelude.{ℕ, suc, Bool, true, false, not, ◌&&◌, ◌||◌, cond, nat_eq, nat_lt, List, [], ◌∷◌, drop}
use Rattle.std.specs.List.{list_any}
use Rattle.lemmas.specs.Below.{any_below}
use Rattle.kernel_model.specs.declared.types.faults.KernelFault.{KernelFault}
use Rattle.op_num.specs.declared.reductions.access.Access.{Access}
use Rattle.op_num.specs.declared.reductions.access.Access.TheVariants.{Read, Rw}
use Rattle.mesh_decl.specs.declared.owners.Owners.{Owners}
use Rattle.mesh_decl.specs.Mesh.{set_size, dat_set}
use Rattle.mesh_decl.specs.Owners.{owner_of}
use Rattle.bound_program.specs.declared.sites.Arg.{Arg}
use Rattle.bound_program.specs.declared.sites.Arg.TheVariants.{Dat, Global}
use Rattle.bound_program.specs.Values.{BoundValue, SiteValue, ItemValue, Free, Reduce, Ordered, Host}
use Rattle.bound_program.specs.Classes.{is_read}
use Rattle.bound_program.specs.Fits.{site_at}
use Rattle.run_model.specs.Windows.{element_by}
use Rattle.run_model.specs.Programs.{program_of}
use Rattle.run_model.specs.Laws.{site_of}
use Rattle.bound_plan.specs.Variables.{reduces_at}
use Rattle.chain_model.specs.Slicing.{Slicing}

-- ---- arguments

-- OP_READ or OP_RW
abbrev pub may_read : Access → Bool
may_read Read = true
may_read Rw = true
may_read a = false

module _ (b : BoundValue) where
  -- element e reaches the pair by the argument, which is OP_READ or OP_RW
  abbrev pub reads_pair : ℕ → ℕ → ℕ → Arg → Bool
  reads_pair d y e (Dat n v a) = may_read a && (nat_eq n d && nat_eq (element_by b v e) y)
  reads_pair d y e (Global v a) = false

  -- element e reaches one of the pairs by the argument, which isn't OP_READ
  abbrev pub modifies_some : (ℕ → ℕ → Bool) → ℕ → Arg → Bool
  modifies_some pairs e (Dat n v a) = not (is_read a) && pairs n (element_by b v e)
  modifies_some pairs e (Global v a) = false

  -- ---- ranks

  module _ (o : Owners) (r : ℕ) where
    -- the pair is the rank's own; what is no element of the dat's set is rank 0's
    abbrev pub owns_pair : ℕ → ℕ → Bool
    owns_pair d y = nat_eq (cond (nat_lt y (set_size b.mesh (dat_set b.mesh d))) (owner_of o (dat_set b.mesh d) y) 0) r

    -- Where the rank needs these pairs behind a loop, it executes an element of the loop that is its own, or that reaches one of them by an
    -- argument other than OP_READ.
    abbrev pub executes_for : (ℕ → ℕ → Bool) → SiteValue → ℕ → Bool
    executes_for pairs site e = nat_eq (owner_of o site.set e) r || list_any (modifies_some pairs e) site.args

    -- Before the loop it needs these pairs, and those that an element which it executes reaches by an OP_READ or OP_RW argument.
    abbrev pub needs_for : (ℕ → ℕ → Bool) → SiteValue → ℕ → ℕ → Bool
    needs_for pairs site d y =
        pairs d y || any_below (set_size b.mesh site.set) (λ e. executes_for pairs site e && list_any (reads_pair d y e) site.args)

    -- What it needs before these loops, one after another: behind the last of them, its own pairs.
    abbrev pub needs_before : List SiteValue → ℕ → ℕ → Bool
    needs_before [] = owns_pair
    needs_before (site ∷ sites) = needs_for (needs_before sites) site

  -- ---- items

  -- the loops of the Free items with which these items begin
  abbrev pub free_sites : List ItemValue → List SiteValue
  free_sites [] = []
  free_sites (Free s ∷ xs) = site_at b s ∷ free_sites xs
  free_sites (Reduce s ∷ xs) = []
  free_sites (Ordered s ∷ xs) = []
  free_sites (Host a ∷ xs) = []

  -- the loops of a chain from item k on; none where the item isn't Free
  abbrev pub loops_from : ℕ → List SiteValue
  loops_from k = free_sites (drop k b.trace)

  module _ (o : Owners) where
    -- item, rank, dat, element: the rank needs the pair before the item
    unfoldable pub needs : ℕ → ℕ → ℕ → ℕ → Bool
    needs k r d y = needs_before o r (loops_from k) d y

    -- item, rank, element: the rank executes the element in the item
    unfoldable pub executes : ℕ → ℕ → ℕ → Bool
    executes k r e = executes_for o r (needs (suc k) r) (site_of b k) e

    -- the program as the machine of chains has it
    abbrev pub slicing_of : Slicing KernelFault
    slicing_of = record {
      program = program_of b;
      reduces = reduces_at b;
      ranks = o.ranks;
      owner = owner_of o;
      needs = needs;
      executes = executes;
    }
