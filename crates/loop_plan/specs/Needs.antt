-- Which dats the items of a bound program modify and need, and which they exchange.
use Rattle.std.specs.Prelude.{◌≡◌, ℕ, ◌<◌, Bool, true, false, ◌&&◌, nat_eq, List, [], ◌∷◌, Option, Some, None, length, slice_index_or}
use Rattle.std.specs.List.{list_any}
use Rattle.lemmas.specs.Below.{listed}
use Rattle.op_num.specs.declared.reductions.access.Access.{Access}
use Rattle.op_num.specs.declared.reductions.access.Access.TheVariants.{Read, Rw}
use Rattle.mesh_decl.specs.declared.access.Via.{Via}
use Rattle.mesh_decl.specs.Mesh.{dat_count}
use Rattle.schedule_model.specs.History.{ByHistory, stale_bit}
use Rattle.bound_program.specs.declared.sites.Arg.{Arg}
use Rattle.bound_program.specs.declared.sites.Arg.TheVariants.{Dat, Global}
use Rattle.bound_program.specs.Values.{Exit, ItemValue, Free, Ordered, Host, BoundValue}
use Rattle.bound_program.specs.Classes.{modifies, scatters}
use Rattle.bound_program.specs.Fits.{site_at}
use Rattle.loop_plan.specs.declared.exchange.LoopRun.{LoopRun}
use Rattle.loop_plan.specs.declared.exchange.LoopRun.TheVariants as run
use Rattle.loop_plan.specs.Values.{PlanValue, item_plan}

-- ---- loops

-- Whether copies have to be fresh for an argument that is reached like this: those that a map leads to are read, or the loop also
-- runs imported elements, which are read directly.
abbrev pub reads_copies : Bool → Option Via → Access → Bool
reads_copies scattering (Some v) Read = true
reads_copies scattering None Read = scattering
reads_copies scattering None Rw = scattering
reads_copies scattering v a = false

-- the argument is on the dat and asks for fresh copies
abbrev pub arg_needs : Bool → ℕ → Arg → Bool
arg_needs scattering d (Dat e v a) = nat_eq e d && reads_copies scattering v a
arg_needs scattering d (Global v a) = false

-- a Free loop with these arguments needs the dat
abbrev pub needs : List Arg → ℕ → Bool
needs args d = list_any (arg_needs (scatters args) d) args

-- each dat of the arguments is one of so many
abbrev pub AreOfDats : ℕ → List Arg → Type 0
AreOfDats dats [] = Unit {0}
AreOfDats dats (Dat d v a ∷ xs) = (d < dats) × AreOfDats dats xs
AreOfDats dats (Global v a ∷ xs) = AreOfDats dats xs

-- ---- items

module _ (b : BoundValue) where
  -- an item by its number
  unfoldable pub item_at : ℕ → ItemValue
  item_at k = slice_index_or b.trace k (Host Exit)

  -- the arguments of a loop that runs
  abbrev pub loop_args : ItemValue → List Arg
  loop_args (Free s) = (site_at b s).args
  loop_args (Ordered s) = (site_at b s).args
  loop_args i = []

  -- the arguments of a Free loop; none of another item
  abbrev pub free_args : ItemValue → List Arg
  free_args (Free s) = (site_at b s).args
  free_args i = []

  -- whether an item modifies a dat
  abbrev pub item_modifies : ℕ → ℕ → Bool
  item_modifies k d = modifies (loop_args (item_at k)) d

  -- whether an item needs fresh copies of a dat
  abbrev pub item_needs : ℕ → ℕ → Bool
  item_needs k d = needs (free_args (item_at k)) d

  -- the item's loop is Free and merges amounts into what its maps lead to
  abbrev pub item_scatters : ℕ → Bool
  item_scatters k = scatters (free_args (item_at k))

  -- ---- exchanges

  -- the item exchanges the dat
  abbrev pub exchanges : PlanValue → ℕ → ℕ → Bool
  exchanges p k d = list_any (nat_eq d) (item_plan p k).exchange

  -- A dat is exchanged exactly where it is needed, some earlier item modified it, and none between exchanged it; an item lists
  -- its dats in order of declaration.
  pub record AreExchanges (p : PlanValue) : Type 0 where
    pub history : (d : ℕ) → ByHistory (λ k. item_modifies k d) (λ k. item_needs k d) (λ k. exchanges p k d)
    pub in_order : (k : ℕ) → k < length b.trace → (item_plan p k).exchange ≡ listed (dat_count b.mesh) (exchanges p k)

-- ---- items in code

-- how an item runs a loop
abbrev pub run_of : ItemValue → LoopRun
run_of (Free s) = run.Free s
run_of (Ordered s) = run.Ordered s
run_of i = run.No

-- the loop that an item runs is one of so many
abbrev pub IsLoopOf : ℕ → LoopRun → Type 0
IsLoopOf n (run.Free s) = s < n
IsLoopOf n (run.Ordered s) = s < n
IsLoopOf n run.No = Unit {0}

-- loops and dats are in range
pub record IsInRange (b : BoundValue) : Type 0 where
  pub loops : (k : ℕ) → k < length b.trace → IsLoopOf (length b.sites) (run_of (item_at b k))
  pub dats : (s : ℕ) → s < length b.sites → AreOfDats (dat_count b.mesh) (site_at b s).args

-- whether a dat's copies are stale before an item, as the code tells it by one bit a dat
abbrev pub stale_before : BoundValue → ℕ → ℕ → Bool
stale_before b k d = stale_bit (λ i. item_modifies b i d) (λ i. item_needs b i d) k

-- whether an item exchanges a dat, by such bits
abbrev pub exchanged_at : BoundValue → ℕ → ℕ → Bool
exchanged_at b k d = stale_before b k d && item_needs b k d
