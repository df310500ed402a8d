-- A bound program's loops and dats are in range.
use Rattle.std.proofs.Common.{◌<◌, ℕ, zero, suc, arith, List, [], ◌∷◌, length, Option, Some, None, get_or}
use Rattle.std.specs.Prelude.{All, slice_index_or}
use Rattle.std.proofs.lemmas.List.Elements.{All-get_or, All-head, All-tail}
use Rattle.mesh_decl.specs.Mesh.{dat_count}
use Rattle.bound_program.specs.declared.sites.Arg.{Arg}
use Rattle.bound_program.specs.declared.sites.Arg.TheVariants.{Dat, Global}
use Rattle.bound_program.specs.Values.{Exit, ItemValue, Free, Reduce, Ordered, Host, BoundValue, no_site}
use Rattle.bound_program.specs.Fits.{site_at, due, ArgFits, SiteFits, ItemsFit, Fits}
use Rattle.loop_plan.specs.Needs.{item_at, run_of, AreOfDats, IsLoopOf, IsInRange}

module _ (b : BoundValue) where
  args_in : (set : ℕ) (args : List Arg) → All (ArgFits b set) args → AreOfDats (dat_count b.mesh) args
  args_in set [] h = tt
  args_in set (Dat d v a ∷ xs) h = ((All-head (ArgFits b set) (Dat d v a) xs h).0, args_in set xs (All-tail (ArgFits b set) (Dat d v a) xs h))
  args_in set (Global v a ∷ xs) h = args_in set xs (All-tail (ArgFits b set) (Global v a) xs h)

  items_in : (next : Option ℕ) (xs : List ItemValue) → ItemsFit b next xs → (k : ℕ) → k < length xs → IsLoopOf (length b.sites) (run_of (slice_index_or xs k (Host Exit)))
  items_in next [] h k l = absurd (omega arith)
  items_in None (Free s ∷ xs) h zero l = h.0
  items_in None (Free s ∷ xs) h (suc k) l = items_in (due b s) xs h.2 k (omega arith)
  items_in None (Ordered s ∷ xs) h zero l = h.0
  items_in None (Ordered s ∷ xs) h (suc k) l = items_in None xs h.2 k (omega arith)
  items_in None (Host a ∷ xs) h zero l = tt
  items_in None (Host a ∷ xs) h (suc k) l = items_in None xs h.1 k (omega arith)
  items_in None (Reduce s ∷ xs) h k l = absurd h
  items_in (Some s) (Reduce n ∷ xs) h zero l = tt
  items_in (Some s) (Reduce n ∷ xs) h (suc k) l = items_in None xs h.1 k (omega arith)
  items_in (Some s) (Free n ∷ xs) h k l = absurd h
  items_in (Some s) (Ordered n ∷ xs) h k l = absurd h
  items_in (Some s) (Host a ∷ xs) h k l = absurd h

  loops_in : ItemsFit b None b.trace → (k : ℕ) → k < length b.trace → IsLoopOf (length b.sites) (run_of (item_at b k))
  unfolding item_at
  loops_in h k l = items_in None b.trace h k l

  pub in_range : Fits b → IsInRange b
  in_range h = record {
    loops = loops_in h.items;
    dats = λ s l. (let f : SiteFits b (get_or b.sites s no_site) = All-get_or (SiteFits b) b.sites s no_site l h.sites in args_in (site_at b s).set (site_at b s).args f.args);
  }
