-- What is kept of a chain, by the list of its loops alone.
use Rattle.std.specs.Prelude.{◌≡◌, ◌<◌, ℕ, Bool, not, ◌&&◌, List, length, map, slice_index}
use Rattle.lemmas.specs.Below.{count_below, listed, row, rows}
use Rattle.mesh_decl.specs.declared.owners.Owners.{Owners}
use Rattle.mesh_decl.specs.Mesh.{dat_count, dat_set, set_size}
use Rattle.bound_program.specs.Values.{BoundValue, SiteValue}
use Rattle.bound_program.specs.Fits.{site_at}
use Rattle.chain_model.specs.Slices.{needs_before, owns_pair}
use Rattle.chain_model.specs.Counts.{some_pair, sum_below}
use Rattle.chain_needs.specs.declared.chain_slices.shapes.Shape.{Shape}
use Rattle.chain_needs.specs.Levels.{AreLevels}

module _ (b : BoundValue) (o : Owners) (sites : List SiteValue) where
  -- before these loops rank r needs a pair that isn't its own
  abbrev pub needs_others : ℕ → ℕ → ℕ → Bool
  needs_others r d y = needs_before b o r sites d y && not (owns_pair b o r d y)

  -- s sends to r: r needs a pair that s owns and r doesn't
  abbrev pub sends_before : ℕ → ℕ → Bool
  sends_before s r = some_pair b (λ d y. needs_before b o r sites d y && (owns_pair b o s d y && not (owns_pair b o r d y)))

  -- the messages at the start of a chain of these loops, by sender and receiver
  abbrev pub chain_messages : ℕ
  chain_messages = sum_below o.ranks (λ s. count_below o.ranks (sends_before s))

-- the loops of a chain as the program has them
abbrev pub loops_of : BoundValue → Shape → List SiteValue
loops_of b s = map (site_at b) s.sites.items

-- what is kept of a chain of these loops
pub record IsShape (b : BoundValue) (o : Owners) (s : Shape) : Type 0 where
  pub there : (k : ℕ) → k < length s.sites.items → slice_index s.sites.items k < length b.sites
  pub levels : AreLevels b o (loops_of b s) s.levels.items
  pub dats : length s.copies.items ≡ dat_count b.mesh
  pub ranks : (d : ℕ) → d < dat_count b.mesh → length (rows s.copies.items d) ≡ o.ranks
  pub copies : (d r : ℕ)
      → d < dat_count b.mesh
      → r < o.ranks
      → row (rows s.copies.items d) r ≡ listed (set_size b.mesh (dat_set b.mesh d)) (needs_others b o (loops_of b s) r d)
  pub messages : s.messages ≡ chain_messages b o (loops_of b s)
