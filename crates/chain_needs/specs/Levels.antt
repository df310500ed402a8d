-- What is kept of a loop of a chain.
use Rattle.std.specs.Prelude.{◌≡◌, ◌<◌, ◌-◌, ℕ, suc, true, List, [], ◌∷◌, Vec, length, drop, slice_index_or}
use Rattle.std.specs.declared.alloc.Global.{Global}
use Rattle.lemmas.specs.Below.{listed, row}
use Rattle.local_mesh.specs.RankSet.{has_at}
use Rattle.local_mesh.specs.declared.rank_sets.rank_set.RankSet.{RankSet}
use Rattle.mesh_decl.specs.declared.owners.Owners.{Owners}
use Rattle.mesh_decl.specs.Mesh.{set_size}
use Rattle.bound_program.specs.Values.{BoundValue, SiteValue}
use Rattle.chain_model.specs.Slices.{needs_before, executes_for}
use Rattle.chain_needs.specs.PairSets.{pairs_of}
use Rattle.chain_needs.specs.Needed.{AreNeeded}
use Rattle.chain_needs.specs.declared.chain_slices.levels.Level.{Level}

-- the sets have ranks below this number alone
abbrev pub AreBelow : ℕ → List (Vec RankSet Global) → Type 0
AreBelow ranks sets = (d y r : ℕ) → pairs_of sets r d y ≡ true → r < ranks

module _ (b : BoundValue) (o : Owners) where
  -- the level of a loop of a chain, behind which these stand
  pub record IsLevel (site : SiteValue) (later : List SiteValue) (l : Level) : Type 0 where
    pub needed : AreNeeded b o (site ∷ later) l.needed.items
    pub count : length l.executing.items ≡ set_size b.mesh site.set
    pub executing : (e r : ℕ)
        → e < set_size b.mesh site.set → has_at l.executing.items e r ≡ executes_for b o r (needs_before b o r later) site e
    pub ranks : length l.elements.items ≡ o.ranks
    pub elements : (r : ℕ)
        → r < o.ranks → row l.elements.items r ≡ listed (set_size b.mesh site.set) (executes_for b o r (needs_before b o r later) site)

  -- the level of the first of these loops of a chain
  abbrev pub IsFirstLevel : List SiteValue → Level → Type 0
  IsFirstLevel [] l = ⊥
  IsFirstLevel (site ∷ later) l = IsLevel site later l

  -- those of all loops, the last loop's first
  pub record AreLevels (sites : List SiteValue) (levels : List Level) : Type 0 where
    pub count : length levels ≡ length sites
    pub each : (i : ℕ) (l : Level) → i < length levels → IsFirstLevel (drop (length sites - suc i) sites) (slice_index_or levels i l)

-- what is needed before the loops that have these levels; before none, these pairs
abbrev pub front_of : List (Vec RankSet Global) → List Level → List (Vec RankSet Global)
front_of own [] = own
front_of own (l ∷ ls) = (slice_index_or (l ∷ ls) (length ls) l).needed.items
