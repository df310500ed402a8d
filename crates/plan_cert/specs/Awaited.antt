-- What is awaited on each line of a plan text with colours of others, and the lines that fit it.
use Rattle.std.specs.Prelude.{◌≡◌, ℕ, zero, suc, cond, ◌*◌, ◌^◌, ◌<◌, ◌≤◌, ◌↔◌, List, [], ◌∷◌, ◌++◌, Some, codes, length}
use Rattle.std.specs.Fmt.{decimal}
use Rattle.op_num.specs.Spelling.{number_of}
use Rattle.op_num.specs.Lines.{line_of}
use Rattle.mesh_decl.specs.Mesh.{set_count}
use Rattle.local_mesh.specs.declared.types.RankMesh.{RankMesh}
use Rattle.colouring.specs.Clashes.{BlocksClash, PlacesClash}
use Rattle.bound_program.specs.Values.{BoundValue}
use Rattle.bound_program.specs.Fits.{site_at}
use Rattle.loop_plan.specs.Needs.{item_at}
use Rattle.loop_plan.specs.Places.{reducing, places_of, maps_of, runs_free}
use Rattle.loop_plan.specs.Pairs.{sets_of}
use Rattle.loop_plan.specs.StepCounts.{exchange_of}
use Rattle.loop_plan.specs.PlanText.{halo_line, item_line}

-- One line: this one, which is refused by that number where another stands there; the sizes; the colours of a loop on a rank; the end.
pub data Awaited : Type 0 where
  Exactly : (number : ℕ) (line : List ℕ) → Awaited
  Sizes : Awaited
  ColoursOf : (site rank : ℕ) → Awaited
  Done : Awaited

-- those of 0, of 1, and so on below n, one after another
abbrev pub each_below : (ℕ → List Awaited) → ℕ → List Awaited
each_below f zero = []
each_below f (suc n) = each_below f n ++ f n

-- the first line
abbrev pub header_line : List ℕ
header_line = codes "op2plan 1\n"

-- what stands before the block size on the line of sizes
abbrev pub sizes_front : ℕ → List ℕ
sizes_front ranks = codes "ranks " ++ (decimal ranks ++ codes " block ")

-- the last line
abbrev pub done_line : List ℕ
done_line = codes "done\n"

-- the colours of the blocks, and of the places
pub record ColourLists : Type 0 where
  pub blocks : List ℕ
  pub inner : List ℕ

-- each word is digits with this value below 2 ^ 32
abbrev pub AreColours : List (List ℕ) → List ℕ → Type 0
AreColours [] [] = Unit {0}
AreColours (w ∷ ws) (c ∷ cs) = (number_of w ≡ Some c) × (c < 2 ^ 32) × AreColours ws cs
AreColours [] (c ∷ cs) = ⊥
AreColours (w ∷ ws) [] = ⊥

module _ (b : BoundValue) (meshes : List RankMesh) where
  -- the line of a set's halo on a rank
  abbrev pub awaited_halo : ℕ → ℕ → Awaited
  awaited_halo s r = Exactly 3 (line_of (halo_line b.mesh (sets_of meshes r) s r))

  -- the lines of a set's halos, by rank
  abbrev pub awaited_set : ℕ → List Awaited
  awaited_set s = each_below (λ r. awaited_halo s r ∷ []) (length meshes)

  -- the lines of all halos, by set and rank
  abbrev pub awaited_halos : List Awaited
  awaited_halos = each_below awaited_set (set_count b.mesh)

  -- the lines of a loop's colours, by rank
  abbrev pub awaited_ranks : ℕ → List Awaited
  awaited_ranks s = each_below (λ r. ColoursOf s r ∷ []) (length meshes)

  -- the lines of the loops below n that run as Free ones
  abbrev pub awaited_sites : ℕ → List Awaited
  awaited_sites n = each_below (λ s. cond (runs_free b s) (awaited_ranks s) []) n

  -- the line of an item
  abbrev pub awaited_item : ℕ → Awaited
  awaited_item k = Exactly 5 (line_of (item_line b.mesh k (item_at b k) (exchange_of b meshes k)))

  -- the lines of all items
  abbrev pub awaited_items : List Awaited
  awaited_items = each_below (λ k. awaited_item k ∷ []) (length b.trace)

  -- all lines
  abbrev pub awaited : List Awaited
  awaited = Exactly 1 header_line ∷ Sizes ∷ (awaited_halos ++ (awaited_sites (length b.sites) ++ (awaited_items ++ Done ∷ [])))

  -- `ranks N block B`, with 1 to 65,536 places a block
  pub record IsSizes (size : ℕ) (line : List ℕ) : Type 0 where
    pub some : 0 < size
    pub few : size ≤ 65536
    pub is : line ≡ line_of (codes "ranks" ∷ decimal (length meshes) ∷ codes "block" ∷ decimal size ∷ [])

  -- how many places rank r executes of loop s
  abbrev pub places_in : ℕ → ℕ → ℕ
  places_in s r = places_of meshes (site_at b s) r

  -- `site S rank R places C blocks C .. inner C ..`, with a colour for each block and each place
  pub record IsSite (size s r : ℕ) (c : ColourLists) (line : List ℕ) : Type 0 where
    pub blocks : List (List ℕ)
    pub inner : List (List ℕ)
    pub are_blocks : AreColours blocks c.blocks
    pub are_inner : AreColours inner c.inner
    pub block_count : (a : ℕ) → (a < length c.blocks) ↔ (a * size < places_in s r)
    pub inner_count : length c.inner ≡ places_in s r
    pub is : line
        ≡ line_of ((codes "site" ∷ decimal s ∷ codes "rank" ∷ decimal r ∷ codes "places" ∷ decimal (places_in s r)
        ∷ codes "blocks" ∷ blocks) ++ (codes "inner" ∷ inner))

  -- two blocks of rank r in conflict have one colour
  abbrev pub BlocksClashIn : (size s r : ℕ) → ColourLists → Type 0
  BlocksClashIn size s r c = BlocksClash b.mesh (maps_of meshes r) (reducing (site_at b s).args) (places_in s r) size c.blocks

  -- two places of one block in conflict have one colour
  abbrev pub PlacesClashIn : (size s r : ℕ) → ColourLists → Type 0
  PlacesClashIn size s r c = PlacesClash b.mesh (maps_of meshes r) (reducing (site_at b s).args) (places_in s r) size c.inner

  -- the line is one that is awaited, in blocks of this size; its colours are these, and keep all conflicts apart
  abbrev pub FitsLine : (size : ℕ) → Awaited → (line : List ℕ) → List ColourLists → Type 0
  FitsLine size (Exactly n l) line cs = (line ≡ l) × (cs ≡ [])
  FitsLine size Sizes line cs = IsSizes size line × (cs ≡ [])
  FitsLine size Done line cs = (line ≡ done_line) × (cs ≡ [])
  FitsLine size (ColoursOf s r) line cs =
      (c : ColourLists) × (cs ≡ c ∷ []) × IsSite size s r c line × (¬ BlocksClashIn size s r c) × (¬ PlacesClashIn size s r c)

  -- each line does; the colours stand one after another
  abbrev pub FitLines : (size : ℕ) → List Awaited → List (List ℕ) → List ColourLists → Type 0
  FitLines size [] [] cs = cs ≡ []
  FitLines size (x ∷ xs) (l ∷ ls) cs =
      (first : List ColourLists) × (more : List ColourLists) × (cs ≡ first ++ more) × FitsLine size x l first × FitLines size xs ls more
  FitLines size [] (l ∷ ls) cs = ⊥
  FitLines size (x ∷ xs) [] cs = ⊥
