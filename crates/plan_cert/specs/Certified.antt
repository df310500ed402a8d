-- A plan text with colours of others: the one plan that it gives, or why it gives none.
use Rattle.std.specs.Prelude.{◌≡◌, ◌≢◌, ℕ, suc, ◌⊎◌, List, ◌∷◌, ◌++◌, map, length}
use Rattle.std.specs.List.{flat_map}
use Rattle.local_mesh.specs.declared.types.RankMesh.{RankMesh}
use Rattle.colouring.specs.declared.types.Colours.{Colours}
use Rattle.bound_program.specs.Values.{BoundValue}
use Rattle.loop_plan.specs.Values.{SitePlanValue, PlanValue}
use Rattle.loop_plan.specs.Proper.{Proper}
use Rattle.plan_cert.specs.Awaited.{Awaited, Exactly, Sizes, ColoursOf, Done, done_line, ColourLists, awaited, IsSizes, IsSite, BlocksClashIn, PlacesClashIn, FitLines}

-- lines one after another
abbrev pub all : List (List ℕ) → List ℕ
all lines = flat_map (λ l. l) lines

-- the colours as lists alone
abbrev pub lists_of : Colours → ColourLists
lists_of c = record { blocks = c.blocks.items; inner = c.inner.items }

-- the colours of a plan's loops, by loop and rank
abbrev pub colours_in : List (ℕ × SitePlanValue) → List ColourLists
colours_in entries = flat_map (λ (e : ℕ × SitePlanValue). map lists_of e.1.colours) entries

module _ (b : BoundValue) (meshes : List RankMesh) where
  -- The bytes are the lines of this plan, whose colours may have any spelling; it keeps to the program, and conflicts are apart.
  pub record Certified (bytes : List ℕ) (p : PlanValue) : Type 0 where
    pub lines : List (List ℕ)
    pub whole : bytes ≡ all lines
    pub fit : FitLines b meshes p.block (awaited b meshes) lines (colours_in p.sites)
    pub proper : Proper b meshes p

  -- two of the conflicts on the line have one colour: of its blocks first
  abbrev pub Clashes : (size s r : ℕ) → ColourLists → (number : ℕ) → Type 0
  Clashes size s r c number =
      ((number ≡ 6) × BlocksClashIn b meshes size s r c)
      ⊎ ((number ≡ 7) × (¬ BlocksClashIn b meshes size s r c) × PlacesClashIn b meshes size s r c)

  -- no line of the right form stands at the front, or its colours clash
  abbrev pub Refuses : (size : ℕ) → Awaited → (rest : List ℕ) → (number : ℕ) → Type 0
  Refuses size (Exactly n l) rest number = (number ≡ n) × ((more : List ℕ) → rest ≢ l ++ more)
  Refuses size Sizes rest number =
      (number ≡ 2) × ((n : ℕ) (line more : List ℕ) → IsSizes b meshes n line → rest ≢ line ++ more)
  Refuses size (ColoursOf s r) rest number =
      ((number ≡ 4) × ((c : ColourLists) (line more : List ℕ) → IsSite b meshes size s r c line → rest ≢ line ++ more))
      ⊎ ((c : ColourLists) × (line : List ℕ) × (more : List ℕ)
      × (rest ≡ line ++ more) × IsSite b meshes size s r c line × Clashes size s r c number)
  Refuses size Done rest number = (number ≡ 8) × (rest ≢ done_line)

  -- Of these awaited lines, the bytes have lines that fit up to one, and none that fits it. So many stand before it.
  pub record RefusedAmong (size : ℕ) (xs : List Awaited) (bytes : List ℕ) (number before : ℕ) : Type 0 where
    pub lines : List (List ℕ)
    pub rest : List ℕ
    pub split : bytes ≡ all lines ++ rest
    pub earlier : List Awaited
    pub here : Awaited
    pub later : List Awaited
    pub order : xs ≡ earlier ++ here ∷ later
    pub colours : List ColourLists
    pub fit : FitLines b meshes size earlier lines colours
    pub refuses : Refuses size here rest number
    pub at : before ≡ length lines

  -- The first line that is refused, from 1, and by which number: 1 header, 2 sizes, 3 halo, 4 loop, 5 item, 6 conflicting blocks of
  -- one colour, 7 conflicting places of one block and one colour, 8 the end.
  abbrev pub IsRefused : (bytes : List ℕ) (number line : ℕ) → Type 0
  IsRefused bytes number line = (size : ℕ) × (before : ℕ) × (line ≡ suc before) × RefusedAmong size (awaited b meshes) bytes number before
