-- Colours as words of a line.
use Rattle.std.specs.Prelude.{◌≡◌, ℕ, List, ◌∷◌, ◌++◌, Vec, Option, Some, None, codes, length}
use Rattle.std.specs.declared.alloc.Global.{Global}
use Rattle.std.specs.Fmt.{decimal}
use Rattle.loop_plan.specs.Spaced.{spaced}
use Rattle.colouring.specs.declared.types.Colours.{Colours}
use Rattle.plan_cert.specs.Awaited.{AreColours}

-- the next words are so many colours, behind which those of `new` come; or they aren't
abbrev pub ToldIs : List (List ℕ) → List (List ℕ) → ℕ → Option (Vec ℕ Global) → Type 0
ToldIs old new count None = (ws more : List (List ℕ)) (cs : List ℕ) → old ≡ ws ++ more → AreColours ws cs → length cs ≡ count → ⊥
ToldIs old new count (Some v) = (ws : List (List ℕ)) × (old ≡ ws ++ new) × AreColours ws v.items × (length v.items ≡ count)

-- what stands in front of a loop's colours on a rank
abbrev pub site_front : (site rank places : ℕ) → List ℕ
site_front s r n = codes "site " ++ (decimal s ++ (codes " rank " ++ (decimal r ++ (codes " places " ++ (decimal n ++ codes " blocks")))))

-- behind `front` the line has these colours of so many blocks and so many places, in these words
pub record TellsColours (front line : List ℕ) (blocks places : ℕ) (block_colours inner : List ℕ) : Type 0 where
  pub block_words : List (List ℕ)
  pub inner_words : List (List ℕ)
  pub are_blocks : AreColours block_words block_colours
  pub are_inner : AreColours inner_words inner
  pub block_count : length block_colours ≡ blocks
  pub inner_count : length inner ≡ places
  pub is : line ≡ front ++ spaced (block_words ++ codes "inner" ∷ inner_words)

-- the colours are those that the line tells; none where it tells none
abbrev pub LineIs : (front line : List ℕ) (blocks places : ℕ) → Option Colours → Type 0
LineIs front line blocks places None = (bs cs : List ℕ) → TellsColours front line blocks places bs cs → ⊥
LineIs front line blocks places (Some c) = TellsColours front line blocks places c.blocks.items c.inner.items
