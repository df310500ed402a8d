-- Colours as an outline of a plan tells them.
use Rattle.std.specs.Prelude.{◌≡◌, ℕ, ◌/◌, slice_index}
use Rattle.schedule_steps.specs.Outline.{Outline}
use Rattle.colouring.specs.declared.types.Colours.{Colours}

-- At item k the outline gives rank r these blocks and colours; each element has a place.
pub record IsOutlined (o : Outline) (k r : ℕ) (place : ℕ → ℕ) (size : ℕ) (c : Colours) : Type 0 where
  pub block : (e : ℕ) → o.block k r e ≡ place e / size
  pub block_colour : (b : ℕ) → o.block_colour k r b ≡ slice_index c.blocks.items b
  pub colour : (e : ℕ) → o.colour k r e ≡ slice_index c.inner.items (place e)
