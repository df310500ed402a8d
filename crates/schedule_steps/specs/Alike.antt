-- Outlines with the same steps and the same order of them.
use Rattle.std.specs.Prelude.{◌≡◌, ◌<◌, ℕ, true}
use Rattle.schedule_steps.specs.Outline.{Outline, runs, by_colour}

-- the two agree wherever the plan has steps
pub record AlikeOutlines (o n : Outline) : Type 0 where
  pub items : o.items ≡ n.items
  pub ranks : o.ranks ≡ n.ranks
  pub is_free : (k : ℕ) → k < o.items → o.is_free k ≡ n.is_free k
  pub sends : (k s r : ℕ) → k < o.items → o.is_free k ≡ true → s < o.ranks → r < o.ranks → o.sends k s r ≡ n.sends k s r
  pub executed : (k r e : ℕ) → k < o.items → o.is_free k ≡ true → r < o.ranks → runs o k r e ≡ runs n k r e
  pub core : (k r e : ℕ) → k < o.items → o.is_free k ≡ true → r < o.ranks → runs o k r e ≡ true → o.is_core k r e ≡ n.is_core k r e
  pub colours : (k r e f : ℕ)
      → k < o.items
      → o.is_free k ≡ true
      → r < o.ranks
      → runs o k r e ≡ true
      → runs o k r f ≡ true
      → by_colour o k r e f ≡ by_colour n k r e f
