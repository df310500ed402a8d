-- The first of a rank's elements in the standard order with groups of one.
use Rattle.std.specs.Prelude.{◌≡◌, ◌<◌, ◌≤◌, ◌⊎◌, ℕ, Bool, true, ◌&&◌, ◌||◌, ◌==◌, nat_lt}
use Rattle.schedule_steps.specs.Outline.{Outline, runs}
use Rattle.schedule_steps.specs.declared.step.Step.{Step}
use Rattle.schedule_steps.specs.declared.step.Step.TheVariants.{Begin, End}

-- by these numbers, and where they are equal by what follows
abbrev pub by_number : ℕ → ℕ → Bool → Bool
by_number a b rest = nat_lt a b || ((a == b) && rest)

-- item, rank, two elements: by block colour, block, colour and number the first goes before the second
abbrev pub goes_first : Outline → ℕ → ℕ → ℕ → ℕ → Bool
goes_first o k r x y =
    by_number (o.block_colour k r (o.block k r x)) (o.block_colour k r (o.block k r y))
    (by_number (o.block k r x) (o.block k r y) (by_number (o.colour k r x) (o.colour k r y) (nat_lt x y)))

-- of two elements the one with the lower number has no higher block
abbrev pub BlocksInOrder : Outline → ℕ → ℕ → Type 0
BlocksInOrder o k r = (x y : ℕ) → x < y → o.block k r x ≤ o.block k r y

-- the element's begin or its end meets the test
abbrev pub meets : (Step → Bool) → ℕ → ℕ → ℕ → Bool
meets f k r x = f (Begin k r x) || f (End k r x)

-- the rank runs the element, which meets the test, and each other that does goes after it
pub record IsFirst (o : Outline) (f : Step → Bool) (k r x : ℕ) : Type 0 where
  pub is_run : runs o k r x ≡ true
  pub is_met : meets f k r x ≡ true
  pub first : (y : ℕ) → runs o k r y ≡ true → meets f k r y ≡ true → (y ≡ x) ⊎ (goes_first o k r x y ≡ true)
