-- The standard order with groups of g elements: items in order; in a Free item all sends, all receives, and each rank's elements by block
-- colour, block, colour and number, each run of up to g elements of one colour of one block begun and then ended.
use Rattle.std.specs.Prelude.{ℕ, zero, suc, ◌+◌, ◌/◌, max, Bool, true, false, cond, ◌&&◌, ◌==◌, List, [], ◌∷◌, ◌++◌}
use Rattle.schedule_steps.specs.Outline.{Outline, runs}
use Rattle.schedule_steps.specs.declared.step.Step.{Step}
use Rattle.schedule_steps.specs.declared.step.Step.TheVariants.{Send, Recv, Begin, End, Join}

-- f 0, f 1, .. and f (n - 1), one after another
abbrev pub below : (ℕ → List Step) → ℕ → List Step
below f zero = []
below f (suc n) = below f n ++ f n

-- the list, where the test holds
abbrev pub where_true : Bool → List Step → List Step
where_true b l = cond b l []

-- the least number that is greater than each of f 0, .. and f (n - 1)
abbrev pub above : (ℕ → ℕ) → ℕ → ℕ
above f zero = 0
above f (suc n) = max (above f n) (suc (f n))

-- one where the test holds
abbrev pub one_if : Bool → ℕ
one_if true = 1
one_if false = 0

-- how many numbers below n meet the test
abbrev pub tally : (ℕ → Bool) → ℕ → ℕ
tally t zero = 0
tally t (suc n) = tally t n + one_if (t n)

module _ (o : Outline) where
  -- the sends of rank s, by receiver
  abbrev pub sends_of : ℕ → ℕ → List Step
  sends_of k s = below (λ r. where_true (o.sends k s r) (Send k s r ∷ [])) o.ranks

  -- the receives of rank r, by sender
  abbrev pub receives_of : ℕ → ℕ → List Step
  receives_of k r = below (λ s. where_true (o.sends k s r) (Recv k r s ∷ [])) o.ranks

  -- rank r runs the element, which is of block b and has the colour c
  abbrev pub is_member : ℕ → ℕ → ℕ → ℕ → ℕ → Bool
  is_member k r b c x = runs o k r x && ((o.block k r x == b) && (o.colour k r x == c))

  -- the number of the run of g elements to which the element belongs, among those of its block and colour
  abbrev pub group_of : ℕ → ℕ → ℕ → ℕ → ℕ
  group_of g k r x = tally (is_member k r (o.block k r x) (o.colour k r x)) x / g

  -- it is in run j of block b and colour c
  abbrev pub in_group : ℕ → ℕ → ℕ → ℕ → ℕ → ℕ → ℕ → Bool
  in_group g k r b c j x = is_member k r b c x && (group_of g k r x == j)

  -- a run's begins and then its ends
  abbrev pub group_steps : ℕ → ℕ → ℕ → ℕ → ℕ → ℕ → List Step
  group_steps g k r b c j =
      below (λ x. where_true (in_group g k r b c j x) (Begin k r x ∷ [])) (o.count k r)
      ++ below (λ x. where_true (in_group g k r b c j x) (End k r x ∷ [])) (o.count k r)

  -- the elements of a block by colour and run
  abbrev pub block_steps : ℕ → ℕ → ℕ → ℕ → List Step
  block_steps g k r b =
      below (λ c. below (λ j. group_steps g k r b c j) (above (group_of g k r) (o.count k r))) (above (o.colour k r) (o.count k r))

  -- how many blocks the rank may have
  abbrev pub blocks : ℕ → ℕ → ℕ
  blocks k r = above (o.block k r) (o.count k r)

  -- a rank's elements by block colour and block
  abbrev pub element_steps : ℕ → ℕ → ℕ → List Step
  element_steps g k r =
      below
      (λ h. below (λ b. where_true (o.block_colour k r b == h) (block_steps g k r b)) (blocks k r))
      (above (o.block_colour k r) (blocks k r))

  -- the steps of an item
  abbrev pub item_steps : ℕ → ℕ → List Step
  item_steps g k =
      cond (o.is_free k) (below (sends_of k) o.ranks ++ (below (receives_of k) o.ranks ++ below (element_steps g k) o.ranks)) (Join k ∷ [])

  -- the standard order
  abbrev pub standard : ℕ → List Step
  standard g = below (item_steps g) o.items
