-- The steps of a plan, which steps are earlier than which, and the lists of steps that are accepted.
use Rattle.std.specs.Prelude.{◌≡◌, ◌<◌, ℕ, Bool, true, false, ◌&&◌, ◌||◌, ◌==◌, List, [], ◌∷◌, ◌++◌}
use Rattle.schedule_steps.specs.declared.step.Step.{Step}
use Rattle.schedule_steps.specs.declared.step.Step.TheVariants.{Send, Recv, Begin, End, Join}
use Rattle.schedule_steps.specs.Outline.{Outline, runs, by_colour}

-- the item of a step
abbrev pub item : Step → ℕ
item (Send k s r) = k
item (Recv k r s) = k
item (Begin k r e) = k
item (End k r e) = k
item (Join k) = k

-- the step is one of the rank's; a join is a step of every rank
abbrev pub IsOf : Step → ℕ → Type 0
IsOf (Send k s r) x = s ≡ x
IsOf (Recv k r s) x = r ≡ x
IsOf (Begin k r e) x = r ≡ x
IsOf (End k r e) x = r ≡ x
IsOf (Join k) x = Unit {0}

-- in the item a message goes from s to r
abbrev pub Passes : Outline → ℕ → ℕ → ℕ → Type 0
Passes o k s r = (k < o.items) × (o.is_free k ≡ true) × (s < o.ranks) × (r < o.ranks) × (o.sends k s r ≡ true)

-- in the item the rank runs the element
abbrev pub Executes : Outline → ℕ → ℕ → ℕ → Type 0
Executes o k r e = (k < o.items) × (o.is_free k ≡ true) × (r < o.ranks) × (runs o k r e ≡ true)

-- the step is one of the plan's
abbrev pub IsStep : Outline → Step → Type 0
IsStep o (Send k s r) = Passes o k s r
IsStep o (Recv k r s) = Passes o k s r
IsStep o (Begin k r e) = Executes o k r e
IsStep o (End k r e) = Executes o k r e
IsStep o (Join k) = (k < o.items) × (o.is_free k ≡ false)

-- the first step has to come before the second
pub data Earlier (o : Outline) : Step → Step → Type 0 where
  by_item : {t s : Step} (r : ℕ) → IsOf t r → IsOf s r → item t < item s → Earlier o t s
  sent : {k s r : ℕ} → Earlier o (Send k s r) (Recv k r s)
  sent_first : {k s r e : ℕ} → Earlier o (Send k s r) (Begin k s e)
  received : {k r s e : ℕ} → o.is_core k r e ≡ false → Earlier o (Recv k r s) (Begin k r e)
  begun : {k r e : ℕ} → Earlier o (Begin k r e) (End k r e)
  coloured : {k r e f : ℕ} → by_colour o k r e f ≡ true → Earlier o (End k r e) (Begin k r f)

-- the two triples are one
abbrev pub same3 : ℕ → ℕ → ℕ → ℕ → ℕ → ℕ → Bool
same3 a b c x y z = (a == x) && ((b == y) && (c == z))

-- the two steps are one
abbrev pub same : Step → Step → Bool
same (Send a b c) (Send x y z) = same3 a b c x y z
same (Recv a b c) (Recv x y z) = same3 a b c x y z
same (Begin a b c) (Begin x y z) = same3 a b c x y z
same (End a b c) (End x y z) = same3 a b c x y z
same (Join a) (Join x) = a == x
same _ _ = false

-- the step stands in the list
abbrev pub has : List Step → Step → Bool
has [] t = false
has (s ∷ l) t = same t s || has l t

-- each step of the plan stands in the list, no other does, none stands twice, and each comes after its earlier steps
pub record Accepted (o : Outline) (l : List Step) : Type 0 where
  pub whole : (s : Step) → IsStep o s → has l s ≡ true
  pub steps : (pre : List Step) (s : Step) (post : List Step) → l ≡ pre ++ (s ∷ post) → IsStep o s
  pub once : (pre : List Step) (s : Step) (post : List Step) → l ≡ pre ++ (s ∷ post) → has pre s ≡ false
  pub order : (pre : List Step) (s : Step) (post : List Step)
      → l ≡ pre ++ (s ∷ post)
      → (t : Step)
      → IsStep o t
      → Earlier o t s
      → has pre t ≡ true
