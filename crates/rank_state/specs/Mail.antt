-- The unread messages.
use Rattle.std.specs.Prelude.{◌≡◌, ℕ, ℤ, ◌+◌, ◌-◌, ◌==◌, ◌&&◌, cond, Bool, List, [], ◌∷◌, ◌++◌, length, Option, Some, None}
use Rattle.rank_state.specs.declared.spans.Span.{Span}
use Rattle.rank_state.specs.Spans.{scattered}

-- an unread message
pub record Post : Type 0 where
  pub item : ℕ
  pub from : ℕ
  pub to : ℕ
  pub values : List ℤ

-- the unread messages, and for how many more cells there is room
pub record Box : Type 0 where
  pub posts : List Post  -- in the order of sending
  pub left : ℕ  -- cells

-- whether the message goes from one of these ranks to the other
abbrev pub is_of : ℕ → ℕ → Post → Bool
is_of from to p = (p.from == from) && (p.to == to)

-- the oldest message of a pair of ranks
abbrev pub first_post : ℕ → ℕ → List Post → Option Post
first_post from to [] = None
first_post from to (p ∷ ps) = cond (is_of from to p) (Some p) (first_post from to ps)

-- the messages without the oldest of a pair of ranks
abbrev pub without_first : ℕ → ℕ → List Post → List Post
without_first from to [] = []
without_first from to (p ∷ ps) = cond (is_of from to p) ps (p ∷ without_first from to ps)

-- the messages after a send
abbrev pub sent : ℕ → ℕ → ℕ → List ℤ → Box → Box
sent k s r values b =
    record {
      posts = b.posts ++ record { item = k; from = s; to = r; values = values } ∷ [];
      left = b.left - length values;
    }

-- the messages after a receive of so many cells
abbrev pub received : ℕ → ℕ → ℕ → Box → Box
received s r count b = record { posts = without_first s r b.posts; left = b.left + count }

-- a memory into which a message's cells went, where one came
abbrev pub arrived : List Span → Option Post → List ℤ → List ℤ
arrived ss None m = m
arrived ss (Some p) m = scattered 0 p.values ss m

-- a message is there, of this item and with so many cells
abbrev pub Carries_as : ℕ → ℕ → Option Post → Type 0
Carries_as k n None = ⊥
Carries_as k n (Some p) = (p.item ≡ k) × (length p.values ≡ n)

-- the oldest message of the pair is of this item and has so many cells
abbrev pub Carries : ℕ → ℕ → ℕ → ℕ → Box → Type 0
Carries k s r n b = Carries_as k n (first_post s r b.posts)
