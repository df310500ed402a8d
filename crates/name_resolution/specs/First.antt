-- The first of the broken rules: that at the least token, and there the one with the lowest number.
use Rattle.std.specs.Prelude.{◌≡◌, ℕ, ◌<◌, ◌≤◌, ◌⊎◌, Bool, true, false, ◌&&◌, ◌||◌, nat_lt, nat_eq, List, [], ◌∷◌, Option, Some, None, if◌then◌else◌}
use Rattle.std.specs.List.{Contains}
use Rattle.name_resolution.specs.declared.breaches.TypeRule.{TypeRule}
use Rattle.name_resolution.specs.declared.breaches.TypeRule.TheVariants.{UnknownName, DuplicateName, NotAnArray, NotAScalar, AssignsCounter, AssignsConst, TooMuchWork}
use Rattle.name_resolution.specs.declared.breaches.Breach.{Breach}

-- the number of a rule, by which the rules at one token are ordered
abbrev pub number_of : TypeRule → ℕ
number_of UnknownName = 1
number_of DuplicateName = 2
number_of NotAnArray = 3
number_of NotAScalar = 4
number_of AssignsCounter = 5
number_of AssignsConst = 6
number_of TooMuchWork = 7

-- not after the other
abbrev pub NotAfter : Breach → Breach → Type 0
NotAfter a b = (a.at < b.at) ⊎ ((a.at ≡ b.at) × (number_of a.rule ≤ number_of b.rule))

-- the first of these: it is one of them, and none comes before it
pub record IsFirst (all : List Breach) (b : Breach) : Type 0 where
  pub there : Contains all b
  pub first : (other : Breach) → Contains all other → NotAfter b other

-- ---- the first, found by going through them

-- whether a breach comes before another
abbrev pub is_before : Breach → Breach → Bool
is_before a b = nat_lt a.at b.at || (nat_eq a.at b.at && nat_lt (number_of a.rule) (number_of b.rule))

-- the first of those before, unless this one comes before it
abbrev pub earlier : Option Breach → Breach → Option Breach
earlier None b = Some b
earlier (Some a) b = if is_before b a then Some b else Some a

-- the first of a breach kept before, if any, and of these
abbrev pub least_from : Option Breach → List Breach → Option Breach
least_from a [] = a
least_from a (b ∷ bs) = least_from (earlier a b) bs

-- the breach of the rule at that token, where the test holds
abbrev pub breach_if : Bool → TypeRule → ℕ → List Breach
breach_if true r t = record { rule = r; at = t } ∷ []
breach_if false r t = []
