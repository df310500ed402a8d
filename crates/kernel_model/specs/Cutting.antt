-- What a buffer is once the loans of its parts end.
use Rattle.std.specs.Prelude.{ℤ, List, ◌++◌}
use Rattle.std.specs.Borrow.{LendsBoth, MutBor, Fml, Array, i32}

-- the window and then the rest, as they were left
abbrev pub Cuts : MutBor (List ℤ) → MutBor (List ℤ) × MutBor (List ℤ) → Fml
Cuts s r = LendsBoth (Array i32 0) (Array i32 0) (Array i32 0) s r (λ w rest. w ++ rest)
