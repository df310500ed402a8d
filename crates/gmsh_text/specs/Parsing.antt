-- Reading tokens from the front: what is read, and what is to come behind it; or the first refusal.
use Rattle.std.specs.Prelude.{◌≡◌, ℕ, zero, suc, ◌⊎◌, Option, Some, None, Result, Ok, Err}
use Rattle.op_num.specs.Cut.{Word, Uncut, first_of, rest_of}
use Rattle.op_num.specs.Automaton.{onto}
use Rattle.gmsh_text.specs.declared.refusal.TextRefusal.{TextRefusal}
use Rattle.gmsh_text.specs.declared.refusal.TextRefusal.TheVariants.{Syntax, OutOfMemory}

-- what reading gives: a value and what is to come, or a refusal
abbrev pub Parsed : Type 0 → Type 0
Parsed A = Result (A × Uncut) TextRefusal

-- and then, behind what was read
abbrev pub and_then : {A B : Type 0} → Parsed A → (A → Uncut → Parsed B) → Parsed B
and_then (Ok r) next = next r.0 r.1
and_then (Err e) next = Err e

-- one reading a number of times, each going on from the value of the one before
unfoldable pub repeat : {S : Type 0} → (S → Uncut → Parsed S) → ℕ → S → Uncut → Parsed S
repeat row zero s u = Ok (s, u)
repeat row (suc n) s u = and_then (row s u) (repeat row n)

-- the token, judged; a missing one is refused at the line of the last
abbrev pub judged : {A : Type 0} → Option Word → (Word → Result A TextRefusal) → Uncut → Parsed A
judged None judge u = Err (Syntax u.last)
judged (Some w) judge u = onto (judge w) (λ x. (x, rest_of u))

-- the next token, judged
abbrev pub taken : {A : Type 0} → (Word → Result A TextRefusal) → Uncut → Parsed A
taken judge u = judged (first_of u) judge u

-- this was read, and that is to come; or it is refused so
abbrev pub IsRead : {A : Type 0} → Result A TextRefusal → Uncut → Parsed A → Type 0
IsRead (Ok x) u r = r ≡ Ok (x, u)
IsRead (Err e) u r = r ≡ Err e

-- this value was made, and that is to come; or it is refused so. Want of memory is free.
abbrev pub IsMade : {A S : Type 0} → Result A TextRefusal → S → Uncut → Parsed S → Type 0
IsMade (Ok x) s u r = r ≡ Ok (s, u)
IsMade (Err e) s u r = (e ≡ OutOfMemory) ⊎ (r ≡ Err e)

-- this was read, and that is to come; or it is refused so. Want of memory is free.
abbrev pub IsGot : {A : Type 0} → Result A TextRefusal → Uncut → Parsed A → Type 0
IsGot (Ok x) u r = r ≡ Ok (x, u)
IsGot (Err e) u r = (e ≡ OutOfMemory) ⊎ (r ≡ Err e)

-- the same, of what is seen of the value
abbrev pub IsSeen : {A S : Type 0} → Result A TextRefusal → (A → S) → Uncut → Parsed S → Type 0
IsSeen (Ok x) view u r = r ≡ Ok (view x, u)
IsSeen (Err e) view u r = (e ≡ OutOfMemory) ⊎ (r ≡ Err e)
