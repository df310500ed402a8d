-- Judgements one after another: each of them has one result, a value or a refusal.
use Rattle.std.specs.Prelude.{◌≡◌, ◌⊎◌, ◌||◌, ℕ, Bool, true, false, nat_lt, Result, Ok, Err, if◌then◌else◌}
use Rattle.gmsh_mesh.specs.declared.refusal.GmshRefusal.{GmshRefusal}
use Rattle.gmsh_mesh.specs.declared.refusal.GmshRefusal.TheVariants as refusal

-- what a judgement says of a result
abbrev pub Judgement : Type 0 → Type 1
Judgement A = Result A GmshRefusal → Type 0

-- A judgement, and what comes after it: its refusal ends it, and what it gives goes on.
abbrev pub given : {A B : Type 0} → Judgement A → (A → Judgement B) → Judgement B
given {A} judged rest r = ((e : GmshRefusal) × judged (Err e) × (r ≡ Err e)) ⊎ ((x : A) × judged (Ok x) × rest x r)

-- the line that a refusal tells, or 0
abbrev pub line_of : GmshRefusal → ℕ
line_of (refusal.Text cause) = 0
line_of refusal.NoCells = 0
line_of (refusal.TwoTypes line) = line
line_of (refusal.DuplicateTag line) = line
line_of (refusal.Coordinate line largest) = line
line_of (refusal.NotPlane line) = line
line_of (refusal.UnknownTag line) = line
line_of (refusal.ThirdCell line) = line
line_of (refusal.TwoGroups line) = line
line_of (refusal.Limit size) = 0
line_of (refusal.Bytes size) = 0
line_of refusal.OutOfMemory = 0

-- the refusal with the lower line; of two on one line the first
abbrev pub lower : GmshRefusal → GmshRefusal → GmshRefusal
lower e f = if nat_lt (line_of f) (line_of e) then f else e

-- both values, or the refusal of the lower line
abbrev pub both : {A B : Type 0} → Result A GmshRefusal → Result B GmshRefusal → Result (A × B) GmshRefusal
both (Ok a) (Ok b) = Ok (a, b)
both (Ok a) (Err f) = Err f
both (Err e) (Ok b) = Err e
both (Err e) (Err f) = Err (lower e f)

-- two judgements side by side
abbrev pub Both : {A B : Type 0} → Judgement A → Judgement B → Judgement (A × B)
Both {A} {B} one other r =
    (a : Result A GmshRefusal) × (b : Result B GmshRefusal) × one a × other b × (r ≡ both a b)

-- want of memory
abbrev pub is_lost : GmshRefusal → Bool
is_lost refusal.OutOfMemory = true
is_lost e = false

-- the same where one may be want of memory, which comes before all
abbrev pub earlier : GmshRefusal → GmshRefusal → GmshRefusal
earlier e f = if is_lost f || nat_lt (line_of f) (line_of e) then f else e

-- both values, or the refusal of the lower line, or want of memory
abbrev pub joined : {A B : Type 0} → Result A GmshRefusal → Result B GmshRefusal → Result (A × B) GmshRefusal
joined (Ok a) (Ok b) = Ok (a, b)
joined (Ok a) (Err f) = Err f
joined (Err e) (Ok b) = Err e
joined (Err e) (Err f) = Err (earlier e f)

-- what a call gives is judged so, as it is seen; want of memory is free
abbrev pub Gives : {M A : Type 0} → Result M GmshRefusal → (M → A) → Judgement A → Type 0
Gives (Ok m) view judged = judged (Ok (view m))
Gives (Err e) view judged = (e ≡ refusal.OutOfMemory) ⊎ judged (Err e)
