-- What is wrong with a statement, and which of it counts: the least place, and there the lowest number.
use Rattle.std.specs.Prelude.{◌≡◌, ◌⊎◌, ℕ, slice_index_or, Bool, true, false, ◌&&◌, ◌||◌, List, [], ◌∷◌, ◌++◌, All, Option, Some, None, Result, Ok, Err, nat_lt, nat_eq, if◌then◌else◌, IfSome, IfNone}
use Rattle.c_tree.specs.declared.lexer.tokens.Pos.{Pos}
use Rattle.bound_program.specs.declared.refusals.refusals.BindRefusal.{BindRefusal}
use Rattle.bound_program.specs.declared.refusals.refusals.BindRefusal.TheVariants.{UnknownSet, UnknownMap, UnknownDat, UnknownKernel, ArgCount, DimMismatch, TypeMismatch, SetMismatch, IndexRange, MapTarget, GlobalTwice, ReservedAccess, ControlNotStatic, TraceTooLong, Limit, DeclarationPlace, UnknownEntry, OutOfMemory}
use Rattle.bound_program.specs.declared.refusals.refusals.Counted.{Counted}
use Rattle.bound_program.specs.declared.refusals.founds.Turn.{Turn}
use Rattle.bound_program.specs.declared.refusals.founds.Turn.TheVariants.{InOrder, SizeValue, MeshCells}
use Rattle.bound_program.specs.declared.refusals.founds.Found.{Found}

-- when in its statement something is judged: in the order of its tokens, then a set's size, then the cells of the mesh
abbrev pub turn_number : Turn → ℕ
turn_number InOrder = 0
turn_number SizeValue = 1
turn_number MeshCells = 2

-- the number of a refusal
abbrev pub number_of : BindRefusal → ℕ
number_of (UnknownSet at) = 1
number_of (UnknownMap at) = 2
number_of (UnknownDat at) = 3
number_of (UnknownKernel at) = 4
number_of (ArgCount at) = 5
number_of (DimMismatch at) = 6
number_of (TypeMismatch at) = 7
number_of (SetMismatch at) = 8
number_of (IndexRange at) = 9
number_of (MapTarget at m e p) = 10
number_of (GlobalTwice at) = 11
number_of (ReservedAccess at) = 12
number_of (ControlNotStatic at) = 13
number_of TraceTooLong = 14
number_of (Limit c n) = 15
number_of (DeclarationPlace at) = 16
number_of (UnknownEntry at) = 17
number_of OutOfMemory = 18

-- g counts before f: by turn, then by token, then by number
abbrev pub is_before : Found → Found → Bool
is_before g f =
    nat_lt (turn_number g.turn) (turn_number f.turn)
    || (nat_eq (turn_number g.turn) (turn_number f.turn)
    && (nat_lt g.token f.token || (nat_eq g.token f.token && nat_lt (number_of g.refusal) (number_of f.refusal))))

-- f is the first of what is wrong: nothing counts before it, and it counts before all that is listed before it
pub record IsFirst (all : List Found) (f : Found) : Type 0 where
  pub earlier : List Found
  pub later : List Found
  pub whole : all ≡ earlier ++ f ∷ later
  pub before : All (λ g. is_before f g ≡ true) earlier
  pub after : All (λ g. is_before g f ≡ false) later

-- the first of those so far, unless this one counts before it
abbrev pub earlier : Option Found → Found → Option Found
earlier None g = Some g
earlier (Some f) g = if is_before g f then Some g else Some f

-- the first of those so far and of these
abbrev pub least_from : Option Found → List Found → Option Found
least_from f [] = f
least_from f (g ∷ gs) = least_from (earlier f g) gs

-- the first of what is wrong, where anything is
abbrev pub first_of : List Found → Option Found
first_of all = least_from None all

-- something is wrong exactly where one is answered, and that one is the first
abbrev pub AnswersFirst : Type 0
AnswersFirst = (all : List Found) → IfSome (first_of all) (IsFirst all) × IfNone (first_of all) (all ≡ [])

-- there is one first alone
abbrev pub OneFirst : Type 0
OneFirst = (all : List Found) (f g : Found) → IsFirst all f → IsFirst all g → f ≡ g

-- ---- judgements

-- what a judgement gives, or its refusal
abbrev pub Judged : Type 0 → Type 0
Judged A = Result A BindRefusal

infixl 10 ◌>>=◌
-- goes on with what was judged, unless it was refused
abbrev pub ◌>>=◌ : {A B : Type 0} → Judged A → (A → Judged B) → Judged B
(Ok x) >>= f = f x
(Err r) >>= f = Err r

-- x, where nothing is wrong
abbrev pub unless : {A : Type 0} → Option Found → A → Judged A
unless None x = Ok x
unless (Some f) x = Err f.refusal

-- x, where nothing is found, and else the first of what is
abbrev pub unless_found : {A : Type 0} → List Found → A → Judged A
unless_found all x = unless (first_of all) x

-- nothing is refused where nothing was found
abbrev pub refusal_of_first : Option Found → Judged (Unit {0})
refusal_of_first f = unless f tt

-- ---- answers

-- what a function answered is the judgement, unless memory ran out
abbrev pub JudgesBy : {X A : Type 0} → (X → A) → Result X BindRefusal → Judged A → Type 0
JudgesBy view (Ok x) j = j ≡ Ok (view x)
JudgesBy view (Err e) j = (e ≡ OutOfMemory) ⊎ (j ≡ Err e)

-- what a function answered is the judgement, unless memory ran out; what was judged is left behind
abbrev pub Judges : {X A : Type 0} → Result X BindRefusal → A → Judged A → Type 0
Judges (Ok x) a j = j ≡ Ok a
Judges (Err e) a j = (e ≡ OutOfMemory) ⊎ (j ≡ Err e)

-- ---- what is found

-- this, in its turn, at the token, where the test holds
abbrev pub found_in : Turn → Bool → ℕ → BindRefusal → List Found
found_in turn false t r = []
found_in turn true t r = (record { turn = turn; token = t; refusal = r }) ∷ []

-- a size above its limit, at the token
abbrev pub found_over : Turn → ℕ → ℕ → ℕ → Counted → List Found
found_over turn limit size t c = found_in turn (nat_lt limit size) t (Limit c size)

-- the place of a token, by the places of all
abbrev pub place : List Pos → ℕ → Pos
place places n = slice_index_or places n (record { line = 1; column = 1 })

module _ (places : List Pos) where
  -- this, at the token, where the test holds
  abbrev pub found_if : Bool → ℕ → (Pos → BindRefusal) → List Found
  found_if test t r = found_in InOrder test t (r (place places t))
