-- Reading a partition text: what is awaited, what a token does there, and the first token that may not stand where it does.
use Rattle.std.specs.Prelude.{◌≡◌, ℕ, zero, suc, ◌+◌, ◌-◌, ◌<◌, nat_eq, nat_lt, List, [], ◌∷◌, ◌++◌, length, map, slice_get, slice_set, Option, Some, None, Result, Ok, Err, codes, if◌then◌else◌}
use Rattle.std.specs.Str.{bytes_eq}
use Rattle.op_num.specs.Spelling.{number_of}
use Rattle.op_num.specs.Cut.{Word, Uncut, words, text_of}
use Rattle.op_num.specs.Automaton
use Rattle.op_num.specs.Automaton.{onto, RefusesAmong}
use Rattle.mesh_decl.specs.Mesh.{MeshValue, set_count, set_size, set_name}
use Rattle.partition.specs.declared.part_text.refusals.PartRefusal.{PartRefusal}
use Rattle.partition.specs.declared.part_text.refusals.PartRefusal.TheVariants.{Header, Syntax, UnknownSet, MissingSet, WrongCount, RankRange}
use Rattle.partition.specs.declared.part_text.token.Keyword.{Keyword}
use Rattle.partition.specs.declared.part_text.token.Keyword.TheVariants as keyword
use Rattle.partition.specs.Token.{is_magic, is_version, keyword_of}
use Rattle.partition.specs.Spelling.{Table, no_ranks, IsNamed, AreRanks, ArePart, Spells}

-- What is awaited behind the sets that have their ranks so far: the two tokens of the header, a set or `done`, the name of a set,
-- its size, some more ranks of a set that has the last of these so far, the end.
pub data State : Type 0 where
  Magic : State
  Version : State
  Between : Table → State
  SetName : Table → State
  Count : Table → ℕ → State
  Ranks : Table → ℕ → ℕ → List ℕ → State
  End : List (List ℕ) → State

-- the last of the sets below n that has this name
abbrev pub set_below : MeshValue → List ℕ → ℕ → Option ℕ
set_below g name zero = None
set_below g name (suc n) = if bytes_eq (set_name g n) name then Some n else set_below g name n

-- the last set of this name
unfoldable pub set_of : MeshValue → List ℕ → Option ℕ
set_of g name = set_below g name (set_count g)

-- the next state, or why a token is refused
abbrev pub Stepped : Type 0
Stepped = Result State PartRefusal

-- behind some ranks of a set of which more are awaited, or none
abbrev pub filled : Table → ℕ → ℕ → List ℕ → State
filled t k left rs = if nat_eq left 0 then Between (slice_set t k (Some rs)) else Ranks t k left rs

-- the ranks of every set, or the refusal of a `done` on this line
unfoldable pub gathered : ℕ → Table → Result (List (List ℕ)) PartRefusal
gathered line [] = Ok []
gathered line (None ∷ t) = Err (MissingSet line)
gathered line (Some rs ∷ t) = onto (gathered line t) (λ owners. rs ∷ owners)

-- a token that is neither `set` nor `done`: digits are a rank too many
abbrev pub stray : Option ℕ → ℕ → PartRefusal
stray None line = Syntax line
stray (Some n) line = WrongCount line

-- behind a token where a set or `done` is awaited
abbrev pub began : Table → Option Keyword → Option ℕ → ℕ → Stepped
began t (Some keyword.Set) number line = Ok (SetName t)
began t (Some keyword.Done) number line = onto (gathered line t) End
began t None number line = Err (stray number line)

-- a set that is named, by the ranks that it has so far
abbrev pub free_set : ℕ → ℕ → Option (Option (List ℕ)) → Result ℕ PartRefusal
free_set k line None = Err (UnknownSet line)
free_set k line (Some None) = Ok k
free_set k line (Some (Some rs)) = Err (Syntax line)

-- a set of the mesh that has no ranks
unfoldable pub named : Table → Option ℕ → ℕ → Result ℕ PartRefusal
named t None line = Err (UnknownSet line)
named t (Some k) line = free_set k line (slice_get t k)

-- the size of the set, in digits
unfoldable pub sized : ℕ → Option ℕ → ℕ → Result ℕ PartRefusal
sized size None line = Err (Syntax line)
sized size (Some n) line = if nat_eq n size then Ok n else Err (WrongCount line)

-- a rank, in digits
unfoldable pub ranked : ℕ → Option ℕ → ℕ → Result ℕ PartRefusal
ranked ranks None line = Err (WrongCount line)
ranked ranks (Some r) line = if nat_lt r ranks then Ok r else Err (RankRange line)

module _ (g : MeshValue) (ranks : ℕ) where
  -- what is awaited behind a token, or why it may not stand where it does
  unfoldable pub step : State → Word → Stepped
  step Magic w = if is_magic w.text then Ok Version else Err (Header w.line)
  step Version w = if is_version w.text then Ok (Between (no_ranks g)) else Err (Header w.line)
  step (Between t) w = began t (keyword_of w.text) (number_of w.text) w.line
  step (SetName t) w = onto (named t (set_of g w.text) w.line) (Count t)
  step (Count t k) w = onto (sized (set_size g k) (number_of w.text) w.line) (λ n. filled t k n [])
  step (Ranks t k left rs) w = onto (ranked ranks (number_of w.text) w.line) (λ r. filled t k (left - 1) (rs ++ r ∷ []))
  step (End owners) w = Err (Syntax w.line)

-- what reading a whole text gives, the ranks of every set or why it is refused
abbrev pub Read : Type 0
Read = Result (List (List ℕ)) PartRefusal

-- no token is left, behind one on this line
abbrev pub finish : State → ℕ → Read
finish Magic line = Err (Header line)
finish Version line = Err (Header line)
finish (Between t) line = Err (Syntax line)
finish (SetName t) line = Err (Syntax line)
finish (Count t k) line = Err (Syntax line)
finish (Ranks t k left rs) line = Err (WrongCount line)
finish (End owners) line = Ok owners

module _ (g : MeshValue) (ranks : ℕ) where
  -- what reading the tokens to come gives, in this state
  abbrev pub run_from : State → Uncut → Read
  run_from p u = Automaton.run_from (step g ranks) finish p u

  -- a set of the mesh that has no ranks, by its name
  abbrev pub IsFree : Table → List ℕ → ℕ → Type 0
  IsFree t name k = IsNamed g name k × (slice_get t k ≡ Some None)

  -- The tokens can stand at the front of a text, and this is awaited behind them.
  abbrev pub Stands : List (List ℕ) → State → Type 0
  Stands ts Magic = ts ≡ []
  Stands ts Version = ts ≡ codes "op2part" ∷ []
  Stands ts (Between t) = ArePart g ranks ts t
  Stands ts (SetName t) = (front : List (List ℕ)) × (ts ≡ front ++ codes "set" ∷ []) × ArePart g ranks front t
  Stands ts (Count t k) = (front : List (List ℕ)) × (name : List ℕ) × (ts ≡ front ++ codes "set" ∷ name ∷ []) × ArePart g ranks front t
      × IsFree t name k
  Stands ts (Ranks t k left rs) = (front : List (List ℕ)) × (name : List ℕ) × (count : List ℕ) × (digits : List (List ℕ))
      × (ts ≡ front ++ codes "set" ∷ name ∷ count ∷ digits) × ArePart g ranks front t × IsFree t name k
      × (number_of count ≡ Some (set_size g k)) × (length rs + left ≡ set_size g k) × (0 < left) × AreRanks ranks digits rs
  Stands ts (End owners) = (front : List (List ℕ)) × (ts ≡ front ++ codes "done" ∷ []) × ArePart g ranks front (map (λ rs. Some rs) owners)

  -- The first token that may not stand where it does, or the end, is refused so.
  abbrev pub Refuses : List ℕ → PartRefusal → Type 0
  Refuses bytes r = RefusesAmong (step g ranks) finish (λ ws p. Stands (map text_of ws) p) (words 1 bytes) r

  -- The text comes to this outcome: owners that it spells, or its first refusal.
  abbrev pub Reads : List ℕ → Read → Type 0
  Reads bytes (Ok owners) = Spells g ranks bytes owners
  Reads bytes (Err r) = Refuses bytes r
